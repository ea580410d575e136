-- The greatest of the due dates.
use Rattle.std.proofs.Common.{◌≡◌, ℤ, pos, ◌<ℤ◌, Ordering, Less, Equal, Greater, unwrap_or, refl, sym, ap, ◌∙◌, rules, tests}
use Rattle.std.specs.Int.{w64, int_max}
use Rattle.std.specs.Ordering.{MatchOrdering, int_cmp, max_by_ordering}
use Rattle.std.proofs.lemmas.Cmp.{int_ranked}
use Rattle.std.proofs.lemmas.Int.{to_z-of_z}
use Rattle.std.proofs.lemmas.Iterator.Adapters.{option_map_id}
use Rattle.std.proofs.lemmas.Iterator.{YieldsList-from_slice, YieldsList-from_map}
use Rattle.std.proofs.lemmas.Iterator.Consumers.{reduce_by_from_yields_List}
use Rattle.msp_class.proofs.IntegerRing.{int_max-left, int_max-right, <ℤ_weak, ≤ℤ_of_same}
use Rattle.msp_turn.proofs.dates.greatest_due.Goals as goal

abbrev later : ℤ → ℤ → ℤ
later x y = max_by_ordering (int_cmp x y) x y

later_is : (x y : ℤ) → later x y ≡ int_max x y
later_is x y = by (int_cmp x y) (int_ranked x y (int_cmp x y) refl)
  where
    by : (o : Ordering) → MatchOrdering o (x <ℤ y) (x ≡ y) (y <ℤ x) → max_by_ordering o x y ≡ int_max x y
    by Less h = sym (int_max-right x y (<ℤ_weak h))
    by Equal h = sym (int_max-right x y (≤ℤ_of_same h))
    by Greater h = sym (int_max-left x y (<ℤ_weak h))

pub returns : goal.returns
returns c =
    to_z-of_z w64 c.unwrap_or.result (search rules) ∙ c.unwrap_or.ensures
    ∙ ap (λ o. unwrap_or o (pos 0)) (sym (option_map_id c.max.result) ∙ reduce_by_from_yields_List {v = λ x. x} later int_max c.map.result c.max.result later_is c.max.ensures.ran
    (YieldsList-from_map _ (λ j. j.due) (YieldsList-from_slice c.args.jobs.now cc) c.map.ensures.closure (λ x b q k. search (rules, tests))))
