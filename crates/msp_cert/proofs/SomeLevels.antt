-- The jobs of an instance of its class have levels: whether a path of so many arcs leads out of a job can be tested, and the greatest such
-- number is its level.
use Rattle.std.proofs.Common.{◌≡◌, ℕ, zero, suc, ◌<◌, ◌≤◌, ◌&&◌, inl, inr, Bool, true, List, length, map, refl, sym, ap, ap₂, subst, ◌∙◌, arith}
use Rattle.std.specs.Prelude.{◌==◌}
use Rattle.std.specs.List.{list_any, range_with_len}
use Rattle.std.proofs.lemmas.Bool.{cases_Bool, cases_lt, and_parts, eqb-true, eq-eqb, false≢true}
use Rattle.std.proofs.lemmas.List.Folds.{Any-from_list_any, list_any-from_Any}
use Rattle.std.proofs.lemmas.List.FromFn.{length-map-range_with_len, get_or-map-range_with_len}
use Rattle.msp_instance.specs.declared.Arc.{Arc}
use Rattle.msp_instance.specs.declared.Instance.{Instance}
use Rattle.msp_instance.specs.Conditions.{InClass}
use Rattle.msp_instance.specs.Paths.{HasStep}
use Rattle.msp_pieces.specs.Levels.{LeadsOut, IsLevel}
use Rattle.msp_cert.specs.Search.{AreAllLevels}
use Rattle.msp_cert.proofs.Tails.{few_arcs}

abbrev leads_out : List Arc → ℕ → ℕ → Bool
leads_out arcs zero j = true
leads_out arcs (suc n) j = list_any (λ (a : Arc). (a.before == j) && leads_out arcs n a.after) arcs

out_there : (arcs : List Arc) (n j : ℕ) → leads_out arcs n j ≡ true → LeadsOut arcs n j
out_there arcs zero j h = tt
out_there arcs (suc n) j h =
    let (k, a, l, at, both) = Any-from_list_any (λ (a : Arc). (a.before == j) && leads_out arcs n a.after) arcs h in
    let (here, rest) = and_parts (a.before == j) (leads_out arcs n a.after) both in
    (a.after, subst (λ x. HasStep arcs x a.after) (eqb-true a.before j here) (k, l, at), out_there arcs n a.after rest)

out_back : (arcs : List Arc) (n j : ℕ) → LeadsOut arcs n j → leads_out arcs n j ≡ true
out_back arcs zero j out = refl
out_back arcs (suc n) j (k, (p, l, at), rest) = list_any-from_Any (λ (a : Arc). (a.before == j) && leads_out arcs n a.after)
    arcs (p, record { before = j; after = k }, l, at, ap₂ ◌&&◌ (eq-eqb j j refl) (out_back arcs n k rest))

-- the greatest number up to a bound that passes a test
deepest : (test : ℕ → Bool) → test 0 ≡ true → (b : ℕ) → (m : ℕ) × (test m ≡ true) × ((n : ℕ) → n ≤ b → test n ≡ true → n ≤ m)
deepest test first zero = (0, first, λ n l h. l)
deepest test first (suc b) = elim (cases_Bool (test (suc b))) [
  | inl is ↦ (suc b, is, λ n l h. l)
  | inr isnt ↦
      let (m, is, most) = deepest test first b in
      let never = λ (n : ℕ) (e : suc b ≡ n) (h : test n ≡ true). false≢true (sym isnt ∙ ap test e ∙ h) in
      (m, is, λ n l h. elim (cases_lt n (suc b)) [ inl less ↦ most n (omega (arith, less)) h | inr more ↦ absurd (never n (omega (arith, l, more)) h) ])
]

level_in : Instance → ℕ → ℕ
level_in i j = (deepest (λ n. leads_out i.arcs n j) refl (length i.jobs)).0

is_level : (i : Instance) → InClass i → (j : ℕ) → j < length i.jobs → IsLevel i.arcs j (level_in i j)
unfolding level_in
is_level i c j l =
    let (m, is, most) = deepest (λ n. leads_out i.arcs n j) refl (length i.jobs) in
    record { path = out_there i.arcs m j is; longest = λ n out. most n (let few = few_arcs i c n j l out in omega (arith, few)) (out_back i.arcs n j out) }

pub some_levels : (i : Instance) → InClass i → (level : List ℕ) × AreAllLevels i level
some_levels i c = (
  map (level_in i) (range_with_len 0 (length i.jobs)),
  record {
    each = length-map-range_with_len (level_in i) 0 (length i.jobs);
    levels = λ j l. subst (IsLevel i.arcs j) (sym (get_or-map-range_with_len (level_in i) 0 (length i.jobs) j j 0 l (omega arith))) (is_level i c j l);
  },
)
