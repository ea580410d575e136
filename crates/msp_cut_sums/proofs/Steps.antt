-- What the loop keeps: the ends from the last place on.
use Rattle.std.proofs.Common.{◌≡◌, ℕ, ◌+◌, ◌*◌, ◌-◌, ◌<◌, ◌≤◌, inl, inr, List, length, All, set, sym, ap, subst, ◌∙◌, arith}
use Rattle.std.proofs.lemmas.Bool.{cases_lt}
use Rattle.std.proofs.lemmas.List.{length-set, get_or_past, get_or-set_same, get_or-set_other}
use Rattle.std.proofs.lemmas.List.Elements.{All-set}
use Rattle.msp_class.specs.declared.sizes.TheConstants.{GREATEST}
use Rattle.msp_cut_sums.specs.Sums.{at}

-- the places from n - back on have their ends, of which none is later than so many times the greatest
pub record HaveEnds (m back : ℕ) (times ends : List ℕ) : Type 0 where
  pub many : length ends ≡ length times
  pub each : (k : ℕ) → length times ≤ k + back → k < length times → at ends k ≡ at times k + at ends (k + m)
  pub early : All (λ e. e ≤ back * GREATEST) ends

pub ends_first : (m : ℕ) (times ends : List ℕ) → length ends ≡ length times → All (λ e. e ≡ 0) ends → HaveEnds m 0 times ends
ends_first m times ends many none = record { many = many; each = λ k l b. absurd (omega (arith, l, b)); early = λ k d l. omega (arith, none k d l) }

module _ (m back : ℕ) (times ends : List ℕ) (some : 1 ≤ m) (inside : back < length times) (short : All (λ t. t ≤ GREATEST) times) (h : HaveEnds m back times ends) where
  abbrev place : ℕ
  place = length times - 1 - back

  -- an end and a time are small
  pub end_small : (k : ℕ) → at ends k ≤ back * GREATEST
  end_small k = grind (arith, h.early k 0, get_or_past ends k 0)

  pub ends_next : (new : List ℕ) → new ≡ set ends place (at times place + at ends (place + m)) → HaveEnds m (back + 1) times new
  ends_next new e = subst (HaveEnds m (back + 1) times) (sym e) (record {
    many = length-set ends place value ∙ h.many;
    each = each;
    early = All-set (λ e. e ≤ (back + 1) * GREATEST) ends place value (omega (arith, short place 0 here, end_small (place + m))) (λ k d l. omega (arith, h.early k d l));
  })
    where
      value : ℕ
      value = at times place + at ends (place + m)

      here : place < length times
      here = omega (arith, inside)

      other : (k : ℕ) → place < k → at (set ends place value) k ≡ at ends k
      other k l = get_or-set_other ends place k value 0 (λ e. omega (arith, e, l))

      each : (k : ℕ) → length times ≤ k + (back + 1) → k < length times → at (set ends place value) k ≡ at times k + at (set ends place value) (k + m)
      each k l b = elim (cases_lt place k) [
        | inl o ↦ other k o ∙ h.each k (omega (arith, o, inside)) b ∙ ap (λ x. at times k + x) (sym (other (k + m) (omega (arith, o))))
        | inr o ↦
            let same : k ≡ place = omega (arith, o, l, inside) in
            let next = sym (other (place + m) (omega (arith, some))) in
            rw same (get_or-set_same ends place value 0 (omega (arith, here, h.many)) ∙ ap (λ x. at times place + x) next)
      ]
