-- Due slots for a bound, found by halving.
use Rattle.std.proofs.Common.{◌≡◌, ℕ, ◌+◌, ◌*◌, ◌-◌, ◌/◌, ◌<◌, ◌≤◌, inl, inr, Bool, true, false, ℤ, List, [], ◌∷◌, ◌++◌, length, get_or, pos, ◌≤ℤ◌, ◌<ℤ◌, All, refl, sym, ap, subst, ◌∙◌, arith, below_more}
use Rattle.std.specs.Prelude.{◌↔◌, IsTrue, if◌then◌else◌}
use Rattle.std.proofs.lemmas.Bool.{false≢true}
use Rattle.std.proofs.lemmas.Int.{ints}
use Rattle.std.proofs.lemmas.List.{get_or_append_left, get_or_push, get_or_default}
use Rattle.std.proofs.Math.Nat.{mul-le-mul_left}
use Rattle.msp_class.proofs.IntegerRing.{pos-le, ≤ℤ_trans, ≤ℤ_total}
use Rattle.msp_instance.specs.declared.Instance.{Instance}
use Rattle.msp_instance.specs.Instance.{job_at, common_time}
use Rattle.msp_pieces.proofs.costs.Charges.{job_cost-mono}
use Rattle.msp_due.specs.declared.due_slot.Between.{Between}
use Rattle.msp_due.specs.Steps.{cost_in, IsDueSlot, AreDueSlots, IsBetween}

-- later slots cost no less
pub cost_in-mono : (i : Instance) (j c d : ℕ) → c ≤ d → cost_in i j c ≤ℤ cost_in i j d
cost_in-mono i j c d h = job_cost-mono i.class.crit (pos 1) (job_at i j) (pos (common_time i * c)) (pos (common_time i * d)) (omega (arith, ints)) (pos-le (mul-le-mul_left (common_time i) h))

pub IsBetween-start : (i : Instance) (bound : ℤ) (j most : ℕ) → most ≡ length i.jobs + 1 → IsBetween i bound j (record { met = 0; beyond = most })
IsBetween-start i bound j most e = record {
  met = λ c some few. absurd (omega (arith, some, few));
  beyond = λ c from l. absurd (omega (arith, e, from, l));
  apart = omega (arith, e);
  inside = omega (arith, e);
}

pub middle_between : (a b : ℕ) → a + 1 < b → (a < a + (b - a) / 2) × (a + (b - a) / 2 < b)
middle_between a b h = (omega (arith, h), omega (arith, h))

module _ (i : Instance) (bound : ℤ) (j : ℕ) (b new : Between) (middle : ℕ) (h : IsBetween i bound j b) (low : b.met < middle) (high : middle < b.beyond) where
  pub IsBetween-halved : (is : Bool) → IsTrue is ↔ (cost_in i j middle ≤ℤ bound) → new.met ≡ (if is then middle else b.met) → new.beyond ≡ (if is then b.beyond else middle) → IsBetween i bound j new
  IsBetween-halved true m e f = record {
    met = λ c some few. ≤ℤ_trans (cost_in-mono i j c middle (omega (arith, few, e))) (m.0 refl);
    beyond = λ c from l. h.beyond c (omega (arith, from, f)) l;
    apart = omega (arith, e, f, high);
    inside = omega (arith, f, h.inside);
  }
  IsBetween-halved false m e f = record {
    met = λ c some few. h.met c some (omega (arith, few, e));
    beyond = λ c from l. over c (cost_in-mono i j middle c (omega (arith, from, f)));
    apart = omega (arith, e, f, low);
    inside = omega (arith, f, high, h.inside);
  }
    where
      over : (c : ℕ) → cost_in i j middle ≤ℤ cost_in i j c → bound <ℤ cost_in i j c
      over c k = elim (≤ℤ_total (cost_in i j middle) bound) [
        | inl least ↦ absurd (false≢true (m.1 least))
        | inr less ↦ omega (arith, ints, less, k)
      ]

  pub halved_shorter : (is : Bool) → new.met ≡ (if is then middle else b.met) → new.beyond ≡ (if is then b.beyond else middle) → new.beyond - new.met < b.beyond - b.met
  halved_shorter true e f = omega (arith, e, f, low, high)
  halved_shorter false e f = omega (arith, e, f, low, high)

pub IsBetween-end : (i : Instance) (bound : ℤ) (j : ℕ) (b : Between) → b.beyond ≤ b.met + 1 → IsBetween i bound j b → IsDueSlot i bound j b.met
IsBetween-end i bound j b l h = record {
  most = omega (arith, h.apart, h.inside);
  met = h.met;
  beyond = λ c from few. h.beyond c (omega (arith, from, l)) few;
}

pub AreDueSlots-none : (i : Instance) (bound : ℤ) (slots : List ℕ) → AreDueSlots i bound 0 slots
AreDueSlots-none i bound slots j l = absurd (omega (arith, l))

pub AreDueSlots-next : (i : Instance) (bound : ℤ) (k : ℕ) (slots new : List ℕ) (slot : ℕ)
    → new ≡ slots ++ slot ∷ [] → length slots ≡ k → IsDueSlot i bound k slot → AreDueSlots i bound k slots → AreDueSlots i bound (k + 1) new
AreDueSlots-next i bound k slots new slot e len is h = below_more (λ j. IsDueSlot i bound j (get_or new j 0)) k
    (λ j l. subst (IsDueSlot i bound j) (sym (ap (λ xs. get_or xs j 0) e ∙ get_or_append_left slots (slot ∷ []) 0 j (omega (arith, l, len)))) (h j l))
    (subst (IsDueSlot i bound k) (sym (ap (λ xs. get_or xs k 0) e ∙ get_or_push slots slot 0 k len)) is)

pub due_small : (i : Instance) (bound : ℤ) (slots moved : List ℕ) → moved ≡ slots → length slots ≡ length i.jobs → AreDueSlots i bound (length i.jobs) slots → All (λ s. s ≤ length i.jobs) moved
due_small i bound slots moved e whole h = subst (All (λ s. s ≤ length i.jobs)) (sym e) (λ k d l. omega (arith, get_or_default slots k d 0 l, (h k (omega (arith, l, whole))).most))
