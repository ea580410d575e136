-- What each place on the tape can do from its begin to its end stays the same, and what the next job asks for and leaves.
use Rattle.std.proofs.Common.{◌≡◌, ℕ, zero, suc, ◌+◌, ◌*◌, ◌-◌, ◌<◌, ◌≤◌, false, inl, inr, List, [], ◌∷◌, ◌++◌, length, sym, ap, subst, subst₂, ◌∙◌, add-one, arith}
use Rattle.std.proofs.lemmas.List.{length_push, get_or_push, get_or_append_left}
use Rattle.msp_class.specs.Sums.{total_below}
use Rattle.msp_class.proofs.Sums.{sum_by-cons, sum_by-append}
use Rattle.msp_uniform.specs.declared.segments.Segment.{Segment}
use Rattle.msp_uniform.specs.declared.task.Task.{Task}
use Rattle.msp_uniform.specs.Segments.{at, rate_at, amount, AreLaid, AreWorks}
use Rattle.msp_uniform.specs.Plans.{IsTask, IsTaped, DoHold, CanBeLaid, IsLaidHere, IsLaidOver, IsNextTape}
use Rattle.msp_class.proofs.Cases.{less_or_not}
use Rattle.msp_uniform.proofs.TapedFacts.{laid_late, can_here, IsTaped-here}
use Rattle.msp_uniform.proofs.TurnedTape.{over_late, over_early, over_taped, over_held}

-- the works of one place more
pub AreWorks-more : (speed : ℕ → ℕ) (p : ℕ) (xs : List Segment) (works works' : List ℕ) (work : ℕ)
    → AreWorks speed p xs works → works' ≡ works ++ work ∷ [] → work ≡ amount (rate_at speed p) xs → AreWorks speed (p + 1) xs works'
AreWorks-more speed p xs works works' work w e f = subst (AreWorks speed (p + 1) xs) (sym e) (record {
  many = omega (arith, length_push works work, w.many);
  each = λ k l. elim (less_or_not k p) [
    | inl b ↦ get_or_append_left works (work ∷ []) 0 k (omega (arith, w.many, b)) ∙ w.each k b
    | inr b ↦
        let same : p ≡ k = omega (arith, l, b) in
        get_or_push works work 0 k (omega (arith, w.many, same)) ∙ f ∙ ap (λ a. amount (rate_at speed a) xs) same
  ];
})

pub DoHold-start : (speeds holds : List ℕ) (h : ℕ) (late : List Segment) → AreWorks (at speeds) h late holds → DoHold speeds holds (h - 1) [] late
DoHold-start speeds holds h late w = record { many = omega (arith, w.many); each = λ k l. omega (arith, w.each k (omega (arith, l))) }

-- ---- the last place does the next job
pub record CanStay (t : Task) (sp holds : List ℕ) (j unit h work rest : ℕ) (early late : List Segment) : Type 0 where
  pub can : CanBeLaid sp h work late
  pub next : (h' rest' : ℕ) (early' late' : List Segment) → IsLaidHere (at sp) j h work early late early' late' × (h' ≡ h) × (rest' + work ≡ rest)
      → IsNextTape t holds j unit h early late h' rest' early' late'

-- ---- the last place does the rest of what it can, and the place before it more
pub record CanTurn (t : Task) (sp holds : List ℕ) (j unit h rest more : ℕ) (early late : List Segment) : Type 0 where
  pub before : 1 ≤ h
  pub can_late : CanBeLaid sp h rest late
  pub can_early : CanBeLaid sp (h - 1) more early
  pub next : (h' : ℕ) (early' late' : List Segment) → IsLaidOver (at sp) j h rest more early late h' early' late'
      → (h' < length holds) × (more ≤ at holds h') × IsNextTape t holds j unit h early late h' (at holds h' - more) early' late'

module _ (t : Task) (k : IsTask t) (holds : List ℕ) (j : ℕ) (left : List ℕ) (unit : ℕ) where
  abbrev need : ℕ
  need = unit * at t.times.items j

  abbrev done : ℕ → List Segment → ℕ
  done h late = amount (rate_at (at t.speeds.items) h) late

  module _ (h : ℕ) (early late : List Segment) (r : IsTaped t (j ∷ left) unit h early late) (d : DoHold t.speeds.items holds h early late) where
    stays : need ≤ done h late → CanStay t t.speeds.items holds j unit h need (done h late) early late
    stays l = record {
      can = can_here t k j left unit h early late r l;
      next = λ h' rest' early' late' (w, q, e). subst (λ a. IsNextTape t holds j unit h early late a rest' early' late') (sym q) (
          let s = laid_late t k j left unit h early late r need w.firsts late' w.laid in
          record {
            held = subst (λ e. DoHold t.speeds.items holds h e late') (sym w.early_is)
                (record { many = d.many; each = λ i b. omega (arith, d.each i b, s.places i b, sum_by-append (λ y. y.length * rate_at (at t.speeds.items) i y) early w.firsts) });
            left = omega (arith, s.rest, e);
            taped = λ jobs p. IsTaped-here t k j jobs unit h early late p early' late' w;
          }
          );
    }

    pub can_stay : (sp : List ℕ) (work rest : ℕ) → sp ≡ t.speeds.items → work ≡ need → rest ≡ done h late → work ≤ rest → CanStay t sp holds j unit h work rest early late
    can_stay sp work rest e f g l = subst₂ (λ s a. CanStay t s holds j unit h a rest early late)
        (sym e) (sym f) (subst (λ a. CanStay t t.speeds.items holds j unit h need a early late) (sym g) (stays (omega (arith, f, g, l))))

  turns : (h : ℕ) (early late : List Segment) → IsTaped t (j ∷ left) unit h early late → DoHold t.speeds.items holds h early late
      → done h late < need → CanTurn t t.speeds.items holds j unit h (done h late) (need - done h late) early late
  turns zero early late r d l = absurd (omega
      (arith, l, sum_by-cons (λ i. unit * at t.times.items i) j left, r.tape.room, ap (λ a. total_below a (λ i. amount (rate_at (at t.speeds.items) i) late)) (add-one 0)))
  turns (suc g) early late r d l = record {
    before = omega arith;
    can_late = over_late t k j left unit g early late r l;
    can_early = subst (λ a. CanBeLaid t.speeds.items a (need - done (suc g) late) early) (omega arith) (over_early t k j left unit g early late r l);
    next = λ h' early' late' w.
        let same : h' ≡ g = omega (arith, w.place_is) in
        let also = subst (λ a. AreLaid false (at t.speeds.items) j a (need - done (suc g) late) 0 early early' w.seconds) same w.also in
        let held = over_held t k j left unit g early late r l w.firsts w.none w.seconds early' w.laid also holds d in
        subst₂ (λ a ls. (a < length holds) × (need - done (suc g) late ≤ at holds a) × IsNextTape t holds j unit (suc g) early late a (at holds a - (need - done (suc g) late)) early' ls)
        (sym same) (sym w.late_is) (
          held.1,
          omega (arith, held.2),
          record {
            held = held.0;
            left = omega (arith, held.2);
            taped = λ jobs p. over_taped t k j jobs unit g early late p l w.firsts w.none w.seconds early' w.laid also;
          },
        );
  }

  pub can_turn : (h : ℕ) (early late : List Segment) → IsTaped t (j ∷ left) unit h early late → DoHold t.speeds.items holds h early late → (sp : List ℕ) (work rest : ℕ)
      → sp ≡ t.speeds.items → work ≡ need → rest ≡ done h late → rest < work → CanTurn t sp holds j unit h rest (work - rest) early late
  can_turn h early late r d sp work rest e f g l = subst₂ (λ s a. CanTurn t s holds j unit h a (work - a) early late)
      (sym e) (sym g) (subst (λ a. CanTurn t t.speeds.items holds j unit h (done h late) (a - done h late) early late) (sym f) (turns h early late r d (omega (arith, f, g, l))))
