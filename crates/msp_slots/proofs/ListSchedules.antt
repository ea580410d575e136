-- What schedules in the order of a list have: no moment before the last begin is idle, they are feasible, and their pieces are settled.
use Rattle.std.proofs.Common.{◌≡◌, ℕ, zero, suc, ◌+◌, ◌<◌, ◌≤◌, ◌⊎◌, inl, inr, List, length, get_or, pos, ◌<ℤ◌, All, refl, sym, ap, subst, subst₂, ◌∙◌, arith}
use Rattle.std.proofs.lemmas.Bool.{cases_lt}
use Rattle.std.proofs.lemmas.List.Elements.{All-contains}
use Rattle.std.proofs.lemmas.Nat.Gcd.{dvd_antisymm}
use Rattle.std.proofs.Math.Nat.{one-dvd}
use Rattle.msp_class.proofs.IntegerRing.{pos-lt}
use Rattle.msp_class.proofs.Sums.{OnceBelow-from_permutation}
use Rattle.msp_instance.specs.declared.Instance.{Instance}
use Rattle.msp_instance.specs.Instance.{job_at}
use Rattle.msp_pieces.specs.declared.Piece.{Piece}
use Rattle.msp_pieces.specs.Settled.{IsSettled}
use Rattle.msp_pieces.proofs.bounds.Certified.{ranked}
use Rattle.msp_slots.specs.Pieces.{piece_at}
use Rattle.msp_slots.specs.ListSchedule.{RunsInOrder, IsListSchedule}
use Rattle.msp_slots.proofs.Progress.{IsOrdered}
use Rattle.msp_slots.proofs.PieceJobs.{each_job}
use Rattle.msp_slots.proofs.UnitPieces.{HasUnitJobs, IsInUnits, in_units}

-- ---- no moment before a job begins is idle: the first machine runs a job then
module _ (i : Instance) (order : List ℕ) (t : IsOrdered i) (begin machine : ℕ → ℕ) (h : RunsInOrder i order begin machine) where
  abbrev OnFirst : ℕ → Type 0
  OnFirst x = (k : ℕ) × (k < length i.jobs) × (begin k ≡ x) × (machine k ≡ 0)

  first_of : (j : ℕ) → j < length i.jobs → OnFirst (begin j)
  first_of j l = elim (cases_lt 0 (machine j)) [
    | inl some ↦ let (k, b, e, f, g) = h.machines j 0 l some in (k, b, e, f)
    | inr none ↦ (j, l, refl, omega (arith, none))
  ]

  used : (rank : ℕ → ℕ) → All (λ a. rank a.before < rank a.after) i.arcs → (bound j x : ℕ) → rank j < bound → j < length i.jobs → x < begin j → OnFirst x
  used rank rises zero j x r l less = absurd (omega (arith, r))
  used rank rises (suc bound) j x r l less = elim (h.waits j x l less) [
    | inr full ↦ let (k, b, e, f, g) = full 0 t.some in (k, b, e, f)
    | inl (a, c, e, from) ↦
        let inside = All-contains (λ a. (a.before < length i.jobs) × (a.after < length i.jobs)) i.arcs a t.ends c in
        elim (cases_lt x (begin a.before)) [
          | inl more ↦ used rank rises bound a.before x (omega (arith, All-contains (λ a. rank a.before < rank a.after) i.arcs a rises c, ap rank e, r)) inside.0 more
          | inr not_more ↦ let same : begin a.before ≡ x = omega (arith, from, not_more) in subst OnFirst same (first_of a.before inside.0)
        ]
  ]

  pub no_moment_idle : (j x : ℕ) → j < length i.jobs → x ≤ begin j → OnFirst x
  no_moment_idle j x l less = elim (cases_lt x (begin j)) [
    | inl more ↦ let (rank, rises) = ranked i t.acyclic in used rank rises (rank j + 1) j x (omega arith) l more
    | inr last ↦ let same : begin j ≡ x = omega (arith, less, last) in subst OnFirst same (first_of j l)
  ]

-- ---- the pieces
module _ (i : Instance) (order : List ℕ) (pieces : List Piece) (h : IsListSchedule i order pieces) where
  pub begins_soon : (j : ℕ) → j < length i.jobs → h.begin j < length i.jobs
  begins_soon = each_job pieces (OnceBelow-from_permutation h.all) (λ j. h.begin j < length i.jobs) h.soon

  pub list_in_units : HasUnitJobs i → ((j : ℕ) → j < length i.jobs → (job_at i j).release ≡ 0) → IsInUnits i h.begin pieces
  list_in_units u released = in_units i u h.begin h.machine pieces (record {
    jobs = OnceBelow-from_permutation h.all;
    each = h.each;
    inside = h.runs.inside;
    apart = h.runs.apart;
    released = λ j l. omega (arith, released j l);
    forward = h.runs.forward;
    early = λ j l. omega (arith, begins_soon j l, u.few);
  })

  pub list_schedule_is_settled : IsSettled (record { unit = pos 1; pieces = pieces })
  list_schedule_is_settled = record {
    lowest = λ d divides _. dvd_antisymm divides (one-dvd d);
    order = λ a b d l k. by (get_or pieces a d) (get_or pieces b d) (h.each a d (omega (arith, l, k))) (h.each b d k) (h.sorted a b d l k);
  }
    where
      by : (p q : Piece) → p ≡ piece_at (h.begin p.job) (h.machine p.job) p.job → q ≡ piece_at (h.begin q.job) (h.machine q.job) q.job
          → (h.begin p.job < h.begin q.job) ⊎ ((h.begin p.job ≡ h.begin q.job) × (h.machine p.job < h.machine q.job))
          → (p.from <ℤ q.from) ⊎ ((p.from ≡ q.from) × (p.machine ≤ q.machine))
      by p q e f (inl less) = inl (subst₂ (λ x y. x <ℤ y) (sym (ap (λ p. p.from) e)) (sym (ap (λ p. p.from) f)) (pos-lt less))
      by p q e f (inr same) = inr (ap (λ p. p.from) e ∙ ap pos same.0 ∙ sym (ap (λ p. p.from) f), omega (arith, ap (λ p. p.machine) e, ap (λ p. p.machine) f, same.1))
