-- The wrapped pieces as a schedule: it is feasible and best, its cost is the least end, and it lies within the bounds.
use Rattle.std.proofs.Common.{◌≡◌, ℕ, ◌*◌, ◌≤◌, ◌⊎◌, inl, inr, max, Bool, leb, List, length, get_or, ℤ, pos, nat_abs, ◌*ℤ◌, ◌≤ℤ◌, refl, sym, subst, arith}
use Rattle.std.proofs.lemmas.Int.{ints}
use Rattle.std.proofs.Math.Nat.{mul-le-mul_left}
use Rattle.msp_class.specs.declared.sizes.TheConstants.{MOST_JOBS, GREATEST}
use Rattle.msp_class.proofs.IntegerRing.{≤ℤ_antisym, *ℤ_comm, *ℤ-cancel}
use Rattle.msp_instance.specs.declared.Instance.{Instance}
use Rattle.msp_instance.specs.Instance.{no_job}
use Rattle.msp_instance.specs.Conditions.{Inner}
use Rattle.msp_pieces.specs.declared.Piece.{Piece}
use Rattle.msp_pieces.specs.declared.Schedule.{Schedule}
use Rattle.msp_pieces.specs.declared.Frac.{Frac}
use Rattle.msp_pieces.specs.Piece.{start}
use Rattle.msp_pieces.specs.Feasible.{Feasible}
use Rattle.msp_pieces.specs.Cost.{cost_of}
use Rattle.msp_pieces.specs.Fraction.{IsOver}
use Rattle.msp_pieces.proofs.feasible.BackToBack.{ordered_without_arcs}
use Rattle.msp_pieces.proofs.bounds.Groups.{job_is_over, jobs_are_over}
use Rattle.msp_pieces.proofs.costs.Makespan.{ends_by_whole_cost, cost_by_ends, cost_above}
use Rattle.msp_route.specs.Bounds.{IsBestAnswer, answer_unit}
use Rattle.msp_route.proofs.Owed.{timed_answer}
use Rattle.msp_route.proofs.Laid.{AreLaid, at_zero, cut_is_feasible}
use Rattle.msp_wrap.specs.Wrap.{wrap_class, longest_time, total_time, least_end, IsWrapCost}
use Rattle.msp_wrap.specs.Laying.{IsWrapped, IsWhollyWrapped}
use Rattle.msp_wrap.proofs.Facts.{IsWrapInstance, IsWrapInstance-from_class, longest_time-reached, total_time-is, least_end-short}

-- ---- lower: each feasible schedule
pub wrap_bound : (i : Instance) → IsWrapInstance i → (s : Schedule) → Feasible i s → (pos (least_end i) *ℤ s.unit) ≤ℤ (cost_of i s *ℤ pos i.machines)
wrap_bound i h s f = cost_above i h.crit s h.some i.machines (least_end i) f.unit (by (i.machines * longest_time i) (total_time i) by_longest by_total)
  where
    c : ℕ
    c = nat_abs (cost_of i s)

    unit : ℕ
    unit = nat_abs s.unit

    by_longest : unit * (i.machines * longest_time i) ≤ i.machines * c
    by_longest =
        let (j, l, e) = longest_time-reached i h in
        let over : unit * longest_time i ≤ c = subst (λ t. unit * t ≤ c) e (job_is_over i h.kind s f c (ends_by_whole_cost i h.crit s h.some) j l) in
        omega (arith, mul-le-mul_left i.machines over)

    by_total : unit * total_time i ≤ i.machines * c
    by_total = subst (λ t. unit * t ≤ i.machines * c) (sym (total_time-is i h)) (jobs_are_over i h.kind s f c (ends_by_whole_cost i h.crit s h.some))

    by : (x y : ℕ) → unit * x ≤ i.machines * c → unit * y ≤ i.machines * c → unit * max x y ≤ i.machines * c
    by x y p q = elim (either x y) [ inl e ↦ subst (λ n. unit * n ≤ i.machines * c) (sym e) p | inr e ↦ subst (λ n. unit * n ≤ i.machines * c) (sym e) q ]
      where
        either : (x y : ℕ) → (max x y ≡ x) ⊎ (max x y ≡ y)
        either x y = by_test (leb y x) refl
          where
            by_test : (b : Bool) → leb y x ≡ b → (max x y ≡ x) ⊎ (max x y ≡ y)
            by_test b e = grind arith

abbrev pub wrap_schedule : Instance → List Piece → Schedule
wrap_schedule i ps = record { unit = pos i.machines; pieces = ps }

module _ (i : Instance) (h : IsWrapInstance i) (end q o : ℕ) (ps : List Piece) (is : end ≡ least_end i) (w : IsWrapped i end (length i.jobs) q o ps) where
  abbrev s : Schedule
  s = wrap_schedule i ps

  laid : AreLaid i i.machines ps
  laid = record {
    some = h.machine;
    timed = w.laid.timed;
    jobs = w.jobs_before;
    ops = λ k d l. (w.laid.place k d l).0;
    inside = λ k d l. (w.laid.place k d l).1;
    machines = w.laid.apart;
    apart = w.apart;
    released = λ k d l. at_zero i.machines _ (start (get_or ps k d)) (h.jobs (get_or ps k d).job no_job (w.jobs_before k d l)).release;
    arcs = ordered_without_arcs i.arcs ps h.arcs;
  }

  is_feasible : Feasible i s
  is_feasible = cut_is_feasible i i.machines ps h.kind h.cut laid w.work

  upper : cost_of i s ≤ℤ pos (least_end i)
  upper = cost_by_ends i h.crit s h.some (pos (least_end i)) (omega (arith, ints)) (λ k d l. let t = w.laid.timed k d l in omega (arith, ints, t.to, w.laid.ends k d l, is))

  pub wrap_cost : cost_of i s ≡ pos (least_end i)
  wrap_cost = ≤ℤ_antisym upper (*ℤ-cancel i.machines (omega (arith, h.machine)) (turned (pos (least_end i)) (cost_of i s) (pos i.machines) (wrap_bound i h s is_feasible)))
    where
      turned : (x y z : ℤ) → (x *ℤ z) ≤ℤ (y *ℤ z) → (z *ℤ x) ≤ℤ (z *ℤ y)
      turned x y z l = subst (λ u. u ≤ℤ (z *ℤ y)) (*ℤ_comm x z) (subst (λ u. (x *ℤ z) ≤ℤ u) (*ℤ_comm y z) l)

  pub wrap_answer : IsBestAnswer i s
  wrap_answer = record {
    best = record { feasible = is_feasible; least = λ t f. subst (λ x. (x *ℤ t.unit) ≤ℤ (cost_of i t *ℤ pos i.machines)) (sym wrap_cost) (wrap_bound i h t f) };
    answer = timed_answer i s (MOST_JOBS * GREATEST) (subst (λ k. pos i.machines ≤ℤ answer_unit k) (sym h.kind) (omega (arith, ints, h.machines)))
        (omega (arith, w.few, h.few)) w.laid.timed (λ k d l. omega (arith, w.laid.ends k d l, is, least_end-short i h)) (omega (arith, ints));
  }

-- ---- as the code has it
pub IsBestAnswer-wrap : (i : Instance) → i.class ≡ wrap_class → Inner i → (end : ℕ) (unit : ℤ) (ps : List Piece)
    → end ≡ least_end i → unit ≡ pos i.machines → IsWhollyWrapped i end ps → IsBestAnswer i (record { unit = unit; pieces = ps })
IsBestAnswer-wrap i class inner end unit ps is e w =
    subst (λ u. IsBestAnswer i (record { unit = u; pieces = ps })) (sym e) (wrap_answer i (IsWrapInstance-from_class i class inner) end w.0 w.1 ps is w.2)

pub IsWrapCost-read : (i : Instance) → i.class ≡ wrap_class → Inner i → (end : ℕ) (unit : ℤ) (ps : List Piece) → end ≡ least_end i
    → unit ≡ pos i.machines → IsWhollyWrapped i end ps → (cost : Frac) → IsOver cost (cost_of i (record { unit = unit; pieces = ps })) unit → IsWrapCost i cost
IsWrapCost-read i class inner end unit ps is e w cost over =
    subst (λ x. IsOver cost x (pos i.machines)) (wrap_cost i (IsWrapInstance-from_class i class inner) end w.0 w.1 ps is w.2)
    (subst (λ u. IsOver cost (cost_of i (record { unit = u; pieces = ps })) u) e over)
