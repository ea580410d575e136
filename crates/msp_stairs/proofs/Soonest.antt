-- The schedule for the least limits: some forced lateness is its cost, so it is a best one; and none that costs no more ends a whole part
-- sooner.
use Rattle.std.proofs.Common.{◌≡◌, ℕ, ◌<◌, inl, inr, List, length, ℤ, pos, ◌-ℤ◌, ◌*ℤ◌, ◌≤ℤ◌, neg_ℤ}
use Rattle.std.proofs.Common.{AllPairs, IsPermutation, refl, sym, ap, subst, subst₂, ◌∙◌, arith}
use Rattle.std.specs.Prelude.{Option, Some, None, MatchOption}
use Rattle.std.specs.List.{range_with_len}
use Rattle.std.proofs.lemmas.Int.{ints}
use Rattle.msp_class.proofs.IntegerRing.{≤ℤ_trans, ≤ℤ_refl, ≤ℤ_total, ≤ℤ_antisym, *ℤ_comm, *ℤ-cancel, *ℤ-sub, +ℤ_mono}
use Rattle.msp_class.proofs.IntegerRing.{*ℤ-one, *ℤ_exchange, *ℤ-mono_nonneg}
use Rattle.msp_instance.specs.declared.Instance.{Instance}
use Rattle.msp_instance.specs.Instance.{job_at}
use Rattle.msp_instance.specs.Conditions.{Inner}
use Rattle.msp_pieces.specs.declared.Piece.{Piece}
use Rattle.msp_pieces.specs.declared.Schedule.{Schedule}
use Rattle.msp_pieces.specs.Feasible.{Feasible}
use Rattle.msp_pieces.specs.Cost.{cost_of, Best}
use Rattle.msp_pieces.proofs.lists.DateOrder.{dates_rise}
use Rattle.msp_route.specs.Bounds.{IsAnswer}
use Rattle.msp_route.specs.Dates.{IsDueBefore}
use Rattle.msp_route.specs.Halving.{IsLeastBound}
use Rattle.msp_stairs.specs.declared.climb.Limits.{Limits}
use Rattle.msp_stairs.specs.Stairs.{stairs_class, makespan, IsForced, HasTwoPiecesAtMost, EndsSoonest}
use Rattle.msp_stairs.specs.Bounds.{CanEnd, AreLeast, AreByDate, IsReady}
use Rattle.msp_stairs.specs.Steps.{IsClimbed, IsTooLate}
use Rattle.msp_stairs.proofs.Forced.{forced_bounds}
use Rattle.msp_stairs.proofs.Schedules.{stairs_schedule, is_feasible, at_most_bound, ends_by, is_answer, cut_once}
use Rattle.msp_stairs.proofs.Tasks.{held, count_kept}
use Rattle.msp_stairs.proofs.Bounds.{h, CanLay-ready, all_forced, reached, not_ended, bound_kept}

-- what is claimed of the answer, whose cost is the one number over the other
pub record IsSolved (i : Instance) (s : Schedule) (num den : ℤ) : Type 0 where
  pub best : Best i s
  pub over : (num *ℤ s.unit) ≡ (cost_of i s *ℤ den)
  pub answer : IsAnswer i s
  pub cuts : HasTwoPiecesAtMost s
  pub ends : EndsSoonest i s
  pub cost : (x : ℤ) × IsForced i x × ((y : ℤ) → IsForced i y → y ≤ℤ x) × ((num *ℤ pos i.machines) ≡ (x *ℤ den))

pub IsReady-shown : (i : Instance) (order shown : List ℕ) → i.class ≡ stairs_class
    → Inner i → IsPermutation (range_with_len 0 (length i.jobs)) order → AllPairs (IsDueBefore i) order → shown ≡ order → IsReady i shown
IsReady-shown i order shown class inner all sorted e =
    record { inner = inner; class = class; by_date = subst (AreByDate i) (sym e) (record { all = all; rising = dates_rise (λ a b. a < b) (λ j. (job_at i j).due) order sorted }) }

-- ---- the least limits
ended : (Q : ℤ → Type 0) (x : Option ℤ) → MatchOption x ⊥ Q → (end : ℤ) × (x ≡ Some end) × Q end
ended Q None h = absurd h
ended Q (Some end) h = (end, refl, h)

-- m ends of a schedule that ends a part sooner
sooner : (m : ℕ) (u x e end : ℤ) → 0 < m → pos 1 ≤ℤ u → e ≤ℤ end
    → ((pos m *ℤ x) *ℤ pos m) ≤ℤ (u *ℤ ((pos m *ℤ e) -ℤ pos m)) → (pos m *ℤ x) ≤ℤ ((end -ℤ pos 1) *ℤ u)
sooner m u x e end some unit within l = ≤ℤ_trans (*ℤ-cancel m some (subst₂ (λ a b. a ≤ℤ b) (*ℤ_comm (pos m *ℤ x) (pos m)) turned l))
    (subst (λ y. (u *ℤ (e -ℤ pos 1)) ≤ℤ y) (*ℤ_comm u (end -ℤ pos 1)) (*ℤ-mono_nonneg u (omega (arith, ints, unit)) (+ℤ_mono within (≤ℤ_refl (neg_ℤ (pos 1))))))
  where
    turned : u *ℤ ((pos m *ℤ e) -ℤ pos m) ≡ pos m *ℤ (u *ℤ (e -ℤ pos 1))
    turned = ap (λ y. u *ℤ y) (sym (*ℤ-sub (pos m) e (pos 1) ∙ ap (λ y. (pos m *ℤ e) -ℤ y) (*ℤ-one (pos m)))) ∙ *ℤ_exchange u (pos m) (e -ℤ pos 1)

module _ (i : Instance) (order : List ℕ) (r : IsReady i order) (limits : Limits) (least : AreLeast i limits) where
  pub never_climbed : IsTooLate i order limits → ⊥
  never_climbed over =
      let (end, e, first) = ended (IsLeastBound (CanEnd i limits.late)) limits.end least.end in
      not_ended i order r limits.late end (subst (λ x. IsTooLate i order (record { late = limits.late; end = x })) e over) first.met

  module _ (ps : List Piece) (made : IsClimbed i order limits ps) where
    feasible : Feasible i (stairs_schedule i ps)
    feasible = is_feasible i (h i order r) order limits (CanLay-ready i order r limits) ps made

    forced : IsForced i limits.late
    forced = reached i order r limits.late least.late

    is_cost : cost_of i (stairs_schedule i ps) ≡ limits.late
    is_cost = ≤ℤ_antisym (at_most_bound i (h i order r) order limits (CanLay-ready i order r limits) ps made) (*ℤ-cancel i.machines (omega (arith, (h i order r).machine))
        (subst (λ x. x ≤ℤ (pos i.machines *ℤ cost_of i (stairs_schedule i ps))) (*ℤ_comm limits.late (pos i.machines))
        (forced_bounds i (h i order r) (stairs_schedule i ps) feasible limits.late forced)))

    ends_soonest : EndsSoonest i (stairs_schedule i ps)
    ends_soonest t f costs = elim (≤ℤ_total ((pos i.machines *ℤ makespan t) *ℤ pos i.machines) (t.unit *ℤ ((pos i.machines *ℤ makespan (stairs_schedule i ps)) -ℤ pos i.machines))) [
      | inl sooner_too ↦
          let (end, e, first) = ended (IsLeastBound (CanEnd i limits.late)) limits.end least.end in
          let within = ends_by i (h i order r) order limits (CanLay-ready i order r limits) ps made end e in
          let part = sooner i.machines t.unit (makespan t) (makespan (stairs_schedule i ps)) end (omega (arith, (h i order r).machine)) f.unit within sooner_too in
          absurd (omega (arith, ints, first.least (end -ℤ pos 1) (t, f, in_time, part)))
      | inr later ↦ later
    ]
      where
        in_time : (pos i.machines *ℤ cost_of i t) ≤ℤ (limits.late *ℤ t.unit)
        in_time = subst₂ (λ x y. x ≤ℤ (y *ℤ t.unit)) (*ℤ_comm (cost_of i t) (pos i.machines)) is_cost costs

    plainly : IsSolved i (stairs_schedule i ps) limits.late (pos i.machines)
    plainly = record {
      best = record {
        feasible = feasible;
        least = λ t f. subst₂ (λ x y. (x *ℤ t.unit) ≤ℤ y) (sym is_cost) (*ℤ_comm (pos i.machines) (cost_of i t)) (forced_bounds i (h i order r) t f limits.late forced);
      };
      over = ap (λ x. x *ℤ pos i.machines) (sym is_cost);
      answer = is_answer i (h i order r) order limits (CanLay-ready i order r limits) ps made least.small;
      cuts = cut_once i (h i order r) order limits (CanLay-ready i order r limits) ps made;
      ends = ends_soonest;
      cost = (limits.late, forced, (λ y forced. all_forced i order r limits.late y least.late.met forced), refl);
    }

    pub solved : (unit : ℤ) → unit ≡ pos i.machines → IsSolved i (record { unit = held unit; pieces = ps }) (held limits.late) (held unit)
    solved unit e =
        subst₂ (λ u b. IsSolved i (record { unit = u; pieces = ps }) b u) (sym (ap held e ∙ count_kept i.machines (h i order r).machines)) (sym (bound_kept limits.late least.small)) plainly
