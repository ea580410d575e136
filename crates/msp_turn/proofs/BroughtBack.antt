-- What is brought back: the lower schedule as it is, or its jobs lined up.
use Rattle.std.proofs.Common.{◌≡◌, ℕ, true, false, List, length, AllPairs, IsPermutation, ℤ, pos, nat_abs, to_z, of_z, FitsSigned, Result, Ok, Err, IfOk, ◌*ℤ◌, ◌≤ℤ◌, refl, sym, ap}
use Rattle.std.proofs.Common.{ap₂, subst, ◌∙◌, arith}
use Rattle.std.specs.Int.{w128}
use Rattle.std.specs.List.{range_with_len}
use Rattle.std.proofs.lemmas.Bool.{false≢true}
use Rattle.std.proofs.lemmas.Int.{ints, to_z-of_z}
use Rattle.std.proofs.lemmas.List.Sorted.{IsPermutation-refl, IsPermutation-trans}
use Rattle.msp_class.specs.declared.class.Env.TheVariants.{One}
use Rattle.msp_class.specs.declared.NoMemory.{NoMemory}
use Rattle.msp_class.specs.Env.{kind_of}
use Rattle.msp_class.proofs.IntegerRing.{natural}
use Rattle.msp_class.proofs.Sums.{OnceBelow-from_permutation}
use Rattle.msp_instance.specs.declared.Instance.{Instance}
use Rattle.msp_instance.specs.Conditions.{Inner}
use Rattle.msp_pieces.specs.declared.Schedule.{Schedule}
use Rattle.msp_pieces.specs.declared.Solution.{Solution}
use Rattle.msp_pieces.specs.Feasible.{Feasible}
use Rattle.msp_pieces.specs.Cost.{end_of, cost_of, IsSolution}
use Rattle.msp_class.specs.declared.sizes.TheConstants.{GREATEST_UNIT}
use Rattle.msp_pieces.specs.LineUp.{lined_up, order_of_ends}
use Rattle.msp_pieces.proofs.changes.LineUp.{order_of_ends-only}
use Rattle.msp_route.specs.Law.{IsBack, IsReordered}
use Rattle.msp_route.specs.Bounds.{EndsBy, IsBounded, KeepsBounds, greatest_unit, keeps_schedule, trades_dates, moment_after}
use Rattle.msp_route.specs.declared.bounds.TheConstants.{GREATEST_LINED_UP}
use Rattle.msp_route.specs.Changes.{same_costs}
use Rattle.msp_route.proofs.Kept.{KeepsBounds-kept}
use Rattle.msp_turn.specs.LinedUp.{IsLinedUp}
use Rattle.msp_turn.specs.laws.OneMachine.{line_of}
use Rattle.msp_turn.proofs.JobPieces.{jobs_in_pieces}
use Rattle.msp_turn.proofs.LineLimits.{few_pieces, line_length, line_ends}

-- what a reduction owes of a solution that it brings back
pub record IsBrought (row : ℕ) (i j : Instance) (upper before : Schedule) (s : Solution) : Type 0 where
  pub solution : IsSolution i s
  pub law : IsBack same_costs i j before s.schedule
  pub same : IsReordered upper s.schedule
  pub bounds : KeepsBounds row i j before s.schedule

-- the same schedule
pub brought_same : (row : ℕ) (i j : Instance) (s : Solution) → keeps_schedule row ≡ true → i.class.env ≡ One → j.class.env ≡ One → cost_of i s.schedule ≡ cost_of j s.schedule
    → IsBack same_costs i j s.schedule s.schedule → IsSolution j s → IsBounded j s.schedule → IsBrought row i j s.schedule s.schedule s
brought_same row i j s kept one other costs law f b = record {
  solution = record { feasible = (law f.feasible).0; cost = f.cost ∙ ap (λ z. z *ℤ s.cost.den) (sym costs) };
  law = law;
  same = record { unit = refl; pieces = IsPermutation-refl s.schedule.pieces };
  bounds = KeepsBounds-kept row i j s.schedule kept (record { few = b.sized.few; unit = subst (λ e. s.schedule.unit ≤ℤ greatest_unit (kind_of e)) (other ∙ sym one) b.sized.unit });
}

-- a row that lines the jobs up: how late they end then
pub record LinesUp (row : ℕ) (before upper : Schedule) : Type 0 where
  pub changes : keeps_schedule row ≡ false
  pub plain : trades_dates row ≡ false
  pub ends : (moment : ℤ) → EndsBy moment before → EndsBy GREATEST_LINED_UP upper → EndsBy (moment_after row moment) upper

-- the jobs lined up
module _ (row : ℕ) (i j : Instance) (t upper : Schedule) (D : ℕ) (order : List ℕ) (lines : LinesUp row t upper) (one : i.class.env ≡ One)
    (other : j.class.env ≡ One) (count : length i.jobs ≡ length j.jobs) (inner : Inner i) (lower : Inner j) (f : Feasible j t) (b : IsBounded j t)
    (unit : D ≡ nat_abs t.unit) (all : IsPermutation (range_with_len 0 (length i.jobs)) order) (is : upper ≡ lined_up i D order) (law : IsBack same_costs i j t upper) where
  same_unit : pos D ≡ t.unit
  same_unit = ap pos unit ∙ sym (natural t.unit (omega (arith, ints, f.unit)))

  pub small_unit : pos D ≤ℤ GREATEST_UNIT
  small_unit = subst (λ u. u ≤ℤ GREATEST_UNIT) (sym same_unit) (subst (λ e. t.unit ≤ℤ greatest_unit (kind_of e)) other b.sized.unit)

  pub feasible_line : Feasible i (lined_up i D order)
  feasible_line = subst (Feasible i) is (law f).0

  line_bounds : KeepsBounds row i j t (lined_up i D order)
  line_bounds = record {
    same = λ kept. absurd (false≢true (sym lines.changes ∙ kept));
    few = omega (arith, line_length i one inner D small_unit order all, jobs_in_pieces j lower t f, count);
    unit = λ w. same_unit;
    sized = record {
      few = omega (arith, few_pieces i one inner D small_unit order all);
      unit = subst (λ e. pos D ≤ℤ greatest_unit (kind_of e)) (sym one) small_unit;
    };
    ends = λ moment e. subst (EndsBy (moment_after row moment)) is (lines.ends moment e (subst (EndsBy GREATEST_LINED_UP) (sym is) (line_ends i one inner D small_unit order all feasible_line)));
    dates = λ trades. absurd (false≢true (sym lines.plain ∙ trades));
  }

  pub brought_line : (s : Solution) → IsLinedUp i D order s → IsBrought row i j upper t s
  brought_line s h =
      let same : upper ≡ s.schedule = is ∙ sym h.schedule in
      record {
        solution = record { feasible = subst (Feasible i) same (law f).0; cost = h.cost };
        law = subst (IsBack same_costs i j t) same law;
        same = subst (IsReordered upper) same (record { unit = refl; pieces = IsPermutation-refl upper.pieces });
        bounds = subst (KeepsBounds row i j t) (sym h.schedule) line_bounds;
      }

-- the unit as the code reads it
unit_read : (j : Instance) (t : Schedule) (D : ℕ) → j.class.env ≡ One → Feasible j t → IsBounded j t → D ≡ nat_abs (to_z w128 (of_z w128 t.unit)) → D ≡ nat_abs t.unit
unit_read j t D one f b e =
    let most : t.unit ≤ℤ GREATEST_UNIT = subst (λ e. t.unit ≤ℤ greatest_unit (kind_of e)) one b.sized.unit in
    let fits : FitsSigned w128 t.unit = omega (arith, ints, f.unit, most) in
    e ∙ ap nat_abs (to_z-of_z w128 t.unit fits)

-- what the code finds: the unit is small, the order lists all jobs, in it they are feasible, and so they are brought back
pub record IsFoundLine (row : ℕ) (i j : Instance) (upper t : Schedule) (D : ℕ) (order : List ℕ) : Type 0 where
  pub unit : pos D ≤ℤ GREATEST_UNIT
  pub all : IsPermutation (range_with_len 0 (length i.jobs)) order
  pub feasible : Feasible i (lined_up i D order)
  pub brought : (s : Solution) → IsLinedUp i D order s → IsBrought row i j upper t s

-- `change` is what becomes of the order of the ends
module _ (row : ℕ) (i j : Instance) (t upper : Schedule)
    (change : List ℕ → List ℕ) (keeps : (l : List ℕ) → IsPermutation l (change l)) (upper_is : upper ≡ lined_up i (nat_abs t.unit) (change (order_of_ends j t)))
    (lines : LinesUp row t upper) (one : i.class.env ≡ One) (other : j.class.env ≡ One)
    (same : length i.jobs ≡ length j.jobs) (inner : Inner i) (lower : Inner j) (law : IsBack same_costs i j t upper) (f : Feasible j t) (b : IsBounded j t)
    (D count : ℕ) (order found : List ℕ) (unit : D ≡ nat_abs (to_z w128 (of_z w128 t.unit))) (c : count ≡ length i.jobs)
    (e : order ≡ change found) (all : IsPermutation (range_with_len 0 count) found) (rises : AllPairs (λ a b. end_of t a ≤ℤ end_of t b) found) where
  unit_is : D ≡ nat_abs t.unit
  unit_is = unit_read j t D other f b unit

  found_is : found ≡ order_of_ends j t
  found_is = order_of_ends-only j (line_of j other lower) t f found (OnceBelow-from_permutation (subst (λ n. IsPermutation (range_with_len 0 n) found) (c ∙ same) all)) rises

  line_is : upper ≡ lined_up i D order
  line_is = upper_is ∙ ap₂ (lined_up i) (sym unit_is) (ap change (sym found_is) ∙ sym e)

  found_all : IsPermutation (range_with_len 0 (length i.jobs)) order
  found_all = subst (IsPermutation (range_with_len 0 (length i.jobs))) (sym e)
      (IsPermutation-trans (range_with_len 0 (length i.jobs)) found (change found) (subst (λ n. IsPermutation (range_with_len 0 n) found) c all) (keeps found))

  pub found_line : IsFoundLine row i j upper t D order
  found_line = record {
    unit = small_unit row i j t upper D order lines one other same inner lower f b unit_is found_all line_is law;
    all = found_all;
    feasible = subst (Feasible i) line_is (law f).0;
    brought = brought_line row i j t upper D order lines one other same inner lower f b unit_is found_all line_is law;
  }

-- clause by clause
pub each_of : {row : ℕ} {i j : Instance} {upper t : Schedule} {D : ℕ} {order : List ℕ} → IsFoundLine row i j upper t D order → (r : Result Solution NoMemory) → IfOk r (IsLinedUp i D order)
    → IfOk r (λ s. IsSolution i s) × IfOk r (λ s. IsBack same_costs i j t s.schedule) × IfOk r (λ s. IsReordered upper s.schedule) × IfOk r (λ s. KeepsBounds row i j t s.schedule)
each_of h (Ok s) is = let b = h.brought s is in (b.solution, b.law, b.same, b.bounds)
each_of h (Err e) is = (is, is, is, is)
