-- The schedule of the rule is feasible and best, and costs the bound of its segments.
use Rattle.std.proofs.Common.{◌≡◌, ℕ, List, length, pos, ◌*ℤ◌, ◌≤ℤ◌, MatchOption, refl, sym, ap, subst, ◌∙◌, arith}
use Rattle.std.specs.Prelude.{⊤}
use Rattle.msp_class.specs.declared.class.Class.{Class}
use Rattle.msp_class.specs.Env.{kind_of, fixed_machines}
use Rattle.msp_class.proofs.IntegerRing.{pos-le, one-*ℤ}
use Rattle.msp_instance.specs.declared.Instance.{Instance}
use Rattle.msp_instance.specs.Instance.{no_job}
use Rattle.msp_instance.specs.Conditions.{Inner, inner_limits}
use Rattle.msp_pieces.specs.declared.Piece.{Piece}
use Rattle.msp_pieces.specs.declared.Frac.{Frac}
use Rattle.msp_pieces.specs.Fraction.{IsOver}
use Rattle.msp_pieces.specs.Cost.{cost_of, end_of}
use Rattle.msp_pieces.specs.Settled.{IsSettled}
use Rattle.msp_pieces.specs.Segments.{AreSegments, segments_bound}
use Rattle.msp_pieces.proofs.feasible.OfClass.{IsOfClass, IsOfClass-from}
use Rattle.msp_pieces.proofs.bounds.SegmentBound.{law_of_segments}
use Rattle.msp_route.specs.Bounds.{IsBestAnswer}
use Rattle.msp_route.proofs.Owed.{unit_one}
use Rattle.msp_route.proofs.OneEach.{one_each_is_answer}
use Rattle.msp_slots.proofs.Progress.{IsOrdered-from}
use Rattle.msp_slots.proofs.LeastCosts.{IsBestAt, IsBestAt-ends}
use Rattle.msp_slots.proofs.ListSchedules.{list_in_units, list_schedule_is_settled}
use Rattle.msp_slots.proofs.UnitPieces.{HasUnitJobs, HasUnitJobs-from, IsInUnits}
use Rattle.msp_lexical.specs.Lexical.{lexical_class, IsSegmentCost, IsLeastCost}
use Rattle.msp_lexical.specs.Slots.{AreSlots, AreSeats}
use Rattle.msp_lexical.specs.Steps.{HasLabels, IsByLabel}
use Rattle.msp_lexical.proofs.Seats.{AreSlots-from, seats_there_are, tops_there_are}
use Rattle.msp_lexical.proofs.Cuts.{some_segments}

pub two_machines : (i : Instance) → i.class ≡ lexical_class → Inner i → i.machines ≡ 2
two_machines i e inner = subst (λ (c : Class). MatchOption (fixed_machines c.env) ⊤ (λ m. i.machines ≡ m)) e inner.conditions.machines.2

module _ (i : Instance) (class : i.class ≡ lexical_class) (inner : Inner i) (label : ℕ → ℕ) (h : HasLabels i label) (pieces : List Piece) (b : IsByLabel i label pieces) where
  abbrev n : ℕ
  n = length i.jobs

  abbrev begin : ℕ → ℕ
  begin = b.schedule.begin

  abbrev machine : ℕ → ℕ
  machine = b.schedule.machine

  t : IsOfClass i lexical_class
  t = IsOfClass-from i lexical_class class inner

  unit_jobs : HasUnitJobs i
  unit_jobs = HasUnitJobs-from i _ _ _ _ refl t

  units : IsInUnits i begin pieces
  units = list_in_units i b.order pieces b.schedule unit_jobs (λ j l. (t.jobs j no_job l).release)

  -- ---- the cost
  module _ (slots : ℕ) (seat : ℕ → ℕ → ℕ) (seats : AreSeats n begin machine slots seat) where
    pub are_slots : AreSlots n slots begin label (λ x. seat x 0) (λ x. seat x 1) h.leads
    are_slots = AreSlots-from i b.order begin machine label h.leads b.schedule.runs
        (IsOrdered-from i inner) (two_machines i class inner) inner.conditions.ends h.shows h.labels b.falling slots seat seats

    segments_there_are : (segments : List (List ℕ)) × AreSegments i segments × (segments_bound i segments ≡ slots)
    segments_there_are =
        let (top, tops) = tops_there_are n slots label (λ x. seat x 0) (λ x. seat x 1) in
        some_segments i (two_machines i class inner) slots begin label (λ x. seat x 0) (λ x. seat x 1) h.leads are_slots (λ j k c d to. (h.shows j k c d).0 to) top tops

    at_slots : IsBestAt i pieces (pos slots)
    at_slots = IsBestAt-ends i pieces slots t.crit t.some units.runs.feasible (λ k l. subst (λ x. x ≤ℤ pos slots) (sym (units.runs.ends k l)) (pos-le (omega (arith, seats.below k l)))) (λ s f.
        let (segments, are, bound) = segments_there_are in
        let (k, inside, long) = law_of_segments (inner_limits (kind_of i.class.env)) i s segments t.kind t.cut unit_jobs.ones inner.conditions f are in
        (k, inside, subst (λ v. (s.unit *ℤ pos v) ≤ℤ end_of s k) bound long))

    pub least_cost : IsLeastCost i slots
    least_cost = (record { unit = pos 1; pieces = pieces }, at_slots.best, at_slots.cost ∙ sym (one-*ℤ (pos slots)))

  -- what the schedule has
  pub record IsLexical : Type 0 where
    pub best : IsBestAnswer i (record { unit = pos 1; pieces = pieces })
    pub cost : (cost : Frac) → IsOver cost (cost_of i (record { unit = pos 1; pieces = pieces })) (pos 1) → IsSegmentCost i cost
    pub settled : IsSettled (record { unit = pos 1; pieces = pieces })

  pub lexical : IsLexical
  lexical =
      let (slots, seat, seats) = seats_there_are n begin machine t.some b.schedule.runs.apart in
      let (segments, are, bound) = segments_there_are slots seat seats in
      let at = at_slots slots seat seats in
      record {
        best = record { best = at.best; answer = one_each_is_answer i units.runs.uncut 1 pieces units.runs.one_each (unit_one (kind_of i.class.env)) };
        cost = λ cost over. (segments, are, subst (λ x. IsOver cost x (pos 1)) (at.cost ∙ ap pos (sym bound)) over);
        settled = list_schedule_is_settled i b.order pieces b.schedule;
      }
