-- What is brought back from unit times to equal times: a solution within the bounds.
use Rattle.std.proofs.Common.{◌≤◌, length, get_or, inr, pos, ◌≤ℤ◌, ◌<ℤ◌, sym, subst, arith}
use Rattle.std.proofs.lemmas.Int.{ints}
use Rattle.std.proofs.lemmas.List.{length-map}
use Rattle.std.proofs.lemmas.List.Sorted.{All-permutation, length_permutation}
use Rattle.msp_class.specs.Env.{kind_of}
use Rattle.msp_class.proofs.IntegerRing.{≤ℤ_trans}
use Rattle.msp_instance.specs.declared.Instance.{Instance}
use Rattle.msp_instance.specs.Instance.{common_time}
use Rattle.msp_instance.specs.Conditions.{Inner}
use Rattle.msp_pieces.specs.declared.Piece.{Piece}
use Rattle.msp_pieces.specs.declared.Frac.{Frac}
use Rattle.msp_pieces.specs.declared.Schedule.{Schedule}
use Rattle.msp_class.specs.declared.sizes.TheConstants.{MOST_PIECES}
use Rattle.msp_pieces.specs.Feasible.{Feasible}
use Rattle.msp_pieces.specs.Fraction.{IsOver}
use Rattle.msp_pieces.specs.Cost.{cost_of, IsSolution}
use Rattle.msp_pieces.specs.Within.{IsMoment, Within}
use Rattle.msp_route.specs.Law.{Applies, IsBack, IsReordered}
use Rattle.msp_route.specs.Bounds.{EndsBy, IsBounded, KeepsBounds, greatest_unit}
use Rattle.msp_route.specs.declared.bounds.TheConstants.{GREATEST_CLOSED_UP}
use Rattle.msp_plain.specs.Equal.{moved, led_to_unit, closed, closed_up}
use Rattle.msp_route.proofs.KindLimits.{greatest_unit-most}
use Rattle.msp_route.specs.Rates.{by_common_time}
use Rattle.msp_plain.specs.laws.EqualTimes.{led_is, leads_54, reordered_54, early_54}
use Rattle.msp_pieces.specs.Busy.{busy_moment}

module _ (i : Instance) (inner : Inner i) (applies : Applies 54 i) (t : Schedule) (f : Feasible (led_to_unit i) t) (b : IsBounded (led_to_unit i) t) where
  small : t.unit ≤ℤ greatest_unit (kind_of i.class.env)
  small = subst (λ j. t.unit ≤ℤ greatest_unit (kind_of j.class.env)) (led_is i (leads_54 i applies)) b.sized.unit

  pub early : EndsBy GREATEST_CLOSED_UP (closed_up (common_time i) t)
  early = early_54 i t inner applies f (≤ℤ_trans small (greatest_unit-most (kind_of i.class.env)))

  module _ (s : Schedule) (h : IsReordered (closed_up (common_time i) t) s) where
    law : IsBack (by_common_time i) i (led_to_unit i) t s
    law = reordered_54 i t s inner applies h

    pub feasible_back : Feasible i s
    feasible_back = (law f).0

    ends : EndsBy GREATEST_CLOSED_UP s
    ends = All-permutation (λ p. p.to ≤ℤ GREATEST_CLOSED_UP) (closed (common_time i) t.pieces) s.pieces h.pieces early

    no_more : length s.pieces ≤ length t.pieces
    no_more = omega (arith, length_permutation (closed (common_time i) t.pieces) s.pieces h.pieces, length-map t.pieces (moved (busy_moment (common_time i) t.pieces)))

    few : length s.pieces ≤ MOST_PIECES
    few = omega (arith, no_more, b.sized.few)

    unit_back : s.unit ≤ℤ greatest_unit (kind_of i.class.env)
    unit_back = subst (λ u. u ≤ℤ greatest_unit (kind_of i.class.env)) (sym h.unit) small

    pub within_back : Within i s
    within_back = record {
      unit = (feasible_back.unit, ≤ℤ_trans unit_back (greatest_unit-most (kind_of i.class.env)));
      few = few;
      moments = λ k d l. moments_of (get_or s.pieces k d) (feasible_back.span k d l) (ends k d l);
      scaled = λ e. inr (subst (λ k. s.unit ≤ℤ greatest_unit k) e unit_back);
    }
      where
        moments_of : (p : Piece) → (pos 0 ≤ℤ p.from) × (p.from <ℤ p.to) → p.to ≤ℤ GREATEST_CLOSED_UP → IsMoment p.from × IsMoment p.to
        moments_of p h k = ((h.0, omega (arith, ints, h.1, k)), (omega (arith, ints, h.0, h.1), omega (arith, ints, k)))

    keeps : KeepsBounds 54 i (led_to_unit i) t s
    keeps = record {
      same = λ kept. absurd (cc);
      few = no_more;
      unit = λ stays. h.unit;
      sized = record { few = few; unit = unit_back };
      ends = λ moment e. ends;
      dates = λ traded. absurd (cc);
    }

    -- what the row owes for what it brings back
    abbrev IsBroughtBack : Frac → Type 0
    IsBroughtBack cost = record {
      solution : IsSolution i (record { schedule = s; cost = cost });
      law : IsBack (by_common_time i) i (led_to_unit i) t s;
      same : IsReordered (closed_up (common_time i) t) s;
      bounds : KeepsBounds 54 i (led_to_unit i) t s;
    }

    pub brought_back : (cost : Frac) → IsOver cost (cost_of i s) s.unit → IsBroughtBack cost
    brought_back cost e = record {
      solution = record { feasible = feasible_back; cost = e };
      law = law;
      same = h;
      bounds = keeps;
    }
