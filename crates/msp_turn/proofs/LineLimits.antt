-- Jobs lined up on one machine: their needs, and the limits that the line keeps.
use Rattle.std.proofs.Common.{◌≡◌, ℕ, ◌*◌, ◌<◌, ◌≤◌, List, length, get_or, sum_by, All, IsPermutation, ℤ, pos, ◌≤ℤ◌, sym, ap, ◌∙◌, arith, slice_index_or}
use Rattle.std.specs.List.{range_with_len}
use Rattle.std.proofs.lemmas.Int.{ints}
use Rattle.msp_class.specs.declared.sizes.TheConstants.{MOST_JOBS, GREATEST, GREATEST_UNIT}
use Rattle.msp_class.specs.declared.class.Env.TheVariants.{One}
use Rattle.msp_class.specs.Env.{kind_of}
use Rattle.msp_class.proofs.Sums.{sum_by-mono, sum_by-constant, OnceBelow, OnceBelow-from_permutation, length-OnceBelow}
use Rattle.msp_instance.specs.declared.Instance.{Instance}
use Rattle.msp_instance.specs.Instance.{no_need, no_job}
use Rattle.msp_instance.specs.Conditions.{Inner}
use Rattle.msp_pieces.specs.declared.Piece.{Piece}
use Rattle.msp_pieces.specs.Feasible.{Feasible}
use Rattle.msp_pieces.specs.Within.{IsMoment, Within}
use Rattle.msp_pieces.specs.BackToBack.{back_to_back, piece, time_at}
use Rattle.msp_pieces.proofs.lists.BackToBack.{back_to_back-to, length-back_to_back}
use Rattle.msp_pieces.specs.Piece.{finish, IsTimed}
use Rattle.msp_pieces.proofs.feasible.OneMachine.{timed_pieces}
use Rattle.msp_pieces.proofs.feasible.BackToBack.{piece_makes}
use Rattle.msp_pieces.specs.LineUp.{lined_up}
use Rattle.msp_route.proofs.OneInstances.{IsOneInstance-from}
use Rattle.msp_route.specs.declared.bounds.TheConstants.{GREATEST_LINED_UP}
use Rattle.msp_route.proofs.BackToBackSteps.{short_length, greatest_length}

module _ (i : Instance) (one : i.class.env ≡ One) (inner : Inner i) where
  pub short_needs : All (λ a. (0 < length a.needs) × ((slice_index_or a.needs 0 no_need).time ≤ GREATEST)) i.jobs
  short_needs k d l = let needs = (IsOneInstance-from i one inner).needs k d l in (omega (arith, needs.0), needs.2)

  pub short_time : (j : ℕ) → j < length i.jobs → time_at i j ≤ GREATEST
  short_time j l = (short_needs j no_job l).1

  module _ (D : ℕ) (small : pos D ≤ℤ GREATEST_UNIT) (order : List ℕ) (all : IsPermutation (range_with_len 0 (length i.jobs)) order) where
    abbrev pieces : List Piece
    pieces = back_to_back piece (λ j. D * time_at i j) 0 order

    once : OnceBelow (length i.jobs) order
    once = OnceBelow-from_permutation all

    pub few_jobs : length order ≤ MOST_JOBS
    few_jobs = omega (arith, length-OnceBelow once, inner.conditions.few)

    pub within_jobs : All (λ j. j < length i.jobs) order
    within_jobs = once.within

    pub line_length : length pieces ≡ length i.jobs
    line_length = length-back_to_back piece (λ j. D * time_at i j) 0 order ∙ length-OnceBelow once

    pub few_pieces : length pieces ≤ MOST_JOBS
    few_pieces = omega (arith, length-back_to_back piece (λ j. D * time_at i j) 0 order, few_jobs)

    whole : sum_by (λ j. D * time_at i j) order ≤ MOST_JOBS * greatest_length
    whole =
        let each = sum_by-mono (λ j. D * time_at i j) (λ _. greatest_length) order (λ k d l. short_length i D small (get_or order k d) (short_time (get_or order k d) (once.within k d l))) in
        omega (arith, each, sum_by-constant greatest_length order, few_jobs)

    module _ (f : Feasible i (lined_up i D order)) where
      timed : All IsTimed pieces
      timed = timed_pieces i (ap kind_of one) (lined_up i D order) f

      pub line_ends : All (λ p. p.to ≤ℤ GREATEST_LINED_UP) pieces
      line_ends k d l = early (get_or pieces k d) (timed k d l) (omega (arith, back_to_back-to piece (λ j. D * time_at i j) piece_makes 0 order k d l, whole))
        where
          early : (p : Piece) → IsTimed p → finish p ≤ MOST_JOBS * greatest_length → p.to ≤ℤ GREATEST_LINED_UP
          early p t h = omega (arith, ints, t.to, h)

      pub line_within : Within i (lined_up i D order)
      line_within = record {
        unit = (f.unit, small);
        few = omega (arith, few_pieces);
        moments = λ k d l. moments_of (get_or pieces k d) (timed k d l) (line_ends k d l);
        scaled = λ u. absurd (cc (sym (ap kind_of one) ∙ u));
      }
        where
          moments_of : (p : Piece) → IsTimed p → p.to ≤ℤ GREATEST_LINED_UP → IsMoment p.from × IsMoment p.to
          moments_of p t h = ((omega (arith, ints, t.from), omega (arith, ints, t.from, t.to, t.lasts, h)), (omega (arith, ints, t.to), omega (arith, ints, h)))

-- the pieces as a schedule
pub as_line : (i : Instance) (D : ℕ) (order : List ℕ) (unit : ℤ) (made : List Piece)
    → unit ≡ pos D → made ≡ back_to_back piece (λ j. D * time_at i j) 0 order → record { unit = unit; pieces = made } ≡ lined_up i D order
as_line i D order unit made e f = ap (λ u. record { unit = u; pieces = made }) e ∙ ap (λ ps. record { unit = pos D; pieces = ps }) f
