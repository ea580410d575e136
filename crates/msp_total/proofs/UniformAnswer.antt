-- The answer on uniform machines, as the code makes it.
use Rattle.std.proofs.Common.{◌≡◌, ℕ, ◌/◌, ◌<◌, ◌≤◌, List, length, get_or, map, ℤ, pos, All, sym, ap, subst, subst₂, ◌∙◌, arith}
use Rattle.std.proofs.lemmas.List.{length-map, get_or_default}
use Rattle.std.proofs.lemmas.List.Elements.{All-contains, Contains-get_or}
use Rattle.msp_class.specs.declared.sizes.TheConstants.{MOST_JOBS, GREATEST, GREATEST_MULTIPLE}
use Rattle.msp_pieces.proofs.changes.Moves.{Contains-map}
use Rattle.msp_class.proofs.Sums.{OnceBelow-from_permutation, length-OnceBelow}
use Rattle.msp_instance.specs.declared.Instance.{Instance}
use Rattle.msp_pieces.specs.declared.Piece.{Piece}
use Rattle.msp_pieces.specs.declared.Schedule.{Schedule}
use Rattle.msp_route.specs.Bounds.{IsBestAnswer}
use Rattle.msp_route.specs.declared.keyed.Keyed.{Keyed}
use Rattle.msp_total.specs.declared.lay.Place.{Place}
use Rattle.msp_instance.specs.Multiples.{IsLeastOfAll}
use Rattle.msp_total.specs.Multipliers.{IsByMultipliers}
use Rattle.msp_total.specs.Places.{ArePlaces, laid}
use Rattle.msp_total.specs.Turns.{IsByTime, AreTurns}
use Rattle.msp_total.proofs.LaidSchedule.{laid_is_answer}
use Rattle.msp_total.proofs.UniformFacts.{IsUniformInstance, times}
use Rattle.msp_total.proofs.UniformBest.{IsPlain-from_uniform, steps_by, steps-length, step-most, fitting, best}
use Rattle.msp_total.proofs.UniformOrder.{is_by_multipliers}

pub record IsUniformAnswer (i : Instance) (s : Schedule) : Type 0 where
  pub best : IsBestAnswer i s
  pub order : IsByMultipliers i s

-- the steps of the code, over slices that are the same lists
module _ (i : Instance) (h : IsUniformInstance i) (speeds : List ℕ) (unit : ℕ) (same_speeds : speeds ≡ i.speeds) (common : IsLeastOfAll speeds unit) (few : unit ≤ GREATEST_MULTIPLE) where
  common_of : IsLeastOfAll i.speeds unit
  common_of = subst (λ l. IsLeastOfAll l unit) same_speeds common

  steps_are : (steps taken : List ℕ) → steps ≡ map (λ s. unit / s) speeds → taken ≡ steps → taken ≡ steps_by i unit
  steps_are steps taken e f = f ∙ e ∙ ap (map (λ s. unit / s)) same_speeds

  pub steps_small : (steps taken : List ℕ) → steps ≡ map (λ s. unit / s) speeds → taken ≡ steps → All (λ s. s ≤ GREATEST_MULTIPLE) taken
  steps_small steps taken e f = subst (All (λ s. s ≤ GREATEST_MULTIPLE)) (sym (steps_are steps taken e f))
      (λ k d l. omega (arith, get_or_default (steps_by i unit) k d 0 l, step-most i h unit common_of k (omega (arith, l, steps-length i h unit common_of)), few))

  pub steps_count : (steps taken : List ℕ) → steps ≡ map (λ s. unit / s) speeds → taken ≡ steps → length taken ≡ i.machines
  steps_count steps taken e f = ap length (steps_are steps taken e f) ∙ steps-length i h unit common_of

  module _ (jobs taken : List Keyed) (sorted : IsByTime i jobs) (same_jobs : taken ≡ jobs) where
    pub jobs_few : length taken ≤ MOST_JOBS
    jobs_few = omega (arith, ap length same_jobs, length-map jobs (λ t. t.job), length-OnceBelow (OnceBelow-from_permutation sorted.all), h.few)

    pub jobs_short : All (λ t. t.key ≤ GREATEST) taken
    jobs_short = subst (All (λ t. t.key ≤ GREATEST)) (sym same_jobs) (λ k d l. omega (arith, sorted.times k d l, (times i h (get_or jobs k d).job (inside k d l)).1))
      where
        inside : All (λ t. t.job < length i.jobs) jobs
        inside k d l = All-contains (λ j. j < length i.jobs) (map (λ t. t.job) jobs)
            (get_or jobs k d).job (OnceBelow-from_permutation sorted.all).within (Contains-map (λ t. t.job) jobs (get_or jobs k d) (Contains-get_or jobs k d l))

    module _ (steps slice : List ℕ) (are_steps : steps ≡ map (λ s. unit / s) speeds)
        (same_steps : slice ≡ steps) (places listed : List Place) (turns : AreTurns slice taken places) (same_places : listed ≡ places) where
      turns_of : AreTurns (steps_by i unit) jobs places
      turns_of = subst₂ (λ x y. AreTurns x y places) (steps_are steps slice are_steps same_steps) same_jobs turns

      pub places_small : ArePlaces listed
      places_small =
          let f = fitting i h unit common_of few jobs sorted places turns_of in
          subst ArePlaces (sym same_places) (omega (arith, turns_of.count, ap length same_jobs, jobs_few), λ k d l. (omega (arith, f.inside k d l, h.machines), f.short k d l))

      pub answer_read : (u : ℤ) (pieces : List Piece) → u ≡ pos unit → pieces ≡ laid listed → IsUniformAnswer i (record { unit = u; pieces = pieces })
      answer_read u pieces e all = subst₂ (λ x y. IsUniformAnswer i (record { unit = x; pieces = y })) (sym e) (sym (all ∙ ap laid same_places)) (record {
        best = record {
          best = best i h unit common_of few jobs sorted places turns_of;
          answer = laid_is_answer i (IsPlain-from_uniform i h) unit places (fitting i h unit common_of few jobs sorted places turns_of);
        };
        order = is_by_multipliers i h unit common_of few jobs sorted places turns_of;
      })
