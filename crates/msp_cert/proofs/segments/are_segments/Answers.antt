use Rattle.std.proofs.Common.{◌<◌, All, refl, sym, ◌∙◌, subst, arith}
use Rattle.std.proofs.lemmas.Bool.{false≢true}
use Rattle.msp_cert.proofs.SegmentFacts.{segments_decided}
use Rattle.msp_cert.proofs.segments.are_segments.Goals as goal

pub returns-then-not-are_filled : goal.returns-then-not-are_filled
returns-then-not-are_filled c = (λ e. absurd (false≢true e), λ s. c.if-not-are_filled.ensures.1 s.some)

pub returns-then-not-are_lists_of_jobs : goal.returns-then-not-are_lists_of_jobs
returns-then-not-are_lists_of_jobs c = (
  λ e. absurd (false≢true e),
  λ s. c.if-not-are_lists_of_jobs.ensures.1 (subst (λ n. All (λ js. All (λ j. j < n) js) c.args.lists.now) (sym c.len.ensures) s.inside),
)

pub are_all_apart-requires : goal.are_all_apart-requires
are_all_apart-requires c = λ k d l p e t. omega (arith, c.if-not-are_lists_of_jobs.ensures.0 refl k d l p e t, c.len.ensures, c.requires.conditions.few)

pub returns-then-not-branch : goal.returns-then-not-branch
returns-then-not-branch c = (λ e. absurd (false≢true e), λ s. absurd (false≢true (sym c.if-not-branch.true ∙ c.in_ok-are_all_apart.ensures.1 s.apart)))

pub returns : goal.returns
returns c =
    segments_decided c.args.inst.now c.in_ok-paths.paths c.args.lists.now c.lead_on.result (c.if-not-are_filled.ensures.0 refl)
    (subst (λ n. All (λ js. All (λ j. j < n) js) c.args.lists.now) c.len.ensures (c.if-not-are_lists_of_jobs.ensures.0 refl))
    (c.in_ok-are_all_apart.ensures.0 c.if-not-branch.false) c.in_ok-paths.ensures c.lead_on.ensures
