use Rattle.std.proofs.Common.{◌≡◌, ℕ, ℤ, Bool, ◌+◌, false, length, refl, sym, ◌∙◌, subst, rules, slice_index_or}
use Rattle.std.specs.Int.{w128}
use Rattle.std.proofs.lemmas.Int.{to_z-of_z}
use Rattle.msp_pieces.specs.Blocks.{cost_at}
use Rattle.msp_route.specs.Candidates.{IsFound}
use Rattle.msp_route.proofs.Search.{found-skip, found-take}
use Rattle.msp_route.proofs.last_job.least_of.Goals as goal
use Rattle.msp_route.proofs.last_job.least_of.Goals.{then-not-blocked-job, else-not-blocked-job}

pub loop-place-preserved : goal.loop-place-preserved
loop-place-preserved c =
    let jobs = c.args.jobs.now in
    let blocked : ℕ → Bool = λ j. slice_index_or c.args.blocked.now j false in
    let cost : ℕ → ℤ = λ j. cost_at c.args.inst.now j c.args.moment in
    let k = c.loop-place.place in
    elim c.if-not-blocked-job.branch [
      | then-not-blocked-job w ↦
          subst (IsFound jobs blocked cost (k + 1)) (sym w.best-is)
          (found-take jobs blocked cost k _ c.loop-place-test.true refl c.loop-place.best _ w.better.result w.if-not-blocked-job.true refl refl
          (to_z-of_z w128 w.price-cost.result (search rules) ∙ w.price-cost.ensures) w.better.ensures.either w.better.ensures.next w.better.ensures.best c.loop-place.invariant)
      | else-not-blocked-job w ↦
          subst (IsFound jobs blocked cost (k + 1)) (sym w.best-is)
          (found-skip jobs blocked cost k _ c.loop-place-test.true refl c.loop-place.best w.if-not-blocked-job.false c.loop-place.invariant)
    ]

pub returns : goal.returns
returns c =
    let blocked : ℕ → Bool = λ j. slice_index_or c.args.blocked.now j false in
    let cost : ℕ → ℤ = λ j. cost_at c.args.inst.now j c.args.moment in
    let all : c.loop-place.place ≡ length c.args.jobs.now = search rules in
    subst (λ n. IsFound c.args.jobs.now blocked cost n c.loop-place.best) all c.loop-place.invariant
