use Rattle.std.proofs.Common.{ℕ, ◌+◌, ◌<◌, ◌≤◌, length, refl, subst, arith, below_more}
use Rattle.std.specs.Prelude.{Any}
use Rattle.std.proofs.lemmas.Bool.{false≢true}
use Rattle.msp_instance.specs.declared.Arc.{Arc}
use Rattle.msp_instance.specs.declared.Instance.{Instance}
use Rattle.msp_instance.specs.Conditions.{InClass}
use Rattle.msp_instance.specs.Paths.{HasStep}
use Rattle.msp_cert.specs.Small.{Supports}
use Rattle.msp_cert.specs.Certificates.{of_job}
use Rattle.msp_cert.proofs.levels.steps_down.Goals as goal

-- an arc that supports a level leads to a job one level lower at most, and back
step_there : (i : Instance) (level : ℕ → ℕ) (j : ℕ) → InClass i → Any (Supports level j) i.arcs → (k : ℕ) × (k < length i.jobs) × HasStep i.arcs j k × (level j ≤ level k + 1)
step_there i level j c (k, a, l, at, (before, is)) = (a.after, subst (λ (x : Arc). x.after < length i.jobs) at (c.conditions.ends k a l).1, subst (λ x. HasStep i.arcs x a.after) before (k, l, at), is)

step_back : (i : Instance) (level : ℕ → ℕ) (j : ℕ) → (k : ℕ) × (k < length i.jobs) × HasStep i.arcs j k × (level j ≤ level k + 1) → Any (Supports level j) i.arcs
step_back i level j (k, l, (p, b, at), is) = (p, record { before = j; after = k }, b, at, (refl, is))

pub returns-then-not-steps_from : goal.returns-then-not-steps_from
returns-then-not-steps_from c = (
  λ e. absurd (false≢true e),
  λ h. c.if-not-steps_from.ensures.1 (λ p. step_back c.args.inst.now (of_job c.args.level.now) c.loop-k.k (h c.loop-k.k (omega (arith, c.loop-k-test.true, c.len-k-end.ensures)) p)),
)

pub loop-k-preserved : goal.loop-k-preserved
loop-k-preserved c = below_more _ c.loop-k.k c.loop-k.invariant (c.if-not-steps_from.ensures.0 refl)

pub returns : goal.returns
returns c = (
  λ e j l p. step_there c.args.inst.now (of_job c.args.level.now) j c.requires (c.loop-k.invariant j (omega (arith, l, c.loop-k-test.false, c.len-k-end.ensures)) p),
  λ h. refl,
)
