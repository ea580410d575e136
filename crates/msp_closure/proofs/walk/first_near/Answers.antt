-- The goals of `first_near` that are proved by lemmas.
use Rattle.std.proofs.Common.{◌≡◌, ◌∙◌, arith}
use Rattle.msp_closure.specs.declared.distances.TheConstants.{FAR}
use Rattle.msp_closure.proofs.WayLemmas.{FarSoFar-more, FarSoFar-found}
use Rattle.msp_closure.proofs.walk.first_near.Goals as goal

pub returns-then-at-lt-FAR-clause-found : goal.returns-then-at-lt-FAR-clause-found
returns-then-at-lt-FAR-clause-found c = FarSoFar-found c.args.table.now c.args.starts.now c.loop-c.c-index _ (omega arith)
    (λ far. absurd (omega (arith, c.at.ensures.value 0))) c.loop-c.invariant

pub loop-c-preserved : goal.loop-c-preserved
loop-c-preserved c =
    let is : c.at.result ≡ FAR = omega arith in
    FarSoFar-more c.args.table.now c.args.starts.now c.loop-c.c-index _ (omega arith) (c.at.ensures.value 0 ∙ is) c.loop-c.invariant
