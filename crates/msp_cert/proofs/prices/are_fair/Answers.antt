use Rattle.std.proofs.Common.{rules}
use Rattle.std.proofs.lemmas.Int.{to_z-of_z}
use Rattle.std.specs.Int.{w128}
use Rattle.msp_cert.proofs.PriceFacts.{fair_refused, fair_next}
use Rattle.msp_cert.proofs.prices.are_fair.Goals as goal

pub returns-then-not-is_fair : goal.returns-then-not-is_fair
returns-then-not-is_fair c = fair_refused c.args.inst.now c.args.row.now c.args.column.now c.loop-job.job _ _ c.index-jobs-job.result
    c.as_slice-jobs.result.now c.as_slice-jobs.ensures c.as_slice.ensures (to_z-of_z w128 _ (search rules)) c.loop-job-test.true c.if-not-is_fair.ensures

pub loop-job-preserved : goal.loop-job-preserved
loop-job-preserved c = fair_next c.args.inst.now c.args.row.now c.args.column.now c.loop-job.job _ _ c.index-jobs-job.result c.as_slice-jobs.result.now
    c.as_slice-jobs.ensures c.as_slice.ensures (to_z-of_z w128 _ (search rules)) c.loop-job-test.true c.if-not-is_fair.ensures c.loop-job.invariant
