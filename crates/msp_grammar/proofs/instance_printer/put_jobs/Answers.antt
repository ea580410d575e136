-- The goals of `put_jobs` that are proved by lemmas.
use Rattle.std.proofs.Common.{◌<◌, length, arith}
use Rattle.msp_grammar.proofs.PrintLemmas.{jobs_step}
use Rattle.msp_grammar.proofs.instance_printer.put_jobs.Goals as goal

pub jobs-preserved : goal.jobs-preserved
jobs-preserved c =
    let named : c.jobs.at < length c.args.names.now = omega (arith, c.requires, c.jobs-test.true) in
    jobs_step _ _ _ _ _ _ _ _
    named
    c.jobs-test.true
    c.index-jobs-at.is
    c.in_ok-put_named_job.ensures
    c.jobs.invariant
