-- What holds in the loop of `put_jobs`.
use Rattle.std.proofs.Common.{◌≡◌, ◌++◌, drop}
use Rattle.msp_grammar.specs.InstanceText.{jobs_text}
use Rattle.msp_grammar.proofs.instance_printer.put_jobs.Given as goal

-- what is written and what is still to be written are the whole
abbrev pub invariant-jobs : goal.invariant-jobs
invariant-jobs l = l.out.items ++ jobs_text l.class (drop l.at l.names) (drop l.at l.jobs) ≡ l.initial.out.items ++ jobs_text l.class l.names l.jobs
