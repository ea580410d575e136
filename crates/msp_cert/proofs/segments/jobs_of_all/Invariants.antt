use Rattle.std.proofs.Common.{◌≡◌, take}
use Rattle.std.specs.List.{flat_map}
use Rattle.msp_cert.proofs.segments.jobs_of_all.Given as goal

-- the jobs of the lists so far
abbrev pub invariant-loop-jobs : goal.invariant-loop-jobs
invariant-loop-jobs l = l.all.items ≡ flat_map (λ js. js) (take l.jobs-index l.lists)
