-- What holds in the loop of `same_needs`.
use Rattle.std.proofs.Common.{◌≡◌, map}
use Rattle.std.specs.List.{range_with_len}
use Rattle.msp_file.proofs.instance.operations.same_needs.Given as goal

abbrev pub invariant-loop-machine : goal.invariant-loop-machine
invariant-loop-machine l = l.needs ≡ map (λ q. record { machine = q; time = l.time }) (range_with_len 0 l.machine)
