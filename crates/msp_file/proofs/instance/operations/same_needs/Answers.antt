-- The goals of `same_needs` that are proved by lemmas.
use Rattle.std.proofs.Common.{ap, sym, ◌∙◌, zero-add}
use Rattle.std.proofs.lemmas.List.FromFn.{map-range_with_len_more}
use Rattle.msp_file.specs.instance.Reading.{with_need}
use Rattle.msp_file.proofs.instance.operations.same_needs.Goals as goal

pub loop-machine-preserved : goal.loop-machine-preserved
loop-machine-preserved c =
    let m = c.loop-machine.machine in
    c.in_ok-push_need.ensures ∙ ap (λ needs. with_need needs m c.args.time) c.loop-machine.invariant
    ∙ sym (map-range_with_len_more (λ q. record { machine = q; time = c.args.time }) 0 m m (zero-add m))
