-- What is kept takes time.
use Rattle.std.proofs.Common.{rules, ap, ◌∙◌}
use Rattle.std.specs.Prelude.{filter}
use Rattle.std.proofs.lemmas.Fn.{filter_same}
use Rattle.msp_machines.specs.Shops.{takes_time}
use Rattle.msp_machines.proofs.shops.leave_out_empty.Goals as goal

pub returns : goal.returns
returns c =
    let kept = filter_same _ takes_time _ (λ x b f k. search rules) _ _ c.retain.ensures.filtered in
    ap (λ ns. record c.args.job.now { needs = ns }) (c.from_vec.ensures ∙ kept ∙ ap (filter takes_time) c.take_all-needs.ensures.all)
