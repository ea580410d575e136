use Rattle.std.proofs.Common.{◌∙◌}
use Rattle.msp_stairs.proofs.Tasks.{date_kept, scaled_fits, scaled_held, scaled_small}
use Rattle.msp_stairs.proofs.search.over_machines.Goals as goal

pub overflow_mul-result : goal.overflow_mul-result
overflow_mul-result c = scaled_fits c.from.result c.from-2.result c.from-3.result c.args.machines c.args.time c.args.due c.from.ensures c.from-2.ensures
    (c.from-3.ensures ∙ date_kept c.args.due c.requires.date) c.requires.few c.requires.time c.requires.date

pub returns-clause-value : goal.returns-clause-value
returns-clause-value c = scaled_held c.from.result c.from-2.result c.from-3.result c.args.machines c.args.time c.args.due c.from.ensures c.from-2.ensures
    (c.from-3.ensures ∙ date_kept c.args.due c.requires.date) c.requires.few c.requires.time c.requires.date

pub returns-clause-size : goal.returns-clause-size
returns-clause-size c = scaled_small c.from.result c.from-2.result c.from-3.result c.args.machines c.args.time c.args.due c.from.ensures c.from-2.ensures
    (c.from-3.ensures ∙ date_kept c.args.due c.requires.date) c.requires.few c.requires.time c.requires.date
