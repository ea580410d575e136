-- Where the chain leads.
use Rattle.std.proofs.Common.{◌≡◌, ◌<◌, length, sym, ap, subst, IfOk}
use Rattle.msp_table.specs.Rows.{carries}
use Rattle.msp_table.specs.Chains.{Leads, stay}
use Rattle.msp_carry.specs.Carried.{carried}
use Rattle.msp_carry.proofs.ChainSteps.{behind, first_step, no_rows, carried_on, IfOk-leads}
use Rattle.msp_carry.proofs.along.+carry_on.Goals as goal

pub carry_on-requires : goal.carry_on-requires
carry_on-requires t c =
    let first = first_step c.args.inst c.row-item.result c.args.rows.now c.requires.chain.0 c.in-len1-up.len_at_least c.row-item.is c.requires.chain.1 in
    let led = c.in_ok-lower-in-len1-up.ensures.led in
    (subst (λ n. length (behind c.args.rows.now) < n) c.decreases first.shorter, (led.inner, (c.requires.chain.0, first.rest c.in_ok-lower-in-len1-up.lower led)))

pub returns-in-empty-clause-class : goal.returns-in-empty-clause-class
returns-in-empty-clause-class t c = subst (λ rows. Leads carries c.args.inst.class rows c.args.inst.class) (sym (no_rows c.args.rows.now c.in-empty.len_below)) stay

pub returns-in_ok-lower-in-len1-up-clause-class : goal.returns-in_ok-lower-in-len1-up-clause-class
returns-in_ok-lower-in-len1-up-clause-class t c =
    IfOk-leads c.carry_on.result
    (first_step c.args.inst c.row-item.result c.args.rows.now c.requires.chain.0 c.in-len1-up.len_at_least c.row-item.is c.requires.chain.1)
    c.in_ok-lower-in-len1-up.ensures.led c.carry_on.ensures.class

pub down-requires-clause-carries : goal.down-requires-clause-carries
down-requires-clause-carries t c = (first_step c.args.inst c.row-item.result c.args.rows.now c.requires.chain.0 c.in-len1-up.len_at_least c.row-item.is c.requires.chain.1).usable

pub down-requires-clause-applies : goal.down-requires-clause-applies
down-requires-clause-applies t c = (first_step c.args.inst c.row-item.result c.args.rows.now c.requires.chain.0 c.in-len1-up.len_at_least c.row-item.is c.requires.chain.1).applies

pub returns-in-empty-clause-same : goal.returns-in-empty-clause-same
returns-in-empty-clause-same t c = ap (λ rows. carried rows c.args.inst) (sym (no_rows c.args.rows.now c.in-empty.len_below))

pub returns-in_ok-lower-in-len1-up-clause-same : goal.returns-in_ok-lower-in-len1-up-clause-same
returns-in_ok-lower-in-len1-up-clause-same t c =
    let first = first_step c.args.inst c.row-item.result c.args.rows.now c.requires.chain.0 c.in-len1-up.len_at_least c.row-item.is c.requires.chain.1 in
    subst (λ x. IfOk c.carry_on.result (λ j. j ≡ x)) (sym (carried_on first c.in_ok-lower-in-len1-up.ensures.same)) c.carry_on.ensures.same
