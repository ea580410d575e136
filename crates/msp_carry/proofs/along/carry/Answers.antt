-- Where the chain leads.
use Rattle.std.proofs.Common.{◌≡◌, ◌∙◌, sym, ap, subst, IfOk}
use Rattle.std.proofs.lemmas.Result.{IfOk-weaker}
use Rattle.msp_instance.specs.Conditions.{Inner}
use Rattle.msp_table.specs.Rows.{carries}
use Rattle.msp_table.specs.Chains.{Leads}
use Rattle.msp_carry.specs.Carried.{carried, IsChainTo}
use Rattle.msp_carry.proofs.ChainSteps.{first_step, no_rows, carried_on, IfOk-stay, IfOk-leads}
use Rattle.msp_carry.proofs.along.carry.Goals as goal

pub carry_on-requires-clause-chain : goal.carry_on-requires-clause-chain
carry_on-requires-clause-chain c =
    let chain = subst (λ rows. IsChainTo c.args.inst.now rows c.requires.chain.0) (sym c.as_slice.ensures) c.requires.chain.1 in
    let first = first_step c.args.inst.now c.row-item.result c.as_slice.result.now c.requires.chain.0 c.in-len1-up.len_at_least c.row-item.is chain in
    (c.requires.chain.0, first.rest c.in_ok-lower-in-len1-up.lower c.in_ok-lower-in-len1-up.ensures.led)

pub returns-in-empty-clause-class : goal.returns-in-empty-clause-class
returns-in-empty-clause-class c =
    subst (λ rows. IfOk c.recast.result (λ j. Leads carries c.args.inst.now.class rows j.class)) c.as_slice.ensures
    (IfOk-stay c.args.inst.now c.as_slice.result.now c.recast.result c.in-empty.len_below c.recast.ensures)

pub returns-in_ok-lower-in-len1-up-clause-class : goal.returns-in_ok-lower-in-len1-up-clause-class
returns-in_ok-lower-in-len1-up-clause-class c =
    let chain = subst (λ rows. IsChainTo c.args.inst.now rows c.requires.chain.0) (sym c.as_slice.ensures) c.requires.chain.1 in
    let first = first_step c.args.inst.now c.row-item.result c.as_slice.result.now c.requires.chain.0 c.in-len1-up.len_at_least c.row-item.is chain in
    subst (λ rows. IfOk c.carry_on.result (λ j. Leads carries c.args.inst.now.class rows j.class)) c.as_slice.ensures
    (IfOk-leads c.carry_on.result first c.in_ok-lower-in-len1-up.ensures.led c.carry_on.ensures.class)

pub down-requires-clause-carries : goal.down-requires-clause-carries
down-requires-clause-carries c =
    let chain = subst (λ rows. IsChainTo c.args.inst.now rows c.requires.chain.0) (sym c.as_slice.ensures) c.requires.chain.1 in
    (first_step c.args.inst.now c.row-item.result c.as_slice.result.now c.requires.chain.0 c.in-len1-up.len_at_least c.row-item.is chain).usable

pub down-requires-clause-applies : goal.down-requires-clause-applies
down-requires-clause-applies c =
    let chain = subst (λ rows. IsChainTo c.args.inst.now rows c.requires.chain.0) (sym c.as_slice.ensures) c.requires.chain.1 in
    (first_step c.args.inst.now c.row-item.result c.as_slice.result.now c.requires.chain.0 c.in-len1-up.len_at_least c.row-item.is chain).applies

pub returns-in-empty-clause-same : goal.returns-in-empty-clause-same
returns-in-empty-clause-same c = subst (λ rows. IfOk c.recast.result (λ j. j ≡ carried rows c.args.inst.now))
    (sym (no_rows c.as_slice.result.now c.in-empty.len_below) ∙ c.as_slice.ensures) c.recast.ensures

pub returns-in-empty-clause-inner : goal.returns-in-empty-clause-inner
returns-in-empty-clause-inner c = IfOk-weaker c.recast.result (λ j. j ≡ c.args.inst.now) Inner (λ j same. subst Inner (sym same) c.requires.inner) c.recast.ensures

pub returns-in_ok-lower-in-len1-up-clause-same : goal.returns-in_ok-lower-in-len1-up-clause-same
returns-in_ok-lower-in-len1-up-clause-same c =
    let chain = subst (λ rows. IsChainTo c.args.inst.now rows c.requires.chain.0) (sym c.as_slice.ensures) c.requires.chain.1 in
    let first = first_step c.args.inst.now c.row-item.result c.as_slice.result.now c.requires.chain.0 c.in-len1-up.len_at_least c.row-item.is chain in
    subst (λ x. IfOk c.carry_on.result (λ j. j ≡ x))
    (sym (carried_on first c.in_ok-lower-in-len1-up.ensures.same) ∙ ap (λ rows. carried rows c.args.inst.now) c.as_slice.ensures) c.carry_on.ensures.same
