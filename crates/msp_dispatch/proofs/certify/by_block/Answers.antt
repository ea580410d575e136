use Rattle.msp_instance.proofs.Limits.{Inner-from_class}
use Rattle.msp_cert.specs.declared.Proof.TheVariants.{Block}
use Rattle.msp_dispatch.specs.declared.certify.Maker.TheVariants as maker
use Rattle.msp_dispatch.specs.Certify.{bounded}
use Rattle.msp_dispatch.proofs.evidence.Others.{IsWholeValue-block}
use Rattle.msp_dispatch.proofs.evidence.Certified.{IsCertifiable-made, Certifies-whole}
use Rattle.msp_dispatch.proofs.certify.by_block.Goals as goal

pub solve_with_block-requires-clause-inner : goal.solve_with_block-requires-clause-inner
solve_with_block-requires-clause-inner c = Inner-from_class c.args.inst.now c.requires.inside

pub certified-requires-clause-class : goal.certified-requires-clause-class
certified-requires-clause-class c = IsCertifiable-made c.args.inst.now maker.Blocks c.requires.class tt

pub certified-requires-clause-shown : goal.certified-requires-clause-shown
certified-requires-clause-shown c =
    let i = c.args.inst.now in
    let s = c.reported-solution.result in
    let r = c.reported-solution.ensures.reported in
    let b = c.in_ok-solution.field-0.block in
    let h = c.in_ok-solution.ensures in
    Certifies-whole i s (Block b.head b.jobs) r (IsWholeValue-block i c.requires.inside c.requires.class s r.best b.head b.jobs h.block h.value.0 h.value.1 h.value.2 h.small)
    (bounded b.head b.jobs h.value.0 c.requires.class h.block h.value.1 h.value.2 h.small)
