use Rattle.msp_instance.proofs.Limits.{Inner-from_class}
use Rattle.msp_cert.specs.declared.Proof.TheVariants.{Prices}
use Rattle.msp_dispatch.specs.declared.certify.Maker.TheVariants as maker
use Rattle.msp_dispatch.specs.Certify.{priced}
use Rattle.msp_dispatch.proofs.evidence.Others.{IsWholeValue-prices}
use Rattle.msp_dispatch.proofs.evidence.Certified.{IsCertifiable-made, Certifies-whole}
use Rattle.msp_dispatch.proofs.certify.by_prices.Goals as goal

pub solve_with_prices-requires-clause-inner : goal.solve_with_prices-requires-clause-inner
solve_with_prices-requires-clause-inner c = Inner-from_class c.args.inst.now c.requires.inside

pub certified-requires-clause-class : goal.certified-requires-clause-class
certified-requires-clause-class c = IsCertifiable-made c.args.inst.now maker.Unrelated c.requires.class tt

pub certified-requires-clause-shown : goal.certified-requires-clause-shown
certified-requires-clause-shown c =
    let i = c.args.inst.now in
    let s = c.reported-solution.result in
    let r = c.reported-solution.ensures.reported in
    let a = c.in_ok-solution.field-0.prices in
    let h = c.in_ok-solution.ensures in
    Certifies-whole i s (Prices a.row_price a.column_price)
    r (IsWholeValue-prices i c.requires.inside c.requires.class s r.best a h.prices h.small) (priced a c.requires.class h.prices h.positions h.small)
