-- The goals of `accept_text` that are proved by lemmas.
use Rattle.msp_report.proofs.CertifyLemmas.{accept_made}
use Rattle.msp_report.proofs.certify.accept_text.Goals as goal

pub returns : goal.returns
returns c =
    accept_made c.args.inst.now c.args.cert.now c.args.yes c.lowest-bound.result c.kind_word.result.now c.new-text.result.items c.put_accept_lines.new.out.items
    c.lowest-bound.ensures.same c.lowest-bound.ensures.lowest c.kind_word.ensures c.new-text.ensures.items c.in_ok-put_accept_lines.ensures
