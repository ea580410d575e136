-- The goal of `put_certificate` that is proved by a lemma.
use Rattle.std.proofs.Common.{List, ℕ, ◌++◌, ◌∷◌, [], ◌∙◌, ap, codes}
use Rattle.msp_grammar.specs.InstanceText.{line_text}
use Rattle.msp_grammar.proofs.PrintLemmas.{on_ok, five_put}
use Rattle.msp_cert_text.specs.CertificateText.{certificate_text}
use Rattle.msp_cert_text.proofs.printer.put_certificate.Goals as goal

pub returns : goal.returns
unfolding certificate_text
returns c =
    let kind = ap (λ (word : List ℕ). c.put_bound.new.out.items ++ line_text (codes "kind" ∷ word ∷ [])) c.kind_word.ensures in
    on_ok _ (five_put _ _ _ _ _ _ _ _ _ _ _ c.in_ok-put.ensures.added c.in_ok-put_bound.ensures (c.in_ok-put_two.ensures ∙ kind) c.in_ok-put_proof.ensures)
    c.put-2.ensures.added
