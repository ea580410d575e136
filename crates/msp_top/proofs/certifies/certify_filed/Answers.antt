-- The goals of `certify_filed` that are proved by lemmas.
use Rattle.std.proofs.Common.{inl, refl}
use Rattle.msp_top.specs.Certifies.{certified}
use Rattle.msp_top.proofs.Exits.{failed}
use Rattle.msp_top.proofs.CertifyAnswers.{uncertified_first}
use Rattle.msp_top.proofs.CertifiedTexts.{certificate_stated, lowest_bound}
use Rattle.msp_top.proofs.certifies.certify_filed.Goals as goal

pub returns-in_err-certified : goal.returns-in_err-certified
returns-in_err-certified c =
    rw (failed _ c.from_residual.ensures.1) (uncertified_first c.args.filed.now c.in_err-certified.field-0.0 c.in_err-certified.ensures)

pub certify_text-requires-clause-stated : goal.certify_text-requires-clause-stated
certify_text-requires-clause-stated c = certificate_stated _ c.args.filed.now.instance _ c.requires.named c.in_ok-certified.ensures

pub certify_text-requires-clause-bound : goal.certify_text-requires-clause-bound
certify_text-requires-clause-bound c = lowest_bound _ _ c.in_ok-certified.ensures

pub returns-in_err-text : goal.returns-in_err-text
returns-in_err-text c = rw (failed _ c.from_residual-in_err-text.ensures.1) (inl (refl, refl))

pub returns : goal.returns
returns c = λ input read. certified c.in_ok-text.text.items (record {
  names = c.args.filed.now.names;
  instance = c.args.filed.now.instance;
  certified = c.in_ok-certified.certified;
  read = read;
  answered = c.in_ok-certified.ensures;
  printed = c.in_ok-text.ensures;
})
