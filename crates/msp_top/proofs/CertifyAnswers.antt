-- The answer to `certify`.
use Rattle.std.proofs.Common.{inl, inr, Err, refl}
use Rattle.msp_grammar.specs.declared.filed.Filed.{Filed}
use Rattle.msp_dispatch.specs.declared.Uncertified.{Uncertified}
use Rattle.msp_dispatch.specs.declared.Uncertified.TheVariants.{Memory}
use Rattle.msp_dispatch.specs.Certify.{IsUncertified}
use Rattle.msp_top.specs.Certifies.{CertifyIsRight, uncertified}
use Rattle.msp_top.specs.Refusals.{of_uncertified}
use Rattle.msp_top.specs.Answers.{Answers, OfFiled}

pub uncertified_first : (filed : Filed) (why : Uncertified) → IsUncertified filed.instance why → Answers (OfFiled CertifyIsRight filed) (Err (of_uncertified why))
uncertified_first filed Memory h = inl (refl, refl)
uncertified_first filed why h = inr (λ input read. uncertified filed.names filed.instance why read (λ e. cc) h)
