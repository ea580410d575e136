use Rattle.std.proofs.Common.{subst}
use Rattle.msp_cert.specs.Search.{HasValue, IsFirst}
use Rattle.msp_cert.proofs.Tried.{first_append, first_stays}
use Rattle.msp_cert.proofs.search.earlier.Goals as goal

pub returns-in-Some : goal.returns-in-Some
returns-in-Some c = λ i cost all more a b. first_stays (HasValue i cost) all more c.in-Some.proof (subst (IsFirst (HasValue i cost) all) c.in-Some.is a)

pub returns-in-None : goal.returns-in-None
returns-in-None c = λ i cost all more a b. first_append (HasValue i cost) all more c.args.second (subst (IsFirst (HasValue i cost) all) c.in-None.is a) b
