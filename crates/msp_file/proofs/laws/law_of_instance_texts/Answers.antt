-- The goal of `law_of_instance_texts` that is proved by a lemma.
use Rattle.msp_file.proofs.OneWay.{law_of_instance_texts}
use Rattle.msp_file.proofs.laws.law_of_instance_texts.Goals as goal

pub returns : goal.returns
returns c = law_of_instance_texts
