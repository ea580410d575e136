-- The goals of `texts_are_read_one_way` that are proved by lemmas.
use Rattle.msp_file.proofs.instances.Readings.{reads_same}
use Rattle.msp_file.proofs.instance.read.texts_are_read_one_way.Goals as goal

pub returns : goal.returns
returns c = reads_same
