use Rattle.msp_slots.proofs.Places.{law_of_places}
use Rattle.msp_slots.proofs.laws.law_of_places.Goals as goal

pub returns : goal.returns
returns c = law_of_places
