use Rattle.msp_places.proofs.OwnPlaces.{law_of_earliest_places}
use Rattle.msp_places.proofs.laws.law_of_earliest_places.Goals as goal

pub returns : goal.returns
returns c = law_of_earliest_places
