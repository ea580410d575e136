-- What an instance of the class has.
use Rattle.std.proofs.Common.{◌≡◌, ap}
use Rattle.msp_instance.specs.declared.Instance.{Instance}
use Rattle.msp_instance.specs.Conditions.{Inner}
use Rattle.msp_pieces.proofs.feasible.OfClass.{IsOfClass, IsOfClass-from}
use Rattle.msp_route.proofs.OneInstances.{IsOneInstance, IsOneInstance-from}
use Rattle.msp_srpt.specs.Shortest.{shortest_class}

pub record IsShortestInstance (i : Instance) : Type 0 where
  pub one : IsOneInstance i
  pub of : IsOfClass i shortest_class

pub IsShortestInstance-from_class : (i : Instance) → i.class ≡ shortest_class → Inner i → IsShortestInstance i
IsShortestInstance-from_class i e h = record { one = IsOneInstance-from i (ap (λ c. c.env) e) h; of = IsOfClass-from i shortest_class e h }
