-- The schedules of the rules as answers, with what they cost.
use Rattle.std.proofs.Common.{◌≡◌, ◌⊎◌, List}
use Rattle.msp_instance.specs.declared.Instance.{Instance}
use Rattle.msp_instance.specs.Conditions.{Inner}
use Rattle.msp_pieces.specs.declared.Piece.{Piece}
use Rattle.msp_pieces.proofs.feasible.OfClass.{IsOfClass-from}
use Rattle.msp_cut_sums.specs.Sums.{cut_sum_class, cut_weights_class, open_weights_class, cut_open_weights_class, IsCutSumCost, IsWeightsCost, IsOpenCost}
use Rattle.msp_cut_sums.specs.Schedules.{IsStackedSchedule, IsBlockedSchedule, IsRoundSchedule}
use Rattle.msp_cut_sums.specs.Pieces.{IsStacked, IsBlocked, IsSquared}
use Rattle.msp_cut_sums.proofs.Instances.{IsEvenShop-from}
use Rattle.msp_cut_sums.proofs.Stacked.{stacked_answer}
use Rattle.msp_cut_sums.proofs.Blocked.{blocked_answer}
use Rattle.msp_cut_sums.proofs.Squared.{squared_answer}
use Rattle.msp_cut_sums.proofs.Summed.{IsSolved, over_one}

pub IsSolved-stacked : (i : Instance) → i.class ≡ cut_sum_class → Inner i → (pieces : List Piece) → IsStacked i pieces → IsSolved i (IsCutSumCost i) (IsStackedSchedule i) (over_one pieces)
IsSolved-stacked i class inner pieces (order, ends, sorted, are, small, e) =
    rw e (stacked_answer i (IsOfClass-from i cut_sum_class class inner) order sorted ends are small)

pub IsSolved-blocked : (i : Instance) → i.class ≡ cut_weights_class → Inner i → (pieces : List Piece) → IsBlocked i pieces → IsSolved i (IsWeightsCost i) (IsBlockedSchedule i) (over_one pieces)
IsSolved-blocked i class inner pieces (order, sorted, e) = rw e (blocked_answer i (IsOfClass-from i cut_weights_class class inner) order sorted)

pub IsSolved-squared : (i : Instance) → (i.class ≡ open_weights_class) ⊎ (i.class ≡ cut_open_weights_class)
    → Inner i → (pieces : List Piece) → IsSquared i pieces → IsSolved i (IsOpenCost i) (IsRoundSchedule i) (over_one pieces)
IsSolved-squared i class inner pieces (order, sorted, e) = rw e (squared_answer i (IsEvenShop-from i class inner) order sorted)
