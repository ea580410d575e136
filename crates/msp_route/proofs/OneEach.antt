-- Schedules in which each job has one piece, within the bounds of an answer.
use Rattle.std.proofs.Common.{ℕ, List, pos, ◌≤ℤ◌, arith}
use Rattle.msp_class.specs.Env.{kind_of}
use Rattle.msp_instance.specs.declared.Instance.{Instance}
use Rattle.msp_pieces.specs.declared.Piece.{Piece}
use Rattle.msp_route.specs.Bounds.{IsAnswer, answer_unit}
use Rattle.msp_pieces.proofs.feasible.OneEach.{one_each_many}
pub use Rattle.msp_pieces.proofs.feasible.OneEach.{IsUncut, IsUncut-identical, AreOneEach, one_each_is_feasible, one_each_is_within}

pub one_each_is_answer : (i : Instance) → IsUncut i → (unit : ℕ) (pieces : List Piece)
    → AreOneEach i unit pieces → pos unit ≤ℤ answer_unit (kind_of i.class.env) → IsAnswer i (record { unit = pos unit; pieces = pieces })
one_each_is_answer i uncut unit pieces each bounded = record { few = omega (arith, one_each_many i uncut unit pieces each, uncut.few); unit = bounded; ends = each.ends }
