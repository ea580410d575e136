-- The class of jobs of one time that the rule of heads solves, what the rule says, and how early the jobs end by it.
use Rattle.std.specs.Prelude.{◌≡◌, ℕ, zero, suc, ◌+◌, ◌<◌, ◌≤◌, ◌⊎◌, max, true, false, List, length, map, slice_index_or, All, AllPairs, IsPermutation, ℤ, pos, ◌*ℤ◌, ◌≤ℤ◌}
use Rattle.std.specs.List.{range_with_len}
use Rattle.msp_class.specs.declared.class.Class.{Class}
use Rattle.msp_class.specs.declared.class.Env.TheVariants.{One}
use Rattle.msp_class.specs.declared.class.Order.TheVariants.{Prec}
use Rattle.msp_class.specs.declared.class.Times.TheVariants.{Equal}
use Rattle.msp_class.specs.declared.class.Crit.TheVariants.{SumC}
use Rattle.msp_instance.specs.declared.Instance.{Instance}
use Rattle.msp_pieces.specs.declared.Piece.{Piece}
use Rattle.msp_pieces.specs.declared.Schedule.{Schedule}
use Rattle.msp_pieces.specs.Cost.{end_of}
use Rattle.msp_pieces.specs.Feasible.{Feasible}
use Rattle.msp_pieces.specs.Piece.{start, finish, no_piece}
use Rattle.msp_pieces.specs.BackToBack.{piece, time_at}
use Rattle.msp_route.specs.Heads.{head_in, AreHeads}

-- One machine, precedence, release dates, equal times, and the sum of the completion times: `1|prec,r,p=p|sumC`.
abbrev pub equal_heads_class : Class
equal_heads_class = record { env = One; cut = false; order = Prec; heads = true; times = Equal; crit = SumC }

-- The piece of a number, from 0, and the moment at which the one before it ends.
abbrev pub piece_number : List Piece → ℕ → Piece
piece_number pieces k = slice_index_or pieces k no_piece

abbrev pub end_before : List Piece → ℕ → ℕ
end_before pieces zero = 0
end_before pieces (suc k) = finish (piece_number pieces k)

-- One job runs before another: its head is the lesser one, or it is the same and its number is.
abbrev pub HeadsBefore : List ℕ → ℕ → ℕ → Type 0
HeadsBefore heads a b = (head_in heads a < head_in heads b) ⊎ ((head_in heads a ≡ head_in heads b) × (a ≤ b))

-- The pieces are one of each job, whole, by rising head, and each begins at the end of the one before it, or at its head where that is later.
pub record RunInOrder (i : Instance) (heads : List ℕ) (pieces : List Piece) : Type 0 where
  pub all : IsPermutation (range_with_len 0 (length i.jobs)) (map (λ p. p.job) pieces)
  pub rising : AllPairs (HeadsBefore heads) (map (λ p. p.job) pieces)
  pub whole : All (λ p. p ≡ piece p.job (start p) (start p + time_at i p.job)) pieces
  pub early : (k : ℕ) → k < length pieces → start (piece_number pieces k) ≡ max (end_before pieces k) (head_in heads (piece_number pieces k).job)

-- The same for the release dates raised along the arcs.
abbrev pub RunByHeads : Instance → List Piece → Type 0
RunByHeads i pieces = (heads : List ℕ) × AreHeads i heads × RunInOrder i heads pieces

-- The ends of all jobs in rising order, and the one of a number, from 0.
abbrev pub AreSortedEnds : Instance → Schedule → List ℤ → Type 0
AreSortedEnds i s ends = IsPermutation (map (end_of s) (range_with_len 0 (length i.jobs))) ends × AllPairs ◌≤ℤ◌ ends

abbrev pub end_number : List ℤ → ℕ → ℤ
end_number ends k = slice_index_or ends k (pos 0)

-- For each k, the k-th end of any feasible schedule, over any unit, is no earlier than the k-th end here.
abbrev pub EndsFirst : Instance → Schedule → Type 0
EndsFirst i s = (t : Schedule) (mine its : List ℤ) → Feasible i t → AreSortedEnds i s mine → AreSortedEnds i t its
    → (k : ℕ) → k < length i.jobs → (end_number mine k *ℤ t.unit) ≤ℤ (end_number its k *ℤ s.unit)
