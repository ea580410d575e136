-- The cut law of two stages of work: at any moment, what is over on the first machine by then and what is not begun on the second one fits.
use Rattle.std.proofs.Common.{ℕ, ◌+◌, ◌*◌, ◌-◌, ◌≤◌, cond, leb, List, All, sum_by, ap, arith}
use Rattle.msp_class.proofs.Sums.{sum_by-add}

-- Items with a time on a first machine and one on a second, and for each a moment by which its first time is over and before which its
-- second one does not begin. Up to any moment the first machine has room for the first times that are over by then, and from there to the
-- end the second one for the second times that do not begin before. On either machine each may lie in many pieces, between those of others.
pub record HaveTwoStages {X : Type 0} (first second ready : X → ℕ) (unit end : ℕ) (items : List X) : Type 0 where
  pub inside : All (λ x. ready x ≤ end) items
  pub over : (z : ℕ) → z ≤ end → unit * sum_by (λ x. cond (leb (ready x) z) (first x) 0) items ≤ z
  pub to_come : (z : ℕ) → z ≤ end → unit * sum_by (λ x. cond (leb z (ready x)) (second x) 0) items ≤ end - z

-- the first time where it is over by the moment, and the second time where the first one is not over before it
abbrev pub around_cut : {X : Type 0} → (X → ℕ) → (X → ℕ) → (X → ℕ) → ℕ → X → ℕ
around_cut first second ready z x = cond (leb (ready x) z) (first x) 0 + cond (leb z (ready x)) (second x) 0

pub cut_law : {X : Type 0} (first second ready : X → ℕ) (unit end : ℕ) (items : List X) → HaveTwoStages first second ready unit end items
    → (z : ℕ) → z ≤ end → unit * sum_by (around_cut first second ready z) items ≤ end
cut_law first second ready unit end items h z inside = omega (
  arith,
  inside,
  h.over z inside,
  h.to_come z inside,
  ap (λ n. unit * n) (sum_by-add (λ x. cond (leb (ready x) z) (first x) 0) (λ x. cond (leb z (ready x)) (second x) 0) items),
)
