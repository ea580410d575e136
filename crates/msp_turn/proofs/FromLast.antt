-- What is brought back over an exchange: the jobs lined up from the last end to the first.
use Rattle.std.proofs.Common.{◌≡◌, ℕ, List, reverse, length, AllPairs, IsPermutation, nat_abs, to_z, of_z, ◌≤ℤ◌, ◌∙◌, sym}
use Rattle.std.specs.Int.{w128}
use Rattle.std.specs.List.{range_with_len}
use Rattle.std.proofs.lemmas.List.Sorted.{IsPermutation-reverse, IsPermutation-trans}
use Rattle.std.proofs.lemmas.List.{reverse-reverse}
use Rattle.msp_instance.specs.declared.Instance.{Instance}
use Rattle.msp_instance.specs.Conditions.{Inner}
use Rattle.msp_pieces.specs.declared.Schedule.{Schedule}
use Rattle.msp_pieces.specs.Feasible.{Feasible}
use Rattle.msp_pieces.specs.Cost.{end_of}
use Rattle.msp_pieces.proofs.changes.Exchange.{AllPairs-reverse}
use Rattle.msp_route.specs.Bounds.{IsBounded}
use Rattle.msp_turn.specs.LinedUp.{from_last}
use Rattle.msp_turn.specs.laws.ExchangeRows.{IsExchange, IsBack-exchanged, from_last-below}
use Rattle.msp_turn.proofs.BroughtBack.{LinesUp, IsFoundLine, found_line}

module _ (row : ℕ) (i j : Instance) (x : IsExchange row i j) (lines : (t upper : Schedule) → LinesUp row t upper)
    (inner : Inner i) (t : Schedule) (f : Feasible j t) (b : IsBounded j t) (D count : ℕ) (order found : List ℕ)
    (unit : D ≡ nat_abs (to_z w128 (of_z w128 t.unit))) (c : count ≡ length i.jobs)
    (e : order ≡ found) (all : IsPermutation (range_with_len 0 count) found) (rises : AllPairs (λ a b. end_of t b ≤ℤ end_of t a) found) where
  twice : order ≡ reverse (reverse found)
  twice = e ∙ sym (reverse-reverse found)

  forward : IsPermutation (range_with_len 0 count) (reverse found)
  forward = IsPermutation-trans (range_with_len 0 count) found (reverse found) all (IsPermutation-reverse found)

  rising : AllPairs (λ a b. end_of t a ≤ℤ end_of t b) (reverse found)
  rising = AllPairs-reverse (λ a b. end_of t b ≤ℤ end_of t a) found rises

  pub last_line : IsFoundLine row i j (from_last i t) t D order
  last_line = found_line row i j t (from_last i t) reverse IsPermutation-reverse (from_last-below row i j x inner t) (lines t (from_last i t))
      x.env x.env_below x.exchange.0.count inner x.lower.inner (IsBack-exchanged row i j x inner t) f b D count order (reverse found) unit c twice forward rising
