-- Proofs that are tried, by kind.
use Rattle.std.proofs.Common.{ℕ, ◌+◌, ◌<◌, List, length, map, Contains, arith}
use Rattle.std.specs.Prelude.{take}
use Rattle.std.specs.List.{range_with_len}
use Rattle.std.proofs.lemmas.List.Elements.{Contains-append_left, Contains-append_right}
use Rattle.std.proofs.lemmas.List.FromFn.{length-map-range_with_len, get_or-map-range_with_len}
use Rattle.msp_instance.specs.declared.Instance.{Instance}
use Rattle.msp_cert.specs.declared.Proof.{Proof}
use Rattle.msp_cert.specs.declared.Proof.TheVariants.{Group, Machine, Line, Levels}
use Rattle.msp_cert.specs.Search.{groups, machines, lines, tried}

in_range : (f : ℕ → Proof) (n k : ℕ) → k < n → Contains (map f (range_with_len 0 n)) (f k)
in_range f n k l = (k, omega (arith, l, length-map-range_with_len f 0 n), get_or-map-range_with_len f 0 n k k (f k) l (omega arith))

module _ (i : Instance) (longest level : List ℕ) where
  pub tried-group : (k : ℕ) → k < length i.jobs → Contains (tried i longest level) (Group (take (k + 1) longest))
  tried-group k l = Contains-append_left (groups i longest) _ _ (in_range (λ n. Group (take (n + 1) longest)) (length i.jobs) k l)

  pub tried-machine : (m : ℕ) → m < i.machines → Contains (tried i longest level) (Machine m)
  tried-machine m l = Contains-append_right (groups i longest) _ _ (Contains-append_left (machines i) _ _ (in_range Machine i.machines m l))

  pub tried-line : (j : ℕ) → j < length i.jobs → Contains (tried i longest level) (Line j)
  tried-line j l = Contains-append_right (groups i longest) _ _ (Contains-append_right (machines i) _ _ (Contains-append_left (lines i) _ _ (in_range Line (length i.jobs) j l)))

  pub tried-levels : (tail : ℕ) → tail < length i.jobs → Contains (tried i longest level) (Levels level tail)
  tried-levels tail l = Contains-append_right (groups i longest) _ _ (Contains-append_right (machines i) _ _ (Contains-append_right (lines i) _ _ (in_range (Levels level) (length i.jobs) tail l)))
