-- The schedules of the rules as the public clauses tell them: which pieces they are, and that no operation is cut.
use Rattle.std.proofs.Common.{◌≡◌, ◌≢◌, ℕ, ◌+◌, ◌*◌, ◌-◌, ◌/◌, ◌%◌, ◌<◌, ◌≤◌, List, map, get_or, All, AllPairs, sym, ap, ◌∙◌, arith, zero-add}
use Rattle.std.specs.List.{range_with_len}
use Rattle.std.proofs.lemmas.List.Elements.{All-map}
use Rattle.std.proofs.lemmas.List.FromFn.{get_or-range_with_len, length-range_with_len}
use Rattle.msp_class.proofs.Quotients.{block_and_rest, rest_small, same_block}
use Rattle.msp_instance.specs.declared.Instance.{Instance}
use Rattle.msp_pieces.specs.declared.Piece.{Piece}
use Rattle.msp_pieces.proofs.changes.Moves.{AllPairs-map}
use Rattle.msp_route.proofs.Placed.{Places, piece_at, pieces_at, ArePlaced}
use Rattle.msp_cut_sums.specs.Schedules.{part, round_piece}
use Rattle.msp_cut_sums.specs.Pieces.{slot, squared_piece}

-- the pieces of places, each with an operation of its own
module _ (i : Instance) (ops : ℕ) (ps : Places) (placed : ArePlaced i ops ps) where
  pub placed_uncut : AllPairs (λ p q. p.job ≡ q.job → p.op ≢ q.op) (pieces_at ps)
  placed_uncut = AllPairs-map (λ (p q : Piece). p.job ≡ q.job → p.op ≢ q.op) (piece_at ps) (range_with_len 0 ps.count) apart
    where
      apart : AllPairs (λ x y. ps.job x ≡ ps.job y → ps.op x ≢ ps.op y) (range_with_len 0 ps.count)
      apart a b d l k e f =
          let inside : b < ps.count = omega (arith, k, length-range_with_len 0 ps.count) in
          let first : get_or (range_with_len 0 ps.count) a d ≡ a = get_or-range_with_len 0 ps.count a d (omega (arith, l, inside)) ∙ zero-add a in
          let second : get_or (range_with_len 0 ps.count) b d ≡ b = get_or-range_with_len 0 ps.count b d inside ∙ zero-add b in
          placed.once a b l inside (ap ps.job (sym first) ∙ e ∙ ap ps.job second) (ap ps.op (sym first) ∙ f ∙ ap ps.op second)

-- ---- round the machines
module _ (m : ℕ) (some : 1 ≤ m) where
  comes_round : (k x : ℕ) → x < m → (k + (x + (m - k % m)) % m) % m ≡ x
  comes_round k x l =
      let y = x + (m - k % m) in
      (same_block m ((k + y % m) / m + y / m) (k / m + 1) ((k + y % m) % m) x (rest_small m (k + y % m) some) l
      (omega (arith, block_and_rest m (k + y % m), block_and_rest m y, block_and_rest m k, rest_small m k some))).1

  pub round_pieces : (time n N : ℕ) (order : List ℕ) → ((x : ℕ) → x < N → x / m < n)
      → All (λ p. (k : ℕ) × (r : ℕ) × (k < n) × (r < m) × (p ≡ round_piece m time order k r)) (map (squared_piece m time order) (range_with_len 0 N))
  round_pieces time n N order inside = All-map (λ p. (k : ℕ) × (r : ℕ) × (k < n) × (r < m) × (p ≡ round_piece m time order k r)) (squared_piece m time order) (range_with_len 0 N)
      (λ a d l. one (get_or (range_with_len 0 N) a d) (omega (arith, l, length-range_with_len 0 N, get_or-range_with_len 0 N a d (omega (arith, l, length-range_with_len 0 N)))))
    where
      one : (x : ℕ) → x < N → (k : ℕ) × (r : ℕ) × (k < n) × (r < m) × (squared_piece m time order x ≡ round_piece m time order k r)
      one x l = (
        x / m,
        (x % m + (m - x / m % m)) % m,
        inside x l,
        rest_small m (x % m + (m - x / m % m)) some,
        ap (λ c. part (get_or order (x / m) 0) c c (slot m (x / m) (x % m) * time) ((slot m (x / m) (x % m) + 1) * time))
            (sym (comes_round (x / m) (x % m) (rest_small m x some))),
      )
