-- Pieces in another order are closed to the same pieces in another order.
use Rattle.std.proofs.Common.{◌≡◌, ℕ, cond, List, get_or, IsPermutation, ℤ, pos, nat_abs, ◌*ℤ◌, sym, ap, ap₂, subst}
use Rattle.std.proofs.lemmas.List.Sorted.{IsPermutation-map, list_any-IsPermutation}
use Rattle.msp_class.proofs.Sums.{total_below-same}
use Rattle.msp_pieces.specs.declared.Piece.{Piece}
use Rattle.msp_pieces.proofs.feasible.Frames.{map-same}
use Rattle.msp_pieces.specs.Piece.{start, finish}
use Rattle.msp_pieces.specs.Busy.{runs, busy, busy_moment}
use Rattle.msp_plain.specs.Equal.{moved, closed}

busy-permutation : (ps qs : List Piece) (t : ℕ) → IsPermutation ps qs → busy start finish ps t ≡ busy start finish qs t
busy-permutation ps qs t h = total_below-same t _ _ (λ u l. ap (λ b. cond b 1 0) (list_any-IsPermutation (runs start finish u) ps qs h))

pub closed-permutation : (time : ℕ) (ps qs : List Piece) → IsPermutation ps qs → IsPermutation (closed time ps) (closed time qs)
closed-permutation time ps qs h =
    subst (IsPermutation (closed time ps)) (map-same (moved (busy_moment time ps)) (moved (busy_moment time qs)) qs (λ k d l. same (get_or qs k d)))
    (IsPermutation-map (moved (busy_moment time ps)) ps qs h)
  where
    moment : (x : ℤ) → busy_moment time ps x ≡ busy_moment time qs x
    moment x = ap (λ n. pos time *ℤ pos n) (busy-permutation ps qs (nat_abs x) h)

    same : (p : Piece) → moved (busy_moment time ps) p ≡ moved (busy_moment time qs) p
    same p = ap₂ (λ x y. record p { from = x; to = y }) (moment p.from) (moment p.to)

-- the pieces as they are taken out, and as they are read once they are in order
pub put_in_order : (ps taken sorted read : List Piece) → taken ≡ ps → IsPermutation taken sorted → read ≡ sorted → IsPermutation ps read
put_in_order ps taken sorted read e h f = subst (IsPermutation ps) (sym f) (subst (λ l. IsPermutation l sorted) e h)
