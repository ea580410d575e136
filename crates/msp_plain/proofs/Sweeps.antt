-- A sweep over pieces that closes the stretches in which none of them runs.
use Rattle.std.proofs.Common.{◌≡◌, ℕ, ◌+◌, ◌-◌, ◌<◌, ◌≤◌, max, List, length, get_or, slice_set, All, AllPairs, inl, inr, ℤ, pos, nat_abs, ◌+ℤ◌, ◌-ℤ◌, ◌*ℤ◌, ◌≤ℤ◌, sym, ap, ap₂, subst, ◌∙◌, arith}
use Rattle.std.specs.Int.{int_max}
use Rattle.std.proofs.lemmas.Int.{ints, clamps}
use Rattle.std.proofs.lemmas.List.{length-map, get_or-map}
use native.Mathlib.Nat.{mul-le-mul_left}
use Rattle.msp_class.proofs.IntegerRing.{pos-le, ≤ℤ_trans}
use Rattle.msp_pieces.specs.declared.Piece.{Piece}
use Rattle.msp_pieces.specs.Settled.{IsReportedFirst}
use Rattle.msp_pieces.proofs.feasible.Frames.{Lasts}
use Rattle.msp_pieces.specs.Piece.{start, finish}
use Rattle.msp_pieces.proofs.feasible.OneMachine.{IsTimed-from_span}
use Rattle.msp_pieces.proofs.changes.SettledSchedules.{Halfway, Halfway-start, Halfway-step, Halfway-all}
use Rattle.msp_pieces.specs.Busy.{busy_moment}
use Rattle.msp_pieces.proofs.changes.Busy.{busy-mono, IsSwept, IsSwept-none, IsSwept-next, IsSweepStep}
use Rattle.msp_route.specs.declared.bounds.TheConstants.{GREATEST_CLOSED_UP}
use Rattle.msp_plain.specs.Equal.{moved, closed}

-- the first k pieces are closed and the others as they were, and the sweep is past the first k
pub record IsSweeping (time : ℕ) (xs zs : List Piece) (k : ℕ) (reach idle : ℤ) : Type 0 where
  pub halfway : Halfway xs (closed time xs) zs k
  pub swept : IsSwept start finish xs k (nat_abs reach) (nat_abs idle)
  pub idle_from : pos 0 ≤ℤ idle
  pub idle_to : idle ≤ℤ reach

pub IsSweeping-start : (time : ℕ) (xs : List Piece) → IsSweeping time xs xs 0 (pos 0) (pos 0)
IsSweeping-start time xs = record {
  halfway = Halfway-start xs (closed time xs);
  swept = IsSwept-none start finish xs;
  idle_from = pos-le (omega arith);
  idle_to = pos-le (omega arith);
}

-- what the sweep past one more piece says of its moments
pub record IsPast (time : ℕ) (xs : List Piece) (k : ℕ) (p : Piece) (reach idle : ℤ) : Type 0 where
  pub swept : IsSwept start finish xs (k + 1) (nat_abs reach) (nat_abs idle)
  pub idle_from : pos 0 ≤ℤ idle
  pub idle_to : idle ≤ℤ reach
  pub begins : idle ≤ℤ p.from
  pub ends : idle ≤ℤ p.to
  pub from_is : (pos time *ℤ (p.from -ℤ idle)) ≡ busy_moment time xs p.from
  pub to_is : (pos time *ℤ (p.to -ℤ idle)) ≡ busy_moment time xs p.to
  pub increases : busy_moment time xs p.from ≤ℤ busy_moment time xs p.to

module _ (time : ℕ) (xs zs : List Piece) (span : All Lasts xs) (sorted : AllPairs IsReportedFirst xs) (k : ℕ) (d : Piece) (inside : k < length xs) (reach idle after later : ℤ) where
  abbrev p : Piece
  p = get_or xs k d

  timed : (q : Piece) → Lasts q → start q < finish q
  timed q h = (IsTimed-from_span q h).lasts

  rises : AllPairs (λ x y. start x ≤ start y) xs
  rises i j c l m = sooner (get_or xs i c) (get_or xs j c) (span i c (omega arith)) (span j c m) (sorted i j c l m)
    where
      sooner : (x y : Piece) → Lasts x → Lasts y → IsReportedFirst x y → start x ≤ start y
      sooner x y a b (inl h) = let t = IsTimed-from_span x a in let u = IsTimed-from_span y b in omega (arith, ints, t.from, u.from, h)
      sooner x y a b (inr h) = omega (arith, ap nat_abs h.0)

  pub IsPast-next : IsSwept start finish xs k (nat_abs reach) (nat_abs idle)
      → pos 0 ≤ℤ idle → idle ≤ℤ reach → after ≡ int_max reach p.to → later ≡ idle +ℤ int_max (pos 0) (p.from -ℤ reach) → IsPast time xs k p after later
  IsPast-next swept low high after_is later_is =
      let step = IsSwept-next start finish xs rises (λ n c l. timed (get_or xs n c) (span n c l)) k (nat_abs reach) (nat_abs idle) d inside swept in
      let t = IsTimed-from_span p (span k d inside) in
      let new : later ≡ pos (nat_abs idle + (start p - nat_abs reach)) = added idle reach p.from later (start p) low high t.from later_is in
      let old : after ≡ pos (max (nat_abs reach) (finish p)) = reached idle reach p.to after (finish p) low high t.to after_is in
      made (nat_abs idle + (start p - nat_abs reach)) new old step
    where
      added : (i r x l : ℤ) (n : ℕ) → pos 0 ≤ℤ i → i ≤ℤ r → x ≡ pos n → l ≡ i +ℤ int_max (pos 0) (x -ℤ r) → l ≡ pos (nat_abs i + (n - nat_abs r))
      added i r x l n a b e f = omega (arith, ints, clamps)

      reached : (i r x a : ℤ) (n : ℕ) → pos 0 ≤ℤ i → i ≤ℤ r → x ≡ pos n → a ≡ int_max r x → a ≡ pos (max (nat_abs r) n)
      reached i r x a n b c e f = omega (arith, ints, clamps)

      rest : (x l : ℤ) (m n b : ℕ) → x ≡ pos m → l ≡ pos n → b + n ≡ m → (x -ℤ l) ≡ pos b
      rest x l m n b e f g = omega (arith, ints)

      below : (x l : ℤ) (m n b : ℕ) → x ≡ pos m → l ≡ pos n → b + n ≡ m → l ≤ℤ x
      below x l m n b e f g = omega (arith, ints)

      within : (l a : ℤ) (n b s f r : ℕ) → l ≡ pos n → a ≡ pos (max r f) → b + n ≡ s → s < f → l ≤ℤ a
      within l a n b s f r e g h k = omega (arith, ints)

      made : (new : ℕ) → later ≡ pos new → after ≡ pos (max (nat_abs reach) (finish p)) → IsSweepStep start finish xs k (nat_abs reach) (nat_abs idle) p new → IsPast time xs k p after later
      made new e f step =
          let t = IsTimed-from_span p (span k d inside) in record {
            swept = subst (λ i. IsSwept start finish xs (k + 1) (nat_abs after) i) (sym (ap nat_abs e)) (subst (λ r. IsSwept start finish xs (k + 1) r new) (sym (ap nat_abs f)) step.next);
            idle_from = subst (λ z. pos 0 ≤ℤ z) (sym e) (pos-le (omega arith));
            idle_to = within later after new _ (start p) (finish p) (nat_abs reach) e f step.begins t.lasts;
            begins = below p.from later (start p) new _ t.from e step.begins;
            ends = below p.to later (finish p) new _ t.to e step.finishes;
            from_is = ap (λ z. pos time *ℤ z) (rest p.from later (start p) new _ t.from e step.begins);
            to_is = ap (λ z. pos time *ℤ z) (rest p.to later (finish p) new _ t.to e step.finishes);
            increases = pos-le (mul-le-mul_left time (busy-mono start finish xs (start p) (finish p) (omega (arith, t.lasts))));
          }

  -- the sweep as the loop makes its step, where the piece is read from the list in part closed
  module _ (small : All (λ q. q.to ≤ℤ GREATEST_CLOSED_UP) (closed time xs)) (sweeping : IsSweeping time xs zs k reach idle) (long : length zs ≡ length xs)
      (after_is : after ≡ int_max reach (get_or zs k d).to) (later_is : later ≡ idle +ℤ int_max (pos 0) ((get_or zs k d).from -ℤ reach)) where
    same : get_or zs k d ≡ get_or xs k d
    same = sweeping.halfway.left k d (omega arith)

    pub IsPast-read : IsPast time xs k (get_or zs k d) after later
    IsPast-read = subst (λ q. IsPast time xs k q after later) (sym same)
        (IsPast-next sweeping.swept sweeping.idle_from sweeping.idle_to (after_is ∙ ap (λ q. int_max reach q.to) same) (later_is ∙ ap (λ q. idle +ℤ int_max (pos 0) (q.from -ℤ reach)) same))

    small_here : busy_moment time xs (get_or zs k d).to ≤ℤ GREATEST_CLOSED_UP
    small_here = subst (λ q. q.to ≤ℤ GREATEST_CLOSED_UP) (get_or-map (moved (busy_moment time xs)) xs k d d inside ∙ ap (moved (busy_moment time xs)) (sym same))
        (small k d (omega (arith, length-map xs (moved (busy_moment time xs)))))

    pub small_from : (pos time *ℤ ((get_or zs k d).from -ℤ later)) ≤ℤ GREATEST_CLOSED_UP
    small_from = subst (λ z. z ≤ℤ GREATEST_CLOSED_UP) (sym IsPast-read.from_is) (≤ℤ_trans IsPast-read.increases small_here)

    pub small_to : (pos time *ℤ ((get_or zs k d).to -ℤ later)) ≤ℤ GREATEST_CLOSED_UP
    small_to = subst (λ z. z ≤ℤ GREATEST_CLOSED_UP) (sym IsPast-read.to_is) small_here

    pub IsSweeping-next : (new : Piece) → new ≡ moved (λ x. pos time *ℤ (x -ℤ later)) (get_or zs k d) → IsSweeping time xs (slice_set zs k new) (k + 1) after later
    IsSweeping-next new e = record {
      halfway = Halfway-step (moved (busy_moment time xs)) xs zs k new d (omega (arith, long, inside))
          long (e ∙ ap₂ (λ x y. record (get_or zs k d) { from = x; to = y }) IsPast-read.from_is IsPast-read.to_is) sweeping.halfway;
      swept = IsPast-read.swept;
      idle_from = IsPast-read.idle_from;
      idle_to = IsPast-read.idle_to;
    }

pub all_closed : (time : ℕ) (xs zs : List Piece) (k : ℕ) (reach idle : ℤ) → length zs ≡ length xs → length xs ≤ k → IsSweeping time xs zs k reach idle → zs ≡ closed time xs
all_closed time xs zs k reach idle long past h = Halfway-all xs (closed time xs) zs k (omega arith) (omega (arith, length-map xs (moved (busy_moment time xs)))) h.halfway
