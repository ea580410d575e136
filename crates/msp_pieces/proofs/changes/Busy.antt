-- Moments at which some piece runs, and schedules from which all idle stretches are taken out.
use Rattle.std.proofs.Common.{◌≡◌, ℕ, zero, suc, ◌+◌, ◌*◌, ◌-◌, ◌≤◌, ◌<◌, ◌⊎◌, inl, inr, min, max, true, false, cond, List, [], ◌∷◌, length, get_or}
use Rattle.std.proofs.Common.{All, AllPairs, Contains, sum_by, ℤ, pos, nat_abs, ◌-ℤ◌, ◌*ℤ◌, ◌≤ℤ◌, refl, sym, ap, ap₂, subst, ◌∙◌, arith}
use Rattle.std.proofs.lemmas.List.{get_or_default}
use Rattle.std.proofs.lemmas.Bool.{cases_lt, and_from, and_left, and_right, or_left, or_right, lt-ltb, le-ltb, le-leb, lt-leb}
use Rattle.std.proofs.lemmas.Int.{ints}
use Rattle.std.proofs.lemmas.List.Sums.{sum_by-cons}
use Rattle.std.proofs.lemmas.List.Folds.{list_any_none}
use Rattle.std.proofs.lemmas.List.Elements.{Contains-get_or}
use native.Mathlib.Nat.{mul-le-mul_left}
use Rattle.msp_class.specs.Sums.{total_below}
use Rattle.msp_class.proofs.Sums.{cond-le, sum_by-mono, sum_by-total_below, total_below-mono, total_below-same, total_below-none, total_below-split, total_below-constant, total_below-bound}
use Rattle.msp_class.proofs.IntegerRing.{natural, pos-le, *ℤ-sub, *ℤ-zero}
use Rattle.msp_pieces.specs.declared.Piece.{Piece}
use Rattle.msp_pieces.specs.Intervals.{size_of}
use Rattle.msp_pieces.specs.Piece.{start, finish}
use Rattle.msp_pieces.proofs.feasible.OneMachine.{IsTimed-from_span}
use Rattle.msp_pieces.proofs.feasible.Frames.{Frame, Lasts, Fits}
use Rattle.msp_pieces.proofs.changes.Moves.{Suits}
use Rattle.msp_pieces.proofs.changes.Transport.{Stretches, Carries}
use Rattle.msp_pieces.specs.Busy.{runs, some_runs, busy, busy_moment}
use Rattle.std.proofs.lemmas.Bool.Decides.{nat_tests}

-- ---- in ℕ, for elements of any type with the moments at which they begin and end
module _ {X : Type 0} (from to : X → ℕ) where
  runs-no : (u : ℕ) (q : X) → (u < from q) ⊎ (to q ≤ u) → runs from to u q ≡ false
  runs-no u q h = elim h [ inl l ↦ and_left _ _ (lt-leb (from q) u l) | inr l ↦ and_right _ _ (le-ltb u (to q) l) ]

  some_runs-yes : (xs : List X) (u : ℕ) (q : X) → Contains xs q → from q ≤ u → u < to q → some_runs from to xs u ≡ true
  some_runs-yes [] u q c h k = absurd (omega (arith, c.1))
  some_runs-yes (x ∷ xs) u q (zero, l, e) h k =
      or_left _ (some_runs from to xs u) (ap (runs from to u) e ∙ and_from _ _ (le-leb (from q) u h) (lt-ltb u (to q) k))
  some_runs-yes (x ∷ xs) u q (suc n, l, e) h k = or_right (runs from to u x) _ (some_runs-yes xs u q (n, omega arith, e) h k)

  some_runs-no : (xs : List X) (u : ℕ) → All (λ q. (u < from q) ⊎ (to q ≤ u)) xs → some_runs from to xs u ≡ false
  some_runs-no xs u h = list_any_none (runs from to u) xs (λ k d l. runs-no u (get_or xs k d) (h k d l))

  busy-add : (xs : List X) (a b : ℕ) → a ≤ b → busy from to xs b ≡ busy from to xs a + total_below (b - a) (λ i. cond (some_runs from to xs (a + i)) 1 0)
  busy-add xs a b h = ap (busy from to xs) (let split : b ≡ a + (b - a) = omega arith in split) ∙ total_below-split a (b - a) (λ u. cond (some_runs from to xs u) 1 0)

  pub busy-mono : (xs : List X) (a b : ℕ) → a ≤ b → busy from to xs a ≤ busy from to xs b
  busy-mono xs a b h = omega (arith, busy-add xs a b h)

  pub busy-le : (xs : List X) (t : ℕ) → busy from to xs t ≤ t
  busy-le xs t = omega (arith, total_below-bound t 1 (λ u. cond (some_runs from to xs u) 1 0) (λ u l. cond-le (some_runs from to xs u) 1))

  -- over a stretch that an element fills it grows as time does
  pub busy-runs : (xs : List X) (q : X) → Contains xs q → (a b : ℕ) → from q ≤ a → a ≤ b → b ≤ to q → busy from to xs b ≡ busy from to xs a + (b - a)
  busy-runs xs q c a b h k l =
      busy-add xs a b k ∙ ap (λ n. busy from to xs a + n)
      (total_below-same (b - a) _ (λ _. 1) (λ i m. ap (λ t. cond t 1 0) (some_runs-yes xs (a + i) q c (omega arith) (omega arith))) ∙ total_below-constant (b - a) 1 ∙ omega arith)

  -- over a stretch at which none runs it stays
  pub busy-idle : (xs : List X) (a b : ℕ) → a ≤ b → All (λ q. (to q ≤ a) ⊎ (b ≤ from q)) xs → busy from to xs b ≡ busy from to xs a
  busy-idle xs a b k h =
      busy-add xs a b k ∙ ap (λ n. busy from to xs a + n)
      (total_below-none (b - a) _ (λ i m. ap (λ t. cond t 1 0) (some_runs-no xs (a + i) (λ j d l. let out = h j d l in grind (arith, out)))))
      ∙ omega arith

  -- one element runs as long as it lasts
  runs-length : (q : X) (t : ℕ) → total_below t (λ u. cond (runs from to u q) 1 0) ≤ min t (to q) - from q
  runs-length q zero = omega arith
  runs-length q (suc t) = grind (arith, nat_tests, runs-length q t)

  some_runs-sum : (xs : List X) (u : ℕ) → cond (some_runs from to xs u) 1 0 ≤ sum_by (λ q. cond (runs from to u q) 1 0) xs
  some_runs-sum [] u = omega arith
  some_runs-sum (x ∷ xs) u = grind (arith, some_runs-sum xs u, sum_by-cons (λ q. cond (runs from to u q) 1 0) x xs)

  -- the elements last at least as long together as some of them runs
  pub busy-lengths : (xs : List X) (t : ℕ) → busy from to xs t ≤ sum_by (size_of from to) xs
  busy-lengths xs t =
      omega (
        arith,
        total_below-mono t (λ u. cond (some_runs from to xs u) 1 0) (λ u. sum_by (λ q. cond (runs from to u q) 1 0) xs) (λ u l. some_runs-sum xs u),
        sum_by-total_below (λ q u. cond (runs from to u q) 1 0) t xs,
        sum_by-mono (λ q. total_below t (λ u. cond (runs from to u q) 1 0)) (size_of from to) xs (λ k d l. let q = get_or xs k d in omega (arith, runs-length q t)),
      )

  -- ---- a sweep over the elements in the order in which they begin
  -- it is the moment 0, or the end of one that begins before the k-th and all later ones
  abbrev pub Attains : List X → ℕ → ℕ → Type 0
  Attains xs k reach = (reach ≡ 0) ⊎ ((q : X) × Contains xs q × (to q ≡ reach) × ((i : ℕ) (d : X) → k ≤ i → i < length xs → from q ≤ from (get_or xs i d)))

  -- k of them are done: they end by `reach`, before which `idle` moments are idle
  pub record IsSwept (xs : List X) (k reach idle : ℕ) : Type 0 where
    pub ends : (i : ℕ) (d : X) → i < k → i < length xs → to (get_or xs i d) ≤ reach
    pub idle_is : busy from to xs reach + idle ≡ reach
    pub attained : Attains xs k reach

  pub IsSwept-none : (xs : List X) → IsSwept xs 0 0 0
  IsSwept-none xs = record { ends = λ i d l m. absurd (omega arith); idle_is = refl; attained = inl refl }

  -- what the next one adds to the idle moments, and what is busy before it and by its end
  pub record IsSweepStep (xs : List X) (k reach idle : ℕ) (p : X) (new : ℕ) : Type 0 where
    pub begins : busy from to xs (from p) + new ≡ from p
    pub finishes : busy from to xs (to p) + new ≡ to p
    pub next : IsSwept xs (k + 1) (max reach (to p)) new

  module _ (xs : List X) (rises : AllPairs (λ x y. from x ≤ from y) xs)
      (lasts : All (λ q. from q < to q) xs) (k reach idle : ℕ) (d : X) (inside : k < length xs) (so_far : IsSwept xs k reach idle) where
    abbrev p : X
    p = get_or xs k d

    later : (i : ℕ) (c : X) → k ≤ i → i < length xs → from p ≤ from (get_or xs i c)
    later i c l m = elim (cases_lt k i) [
      | inl less ↦ subst (λ x. from p ≤ from x) (get_or_default xs i d c m) (rises k i d less m)
      | inr past ↦ let same : k ≡ i = omega arith in omega (arith, ap from (ap (λ n. get_or xs n d) same ∙ get_or_default xs i d c m))
    ]

    abbrev new : ℕ
    new = idle + (from p - reach)

    begins : busy from to xs (from p) + new ≡ from p
    begins = elim (cases_lt reach (from p)) [
      | inl after ↦ omega (
        arith,
        busy-idle xs reach (from p) (omega arith) (λ i c m. elim (cases_lt i k) [ inl done ↦ inl (so_far.ends i c done m) | inr past ↦ inr (later i c (omega arith) m) ]),
        so_far.idle_is,
        after,
      )
      | inr before ↦ elim so_far.attained [
        | inl none ↦ omega (arith, so_far.idle_is, ap (busy from to xs) none, ap (busy from to xs) (let zero_from : from p ≡ 0 = omega (arith, none, before) in zero_from))
        | inr found ↦ let (q, c, e, h) = found in omega (arith, so_far.idle_is, busy-runs xs q c (from p) reach (h k d (omega arith) inside) (omega arith) (omega (arith, e)), before)
      ]
    ]

    lasts_here : from p < to p
    lasts_here = lasts k d inside

    finishes : busy from to xs (to p) + new ≡ to p
    finishes = omega (arith, begins, lasts_here, busy-runs xs p (Contains-get_or xs k d inside) (from p) (to p) (omega arith) (omega (arith, lasts_here)) (omega arith))

    next_reach : (busy from to xs (max reach (to p)) + new ≡ max reach (to p)) × Attains xs (k + 1) (max reach (to p))
    next_reach = elim (cases_lt reach (to p)) [
      | inl after ↦ let e : to p ≡ max reach (to p) = omega arith in
          (subst (λ r. busy from to xs r + new ≡ r) e finishes, subst (Attains xs (k + 1)) e (inr (p, Contains-get_or xs k d inside, refl, λ i c l m. later i c (omega arith) m)))
      | inr before ↦ let e : reach ≡ max reach (to p) = omega arith in
          (subst (λ r. busy from to xs r + new ≡ r) e (omega (arith, so_far.idle_is, before, lasts_here)), subst (Attains xs (k + 1)) e (kept so_far.attained))
    ]
      where
        kept : Attains xs k reach → Attains xs (k + 1) reach
        kept (inl none) = inl none
        kept (inr (q, c, e, h)) = inr (q, c, e, λ i b l m. h i b (omega arith) m)

    pub IsSwept-next : IsSweepStep xs k reach idle p new
    IsSwept-next = record {
      begins = begins;
      finishes = finishes;
      next = record {
        ends = λ i c l m. elim (cases_lt i k) [
          | inl less ↦ omega (arith, so_far.ends i c less m)
          | inr past ↦ let same : k ≡ i = omega arith in omega (arith, ap to (ap (λ n. get_or xs n d) same ∙ get_or_default xs i d c m))
        ];
        idle_is = next_reach.0;
        attained = next_reach.1;
      };
    }

-- ---- pieces, with moments e times as long
module _ (e : ℕ) (ps : List Piece) where
  pub Stretches-busy : 1 ≤ e → All Lasts ps → Stretches ps (pos e) (busy_moment e ps)
  Stretches-busy some lasts = record {
    factor = pos-le some;
    zero_is = *ℤ-zero (pos e);
    monotone = λ x y p h. pos-le (mul-le-mul_left e (busy-mono start finish ps (nat_abs x) (nat_abs y) (omega (arith, ints))));
    long = λ k d l. long (get_or ps k d) (Contains-get_or ps k d l) (lasts k d l);
  }
    where
      long : (p : Piece) → Contains ps p → Lasts p → (busy_moment e ps p.to -ℤ busy_moment e ps p.from) ≡ pos e *ℤ (p.to -ℤ p.from)
      long p c h =
          let t = IsTimed-from_span p h in
          let more = busy-runs start finish ps p c (start p) (finish p) (omega arith) (omega (arith, t.lasts)) (omega arith) in
          let grown : pos (busy start finish ps (finish p)) -ℤ pos (busy start finish ps (start p)) ≡ pos (finish p) -ℤ pos (start p) = omega (arith, ints, more, t.lasts) in
          sym (*ℤ-sub (pos e) (pos (busy start finish ps (finish p))) (pos (busy start finish ps (start p))))
          ∙ ap (λ z. pos e *ℤ z) (grown ∙ sym (ap₂ ◌-ℤ◌ t.to t.from))

  -- no moment is later than e times what it was, or than e times all pieces together
  pub busy_moment-le : (x : ℤ) → pos 0 ≤ℤ x → busy_moment e ps x ≤ℤ (pos e *ℤ x)
  busy_moment-le x h = subst (λ y. busy_moment e ps x ≤ℤ (pos e *ℤ y)) (sym (natural x h)) (pos-le (mul-le-mul_left e (busy-le start finish ps (nat_abs x))))

  pub busy_moment-lengths : (x : ℤ) → busy_moment e ps x ≤ℤ pos (e * sum_by (size_of start finish) ps)
  busy_moment-lengths x = pos-le (mul-le-mul_left e (busy-lengths start finish ps (nat_abs x)))

-- closed: over a frame without heads, the pieces at e times their busy moments fit a frame whose operations want e times as much
pub Carries-closed : (f g : Frame) (D E : ℤ) (ps : List Piece) (e : ℕ) → 1 ≤ e → pos 1 ≤ℤ E → Fits f D ps
    → Suits f g D E (pos e) (λ j o. o) → ((j : ℕ) → j < f.jobs → g.head j ≡ 0) → All (Contains f.arcs) g.arcs → (g.routed ≡ true → f.routed ≡ true)
    → Carries f g D E ps (pos e) (busy_moment e ps) (λ j o. o)
Carries-closed f g D E ps e some unit fits suits heads arcs routed = record {
  unit = unit;
  moments = Stretches-busy e ps some fits.span;
  operations = suits;
  heads = λ k d l inside h. subst (λ m. (E *ℤ pos m) ≤ℤ busy_moment e ps (get_or ps k d).from)
      (sym (heads (get_or ps k d).job inside)) (subst (λ z. z ≤ℤ busy_moment e ps (get_or ps k d).from) (sym (*ℤ-zero E)) (pos-le (omega arith)));
  arcs = arcs;
  routed = λ r. inl (routed r);
}
