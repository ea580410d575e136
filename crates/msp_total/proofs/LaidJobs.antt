-- Jobs that are laid on machines: their pieces are apart, and how often the time of each counts in the sum of all ends.
use Rattle.std.proofs.Common.{◌≡◌, ◌≢◌, ℕ, zero, suc, ◌+◌, ◌*◌, ◌-◌, ◌<◌, ◌≤◌, inl, inr, Bool, true, false, cond, eqb, List, [], ◌∷◌, length, get_or, map, sum_by, All, le_trans, zero-add}
use Rattle.std.proofs.Common.{AllPairs, Contains, pos, refl, sym, ap, subst, ◌∙◌, arith}
use Rattle.std.proofs.lemmas.Bool.{eq-eqb, cases_eq, cases_lt}
use Rattle.std.proofs.lemmas.List.{length-map, get_or-map, get_or_default}
use Rattle.std.proofs.lemmas.List.Elements.{All-nil, All-cons, All-head, All-tail}
use Rattle.std.proofs.lemmas.List.Kept.{AllPairs-cons}
use Rattle.std.proofs.lemmas.List.Sums.{sum_by-cons}
use Rattle.msp_class.specs.Sums.{total_below}
use Rattle.msp_class.proofs.Sums.{cond-yes, cond-le, sum_by-mono, sum_by-constant, sum_by-map, sum_by-OnceBelow, total_below-same, total_below-add, total_below-none}
use Rattle.msp_class.proofs.Sums.{total_below-only, OnceBelow, OnceBelow-distinct}
use Rattle.std.proofs.lemmas.Int.{ints}
use Rattle.msp_pieces.specs.declared.Piece.{Piece}
use Rattle.msp_pieces.specs.Piece.{length_of, job_of, start, finish, IsTimed}
use Rattle.msp_pieces.specs.Intervals.{IsApart}
use Rattle.msp_pieces.proofs.lists.Intervals.{last_of, last_of-least}
use Rattle.msp_total.specs.declared.lay.Place.{Place}
use Rattle.msp_total.specs.Places.{no_place, time_on, piece_until, laid}
use Rattle.msp_total.specs.Turns.{machine_at}
use Rattle.msp_total.specs.Multipliers.{seats}

-- ---- totals from the first number on
pub total_below-first : (n : ℕ) (f : ℕ → ℕ) → total_below (suc n) f ≡ f 0 + total_below n (λ r. f (suc r))
total_below-first zero f = omega arith
total_below-first (suc n) f = omega (arith, total_below-first n f)

-- ---- the time of a machine
pub time_on-cons : (m : ℕ) (p : Place) (ps : List Place) → time_on m (p ∷ ps) ≡ cond (eqb p.machine m) p.length 0 + time_on m ps
time_on-cons m p ps = sum_by-cons (λ q. cond (eqb q.machine m) q.length 0) p ps

pub time_on-own : (p : Place) (ps : List Place) → time_on p.machine (p ∷ ps) ≡ p.length + time_on p.machine ps
time_on-own p ps = omega (arith, time_on-cons p.machine p ps, cond-yes p.length (eq-eqb p.machine p.machine refl))

pub time_on-most : (m most : ℕ) (ps : List Place) → All (λ p. p.length ≤ most) ps → time_on m ps ≤ length ps * most
time_on-most m most ps h =
    let each = sum_by-mono (λ p. cond (eqb p.machine m) p.length 0) (λ _. most) ps
    (λ k d l. le_trans (cond-le (eqb (get_or ps k d).machine m) (get_or ps k d).length) (h k d l)) in
    omega (arith, each, sum_by-constant most ps)

-- ---- the pieces
-- the piece of a job, with those that stand after it
abbrev pub piece_before : Place → List Place → Piece
piece_before p ps = piece_until (time_on p.machine (p ∷ ps)) p

pub laid-length : (ps : List Place) → length (laid ps) ≡ length ps
laid-length [] = refl
laid-length (p ∷ ps) = ap suc (laid-length ps)

pub laid-jobs : (ps : List Place) → map (λ q. q.job) (laid ps) ≡ map (λ p. p.job) ps
laid-jobs [] = refl
laid-jobs (p ∷ ps) = ap (λ l. p.job ∷ l) (laid-jobs ps)

pub laid-All : (P : Piece → Type 0) (ps : List Place) → ((p : Place) (rest : List Place) → Contains ps p → length rest < length ps → P (piece_before p rest)) → All P (laid ps)
laid-All P [] h = All-nil P
laid-All P (p ∷ ps) h = All-cons P (piece_before p ps) (laid ps) (h p ps (0, omega arith, refl) (omega arith)) (laid-All P ps (λ q rest c l. h q rest (suc c.0, omega (arith, c.1), c.2) (omega arith)))

-- what a piece has
pub record IsMade (p : Place) (rest : List Place) : Type 0 where
  pub timed : IsTimed (piece_before p rest)
  pub begin : start (piece_before p rest) ≡ time_on p.machine rest
  pub long : finish (piece_before p rest) - start (piece_before p rest) ≡ p.length

pub piece_made : (p : Place) (rest : List Place) → 0 < p.length → IsMade p rest
piece_made p rest some =
    let own = time_on-own p rest in
    record {
      timed = record { from = refl; to = refl; lasts = omega arith };
      begin = omega arith;
      long = omega arith;
    }

-- how long it lasts
pub piece_long : (p : Place) (rest : List Place) → length_of (piece_before p rest) ≡ pos p.length
piece_long p rest = omega (arith, ints, time_on-own p rest)

laid-below : (m : ℕ) (ps : List Place) → All (λ q. q.machine ≡ m → finish q ≤ time_on m ps) (laid ps)
laid-below m [] = All-nil (λ q. q.machine ≡ m → finish q ≤ time_on m [])
laid-below m (p ∷ ps) =
    All-cons (λ q. q.machine ≡ m → finish q ≤ time_on m (p ∷ ps)) (piece_before p ps) (laid ps) (λ e. omega (arith, ap (λ y. time_on y (p ∷ ps)) e))
    (λ k d l e. omega (arith, laid-below m ps k d l e, time_on-cons m p ps))

-- the pieces of one machine are apart
pub laid-apart : (ps : List Place) → All (λ p. 0 < p.length) ps → AllPairs (λ a b. a.machine ≡ b.machine → IsApart start finish a b) (laid ps)
laid-apart [] h = λ i j d a b. absurd (omega arith)
laid-apart (p ∷ ps) h =
    AllPairs-cons (λ a b. a.machine ≡ b.machine → IsApart start finish a b) (piece_before p ps) (laid ps)
    (λ k d l e. let made = piece_made p ps (All-head (λ q. 0 < q.length) p ps h) in inr (omega (arith, made.begin, laid-below p.machine ps k d l (sym e))))
    (laid-apart ps (All-tail (λ q. 0 < q.length) p ps h))

-- no piece ends after the time of all jobs
pub ends_soon : (most : ℕ) (ps : List Place) → All (λ p. p.length ≤ most) ps → All (λ q. finish q ≤ length ps * most) (laid ps)
ends_soon most [] h = All-nil (λ q. finish q ≤ 0 * most)
ends_soon most (p ∷ ps) h =
    All-cons (λ q. finish q ≤ length (p ∷ ps) * most) (piece_before p ps) (laid ps) (time_on-most p.machine most (p ∷ ps) h)
    (λ k d l. omega (arith, ends_soon most ps (All-tail (λ q. q.length ≤ most) p ps h) k d l))

-- ---- the sum of all ends
abbrev pub length_at : List Place → ℕ → ℕ
length_at ps r = (get_or ps r no_place).length

-- over jobs that stand before, so many on each machine
counted : (bound : ℕ) (ps : List Place) (c : ℕ → ℕ) → All (λ p. p.machine < bound) ps →
    total_below (length ps) (λ r. length_at ps r * (c (machine_at ps r) + seats (machine_at ps) r (machine_at ps r) + 1)) ≡ sum_by finish (laid ps) + total_below bound (λ m. c m * time_on m ps)
counted bound [] c h = omega (arith, total_below-none bound (λ m. c m * 0) (λ m l. omega arith))
counted bound (p ∷ ps) c h =
    let m = p.machine in
    total_below-first (length ps) f
    ∙ ap (λ x. f 0 + x) (total_below-same (length ps) (λ r. f (suc r)) (λ r. length_at ps r * (next (machine_at ps r) + seats (machine_at ps) r (machine_at ps r) + 1))
    (λ r l. ap (λ x. length_at ps r * (x + 1)) (step (machine_at ps r) r)) ∙ counted bound ps next (All-tail (λ q. q.machine < bound) p ps h))
    ∙ by _ _ _ _ _ _ _ _ _ (sum_by-cons finish (piece_before p ps) (laid ps)) (time_on-own p ps) left right
  where
    f : ℕ → ℕ
    f r = length_at (p ∷ ps) r * (c (machine_at (p ∷ ps) r) + seats (machine_at (p ∷ ps)) r (machine_at (p ∷ ps) r) + 1)

    next : ℕ → ℕ
    next i = c i + cond (eqb p.machine i) 1 0

    step : (i r : ℕ) → c i + seats (machine_at (p ∷ ps)) (suc r) i ≡ next i + seats (machine_at ps) r i
    step i r = omega (arith, total_below-first r (λ a. cond (eqb (machine_at (p ∷ ps) a) i) 1 0))

    inside : p.machine < bound
    inside = All-head (λ q. q.machine < bound) p ps h

    left : total_below bound (λ m. next m * time_on m ps) ≡ total_below bound (λ m. c m * time_on m ps) + time_on p.machine ps
    left =
        total_below-same bound _ (λ m. c m * time_on m ps + cond (eqb p.machine m) (time_on m ps) 0) (λ m l. one (c m) (time_on m ps) (eqb p.machine m))
        ∙ total_below-add bound (λ m. c m * time_on m ps) (λ m. cond (eqb p.machine m) (time_on m ps) 0)
        ∙ ap (λ x. total_below bound (λ m. c m * time_on m ps) + x) (total_below-only bound (λ m. time_on m ps) p.machine inside)
      where
        one : (a t : ℕ) (b : Bool) → (a + cond b 1 0) * t ≡ a * t + cond b t 0
        one a t true = omega arith
        one a t false = omega arith

    right : total_below bound (λ m. c m * time_on m (p ∷ ps)) ≡ total_below bound (λ m. c m * time_on m ps) + c p.machine * p.length
    right =
        total_below-same bound _ (λ m. c m * time_on m ps + cond (eqb p.machine m) (c m * p.length) 0)
        (λ m l. ap (λ x. c m * x) (time_on-cons m p ps) ∙ one (c m) (time_on m ps) p.length (eqb p.machine m))
        ∙ total_below-add bound (λ m. c m * time_on m ps) (λ m. cond (eqb p.machine m) (c m * p.length) 0)
        ∙ ap (λ x. total_below bound (λ m. c m * time_on m ps) + x) (total_below-only bound (λ m. c m * p.length) p.machine inside)
      where
        one : (a t u : ℕ) (b : Bool) → a * (cond b u 0 + t) ≡ a * t + cond b (a * u) 0
        one a t u true = omega arith
        one a t u false = omega arith

    -- l: the length; a: those on the machine before; t: the time after; o, e, g: the time from it on, the ends, all ends; x, y, z: the weighted times
    by : (l a t o e g x y z : ℕ) → g ≡ o + e → o ≡ l + t → x ≡ z + t → y ≡ z + a * l → l * (a + 0 + 1) + (e + x) ≡ g + y
    by l a t o e g x y z p q u v = omega (arith, p, q, u, v)

-- the time of a job counts once for itself, and once for each job on its machine that stands before it in the list
pub sum_of_laid_ends : (bound : ℕ) (ps : List Place) → All (λ p. p.machine < bound) ps
    → sum_by finish (laid ps) ≡ total_below (length ps) (λ r. length_at ps r * (seats (machine_at ps) r (machine_at ps r) + 1))
sum_of_laid_ends bound ps h = omega (
  arith,
  counted bound ps (λ _. 0) h,
  total_below-none bound (λ m. 0 * time_on m ps) (λ m l. omega arith),
  total_below-same (length ps) (λ r. length_at ps r * (0 + seats (machine_at ps) r (machine_at ps r) + 1))
      (λ r. length_at ps r * (seats (machine_at ps) r (machine_at ps r) + 1)) (λ r l. ap (λ x. length_at ps r * (x + 1)) (zero-add (seats (machine_at ps) r (machine_at ps r)))),
)

-- ---- each job has one piece
module _ (n : ℕ) (ps : List Place) (jobs : OnceBelow n (map (λ p. p.job) ps)) where
  laid-once : OnceBelow n (map (λ q. q.job) (laid ps))
  laid-once = subst (OnceBelow n) (sym (laid-jobs ps)) jobs

  pub laid-distinct : AllPairs (λ a b. a.job ≢ b.job) (laid ps)
  laid-distinct a b d l k e =
      let kb : b < length (map (λ q. q.job) (laid ps)) = omega (arith, k, length-map (laid ps) (λ q. q.job)) in
      OnceBelow-distinct laid-once a b 0 l kb (get_or-map (λ q. q.job) (laid ps) a d 0 (omega (arith, k, l)) ∙ e ∙ sym (get_or-map (λ q. q.job) (laid ps) b d 0 k))

  same_piece : (k m : ℕ) (d : Piece) → k < length (laid ps) → m < length (laid ps) → (get_or (laid ps) m d).job ≡ (get_or (laid ps) k d).job → get_or (laid ps) m d ≡ get_or (laid ps) k d
  same_piece k m d l h e = elim (cases_eq m k) as (λ _. get_or (laid ps) m d ≡ get_or (laid ps) k d) [
    | inl same ↦ ap (λ x. get_or (laid ps) x d) same
    | inr n ↦ elim (cases_lt m k) [ inl less ↦ absurd (laid-distinct m k d less l e) | inr more ↦ absurd (laid-distinct k m d (omega (arith, n, more)) h (sym e)) ]
  ]

  -- the ends of the jobs sum to no more than those of the pieces
  pub ends_of_jobs : total_below n (last_of job_of finish (laid ps)) ≤ sum_by finish (laid ps)
  ends_of_jobs =
      subst (λ x. x ≤ sum_by finish (laid ps)) (sym (sum_by-map (last_of job_of finish (laid ps)) (λ q. q.job) (laid ps)) ∙ sum_by-OnceBelow (last_of job_of finish (laid ps)) laid-once)
      (sum_by-mono (λ q. last_of job_of finish (laid ps) q.job) finish (laid ps)
      (λ k d l. last_of-least job_of finish (laid ps) (get_or (laid ps) k d).job (finish (get_or (laid ps) k d)) (λ m c h e. omega (arith, ap finish (one k m d c l h e)))))
    where
      one : (k m : ℕ) (d c : Piece) → k < length (laid ps) → m < length (laid ps) → (get_or (laid ps) m c).job ≡ (get_or (laid ps) k d).job → get_or (laid ps) m c ≡ get_or (laid ps) k d
      one k m d c l h e =
          let same = get_or_default (laid ps) m c d h in
          same ∙ same_piece k m d l h (ap (λ q. q.job) (sym same) ∙ e)
