-- Finer units, and where a job has gained enough.
use Rattle.std.proofs.Common.{◌≡◌, ℕ, zero, suc, ◌+◌, ◌*◌, ◌-◌, ◌<◌, ◌≤◌, ◌⊎◌, inl, inr, false, true, cond, eqb, List, [], ◌∷◌, ◌++◌, length, take, drop, get_or, drop-cons, append-nil, mul-lt-mul_of_pos_right}
use Rattle.std.proofs.Common.{append_assoc, All, sym, ap, subst, ◌∙◌, add-one, arith}
use Rattle.std.specs.Int.{◌∣◌}
use Rattle.std.proofs.Math.Nat.{mul-le-mul_left, dvd-mul_left}
use Rattle.std.proofs.lemmas.List.{drop_all, take_all}
use Rattle.std.proofs.lemmas.List.Elements.{AllZip-push, All-nil, All-cons, All-head, All-tail}
use Rattle.msp_class.specs.declared.sizes.TheConstants.{GREATEST_SPEED}
use Rattle.msp_class.proofs.Sums.{sum_by-cons, sum_by-append, total_below-same, sum_by-take_more, sum_by-mono}
use Rattle.msp_instance.proofs.MultipleLemmas.{All-append_left}
use Rattle.msp_uniform.specs.declared.segments.Segment.{Segment}
use Rattle.msp_uniform.specs.Segments.{at, job_on, place_at, IsSegment, IsPartOf, rate_at, gain_at, job_rate, amount, CanGain, StopsAt, IsSeeking, IsDifference}
use Rattle.msp_uniform.specs.Segments.{AreScaled, AreScaledUpTo, HasPlaces, greatest_length}
use Rattle.msp_uniform.proofs.OrderFacts.{All-append_right}
use Rattle.std.proofs.lemmas.List.Sums.{get_or-le-sum_by, sum_by-take-le}

-- an amount with one more segment
pub amount-more : (rate : Segment → ℕ) (xs : List Segment) (k : ℕ) (x : Segment) → k < length xs → x ≡ get_or xs k x → amount rate (take (k + 1) xs) ≡ amount rate (take k xs) + x.length * rate x
amount-more rate xs k x l is = sum_by-take_more (λ y. y.length * rate y) xs k x l ∙ ap (λ y. amount rate (take k xs) + y.length * rate y) (sym is)

pub amount-all : (rate : Segment → ℕ) (xs : List Segment) (k : ℕ) → length xs ≤ k → amount rate (take k xs) ≡ amount rate xs
amount-all rate xs k l = ap (amount rate) (take_all k xs l)

-- all segments hold no more than their time at the greatest rate
pub amount-least : (rate : Segment → ℕ) (b : ℕ) (xs : List Segment) → All (λ x. rate x ≤ b) xs → amount rate xs ≤ amount (λ _. 1) xs * b
amount-least rate b [] h = omega arith
amount-least rate b (x ∷ xs) h = omega (
  arith,
  sum_by-cons (λ y. y.length * rate y) x xs,
  ap (λ n. n * b) (sum_by-cons (λ y. y.length * 1) x xs),
  mul-le-mul_left x.length (All-head (λ y. rate y ≤ b) x xs h),
  amount-least rate b xs (All-tail (λ y. rate y ≤ b) x xs h),
)

pub amount-mono : (f g : Segment → ℕ) (xs : List Segment) → All (λ x. f x ≤ g x) xs → amount f xs ≤ amount g xs
amount-mono f g xs h = sum_by-mono (λ x. x.length * f x) (λ x. x.length * g x) xs (λ k d l. mul-le-mul_left (get_or xs k d).length (h k d l))

pub length-short : (xs : List Segment) → All (λ x. x.length ≤ amount (λ _. 1) xs) xs
length-short xs k d l = omega (arith, get_or-le-sum_by (λ y. y.length * 1) xs k d l)

-- ---- where enough is gained
module _ (rate : Segment → ℕ) where
  pub IsSeeking-start : (whole : ℕ) (xs : List Segment) → IsSeeking rate whole whole 0 xs
  IsSeeking-start whole xs = record { stops = λ d s. s; gains = omega arith }

  pub StopsAt-end : (whole left k : ℕ) (xs : List Segment) → length xs ≤ k → whole ≤ amount rate xs → IsSeeking rate whole left k xs → StopsAt rate whole xs 1
  StopsAt-end whole left k xs l e h =
      let none : left ≡ 0 = omega (arith, h.gains, amount-all rate xs k l, e) in
      h.stops 1 (subst (λ ys. StopsAt rate left ys 1) (sym (drop_all k xs l)) none)

  pub IsSeeking-next : (whole left k : ℕ) (xs : List Segment) (x : Segment) → k < length xs
      → x ≡ get_or xs k x → x.length * rate x ≤ left → IsSeeking rate whole left k xs → IsSeeking rate whole (left - x.length * rate x) (k + 1) xs
  IsSeeking-next whole left k xs x l is m h = record {
    stops = λ d s. h.stops d (subst (λ ys. StopsAt rate left ys d) (sym (drop-cons xs k x l))
        (subst (λ y. StopsAt rate left (y ∷ drop (suc k) xs) d) is (inl (m, subst (λ n. StopsAt rate (left - x.length * rate x) (drop n xs) d) (add-one k) s))));
    gains = omega (arith, h.gains, amount-more rate xs k x l is, m);
  }

  pub StopsAt-here : (whole left k : ℕ) (xs : List Segment) (x : Segment) (d : ℕ)
      → k < length xs → x ≡ get_or xs k x → left < x.length * rate x → d ≡ rate x → IsSeeking rate whole left k xs → StopsAt rate whole xs d
  StopsAt-here whole left k xs x d l is m e h = h.stops d (subst (λ ys. StopsAt rate left ys d) (sym (drop-cons xs k x l)) (subst (λ y. StopsAt rate left (y ∷ drop (suc k) xs) d) is (inr (m, e))))

-- what more is gained there is a difference of speeds
pub IsDifference-here : (speeds : List ℕ) (r left : ℕ) (x : Segment) (d : ℕ)
    → HasPlaces (length speeds) true r x → d ≡ gain_at true (at speeds) r x → left < x.length * d → IsDifference speeds d
IsDifference-here speeds r left x d h e l = inr (some d l, place_at x r, place_at x (suc r), h.1, h.2, e)
  where
    some : (d : ℕ) → left < x.length * d → 1 ≤ d
    some d m = grind arith

-- ---- over a finer unit
-- a rate that is read from jobs and free machines
abbrev pub IsRead : (Segment → ℕ) → Type 0
IsRead rate = (n : ℕ) (x y : Segment) → IsPartOf n x y → rate y ≡ rate x

pub IsRead-place : (speed : ℕ → ℕ) (r : ℕ) → IsRead (rate_at speed r)
IsRead-place speed r n x y p = ap (λ l. speed (at l r)) p.free

pub amount-scaled : (rate : Segment → ℕ) → IsRead rate → (d : ℕ) (xs ys : List Segment) → AreScaled d xs ys → amount rate ys ≡ d * amount rate xs
amount-scaled rate read d [] [] h = omega arith
amount-scaled rate read d (x ∷ xs) (y ∷ ys) h = omega (
  arith,
  ap (λ n. d * n) (sum_by-cons (λ z. z.length * rate z) x xs),
  sum_by-cons
      (λ z. z.length * rate z) y ys,
  ap (λ n. n * rate y) h.0.long,
  ap (λ n. x.length * d * n) (read _ x y h.0),
  amount-scaled rate read d xs ys h.1,
)
amount-scaled rate read d _ _ h = absurd h

-- lists that go on
pub AreScaledUpTo-start : (d : ℕ) (xs ahead ys : List Segment) → ahead ≡ xs → ys ≡ [] → AreScaledUpTo d xs ahead ys
AreScaledUpTo-start d xs ahead ys e f = record { done = []; all = sym e; scaled = subst (AreScaled d []) (sym f) tt }

module _ (d : ℕ) (xs ahead0 ahead ys : List Segment) (x : Segment) (next : ahead0 ≡ x ∷ ahead) (h : AreScaledUpTo d xs ahead0 ys) where
  are_next : xs ≡ h.done ++ (x ∷ ahead)
  are_next = h.all ∙ ap (λ l. h.done ++ l) next

  pub scaled_next : (P : Segment → Type 0) → All P xs → P x
  scaled_next P a = All-head P x ahead (All-append_right P h.done (x ∷ ahead) (subst (All P) are_next a))

  pub AreScaledUpTo-next : (y : Segment) (zs : List Segment) → IsPartOf (x.length * d) x y → zs ≡ ys ++ y ∷ [] → AreScaledUpTo d xs ahead zs
  AreScaledUpTo-next y zs p e = record {
    done = h.done ++ x ∷ [];
    all = are_next ∙ sym (append_assoc h.done (x ∷ []) ahead);
    scaled = subst (AreScaled d (h.done ++ x ∷ [])) (sym e) (AllZip-push (λ x y. IsPartOf (x.length * d) x y) h.done ys x y h.scaled p);
  }

pub AreScaledUpTo-end : (d : ℕ) (xs ahead ys : List Segment) → ahead ≡ [] → AreScaledUpTo d xs ahead ys → AreScaled d xs ys
AreScaledUpTo-end d xs ahead ys e h = subst (λ l. AreScaled d l ys) (sym (h.all ∙ ap (λ l. h.done ++ l) e ∙ append-nil h.done)) h.scaled

-- the segments in two parts
pub two_parts : (P : Segment → Type 0) (xs front back : List Segment) → front ++ back ≡ xs → All P xs → All P front × All P back
two_parts P xs front back e h = (All-append_left P front back (subst (All P) (sym e) h), All-append_right P front back (subst (All P) (sym e) h))

pub amount-parts : (rate : Segment → ℕ) (xs front back : List Segment) → front ++ back ≡ xs → amount rate xs ≡ amount rate front + amount rate back
amount-parts rate xs front back e = ap (amount rate) (sym e) ∙ sum_by-append (λ y. y.length * rate y) front back

-- the machines at a place are not faster than any
pub rates_short : (speeds : List ℕ) (b r : ℕ) (xs : List Segment) → All (λ s. s ≤ b) speeds → All (HasPlaces (length speeds) false r) xs → All (λ x. rate_at (at speeds) r x ≤ b) xs
rates_short speeds b r xs h p k d l = h (place_at (get_or xs k d) r) 0 (p k d l).1

pub work_short : (speeds : List ℕ) (r k : ℕ) (xs : List Segment) (x : Segment) (work rate : ℕ)
    → All (λ s. s ≤ GREATEST_SPEED) speeds → All (HasPlaces (length speeds) false r) xs → amount (λ _. 1) xs ≤ greatest_length → k < length xs → x ≡ get_or xs k x
    → work ≡ amount (rate_at (at speeds) r) (take k xs) → rate ≡ rate_at (at speeds) r x → work + x.length * rate ≤ greatest_length * GREATEST_SPEED
work_short speeds r k xs x work rate h p t l is e f =
    let first = sum_by-take-le (λ y. y.length * rate_at (at speeds) r y) xs (k + 1) in
    let most : amount (rate_at (at speeds) r) xs ≤ amount (λ _. 1) xs * GREATEST_SPEED = amount-least (rate_at (at speeds) r) GREATEST_SPEED xs (rates_short speeds GREATEST_SPEED r xs h p) in
    omega (arith, e, ap (λ n. x.length * n) f, amount-more (rate_at (at speeds) r) xs k x l is, first, most, t)

pub place_short : (speeds : List ℕ) (r : ℕ) (xs : List Segment) → All (λ s. s ≤ GREATEST_SPEED) speeds
    → All (HasPlaces (length speeds) false r) xs → amount (λ _. 1) xs ≤ greatest_length → amount (rate_at (at speeds) r) xs ≤ greatest_length * GREATEST_SPEED
place_short speeds r xs h p t = omega (arith, amount-least (rate_at (at speeds) r) GREATEST_SPEED xs (rates_short speeds GREATEST_SPEED r xs h p), t)

-- the gain comes out whole over a unit that is finer by the last rate
pub CanGain-scaled : (rate : Segment → ℕ) → IsRead rate → (d left : ℕ) (xs ys : List Segment) → 1 ≤ d → StopsAt rate left xs d → AreScaled d xs ys → CanGain rate (left * d) ys
CanGain-scaled rate read d left [] [] p s h = omega (arith, ap (λ n. n * d) s)
CanGain-scaled rate read d left (x ∷ xs) (y ∷ ys) p s h = by s (λ l t. subst (λ n. CanGain rate n ys) (later l) (CanGain-scaled rate read d (left - x.length * rate x) xs ys p t h.1))
  where
    same : y.length * rate y ≡ x.length * rate x * d
    same = omega (arith, ap (λ n. n * rate y) h.0.long, ap (λ n. x.length * d * n) (read _ x y h.0))

    later : x.length * rate x ≤ left → (left - x.length * rate x) * d ≡ left * d - y.length * rate y
    later l = apart (x.length * rate x) left (y.length * rate y) (left - x.length * rate x) (omega (arith, l)) same
      where
        apart : (a b c k : ℕ) → b ≡ a + k → c ≡ a * d → k * d ≡ b * d - c
        apart a b c k e f = omega (arith, ap (λ n. n * d) e, f)

    by : ((x.length * rate x ≤ left) × StopsAt rate (left - x.length * rate x) xs d) ⊎ ((left < x.length * rate x) × (d ≡ rate x))
        → (x.length * rate x ≤ left → StopsAt rate (left - x.length * rate x) xs d → CanGain rate (left * d - y.length * rate y) ys) → CanGain rate (left * d) (y ∷ ys)
    by (inl (l, t)) k = inl (omega (arith, same, mul-le-mul_left d l), k l t)
    by (inr (l, e)) k = inr (omega (arith, same, mul-lt-mul_of_pos_right l p), subst (λ r. r ∣ left * d) (e ∙ sym (read _ x y h.0)) (dvd-mul_left d left))
CanGain-scaled rate read d left _ _ p s h = absurd h

module _ (m n : ℕ) (speed : ℕ → ℕ) (h k : ℕ) (x y : Segment) (p : IsPartOf k x y) where
  pub job_kept : (i : ℕ) → job_on y i ≡ job_on x i
  job_kept i = ap (λ l. at l i) p.jobs

  place_kept : (r : ℕ) → place_at y r ≡ place_at x r
  place_kept r = ap (λ l. at l r) p.free

  pub IsSegment-part : 1 ≤ k → IsSegment m n speed h x → IsSegment m n speed h y
  IsSegment-part some s = record {
    lasts = omega (arith, p.long, some);
    all = ap length p.jobs ∙ s.all;
    jobs = λ i l. omega (arith, job_kept i, s.jobs i l);
    once = λ i j l b e. job_kept i ∙ s.once i j l b (sym (job_kept i) ∙ e ∙ job_kept j);
    places = ap length p.free ∙ s.places;
    machines = λ r l. omega (arith, place_kept r, s.machines r l);
    idle = λ r l. job_kept (place_at y r) ∙ ap (job_on x) (place_kept r) ∙ s.idle r l;
    apart = λ q r l b e. s.apart q r l b (sym (place_kept q) ∙ e ∙ place_kept r);
    falls = λ q r l b. omega (arith, ap speed (place_kept q), ap speed (place_kept r), s.falls q r l b);
  }

pub IsRead-job : (m : ℕ) (speed : ℕ → ℕ) (j : ℕ) → IsRead (job_rate m speed j)
IsRead-job m speed j n x y p = total_below-same m _ _ (λ i l. ap (λ v. cond (eqb v j) (speed i) 0) (job_kept m n speed 0 n x y p i))

pub All-scaled : (P Q : Segment → Type 0) (d : ℕ) (xs ys : List Segment) → ((x y : Segment) → P x → IsPartOf (x.length * d) x y → Q y) → AreScaled d xs ys → All P xs → All Q ys
All-scaled P Q d [] [] f h a = All-nil Q
All-scaled P Q d (x ∷ xs) (y ∷ ys) f h a = All-cons Q y ys (f x y (All-head P x xs a) h.0) (All-scaled P Q d xs ys f h.1 (All-tail P x xs a))
All-scaled P Q d _ _ f h a = absurd h

-- a place whose machines can do less than those of the first is not the first
pub not_first : (f : ℕ → ℕ) (p work : ℕ) → f p < work → work ≤ f 0 → 1 ≤ p
not_first f zero work l m = absurd (omega (arith, l, m))
not_first f (suc p) work l m = omega arith

pub before_it : (f : ℕ → ℕ) (p work : ℕ) → 1 ≤ p → f p < work → f (p - 1 + 1) < work
before_it f p work s l = subst (λ k. f k < work) (omega (arith, s)) l
