-- One job more on the stairs: the ends fall, and at each place some jobs back those of the machines from there on.
use Rattle.std.proofs.Common.{◌≡◌, ℕ, zero, suc, ◌+◌, ◌<◌, ◌≤◌, List, [], ◌∷◌, ◌++◌, length, All, refl, subst, arith}
use Rattle.std.proofs.lemmas.List.Elements.{All-head, All-tail}
use Rattle.msp_stairs.specs.Steps.{Falls, together, of_all, of_first, IsBelow, IsBacked, AreBacked}

-- ---- falling ends
pub Falls-raise : {t u : ℕ} (es : List ℕ) → t ≤ u → Falls t es → Falls u es
Falls-raise [] l h = tt
Falls-raise (e ∷ es) l h = (omega (arith, h.0, l), h.1)

pub Falls-cut : (t a b c : ℕ) (xs ys : List ℕ) → c ≤ a → b ≤ c → Falls t (xs ++ a ∷ b ∷ ys) → Falls t (xs ++ c ∷ ys)
Falls-cut t a b c [] ys l k h = (omega (arith, l, h.0), Falls-raise ys k h.1.1)
Falls-cut t a b c (x ∷ xs) ys l k h = (h.0, Falls-cut x a b c xs ys l k h.1)

pub Falls-none : (t : ℕ) (es : List ℕ) → All (λ e. e ≡ 0) es → Falls t es
Falls-none t [] h = tt
Falls-none t (e ∷ es) h = (omega (arith, All-head (λ e. e ≡ 0) e es h), Falls-none e es (All-tail (λ e. e ≡ 0) e es h))

-- an end of them is at most the top
pub Falls-among : (t a : ℕ) (xs ys : List ℕ) → Falls t (xs ++ a ∷ ys) → a ≤ t
Falls-among t a [] ys h = h.0
Falls-among t a (x ∷ xs) ys h = let l = Falls-among x a xs ys h.1 in omega (arith, l, h.0)

-- ---- sums
together-cut : (a b c q r : ℕ) (xs ys : List ℕ) → c + q ≡ b + a + r → together (xs ++ c ∷ ys) + q ≡ together (xs ++ a ∷ b ∷ ys) + r
together-cut a b c q r [] ys e = omega (arith, e)
together-cut a b c q r (x ∷ xs) ys e = let h = together-cut a b c q r xs ys e in omega (arith, h)

together-none : (es : List ℕ) → All (λ e. e ≡ 0) es → together es ≡ 0
together-none [] h = refl
together-none (e ∷ es) h = omega (arith, All-head (λ e. e ≡ 0) e es h, together-none es (All-tail (λ e. e ≡ 0) e es h))

pub IsBelow-up : (a b : ℕ) (xs : List ℕ) → a ≤ b → IsBelow a xs → IsBelow b xs
IsBelow-up a b [] l h = tt
IsBelow-up a b (x ∷ xs) l h = (omega (arith, h.0, l), h.1)

-- ---- what backs the ends
module _ (p D : ℕ → ℕ) where
  AreBacked-more : (k l : ℕ) (es : List ℕ) → AreBacked p D k l es → AreBacked p D (suc k) l es
  AreBacked-more k l [] h = tt
  AreBacked-more k l (e ∷ es) h =
      let (set, below, enough) = h.0 in ((set, IsBelow-up k (suc k) set (omega arith) below, enough), AreBacked-more k (suc l) es h.1)

  -- job k joins a set that is one place higher, or at the front
  raised : (k l : ℕ) (es fs : List ℕ) → together fs + D k ≡ together es + p k → IsBacked p D k l es → IsBacked p D (suc k) (suc l) fs
  raised k l es fs e (set, below, enough) = (k ∷ set, (omega arith, below), omega (arith, enough, e))

  joined : (k : ℕ) (es fs : List ℕ) → together fs ≡ together es + p k → IsBacked p D k 0 es → IsBacked p D (suc k) 0 fs
  joined k es fs e (set, below, enough) = (k ∷ set, (omega arith, below), omega (arith, enough, e))

  all_backed : (k l a : ℕ) (xs ys : List ℕ) → AreBacked p D k l (xs ++ a ∷ ys) → IsBacked p D k l (xs ++ a ∷ ys)
  all_backed k l a [] ys h = h.0
  all_backed k l a (x ∷ xs) ys h = h.0

  behind_front : (k l a b c : ℕ) (xs ys : List ℕ) → c + D k ≡ b + a + p k → AreBacked p D k l (xs ++ a ∷ b ∷ ys) → AreBacked p D (suc k) (suc l) (xs ++ c ∷ ys)
  behind_front k l a b c [] ys e h = (raised k l (a ∷ b ∷ ys) (c ∷ ys) (together-cut a b c (D k) (p k) [] ys e) h.0, AreBacked-more k (suc (suc l)) ys h.1.1)
  behind_front k l a b c (x ∷ xs) ys e h = (raised k l (x ∷ xs ++ a ∷ b ∷ ys) (x ∷ xs ++ c ∷ ys) (together-cut a b c (D k) (p k) (x ∷ xs) ys e) h.0, behind_front k (suc l) a b c xs ys e h.1)

  pub AreBacked-cut : (k a b c : ℕ) (xs ys : List ℕ) → c + D k ≡ b + a + p k → AreBacked p D k 0 (xs ++ a ∷ b ∷ ys) → AreBacked p D (suc k) 0 (D k ∷ (xs ++ c ∷ ys))
  AreBacked-cut k a b c xs ys e h =
      let more = together-cut a b c (D k) (p k) xs ys e in
      (joined k (xs ++ a ∷ b ∷ ys) (D k ∷ (xs ++ c ∷ ys)) (omega (arith, more)) (all_backed k 0 a xs (b ∷ ys) h), behind_front k 0 a b c xs ys e h)

  pub AreBacked-whole : (k a c : ℕ) (ys : List ℕ) → c ≡ a + p k → AreBacked p D k 0 (a ∷ ys) → AreBacked p D (suc k) 0 (c ∷ ys)
  AreBacked-whole k a c ys e h = (joined k (a ∷ ys) (c ∷ ys) (omega (arith, e)) h.0, AreBacked-more k 1 ys h.1)

  pub AreBacked-none : (l : ℕ) (es : List ℕ) → All (λ e. e ≡ 0) es → AreBacked p D 0 l es
  AreBacked-none l [] h = tt
  AreBacked-none l (e ∷ es) h = (([], tt, enough l), AreBacked-none (suc l) es (All-tail (λ e. e ≡ 0) e es h))
    where
      enough : (l : ℕ) → together (e ∷ es) + of_first D l [] ≤ 0
      enough zero = let n = together-none (e ∷ es) h in omega (arith, n)
      enough (suc l) = let n = together-none (e ∷ es) h in omega (arith, n)

  -- where job k fits on none of m machines, some jobs take longer than their m greatest deadlines
  pub found_late : (k l m : ℕ) (es : List ℕ) → m ≡ l + length es
      → 0 < length es → All (λ e. D k < e + p k) es → AreBacked p D k l es → (set : List ℕ) × IsBelow (suc k) set × (of_first D m set < of_all p set)
  found_late k l m [] is some high h = absurd (omega (arith, some))
  found_late k l m (e ∷ []) is some high h =
      let (set, below, enough) = h.0 in
      let one : suc l ≡ m = omega (arith, is) in
      let over = All-head (λ e. D k < e + p k) e [] high in
      subst (λ m. (set : List ℕ) × IsBelow (suc k) set × (of_first D m set < of_all p set)) one (k ∷ set, (omega arith, below), omega (arith, enough, over))
  found_late k l m (e ∷ f ∷ es) is some high h = found_late k (suc l) m (f ∷ es) (omega (arith, is)) (omega arith) (All-tail (λ e. D k < e + p k) e (f ∷ es) high) h.1
