-- A table of classes, written at one of them.
use Rattle.std.proofs.lemmas.Bool.{cases_eq}
use Rattle.std.proofs.lemmas.List.{length_push, get_or_push, get_or_append_left}
use Rattle.std.proofs.Common.{get_or, ◌≡◌, ◌≢◌, ℕ, ◌<◌, ◌+◌, Bool, false, List, [], ◌∷◌, ◌++◌, length, set, arith, get_or-set_same, get_or-set_other, ap, sym, ◌∙◌, ◌⊎◌, inl, inr}
use Rattle.msp_class.specs.declared.class.Class.{Class}
use Rattle.msp_class.specs.declared.ranks.TheConstants.{CLASSES}
use Rattle.msp_class.specs.Rank.{rank_of}
use Rattle.msp_class.proofs.RankLemmas.{rank_of-below, rank_of-injective}
use Rattle.msp_closure.specs.Tables.{value_of, is_flagged}

-- a class is another, or has another rank
pub class_cases : (x c : Class) → (x ≡ c) ⊎ (rank_of x ≢ rank_of c)
class_cases x c = elim (cases_eq (rank_of x) (rank_of c)) as (λ _. (x ≡ c) ⊎ (rank_of x ≢ rank_of c)) [
  | inl same ↦ inl (rank_of-injective x c same)
  | inr apart ↦ inr apart
]

-- a class written to has the value
pub value_of-set_same : (t : List ℕ) (c : Class) (v : ℕ) → length t ≡ CLASSES → value_of (set t (rank_of c) v) c ≡ v
value_of-set_same t c v len = let below : rank_of c < length t = omega (arith, rank_of-below c) in get_or-set_same t (rank_of c) v 0 below

pub value_of-set_other : (t : List ℕ) (c x : Class) (v : ℕ) → rank_of x ≢ rank_of c → value_of (set t (rank_of c) v) x ≡ value_of t x
value_of-set_other t c x v apart = get_or-set_other t (rank_of c) (rank_of x) v 0 apart

pub is_flagged-set_same : (t : List Bool) (c : Class) (v : Bool) → length t ≡ CLASSES → is_flagged (set t (rank_of c) v) c ≡ v
is_flagged-set_same t c v len = let below : rank_of c < length t = omega (arith, rank_of-below c) in get_or-set_same t (rank_of c) v false below

pub is_flagged-set_other : (t : List Bool) (c x : Class) (v : Bool) → rank_of x ≢ rank_of c → is_flagged (set t (rank_of c) v) x ≡ is_flagged t x
is_flagged-set_other t c x v apart = get_or-set_other t (rank_of c) (rank_of x) v false apart

-- a class whose rank is not the one before is not done before
pub below_next : (n m : ℕ) → n < m + 1 → n ≢ m → n < m
below_next n m below apart = omega arith

-- one copy of a value more
pub copies_more : {X : Type 0} (xs ys : List X) (k : ℕ) (v : X) → ys ≡ xs ++ v ∷ [] → (length xs ≡ k) × ((j : ℕ) (d : X) → j < k → get_or xs j d ≡ v)
    → (length ys ≡ k + 1) × ((j : ℕ) (d : X) → j < k + 1 → get_or ys j d ≡ v)
copies_more {X} xs ys k v e before = (omega (arith, ap length e, length_push xs v, before.0), each)
  where
    each : (j : ℕ) (d : X) → j < k + 1 → get_or ys j d ≡ v
    each j d below = ap (λ l. get_or l j d) e ∙ elim (cases_eq j k) as (λ _. get_or (xs ++ v ∷ []) j d ≡ v) [
      | inl same ↦ get_or_push xs v d j (before.0 ∙ sym same)
      | inr apart ↦ get_or_append_left xs (v ∷ []) d j (omega (arith, below_next j k below apart, before.0)) ∙ before.1 j d (below_next j k below apart)
    ]

-- one more class gets its value
pub value_next : {X : Type 0} (wanted : Class → X) (t : List X) (n : ℕ) (c : Class) (m d : X) → length t ≡ CLASSES → rank_of c ≡ n → m ≡ wanted c
    → ((x : Class) → rank_of x < n → get_or t (rank_of x) d ≡ wanted x)
    → (x : Class) → rank_of x < n + 1 → get_or (set t (rank_of c) m) (rank_of x) d ≡ wanted x
value_next wanted t n c m d len at is before x below =
    elim (cases_eq (rank_of x) (rank_of c)) as (λ _. get_or (set t (rank_of c) m) (rank_of x) d ≡ wanted x) [
      | inl same ↦
          let inside : rank_of c < length t = omega (arith, rank_of-below c) in
          ap (λ i. get_or (set t (rank_of c) m) i d) same ∙ get_or-set_same t (rank_of c) m d inside ∙ is ∙ ap wanted (sym (rank_of-injective x c same))
      | inr apart ↦
          let different : rank_of x ≢ n = λ e. apart (e ∙ sym at) in
          get_or-set_other t (rank_of c) (rank_of x) m d apart ∙ before x (below_next (rank_of x) n below different)
    ]
