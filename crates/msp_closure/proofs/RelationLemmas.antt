-- Bits of a relation: written, read, and joined by rows.
use Rattle.std.proofs.Common.{◌≡◌, ◌≢◌, ◌⊎◌, ℕ, ◌<◌, ◌≤◌, ◌+◌, ◌-◌, ◌*◌, ◌/◌, ◌%◌, ◌^◌, Bool, true, false, not, ◌||◌, cond, eqb, max, bit_or, bit_and, List, length, get_or, set}
use Rattle.std.proofs.Common.{Fits, w64, refl, ap, ap₂, sym, ◌∙◌, inl, inr, arith, get_or-set_same, get_or-set_other}
use Rattle.std.specs.Int.{bit_at, trailing_zeros}
use Rattle.std.proofs.lemmas.Nat.{le_or_l, shr-shr, shr_le, div_below, mod_below, same_from_place, div-add-mod'}
use Rattle.std.proofs.lemmas.Nat.Bits.{bit_at_or, bit_at-lt, bit_at-zero, bit_at_above, bit_at-trailing_zeros, shr_and_one, bit_at_set_same, bit_at_set_other}
use Rattle.std.proofs.lemmas.List.{set-get_or}
use Rattle.std.proofs.lemmas.List.Sums.{sum_by-set}
use Rattle.std.proofs.lemmas.Bool.{cases_eq, cases_lt, eqb-true, eq-eqb, ne_eqb, not-false}
use Rattle.msp_class.specs.declared.class.Class.{Class}
use Rattle.msp_class.specs.declared.ranks.TheConstants.{CLASSES}
use Rattle.msp_class.specs.Rank.{rank_of}
use Rattle.msp_class.proofs.RankLemmas.{rank_of-below, rank_of-injective}
use Rattle.msp_closure.specs.declared.relation.TheConstants.{WIDTH}
use Rattle.msp_closure.proofs.TableLemmas.{below_next}
use Rattle.msp_closure.specs.Relation.{relates, room, Rises, JoinsWords, Joins}

-- one word rises
rises_set : (ws : List ℕ) (at y : ℕ) → at < length ws → Fits w64 (get_or ws at 0) → get_or ws at 0 ≤ y
    → Rises ws (set ws at y) (not (eqb y (get_or ws at 0)))
rises_set ws at y below fits rises = record {
  quiet = λ e. ap (set ws at) (eqb-true y (get_or ws at 0) (not-false (eqb y (get_or ws at 0)) e)) ∙ set-get_or ws at 0;
  falls = elim (cases_eq y (get_or ws at 0)) as (λ _. room (set ws at y) + cond (not (eqb y (get_or ws at 0))) 1 0 ≤ room ws) [
    | inl same ↦
        let none : ◌≡◌ {A = ℕ} (cond (not (eqb y (get_or ws at 0))) 1 0) 0 = rw (eq-eqb y (get_or ws at 0) same) refl in
        omega (arith, sum_by-set (λ w. 2 ^ 64 - w) ws at y 0 below, none, same)
    | inr apart ↦
        let one : ◌≡◌ {A = ℕ} (cond (not (eqb y (get_or ws at 0))) 1 0) 1 = rw (ne_eqb y (get_or ws at 0) apart) refl in
        omega (arith, sum_by-set (λ w. 2 ^ 64 - w) ws at y 0 below, one, fits, rises)
  ];
}

pub rises_or : (ws : List ℕ) (at x : ℕ) → at < length ws → Fits w64 (get_or ws at 0)
    → Rises ws (set ws at (bit_or (get_or ws at 0) x)) (not (eqb (bit_or (get_or ws at 0) x) (get_or ws at 0)))
rises_or ws at x below fits = rises_set ws at (bit_or (get_or ws at 0) x) below fits (le_or_l (get_or ws at 0) x)

pub Rises-none : (ws : List ℕ) → Rises ws ws false
Rises-none ws = record { quiet = λ e. refl; falls = omega arith }

pub Rises-more : {before middle after : List ℕ} {first : Bool} → Rises before middle first → Rises middle after true → Rises before after true
Rises-more r s = record { quiet = λ e. cc; falls = omega (arith, r.falls, s.falls) }

pub Rises-same : {before middle after : List ℕ} {first : Bool} → Rises before middle first → Rises middle after false → Rises before after first
Rises-same r s = record { quiet = λ e. s.quiet refl ∙ r.quiet e; falls = omega (arith, r.falls, s.falls) }

pub room_falls : {before after : List ℕ} {changed : Bool} → Rises before after changed → changed ≡ true → room after + 1 ≤ room before
room_falls {before} {after} {changed} r is = let one : ◌≡◌ {A = ℕ} (cond changed 1 0) 1 = rw is refl in omega (arith, r.falls)

-- the first words of the row are joined
pub record JoinedTo (before words : List ℕ) (to from k : ℕ) : Type 0 where
  pub joined : (j : ℕ) → j < k → get_or words (to * WIDTH + j) 0 ≡ bit_or (get_or before (to * WIDTH + j) 0) (get_or before (from * WIDTH + j) 0)
  pub below : (i : ℕ) → i < to * WIDTH → get_or words i 0 ≡ get_or before i 0
  pub above : (i : ℕ) → to * WIDTH + k ≤ i → get_or words i 0 ≡ get_or before i 0

-- the word of a class in a row
pub word_below : (b : Class) → rank_of b / 64 < WIDTH
word_below b = div_below (rank_of b) 64 WIDTH (omega arith) (omega (arith, rank_of-below b))

zero_or_one : (n : ℕ) → n < 2 → (n ≡ 0) ⊎ (n ≡ 1)
zero_or_one n low = elim (cases_eq n 0) as (λ _. (n ≡ 0) ⊎ (n ≡ 1)) [ inl e ↦ inl e | inr apart ↦ inr (omega arith) ]

either : (p q : ℕ) → p < 2 → q < 2 → eqb (max p q) 1 ≡ (eqb p 1 || eqb q 1)
either p q low low2 = elim (zero_or_one p low) as (λ _. eqb (max p q) 1 ≡ (eqb p 1 || eqb q 1)) [
  | inl p0 ↦ elim (zero_or_one q low2) as (λ _. eqb (max p q) 1 ≡ (eqb p 1 || eqb q 1)) [ inl q0 ↦ rw (p0, q0) refl | inr q1 ↦ rw (p0, q1) refl ]
  | inr p1 ↦ elim (zero_or_one q low2) as (λ _. eqb (max p q) 1 ≡ (eqb p 1 || eqb q 1)) [ inl q0 ↦ rw (p1, q0) refl | inr q1 ↦ rw (p1, q1) refl ]
]

or_bit : (x y i : ℕ) → eqb (bit_at (bit_or x y) i) 1 ≡ (eqb (bit_at x i) 1 || eqb (bit_at y i) 1)
or_bit x y i = ap (λ n. eqb n 1) (bit_at_or x y i) ∙ either (bit_at x i) (bit_at y i) (bit_at-lt x i) (bit_at-lt y i)

pub Joins-from : (before after : List ℕ) (to from : Class) → JoinsWords before after (rank_of to) (rank_of from) → Joins before after to from
unfolding relates
Joins-from before after to from s = record {
  joined = λ b.
      ap (λ w. eqb (bit_at w (rank_of b % 64)) 1) (s.joined (rank_of b / 64) (word_below b))
      ∙ or_bit (get_or before (rank_of to * WIDTH + rank_of b / 64) 0) (get_or before (rank_of from * WIDTH + rank_of b / 64) 0) (rank_of b % 64);
  others = λ a b apart.
      ap (λ w. eqb (bit_at w (rank_of b % 64)) 1)
      (elim (cases_lt (rank_of a) (rank_of to)) as
      (λ _. get_or after (rank_of a * WIDTH + rank_of b / 64) 0 ≡ get_or before (rank_of a * WIDTH + rank_of b / 64) 0) [
        | inl low ↦ s.below (rank_of a * WIDTH + rank_of b / 64) (omega (arith, word_below b))
        | inr high ↦ s.above (rank_of a * WIDTH + rank_of b / 64) (omega (arith, word_below b))
      ]);
}

-- a bit read
pub read_bit : (ws : List ℕ) (a b : Class) (at r word : ℕ) → at ≡ rank_of a * WIDTH + rank_of b / 64 → r ≡ rank_of b → word ≡ get_or ws at 0
    → eqb (bit_and (word / 2 ^ (r % 64)) 1) 1 ≡ relates ws a b
unfolding relates
read_bit ws a b at r word is ranked read =
    rw (read, is, ranked) (ap (λ n. eqb n 1) (shr_and_one (get_or ws (rank_of a * WIDTH + rank_of b / 64) 0) (rank_of b % 64)))

-- a bit written
written_same : (ws : List ℕ) (at k : ℕ) → at < length ws → k < 64
    → bit_at (get_or (set ws at (bit_or (get_or ws at 0) (1 * 2 ^ k % 2 ^ 64))) at 0) k ≡ 1
written_same ws at k below short =
    ap (λ w. bit_at w k) (get_or-set_same ws at (bit_or (get_or ws at 0) (1 * 2 ^ k % 2 ^ 64)) 0 below) ∙ bit_at_set_same w64 (get_or ws at 0) k short

written_other : (ws : List ℕ) (at k i j : ℕ) → at < length ws → k < 64 → (i ≡ at → j ≢ k)
    → bit_at (get_or (set ws at (bit_or (get_or ws at 0) (1 * 2 ^ k % 2 ^ 64))) i 0) j ≡ bit_at (get_or ws i 0) j
written_other ws at k i j below short apart = elim (cases_eq i at) as
    (λ _. bit_at (get_or (set ws at (bit_or (get_or ws at 0) (1 * 2 ^ k % 2 ^ 64))) i 0) j ≡ bit_at (get_or ws i 0) j) [
      | inl same ↦
          ap (λ n. bit_at (get_or (set ws at (bit_or (get_or ws at 0) (1 * 2 ^ k % 2 ^ 64))) n 0) j) same
          ∙ ap (λ w. bit_at w j) (get_or-set_same ws at (bit_or (get_or ws at 0) (1 * 2 ^ k % 2 ^ 64)) 0 below)
          ∙ bit_at_set_other w64 (get_or ws at 0) k short j (apart same)
          ∙ ap (λ n. bit_at (get_or ws n 0) j) (sym same)
      | inr other ↦ ap (λ w. bit_at w j) (get_or-set_other ws at i (bit_or (get_or ws at 0) (1 * 2 ^ k % 2 ^ 64)) 0 other)
    ]

same_class : (x y a b : Class) → rank_of x * WIDTH + rank_of y / 64 ≡ rank_of a * WIDTH + rank_of b / 64 → rank_of y % 64 ≡ rank_of b % 64
    → (x ≡ a) × (y ≡ b)
same_class x y a b at bit =
    let both = same_from_place (rank_of x) (rank_of y / 64) (rank_of a) (rank_of b / 64) WIDTH (word_below y) (word_below b) at in (
      rank_of-injective x a both.0,
      rank_of-injective y b (sym (div-add-mod' (rank_of y) 64) ∙ ap₂ (λ q r. q * 64 + r) both.1 bit ∙ div-add-mod' (rank_of b) 64),
    )

module _ (ws : List ℕ) (a b : Class) (at r : ℕ) (is : at ≡ rank_of a * WIDTH + rank_of b / 64) (ranked : r ≡ rank_of b) (below : at < length ws) where
  abbrev wrote : List ℕ
  wrote = set ws at (bit_or (get_or ws at 0) (1 * 2 ^ (r % 64) % 2 ^ 64))

  pub relate_itself : relates wrote a b ≡ true
  unfolding relates
  relate_itself =
      ap₂ (λ i j. eqb (bit_at (get_or wrote i 0) (j % 64)) 1) (sym is) (sym ranked)
      ∙ ap (λ n. eqb n 1) (written_same ws at (r % 64) below (mod_below r 64 (omega arith)))

  elsewhere : (x y : Class) → (rank_of x * WIDTH + rank_of y / 64 ≡ at → rank_of y % 64 ≢ r % 64) → relates wrote x y ≡ relates ws x y
  unfolding relates
  elsewhere x y apart =
      ap (λ n. eqb n 1)
      (written_other ws at (r % 64) (rank_of x * WIDTH + rank_of y / 64) (rank_of y % 64) below (mod_below r 64 (omega arith)) apart)

  cases_pair : (x y : Class) → ((x ≡ a) × (y ≡ b)) ⊎ (relates wrote x y ≡ relates ws x y)
  cases_pair x y = elim (cases_eq (rank_of y % 64) (r % 64)) as (λ _. ((x ≡ a) × (y ≡ b)) ⊎ (relates wrote x y ≡ relates ws x y)) [
    | inl bit ↦ elim (cases_eq (rank_of x * WIDTH + rank_of y / 64) at) as (λ _. ((x ≡ a) × (y ≡ b)) ⊎ (relates wrote x y ≡ relates ws x y)) [
      | inl same ↦ inl (same_class x y a b (same ∙ is) (bit ∙ ap (λ n. n % 64) ranked))
      | inr other ↦ inr (elsewhere x y (λ e. absurd (other e)))
    ]
    | inr other ↦ inr (elsewhere x y (λ e. other))
  ]

  pub relate_others : (x y : Class) → relates wrote x y ≡ true → (relates ws x y ≡ true) ⊎ ((x ≡ a) × (y ≡ b))
  relate_others x y now = elim (cases_pair x y) as (λ _. (relates ws x y ≡ true) ⊎ ((x ≡ a) × (y ≡ b))) [
    | inl pair ↦ inr pair
    | inr same ↦ inl (sym same ∙ now)
  ]

  pub relate_kept : (x y : Class) → relates ws x y ≡ true → relates wrote x y ≡ true
  relate_kept x y was = elim (cases_pair x y) as (λ _. relates wrote x y ≡ true) [
    | inl pair ↦ ap₂ (λ m n. relates wrote m n) pair.0 pair.1 ∙ relate_itself
    | inr same ↦ same ∙ was
  ]

-- no bit is set in words of zeros
pub none_related : (ws : List ℕ) (a b : Class) → length ws ≡ CLASSES * WIDTH → ((k d : ℕ) → k < CLASSES * WIDTH → get_or ws k d ≡ 0)
    → relates ws a b ≡ true → a ≡ b
unfolding relates
none_related ws a b len zeros now =
    let inside : rank_of a * WIDTH + rank_of b / 64 < CLASSES * WIDTH = omega (arith, rank_of-below a, word_below b) in
    let clear : bit_at (get_or ws (rank_of a * WIDTH + rank_of b / 64) 0) (rank_of b % 64) ≡ 0 =
    ap (λ w. bit_at w (rank_of b % 64)) (zeros (rank_of a * WIDTH + rank_of b / 64) 0 inside) ∙ bit_at-zero (rank_of b % 64) in
    let off : eqb 0 1 ≡ true = sym (ap (λ n. eqb n 1) clear) ∙ now in
    cc

-- a class related to itself, after those of lower rank
pub itself_next : (before after : List ℕ) (n : ℕ) (c : Class) → rank_of c ≡ n → ((a : Class) → rank_of a < n → relates before a a ≡ true)
    → relates after c c ≡ true → ((x y : Class) → relates before x y ≡ true → relates after x y ≡ true)
    → (a : Class) → rank_of a < n + 1 → relates after a a ≡ true
itself_next before after n c at early here kept a below = elim (cases_eq (rank_of a) n) as (λ _. relates after a a ≡ true) [
  | inl same ↦ let is : a ≡ c = rank_of-injective a c (same ∙ sym at) in ap (λ x. relates after x x) is ∙ here
  | inr apart ↦ kept a a (early a (below_next (rank_of a) n below apart))
]

-- a bit set for a class and itself relates no two classes
pub alone_next : (before after : List ℕ) (c : Class) → ((a b : Class) → relates before a b ≡ true → a ≡ b)
    → ((x y : Class) → relates after x y ≡ true → (relates before x y ≡ true) ⊎ ((x ≡ c) × (y ≡ c)))
    → (a b : Class) → relates after a b ≡ true → a ≡ b
alone_next before after c early others a b now = elim (others a b now) as (λ _. a ≡ b) [
  | inl was ↦ early a b was
  | inr pair ↦ pair.0 ∙ sym pair.1
]

-- the lowest bit of a word from a place on
pub record IsLowest (word from n : ℕ) : Type 0 where
  pub inside : n < 64
  pub is_set : bit_at word n ≡ 1
  pub least : (k : ℕ) → from ≤ k → k < n → bit_at word k ≡ 0

shifted : (word from j k : ℕ) → from + j ≡ k → bit_at (word / 2 ^ from) j ≡ bit_at word k
shifted word from j k is = ap (λ n. n % 2) (shr-shr word from j) ∙ ap (bit_at word) is

pub lowest_none : (word from k : ℕ) → word / 2 ^ from ≡ 0 → from ≤ k → bit_at word k ≡ 0
lowest_none word from k none high =
    sym (shifted word from (k - from) k (omega arith)) ∙ ap (λ n. bit_at n (k - from)) none ∙ bit_at-zero (k - from)

pub lowest_some : (word from : ℕ) → word < 2 ^ 64 → word / 2 ^ from ≢ 0 → IsLowest word from (from + trailing_zeros w64 (word / 2 ^ from))
lowest_some word from bound some =
    let low = trailing_zeros w64 (word / 2 ^ from) in
    let found = bit_at-trailing_zeros w64 (word / 2 ^ from) (omega (arith, some)) (omega (arith, shr_le word from)) in
    let is : bit_at word (from + low) ≡ 1 = sym (shifted word from low (from + low) refl) ∙ found.1 in
    record {
      inside = elim (cases_lt (from + low) 64) as (λ _. from + low < 64) [
        | inl inside ↦ inside
        | inr high ↦ absurd (omega (arith, is, bit_at_above word 64 (from + low) bound high))
      ];
      is_set = is;
      least = λ k high early. sym (shifted word from (k - from) k (omega arith)) ∙ found.2 (k - from) (omega arith);
    }

-- no bit is set in the places before a word
abbrev pub NoneBefore : List ℕ → ℕ → ℕ → ℕ → Type 0
NoneBefore words row from k = (j : ℕ) → from ≤ j → j / 64 < k → bit_at (get_or words (row + j / 64) 0) (j % 64) ≡ 0

-- a bit of a row by its class, in words that were read elsewhere
pub bit_related : (read ws : List ℕ) (a b : Class) (r n : ℕ) → read ≡ ws → r ≡ rank_of a → n ≡ rank_of b
    → bit_at (get_or read (r * WIDTH + n / 64) 0) (n % 64) ≡ 1 → relates ws a b ≡ true
unfolding relates
bit_related read ws a b r n same at is set_bit =
    ap (λ v. eqb v 1)
    (ap₂ (λ l i. bit_at (get_or l (i * WIDTH + rank_of b / 64) 0) (rank_of b % 64)) (sym same) (sym at)
    ∙ ap (λ j. bit_at (get_or read (r * WIDTH + j / 64) 0) (j % 64)) (sym is) ∙ set_bit)

pub no_bit_related : (read ws : List ℕ) (a b : Class) (r : ℕ) → read ≡ ws → r ≡ rank_of a
    → bit_at (get_or read (r * WIDTH + rank_of b / 64) 0) (rank_of b % 64) ≡ 0 → relates ws a b ≡ false
unfolding relates
no_bit_related read ws a b r same at clear =
    ap (λ v. eqb v 1) (ap₂ (λ l i. bit_at (get_or l (i * WIDTH + rank_of b / 64) 0) (rank_of b % 64)) (sym same) (sym at) ∙ clear)
