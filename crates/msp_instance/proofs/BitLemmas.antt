-- Lemmas on the bits of jobs: read, written, and apart in the words of two jobs.
use Rattle.std.proofs.Common.{◌≡◌, ◌≢◌, ◌⊎◌, ℕ, ◌<◌, ◌≤◌, ◌+◌, ◌*◌, ◌/◌, ◌%◌, ◌^◌, true, false, eqb, max, bit_or, bit_and, List, length, get_or}
use Rattle.std.proofs.Common.{set, replicate, Some, None, unwrap_or, w64, ap, ap₂, sym, ◌∙◌, inl, inr, arith, get_or-set_same, get_or-set_other}
use Rattle.std.specs.Int.{bit_at}
use Rattle.std.proofs.Math.Nat.{mul-le-mul_right}
use Rattle.std.proofs.lemmas.Nat.{mod_below, same_from_place, div-add-mod'}
use Rattle.std.proofs.lemmas.Nat.Bits.{bit_at_or, bit_at-lt, bit_at-zero, shr_and_one, bit_at_set_same, bit_at_set_other}
use Rattle.std.proofs.lemmas.Bool.{cases_eq, cases_lt, eqb-true, eq-eqb}
use Rattle.std.proofs.lemmas.List.{get_or-replicate, get_or_past, length-replicate}
use Rattle.std.proofs.lemmas.Option.{get_or_from_slice_get, unwrap_or-slice_get}
use Rattle.std.specs.Prelude.{slice_get}
use Rattle.msp_instance.specs.Bits.{has_bit}
use Rattle.msp_instance.specs.PathBits.{SetsBit}
use Rattle.std.proofs.lemmas.Bool.Decides.{nat_tests}

-- ---- one bit
-- a bit of two words joined is set where one of theirs is
or_set : (p q : ℕ) → p < 2 → eqb (max p q) 1 ≡ true → (eqb p 1 ≡ true) ⊎ (eqb q 1 ≡ true)
or_set p q low e = grind (arith, nat_tests)

module _ (x y i : ℕ) where
  pub or_bit : eqb (bit_at (bit_or x y) i) 1 ≡ true → (eqb (bit_at x i) 1 ≡ true) ⊎ (eqb (bit_at y i) 1 ≡ true)
  or_bit e = or_set (bit_at x i) (bit_at y i) (bit_at-lt x i) (ap (λ n. eqb n 1) (sym (bit_at_or x y i)) ∙ e)

  pub or_bit_left : eqb (bit_at x i) 1 ≡ true → eqb (bit_at (bit_or x y) i) 1 ≡ true
  or_bit_left e = eq-eqb _ 1 (omega (arith, bit_at_or x y i, eqb-true (bit_at x i) 1 e, bit_at-lt y i))

  pub or_bit_right : eqb (bit_at y i) 1 ≡ true → eqb (bit_at (bit_or x y) i) 1 ≡ true
  or_bit_right e = eq-eqb _ 1 (omega (arith, bit_at_or x y i, eqb-true (bit_at y i) 1 e, bit_at-lt x i))

-- ---- the words of two jobs do not meet
pub row_inside : (width n j : ℕ) → j < n → j * width + width ≤ n * width
row_inside width n j h = omega (arith, mul-le-mul_right width (let l : j + 1 ≤ n = omega arith in l))

pub rows_disjoint : (width j i : ℕ) → j ≢ i → (j * width + width ≤ i * width) ⊎ (i * width + width ≤ j * width)
rows_disjoint width j i differs = grind (arith, row_inside)

-- ---- a bit read
pub read_bit : (ws : List ℕ) (width j k at word : ℕ) → at ≡ j * width + k / 64 → word ≡ get_or ws at 0 → eqb (bit_and (word / 2 ^ (k % 64)) 1) 1 ≡ has_bit ws width j k
unfolding has_bit
read_bit ws width j k at word is read = rw (read, is) (ap (λ n. eqb n 1) (shr_and_one (get_or ws (j * width + k / 64) 0) (k % 64)))

pub no_bit : (ws : List ℕ) (width j k at : ℕ) → at ≡ j * width + k / 64 → None ≡ slice_get ws at → false ≡ has_bit ws width j k
unfolding has_bit
no_bit ws width j k at is past = sym (ap (λ w. eqb (bit_at w (k % 64)) 1) nothing ∙ ap (λ n. eqb n 1) (bit_at-zero (k % 64)))
  where
    nothing : get_or ws (j * width + k / 64) 0 ≡ 0
    nothing = ap (λ n. get_or ws n 0) (sym is) ∙ sym (unwrap_or-slice_get ws at 0) ∙ ap (λ o. unwrap_or o 0) (sym past)

pub read_some : (ws : List ℕ) (width j k at word : ℕ) → at ≡ j * width + k / 64 → Some word ≡ slice_get ws at → eqb (bit_and (word / 2 ^ (k % 64)) 1) 1 ≡ has_bit ws width j k
read_some ws width j k at word is read = read_bit ws width j k at word is (sym (get_or_from_slice_get ws at word 0 (sym read)))

pub no_bits : (count width j k : ℕ) → has_bit (replicate count 0) width j k ≡ false
unfolding has_bit
no_bits count width j k = ap (λ w. eqb (bit_at w (k % 64)) 1) zero_word ∙ ap (λ n. eqb n 1) (bit_at-zero (k % 64))
  where
    zero_word : ◌≡◌ {A = ℕ} (get_or (replicate count 0) (j * width + k / 64) 0) 0
    zero_word = elim (cases_lt (j * width + k / 64) count) as (λ _. ◌≡◌ {A = ℕ} (get_or (replicate count 0) (j * width + k / 64) 0) 0) [
      | inl low ↦ get_or-replicate count (j * width + k / 64) 0 0 low
      | inr high ↦ get_or_past (replicate count 0) (j * width + k / 64) 0 (let l : length (replicate {A = ℕ} count 0) ≤ j * width + k / 64 = omega (arith, high, length-replicate {A = ℕ} count 0) in l)
    ]

-- ---- a bit written
module _ (ws : List ℕ) (width from to at : ℕ) (is : at ≡ from * width + to / 64) (below : at < length ws) (wide : to / 64 < width) where
  abbrev wrote : List ℕ
  wrote = set ws at (bit_or (get_or ws at 0) (1 * 2 ^ (to % 64) % 2 ^ 64))

  short : to % 64 < 64
  short = mod_below to 64 (omega arith)

  elsewhere : (i b : ℕ) → b < 64 → (i ≡ at → b ≢ to % 64) → bit_at (get_or wrote i 0) b ≡ bit_at (get_or ws i 0) b
  elsewhere i b low apart = elim (cases_eq i at) as (λ _. bit_at (get_or wrote i 0) b ≡ bit_at (get_or ws i 0) b) [
    | inl same ↦
        ap (λ n. bit_at (get_or wrote n 0) b) same ∙ ap (λ w. bit_at w b) (get_or-set_same ws at (bit_or (get_or ws at 0) (1 * 2 ^ (to % 64) % 2 ^ 64)) 0 below)
        ∙ bit_at_set_other w64 (get_or ws at 0) (to % 64) short b (apart same) ∙ ap (λ n. bit_at (get_or ws n 0) b) (sym same)
    | inr other ↦ ap (λ w. bit_at w b) (get_or-set_other ws at i (bit_or (get_or ws at 0) (1 * 2 ^ (to % 64) % 2 ^ 64)) 0 other)
  ]

  is_set : has_bit wrote width from to ≡ true
  unfolding has_bit
  is_set =
      ap (λ i. eqb (bit_at (get_or wrote i 0) (to % 64)) 1) (sym is)
      ∙ ap (λ w. eqb (bit_at w (to % 64)) 1) (get_or-set_same ws at (bit_or (get_or ws at 0) (1 * 2 ^ (to % 64) % 2 ^ 64)) 0 below)
      ∙ ap (λ n. eqb n 1) (bit_at_set_same w64 (get_or ws at 0) (to % 64) short)

  same_pair : (j k : ℕ) → k / 64 < width → j * width + k / 64 ≡ at → k % 64 ≡ to % 64 → (j ≡ from) × (k ≡ to)
  same_pair j k low place bit =
      let both = same_from_place j (k / 64) from (to / 64) width low wide (place ∙ is) in
      (both.0, sym (div-add-mod' k 64) ∙ ap₂ (λ q r. q * 64 + r) both.1 bit ∙ div-add-mod' to 64)

  cases_pair : (j k : ℕ) → k / 64 < width → ((j ≡ from) × (k ≡ to)) ⊎ (has_bit wrote width j k ≡ has_bit ws width j k)
  unfolding has_bit
  cases_pair j k low = elim (cases_eq (k % 64) (to % 64)) as (λ _. ((j ≡ from) × (k ≡ to)) ⊎ (has_bit wrote width j k ≡ has_bit ws width j k)) [
    | inl bit ↦ elim (cases_eq (j * width + k / 64) at) as (λ _. ((j ≡ from) × (k ≡ to)) ⊎ (has_bit wrote width j k ≡ has_bit ws width j k)) [
      | inl same ↦ inl (same_pair j k low same bit)
      | inr other ↦ inr (ap (λ n. eqb n 1) (elsewhere (j * width + k / 64) (k % 64) (mod_below k 64 (omega arith)) (λ e. absurd (other e))))
    ]
    | inr other ↦ inr (ap (λ n. eqb n 1) (elsewhere (j * width + k / 64) (k % 64) (mod_below k 64 (omega arith)) (λ e. other)))
  ]

  pub SetsBit-written : SetsBit width from to ws (set ws at (bit_or (get_or ws at 0) (1 * 2 ^ (to % 64) % 2 ^ 64)))
  SetsBit-written = record {
    is_set = is_set;
    kept = λ j k low was. elim (cases_pair j k low) as (λ _. has_bit wrote width j k ≡ true) [
      | inl pair ↦ ap₂ (λ m n. has_bit wrote width m n) pair.0 pair.1 ∙ is_set
      | inr same ↦ same ∙ was
    ];
    others = λ j k low now. elim (cases_pair j k low) as (λ _. (has_bit ws width j k ≡ true) ⊎ ((j ≡ from) × (k ≡ to))) [
      | inl pair ↦ inr pair
      | inr same ↦ inl (sym same ∙ now)
    ];
  }
