-- Bits by their numbers: read and set.
use Rattle.std.proofs.Common.{◌≡◌, ◌≢◌, ℕ, ◌<◌, ◌+◌, ◌*◌, ◌/◌, ◌%◌, ◌^◌, true, false, eqb, bit_or, bit_and, List, length, get_or, set, w64, ap, ap₂, sym, ◌∙◌, inl, inr, arith}
use Rattle.std.proofs.Common.{get_or-set_same, get_or-set_other}
use Rattle.std.specs.Int.{bit_at}
use Rattle.std.proofs.lemmas.Nat.{mod_below, div-add-mod'}
use Rattle.std.proofs.lemmas.Nat.Bits.{bit_at-zero, shr_and_one, bit_at_set_same, bit_at_set_other}
use Rattle.std.proofs.lemmas.Bool.{cases_eq}
use Rattle.msp_weighted.specs.Values.{is_flagged}

-- a bit read
pub read_bit : (ws : List ℕ) (n word : ℕ) → word ≡ get_or ws (n / 64) 0 → eqb (bit_and (word / 2 ^ (n % 64)) 1) 1 ≡ is_flagged ws n
unfolding is_flagged
read_bit ws n word read = ap (λ m. eqb m 1) (ap (λ w. bit_and (w / 2 ^ (n % 64)) 1) read ∙ shr_and_one (get_or ws (n / 64) 0) (n % 64))

-- none is set
pub none_flagged : (ws : List ℕ) (n : ℕ) → get_or ws (n / 64) 0 ≡ 0 → is_flagged ws n ≡ false
unfolding is_flagged
none_flagged ws n none = ap (λ m. eqb m 1) (ap (λ w. bit_at w (n % 64)) none ∙ bit_at-zero (n % 64))

-- a bit written
module _ (ws : List ℕ) (n : ℕ) (below : n / 64 < length ws) where
  abbrev word : ℕ
  word = bit_or (get_or ws (n / 64) 0) (1 * 2 ^ (n % 64) % 2 ^ 64)

  short : n % 64 < 64
  short = mod_below n 64 (omega arith)

  pub set_itself : is_flagged (set ws (n / 64) word) n ≡ true
  unfolding is_flagged
  set_itself = ap (λ m. eqb m 1) (ap (λ w. bit_at w (n % 64)) (get_or-set_same ws (n / 64) word 0 below) ∙ bit_at_set_same w64 (get_or ws (n / 64) 0) (n % 64) short)

  pub set_others : (m : ℕ) → m ≢ n → is_flagged (set ws (n / 64) word) m ≡ is_flagged ws m
  unfolding is_flagged
  set_others m other = ap (λ b. eqb b 1) (elim (cases_eq (m / 64) (n / 64)) as (λ _. bit_at (get_or (set ws (n / 64) word) (m / 64) 0) (m % 64) ≡ bit_at (get_or ws (m / 64) 0) (m % 64)) [
    | inl same ↦
        ap (λ k. bit_at (get_or (set ws (n / 64) word) k 0) (m % 64)) same
        ∙ ap (λ w. bit_at w (m % 64)) (get_or-set_same ws (n / 64) word 0 below)
        ∙ bit_at_set_other w64 (get_or ws (n / 64) 0) (n % 64) short (m % 64) (apart same)
        ∙ ap (λ k. bit_at (get_or ws k 0) (m % 64)) (sym same)
    | inr apart ↦ ap (λ w. bit_at w (m % 64)) (get_or-set_other ws (n / 64) (m / 64) word 0 apart)
  ])
    where
      apart : m / 64 ≡ n / 64 → m % 64 ≢ n % 64
      apart e f = other (sym (div-add-mod' m 64) ∙ ap₂ (λ q r. q * 64 + r) e f ∙ div-add-mod' n 64)
