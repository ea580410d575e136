-- Different numbers by rank: where each number that is not listed is above all of the list, which rises, the k-th of some different numbers
-- is no less than the k-th of the list.
use Rattle.std.proofs.Common.{◌≡◌, ℕ, ◌<◌, ◌≤◌, ◌⊎◌, inl, inr, Bool, cond, eqb, ltb, leb, sym, ap, ◌∙◌, arith, le_antisymm}
use Rattle.std.proofs.lemmas.Bool.{cases_Bool, cases_lt, eqb-true, eq-eqb, ltb-true, lt-ltb, leb-true, le-leb}
use Rattle.std.proofs.lemmas.Bool.Decides.{nat_tests}
use Rattle.msp_class.specs.Sums.{total_below}
use Rattle.msp_class.proofs.Sums.{cond-yes, cond-no, cond-le, total_below-mono, total_below-term, total_below-bound, total_below-constant, total_below-exchange}
use Rattle.msp_pieces.proofs.lists.Positions.{total_below-strict, count_at_most_one}

abbrev pub one_if : Bool → ℕ
one_if b = cond b 1 0

module _ (n : ℕ) (key list : ℕ → ℕ) (once : (a b : ℕ) → a < n → b < n → key a ≡ key b → a ≡ b) (rises : (a b : ℕ) → a < b → b < n → list a < list b)
    (covers : (a : ℕ) → a < n → ((r : ℕ) × (r < n) × (list r ≡ key a)) ⊎ ((r : ℕ) → r < n → list r < key a)) where
  -- how many of the numbers are less
  abbrev pub rank : ℕ → ℕ
  rank a = total_below n (λ b. cond (ltb (key b) (key a)) 1 0)

  not_itself : (a : ℕ) → one_if (ltb (key a) (key a)) ≡ 0
  not_itself a = elim (cases_Bool (ltb (key a) (key a))) [ inl e ↦ absurd (omega (arith, ltb-true (key a) (key a) e)) | inr e ↦ cond-no 1 e ]

  pub rank_inside : (a : ℕ) → a < n → rank a < n
  rank_inside a l =
      omega (arith, total_below-strict n (λ b. cond (ltb (key b) (key a)) 1 0) (λ _. 1) a l (λ b _. cond-le (ltb (key b) (key a)) 1) (omega (arith, not_itself a)), total_below-constant n 1)

  rank_rises : (a b : ℕ) → a < n → key a < key b → rank a < rank b
  rank_rises a b l h = total_below-strict n (λ c. cond (ltb (key c) (key a)) 1 0)
      (λ c. cond (ltb (key c) (key b)) 1 0) a l (λ c _. grind (arith, nat_tests)) (omega (arith, not_itself a, cond-yes 1 (lt-ltb (key a) (key b) h)))

  pub rank_once : (a b : ℕ) → a < n → b < n → rank a ≡ rank b → a ≡ b
  rank_once a b l m e = once a b l m (elim (cases_lt (key a) (key b)) [
    | inl h ↦ absurd (omega (arith, e, rank_rises a b l h))
    | inr h ↦ elim (cases_lt (key b) (key a)) [ inl k ↦ absurd (omega (arith, e, rank_rises b a m k)) | inr k ↦ omega (arith, h, k) ]
  ])

  -- a number below the list's number of a rank stands in the list before it
  stands_before : (c r : ℕ) → c < n → r < n → key c < list r → (q : ℕ) × (q < r) × (list q ≡ key c)
  stands_before c r l m h = elim (covers c l) [
    | inl w ↦ (w.0, earlier w.0 w.1 w.2, w.2)
    | inr above ↦ absurd (omega (arith, above r m, h))
  ]
    where
      earlier : (q : ℕ) → q < n → list q ≡ key c → q < r
      earlier q k e = elim (cases_lt q r) [ inl f ↦ f | inr g ↦ elim (cases_lt r q) [ inl f ↦ omega (arith, rises r q f k, e, h) | inr f ↦ omega (arith, ap list (le_antisymm g f), e, h) ] ]

  module _ (a : ℕ) (l : a < n) (less : key a < list (rank a)) where
    -- the numbers up to that of a
    abbrev up_to : ℕ → ℕ
    up_to c = cond (leb (key c) (key a)) 1 0

    abbrev hits : ℕ → ℕ → ℕ
    hits c q = cond (eqb (list q) (key c)) 1 0

    one_more : rank a < total_below n up_to
    one_more = total_below-strict n (λ b. cond (ltb (key b) (key a)) 1 0)
        up_to a l (λ c _. grind (arith, nat_tests)) (omega (arith, not_itself a, cond-yes 1 (le-leb (key a) (key a) (omega arith))))

    each_hits : (c : ℕ) → c < n → up_to c ≤ total_below (rank a) (hits c)
    each_hits c k = elim (cases_Bool (leb (key c) (key a))) [
      | inl e ↦
          let (q, f, g) = stands_before c (rank a) k (rank_inside a l) (omega (arith, leb-true (key c) (key a) e, less)) in
          omega (arith, cond-yes 1 e, total_below-term (rank a) (hits c) q f, cond-yes 1 (eq-eqb (list q) (key c) g))
      | inr e ↦ omega (arith, cond-no 1 e)
    ]

    hit_once : (q : ℕ) → total_below n (λ c. hits c q) ≤ 1
    hit_once q = count_at_most_one n (λ c. eqb (list q) (key c)) (λ b c k m e f. once b c k m (sym (eqb-true (list q) (key b) e) ∙ eqb-true (list q) (key c) f))

    too_many : ⊥
    too_many = omega (
      arith,
      one_more,
      total_below-mono n up_to (λ c. total_below (rank a) (hits c)) each_hits,
      total_below-exchange n (rank a) hits,
      total_below-bound (rank a) 1 (λ q. total_below n (λ c. hits c q)) (λ q _. hit_once q),
    )

  pub rank_early : (a : ℕ) → a < n → list (rank a) ≤ key a
  rank_early a l = elim (cases_lt (key a) (list (rank a))) [ inl h ↦ absurd (too_many a l h) | inr h ↦ omega (arith, h) ]
