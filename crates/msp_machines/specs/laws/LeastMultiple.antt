-- The least common multiple divides every common multiple.
use Rattle.std.proofs.Common.{◌≡◌, ℕ, zero, suc, ◌+◌, ◌*◌, ◌%◌, ◌<◌, ◌≤◌, Bool, true, false, eqb, List, [], ◌∷◌, get_or, fold, find, All, Some, cond, unwrap_or, refl, sym, ap, ap₂, subst, ◌∙◌, arith}
use Rattle.std.specs.Prelude.{◌==◌, ◌&&◌}
use Rattle.std.specs.Int.{◌∣◌}
use Rattle.std.specs.List.{list_all, range_with_len}
use Rattle.std.proofs.lemmas.Bool.{eqb-true, eqb-false, eq-eqb, false≢true}
use Rattle.std.proofs.lemmas.Nat.{mul-le}
use Rattle.std.proofs.lemmas.Nat.Gcd.{dvd_trans, dvd_antisymm, le_of_dvd, dvd_of_mod-eq-zero, mod-eq-zero_of_dvd}
use Rattle.std.proofs.Math.Nat.{dvd-mod_iff, dvd-mul_left, dvd-mul_right, mod-lt}
use Rattle.std.proofs.lemmas.List.Elements.{All-weaker, All-nil, All-cons, All-head, All-tail}
use Rattle.msp_instance.specs.Conditions.{HasSmallMultiple}
use Rattle.msp_instance.specs.Multiples.{IsLeastOfAll}
use Rattle.msp_class.specs.declared.sizes.TheConstants.{GREATEST_MULTIPLE}
use Rattle.msp_pieces.proofs.feasible.OneMachine.{both_true}
use Rattle.msp_route.specs.Rates.{least_common_multiple}

-- ---- the test of a common multiple
all_divide : (xs : List ℕ) (n : ℕ) → list_all (λ x. n % x == 0) xs ≡ true → All (λ x. x ∣ n) xs
all_divide [] n h = All-nil (λ x. x ∣ n)
all_divide (x ∷ xs) n h = let b = both_true _ _ h in All-cons (λ x. x ∣ n) x xs (dvd_of_mod-eq-zero x (eqb-true _ _ b.0)) (all_divide xs n b.1)

passes : (xs : List ℕ) (n : ℕ) → All (λ x. x ∣ n) xs → list_all (λ x. n % x == 0) xs ≡ true
passes [] n h = refl
passes (x ∷ xs) n h = ap₂ (λ a b. a && b) (eq-eqb (n % x) 0 (mod-eq-zero_of_dvd x (All-head (λ x. x ∣ n) x xs h))) (passes xs n (All-tail (λ x. x ∣ n) x xs h))

-- ---- the first number that passes a test
record IsFirst (p : ℕ → Bool) (a n c m : ℕ) : Type 0 where
  found : find p (range_with_len a n) ≡ Some m
  passed : p m ≡ true
  from : a ≤ m
  before : (k : ℕ) → a ≤ k → k < m → p k ≡ false

first_found : (p : ℕ → Bool) (a n c : ℕ) → a ≤ c → c < a + n → p c ≡ true → (m : ℕ) × IsFirst p a n c m
first_found p a zero c l h e = absurd (omega arith)
first_found p a (suc n) c l h e = by (p a) refl (λ q. first_found p (a + 1) n c q (omega arith) e)
  where
    by : (b : Bool) → p a ≡ b → (a + 1 ≤ c → (m : ℕ) × IsFirst p (a + 1) n c m) → (m : ℕ) × IsFirst p a (suc n) c m
    by true t more = (a, record { found = ap (λ b. cond b (Some a) (find p (range_with_len (a + 1) n))) t; passed = t; from = omega arith; before = λ k f g. absurd (omega arith) })
    by false t more =
        let (m, first) = more (later a c l (differs a c t e)) in (
          m,
          record {
            found = ap (λ b. cond b (Some a) (find p (range_with_len (a + 1) n))) t ∙ first.found;
            passed = first.passed;
            from = omega (arith, first.from);
            before = λ k f g. cases k (eqb a k) refl f (λ w. first.before k w g);
          },
        )
      where
        differs : (a c : ℕ) → p a ≡ false → p c ≡ true → a ≡ c → ⊥
        differs a c t e s = false≢true (sym t ∙ ap p s ∙ e)

        later : (a c : ℕ) → a ≤ c → (a ≡ c → ⊥) → a + 1 ≤ c
        later a c l h = omega arith

        cases : (k : ℕ) (b : Bool) → eqb a k ≡ b → a ≤ k → (a + 1 ≤ k → p k ≡ false) → p k ≡ false
        cases k true e f more = ap p (sym (eqb-true a k e)) ∙ t
        cases k false e f more = more (later a k f (eqb-false a k e))

-- ---- the product is a common multiple
fold_product : (a : ℕ) (xs : List ℕ) → fold ◌*◌ a xs ≡ a * fold ◌*◌ 1 xs
fold_product a [] = omega arith
fold_product a (x ∷ xs) = fold_product (a * x) xs ∙ factors a x (fold ◌*◌ 1 xs) ∙ ap (λ y. a * y) (sym (fold_product (1 * x) xs))
  where
    factors : (a t q : ℕ) → a * t * q ≡ a * (1 * t * q)
    factors a t q = omega arith

product-cons : (x : ℕ) (xs : List ℕ) → fold ◌*◌ 1 (x ∷ xs) ≡ x * fold ◌*◌ 1 xs
product-cons x xs = fold_product (1 * x) xs ∙ ap (λ y. y * fold ◌*◌ 1 xs) one
  where
    one : 1 * x ≡ x
    one = omega arith

product_some : (xs : List ℕ) → All (λ x. 1 ≤ x) xs → 1 ≤ fold ◌*◌ 1 xs
product_some [] h = omega arith
product_some (x ∷ xs) h = subst (λ n. 1 ≤ n) (sym (product-cons x xs)) (mul-le 1 1 x (fold ◌*◌ 1 xs) (All-head (λ x. 1 ≤ x) x xs h) (product_some xs (All-tail (λ x. 1 ≤ x) x xs h)))

product_divided : (xs : List ℕ) → All (λ x. x ∣ fold ◌*◌ 1 xs) xs
product_divided [] = All-nil (λ x. x ∣ 1)
product_divided (x ∷ xs) = subst (λ n. All (λ y. y ∣ n) (x ∷ xs)) (sym (product-cons x xs))
    (All-cons (λ y. y ∣ x * fold ◌*◌ 1 xs) x xs (dvd-mul_right x (fold ◌*◌ 1 xs))
    (All-weaker (λ y. y ∣ fold ◌*◌ 1 xs) (λ y. y ∣ x * fold ◌*◌ 1 xs) (λ y h. dvd_trans y h (dvd-mul_left (fold ◌*◌ 1 xs) x)) xs (product_divided xs)))

-- ---- the least common multiple
pub least_multiple : (xs : List ℕ) → All (λ x. 1 ≤ x) xs → IsLeastOfAll xs (least_common_multiple xs)
unfolding least_common_multiple
least_multiple xs some =
    let top = fold ◌*◌ 1 xs in
    let (m, first) = first_found (λ n. list_all (λ x. n % x == 0) xs) 1 top top (product_some xs some) (omega arith) (passes xs top (product_divided xs)) in
    subst (IsLeastOfAll xs) (sym (ap (λ o. unwrap_or o 1) first.found)) (record {
      some = first.from;
      common = all_divide xs m first.passed;
      least = λ c h. divides m c first (all_divide xs m first.passed) h;
    })
  where
    divides : (m c : ℕ) → IsFirst (λ n. list_all (λ x. n % x == 0) xs) 1 (fold ◌*◌ 1 xs) (fold ◌*◌ 1 xs) m → All (λ x. x ∣ m) xs → All (λ x. x ∣ c) xs → m ∣ c
    divides m c first common h = by (eqb (c % m) 0) refl
      where
        rest : All (λ x. x ∣ c % m) xs
        rest = λ k d l. (dvd-mod_iff (get_or xs k d) (common k d l)).1 (h k d l)

        by : (b : Bool) → eqb (c % m) 0 ≡ b → m ∣ c
        by true e = dvd_of_mod-eq-zero m (eqb-true _ _ e)
        by false e = absurd (false≢true (sym (first.before (c % m) (more (c % m) (eqb-false _ _ e)) (mod-lt c first.from)) ∙ passes xs (c % m) rest))
          where
            more : (r : ℕ) → (r ≡ 0 → ⊥) → 1 ≤ r
            more r h = omega arith

-- there is no other
pub least_multiple-only : (xs : List ℕ) (multiple : ℕ) → All (λ x. 1 ≤ x) xs → IsLeastOfAll xs multiple → multiple ≡ least_common_multiple xs
least_multiple-only xs multiple some h = let l = least_multiple xs some in dvd_antisymm (h.least (least_common_multiple xs) l.common) (l.least multiple h.common)

-- where some common multiple is small, so is the least one
pub least-small : (xs : List ℕ) (multiple : ℕ) → HasSmallMultiple xs → IsLeastOfAll xs multiple → multiple ≤ GREATEST_MULTIPLE
least-small xs multiple h l = omega
    (arith, h.1, h.2, le_of_dvd (omega (arith, h.1)) (l.least h.0 (λ k d t. let p = h.3 k d t in subst (λ n. get_or xs k d ∣ n) (sym p.1) (dvd-mul_left (get_or xs k d) p.0))))
