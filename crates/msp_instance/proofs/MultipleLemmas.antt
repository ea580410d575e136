-- Lemmas on greatest common divisors and least common multiples.
use Rattle.std.proofs.Common.{◌≡◌, ℕ, ◌+◌, ◌*◌, ◌/◌, ◌%◌, ◌<◌, ◌≤◌, ◌^◌, List, [], ◌∷◌, ◌++◌, length, get_or, take, All, Contains, IsTrue, true, false, ◌↔◌}
use Rattle.std.proofs.Common.{refl, sym, ap, ◌∙◌, subst, subst₂, arith, inl, inr}
use Rattle.std.specs.Int.{◌∣◌, IsGcd}
use Rattle.std.proofs.lemmas.Nat.Gcd.{IsGcd-from_mod, dvd_trans, le_of_dvd}
use Rattle.std.proofs.Math.Nat.{dvd-add_iff_right, dvd-mul_right_of_dvd, div-mul_cancel, mul-dvd-mul_left, mul-dvd-mul_right, dvd_of_mul-dvd-mul_right, pos_of_dvd_of_pos}
use Rattle.std.proofs.Math.Nat.{dvd-mul_right, dvd-mul_left, div-add-mod, one-dvd}
use Rattle.std.proofs.lemmas.Bool.{false≢true, cases_lt}
use Rattle.std.proofs.lemmas.Nat.{mul-le}
use Rattle.std.proofs.lemmas.List.Elements.{All-more, All-take, All-weaker, All-contains, All-nil, All-cons, All-head, All-tail, Contains-push}
use Rattle.std.proofs.lemmas.List.{take_more}
use Rattle.msp_instance.specs.Conditions.{HasSmallMultiple}
use Rattle.msp_instance.specs.Multiples.{IsLeastMultiple, IsLeastOfAll}

-- a greatest common divisor of x and y is one of a and b, and what divides multiples of a and b by one factor divides those of x and y
pub record SharesDivisors (a b x y : ℕ) : Type 0 where
  pub back : (g : ℕ) → IsGcd x y g → IsGcd a b g
  pub on : (d factor : ℕ) → d ∣ factor * a → d ∣ factor * b → (d ∣ factor * x) × (d ∣ factor * y)

pub SharesDivisors-start : (a b : ℕ) → SharesDivisors a b a b
SharesDivisors-start a b = record { back = λ g h. h; on = λ d k p q. (p, q) }

scaled_rest : (k x y : ℕ) → k * x ≡ k * y * (x / y) + k * (x % y)
scaled_rest k x y = ap (λ n. k * n) (sym (div-add-mod x y)) ∙ omega arith

pub SharesDivisors-next : (a b x y : ℕ) → SharesDivisors a b x y → SharesDivisors a b y (x % y)
SharesDivisors-next a b x y h = record {
  back = λ g i. h.back g (IsGcd-from_mod x y g i);
  on = λ d k p q. let both = h.on d k p q in (both.1, (dvd-add_iff_right d (dvd-mul_right_of_dvd d both.1 (x / y))).1 (subst (λ n. d ∣ n) (scaled_rest k x y) both.0));
}

pub IsLeastMultiple-from_divisor : (a b g : ℕ) → 1 ≤ a → 1 ≤ b → IsGcd a b g → ((d k : ℕ) → d ∣ k * a → d ∣ k * b → d ∣ k * g) → IsLeastMultiple a b (a / g * b) × (1 ≤ a / g * b) × (1 ≤ g) × (g ≤ a)
IsLeastMultiple-from_divisor a b g some_a some_b h scaled = (record { left = left; right = dvd-mul_left b (a / g); least = least }, some, some_g, le_of_dvd some_a h.0)
  where
    some_g : 0 < g
    some_g = pos_of_dvd_of_pos h.0 (omega arith)

    cut_a : a / g * g ≡ a
    cut_a = div-mul_cancel g h.0

    turned : a / g * b ≡ a * (b / g)
    turned = ap (λ n. a / g * n) (sym (div-mul_cancel g h.1)) ∙ omega arith ∙ ap (λ n. n * (b / g)) cut_a

    left : a ∣ a / g * b
    left = subst (λ n. a ∣ n) (sym turned) (dvd-mul_right a (b / g))

    whole : a * b ≡ a / g * b * g
    whole = ap (λ n. n * b) (sym cut_a) ∙ omega arith

    some : 1 ≤ a / g * b
    some = pos_of_dvd_of_pos (subst (λ n. a / g * b ∣ n) (sym whole) (dvd-mul_right (a / g * b) g)) (mul-le 1 1 a b some_a some_b)

    least : (m : ℕ) → a ∣ m → b ∣ m → a / g * b ∣ m
    least m p q = dvd_of_mul-dvd-mul_right (a / g * b)
        some_g (subst (λ n. n ∣ m * g) whole (scaled (a * b) m (subst (λ n. a * b ∣ n) (omega arith) (mul-dvd-mul_left b a q)) (mul-dvd-mul_right a p b)))

pub IsLeastMultiple-from_wide : (a b x y g : ℕ) → x ≡ a → y ≡ b
    → 1 ≤ a → 1 ≤ b → IsGcd x y g → ((d k : ℕ) → d ∣ k * x → d ∣ k * y → d ∣ k * g) → IsLeastMultiple a b (a / g * b) × (1 ≤ a / g * b) × (1 ≤ g) × (g ≤ a)
IsLeastMultiple-from_wide a b x y g e f some_a some_b h scaled =
    IsLeastMultiple-from_divisor a b g some_a some_b (subst₂ (λ x y. IsGcd x y g) e f h) (subst₂ (λ x y. (d k : ℕ) → d ∣ k * x → d ∣ k * y → d ∣ k * g) e f scaled)

pub IsLeastOfAll-none : IsLeastOfAll [] 1
IsLeastOfAll-none = record { some = omega arith; common = λ k d t. absurd (omega arith); least = λ m h. one-dvd m }

pub All-append_left : {X : Type 0} (P : X → Type 0) (xs ys : List X) → All P (xs ++ ys) → All P xs
All-append_left P [] ys h = All-nil P
All-append_left P (x ∷ xs) ys h = All-cons P x xs (All-head P x (xs ++ ys) h) (All-append_left P xs ys (All-tail P x (xs ++ ys) h))

pub IsLeastOfAll-more : (xs : List ℕ) (k multiple next : ℕ)
    → k < length xs → IsLeastOfAll (take k xs) multiple → 1 ≤ next → IsLeastMultiple multiple (get_or xs k 0) next → IsLeastOfAll (take (k + 1) xs) next
IsLeastOfAll-more xs k multiple next t so_far some h = record {
  some = some;
  common = All-more (λ s. s ∣ next) xs k 0 t (All-weaker _ _ (λ s p. dvd_trans s p h.left) (take k xs) so_far.common) h.right;
  least = λ m p. h.least m (so_far.least m (before m p)) (at m p);
}
  where
    cut : take (k + 1) xs ≡ take k xs ++ get_or xs k 0 ∷ []
    cut = take_more xs k 0 t

    before : (m : ℕ) → All (λ s. s ∣ m) (take (k + 1) xs) → All (λ s. s ∣ m) (take k xs)
    before m p = All-append_left (λ s. s ∣ m) (take k xs) (get_or xs k 0 ∷ []) (subst (All (λ s. s ∣ m)) cut p)

    at : (m : ℕ) → All (λ s. s ∣ m) (take (k + 1) xs) → get_or xs k 0 ∣ m
    at m p = All-contains (λ s. s ∣ m) (take (k + 1) xs) (get_or xs k 0) p (subst (λ l. Contains l (get_or xs k 0)) (sym cut) (Contains-push (take k xs) (get_or xs k 0)))

divided : (m : ℕ) (xs : List ℕ) → HasSmallMultiple xs → (n : ℕ) × (1 ≤ n) × (n ≤ 2 ^ 30) × All (λ s. s ∣ n) xs
divided m xs h = (h.0, h.1, h.2, λ k d t. let p = h.3 k d t in subst (λ n. get_or xs k d ∣ n) (sym p.1) (dvd-mul_left (get_or xs k d) p.0))

-- where the least common multiple of some first numbers is too great, so is that of all
pub no_small_multiple : (xs : List ℕ) (k multiple : ℕ) → IsLeastOfAll (take k xs) multiple → 2 ^ 30 < multiple → ¬ HasSmallMultiple xs
no_small_multiple xs k multiple h great w =
    let n = divided multiple xs w in
    absurd (omega (arith, n.1, n.2, le_of_dvd (omega (arith, n.1)) (h.least n.0 (All-take (λ s. s ∣ n.0) k xs n.3))))

pub small_multiple_found : (xs : List ℕ) (multiple : ℕ) → IsLeastOfAll xs multiple → multiple ≤ 2 ^ 30 → IsTrue true ↔ HasSmallMultiple xs
small_multiple_found xs multiple h small =
    (λ _. (multiple, h.some, small, λ k d t. (multiple / get_or xs k d, sym (div-mul_cancel (get_or xs k d) (h.common k d t)))), λ _. refl)

pub small_multiple_missing : (xs : List ℕ) (k multiple : ℕ) → IsLeastOfAll (take k xs) multiple → 2 ^ 30 < multiple → IsTrue false ↔ HasSmallMultiple xs
small_multiple_missing xs k multiple h great = (λ e. absurd (false≢true e), λ w. absurd (no_small_multiple xs k multiple h great w))

-- where some common multiple is small, so is the least one of some first numbers
pub multiple_small : (xs : List ℕ) (k multiple : ℕ) → HasSmallMultiple xs → IsLeastOfAll (take k xs) multiple → multiple ≤ 2 ^ 30
multiple_small xs k multiple small h =
    elim (cases_lt (2 ^ 30) multiple) [ inl great ↦ absurd (no_small_multiple xs k multiple h great small) | inr low ↦ low ]
