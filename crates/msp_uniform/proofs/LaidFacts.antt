-- What segments hold that are laid in two parts.
use Rattle.std.proofs.Common.{◌≡◌, ℕ, ◌+◌, ◌*◌, ◌≤◌, inl, inr, List, ◌∷◌, ◌++◌, All, refl, ap, arith}
use Rattle.std.proofs.lemmas.List.Elements.{All-nil, All-cons, All-head, All-tail}
use Rattle.std.proofs.Math.Nat.{mul-le-mul_left}
use Rattle.msp_class.proofs.Sums.{sum_by-cons}
use Rattle.msp_uniform.specs.declared.segments.Segment.{Segment}
use Rattle.msp_uniform.specs.Segments.{amount, IsLaid, gained, AreFew}

module _ {First Second : Segment → Segment → Type 0} where
  pub IsLaid-append : {zs ws : List ℕ} {xs ys us vs cs ds : List Segment}
      → IsLaid First Second zs xs us vs → IsLaid First Second ws ys cs ds → IsLaid First Second (zs ++ ws) (xs ++ ys) (us ++ cs) (vs ++ ds)
  IsLaid-append IsLaid.none k = k
  IsLaid-append (IsLaid.first f e h) k = IsLaid.first f e (IsLaid-append h k)
  IsLaid-append (IsLaid.second f e h) k = IsLaid.second f e (IsLaid-append h k)
  IsLaid-append (IsLaid.both f g p q e h) k = IsLaid.both f g p q e (IsLaid-append h k)

  pub gained-append : (rate : Segment → ℕ) {zs : List ℕ} {xs us vs : List Segment}
      → IsLaid First Second zs xs us vs → (ws : List ℕ) (ys : List Segment) → gained rate (zs ++ ws) (xs ++ ys) ≡ gained rate zs xs + gained rate ws ys
  gained-append rate IsLaid.none ws ys = omega arith
  gained-append rate (IsLaid.first f e h) ws ys = omega (arith, gained-append rate h ws ys)
  gained-append rate (IsLaid.second f e h) ws ys = omega (arith, gained-append rate h ws ys)
  gained-append rate (IsLaid.both f g p q e h) ws ys = omega (arith, gained-append rate h ws ys)

  -- what holds of the first parts, and of the second
  module _ (P Q : Segment → Type 0) (lasts : (x : Segment) → P x → 1 ≤ x.length) where
    pub All-firsts : ((x y : Segment) → P x → First x y → 1 ≤ y.length → Q y) → {zs : List ℕ} {xs us vs : List Segment} → IsLaid First Second zs xs us vs → All P xs → All Q us
    All-firsts one IsLaid.none p = All-nil Q
    All-firsts one (IsLaid.first {zs} {x} {a} {xs} {firsts} {seconds} f e h) p =
        All-cons Q a firsts (one x a (All-head P x xs p) f (omega (arith, e, lasts x (All-head P x xs p)))) (All-firsts one h (All-tail P x xs p))
    All-firsts one (IsLaid.second {zs} {x} {b} {xs} {firsts} {seconds} f e h) p = All-firsts one h (All-tail P x xs p)
    All-firsts one (IsLaid.both {zs} {x} {a} {b} {xs} {firsts} {seconds} f g m n e h) p = All-cons Q a firsts (one x a (All-head P x xs p) f m) (All-firsts one h (All-tail P x xs p))

    pub All-seconds : ((x y : Segment) → P x → Second x y → 1 ≤ y.length → Q y) → {zs : List ℕ} {xs us vs : List Segment} → IsLaid First Second zs xs us vs → All P xs → All Q vs
    All-seconds two IsLaid.none p = All-nil Q
    All-seconds two (IsLaid.first {zs} {x} {a} {xs} {firsts} {seconds} f e h) p = All-seconds two h (All-tail P x xs p)
    All-seconds two (IsLaid.second {zs} {x} {b} {xs} {firsts} {seconds} f e h) p =
        All-cons Q b seconds (two x b (All-head P x xs p) f (omega (arith, e, lasts x (All-head P x xs p)))) (All-seconds two h (All-tail P x xs p))
    All-seconds two (IsLaid.both {zs} {x} {a} {b} {xs} {firsts} {seconds} f g m n e h) p = All-cons Q b seconds (two x b (All-head P x xs p) g n) (All-seconds two h (All-tail P x xs p))

  -- amounts of the parts
  module _ (P : Segment → Type 0) (rate : Segment → ℕ) where
    pub amount-firsts : (one : Segment → ℕ) → ((x y : Segment) → P x → First x y → rate y ≡ one x)
        → {zs : List ℕ} {xs us vs : List Segment} → IsLaid First Second zs xs us vs → All P xs → amount rate us ≡ gained one zs xs
    amount-firsts one of_first IsLaid.none p = refl
    amount-firsts one of_first (IsLaid.first {zs} {x} {a} {xs} {firsts} {seconds} f e h) p =
        omega (arith, sum_by-cons (λ y. y.length * rate y) a firsts, ap (λ v. a.length * v) (of_first x a (All-head P x xs p) f), amount-firsts one of_first h (All-tail P x xs p))
    amount-firsts one of_first (IsLaid.second {zs} {x} {b} {xs} {firsts} {seconds} f e h) p = omega (arith, amount-firsts one of_first h (All-tail P x xs p))
    amount-firsts one of_first (IsLaid.both {zs} {x} {a} {b} {xs} {firsts} {seconds} f g m n e h) p =
        omega (arith, sum_by-cons (λ y. y.length * rate y) a firsts, ap (λ v. a.length * v) (of_first x a (All-head P x xs p) f), amount-firsts one of_first h (All-tail P x xs p))

    pub amount-seconds : (two : Segment → ℕ) → ((x y : Segment) → P x → Second x y → rate y ≡ two x)
        → {zs : List ℕ} {xs us vs : List Segment} → IsLaid First Second zs xs us vs → All P xs → amount rate vs + gained two zs xs ≡ amount two xs
    amount-seconds two of_second IsLaid.none p = refl
    amount-seconds two of_second (IsLaid.first {zs} {x} {a} {xs} {firsts} {seconds} f e h) p =
        omega (arith, sum_by-cons (λ y. y.length * two y) x xs, ap (λ v. v * two x) e, amount-seconds two of_second h (All-tail P x xs p))
    amount-seconds two of_second (IsLaid.second {zs} {x} {b} {xs} {firsts} {seconds} f e h) p = omega (
      arith,
      sum_by-cons (λ y. y.length * two y) x xs,
      sum_by-cons
          (λ y. y.length * rate y) b seconds,
      ap (λ v. b.length * v) (of_second x b (All-head P x xs p) f),
      ap (λ v. v * two x) e,
      amount-seconds two of_second h (All-tail P x xs p),
    )
    amount-seconds two of_second (IsLaid.both {zs} {x} {a} {b} {xs} {firsts} {seconds} f g m n e h) p = omega (
      arith,
      sum_by-cons (λ y. y.length * two y) x xs,
      sum_by-cons
          (λ y. y.length * rate y) b seconds,
      ap (λ v. b.length * v) (of_second x b (All-head P x xs p) g),
      ap (λ v. v * two x) e,
      amount-seconds two of_second h (All-tail P x xs p),
    )

-- where nothing is left to gain, one segment at most is cut
pub few_parts : (parts segments : ℕ) → AreFew parts segments 0 → parts ≤ segments + 1
few_parts parts segments (inl l) = omega (arith, l)
few_parts parts segments (inr l) = l.1

-- rates that add up
pub gained-add : (f g k : Segment → ℕ) (zs : List ℕ) (xs : List Segment) → All (λ x. f x ≡ g x + k x) xs → gained f zs xs ≡ gained g zs xs + gained k zs xs
gained-add f g k (z ∷ zs) (x ∷ xs) h = omega (arith, ap (λ v. z * v) (All-head (λ x. f x ≡ g x + k x) x xs h), gained-add f g k zs xs (All-tail (λ x. f x ≡ g x + k x) x xs h))
gained-add f g k _ _ h = refl

-- greater rates
pub gained-mono : (f g : Segment → ℕ) (zs : List ℕ) (xs : List Segment) → All (λ x. f x ≤ g x) xs → gained f zs xs ≤ gained g zs xs
gained-mono f g (z ∷ zs) (x ∷ xs) h = omega (arith, mul-le-mul_left z (All-head (λ x. f x ≤ g x) x xs h), gained-mono f g zs xs (All-tail (λ x. f x ≤ g x) x xs h))
gained-mono f g _ _ h = omega arith
