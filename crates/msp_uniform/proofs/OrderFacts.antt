-- The parts of laid segments in order, and works that end at whole moments.
use Rattle.std.proofs.Common.{◌≡◌, ℕ, zero, suc, ◌+◌, ◌*◌, ◌-◌, ◌<◌, ◌≤◌, inl, inr, Bool, true, false, leb, List, [], ◌∷◌, ◌++◌, length, map, All, refl, sym, ap, ap₂, subst, ◌∙◌, arith}
use Rattle.std.specs.Int.{◌∣◌}
use Rattle.std.proofs.Math.Nat.{dvd-add, dvd-mul_left, eq_of_mul-eq-mul_right, dvd-mul_right_of_dvd}
use Rattle.std.proofs.lemmas.Bool.{leb-true, leb-false}
use Rattle.std.proofs.lemmas.Nat.Gcd.{dvd_trans}
use Rattle.std.proofs.lemmas.List.Elements.{All-nil, All-cons, All-head, All-tail, All-append}
use Rattle.msp_class.proofs.Sums.{sum_by-cons}
use Rattle.msp_uniform.specs.declared.segments.Segment.{Segment}
use Rattle.msp_uniform.specs.Segments.{IsLaid, gained, amount, InOrder, AreOrdered, AreWhole}
use Rattle.std.proofs.lemmas.List.{map_push}

pub All-append_right : {X : Type 0} (P : X → Type 0) (xs ys : List X) → All P (xs ++ ys) → All P ys
All-append_right P [] ys h = h
All-append_right P (x ∷ xs) ys h = All-append_right P xs ys (All-tail P x (xs ++ ys) h)

pub IsLaid-lengths : {First Second : Segment → Segment → Type 0} {zs : List ℕ} {xs us vs : List Segment} → IsLaid First Second zs xs us vs → length zs ≡ length xs
IsLaid-lengths IsLaid.none = refl
IsLaid-lengths (IsLaid.first f e h) = ap suc (IsLaid-lengths h)
IsLaid-lengths (IsLaid.second f e h) = ap suc (IsLaid-lengths h)
IsLaid-lengths (IsLaid.both f g m n e h) = ap suc (IsLaid-lengths h)

-- ---- one part more
InOrder-nothing : (zs : List ℕ) (xs : List Segment) (x : Segment) → length zs ≡ length xs → InOrder zs xs → InOrder (zs ++ 0 ∷ []) (xs ++ x ∷ [])
InOrder-nothing [] [] x e h = inr (All-nil (λ y. y ≡ 0))
InOrder-nothing (z ∷ zs) (y ∷ ys) x e (inl (f, o)) = inl (f, InOrder-nothing zs ys x (omega (arith, e)) o)
InOrder-nothing (z ∷ zs) (y ∷ ys) x e (inr a) = inr (All-append (λ y. y ≡ 0) zs (0 ∷ []) a (All-cons (λ y. y ≡ 0) 0 [] refl (All-nil (λ y. y ≡ 0))))
InOrder-nothing _ _ x e h = absurd (omega (arith, e))

InOrder-whole : (z : ℕ) (xs : List Segment) (x : Segment) → InOrder (map (λ y. y.length) xs ++ z ∷ []) (xs ++ x ∷ [])
InOrder-whole z [] x = inr (All-nil (λ y. y ≡ 0))
InOrder-whole z (y ∷ ys) x = inl (refl, InOrder-whole z ys x)

pub AreOrdered-next : (left after : ℕ) (zs : List ℕ) (xs : List Segment) (x : Segment) (z g : ℕ) → length zs ≡ length xs → 1 ≤ g → AreOrdered left zs xs
    → z * g + after ≡ left → (x.length * g ≤ left → after ≡ left - x.length * g) → (left < x.length * g → after ≡ 0) → AreOrdered after (zs ++ z ∷ []) (xs ++ x ∷ [])
AreOrdered-next zero after zs xs x z g size some h e enough short = record {
  order = subst (λ k. InOrder (zs ++ k ∷ []) (xs ++ x ∷ []))
      (sym (eq_of_mul-eq-mul_right g some z 0 (omega (arith, e)))) (InOrder-nothing zs xs x size h.order);
  whole = λ l. absurd (omega (arith, l, e));
}
AreOrdered-next (suc left) after zs xs x z g size some h e enough short = record {
  order = subst (λ l. InOrder (l ++ z ∷ []) (xs ++ x ∷ [])) (sym (h.whole (omega arith))) (InOrder-whole z xs x);
  whole = λ l. ap₂ (λ a b. a ++ b ∷ []) (h.whole (omega arith)) (by l (leb (x.length * g) (suc left)) refl) ∙ sym (map_push (λ y. y.length) xs x);
}
  where
    by : 1 ≤ after → (v : Bool) → leb (x.length * g) (suc left) ≡ v → z ≡ x.length
    by l true f = eq_of_mul-eq-mul_right g (omega (arith, some)) z x.length (omega (arith, enough (leb-true _ _ f), leb-true _ _ f, e))
    by l false f = absurd (omega (arith, l, short (omega (arith, leb-false _ _ f))))

-- ---- whole moments
InOrder-zeros : (zs : List ℕ) (xs : List Segment) → All (λ y. y ≡ 0) zs → InOrder zs xs
InOrder-zeros (z ∷ zs) (x ∷ xs) a = inr (All-tail (λ y. y ≡ 0) z zs a)
InOrder-zeros _ _ a = tt

InOrder-rest : (z : ℕ) (zs : List ℕ) (x : Segment) (xs : List Segment) → InOrder (z ∷ zs) (x ∷ xs) → InOrder zs xs
InOrder-rest z zs x xs (inl (q, o)) = o
InOrder-rest z zs x xs (inr a) = InOrder-zeros zs xs a

gained-zeros : (rate : Segment → ℕ) (zs : List ℕ) (xs : List Segment) → All (λ y. y ≡ 0) zs → gained rate zs xs ≡ 0
gained-zeros rate (z ∷ zs) (x ∷ xs) a = omega (arith, ap (λ k. k * rate x) (All-head (λ y. y ≡ 0) z zs a), gained-zeros rate zs xs (All-tail (λ y. y ≡ 0) z zs a))
gained-zeros rate _ _ a = refl

module _ {First Second : Segment → Segment → Type 0} (P : Segment → Type 0)
    (lasts : (x : Segment) → P x → 1 ≤ x.length) (rate : Segment → ℕ) (of_second : (x y : Segment) → P x → Second x y → rate y ≡ rate x) where
  no_firsts : {zs : List ℕ} {xs us vs : List Segment} → IsLaid First Second zs xs us vs → All P xs → All (λ y. y ≡ 0) zs → us ≡ []
  no_firsts IsLaid.none p a = refl
  no_firsts (IsLaid.first {zs} {x} {a = y} {xs} {firsts = us} {seconds = vs} f e h) p a = absurd (omega (arith, e, lasts x (All-head P x xs p), All-head (λ y. y ≡ 0) y.length zs a))
  no_firsts (IsLaid.second {zs} {x} {b = y} {xs} {firsts = us} {seconds = vs} f e h) p a = no_firsts h (All-tail P x xs p) (All-tail (λ y. y ≡ 0) 0 zs a)
  no_firsts (IsLaid.both {zs} {x} {a = y} {b = w} {xs} {firsts = us} {seconds = vs} f g m n e h) p a = absurd (omega (arith, m, All-head (λ y. y ≡ 0) y.length zs a))

  -- after what the first parts gain
  pub AreWhole-seconds : (d : ℕ) {zs : List ℕ} {xs us vs : List Segment} → IsLaid First Second zs xs us vs → All P xs → InOrder zs xs → AreWhole rate d xs → AreWhole rate (d + gained rate zs xs) vs
  AreWhole-seconds d IsLaid.none p o w = tt
  AreWhole-seconds d (IsLaid.first {zs} {x} {a = y} {xs} {firsts = us} {seconds = vs} f e h) p o w =
      subst (λ k. AreWhole rate k vs) (omega (arith, ap (λ n. n * rate x) e))
      (AreWhole-seconds (d + x.length * rate x) h (All-tail P x xs p) (InOrder-rest y.length zs x xs o) w.1)
  AreWhole-seconds d (IsLaid.second {zs} {x} {b = y} {xs} {firsts = us} {seconds = vs} f e h) p (inl (q, o)) w = absurd (omega (arith, q, lasts x (All-head P x xs p)))
  AreWhole-seconds d (IsLaid.second {zs} {x} {b = y} {xs} {firsts = us} {seconds = vs} f e h) p (inr a) w =
      let none : gained rate zs xs ≡ 0 = gained-zeros rate zs xs a in
      let is : rate y ≡ rate x = of_second x y (All-head P x xs p) f in (
        subst (λ k. k ∣ d + (0 * rate x + gained rate zs xs)) (sym is) (subst (λ k. rate x ∣ k) (omega (arith, none)) w.0),
        subst (λ k. AreWhole rate k vs)
            (omega (arith, none, ap₂ (λ m n. m * n) e is)) (AreWhole-seconds (d + x.length * rate x) h (All-tail P x xs p) (InOrder-zeros zs xs a) w.1),
      )
  AreWhole-seconds d (IsLaid.both {zs} {x} {a = y} {b = v} {xs} {firsts = us} {seconds = vs} f g m n e h) p (inl (q, o)) w = absurd (omega (arith, q, n, e))
  AreWhole-seconds d (IsLaid.both {zs} {x} {a = y} {b = v} {xs} {firsts = us} {seconds = vs} f g m n e h) p (inr a) w =
      let none : gained rate zs xs ≡ 0 = gained-zeros rate zs xs a in
      let is : rate v ≡ rate x = of_second x v (All-head P x xs p) g in (
        subst (λ k. k ∣ d + (y.length * rate x + gained rate zs xs)) (sym is)
            (subst (λ k. rate x ∣ k) (omega (arith, none)) (dvd-add _ w.0 (dvd-mul_left (rate x) y.length))),
        subst (λ k. AreWhole rate k vs) (omega (arith, none, ap (λ n. n * rate x) e, ap (λ n. v.length * n) is))
            (AreWhole-seconds (d + x.length * rate x) h (All-tail P x xs p) (InOrder-zeros zs xs a) w.1),
      )

  -- at a rate that first parts keep too
  pub AreWhole-laid : ((x y : Segment) → P x → First x y → rate y ≡ rate x) → (d : ℕ) {zs : List ℕ} {xs us vs : List Segment}
      → IsLaid First Second zs xs us vs → All P xs → InOrder zs xs → AreWhole rate d xs → AreWhole rate d (us ++ vs)
  AreWhole-laid of_first d IsLaid.none p o w = tt
  AreWhole-laid of_first d (IsLaid.first {zs} {x} {a = y} {xs} {firsts = us} {seconds = vs} f e h) p o w =
      let is : rate y ≡ rate x = of_first x y (All-head P x xs p) f in (
        subst (λ k. k ∣ d) (sym is) w.0,
        subst (λ k. AreWhole rate k (us ++ vs)) (omega (arith, ap₂ (λ m n. m * n) e is))
            (AreWhole-laid of_first (d + x.length * rate x) h (All-tail P x xs p) (InOrder-rest y.length zs x xs o) w.1),
      )
  AreWhole-laid of_first d (IsLaid.second {zs} {x} {b = y} {xs} {firsts = us} {seconds = vs} f e h) p (inl (q, o)) w = absurd (omega (arith, q, lasts x (All-head P x xs p)))
  AreWhole-laid of_first d (IsLaid.second {zs} {x} {b = y} {xs} {firsts = us} {seconds = vs} f e h) p (inr a) w =
      let is : rate y ≡ rate x = of_second x y (All-head P x xs p) f in
      let no : us ≡ [] = no_firsts h (All-tail P x xs p) a in
      subst (λ l. AreWhole rate d (l ++ y ∷ vs)) (sym no) (
        subst (λ k. k ∣ d) (sym is) w.0,
        subst (λ l. AreWhole rate (d + y.length * rate y) (l ++ vs)) no (subst (λ k. AreWhole rate k (us ++ vs))
            (omega (arith, ap₂ (λ m n. m * n) e is)) (AreWhole-laid of_first (d + x.length * rate x) h (All-tail P x xs p) (InOrder-zeros zs xs a) w.1)),
      )
  AreWhole-laid of_first d (IsLaid.both {zs} {x} {a = y} {b = v} {xs} {firsts = us} {seconds = vs} f g m n e h) p (inl (q, o)) w = absurd (omega (arith, q, n, e))
  AreWhole-laid of_first d (IsLaid.both {zs} {x} {a = y} {b = v} {xs} {firsts = us} {seconds = vs} f g m n e h) p (inr a) w =
      let is : rate y ≡ rate x = of_first x y (All-head P x xs p) f in
      let also : rate v ≡ rate x = of_second x v (All-head P x xs p) g in
      let no : us ≡ [] = no_firsts h (All-tail P x xs p) a in (
        subst (λ k. k ∣ d) (sym is) w.0,
        subst (λ l. AreWhole rate (d + y.length * rate y) (l ++ v ∷ vs)) (sym no) (
          subst (λ k. k ∣ d + y.length * rate y) (is ∙ sym also) (dvd-add _ (subst (λ k. k ∣ d) (sym is) w.0) (dvd-mul_left (rate y) y.length)),
          subst (λ l. AreWhole rate (d + y.length * rate y + v.length * rate v) (l ++ vs)) no (subst (λ k. AreWhole rate k (us ++ vs))
              (omega (arith, ap (λ n. n * rate x) e, ap (λ n. y.length * n) is, ap (λ n. v.length * n) also))
              (AreWhole-laid of_first (d + x.length * rate x) h (All-tail P x xs p) (InOrder-zeros zs xs a) w.1)),
        ),
      )

-- one after another
pub AreWhole-both : (rate : Segment → ℕ) (d : ℕ) (xs ys : List Segment) → AreWhole rate d xs → AreWhole rate (d + amount rate xs) ys → AreWhole rate d (xs ++ ys)
AreWhole-both rate d [] ys a b = subst (λ k. AreWhole rate k ys) (omega arith) b
AreWhole-both rate d (x ∷ xs) ys a b =
    (a.0, AreWhole-both rate (d + x.length * rate x) xs ys a.1 (subst (λ k. AreWhole rate k ys) (omega (arith, sum_by-cons (λ y. y.length * rate y) x xs)) b))

pub AreWhole-first : (rate : Segment → ℕ) (d : ℕ) (xs ys : List Segment) → AreWhole rate d (xs ++ ys) → AreWhole rate d xs
AreWhole-first rate d [] ys w = tt
AreWhole-first rate d (x ∷ xs) ys w = (w.0, AreWhole-first rate (d + x.length * rate x) xs ys w.1)

pub AreWhole-then : (rate : Segment → ℕ) (d : ℕ) (xs ys : List Segment) → AreWhole rate d (xs ++ ys) → AreWhole rate (d + amount rate xs) ys
AreWhole-then rate d [] ys w = subst (λ k. AreWhole rate k ys) (omega arith) w
AreWhole-then rate d (x ∷ xs) ys w =
    subst (λ k. AreWhole rate k ys) (omega (arith, sum_by-cons (λ y. y.length * rate y) x xs)) (AreWhole-then rate (d + x.length * rate x) xs ys w.1)

-- all lengths are multiples of a multiple of the rates
pub AreWhole-multiples : (multiple : ℕ) (rate : Segment → ℕ) (d : ℕ) (xs : List Segment) → multiple ∣ d → All (λ x. multiple ∣ x.length) xs → All (λ x. rate x ∣ multiple) xs → AreWhole rate d xs
AreWhole-multiples multiple rate d [] e l r = tt
AreWhole-multiples multiple rate d (x ∷ xs) e l r = (
  dvd_trans (rate x) (All-head (λ x. rate x ∣ multiple) x xs r) e,
  AreWhole-multiples multiple rate (d + x.length * rate x) xs
      (dvd-add multiple e (dvd-mul_right_of_dvd multiple (All-head (λ x. multiple ∣ x.length) x xs l) (rate x)))
      (All-tail (λ x. multiple ∣ x.length) x xs l) (All-tail (λ x. rate x ∣ multiple) x xs r),
)
