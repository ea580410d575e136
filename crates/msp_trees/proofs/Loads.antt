-- Which block is joined next: the one of greatest weight for its time.
use Rattle.std.proofs.Common.{◌≡◌, ℕ, ◌+◌, ◌*◌, ◌<◌, ◌≤◌, ◌⊎◌, inl, inr, List, [], length, get_or, refl, sym, ap, ap₂, subst, ◌∙◌, arith, below_more}
use Rattle.msp_instance.specs.declared.Instance.{Instance}
use Rattle.msp_route.proofs.Ratios.{strict_left, strict_right, level}
use Rattle.msp_trees.specs.declared.joining.Load.{Load}
use Rattle.msp_trees.specs.Horn.{time_of, weight_of, GoesNext}
use Rattle.msp_trees.specs.Joining.{GoesNoLater}

pub at_most : (x y : Load) → GoesNoLater x y → y.weight * x.time ≤ x.weight * y.time
at_most x y h = elim h [ inl l ↦ omega (arith, l) | inr e ↦ omega (arith, e.0) ]

-- it goes on past a middle one
goes_on : (a b c : Load) → 0 < a.time → 0 < b.time → 0 < c.time → GoesNoLater b a → GoesNoLater c b → GoesNoLater c a
goes_on a b c sa sb sc h k = elim h [
  | inl l ↦ inl (strict_left a.weight b.weight c.weight a.time b.time c.time sc l (at_most c b k))
  | inr e ↦ elim k [
    | inl l ↦ inl (strict_right a.weight b.weight c.weight a.time b.time c.time sa (omega (arith, e.0)) l)
    | inr f ↦ inr (level a.weight b.weight c.weight a.time b.time c.time sb e.0 f.0, omega (arith, e.1, f.1))
  ]
]

abbrev make : ℕ → ℕ → ℕ → ℕ → Load
make p f t w = record { place = p; first = f; time = t; weight = w }

-- what the rule compares of the block at the place
abbrev pub load : Instance → List (List ℕ) → ℕ → Load
load i blocks k = make k (get_or (get_or blocks k []) 0 0) (time_of i (get_or blocks k [])) (weight_of i (get_or blocks k []))

module _ (i : Instance) (blocks : List (List ℕ)) where
  pub load_is : (x : Load) (jobs : List ℕ) (k : ℕ) → x.place ≡ k → x.first ≡ get_or jobs 0 0 → jobs ≡ get_or blocks k [] → x.time ≡ time_of i jobs → x.weight ≡ weight_of i jobs → x ≡ load i blocks k
  load_is x jobs k place first e time weight = ap₂ (λ p f. make p f x.time x.weight) place (first ∙ ap (λ l. get_or l 0 0) e)
      ∙ ap₂ (make k (get_or (get_or blocks k []) 0 0)) (time ∙ ap (time_of i) e) (weight ∙ ap (weight_of i) e)

  -- a block among so many, by its load
  pub record IsOneOf (x : Load) (count : ℕ) : Type 0 where
    pub later : 1 ≤ x.place
    pub early : x.place < count
    pub is : x ≡ load i blocks x.place
    pub some : 0 < x.time

  -- the block that is joined before all others so far
  pub record IsBestSoFar (best : Load) (count : ℕ) : Type 0 where
    pub one : IsOneOf best count
    pub leads : (k : ℕ) → 1 ≤ k → k < count → GoesNoLater best (load i blocks k)

  IsOneOf-at : (x : Load) (k count : ℕ) → x ≡ load i blocks k → 1 ≤ k → k < count → 0 < time_of i (get_or blocks k []) → IsOneOf x count
  IsOneOf-at x k count e from l some = subst (λ x. IsOneOf x count) (sym e) (record { later = from; early = l; is = refl; some = some })

  pub best-first : (x : Load) → x ≡ load i blocks 1 → 0 < time_of i (get_or blocks 1 []) → IsBestSoFar x 2
  best-first x e some = record {
    one = IsOneOf-at x 1 2 e (omega arith) (omega arith) some;
    leads = λ k from l. let is : 1 ≡ k = omega (arith, from, l) in subst (λ n. GoesNoLater x (load i blocks n)) is (subst (λ y. GoesNoLater y (load i blocks 1)) (sym e) (inr (refl, omega arith)));
  }

  pub best-next : (a b r : Load) (k : ℕ) → 1 ≤ k → b ≡ load i blocks k → ((m : ℕ) → 1 ≤ m → m < k + 1 → 0 < time_of i (get_or blocks m []))
      → (r ≡ a) ⊎ (r ≡ b) → GoesNoLater r a → GoesNoLater r b → IsBestSoFar a k → IsBestSoFar r (k + 1)
  best-next a b r k from e positive either of_a of_b h =
      let one : IsOneOf r (k + 1) = elim either [
        | inl s ↦ subst (λ x. IsOneOf x (k + 1)) (sym s) (record { later = h.one.later; early = omega (arith, h.one.early); is = h.one.is; some = h.one.some })
        | inr s ↦ IsOneOf-at r k (k + 1) (s ∙ e) from (omega arith) (positive k from (omega arith))
      ] in
      record {
        one = one;
        leads = λ m some l. below_more (λ m. 1 ≤ m → m < k + 1 → GoesNoLater r (load i blocks m)) k
            (λ m early some l. goes_on (load i blocks m) a r (positive m some l) h.one.some one.some (h.leads m some early) of_a)
            (λ _ _. subst (GoesNoLater r) e of_b) m l some l;
      }

  pub best-end : (best : Load) (count : ℕ) → length blocks ≤ count → IsBestSoFar best count → GoesNext i blocks best.place
  best-end best count all h k one l = subst (λ x. GoesNoLater x (load i blocks k)) h.one.is (h.leads k one (omega (arith, l, all)))
