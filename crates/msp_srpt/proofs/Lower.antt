-- Why no schedule on one machine has a lesser sum of ends than one that keeps the rule of shortest remaining time. The jobs are those below
-- n, released at `r`, with the times `p`; `run t j` says how long job j runs before the moment t under the rule. The other schedule is any
-- list of pieces that are apart, in parts of a unit.
use Rattle.std.proofs.Common.{◌≡◌, ℕ, zero, suc, ◌+◌, ◌*◌, ◌-◌, ◌/◌, ◌<◌, ◌≤◌, ◌⊎◌, inl, inr, Bool, true, false, cond, eqb, leb, List, length, filter, All, AllPairs}
use Rattle.std.proofs.Common.{sum_by, refl, sym, ap, ◌∙◌, subst, arith}
use Rattle.std.proofs.Math.Nat.{lt_of_mul-lt-mul_left, mul-le-mul_left, mul-pos}
use Rattle.std.proofs.lemmas.Bool.{cases_Bool, le-leb, leb-true, leb-false, eqb-true, eq-eqb, cases_lt}
use Rattle.std.proofs.lemmas.List.Elements.{All-filter, All-contains, filter_passes}
use Rattle.msp_class.specs.Sums.{total_below}
use Rattle.msp_class.proofs.Quotients.{block_and_rest, rest_small}
use Rattle.msp_class.proofs.Sums.{total_below-mono, total_below-add, total_below-scale, total_below-only, total_below-none, cond-le, cond-no, cond-yes, sum_by-same, sum_by-add, sum_by-by_key_filter, sum_by-agree}
use Rattle.msp_pieces.specs.Intervals.{IsApart, size_of, work_of}
use Rattle.msp_pieces.proofs.lists.Intervals.{overlap_of, overlap-add, packing, last_of, last_of-bound, piece_of}
use Rattle.msp_instance.specs.declared.Instance.{Instance}
use Rattle.msp_instance.specs.Instance.{job_at}
use Rattle.msp_pieces.specs.BackToBack.{time_at}
use Rattle.msp_srpt.specs.Shortest.{left_of, KeepsRule, idle, runs}
use Rattle.msp_srpt.proofs.Counts.{at_most, total_from_counts}

-- the step of the bound where the least remaining time h is greater than m: b jobs of the other schedule, z jobs complete, y and u what is
-- still to be done before and after the step
least_left : (d m h b z y u : ℕ) → m < h → d * (h * b) ≤ y + d * (h * z) → y ≤ u + d → d * (m * b) ≤ u + d * (m * z)
least_left d m h b z y u l e f = elim (cases_lt z b) [
  | inl g ↦ more (b - suc z) (h - suc m) (omega (arith, g)) (omega (arith, l))
  | inr g ↦ omega (arith, mul-le-mul_left d (mul-le-mul_left m g))
]
  where
    more : (x w : ℕ) → b ≡ suc z + x → h ≡ suc m + w → d * (m * b) ≤ u + d * (m * z)
    more x w p q = rw p (omega (arith, rw (p, q) at e, f))

module _ (i : Instance) (run : ℕ → ℕ → ℕ) (positive : (j : ℕ) → j < length i.jobs → 0 < time_at i j)
    (unborn : (t j : ℕ) → t ≤ (job_at i j).release → run t j ≡ 0) (keeps : (t : ℕ) → KeepsRule i (run t) (run (t + 1)) t) where
  abbrev n : ℕ
  n = length i.jobs

  abbrev r : ℕ → ℕ
  r j = (job_at i j).release

  abbrev p : ℕ → ℕ
  p = time_at i

  abbrev left : ℕ → ℕ → ℕ
  left t = left_of i (run t)

  -- ---- the other schedule
  module _ {X : Type 0} (job from to : X → ℕ) (xs : List X) (d : ℕ) (some : 0 < d) (jobs : All (λ q. job q < n) xs) (apart : AllPairs (IsApart from to) xs)
      (released : All (λ q. d * r (job q) ≤ from q) xs) (work : (j : ℕ) → j < n → work_of job from to xs j ≡ d * p j) where
    abbrev last : ℕ → ℕ
    last = last_of job to xs

    -- how much of [a, b) job j fills
    abbrev fills : ℕ → ℕ → ℕ → ℕ
    fills a b j = sum_by (overlap_of from to a b) (filter (λ q. eqb (job q) j) xs)

    fills-add : (j a b c : ℕ) → a ≤ b → b ≤ c → fills a c j ≡ fills a b j + fills b c j
    fills-add j a b c h k =
        sum_by-agree (overlap_of from to a c) (λ q. overlap_of from to a b q + overlap_of from to b c q) (filter (λ q. eqb (job q) j) xs) (λ q. overlap-add (from q) (to q) h k)
        ∙ sum_by-add (overlap_of from to a b) (overlap_of from to b c) (filter (λ q. eqb (job q) j) xs)

    fills-all : (a b : ℕ) → total_below n (fills a b) ≤ b - a
    fills-all a b = subst (λ s. s ≤ b - a) (sum_by-by_key_filter job (overlap_of from to a b) n xs jobs) (packing from to a b xs apart)

    -- a job that is not released before t and ends by c fills [t, c) with all its work
    fills-whole : (t c j : ℕ) → j < n → t ≤ r j → last j ≤ c → fills (d * t) c j ≡ d * p j
    fills-whole t c j l h k =
        sum_by-same (overlap_of from to (d * t) c) (size_of from to) (filter (λ q. eqb (job q) j) xs) (λ a e m.
        let is = eqb-true _ j (filter_passes (λ q. eqb (job q) j) xs a e m) in
        let begins = All-filter (λ q. eqb (job q) j) (λ q. d * r (job q) ≤ from q) xs released a e m in
        let ends = All-filter (λ q. eqb (job q) j) (λ q. to q ≤ last (job q)) xs (last_of-bound job to xs) a e m in
        omega (arith, mul-le-mul_left d h, ap (λ i. d * r i) is, begins, ends, ap last is, k)) ∙ work j l

    -- a job that ends by c is released before it
    ends_after : (j : ℕ) → j < n → d * r j < last j
    ends_after j l =
        let (q, c, e, f) = piece_of job from to xs j (omega (arith, work j l, mul-pos some (positive j l))) in
        let begins = All-contains (λ q. d * r (job q) ≤ from q) xs q released c in
        let ends = All-contains (λ q. to q ≤ last (job q)) xs q (last_of-bound job to xs) c in
        omega (arith, begins, ends, f, ap (λ i. d * r i) e, ap last e)

    -- ---- up to a moment c of the other schedule
    module _ (c : ℕ) where
      abbrev over : ℕ → Bool
      over j = leb (last j) c

      -- of the jobs that pass a test: how many are over by c; what is still to be done on these from t on; and how far the remaining times
      -- of all of them stay below m
      abbrev count : (ℕ → Bool) → ℕ
      count a = total_below n (λ j. cond (a j) (cond (over j) 1 0) 0)

      abbrev still : (ℕ → Bool) → ℕ → ℕ
      still a t = total_below n (λ j. cond (a j) (cond (over j) (fills (d * t) c j) 0) 0)

      abbrev short : (ℕ → Bool) → ℕ → ℕ → ℕ
      short a t m = total_below n (λ j. cond (a j) (m - left t j) 0)

      abbrev Bound : (ℕ → Bool) → ℕ → Type 0
      Bound a t = (m : ℕ) → d * (m * count a) ≤ still a t + d * short a t m

      -- ---- jobs come that are not released before t
      comes : (a b : ℕ → Bool) (t : ℕ) → ((j : ℕ) → j < n → (a j ≡ b j) ⊎ ((a j ≡ false) × (b j ≡ true) × (t ≤ r j))) → Bound a t → Bound b t
      comes a b t h k m =
          let terms = total_below-mono n (λ j. lower b j + upper a j) (λ j. upper b j + lower a j) term in
          let sums = total_below-add n (lower b) (upper a) in
          omega (arith, k m, left_is a, left_is b, right_is a, right_is b, terms, sums, total_below-add n (upper b) (lower a))
        where
          lower : (ℕ → Bool) → ℕ → ℕ
          lower a j = d * (m * cond (a j) (cond (over j) 1 0) 0)

          upper : (ℕ → Bool) → ℕ → ℕ
          upper a j = cond (a j) (cond (over j) (fills (d * t) c j) 0) 0 + d * cond (a j) (m - left t j) 0

          left_is : (a : ℕ → Bool) → d * (m * count a) ≡ total_below n (lower a)
          left_is a = sym (total_below-scale n d (λ j. m * cond (a j) (cond (over j) 1 0) 0) ∙ ap (λ s. d * s) (total_below-scale n m (λ j. cond (a j) (cond (over j) 1 0) 0)))

          right_is : (a : ℕ → Bool) → still a t + d * short a t m ≡ total_below n (upper a)
          right_is a = sym (total_below-add n (λ j. cond (a j) (cond (over j) (fills (d * t) c j) 0) 0) (λ j. d * cond (a j) (m - left t j) 0)
              ∙ ap (λ s. still a t + s) (total_below-scale n d (λ j. cond (a j) (m - left t j) 0)))

          -- a job that comes needs all its time
          new : (j : ℕ) → j < n → t ≤ r j → (o : Bool) → over j ≡ o → d * (m * cond o 1 0) ≤ cond o (fills (d * t) c j) 0 + d * (m - left t j)
          new j l s true e =
              let all : left t j ≡ p j = omega (arith, unborn t j s) in
              let enough : m ≤ p j + (m - p j) = omega arith in
              omega (arith, fills-whole t c j l s (leb-true (last j) c e), mul-le-mul_left d enough, ap (λ x. d * (m - x)) all)
          new j l s false e = omega arith

          term : (j : ℕ) → j < n → lower b j + upper a j ≤ upper b j + lower a j
          term j l = elim (h j l) [
            | inl e ↦ rw e (omega arith)
            | inr e ↦ rw (e.0, e.1) (omega (arith, new j l e.2 (over j) refl))
          ]

      -- ---- one step of the rule
      module _ (a : ℕ → Bool) (t : ℕ) (by_then : (j : ℕ) → j < n → a j ≡ true → r j ≤ t) (already : (j : ℕ) → j < n → r j ≤ t → a j ≡ true) (early : d * (t + 1) ≤ c) (bound : Bound a t) where
        -- the other schedule has one moment too
        steps : still a t ≤ still a (t + 1) + d
        steps =
            let terms = total_below-mono n (λ j. cond (a j) (cond (over j) (fills (d * t) c j) 0) 0) (λ j. cond (a j) (cond (over j) (fills (d * (t + 1)) c j) 0) 0 + fills (d * t) (d * (t + 1)) j)
            (λ j l. one (a j) (over j) _ _ _ (fills-add j (d * t) (d * (t + 1)) c (omega arith) early)) in
            omega (arith, terms, total_below-add n (λ j. cond (a j) (cond (over j) (fills (d * (t + 1)) c j) 0) 0) (fills (d * t) (d * (t + 1))), fills-all (d * t) (d * (t + 1)))
          where
            one : (x y : Bool) (f g h : ℕ) → f ≡ g + h → cond x (cond y f 0) 0 ≤ cond x (cond y h 0) 0 + g
            one true true f g h e = omega (arith, e)
            one _ _ f g h e = omega arith

        -- how many that pass the test are complete
        abbrev complete : ℕ
        complete = total_below n (λ j. cond (a j) (cond (leb (left t j) 0) 1 0) 0)

        steps_by : KeepsRule i (run t) (run (t + 1)) t → Bound a (t + 1)
        steps_by (idle none same) m =
            let all : m * count a ≤ short a (t + 1) m = subst (λ s. s ≤ short a (t + 1) m) (total_below-scale n m (λ j. cond (a j) (cond (over j) 1 0) 0))
            (total_below-mono n (λ j. m * cond (a j) (cond (over j) 1 0) 0) (λ j. cond (a j) (m - left (t + 1) j) 0) (λ j l. one j l (a j) refl)) in
            omega (arith, mul-le-mul_left d all)
          where
            one : (j : ℕ) → j < n → (x : Bool) → a j ≡ x → m * cond x (cond (over j) 1 0) 0 ≤ cond x (m - left (t + 1) j) 0
            one j l true e = elim (cases_lt 0 (left t j)) [
              | inl g ↦ absurd (none j (record { inside = l; released = by_then j l e; left = g }))
              | inr g ↦ omega (arith, g, same j, mul-le-mul_left m (cond-le (over j) 1))
            ]
            one j l false e = omega arith
        steps_by (runs k due first one_more) m = elim (cases_lt m h) [ inl g ↦ below g | inr g ↦ above g ]
          where
            h : ℕ
            h = left t k

            in_test : a k ≡ true
            in_test = already k due.inside due.released

            other : (j : ℕ) → eqb k j ≡ false → left (t + 1) j ≡ left t j
            other j e = omega (arith, one_more j, cond-no 1 e)

            that : left (t + 1) k + 1 ≡ left t k
            that = omega (arith, one_more k, cond-yes 1 (eq-eqb k k refl), due.left)

            -- m is at least the remaining time of the job that runs: it comes one nearer
            above : h ≤ m → d * (m * count a) ≤ still a (t + 1) + d * short a (t + 1) m
            above g =
                let terms = total_below-mono n (λ j. cond (a j) (m - left t j) 0 + cond (eqb k j) 1 0) (λ j. cond (a j) (m - left (t + 1) j) 0) (λ j l. term j (eqb k j) refl) in
                let one : total_below n (λ j. cond (eqb k j) 1 0) ≡ 1 = total_below-only n (λ _. 1) k due.inside in
                let grows : short a t m + 1 ≤ short a (t + 1) m = omega (arith, terms, one, total_below-add n (λ j. cond (a j) (m - left t j) 0) (λ j. cond (eqb k j) 1 0)) in
                omega (arith, bound m, steps, mul-le-mul_left d grows)
              where
                term : (j : ℕ) (b : Bool) → eqb k j ≡ b → cond (a j) (m - left t j) 0 + cond b 1 0 ≤ cond (a j) (m - left (t + 1) j) 0
                term j true e = rw (sym (eqb-true k j e), in_test) (omega (arith, that, g))
                term j false e = omega (arith, ap (λ x. cond (a j) (m - x) 0) (other j e))

            -- m is less than each remaining time but 0
            below : m < h → d * (m * count a) ≤ still a (t + 1) + d * short a (t + 1) m
            below g =
                let few : short a t h ≤ h * complete = subst (λ s. short a t h ≤ s) (total_below-scale n h (λ j. cond (a j) (cond (leb (left t j) 0) 1 0) 0))
                (total_below-mono n (λ j. cond (a j) (h - left t j) 0) (λ j. h * cond (a j) (cond (leb (left t j) 0) 1 0) 0) (λ j l. at_h j l (a j) refl (leb (left t j) 0) refl)) in
                let many : m * complete ≤ short a (t + 1) m = subst (λ s. s ≤ short a (t + 1) m) (total_below-scale n m (λ j. cond (a j) (cond (leb (left t j) 0) 1 0) 0))
                (total_below-mono n (λ j. m * cond (a j) (cond (leb (left t j) 0) 1 0) 0) (λ j. cond (a j) (m - left (t + 1) j) 0) (λ j l. at_m j (a j) (leb (left t j) 0) refl)) in
                omega (arith, least_left d m h (count a) complete (still a t) (still a (t + 1)) g (omega (arith, bound h, mul-le-mul_left d few)) steps, mul-le-mul_left d many)
              where
                at_h : (j : ℕ) → j < n → (x : Bool) → a j ≡ x → (y : Bool) → leb (left t j) 0 ≡ y → cond x (h - left t j) 0 ≤ h * cond x (cond y 1 0) 0
                at_h j l true e false f = omega (arith, first j (record { inside = l; released = by_then j l e; left = leb-false (left t j) 0 f }))
                at_h j l _ e _ f = omega arith

                at_m : (j : ℕ) (x y : Bool) → leb (left t j) 0 ≡ y → m * cond x (cond y 1 0) 0 ≤ cond x (m - left (t + 1) j) 0
                at_m j true true f = omega (arith, leb-true (left t j) 0 f, one_more j)
                at_m j _ _ f = omega arith

      -- ---- from the start on
      abbrev by_now : ℕ → ℕ → Bool
      by_now t j = leb (r j) t

      bound_at : (t : ℕ) → d * t ≤ c → Bound (by_now t) t
      bound_at zero l =
          comes (λ _. false) (by_now 0) 0 (λ j m. elim (cases_Bool (by_now 0 j)) [ inl e ↦ inr (refl, e, omega arith) | inr e ↦ inl (sym e) ])
          (λ m. omega (arith, ap (λ s. d * (m * s)) (total_below-none n (λ j. cond false (cond (over j) 1 0) 0) (λ j k. refl))))
      bound_at (suc t) l =
          let same : suc t ≡ t + 1 = omega arith in
          subst (λ u. Bound (by_now u) u) (sym same)
          (comes (by_now t) (by_now (t + 1)) (t + 1) (λ j m. later j (by_now t j) refl (by_now (t + 1) j) refl)
          (steps_by (by_now t) t (λ j m e. leb-true (r j) t e) (λ j m k. le-leb (r j) t k) (subst (λ u. d * u ≤ c) same l) (bound_at t (omega (arith, l))) (keeps t)))
        where
          later : (j : ℕ) (x : Bool) → by_now t j ≡ x → (y : Bool) → by_now (t + 1) j ≡ y → (by_now t j ≡ by_now (t + 1) j) ⊎ ((by_now t j ≡ false) × (by_now (t + 1) j ≡ true) × (t + 1 ≤ r j))
          later j true e false f = absurd (omega (arith, leb-true (r j) t e, leb-false (r j) (t + 1) f))
          later j false e true f = inr (e, f, omega (arith, leb-false (r j) t e))
          later j _ e _ f = inl (e ∙ sym f)

      -- no more jobs are over by c than are complete by the last moment of the rule that is not after c
      over_by : (end : ℕ → ℕ) → ((t j : ℕ) → j < n → left t j ≡ 0 → end j ≤ t) → (t : ℕ) → d * t ≤ c → c < d * (t + 1) → at_most n last c ≤ at_most n (λ j. d * end j) c
      over_by end complete t l m =
          let all : at_most n last c ≤ count (by_now t) =
          total_below-mono n (λ j. cond (over j) 1 0) (λ j. cond (by_now t j) (cond (over j) 1 0) 0) (λ j k. released_by j k (over j) refl (by_now t j) refl) in
          let room : still (by_now t) t ≤ c - d * t = omega (
            arith,
            total_below-mono n (λ j. cond (by_now t j) (cond (over j) (fills (d * t) c j) 0) 0) (fills (d * t) c)
                (λ j k. omega (arith, cond-le (by_now t j) (cond (over j) (fills (d * t) c j) 0), cond-le (over j) (fills (d * t) c j))),
            fills-all (d * t) c,
          ) in
          let done : short (by_now t) t 1 ≤ at_most n (λ j. d * end j) c =
          total_below-mono n (λ j. cond (by_now t j) (1 - left t j) 0) (λ j. cond (leb (d * end j) c) 1 0) (λ j k. ended j k (by_now t j) (leb (d * end j) c) refl) in
          omega (arith, all, done, fewer (count (by_now t)) (short (by_now t) t 1) (still (by_now t) t) (omega (arith, bound_at t l 1)) (omega (arith, room, m)))
        where
          -- d times more would not fit
          fewer : (b k y : ℕ) → d * b ≤ y + d * k → y < d → b ≤ k
          fewer b k y e f = elim (cases_lt k b) [ inl g ↦ let g' : suc k ≤ b = omega (arith, g) in absurd (omega (arith, e, f, mul-le-mul_left d g')) | inr g ↦ g ]

          released_by : (j : ℕ) → j < n → (x : Bool) → over j ≡ x → (y : Bool) → by_now t j ≡ y → cond x 1 0 ≤ cond y (cond x 1 0) 0
          released_by j k true e false f =
              let early : d * r j < d * (t + 1) = omega (arith, ends_after j k, leb-true (last j) c e, m) in
              omega (arith, leb-false (r j) t f, lt_of_mul-lt-mul_left d early)
          released_by j k _ e _ f = omega arith

          ended : (j : ℕ) → j < n → (x y : Bool) → leb (d * end j) c ≡ y → cond x (1 - left t j) 0 ≤ cond y 1 0
          ended j k true false e = elim (cases_lt 0 (left t j)) [
            | inl g ↦ omega (arith, g)
            | inr g ↦ absurd (omega (arith, leb-false (d * end j) c e, mul-le-mul_left d (complete t j k (omega (arith, g))), l))
          ]
          ended j k _ _ e = omega arith

    -- the ends under the rule have no greater sum
    pub ends_below : (end : ℕ → ℕ) → ((t j : ℕ) → j < n → left t j ≡ 0 → end j ≤ t) → d * total_below n end ≤ total_below n last
    ends_below end complete =
        subst (λ s. s ≤ total_below n last) (total_below-scale n d end)
        (total_from_counts n (λ j. d * end j) last (λ c.
        over_by c end complete (c / d) (omega (arith, block_and_rest d c)) (omega (arith, block_and_rest d c, rest_small d c some))))
