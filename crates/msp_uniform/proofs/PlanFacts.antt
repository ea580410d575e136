-- A plan over a finer unit, and with one job less.
use Rattle.std.proofs.Common.{◌≡◌, ◌≢◌, ℕ, zero, suc, ◌+◌, ◌*◌, ◌<◌, ◌≤◌, inl, inr, true, List, [], ◌∷◌, ◌++◌, length, All, refl, sym, ap, subst, ◌∙◌, arith, add-one, le_trans}
use Rattle.std.proofs.Math.Nat.{one-le-mul, mul-le-mul_left}
use Rattle.std.proofs.lemmas.List.Elements.{All-head, All-tail}
use Rattle.msp_class.specs.Sums.{total_below}
use Rattle.msp_class.proofs.Sums.{AllPairs-head, AllPairs-tail, Contains-tail, total_below-same, total_below-scale}
use Rattle.msp_uniform.specs.declared.segments.Segment.{Segment}
use Rattle.msp_uniform.specs.Segments.{at, IsSegment, IsAbsent, rate_at, job_rate, amount, AreLaid, AreScaled}
use Rattle.msp_uniform.specs.Plans.{works, IsPlan, IsTurned}
use Rattle.msp_uniform.proofs.PrefixFacts.{rest, DoFit-merged, DoFit-longest}
use Rattle.msp_uniform.proofs.TurnNeeds.{difference_some}
use Rattle.msp_class.proofs.Cases.{same_or_not}
use Rattle.msp_uniform.proofs.ScaledFacts.{IsRead-place, IsRead-job, amount-scaled, amount-mono, All-scaled, IsSegment-part, job_kept}
use Rattle.msp_uniform.proofs.TurnFacts.{segments_are, absent_still, whole_time, others_work, own_work, places_merged}

module _ (speeds : List ℕ) (n : ℕ) (time : ℕ → ℕ) where
  abbrev m : ℕ
  m = length speeds

  -- ---- over a finer unit
  pub IsPlan-scaled : (left : List ℕ) (unit end h d : ℕ) (xs ys : List Segment)
      → 1 ≤ d → AreScaled d xs ys → IsPlan speeds n time left unit end h xs → IsPlan speeds n time left (unit * d) (end * d) h ys
  IsPlan-scaled left unit end h d xs ys some s p = record {
    each = All-scaled (IsSegment m n (at speeds) h) (IsSegment m n (at speeds) h) d xs ys (λ x y a e. IsSegment-part m n (at speeds) h _ x y e (one-le-mul a.lasts some) a) s p.each;
    whole = omega (arith, amount-scaled (λ _. 1) (λ k x y e. refl) d xs ys s, ap (λ k. d * k) p.whole);
    absent = λ k e l. All-scaled (IsAbsent m _) (IsAbsent m _) d xs ys (λ x y a q i b f. a i b (sym (job_kept m n (at speeds) h _ x y q i) ∙ f)) s (p.absent k e l);
    done = λ j l. elim (p.done j l) [
      | inl c ↦ inl c
      | inr e ↦ inr (omega (arith, amount-scaled (job_rate m (at speeds) j) (IsRead-job m (at speeds) j) d xs ys s, ap (λ k. d * k) e))
    ];
    fit = record {
      firsts = λ k l. omega (arith, holds k, wants k, mul-le-mul_left d (p.fit.firsts k l));
      all = omega (arith, holds h, wants (length left), mul-le-mul_left d p.fit.all);
    };
    falls = p.falls;
    apart = p.apart;
    inside = p.inside;
  }
    where
      holds : (k : ℕ) → total_below k (λ i. amount (rate_at (at speeds) i) ys) ≡ d * total_below k (λ i. amount (rate_at (at speeds) i) xs)
      holds k = total_below-same k _ (λ i. d * amount (rate_at (at speeds) i) xs) (λ i l. amount-scaled (rate_at (at speeds) i) (IsRead-place (at speeds) i) d xs ys s)
          ∙ total_below-scale k d (λ i. amount (rate_at (at speeds) i) xs)

      wants : (k : ℕ) → total_below k (works time (unit * d) left) ≡ d * total_below k (works time unit left)
      wants k = total_below-same k _ (λ i. d * works time unit left i) (λ i l. omega arith) ∙ total_below-scale k d (works time unit left)

  -- ---- one job less
  works-falls : (unit : ℕ) (left : List ℕ) (b : ℕ) → All (λ j. time j ≤ b) left → (i : ℕ) → works time unit left i ≤ unit * b
  works-falls unit [] b h i = omega arith
  works-falls unit (j ∷ js) b h zero = mul-le-mul_left unit (All-head (λ k. time k ≤ b) j js h)
  works-falls unit (j ∷ js) b h (suc i) = works-falls unit js b (All-tail (λ k. time k ≤ b) j js h) i

  pub IsPlan-turn : (j : ℕ) (left : List ℕ) (unit end g r gap : ℕ) (xs fs ss : List Segment) → suc r < suc (suc g) → IsPlan speeds n time (j ∷ left) unit end (suc (suc g)) xs
      → AreLaid true (at speeds) j r gap 0 xs fs ss → unit * time j ≡ amount (rate_at (at speeds) (suc r)) xs + gap
      → ((i : ℕ) → i < r → unit * time j ≤ amount (rate_at (at speeds) i) xs) → IsPlan speeds n time left unit end (suc g) (fs ++ ss)
  IsPlan-turn j left unit end g r gap xs fs ss inside p laid e high = record {
    each = segments_are m n (at speeds) g r j gap xs fs ss inside new p.each absent laid;
    whole = whole_time m n (at speeds) g r j gap xs fs ss inside new p.each absent laid ∙ p.whole;
    absent = λ k d l. absent_still m n (at speeds) g r j gap xs fs ss inside new p.each absent laid _ (λ q. AllPairs-head (λ a b. a ≢ b) j left p.apart k d l (sym q))
        (All-tail (λ i. All (IsAbsent m i) xs) j left p.absent k d l);
    done = λ i l. elim (same_or_not i j) [
      | inl q ↦ inr (subst (λ a. amount (job_rate m (at speeds) a) (fs ++ ss) ≡ unit * time a) (sym q) (own_work m n (at speeds) g r j gap xs fs ss inside new p.each absent laid ∙ sym e))
      | inr d ↦ elim (p.done i l) [
        | inl c ↦ inl (Contains-tail j left i c (λ q. d (sym q)))
        | inr w ↦ inr (others_work m n (at speeds) g r j gap xs fs ss inside new p.each absent laid i l d ∙ w)
      ]
    ];
    fit = DoFit-merged (suc (suc g)) r (length left) (λ k. amount (rate_at (at speeds) k) xs) (works time unit (j ∷ left)) (λ k. amount (rate_at (at speeds) k) (fs ++ ss))
        inside p.fit (places_merged m n (at speeds) g r j gap xs fs ss inside new p.each absent laid (unit * time j) e) (λ k i l b. small k i l b) g refl;
    falls = AllPairs-tail (λ a b. time b ≤ time a) j left p.falls;
    apart = AllPairs-tail (λ a b. a ≢ b) j left p.apart;
    inside = All-tail (λ i. i < n) j left p.inside;
  }
    where
      new : j < n
      new = All-head (λ i. i < n) j left p.inside

      absent : All (IsAbsent m j) xs
      absent = All-head (λ i. All (IsAbsent m i) xs) j left p.absent

      small : (k i : ℕ) → k ≤ r → i < k → rest (works time unit (j ∷ left)) i ≤ amount (rate_at (at speeds) i) xs
      small k i l b = omega (arith, works-falls unit left (time j) (AllPairs-head (λ a b. time b ≤ time a) j left p.falls) i, high i (omega arith))

  -- ---- a turn
  pub IsPlan-turned : (j : ℕ) (left : List ℕ) (unit end g d : ℕ) (xs zs : List Segment) → IsPlan speeds n time (j ∷ left) unit end (suc (suc g)) xs
      → IsTurned speeds (suc (suc g)) j (unit * time j) xs d zs → IsPlan speeds n time left (unit * d) (end * d) (suc g) zs
  IsPlan-turned j left unit end g d xs zs p t = subst (IsPlan speeds n time left (unit * d) (end * d) (suc g)) (sym t.whole) (IsPlan-turn j left (unit * d) (end * d)
      g t.place (t.gain * d) t.fine t.firsts t.seconds inside (IsPlan-scaled (j ∷ left) unit end (suc (suc g)) d xs t.fine (difference_some speeds d t.factor) t.scaled p) t.laid work high)
    where
      inside : suc t.place < suc (suc g)
      inside = omega (arith, t.inside)

      holds : (i : ℕ) → amount (rate_at (at speeds) i) t.fine ≡ d * amount (rate_at (at speeds) i) xs
      holds i = amount-scaled (rate_at (at speeds) i) (IsRead-place (at speeds) i) d xs t.fine t.scaled

      work : unit * d * time j ≡ amount (rate_at (at speeds) (suc t.place)) t.fine + t.gain * d
      work = omega (arith, ap (λ x. d * x) (t.gains ∙ ap (λ k. amount (rate_at (at speeds) k) xs + t.gain) (add-one t.place)), holds (suc t.place))

      high : (i : ℕ) → i < t.place → unit * d * time j ≤ amount (rate_at (at speeds) i) t.fine
      high i l =
          let later = amount-mono (rate_at (at speeds) t.place) (rate_at (at speeds) i) xs (λ k e b. (p.each k e b).falls i t.place (omega arith) (omega (arith, t.inside))) in
          omega (arith, mul-le-mul_left d (le_trans t.enough later), holds i)

  -- the next job's work is at most the first place
  pub first_enough : (j : ℕ) (left : List ℕ) (unit end h : ℕ) (xs : List Segment) → IsPlan speeds n time (j ∷ left) unit end (suc h) xs → unit * time j ≤ amount (rate_at (at speeds) 0) xs
  first_enough j left unit end h xs p = DoFit-longest h (suc (length left)) (λ k. amount (rate_at (at speeds) k) xs) (works time unit (j ∷ left)) p.fit
