-- The tape begins: the jobs that are left need no more than the last place each.
use Rattle.std.proofs.Common.{◌≡◌, ℕ, suc, ◌*◌, ◌≤◌, inl, inr, List, [], ◌∷◌, length, All, AllPairs, sum_by, refl, sym, ap, subst, ◌∙◌, zero-add, add-one, arith, le_trans, get_or}
use Rattle.std.specs.Int.{◌∣◌}
use Rattle.std.proofs.Math.Nat.{mul-le-mul_left, dvd-mul_left, dvd-mul_right}
use Rattle.std.proofs.lemmas.Nat.Gcd.{dvd-zero}
use Rattle.std.proofs.lemmas.List.Elements.{All-nil, All-cons}
use Rattle.msp_class.specs.Sums.{total_below}
use Rattle.msp_class.proofs.Sums.{sum_by-cons, AllPairs-head, total_below-none}
use Rattle.msp_uniform.specs.declared.segments.Segment.{Segment}
use Rattle.msp_uniform.specs.Segments.{at, IsSegment, IsAbsent, rate_at, job_rate, amount, AreScaled}
use Rattle.msp_uniform.specs.Plans.{works, IsPlan, IsTape, IsWholeTape}
use Rattle.msp_uniform.proofs.PrefixFacts.{total_below-first}
use Rattle.msp_uniform.proofs.ScaledFacts.{IsRead-place, amount-scaled, All-scaled}
use Rattle.msp_uniform.proofs.PlanFacts.{IsPlan-scaled}
use Rattle.msp_uniform.proofs.OrderFacts.{AreWhole-multiples}
use Rattle.msp_uniform.proofs.TapeWhole.{places_divide}

-- the works in order are those of the jobs
pub works-total : (time : ℕ → ℕ) (unit : ℕ) (left : List ℕ) → total_below (length left) (works time unit left) ≡ sum_by (λ j. unit * time j) left
works-total time unit [] = refl
works-total time unit (j ∷ js) = omega (arith, total_below-first (length js) (works time unit (j ∷ js)), works-total time unit js, sum_by-cons (λ j. unit * time j) j js)

module _ (speeds : List ℕ) (n : ℕ) (time : ℕ → ℕ) (left : List ℕ) (unit end h : ℕ) (xs : List Segment) where
  -- the next job is the longest, so where it needs no more than so much, no job does
  pub longest_first : (j : ℕ) (js : List ℕ) (most : ℕ) → left ≡ j ∷ js → IsPlan speeds n time left unit end (suc h) xs → unit * time j ≤ most → All (λ i. unit * time i ≤ most) left
  longest_first j js most e p l = subst (All (λ i. unit * time i ≤ most)) (sym e) (All-cons (λ i. unit * time i ≤ most) j js l (λ k d b.
      le_trans (mul-le-mul_left unit (AllPairs-head (λ a b. time b ≤ time a) j js (subst (AllPairs (λ a b. time b ≤ time a)) e p.falls) k d b)) l))

  module _ (p : IsPlan speeds n time left unit end (suc h) xs) (short : All (λ j. unit * time j ≤ amount (rate_at (at speeds) h) xs) left) where
    pub IsTape-start : IsTape speeds n time left unit end h [] xs
    IsTape-start = record {
      each_early = All-nil (IsSegment (length speeds) n (at speeds) h);
      each_late = subst (λ k. All (IsSegment (length speeds) n (at speeds) k) xs) (sym (add-one h)) p.each;
      whole = zero-add (amount (λ _. 1) xs) ∙ p.whole;
      absent_early = λ k d l. All-nil (IsAbsent (length speeds) _);
      absent_late = p.absent;
      done = λ j l. elim (p.done j l) [
        | inl c ↦ inl c
        | inr e ↦ inr (zero-add (amount (job_rate (length speeds) (at speeds) j) xs) ∙ e)
      ];
      room = let none = total_below-none h (λ _. 0) (λ i l. refl) in
          omega (arith, works-total time unit left, p.fit.all, none, ap (λ k. total_below k (λ i. amount (rate_at (at speeds) i) xs)) (sym (add-one h)));
      short = λ g e k d l. subst (λ a. unit * time (get_or left k d) ≤ a) (sym (zero-add (amount (rate_at (at speeds) h) xs))) (short k d l);
      apart = p.apart;
      inside = p.inside;
    }

  -- over a unit that is finer by a multiple of all speeds
  module _ (multiple : ℕ) (some : 1 ≤ multiple) (divides : All (λ s. (1 ≤ s) × (s ∣ multiple)) speeds)
      (ys : List Segment) (scaled : AreScaled multiple xs ys) (p : IsPlan speeds n time left unit end (suc h) xs) where
    pub scaled_plan : IsPlan speeds n time left (unit * multiple) (end * multiple) (suc h) ys
    scaled_plan = IsPlan-scaled speeds n time left unit end (suc h) multiple xs ys some scaled p

    holds : (k : ℕ) → multiple ∣ amount (rate_at (at speeds) k) ys
    holds k = subst (λ a. multiple ∣ a) (sym (amount-scaled (rate_at (at speeds) k) (IsRead-place (at speeds) k) multiple xs ys scaled)) (dvd-mul_right multiple (amount (rate_at (at speeds) k) xs))

    lengths : All (λ y. multiple ∣ y.length) ys
    lengths = All-scaled (IsSegment (length speeds) n (at speeds) (suc h))
        (λ y. multiple ∣ y.length) multiple xs ys (λ x y a q. subst (λ k. multiple ∣ k) (sym q.long) (dvd-mul_left multiple x.length)) scaled p.each

    pub IsWholeTape-start : IsWholeTape speeds multiple h [] ys
    IsWholeTape-start = record {
      before = 0;
      divided = dvd-zero multiple;
      here = AreWhole-multiples multiple (rate_at (at speeds) h) 0 ys (dvd-zero multiple) lengths (places_divide speeds n multiple divides h ys scaled_plan.each h (omega arith));
      more = holds h;
      below = λ k l. AreWhole-multiples multiple (rate_at (at speeds) k) 0 ys (dvd-zero multiple) lengths (places_divide speeds n multiple divides h ys scaled_plan.each k (omega (arith, l)));
      holds = λ k l. subst (λ a. multiple ∣ a) (sym (zero-add (amount (rate_at (at speeds) k) ys))) (holds k);
    }

    pub short_scaled : All (λ j. unit * time j ≤ amount (rate_at (at speeds) h) xs) left → All (λ j. unit * multiple * time j ≤ amount (rate_at (at speeds) h) ys) left
    short_scaled s k d l = omega (arith, mul-le-mul_left multiple (s k d l), amount-scaled (rate_at (at speeds) h) (IsRead-place (at speeds) h) multiple xs ys scaled)
