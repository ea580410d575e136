-- Jobs on the tape end at whole moments.
use Rattle.std.proofs.Common.{◌≡◌, ℕ, suc, ◌+◌, ◌*◌, ◌-◌, ◌<◌, ◌≤◌, List, [], ◌++◌, length, All, append-nil, append_assoc, zero-add, sym, subst, ◌∙◌, arith}
use Rattle.std.specs.Int.{◌∣◌}
use Rattle.std.proofs.Math.Nat.{dvd-add, dvd-sub}
use Rattle.std.proofs.lemmas.Nat.Gcd.{dvd_trans}
use Rattle.msp_class.proofs.Sums.{sum_by-append}
use Rattle.msp_uniform.specs.declared.segments.Segment.{Segment}
use Rattle.msp_uniform.specs.Segments.{at, IsSegment, rate_at, amount, AreWhole, CanGain}
use Rattle.msp_uniform.specs.Plans.{IsWholeTape}
use Rattle.msp_uniform.proofs.OrderFacts.{AreWhole-both, AreWhole-first, AreWhole-then}
use Rattle.msp_uniform.proofs.LaidAt.{IsLaidAt}
use Rattle.msp_uniform.proofs.TapeFacts.{CanGain-whole}

module _ (speeds : List ℕ) (n multiple : ℕ) (divides : All (λ s. (1 ≤ s) × (s ∣ multiple)) speeds) where
  abbrev m : ℕ
  m = length speeds

  module _ (h : ℕ) (xs : List Segment) (each : All (IsSegment m n (at speeds) (suc h)) xs) where
    pub places_divide : (k : ℕ) → k ≤ h → All (λ x. rate_at (at speeds) k x ∣ multiple) xs
    places_divide k l i d b = (divides _ 0 ((each i d b).machines k (omega (arith, l)))).1

    places_gain : All (λ x. 1 ≤ rate_at (at speeds) h x) xs
    places_gain i d b = (divides _ 0 ((each i d b).machines h (omega arith))).0

    -- a work that is a multiple of all speeds can be laid on the last place
    pub last_can_gain : (before work : ℕ) → multiple ∣ before
        → multiple ∣ work → AreWhole (rate_at (at speeds) h) before xs → work ≤ amount (rate_at (at speeds) h) xs → CanGain (rate_at (at speeds) h) work xs
    last_can_gain before work a b w l = CanGain-whole (rate_at (at speeds) h) before work xs w (λ i d c. dvd_trans _ (places_divide h (omega arith) i d c) (dvd-add multiple a b)) l

  -- ---- a job that the rest of the last place can do
  module _ (h job work : ℕ) (early late fs ss : List Segment) (each : All (IsSegment m n (at speeds) (suc h)) late)
      (s : IsLaidAt m n (at speeds) h job work late fs ss) (w : IsWholeTape speeds multiple h early late) (is : multiple ∣ work) where
    pub IsWholeTape-next : IsWholeTape speeds multiple h (early ++ fs) ss
    IsWholeTape-next = record {
      before = w.before + work;
      divided = dvd-add multiple w.divided is;
      here = s.whole_seconds (places_gain h late each) w.before w.here;
      more = subst (λ k. multiple ∣ k) (omega (arith, s.rest)) (dvd-sub multiple w.more is);
      below = λ k l. subst (AreWhole (rate_at (at speeds) k) 0) (sym (append_assoc early fs ss))
          (AreWhole-both (rate_at (at speeds) k) 0 early (fs ++ ss) (AreWhole-first (rate_at (at speeds) k) 0 early late (w.below k l))
          (s.whole_places (places_gain h late each) k l _ (AreWhole-then (rate_at (at speeds) k) 0 early late (w.below k l))));
      holds = λ k l. subst (λ x. multiple ∣ x) (omega (arith, sum_by-append (λ y. y.length * rate_at (at speeds) k y) early fs, s.places k l)) (w.holds k l);
    }

  -- ---- a job that takes the rest of the last place, and the first part of the place before it
  module _ (g job rest more : ℕ) (early late cs bs fs : List Segment)
      (each_early : All (IsSegment m n (at speeds) (suc g)) early) (each_late : All (IsSegment m n (at speeds) (suc (suc g))) late)
      (s : IsLaidAt m n (at speeds) (suc g) job rest late fs []) (a : IsLaidAt m n (at speeds) g job more early cs bs)
      (w : IsWholeTape speeds multiple (suc g) early late) (is : multiple ∣ more) where
    below_late : (k : ℕ) → k < suc g → AreWhole (rate_at (at speeds) k) (0 + amount (rate_at (at speeds) k) early) fs
    below_late k l = subst (AreWhole (rate_at (at speeds) k) (0 + amount (rate_at (at speeds) k) early)) (append-nil fs)
        (s.whole_places (places_gain (suc g) late each_late) k l _ (AreWhole-then (rate_at (at speeds) k) 0 early late (w.below k l)))

    joined : (k : ℕ) → amount (rate_at (at speeds) k) (bs ++ fs) ≡ amount (rate_at (at speeds) k) bs + amount (rate_at (at speeds) k) fs
    joined k = sum_by-append (λ y. y.length * rate_at (at speeds) k y) bs fs

    pub IsWholeTape-turn : IsWholeTape speeds multiple g cs (bs ++ fs)
    IsWholeTape-turn = record {
      before = more;
      divided = is;
      here = AreWhole-both (rate_at (at speeds) g) more bs fs (subst (λ k. AreWhole (rate_at (at speeds) g) k bs) (zero-add more)
          (a.whole_seconds (places_gain g early each_early) 0 (AreWhole-first (rate_at (at speeds) g) 0 early late (w.below g (omega arith)))))
          (subst (λ k. AreWhole (rate_at (at speeds) g) k fs) (omega (arith, a.rest)) (below_late g (omega arith)));
      more = subst (λ k. multiple ∣ k) (omega (arith, a.rest, s.places g (omega arith), joined g)) (dvd-sub multiple (w.holds g (omega arith)) is);
      below = λ k l. subst (AreWhole (rate_at (at speeds) k) 0) (append_assoc cs bs fs) (AreWhole-both (rate_at (at speeds) k) 0 (cs ++ bs) fs
          (a.whole_places (places_gain g early each_early) k l 0 (AreWhole-first (rate_at (at speeds) k) 0 early late (w.below k (omega arith))))
          (subst (λ a. AreWhole (rate_at (at speeds) k) (0 + a) fs) (earlier k l) (below_late k (omega arith))));
      holds = λ k l. subst (λ a. multiple ∣ a) (omega (arith, a.places k l, s.places k (omega arith), joined k)) (w.holds k (omega arith));
    }
      where
        earlier : (k : ℕ) → k < g → amount (rate_at (at speeds) k) early ≡ amount (rate_at (at speeds) k) (cs ++ bs)
        earlier k l = sym (sum_by-append (λ y. y.length * rate_at (at speeds) k y) cs bs ∙ a.places k l)
