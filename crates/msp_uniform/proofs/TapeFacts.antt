-- The jobs that no place is too short for, laid one after another from the last place to the first.
use Rattle.std.proofs.Common.{◌≡◌, ◌≢◌, ℕ, zero, suc, ◌+◌, ◌*◌, ◌-◌, ◌<◌, ◌≤◌, inl, inr, Bool, true, false, leb, List, [], ◌∷◌, ◌++◌, length, get_or, All, AllPairs, cond, sum_by}
use Rattle.std.proofs.Common.{ap, refl, sym, subst, add-one, arith}
use Rattle.std.specs.Int.{◌∣◌}
use Rattle.std.proofs.lemmas.Bool.{leb-true, leb-false, ne_eqb}
use Rattle.std.proofs.Math.Nat.{dvd-add_iff_right}
use Rattle.std.proofs.lemmas.List.Elements.{All-append, All-head, All-tail}
use Rattle.msp_class.proofs.Sums.{sum_by-cons, sum_by-append, sum_by-none, total_below-none, Contains-tail, AllPairs-head, AllPairs-tail}
use Rattle.msp_uniform.specs.declared.segments.Segment.{Segment}
use Rattle.msp_uniform.specs.Segments.{at, job_on, IsSegment, IsAbsent, rate_at, job_rate, amount, CanGain, AreWhole}
use Rattle.msp_uniform.specs.Plans.{IsTape}
use Rattle.msp_class.specs.Sums.{total_below}
use Rattle.msp_class.proofs.Cases.{same_or_not}
use Rattle.msp_uniform.proofs.LaidAt.{IsLaidAt}

-- where what is done before each segment is a multiple of its rate, a work that is a multiple of all rates ends at a whole moment
pub CanGain-whole : (rate : Segment → ℕ) (done left : ℕ) (xs : List Segment) → AreWhole rate done xs → All (λ x. rate x ∣ done + left) xs → left ≤ amount rate xs → CanGain rate left xs
CanGain-whole rate done left [] w d l = omega (arith, l)
CanGain-whole rate done left (x ∷ xs) w d l = by (leb (x.length * rate x) left) refl (λ m. CanGain-whole rate (done + x.length * rate x) (left - x.length * rate x) xs w.1 (λ k e b.
    subst (λ n. rate (get_or xs k e) ∣ n) (omega (arith, m)) (All-tail (λ y. rate y ∣ done + left) x xs d k e b)) (omega (arith, l, sum_by-cons (λ y. y.length * rate y) x xs)))
  where
    by : (v : Bool) → leb (x.length * rate x) left ≡ v → (x.length * rate x ≤ left → CanGain rate (left - x.length * rate x) xs) → CanGain rate left (x ∷ xs)
    by true e later = inl (leb-true (x.length * rate x) left e, later (leb-true (x.length * rate x) left e))
    by false e later = inr (omega (arith, leb-false (x.length * rate x) left e), (dvd-add_iff_right (rate x) w.0).1 (All-head (λ y. rate y ∣ done + left) x xs d))

-- a job without a machine gets no work
module _ (speeds : List ℕ) (k : ℕ) where
  idle_rate : (x : Segment) → IsAbsent (length speeds) k x → job_rate (length speeds) (at speeds) k x ≡ 0
  idle_rate x a = total_below-none (length speeds) _ (λ i l. ap (λ v. cond v (at speeds i) 0) (ne_eqb (job_on x i) k (a i l)))

  pub idle_amount : (xs : List Segment) → All (IsAbsent (length speeds) k) xs → amount (job_rate (length speeds) (at speeds) k) xs ≡ 0
  idle_amount xs a = sum_by-none (λ x. x.length * job_rate (length speeds) (at speeds) k x) xs (λ q d l. omega (arith, ap (λ v. (get_or xs q d).length * v) (idle_rate (get_or xs q d) (a q d l))))

-- the jobs after one are others
pub other : (j : ℕ) (left : List ℕ) → AllPairs (λ a b. a ≢ b) (j ∷ left) → (k d : ℕ) → k < length left → get_or left k d ≢ j
other j left apart k d l e = AllPairs-head (λ a b. a ≢ b) j left apart k d l (sym e)

-- what is left for the jobs after one that the rest of the last place can do
module _ (speeds : List ℕ) (n : ℕ) (time : ℕ → ℕ) (j : ℕ) (left : List ℕ) (unit end h : ℕ) (early late fs ss : List Segment)
    (p : IsTape speeds n time (j ∷ left) unit end h early late) (s : IsLaidAt (length speeds) n (at speeds) h j (unit * time j) late fs ss) where
  abbrev m : ℕ
  m = length speeds

  joined : (rate : Segment → ℕ) → amount rate (early ++ fs) ≡ amount rate early + amount rate fs
  joined rate = sum_by-append (λ y. y.length * rate y) early fs

  places : (k : ℕ) → k ≤ h → total_below k (λ i. amount (rate_at (at speeds) i) (early ++ fs)) + total_below k (λ i. amount (rate_at (at speeds) i) ss)
      ≡ total_below k (λ i. amount (rate_at (at speeds) i) early) + total_below k (λ i. amount (rate_at (at speeds) i) late)
  places zero l = omega arith
  places (suc k) l = omega (arith, places k (omega arith), joined (rate_at (at speeds) k), s.places k (omega arith))

  pub IsTape-next : IsTape speeds n time left unit end h (early ++ fs) ss
  IsTape-next = record {
    each_early = All-append (IsSegment m n (at speeds) h) early fs p.each_early s.firsts;
    each_late = subst (λ k. All (IsSegment m n (at speeds) k) ss) (sym (add-one h)) s.seconds;
    whole = omega (arith, joined (λ _. 1), s.time, p.whole);
    absent_early = λ k d l. All-append (IsAbsent m _) early fs (All-tail (λ i. All (IsAbsent m i) early) j left p.absent_early k d l)
        (s.absent_firsts _ (other j left p.apart k d l) (All-tail (λ i. All (IsAbsent m i) late) j left p.absent_late k d l));
    absent_late = λ k d l. s.absent_seconds _ (All-tail (λ i. All (IsAbsent m i) late) j left p.absent_late k d l);
    -- the job is done, and the others as they were
    done = λ k l. elim (same_or_not k j) [
      | inl q ↦ inr (subst (λ a. amount (job_rate m (at speeds) a) (early ++ fs) + amount (job_rate m (at speeds) a) ss ≡ unit * time a) (sym q) (omega (
        arith,
        joined (job_rate m (at speeds) j),
        idle_amount speeds j early (All-head (λ i. All (IsAbsent m i) early) j left p.absent_early),
        idle_amount speeds j ss (s.absent_seconds j (All-head (λ i. All (IsAbsent m i) late) j left p.absent_late)),
        s.works,
      )))
      | inr d ↦ elim (p.done k l) [
        | inl c ↦ inl (Contains-tail j left k c (λ q. d (sym q)))
        | inr w ↦ inr (omega (arith, w, joined (job_rate m (at speeds) k), s.others k l d))
      ]
    ];
    room = subst (λ k. sum_by (λ i. unit * time i) left
        ≤ total_below h (λ k. amount (rate_at (at speeds) k) (early ++ fs)) + total_below k (λ k. amount (rate_at (at speeds) k) ss)) (sym (add-one h)) (omega (
          arith,
          subst (λ k. sum_by (λ i. unit * time i) (j ∷ left) ≤ total_below h (λ k. amount (rate_at (at speeds) k) early) + total_below k (λ k. amount (rate_at (at speeds) k) late)) (add-one h) p.room,
          sum_by-cons (λ i. unit * time i) j left,
          places h (omega arith),
          s.rest,
        ));
    -- the last free machines can do no less for the others than before
    short = λ g is k d l. omega (
      arith,
      All-tail (λ i. unit * time i ≤ amount (rate_at (at speeds) g) early + amount (rate_at (at speeds) h) late) j left (p.short g is) k d l,
      joined (rate_at (at speeds) g),
      s.faster g is,
      s.rest,
    );
    apart = AllPairs-tail (λ a b. a ≢ b) j left p.apart;
    inside = All-tail (λ i. i < n) j left p.inside;
  }
