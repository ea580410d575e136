-- A job that takes the rest of the last place, and the first part of the place before it.
use Rattle.std.proofs.Common.{◌≡◌, ◌≢◌, ℕ, zero, suc, ◌+◌, ◌*◌, ◌<◌, ◌≤◌, inl, inr, List, [], ◌∷◌, ◌++◌, length, All, sum_by, sym, subst, add-one, arith}
use Rattle.std.proofs.lemmas.List.Elements.{All-append, All-head, All-tail}
use Rattle.msp_class.specs.Sums.{total_below}
use Rattle.msp_class.proofs.Sums.{sum_by-cons, sum_by-append, Contains-tail, AllPairs-tail}
use Rattle.msp_uniform.specs.declared.segments.Segment.{Segment}
use Rattle.msp_uniform.specs.Segments.{at, IsSegment, IsAbsent, rate_at, job_rate, amount}
use Rattle.msp_uniform.specs.Plans.{IsTape}
use Rattle.msp_class.proofs.Cases.{same_or_not}
use Rattle.msp_uniform.proofs.ScaledFacts.{amount-mono}
use Rattle.msp_uniform.proofs.LaidAt.{IsLaidAt}
use Rattle.msp_uniform.proofs.TapeFacts.{idle_amount, other}

module _ (speeds : List ℕ) (n : ℕ) (time : ℕ → ℕ) (j : ℕ) (left : List ℕ) (unit end g rest more : ℕ) (early late cs bs fs : List Segment)
    (p : IsTape speeds n time (j ∷ left) unit end (suc g) early late) (s : IsLaidAt (length speeds) n (at speeds) (suc g) j rest late fs [])
    (a : IsLaidAt (length speeds) n (at speeds) g j more early cs bs) (work : unit * time j ≡ rest + more) where
  abbrev m : ℕ
  m = length speeds

  joined : (rate : Segment → ℕ) → amount rate (bs ++ fs) ≡ amount rate bs + amount rate fs
  joined rate = sum_by-append (λ y. y.length * rate y) bs fs

  -- what the places up to g hold
  places : (k : ℕ) → k ≤ g → total_below k (λ i. amount (rate_at (at speeds) i) cs) + total_below k (λ i. amount (rate_at (at speeds) i) (bs ++ fs))
      ≡ total_below k (λ i. amount (rate_at (at speeds) i) early) + total_below k (λ i. amount (rate_at (at speeds) i) late)
  places zero l = omega arith
  places (suc k) l = omega (arith, places k (omega arith), joined (rate_at (at speeds) k), a.places k (omega arith), s.places k (omega arith))

  pub IsTape-turn : IsTape speeds n time left unit end g cs (bs ++ fs)
  IsTape-turn = record {
    each_early = a.firsts;
    each_late = subst (λ k. All (IsSegment m n (at speeds) k) (bs ++ fs)) (sym (add-one g)) (All-append (IsSegment m n (at speeds) (suc g)) bs fs a.seconds s.firsts);
    whole = omega (arith, joined (λ _. 1), a.time, s.time, p.whole);
    absent_early = λ k d l. a.absent_firsts _ (other j left p.apart k d l) (All-tail (λ i. All (IsAbsent m i) early) j left p.absent_early k d l);
    absent_late = λ k d l. All-append (IsAbsent m _) bs fs (a.absent_seconds _ (All-tail (λ i. All (IsAbsent m i) early) j left p.absent_early k d l))
        (s.absent_firsts _ (other j left p.apart k d l) (All-tail (λ i. All (IsAbsent m i) late) j left p.absent_late k d l));
    done = λ k l. elim (same_or_not k j) [
      | inl q ↦ inr (subst (λ i. amount (job_rate m (at speeds) i) cs + amount (job_rate m (at speeds) i) (bs ++ fs) ≡ unit * time i) (sym q) (omega (
        arith,
        joined (job_rate m (at speeds) j),
        idle_amount speeds j bs (a.absent_seconds j (All-head (λ i. All (IsAbsent m i) early) j left p.absent_early)),
        a.works,
        s.works,
        work,
      )))
      | inr d ↦ elim (p.done k l) [
        | inl c ↦ inl (Contains-tail j left k c (λ q. d (sym q)))
        | inr w ↦ inr (omega (arith, w, joined (job_rate m (at speeds) k), a.others k l d, s.others k l d))
      ]
    ];
    room = subst (λ k. sum_by (λ i. unit * time i) left
        ≤ total_below g (λ k. amount (rate_at (at speeds) k) cs) + total_below k (λ k. amount (rate_at (at speeds) k) (bs ++ fs))) (sym (add-one g)) (omega (
          arith,
          subst (λ k. sum_by (λ i. unit * time i) (j ∷ left) ≤ total_below (suc g) (λ k. amount (rate_at (at speeds) k) early) + total_below k (λ k. amount (rate_at (at speeds) k) late))
              (add-one (suc g)) p.room,
          sum_by-cons (λ i. unit * time i) j left,
          places g (omega arith),
          joined (rate_at (at speeds) g),
          s.places g (omega arith),
          a.rest,
          s.rest,
          work,
        ));
    short = λ f is k d l. omega (
      arith,
      All-tail (λ i. unit * time i ≤ amount (rate_at (at speeds) g) early + amount (rate_at (at speeds) (suc g)) late) j left (p.short g (sym (add-one g))) k d l,
      joined (rate_at (at speeds) g),
      a.faster f is,
      a.rest,
      s.places g (omega arith),
      amount-mono (rate_at (at speeds) (suc g)) (rate_at (at speeds) g) late (λ k d l. (p.each_late k d l).falls g (suc g) (omega arith) (omega arith)),
    );
    apart = AllPairs-tail (λ a b. a ≢ b) j left p.apart;
    inside = All-tail (λ i. i < n) j left p.inside;
  }
