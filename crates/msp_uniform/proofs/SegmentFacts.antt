-- What a segment is once a job has taken a machine in it.
use Rattle.std.proofs.Common.{◌≡◌, ◌≢◌, ℕ, suc, ◌<◌, ◌≤◌, inl, inr, cond, eqb, leb, List, length, sym, ap, subst, subst₂, ◌∙◌, add-one, arith}
use Rattle.std.specs.Prelude.{remove}
use Rattle.std.proofs.lemmas.Bool.{cond_both, cond-true, cond-false, leb-true, leb-false, le-leb, lt-leb, ne_eqb, eq-eqb}
use Rattle.std.proofs.lemmas.List.{length-set, get_or-set_same, get_or-set_other}
use Rattle.std.proofs.lemmas.List.Edits.{length-remove, get_or-remove_below, get_or-remove_above}
use Rattle.msp_class.proofs.Cases.{same_or_not, less_or_not}
use Rattle.msp_class.proofs.Sums.{total_below-same, total_below-only}
use Rattle.msp_uniform.specs.declared.segments.Segment.{Segment}
use Rattle.msp_uniform.specs.Segments.{at, job_on, place_at, IsSegment, IsAbsent, IsTaken, rate_at, job_rate}

-- where the elements of a list stand after one is taken away
abbrev pub after : ℕ → ℕ → ℕ
after r k = cond (leb r k) (suc k) k

at-remove : (xs : List ℕ) (r k : ℕ) → r < length xs → at (remove xs r) k ≡ at xs (after r k)
at-remove xs r k l = cond_both (leb r k) (suc k) k (λ q. at (remove xs r) k ≡ at xs q)
    (λ e. get_or-remove_above xs r 0 k (leb-true r k e) l ∙ ap (at xs) (add-one k)) (λ e. get_or-remove_below xs r 0 k (leb-false r k e) l)

module _ (m n : ℕ) (speed : ℕ → ℕ) (h r job length' : ℕ)
    (x y : Segment) (s : IsSegment m n speed (suc h) x) (t : IsTaken job r length' x y) (inside : r < suc h) (new : job < n) (absent : IsAbsent m job x) where
  abbrev machine : ℕ
  machine = place_at x r

  job_there : job_on y machine ≡ job
  job_there = ap (λ l. at l machine) t.jobs ∙ get_or-set_same x.body.value.jobs machine job 0 (omega (arith, s.all, s.machines r inside))

  job_other : (i : ℕ) → i ≢ machine → job_on y i ≡ job_on x i
  job_other i d = ap (λ l. at l i) t.jobs ∙ get_or-set_other x.body.value.jobs machine i job 0 d

  place_is : (k : ℕ) → place_at y k ≡ place_at x (after r k)
  place_is k = ap (λ l. at l k) t.free ∙ at-remove x.body.value.free r k (omega (arith, s.places, inside))

  after_in : (k : ℕ) → k < h → after r k < suc h
  after_in k l = cond_both (leb r k) (suc k) k (λ q. q < suc h) (λ _. omega arith) (λ _. omega arith)

  after_not : (k : ℕ) → after r k ≢ r
  after_not k = cond_both (leb r k) (suc k) k (λ p. p ≢ r) (λ e q. absurd (omega (arith, leb-true r k e, q))) (λ e q. absurd (omega (arith, leb-false r k e, q)))

  after_less : (j k : ℕ) → j < k → after r j < after r k
  after_less j k l = cond_both (leb r k) (suc k) k (λ q. after r j < q)
      (λ f. cond_both (leb r j) (suc j) j (λ p. p < suc k) (λ e. omega arith) (λ e. omega arith))
      (λ f. cond_both (leb r j) (suc j) j (λ p. p < k) (λ e. absurd (omega (arith, leb-true r j e, leb-false r k f))) (λ e. omega arith))

  distinct : (q k : ℕ) → q < suc h → k < suc h → q ≢ k → place_at x q ≢ place_at x k
  distinct q k a b d = elim (less_or_not q k) [ inl l ↦ s.apart q k l b | inr l ↦ λ e. s.apart k q (omega (arith, l, d)) a (sym e) ]

  job_once : (i : ℕ) → i < m → job_on y i ≡ job → i ≡ machine
  job_once i l e = elim (same_or_not i machine) [ inl q ↦ q | inr d ↦ absurd (absent i l (sym (job_other i d) ∙ e)) ]

  pub IsSegment-taken : 1 ≤ length' → IsSegment m n speed h y
  IsSegment-taken some = record {
    lasts = omega (arith, t.long, some);
    all = ap length t.jobs ∙ length-set x.body.value.jobs machine job ∙ s.all;
    jobs = λ i l. elim (same_or_not i machine) [
      | inl e ↦ omega (arith, ap (job_on y) e, job_there, new)
      | inr d ↦ omega (arith, job_other i d, s.jobs i l)
    ];
    once = λ i j l b e. elim (same_or_not i machine) [
      | inl q ↦ absurd (omega (arith, l, q, job_once j b (sym e ∙ ap (job_on y) q ∙ job_there)))
      | inr d ↦ elim (same_or_not j machine) [
        | inl q ↦ absurd (d (job_once i (omega (arith, l, b)) (e ∙ ap (job_on y) q ∙ job_there)))
        | inr c ↦ job_other i d ∙ s.once i j l b (sym (job_other i d) ∙ e ∙ job_other j c)
      ]
    ];
    places = omega (arith, ap length t.free, length-remove x.body.value.free r (omega (arith, s.places, inside)), s.places);
    machines = λ k l. subst (λ p. p < m) (sym (place_is k)) (s.machines (after r k) (after_in k l));
    idle = λ k l. job_other (place_at y k) (subst (λ p. p ≢ machine) (sym (place_is k)) (distinct (after r k) r (after_in k l) inside (after_not k)))
        ∙ ap (job_on x) (place_is k) ∙ s.idle (after r k) (after_in k l);
    apart = λ q k l b. subst₂ (λ a c. a ≢ c) (sym (place_is q)) (sym (place_is k)) (s.apart (after r q) (after r k) (after_less q k l) (after_in k b));
    falls = λ q k l b. subst₂ (λ a c. speed a ≤ speed c) (sym (place_is k)) (sym (place_is q)) (s.falls (after r q) (after r k) (after_most q k l) (after_in k b));
  }
    where
      after_most : (q k : ℕ) → q ≤ k → after r q ≤ after r k
      after_most q k l = elim (less_or_not q k) [
        | inl b ↦ omega (arith, after_less q k b)
        | inr b ↦ let same : q ≡ k = omega (arith, l, b) in omega (arith, ap (after r) same)
      ]

  -- the rates
  pub rate_below : (k : ℕ) → k < r → rate_at speed k y ≡ rate_at speed k x
  rate_below k l = ap speed (place_is k ∙ ap (place_at x) (cond-false (leb r k) (suc k) k (lt-leb r k l)))

  pub rate_above : (k : ℕ) → r ≤ k → rate_at speed k y ≡ rate_at speed (suc k) x
  rate_above k l = ap speed (place_is k ∙ ap (place_at x) (cond-true (leb r k) (suc k) k (le-leb r k l)))

  abbrev part_on : ℕ → Segment → ℕ → ℕ
  part_on j z i = cond (eqb (job_on z i) j) (speed i) 0

  pub own_rate : job_rate m speed job y ≡ rate_at speed r x
  own_rate = total_below-same m (part_on job y) (λ i. cond (eqb machine i) (speed i) 0) (λ i l. elim (same_or_not machine i) [
    | inl e ↦ ap (λ v. cond v (speed i) 0) (eq-eqb (job_on y i) job (ap (job_on y) (sym e) ∙ job_there) ∙ sym (eq-eqb machine i e))
    | inr d ↦ ap (λ v. cond v (speed i) 0) (ne_eqb (job_on y i) job (λ q. d (sym (job_once i l q))) ∙ sym (ne_eqb machine i d))
  ]) ∙ total_below-only m speed machine (s.machines r inside)

  pub other_rate : (j : ℕ) → j < n → j ≢ job → job_rate m speed j y ≡ job_rate m speed j x
  other_rate j l d = total_below-same m (part_on j y) (part_on j x) (λ i b. elim (same_or_not i machine) [
    | inl e ↦ ap (λ v. cond v (speed i) 0)
        (ne_eqb (job_on y i) j (λ q. d (sym q ∙ ap (job_on y) e ∙ job_there)) ∙ sym (ne_eqb (job_on x i) j (λ q. absurd (omega (arith, l, sym q ∙ ap (job_on x) e ∙ s.idle r inside)))))
    | inr c ↦ ap (λ v. cond (eqb v j) (speed i) 0) (job_other i c)
  ])

  pub still_absent : (j : ℕ) → j ≢ job → IsAbsent m j x → IsAbsent m j y
  still_absent j d a i l e = elim (same_or_not i machine) [ inl q ↦ d (sym e ∙ ap (job_on y) q ∙ job_there) | inr c ↦ a i l (sym (job_other i c) ∙ e) ]
