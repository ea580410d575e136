-- The pieces of segments one after another: they do not overlap, and what they do adds up.
use Rattle.std.proofs.Common.{◌≡◌, ◌≢◌, ℕ, zero, suc, ◌+◌, ◌*◌, ◌-◌, ◌<◌, ◌≤◌, ◌⊎◌, inl, inr, true, false, cond, eqb, ltb, List, [], ◌∷◌, ◌++◌, length, get_or, All, AllPairs}
use Rattle.std.proofs.Common.{sum_by, refl, sym, ap, ◌∙◌, arith}
use Rattle.std.proofs.lemmas.Bool.{cond_both, eqb-true, eqb-false, ltb-true, ltb-false}
use Rattle.std.proofs.lemmas.List.{length-append}
use Rattle.std.proofs.lemmas.List.Elements.{All-nil, All-cons, All-append, All-head, All-tail, All-weaker}
use Rattle.std.proofs.lemmas.List.Kept.{AllPairs-cons}
use Rattle.msp_class.specs.Sums.{total_below}
use Rattle.msp_class.proofs.Sums.{sum_by-cons, sum_by-append, sum_by-same, sum_by-agree, sum_by-total_below, total_below-scale}
use Rattle.msp_pieces.specs.declared.Piece.{Piece}
use Rattle.msp_pieces.specs.Piece.{start, finish, job_of, IsTimed}
use Rattle.msp_pieces.specs.Intervals.{IsApartOn, size_of}
use Rattle.msp_pieces.proofs.feasible.Series.{AllPairs-append}
use Rattle.msp_uniform.specs.declared.segments.Segment.{Segment}
use Rattle.msp_uniform.specs.Runs.{piece_on, part_on, runs_from, runs, IsSliceOf}
use Rattle.msp_uniform.specs.Segments.{job_on}
use Rattle.msp_class.proofs.Cases.{less_or_not}

abbrev machine_of : Piece → ℕ
machine_of p = p.machine

abbrev pub size : Piece → ℕ
size p = size_of start finish p

abbrev pub long : Segment → ℕ
long x = x.length

AllPairs-empty : (R : Piece → Piece → Type 0) → AllPairs R []
AllPairs-empty R i j d a b = absurd (omega (arith, b))

-- which job a machine has at a moment
abbrev job_at : ℕ → ℕ → ℕ → List Segment → ℕ → ℕ
job_at n i t [] moment = n
job_at n i t (x ∷ xs) moment = cond (ltb moment (t + long x)) (job_on x i) (job_at n i (t + long x) xs moment)

module _ (m n : ℕ) where
  abbrev Slice : Segment → Type 0
  Slice x = IsSliceOf m n x.length x.body.value.jobs

  -- two machines have different jobs
  job_at-once : (i k t moment : ℕ) (xs : List Segment) → i < k → k < m → All Slice xs → job_at n i t xs moment ≡ job_at n k t xs moment → job_at n i t xs moment ≡ n
  job_at-once i k t moment [] l b h = λ e. refl
  job_at-once i k t moment (x ∷ xs) l b h = elim (ltb moment (t + long x)) as (λ v. cond v (job_on x i) (job_at n i (t + long x) xs moment)
      ≡ cond v (job_on x k) (job_at n k (t + long x) xs moment) → cond v (job_on x i) (job_at n i (t + long x) xs moment) ≡ n) [
        | true ↦ (All-head Slice x xs h).once i k l b
        | false ↦ job_at-once i k (t + long x) moment xs l b (All-tail Slice x xs h)
      ]

  -- ---- one machine
  -- a piece of a machine that begins at a or later and ends by the end
  pub record IsRun (i a end : ℕ) (p : Piece) : Type 0 where
    pub timed : IsTimed p
    pub from : a ≤ start p
    pub to : finish p ≤ end
    pub job : p.job < n
    pub machine : p.machine ≡ i
    pub op : p.op ≡ 0

  module _ (i : ℕ) (inside : i < m) where
    abbrev Started : ℕ → ℕ → ℕ → Type 0
    Started j a t = (j ≡ n) ⊎ ((a < t) × (j < n))

    begun : (x : Segment) (t : ℕ) → Slice x → Started (job_on x i) t (t + long x)
    begun x t s = elim (less_or_not (job_on x i) n) [ inl l ↦ inr (omega (arith, s.lasts), l) | inr l ↦ inl (omega (arith, l, s.inside i inside)) ]

    longer : (j a t l : ℕ) → Started j a t → Started j a (t + l)
    longer j a t l (inl e) = inl e
    longer j a t l (inr s) = inr (omega (arith, s.0), s.1)

    on_part : (P : Piece → Type 0) (j a t : ℕ) → (j ≢ n → P (piece_on i j a t)) → All P (part_on n i j a t)
    on_part P j a t h = cond_both (eqb j n) [] (piece_on i j a t ∷ []) (All P) (λ _. All-nil P) (λ e. All-cons P (piece_on i j a t) [] (h (eqb-false j n e)) (All-nil P))

    part_is : (j a t end : ℕ) → Started j a t → t ≤ end → All (IsRun i a end) (part_on n i j a t)
    part_is j a t end s l = on_part (IsRun i a end) j a t (λ d. elim s [
      | inl e ↦ absurd (d e)
      | inr q ↦ record { timed = record { from = refl; to = refl; lasts = q.0 }; from = omega arith; to = l; job = q.1; machine = refl; op = refl }
    ])

    later : (a b end : ℕ) (ps : List Piece) → a ≤ b → All (IsRun i b end) ps → All (IsRun i a end) ps
    later a b end ps l = All-weaker (IsRun i b end) (IsRun i a end) (λ p r. record { timed = r.timed; from = omega (arith, l, r.from); to = r.to; job = r.job; machine = r.machine; op = r.op }) ps

    runs_are : (j a t end : ℕ) (xs : List Segment) → a ≤ t → Started j a t → t + sum_by long xs ≡ end → All Slice xs → All (IsRun i a end) (runs_from n i j a t xs)
    runs_are j a t end [] l s e h = part_is j a t end s (omega (arith, e))
    runs_are j a t end (x ∷ xs) l s e h =
        let rest : t + long x + sum_by long xs ≡ end = omega (arith, e, sum_by-cons long x xs) in
        cond_both (eqb (job_on x i) j) _ _ (All (IsRun i a end)) (λ _. runs_are j a (t + long x) end xs (omega (arith, l)) (longer j a t (long x) s) rest (All-tail Slice x xs h))
        (λ _. All-append (IsRun i a end) (part_on n i j a t) (runs_from n i (job_on x i) t (t + long x) xs) (part_is j a t end s (omega (arith, rest)))
        (later a t end _ l (runs_are (job_on x i) t (t + long x) end xs (omega arith) (begun x t (All-head Slice x xs h)) rest (All-tail Slice x xs h))))

    -- the pieces after a change
    changed : (t : ℕ) (x : Segment) (xs : List Segment) → All Slice (x ∷ xs) → All (IsRun i t (t + long x + sum_by long xs)) (runs_from n i (job_on x i) t (t + long x) xs)
    changed t x xs h = runs_are (job_on x i) t (t + long x) _ xs (omega arith) (begun x t (All-head Slice x xs h)) refl (All-tail Slice x xs h)

    -- a piece that begins before t is of the job that the machine has had
    early : (j a t : ℕ) (xs : List Segment) → a ≤ t → Started j a t → All Slice xs → All (λ p. start p < t → p.job ≡ j) (runs_from n i j a t xs)
    early j a t [] l s h = on_part (λ p. start p < t → p.job ≡ j) j a t (λ d b. refl)
    early j a t (x ∷ xs) l s h = cond_both (eqb (job_on x i) j) _ _ (All (λ p. start p < t → p.job ≡ j))
        (λ _. All-weaker (λ p. start p < t + long x → p.job ≡ j) (λ p. start p < t → p.job ≡ j) (λ p f b. f (omega (arith, b)))
        (runs_from n i j a (t + long x) xs) (early j a (t + long x) xs (omega (arith, l)) (longer j a t (long x) s) (All-tail Slice x xs h)))
        (λ _. All-append (λ p. start p < t → p.job ≡ j) (part_on n i j a t) _ (on_part (λ p. start p < t → p.job ≡ j) j a t (λ d b. refl))
        (All-weaker (IsRun i t (t + long x + sum_by long xs)) (λ p. start p < t → p.job ≡ j) (λ p r b. absurd (omega (arith, b, r.from))) _ (changed t x xs h)))

    -- a piece runs while the machine has its job
    abbrev Covers : ℕ → List Segment → Piece → Type 0
    Covers t xs p = (moment : ℕ) → t ≤ moment → start p ≤ moment → moment < finish p → job_at n i t xs moment ≡ p.job

    abbrev CoversLater : ℕ → Segment → List Segment → Type 0
    CoversLater t x xs = (k b : ℕ) → b ≤ t → Started k b (t + long x) → All (Covers (t + long x) xs) (runs_from n i k b (t + long x) xs)

    covers : (j a t : ℕ) (xs : List Segment) → a ≤ t → Started j a t → All Slice xs → All (Covers t xs) (runs_from n i j a t xs)
    covers j a t [] l s h = on_part (Covers t []) j a t (λ d moment b c e. absurd (omega (arith, b, e)))
    covers j a t (x ∷ xs) l s h =
        let f : CoversLater t x xs = λ k b c s. covers k b (t + long x) xs (omega (arith, c)) s (All-tail Slice x xs h) in
        cond_both (eqb (job_on x i) j) _ _ (All (Covers t (x ∷ xs))) (λ e. inner f j a (eqb-true (job_on x i) j e) l (longer j a t (long x) s))
        (λ _. All-append (Covers t (x ∷ xs)) (part_on n i j a t) _ (on_part (Covers t (x ∷ xs)) j a t (λ d moment b c f. absurd (omega (arith, b, f))))
        (inner f (job_on x i) t refl (omega arith) (begun x t (All-head Slice x xs h))))
      where
        inner : CoversLater t x xs → (k b : ℕ) → job_on x i ≡ k → b ≤ t → Started k b (t + long x) → All (Covers t (x ∷ xs)) (runs_from n i k b (t + long x) xs)
        inner f k b e c s q d r moment u v w =
            let first = early k b (t + long x) xs (omega (arith, c)) s (All-tail Slice x xs h) q d r in
            cond_both (ltb moment (t + long x)) _ _ (λ j. j ≡ (get_or (runs_from n i k b (t + long x) xs) q d).job)
            (λ z. e ∙ sym (first (omega (arith, v, ltb-true moment (t + long x) z)))) (λ z. f k b c s q d r moment (ltb-false moment (t + long x) z) v w)

    -- the pieces follow one another
    abbrev Follows : Piece → Piece → Type 0
    Follows p q = finish p ≤ start q

    follow : (j a t : ℕ) (xs : List Segment) → a ≤ t → Started j a t → All Slice xs → AllPairs Follows (runs_from n i j a t xs)
    follow j a t [] l s h = cond_both (eqb j n) [] (piece_on i j a t ∷ []) (AllPairs Follows)
        (λ _. AllPairs-empty Follows) (λ _. AllPairs-cons Follows (piece_on i j a t) [] (All-nil (Follows (piece_on i j a t))) (AllPairs-empty Follows))
    follow j a t (x ∷ xs) l s h =
        let next = follow (job_on x i) t (t + long x) xs (omega arith) (begun x t (All-head Slice x xs h)) (All-tail Slice x xs h) in
        cond_both (eqb (job_on x i) j) _ _ (AllPairs Follows) (λ _. follow j a (t + long x) xs (omega (arith, l)) (longer j a t (long x) s) (All-tail Slice x xs h))
        (λ _. cond_both (eqb j n) [] (piece_on i j a t ∷ []) (λ ps. AllPairs Follows (ps ++ runs_from n i (job_on x i) t (t + long x) xs)) (λ _. next) (λ _. AllPairs-cons Follows
        (piece_on i j a t) _ (All-weaker (IsRun i t (t + long x + sum_by long xs)) (Follows (piece_on i j a t)) (λ p r. r.from) _ (changed t x xs h)) next))

    -- what the pieces do, where a job counts
    module _ (value : ℕ → ℕ) (zero_value : value n ≡ 0) where
      abbrev counted : Piece → ℕ
      counted p = size p * value p.job

      part_work : (j a t : ℕ) → sum_by counted (part_on n i j a t) ≡ (t - a) * value j
      part_work j a t = cond_both (eqb j n) [] (piece_on i j a t ∷ []) (λ ps. sum_by counted ps ≡ (t - a) * value j)
          (λ e. omega (arith, ap (λ k. (t - a) * k) (ap value (eqb-true j n e) ∙ zero_value))) (λ e. omega (arith, sum_by-cons counted (piece_on i j a t) []))

      runs_work : (j a t : ℕ) (xs : List Segment) → a ≤ t → sum_by counted (runs_from n i j a t xs) ≡ (t - a) * value j + sum_by (λ x. long x * value (job_on x i)) xs
      runs_work j a t [] l = omega (arith, part_work j a t)
      runs_work j a t (x ∷ xs) l =
          let parts : t + long x - a ≡ t - a + long x = omega (arith, l) in
          let lasts : t + long x - t ≡ long x = omega arith in
          cond_both (eqb (job_on x i) j) _ _ (λ ps. sum_by counted ps ≡ (t - a) * value j + sum_by (λ y. long y * value (job_on y i)) (x ∷ xs))
          (λ e. omega (
            arith,
            runs_work j a (t + long x) xs (omega (arith, l)),
            ap (λ k. k * value j) parts,
            ap (λ k. long x * value k) (eqb-true (job_on x i) j e),
            sum_by-cons (λ y. long y * value (job_on y i)) x xs,
          ))
          (λ e. omega (
            arith,
            sum_by-append counted (part_on n i j a t) (runs_from n i (job_on x i) t (t + long x) xs),
            part_work j a t,
            runs_work (job_on x i) t (t + long x) xs (omega arith),
            ap (λ k. k * value (job_on x i)) lasts,
            sum_by-cons (λ y. long y * value (job_on y i)) x xs,
          ))

    runs_few : (j a t : ℕ) (xs : List Segment) → length (runs_from n i j a t xs) ≤ suc (length xs)
    runs_few j a t [] = cond_both (eqb j n) [] (piece_on i j a t ∷ []) (λ ps. length ps ≤ 1) (λ _. omega arith) (λ _. omega arith)
    runs_few j a t (x ∷ xs) =
        let next = runs_few (job_on x i) t (t + long x) xs in
        cond_both (eqb (job_on x i) j) _ _ (λ ps. length ps ≤ suc (suc (length xs))) (λ _. omega (arith, runs_few j a (t + long x) xs)) (λ _. cond_both (eqb j n) [] (piece_on i j a t ∷ [])
        (λ ps. length (ps ++ runs_from n i (job_on x i) t (t + long x) xs) ≤ suc (suc (length xs))) (λ _. omega (arith, next)) (λ _. omega (arith, next)))

  -- ---- all machines
  -- what is said of the pieces up to the end
  pub record LieApart (k end : ℕ) (ps : List Piece) : Type 0 where
    pub timed : All IsTimed ps
    pub lies : All (λ p. finish p ≤ end) ps
    pub places : All (λ p. (p.job < n) × (p.machine < k) × (p.op ≡ 0)) ps
    pub on_machines : AllPairs (IsApartOn machine_of start finish) ps
    pub on_jobs : AllPairs (IsApartOn job_of start finish) ps

  module _ (xs : List Segment) (h : All Slice xs) where
    abbrev end : ℕ
    end = sum_by long xs

    abbrev runs_on : ℕ → List Piece
    runs_on i = runs_from n i n 0 0 xs

    runs_on_are : (i : ℕ) → i < m → All (IsRun i 0 end) (runs_on i)
    runs_on_are i l = runs_are i l n 0 0 end xs (omega arith) (inl refl) (omega arith) h

    -- no job is on two machines at once
    abbrev Runs : ℕ → Piece → Type 0
    Runs k p = (i : ℕ) × (i < k) × IsRun i 0 end p × ((moment : ℕ) → start p ≤ moment → moment < finish p → job_at n i 0 xs moment ≡ p.job)

    runs_on_run : (i : ℕ) → i < m → All (Runs (suc i)) (runs_on i)
    runs_on_run i l q d b = (i, omega arith, runs_on_are i l q d b, λ moment u v. covers i l n 0 0 xs (omega arith) (inl refl) h q d b moment (omega arith) u v)

    all_run : (k : ℕ) → k ≤ m → All (Runs k) (runs n xs k)
    all_run zero l = All-nil (Runs zero)
    all_run (suc k) l = All-append (Runs (suc k)) (runs n xs k) (runs_on k)
        (All-weaker (Runs k) (Runs (suc k)) (λ p r. (r.0, omega (arith, r.1), r.2, r.3)) (runs n xs k) (all_run k (omega (arith, l)))) (runs_on_run k (omega (arith, l)))

    apart_jobs : (k : ℕ) (p q : Piece) → k < m → Runs k p → IsRun k 0 end q → ((moment : ℕ) → start q ≤ moment → moment < finish q → job_at n k 0 xs moment ≡ q.job) → IsApartOn job_of start finish p q
    apart_jobs k p q l (i, b, r, c) s d e = by (less_or_not (start q) (finish p)) (less_or_not (start p) (finish q))
      where
        both : (moment : ℕ) → start p ≤ moment → moment < finish p → start q ≤ moment → moment < finish q → ⊥
        both moment t u v w = absurd (omega (arith, r.job, sym (c moment t u) ∙ job_at-once i k 0 moment xs b l h (c moment t u ∙ e ∙ sym (d moment v w))))

        by : (start q < finish p) ⊎ (finish p ≤ start q) → (start p < finish q) ⊎ (finish q ≤ start p) → (finish p ≤ start q) ⊎ (finish q ≤ start p)
        by (inr a) z = inl a
        by (inl a) (inr z) = inr z
        by (inl a) (inl z) = elim (less_or_not (start p) (start q)) [
          | inl y ↦ absurd (both (start q) (omega (arith, y)) a (omega arith) s.timed.lasts)
          | inr y ↦ absurd (both (start p) (omega arith) r.timed.lasts y z)
        ]

    lie_apart : (k : ℕ) → k ≤ m → LieApart k end (runs n xs k)
    lie_apart zero l = record {
      timed = All-nil IsTimed;
      lies = All-nil (λ p. finish p ≤ end);
      places = All-nil (λ p. (p.job < n) × (p.machine < 0) × (p.op ≡ 0));
      on_machines = AllPairs-empty (IsApartOn machine_of start finish);
      on_jobs = AllPairs-empty (IsApartOn job_of start finish);
    }
    lie_apart (suc k) l = joined (lie_apart k (omega (arith, l))) (runs_on_are k (omega (arith, l))) (follow k (omega (arith, l)) n 0 0 xs (omega arith) (inl refl) h)
      where
        joined : LieApart k end (runs n xs k) → All (IsRun k 0 end) (runs_on k) → AllPairs (Follows k (omega (arith, l))) (runs_on k) → LieApart (suc k) end (runs n xs k ++ runs_on k)
        joined a b f = record {
          timed = All-append IsTimed _ _ a.timed (All-weaker (IsRun k 0 end) IsTimed (λ p r. r.timed) (runs_on k) b);
          lies = All-append (λ p. finish p ≤ end) _ _ a.lies (All-weaker (IsRun k 0 end) (λ p. finish p ≤ end) (λ p r. r.to) (runs_on k) b);
          places = All-append (λ p. (p.job < n) × (p.machine < suc k) × (p.op ≡ 0))
              _ _ (All-weaker (λ p. (p.job < n) × (p.machine < k) × (p.op ≡ 0)) (λ p. (p.job < n) × (p.machine < suc k) × (p.op ≡ 0)) (λ p r. (r.0, omega (arith, r.1), r.2)) (runs n xs k) a.places)
              (All-weaker (IsRun k 0 end) (λ p. (p.job < n) × (p.machine < suc k) × (p.op ≡ 0)) (λ p r. (r.job, omega (arith, r.machine), r.op)) (runs_on k) b);
          on_machines = AllPairs-append (IsApartOn machine_of start finish)
              _ _ a.on_machines (λ q d u v w e. inl (f q d u v w)) (λ q d u v w z e. absurd (omega (arith, (a.places q d u).1, (b v w z).machine, e)));
          on_jobs = AllPairs-append (IsApartOn job_of start finish) _ _ a.on_jobs (λ q d u v w e. inl (f q d u v w)) (λ q d u v w z. apart_jobs k (get_or (runs n xs k) q d) (get_or (runs_on k) v w)
              (omega (arith, l)) (all_run k (omega (arith, l)) q d u) (b v w z) (λ moment x y. covers k (omega (arith, l)) n 0 0 xs (omega arith) (inl refl) h v w z moment (omega arith) x y));
        }

    pub runs_lie_apart : LieApart m end (runs n xs m)
    runs_lie_apart = lie_apart m (omega arith)

    -- what the pieces do adds up
    pub work_of_runs : (value : ℕ → ℕ → ℕ) → ((i : ℕ) → value n i ≡ 0)
        → sum_by (λ p. size p * value p.job p.machine) (runs n xs m) ≡ sum_by (λ x. long x * total_below m (λ i. value (job_on x i) i)) xs
    work_of_runs value z = all m (omega arith) ∙ sym (sum_by-total_below (λ x i. long x * value (job_on x i) i) m xs)
        ∙ sum_by-agree _ _ xs (λ x. total_below-scale m (long x) (λ i. value (job_on x i) i))
      where
        all : (k : ℕ) → k ≤ m → sum_by (λ p. size p * value p.job p.machine) (runs n xs k) ≡ total_below k (λ i. sum_by (λ x. long x * value (job_on x i) i) xs)
        all zero l = refl
        all (suc k) l = omega (
          arith,
          sum_by-append (λ p. size p * value p.job p.machine) (runs n xs k) (runs_on k),
          all k (omega (arith, l)),
          sum_by-same (λ p. size p * value p.job p.machine) (λ p. size p * value p.job k) (runs_on k)
              (λ q d u. ap (λ i. size (get_or (runs_on k) q d) * value (get_or (runs_on k) q d).job i) (runs_on_are k (omega (arith, l)) q d u).machine),
          runs_work k (omega (arith, l)) (λ j. value j k) (z k) n 0 0 xs (omega arith),
        )

    pub few_runs : (k : ℕ) → k ≤ m → length (runs n xs k) ≤ k * suc (length xs)
    few_runs zero l = omega arith
    few_runs (suc k) l = omega (arith, length-append (runs n xs k) (runs_on k), few_runs k (omega (arith, l)), runs_few k (omega (arith, l)) n 0 0 xs)
