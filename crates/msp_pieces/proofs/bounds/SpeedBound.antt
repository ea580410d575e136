-- The law of speeds: what is slower than the threshold is counted by job, what is faster by machine.
use Rattle.std.proofs.Common.{◌≡◌, ◌≢◌, ℕ, ◌+◌, ◌*◌, ◌-◌, ◌<◌, ◌≤◌, inl, inr, Bool, true, false, cond, eqb, List, length, get_or, filter, map, ℤ, pos, nat_abs}
use Rattle.std.proofs.Common.{◌*ℤ◌, ◌≤ℤ◌, All, AllPairs, sum_by, refl, sym, ap, ap₂, subst, subst₂, ◌∙◌, arith}
use Rattle.std.proofs.lemmas.Bool.{eqb-true}
use Rattle.std.proofs.lemmas.Int.{ints}
use Rattle.std.proofs.lemmas.List.Elements.{All-filter, filter_passes}
use Rattle.std.proofs.lemmas.List.Kept.{AllPairs-filter}
use native.Mathlib.Nat.{mul-le-mul_left}
use Rattle.msp_class.specs.declared.environments.EnvKind.{EnvKind}
use Rattle.msp_class.specs.declared.environments.EnvKind.TheVariants.{Identical, Uniform, Unrelated}
use Rattle.msp_class.specs.Env.{kind_of}
use Rattle.msp_class.specs.Sums.{total_below}
use Rattle.msp_class.proofs.Sums.{cond-scale, sum_by-mono, sum_by-same, sum_by-add, sum_by-scale, sum_by-filter, sum_by-by_key_test, sum_by-by_key_filter, total_below-mono}
use Rattle.msp_class.proofs.Sums.{total_below-same, total_below-scale, total_below-scale_right, total_below-range}
use Rattle.msp_class.proofs.IntegerRing.{natural, pos-le, pos-same, pos-*ℤ-pos}
use Rattle.msp_instance.specs.declared.Instance.{Instance}
use Rattle.msp_instance.specs.Instance.{need_at}
use Rattle.msp_pieces.specs.declared.Piece.{Piece}
use Rattle.msp_pieces.specs.declared.Schedule.{Schedule}
use Rattle.msp_pieces.specs.Piece.{length_of, job_of, start, finish, IsTimed}
use Rattle.msp_pieces.specs.Feasible.{Feasible, HasOperation, MayRun, total, whole_work}
use Rattle.msp_pieces.specs.Cost.{end_of}
use Rattle.msp_pieces.specs.Intervals.{IsApartOn, size_of, work_of}
use Rattle.msp_pieces.specs.Laws.{time_together, jobs_together}
use Rattle.msp_pieces.specs.Speeds.{HaveSpeeds, speed_by, speed_of, speed_above, HasSpeedFor, LawOfSpeeds}
use Rattle.msp_pieces.proofs.lists.Intervals.{apart_on_each, packed, work_by_job, last_of}
use Rattle.msp_pieces.proofs.feasible.OneMachine.{length-timed, unit_in_parts, pieces_timed, machines_apart, jobs_apart, pieces_of-job, total_in_nat, last_end-is}
use Rattle.msp_pieces.proofs.feasible.LastEnds.{last_end-bound}
use Rattle.msp_pieces.proofs.feasible.Frames.{Fits-from_feasible, frame_of, rate_on, part, map-same}
use Rattle.msp_pieces.proofs.bounds.Groups.{ends_last}

-- ---- pieces of time on machines with speeds
module _ {X : Type 0} (job machine from to : X → ℕ) (speed : ℕ → ℕ) (threshold : ℕ) where
  abbrev size : X → ℕ
  size = size_of from to

  -- the work done
  abbrev done : X → ℕ
  done q = size q * speed (machine q)

  abbrev above : ℕ → ℕ
  above m = speed m - threshold

  done-split : (q : X) → done q ≤ threshold * size q + above (machine q) * size q
  done-split q =
      let most : speed (machine q) ≤ threshold + above (machine q) = omega arith in
      omega (arith, mul-le-mul_left (size q) most)

  module _ (test : ℕ → Bool) (m n c : ℕ) (xs : List X) (jobs : All (λ q. job q < n) xs) (machines : All (λ q. machine q < m) xs)
      (on_machines : AllPairs (IsApartOn machine from to) xs) (on_jobs : AllPairs (IsApartOn job from to) xs) (ends : All (λ q. test (job q) ≡ true → to q ≤ c) xs) where
    abbrev picked : List X
    picked = filter (λ q. test (job q)) xs

    by_job : sum_by size picked ≤ total_below n (λ j. cond (test j) 1 0) * c
    by_job = omega (
      arith,
      work_by_job job from to test n xs jobs,
      total_below-mono n (λ j. cond (test j) (work_of job from to xs j) 0) (λ j. cond (test j) 1 0 * c) (λ j l. one (test j) _ (short j)),
      total_below-scale_right n c (λ j. cond (test j) 1 0),
    )
      where
        short : (j : ℕ) → test j ≡ true → work_of job from to xs j ≤ c
        short j e = omega (
          arith,
          packed from to 0 c (filter (λ q. eqb (job q) j) xs) (apart_on_each job from to j xs on_jobs)
              (λ k d l. (omega arith, All-filter (λ q. eqb (job q) j) (λ q. test (job q) ≡ true → to q ≤ c) xs ends k d l (ap test (eqb-true _ _ (filter_passes (λ q. eqb (job q) j) xs k d l)) ∙ e))),
        )

        one : (b : Bool) (w : ℕ) → (b ≡ true → w ≤ c) → cond b w 0 ≤ cond b 1 0 * c
        one true w h = omega (arith, h refl)
        one false w h = omega arith

    abbrev extra : X → ℕ
    extra q = above (machine q) * size q

    by_machine : sum_by extra picked ≤ total_below m above * c
    by_machine = omega (
      arith,
      sum_by-by_key_filter machine extra m picked (All-filter (λ q. test (job q)) (λ q. machine q < m) xs machines),
      total_below-mono m (λ x. sum_by extra (on x)) (λ x. above x * c) (λ x l. short x),
      total_below-scale_right m c above,
    )
      where
        on : ℕ → List X
        on x = filter (λ q. eqb (machine q) x) picked

        ended : All (λ q. to q ≤ c) picked
        ended k d l = All-filter (λ q. test (job q)) (λ q. test (job q) ≡ true → to q ≤ c) xs ends k d l (filter_passes (λ q. test (job q)) xs k d l)

        same : (x : ℕ) → sum_by extra (on x) ≡ above x * sum_by size (on x)
        same x = sum_by-same extra (λ q. above x * size q) (on x) (λ k d l. ap (λ y. above y * size (get_or (on x) k d)) (eqb-true _ _ (filter_passes (λ q. eqb (machine q) x) picked k d l)))
            ∙ sum_by-scale (above x) size (on x)

        filled : (x : ℕ) → sum_by size (on x) ≤ c - 0
        filled x = packed from to 0 c (on x) (apart_on_each machine from to x picked (AllPairs-filter (IsApartOn machine from to) (λ q. test (job q)) xs on_machines))
            (λ k d l. (omega arith, All-filter (λ q. eqb (machine q) x) (λ q. to q ≤ c) picked ended k d l))

        short : (x : ℕ) → sum_by extra (on x) ≤ above x * c
        short x = subst (λ y. y ≤ above x * c) (sym (same x)) (mul-le-mul_left (above x) (omega (arith, filled x)))

    -- the work on the jobs that pass the test
    pub speeds_hold : total_below n (λ j. cond (test j) (sum_by done (filter (λ q. eqb (job q) j) xs)) 0) ≤ c * (total_below n (λ j. cond (test j) 1 0) * threshold + total_below m above)
    speeds_hold = omega (
      arith,
      sum_by-filter done (λ q. test (job q)) xs ∙ sum_by-by_key_test job done test n xs jobs,
      sum_by-mono done (λ q. threshold * size q + extra q) picked (λ k d l. done-split (get_or picked k d)),
      sum_by-add (λ q. threshold * size q) extra picked,
      sum_by-scale threshold size picked,
      mul-le-mul_left threshold by_job,
      by_machine,
    )

-- ---- identical and uniform machines
-- what feasibility reads of them
record IsSpeedKind (k : EnvKind) (i : Instance) : Type 0 where
  has : (j o : ℕ) → HasOperation k i j o → o ≡ 0
  one : (j : ℕ) → HasOperation k i j 0
  may : (j o m : ℕ) → MayRun k i j o m → m < i.machines
  rate : (j m : ℕ) → rate_on k i j m ≡ speed_by k i m
  want : (j : ℕ) → whole_work k i j 0 ≡ (need_at i j 0).time
  other : k ≢ Unrelated

kind_reads : (k : EnvKind) → HaveSpeeds k → (i : Instance) → IsSpeedKind k i
kind_reads Identical h i = record { has = λ j o e. e; one = λ j. refl; may = λ j o m l. l; rate = λ j m. refl; want = λ j. refl; other = λ e. absurd (cc) }
kind_reads Uniform h i = record { has = λ j o e. e; one = λ j. refl; may = λ j o m l. l; rate = λ j m. refl; want = λ j. refl; other = λ e. absurd (cc) }
kind_reads _ h i = absurd (elim h [ inl e ↦ cc | inr e ↦ cc ])

-- lengths times rates, added up
module _ (rate : Piece → ℕ) where
  abbrev pub share : Piece → ℤ
  share p = length_of p *ℤ pos (rate p)

  abbrev pub size_share : Piece → ℕ
  size_share p = size_of start finish p * rate p

  pub total_shares : (xs : List Piece) → All IsTimed xs → total (map share xs) ≡ pos (sum_by size_share xs)
  total_shares xs h = total_in_nat share size_share xs (λ k d l. let p = get_or xs k d in ap (λ x. x *ℤ pos (rate p)) (length-timed p (h k d l)) ∙ pos-*ℤ-pos (finish p - start p) (rate p))

module _ (i : Instance) (s : Schedule) (speeds : HaveSpeeds (kind_of i.class.env)) (f : Feasible i s) where
  reads : IsSpeedKind (kind_of i.class.env) i
  reads = kind_reads (kind_of i.class.env) speeds i

  abbrev unit : ℕ
  unit = nat_abs s.unit

  timed : All IsTimed s.pieces
  timed = pieces_timed i s f

  abbrev n : ℕ
  n = length i.jobs

  abbrev work : Piece → ℕ
  work p = size_of start finish p * speed_of i p.machine

  abbrev own : ℕ → List Piece
  own j = filter (λ p. eqb p.job j) s.pieces

  operations : All (λ p. p.op ≡ 0) s.pieces
  operations k d l = reads.has (get_or s.pieces k d).job (get_or s.pieces k d).op (f.place k d l).operation

  -- a job gets its time at the speeds of its machines
  full : (j : ℕ) → j < n → sum_by work (own j) ≡ unit * (need_at i j 0).time
  full j l = pos-same (
      sym (total_shares (λ p. speed_of i p.machine) (own j) (All-filter (λ p. eqb p.job j) IsTimed s.pieces timed))
      ∙ ap total (map-same (λ p. length_of p *ℤ pos (speed_of i p.machine))
      (part (frame_of i)) (own j) (λ k d b. let p = get_or (own j) k d in ap (λ r. length_of p *ℤ pos r) (sym (reads.rate p.job p.machine))))
      ∙ ap (λ ps. total (map (part (frame_of i)) ps)) (sym (pieces_of-job s j operations))
      ∙ ((Fits-from_feasible i s (record { unrelated = λ e. absurd (reads.other e) }) f).work j 0 l (reads.one j)).sum
      ∙ ap₂ (λ u t. u *ℤ pos t) (unit_in_parts i s f) (reads.want j))

  module _ (test : ℕ → Bool) (threshold c : ℕ) (ends : (j : ℕ) → j < n → test j ≡ true → end_of s j ≤ℤ pos c) where
    abbrev time : ℕ → ℕ
    time j = cond (test j) (need_at i j 0).time 0

    work_is : unit * time_together i test ≡ total_below n (λ j. cond (test j) (sum_by work (own j)) 0)
    work_is =
        ap (λ m. unit * m) (total_below-range n time) ∙ sym (total_below-scale n unit time)
        ∙ sym (total_below-same n _ (λ j. unit * time j) (λ j l. ap (λ m. cond (test j) m 0) (full j l) ∙ cond-scale (test j) unit (need_at i j 0).time))

    ended : All (λ p. test p.job ≡ true → finish p ≤ c) s.pieces
    ended k d l e = let t = timed k d l in omega (arith, ints, t.to, last_end-bound s.pieces k d l, ends (get_or s.pieces k d).job (f.place k d l).job e)

    in_time : unit * time_together i test ≤ c * (jobs_together i test * threshold + speed_above i threshold)
    in_time =
        subst₂ (λ k a. unit * time_together i test ≤ c * (k * threshold + a)) (sym (total_below-range n (λ j. cond (test j) 1 0))) (sym (total_below-range i.machines (λ m. speed_of i m - threshold)))
        (subst (λ w. w ≤ c * (total_below n (λ j. cond (test j) 1 0) * threshold + total_below i.machines (λ m. speed_of i m - threshold))) (sym work_is)
        (speeds_hold job_of (λ p. p.machine) start finish (speed_of i) threshold test i.machines n c s.pieces
        (λ k d l. (f.place k d l).job)
        (λ k d l. let p = get_or s.pieces k d in reads.may p.job p.op p.machine (f.place k d l).machine)
        (machines_apart i s f) (jobs_apart i s f) ended))

    has_speed : HasSpeedFor i s test threshold (pos c)
    has_speed = subst (λ x. (x *ℤ pos (time_together i test)) ≤ℤ (pos c *ℤ pos (jobs_together i test * threshold + speed_above i threshold))) (sym (unit_in_parts i s f)) (pos-le in_time)

pub law_of_speeds : LawOfSpeeds
law_of_speeds = record {
  room = λ i s test threshold end speeds f b ends. subst (HasSpeedFor i s test threshold)
      (sym (natural end b)) (has_speed i s speeds f test threshold (nat_abs end) (λ j l e. subst (λ x. end_of s j ≤ℤ x) (natural end b) (ends j l e)));
  last = λ i s test threshold speeds f j l e.
      let spans = timed i s speeds f in
      let (k, last) = ends_last i s spans test j l e in
      let is = last_end-is s.pieces k spans in (
        k,
        last,
        subst (HasSpeedFor i s test threshold) (sym is) (has_speed i s speeds f test threshold (last_of job_of finish s.pieces k) (λ x b q. subst (λ y. end_of s x ≤ℤ y) is (last.latest x b q))),
      );
}
