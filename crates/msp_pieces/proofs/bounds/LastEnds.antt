-- The law of last ends: each piece is split at the moment. Before it the pieces of each machine are packed, behind it those of each job.
use Rattle.std.proofs.Common.{◌≡◌, ℕ, ◌+◌, ◌*◌, ◌-◌, ◌<◌, ◌≤◌, Bool, cond, eqb, List, length, get_or, filter, pos, nat_abs, ◌*ℤ◌, ◌≤ℤ◌, All, AllPairs, sum_by, sym, ap, ap₂, subst, subst₂, ◌∙◌, arith}
use Rattle.std.specs.List.{range_with_len}
use Rattle.std.proofs.lemmas.Bool.{eqb-true}
use Rattle.std.proofs.lemmas.List.Elements.{All-filter, filter_passes}
use Rattle.std.proofs.lemmas.List.Kept.{AllPairs-filter}
use Rattle.msp_class.specs.Sums.{total_below}
use Rattle.msp_class.proofs.Sums.{cond-mono, cond-scale, sum_by-mono, sum_by-same, sum_by-add, sum_by-filter, sum_by-by_key_test, sum_by-by_key_filter, total_below-mono}
use Rattle.msp_class.proofs.Sums.{total_below-same, total_below-scale, total_below-bound, total_below-range}
use Rattle.msp_class.proofs.IntegerRing.{pos-le}
use Rattle.msp_instance.specs.declared.Instance.{Instance}
use Rattle.msp_pieces.specs.declared.Schedule.{Schedule}
use Rattle.msp_pieces.specs.Piece.{job_of, start, finish}
use Rattle.msp_pieces.specs.Feasible.{Feasible}
use Rattle.msp_pieces.specs.Cost.{end_of}
use Rattle.msp_pieces.specs.Intervals.{IsApartOn, size_of, work_of}
use Rattle.msp_pieces.specs.LastEnds.{HasRoomAround, LawOfLastEnds}
use Rattle.msp_pieces.specs.Loads.{job_length}
use Rattle.msp_pieces.specs.BackToBack.{time_at}
use Rattle.msp_pieces.proofs.lists.Intervals.{overlap, overlap_of, packing, apart_on_each, work_by_job, last_of, last_of-bound}
use Rattle.msp_pieces.proofs.feasible.OneMachine.{unit_in_parts, pieces_timed, machines_apart, jobs_apart, machines_below, full_work, last_end-is}
use Rattle.msp_pieces.proofs.bounds.Loads.{shop_machines_below, job_is_worked}

-- ---- pieces of any type
module _ {X : Type 0} (job machine from to : X → ℕ) (test : ℕ → Bool) (last : ℕ → ℕ) (m n t : ℕ) (xs : List X)
    (jobs : All (λ q. job q < n) xs) (machines : All (λ q. machine q < m) xs)
    (on_machines : AllPairs (IsApartOn machine from to) xs) (on_jobs : AllPairs (IsApartOn job from to) xs) (ends : All (λ q. to q ≤ last (job q)) xs) where
  abbrev passes : X → Bool
  passes q = test (job q)

  abbrev chosen : List X
  chosen = filter passes xs

  abbrev before : X → ℕ
  before q = overlap_of from to 0 t q

  abbrev behind : X → ℕ
  behind q = overlap_of from to t (last (job q)) q

  parts : sum_by (size_of from to) chosen ≤ sum_by before chosen + sum_by behind chosen
  parts = omega (
    arith,
    sum_by-mono (size_of from to) (λ q. before q + behind q) chosen
        (λ k d l. omega (arith, All-filter passes (λ q. to q ≤ last (job q)) xs ends k d l)),
    sum_by-add before behind chosen,
  )

  by_machines : sum_by before chosen ≤ m * t
  by_machines = subst (λ x. x ≤ m * t) (sym (sum_by-by_key_filter machine before m chosen (All-filter passes (λ q. machine q < m) xs machines)))
      (total_below-bound m t (λ μ. sum_by before (filter (λ q. eqb (machine q) μ) chosen)) (λ μ l. omega
      (arith, packing from to 0 t (filter (λ q. eqb (machine q) μ) chosen) (apart_on_each machine from to μ chosen (AllPairs-filter (IsApartOn machine from to) passes xs on_machines)))))

  one_job : (j : ℕ) → sum_by behind (filter (λ q. eqb (job q) j) xs) ≤ last j - t
  one_job j =
      let mine = filter (λ q. eqb (job q) j) xs in
      subst (λ x. x ≤ last j - t) (sym (sum_by-same behind (overlap_of from to t (last j)) mine
      (λ k d l. ap (λ i. overlap (from (get_or mine k d)) (to (get_or mine k d)) t (last i)) (eqb-true _ _ (filter_passes (λ q. eqb (job q) j) xs k d l)))))
      (packing from to t (last j) mine (apart_on_each job from to j xs on_jobs))

  by_jobs : sum_by behind chosen ≤ total_below n (λ j. cond (test j) (last j - t) 0)
  by_jobs = subst (λ x. x ≤ total_below n (λ j. cond (test j) (last j - t) 0)) (sym (sum_by-filter behind passes xs ∙ sum_by-by_key_test job behind test n xs jobs))
      (total_below-mono n _ (λ j. cond (test j) (last j - t) 0) (λ j l. cond-mono (test j) (one_job j)))

  pub room_around : total_below n (λ j. cond (test j) (work_of job from to xs j) 0) ≤ m * t + total_below n (λ j. cond (test j) (last j - t) 0)
  room_around = omega (arith, work_by_job job from to test n xs jobs, parts, by_machines, by_jobs)

-- ---- pieces of a schedule, where each job has at least the work that `time` says
module _ (i : Instance) (s : Schedule) (test : ℕ → Bool) (t : ℕ) (f : Feasible i s) (machines : All (λ p. p.machine < i.machines) s.pieces)
    (time : ℕ → ℕ) (worked : (j : ℕ) → j < length i.jobs → nat_abs s.unit * time j ≤ work_of job_of start finish s.pieces j) where
  abbrev unit : ℕ
  unit = nat_abs s.unit

  abbrev ended : ℕ → ℕ
  ended j = last_of job_of finish s.pieces j

  abbrev n : ℕ
  n = length i.jobs

  in_pieces : unit * total_below n (λ j. cond (test j) (time j) 0) ≤ i.machines * t + total_below n (λ j. cond (test j) (ended j - t) 0)
  in_pieces = omega (
    arith,
    total_below-scale n unit (λ j. cond (test j) (time j) 0),
    total_below-mono n (λ j. unit * cond (test j) (time j) 0) (λ j. cond (test j) (work_of job_of start finish s.pieces j) 0)
        (λ j l. subst (λ x. x ≤ cond (test j) (work_of job_of start finish s.pieces j) 0) (cond-scale (test j) unit (time j)) (cond-mono (test j) (worked j l))),
    room_around job_of (λ p. p.machine) start finish test ended i.machines n t s.pieces (λ k d l. (f.place k d l).job)
        machines (machines_apart i s f) (jobs_apart i s f) (last_of-bound job_of finish s.pieces),
  )

  behind_is : sum_by (λ j. cond (test j) (nat_abs (end_of s j) - t) 0) (range_with_len 0 n) ≡ total_below n (λ j. cond (test j) (ended j - t) 0)
  behind_is = total_below-range n _ ∙ total_below-same n _ _ (λ j l. ap (λ x. cond (test j) (nat_abs x - t) 0) (last_end-is s.pieces j (pieces_timed i s f)))

  in_schedule : HasRoomAround i s test t (sum_by (λ j. cond (test j) (time j) 0) (range_with_len 0 n))
  in_schedule = subst₂ (λ x y. x ≤ℤ pos (i.machines * t + y))
      (sym (ap₂ (λ u k. u *ℤ pos k) (unit_in_parts i s f) (total_below-range n (λ j. cond (test j) (time j) 0)))) (sym behind_is) (pos-le in_pieces)

pub law_of_last_ends : LawOfLastEnds
law_of_last_ends = record {
  machines = λ i s test t kind f. in_schedule i s test t f (machines_below i kind s f) (time_at i) (λ j l. omega (arith, full_work i kind s f j l));
  shops = λ i s test t shop on f. in_schedule i s test t f (shop_machines_below i s shop f on) (job_length i) (job_is_worked i s shop f);
}
