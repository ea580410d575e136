-- The work of a feasible schedule on two machines in series, cut or not, as two stages of work on the jobs that begin on one machine.
use Rattle.std.proofs.Common.{◌≡◌, ◌≢◌, ℕ, ◌+◌, ◌*◌, ◌-◌, ◌<◌, ◌≤◌, Bool, true, false, cond, eqb, leb, List, length, get_or, map, All, sum_by, nat_abs, refl, ap, ◌∙◌, le_trans, arith}
use Rattle.std.specs.Prelude.{◌&&◌}
use Rattle.std.proofs.lemmas.Bool.{eqb-true, eq-eqb, leb-true}
use Rattle.std.proofs.lemmas.List.Elements.{All-map}
use Rattle.std.proofs.lemmas.Bool.Decides.{nat_tests}
use Rattle.msp_class.specs.Sums.{total_below}
use Rattle.msp_class.proofs.Sums.{cond-le, sum_by-map, sum_by-mono, sum_by-scale, sum_by-distinct_test, total_below-add, total_below-mono, total_below-same}
use Rattle.msp_instance.specs.declared.Instance.{Instance}
use Rattle.msp_instance.specs.Instance.{need_at}
use Rattle.msp_pieces.specs.declared.Piece.{Piece}
use Rattle.msp_pieces.specs.declared.Schedule.{Schedule}
use Rattle.msp_pieces.specs.Feasible.{Feasible}
use Rattle.msp_pieces.specs.Intervals.{work_of}
use Rattle.msp_pieces.specs.Piece.{job_of, start, finish}
use Rattle.msp_pieces.proofs.lists.Intervals.{earlier_ends, last_of, last_of-bound, last_of-least, room_on_one}
use Rattle.msp_pieces.proofs.changes.Moves.{AllPairs-map}
use Rattle.msp_pieces.proofs.feasible.OneMachine.{both_true}
use Rattle.msp_shops.specs.declared.pass.JobTimes.{JobTimes}
use Rattle.msp_shops.specs.Groups.{begins_on, IsTwoMachineShop, IsGroup}
use Rattle.msp_shops.proofs.Cut.{HaveTwoStages}
use Rattle.msp_shops.proofs.ShopPieces.{operation_there, on, among, jobs_on, apart_on, follows_route, work_on_machine}

module _ (i : Instance) (shop : IsTwoMachineShop i) (s : Schedule) (f : Feasible i s) (end : ℕ) (ends : All (λ p. finish p ≤ end) s.pieces) where
  abbrev unit : ℕ
  unit = nat_abs s.unit

  abbrev jobs : ℕ
  jobs = length i.jobs

  abbrev pieces : ℕ → List Piece
  pieces m = on i shop s f m

  abbrev work : ℕ → ℕ → ℕ
  work m j = work_of job_of start finish (pieces m) j

  ends_on : (m : ℕ) → All (λ p. finish p ≤ end) (pieces m)
  ends_on m = among i shop s f m (λ p. finish p ≤ end) ends

  -- the moment by which all pieces of the job on the machine are over; 0 where it has none
  abbrev over_on : ℕ → ℕ → ℕ
  over_on m j = last_of job_of finish (pieces m) j

  abbrev pub ready : ℕ → JobTimes → ℕ
  ready m t = over_on m t.job

  -- ---- a group's sum is no more than one over all jobs that begin on its machine
  module _ (m : ℕ) (g : List JobTimes) (group : IsGroup i m g) where
    of_group : (v : JobTimes → ℕ) (w : ℕ → ℕ) → All (λ t. unit * v t ≤ w t.job) g → unit * sum_by v g ≤ total_below jobs (λ j. cond (begins_on i m j) (w j) 0)
    of_group v w h = omega (
      arith,
      sum_by-scale unit v g,
      sum_by-mono (λ t. unit * v t) (λ t. w t.job) g h,
      sum_by-map w (λ t. t.job) g,
      sum_by-distinct_test w (begins_on i m) jobs (map (λ t. t.job) g)
          (All-map (λ j. j < jobs) (λ t. t.job) g (λ k d l. (group.members k d l).1))
          (AllPairs-map (λ x y. x ≢ y) (λ t. t.job) g group.once)
          (All-map (λ j. begins_on i m j ≡ true) (λ t. t.job) g (λ k d l. eq-eqb _ _ (group.members k d l).2)),
    )

    first_work : All (λ t. unit * t.first ≤ work m t.job) g
    first_work k d l =
        let (is, inside, begins) = group.members k d l in
        omega (arith, ap (λ u. unit * u.first) is, work_on_machine i shop s f (get_or g k d).job 0 inside m (λ _. begins))

    second_work : All (λ t. unit * t.second ≤ work (1 - m) t.job) g
    second_work k d l =
        let (is, inside, begins) = group.members k d l in
        omega (arith, ap (λ u. unit * u.second) is, work_on_machine i shop s f (get_or g k d).job 1 inside (1 - m) (λ works. second (get_or g k d).job inside works ∙ ap (λ n. 1 - n) begins))
      where
        second : (j : ℕ) → j < jobs → (need_at i j 1).time ≢ 0 → (need_at i j 1).machine ≡ 1 - (need_at i j 0).machine
        second j inside works = let h = shop.needs j inside in h.second (omega (arith, operation_there i j 1 works, h.few))

  -- ---- the two stages of a group
  module _ (m : ℕ) (two : m < 2) (g : List JobTimes) (group : IsGroup i m g) where
    scaled : (b : Bool) (t w : ℕ) → unit * t ≤ w → unit * cond b t 0 ≤ cond b w 0
    scaled true t w h = h
    scaled false t w h = omega arith

    over : (z : ℕ) → unit * sum_by (λ t. cond (leb (ready m t) z) t.first 0) g ≤ z
    over z =
        let w : ℕ → ℕ = λ j. cond (leb (over_on m j) z) (work m j) 0 in
        omega (
          arith,
          of_group m g group (λ t. cond (leb (ready m t) z) t.first 0) w (λ k d l. scaled (leb (ready m (get_or g k d)) z) _ _ (first_work m g group k d l)),
          total_below-mono jobs (λ j. cond (begins_on i m j) (w j) 0) w (λ j l. cond-le (begins_on i m j) (w j)),
          earlier_ends job_of start finish (over_on m) jobs z (pieces m) (jobs_on i shop s f m) (apart_on i shop s f m) (last_of-bound job_of finish (pieces m)),
        )

    to_come : (z : ℕ) → unit * sum_by (λ t. cond (leb z (ready m t)) t.second 0) g ≤ end - z
    to_come z =
        let w : ℕ → ℕ = λ j. cond (leb z (over_on m j)) (work (1 - m) j) 0 in
        omega (
          arith,
          of_group m g group (λ t. cond (leb z (ready m t)) t.second 0) w (λ k d l. scaled (leb z (ready m (get_or g k d))) _ _ (second_work m g group k d l)),
          total_below-same jobs (λ j. cond (begins_on i m j) (w j) 0) (λ j. cond (waits j) (work (1 - m) j) 0) (λ j l. nested (begins_on i m j) (leb z (over_on m j)) (work (1 - m) j)),
          room_on_one job_of start finish waits jobs z end (pieces (1 - m)) (jobs_on i shop s f (1 - m)) (apart_on i shop s f (1 - m)) after,
        )
      where
        -- a job that begins on the machine and is not over there before the moment
        waits : ℕ → Bool
        waits j = begins_on i m j && leb z (over_on m j)

        nested : (a b : Bool) (n : ℕ) → cond a (cond b n 0) 0 ≡ cond (a && b) n 0
        nested true b n = refl
        nested false b n = refl

        after : All (λ q. waits q.job ≡ true → (z ≤ start q) × (finish q ≤ end)) (pieces (1 - m))
        after k d l e =
            let q = get_or (pieces (1 - m)) k d in
            let (begins, late) = both_true _ _ e in (
              le_trans (leb-true _ _ late) (last_of-least job_of finish (pieces m) q.job (start q) (follows_route i shop s f m two k d l (eqb-true _ _ begins))),
              ends_on (1 - m) k d l,
            )

    pub two_stages : HaveTwoStages (λ t. t.first) (λ t. t.second) (ready m) unit end g
    two_stages = record {
      inside = λ k d l. last_of-least job_of finish (pieces m) (get_or g k d).job end (λ a e h _. ends_on m a e h);
      over = λ z _. over z;
      to_come = λ z _. to_come z;
    }

  -- ---- the load of a machine: of the jobs that begin on it, and of those that begin on the other one
  pub load : (m : ℕ) → m < 2 → (g h : List JobTimes) → IsGroup i m g → IsGroup i (1 - m) h → unit * (sum_by (λ t. t.first) g + sum_by (λ t. t.second) h) ≤ end
  load m two g h a b = omega (
    arith,
    of_group m g a (λ t. t.first) (work m) (first_work m g a),
    of_group (1 - m) h b (λ t. t.second) (work m) (λ k d l. omega (arith, second_work (1 - m) h b k d l, ap (λ n. work n (get_or h k d).job) back)),
    total_below-add jobs (λ j. cond (begins_on i m j) (work m j) 0) (λ j. cond (begins_on i (1 - m) j) (work m j) 0),
    total_below-mono jobs (λ j. cond (begins_on i m j) (work m j) 0 + cond (begins_on i (1 - m) j) (work m j) 0) (work m) (λ j l. one_of (need_at i j 0).machine (work m j)),
    room_on_one job_of start finish (λ _. true) jobs 0 end (pieces m) (jobs_on i shop s f m) (apart_on i shop s f m) (λ k d l _. (omega arith, ends_on m k d l)),
  )
    where
      back : 1 - (1 - m) ≡ m
      back = omega (arith, two)

      one_of : (k n : ℕ) → cond (eqb k m) n 0 + cond (eqb k (1 - m)) n 0 ≤ n
      one_of k n = grind (arith, nat_tests)
