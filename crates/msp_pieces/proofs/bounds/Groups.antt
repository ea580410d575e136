-- The law of groups, and what it says of one job and of all jobs: a job runs on one machine at a time, so few jobs do not use more machines than they are.
use Rattle.std.proofs.Common.{◌≡◌, ℕ, ◌+◌, ◌*◌, ◌<◌, ◌≤◌, inl, inr, min, Bool, true, false, cond, eqb, length, filter, pos, nat_abs, ◌*ℤ◌, ◌-ℤ◌, ◌≤ℤ◌, All}
use Rattle.std.proofs.Common.{refl, sym, ap, subst, subst₂, ◌∙◌, arith}
use Rattle.std.proofs.Math.Nat.{mul-le-mul_left, min-eq_left, min-eq_right}
use Rattle.std.proofs.lemmas.Bool.{cases_lt}
use Rattle.msp_class.specs.declared.environments.EnvKind.TheVariants.{Identical}
use Rattle.msp_class.specs.Env.{kind_of}
use Rattle.msp_class.specs.Sums.{total_below}
use Rattle.msp_class.proofs.Sums.{cond-yes, total_below-mono, total_below-scale, total_below-scale_right, total_below-only, total_below-range}
use Rattle.msp_class.proofs.IntegerRing.{natural, pos-le, le-pos, zero-le-pos, ≤ℤ_refl}
use Rattle.msp_instance.specs.declared.Instance.{Instance}
use Rattle.msp_pieces.specs.declared.Schedule.{Schedule}
use Rattle.msp_pieces.specs.Feasible.{Feasible}
use Rattle.msp_pieces.specs.Cost.{end_of}
use Rattle.msp_pieces.specs.Laws.{time_together, HasRoom, EndsLast, jobs_together, HasTimeFor, LawOfGroups}
use Rattle.msp_pieces.proofs.lists.Intervals.{apart_on_each, packed, last_of, greatest_by-bound, greatest_below, greatest_below-bound, greatest_below-reached}
use Rattle.msp_pieces.specs.Piece.{job_of, start, finish, IsTimed}
use Rattle.msp_pieces.proofs.feasible.OneMachine.{unit_in_parts, jobs_apart, timed_pieces, full_work, last_end-is}
use Rattle.msp_pieces.specs.BackToBack.{time_at}
use Rattle.msp_pieces.proofs.bounds.EndsAndFloors.{law_of_ends}

-- where a job passes a test, one that does ends last
pub ends_last : (i : Instance) (s : Schedule) → All IsTimed s.pieces → (test : ℕ → Bool) (j : ℕ) → j < length i.jobs → test j ≡ true → (k : ℕ) × EndsLast i s test k
ends_last i s timed test j l p =
    let (k, m, e) = greatest_below-reached (length i.jobs) after (omega (arith, l)) in
    let (t, z) = passed (test k) (ended k) (greatest_below (length i.jobs) after) e (omega (arith, greatest_below-bound (length i.jobs) after j l, cond-yes (ended j + 1) p)) in (
      k,
      record {
        inside = m;
        passes = t;
        latest = λ x b q. subst₂ (λ y w. y ≤ℤ w) (sym (last_end-is s.pieces x timed))
            (sym (last_end-is s.pieces k timed)) (pos-le (omega (arith, z, greatest_below-bound (length i.jobs) after x b, cond-yes (ended x + 1) q)));
      },
    )
  where
    ended : ℕ → ℕ
    ended x = last_of job_of finish s.pieces x

    after : ℕ → ℕ
    after x = cond (test x) (ended x + 1) 0

    passed : (b : Bool) (z g : ℕ) → cond b (z + 1) 0 ≡ g → 1 ≤ g → (b ≡ true) × (z + 1 ≡ g)
    passed true z g e h = (refl, e)
    passed false z g e h = absurd (omega (arith, e, h))

module _ (i : Instance) (kind : kind_of i.class.env ≡ Identical) (s : Schedule) (f : Feasible i s) where
  abbrev unit : ℕ
  unit = nat_abs s.unit

  unit_is : s.unit ≡ pos unit
  unit_is = unit_in_parts i s f

  abbrev ended : ℕ → ℕ
  ended j = last_of job_of finish s.pieces j

  end_is : (j : ℕ) → end_of s j ≡ pos (ended j)
  end_is j = last_end-is s.pieces j (timed_pieces i kind s f)

  -- a job has had its time when it ends
  has_ended : (j : ℕ) → j < length i.jobs → unit * time_at i j ≤ ended j
  has_ended j l =
      let mine = filter (λ p. eqb p.job j) s.pieces in
      omega (
        arith,
        full_work i kind s f j l,
        packed start finish 0 (ended j) mine (apart_on_each job_of start finish j s.pieces (jobs_apart i s f)) (λ k d m. (omega arith, greatest_by-bound finish mine k d m)),
      )

  module _ (test : ℕ → Bool) (c : ℕ) (ends : (j : ℕ) → j < length i.jobs → test j ≡ true → end_of s j ≤ℤ pos c) where
    abbrev n : ℕ
    n = length i.jobs

    abbrev time : ℕ → ℕ
    time j = cond (test j) (time_at i j) 0

    one_by_one : (j : ℕ) → j < n → unit * time j ≤ cond (test j) 1 0 * c
    one_by_one j l = by (test j) (λ e. omega (arith, has_ended j l, le-pos (subst (λ x. x ≤ℤ pos c) (end_is j) (ends j l e))))
      where
        by : (b : Bool) → (b ≡ true → unit * time_at i j ≤ c) → unit * cond b (time_at i j) 0 ≤ cond b 1 0 * c
        by true h = omega (arith, h refl)
        by false h = omega arith

    by_jobs : unit * time_together i test ≤ jobs_together i test * c
    by_jobs = omega (
      arith,
      ap (λ x. unit * x) (total_below-range n time),
      total_below-scale n unit time,
      total_below-mono n (λ j. unit * time j) (λ j. cond (test j) 1 0 * c) one_by_one,
      total_below-scale_right n c (λ j. cond (test j) 1 0),
      ap (λ x. x * c) (total_below-range n (λ j. cond (test j) 1 0)),
    )

    by_machines : unit * time_together i test ≤ i.machines * c
    by_machines =
        let whole : unit * time_together i test ≤ i.machines * (c + 0) = le-pos (subst (λ x. (x *ℤ pos (time_together i test)) ≤ℤ (pos i.machines *ℤ (pos c -ℤ pos 0))) unit_is has) in
        omega (arith, whole)
      where
        has : HasRoom i s test (pos 0) (pos c)
        has = law_of_ends.room i s test (pos 0) (pos c) kind f (≤ℤ_refl (pos 0)) (zero-le-pos c) (λ k d l e. (f.span k d l).0) ends

    pub group_is_over : unit * time_together i test ≤ min (jobs_together i test) i.machines * c
    group_is_over = elim (cases_lt (jobs_together i test) i.machines) [
      | inl less ↦ subst (λ k. unit * time_together i test ≤ k * c) (sym (min-eq_left (omega (arith, less)))) by_jobs
      | inr past ↦ subst (λ k. unit * time_together i test ≤ k * c) (sym (min-eq_right past)) by_machines
    ]

  has_time : (test : ℕ → Bool) (c : ℕ) → ((j : ℕ) → j < length i.jobs → test j ≡ true → end_of s j ≤ℤ pos c) → HasTimeFor i s test (pos c)
  has_time test c ends = subst (λ x. (x *ℤ pos (time_together i test)) ≤ℤ (pos (min (jobs_together i test) i.machines) *ℤ pos c)) (sym unit_is) (pos-le (group_is_over test c ends))

  has_last : (test : ℕ → Bool) (j : ℕ) → j < length i.jobs → test j ≡ true → (k : ℕ) × EndsLast i s test k × HasTimeFor i s test (end_of s k)
  has_last test j l p =
      let (k, last) = ends_last i s (timed_pieces i kind s f) test j l p in
      (k, last, subst (HasTimeFor i s test) (sym (end_is k)) (has_time test (ended k) (λ x b q. subst (λ y. end_of s x ≤ℤ y) (end_is k) (last.latest x b q))))

  -- ---- one job, and all jobs
  module _ (c : ℕ) (ends : (j : ℕ) → j < length i.jobs → end_of s j ≤ℤ pos c) where
    pub job_is_over : (j : ℕ) → j < length i.jobs → unit * time_at i j ≤ c
    job_is_over j l = by _ _ i.machines (total_below-range n _ ∙ total_below-only n (time_at i) j l)
        (total_below-range n _ ∙ total_below-only n (λ _. 1) j l) (group_is_over (λ k. eqb j k) c (λ k m _. ends k m))
      where
        n : ℕ
        n = length i.jobs

        by : (t k m : ℕ) → t ≡ time_at i j → k ≡ 1 → unit * t ≤ min k m * c → unit * time_at i j ≤ c
        by t k m e g h = omega (arith, subst (λ x. unit * x ≤ min k m * c) e h, ap (λ x. min x m * c) g, mul-le-mul_left c (let most : min 1 m ≤ 1 = omega arith in most))

    pub jobs_are_over : unit * total_below (length i.jobs) (time_at i) ≤ i.machines * c
    jobs_are_over = by _ _ (total_below-range (length i.jobs) (time_at i)) (group_is_over (λ _. true) c (λ k m _. ends k m))
      where
        by : (t k : ℕ) → t ≡ total_below (length i.jobs) (time_at i) → unit * t ≤ min k i.machines * c → unit * total_below (length i.jobs) (time_at i) ≤ i.machines * c
        by t k e h = let most : min k i.machines ≤ i.machines = omega arith in omega (arith, subst (λ x. unit * x ≤ min k i.machines * c) e h, mul-le-mul_left c most)

pub law_of_groups : LawOfGroups
law_of_groups = record {
  room = λ i s test end kind f b ends. subst (HasTimeFor i s test) (sym (natural end b)) (has_time i kind s f test (nat_abs end) (λ j l e. subst (λ x. end_of s j ≤ℤ x) (natural end b) (ends j l e)));
  last = λ i s test kind f j l e. has_last i kind s f test j l e;
}
