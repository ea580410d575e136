-- Certificates on one machine: some jobs that cannot all be done earlier, each of which costs at least so much at the end of all, show
-- that no feasible schedule costs less. So a schedule is best where each of its jobs has such a certificate. And the law of blocks.
use Rattle.std.proofs.Common.{◌≡◌, ◌≢◌, ℕ, zero, suc, ◌+◌, ◌*◌, ◌<◌, ◌≤◌, Bool, true, false, cond, eqb, ◌⊎◌, inl, inr, List, [], ◌∷◌, length, get_or, count_by, sum_by, All}
use Rattle.std.proofs.Common.{AllPairs, Contains, ℤ, pos, nat_abs, ◌*ℤ◌, ◌≤ℤ◌, refl, sym, ap, ap₂, subst, subst₂, ◌∙◌, arith}
use Rattle.std.specs.Prelude.{slice_get, slice_index_or, Some}
use Rattle.std.specs.List.{list_any}
use Rattle.std.proofs.Math.Nat.{mul-pos}
use native.Mathlib.Nat.{mul-le-mul_left}
use Rattle.std.proofs.lemmas.Bool.{cases_Bool, eqb-true, eq-eqb, ne_eqb, false≢true}
use Rattle.std.proofs.lemmas.Int.{ints}
use Rattle.std.proofs.lemmas.List.Elements.{All-contains, Contains-get_or}
use Rattle.std.proofs.lemmas.Option.{get_or_from_slice_get, slice_get_within}
use Rattle.msp_class.specs.Crit.{is_greatest}
use Rattle.msp_class.proofs.IntegerRing.{≤ℤ_trans, ≤ℤ_of_same, pos-le, le-pos, *ℤ-one, *ℤ_comm, *ℤ-mono}
use Rattle.msp_class.specs.Sums.{total_below}
use Rattle.msp_class.proofs.Sums.{sum_by-contains, sum_by_counts, count_by-distinct, total_below-same, total_below-scale, total_below-only, cond-scale, AllPairs-head}
use Rattle.msp_class.proofs.Sums.{AllPairs-tail, OnceBelow-distinct}
use Rattle.msp_instance.specs.declared.Arc.{Arc}
use Rattle.msp_instance.specs.declared.Instance.{Instance}
use Rattle.msp_instance.specs.Instance.{job_at}
use Rattle.msp_instance.specs.Conditions.{IsAcyclic, GoesForward}
use Rattle.msp_instance.specs.Paths.{HasPath, one, more}
use Rattle.msp_instance.proofs.ListingLemmas.{list_any-from_Contains, Contains-from_list_any, Contains-from_count, count-from_contains}
use Rattle.msp_instance.proofs.CycleLemmas.{OnceBelow-from_sequence}
use Rattle.msp_pieces.specs.declared.Piece.{Piece}
use Rattle.msp_pieces.specs.declared.Schedule.{Schedule}
use Rattle.msp_pieces.specs.Piece.{IsBefore, job_of, start, finish, IsTimed}
use Rattle.msp_pieces.specs.Feasible.{Feasible}
use Rattle.msp_pieces.specs.Cost.{job_cost, end_of, cost_of, Best}
use Rattle.msp_pieces.specs.Intervals.{work_of}
use Rattle.msp_pieces.proofs.lists.Intervals.{last_of, last_of-bound, last_of-reached, piece_of, last_job}
use Rattle.msp_pieces.proofs.feasible.OneMachine.{IsOneMachine, IsOneMachine-from_env, IsPlan, IsPlan-from_feasible, last_end-is}
pub use Rattle.msp_pieces.proofs.feasible.OneMachine.{takes_time}
use Rattle.msp_pieces.specs.BackToBack.{time_at}
use Rattle.msp_pieces.proofs.costs.Charges.{job_cost-mono, job_cost-scale, charge_of, cost_of-bound, cost_of-reached}
use Rattle.msp_pieces.specs.Blocks.{total_time, cost_at, HasNoSuccessor, LeadsToNone, IsSound, LawOfBlocks, IsCertified}

-- ---- ranks that rise along the arcs
abbrev pub Rises : Instance → (ℕ → ℕ) → Type 0
Rises i rank = All (λ a. rank a.before < rank a.after) i.arcs

-- the first place of a number in a list
pub place_in : List ℕ → ℕ → ℕ
place_in [] j = 0
place_in (x ∷ xs) j = cond (eqb x j) 0 (suc (place_in xs j))

pub place_in-is : (xs : List ℕ) (p : ℕ) → AllPairs (λ x y. x ≢ y) xs → p < length xs → place_in xs (get_or xs p 0) ≡ p
unfolding place_in
place_in-is [] p u l = absurd (omega (arith, l))
place_in-is (x ∷ xs) zero u l = ap (λ b. cond b 0 (suc (place_in xs x))) (eq-eqb x x refl)
place_in-is (x ∷ xs) (suc p) u l =
    ap (λ b. cond b 0 (suc (place_in xs (get_or xs p 0)))) (ne_eqb x (get_or xs p 0) (AllPairs-head (λ x y. x ≢ y) x xs u p 0 (omega (arith, l))))
    ∙ ap suc (place_in-is xs p (AllPairs-tail (λ x y. x ≢ y) x xs u) (omega (arith, l)))

pub ranked : (i : Instance) → IsAcyclic i → (rank : ℕ → ℕ) × Rises i rank
ranked i (order, sequence, forward) = (place_in order, λ k d l. rise (get_or i.arcs k d) (forward k d l))
  where
    distinct : AllPairs (λ x y. x ≢ y) order
    distinct = OnceBelow-distinct (OnceBelow-from_sequence i order sequence)

    at : (j p : ℕ) → slice_get order p ≡ Some j → place_in order j ≡ p
    at j p h = ap (place_in order) (sym (get_or_from_slice_get order p j 0 h)) ∙ place_in-is order p distinct (slice_get_within order p j h)

    rise : (a : Arc) → GoesForward order a → place_in order a.before < place_in order a.after
    rise a (p, q, less, hp, hq) = omega (arith, at a.before p hp, at a.after q hq, less)

-- ---- a list without repeats sums to the total of its members
pub list_total : (f : ℕ → ℕ) (n : ℕ) (xs : List ℕ) → All (λ x. x < n) xs → AllPairs (λ x y. x ≢ y) xs → total_below n (λ k. cond (list_any (λ x. eqb x k) xs) (f k) 0) ≡ sum_by f xs
list_total f n xs h u = sym (sum_by_counts f n xs h ∙ total_below-same n _ _ (λ k l. one k (cases_Bool (list_any (λ x. eqb x k) xs))))
  where
    one : (k : ℕ) → (list_any (λ x. eqb x k) xs ≡ true) ⊎ (list_any (λ x. eqb x k) xs ≡ false) → f k * count_by (λ x. eqb x k) xs ≡ cond (list_any (λ x. eqb x k) xs) (f k) 0
    one k (inl e) =
        let is : count_by (λ x. eqb x k) xs ≡ 1 = omega (arith, count_by-distinct xs k u, count-from_contains xs k (Contains-from_list_any xs k e)) in
        ap (λ c. f k * c) is ∙ omega arith ∙ sym (ap (λ b. cond b (f k) 0) e)
    one k (inr e) =
        ap (λ c. f k * c) (none (count_by (λ x. eqb x k) xs) refl) ∙ omega arith ∙ sym (ap (λ b. cond b (f k) 0) e)
      where
        none : (c : ℕ) → count_by (λ x. eqb x k) xs ≡ c → c ≡ 0
        none zero q = refl
        none (suc c) q = absurd (false≢true (sym e ∙ list_any-from_Contains xs k (Contains-from_count xs k (omega (arith, q)))))

-- ---- a feasible schedule
module _ (i : Instance) (m : IsOneMachine i) (takes : (j : ℕ) → j < length i.jobs → 0 < time_at i j)
    (ends : All (λ a. (a.before < length i.jobs) × (a.after < length i.jobs)) i.arcs) (t : Schedule) (f : Feasible i t) where
  abbrev unit : ℕ
  unit = nat_abs t.unit

  abbrev last : ℕ → ℕ
  last = last_of job_of finish t.pieces

  plan : IsPlan i t
  plan = IsPlan-from_feasible i m t f

  works : (j : ℕ) → j < length i.jobs → 0 < work_of job_of start finish t.pieces j
  works j l = subst (λ w. 0 < w) (sym (plan.work j l)) (mul-pos plan.some (takes j l))

  timed : (p : Piece) → Contains t.pieces p → IsTimed p
  timed p c = All-contains IsTimed t.pieces p plan.timed c

  arc_before : (a : Arc) → Contains i.arcs a → (p q : Piece) → Contains t.pieces p → Contains t.pieces q → p.job ≡ a.before → q.job ≡ a.after → finish p ≤ start q
  arc_before a c p q cp cq ep eq =
      let all_p = All-contains (λ a. All (λ p. All (λ q. p.job ≡ a.before → q.job ≡ a.after → IsBefore p q) t.pieces) t.pieces) i.arcs a f.arc c in
      let all_q = All-contains (λ p. All (λ q. p.job ≡ a.before → q.job ≡ a.after → IsBefore p q) t.pieces) t.pieces p all_p cp in
      let h = All-contains (λ q. p.job ≡ a.before → q.job ≡ a.after → IsBefore p q) t.pieces q all_q cq ep eq in
      omega (arith, ints, h, (timed p cp).to, (timed q cq).from)

  -- no piece of an arc's job after begins before the job before is complete
  after_last : (a : Arc) → Contains i.arcs a → (q : Piece) → Contains t.pieces q → q.job ≡ a.after → last a.before ≤ start q
  after_last a c q cq e =
      let (p, cp, ep, is) = last_of-reached job_of start finish t.pieces a.before (works a.before (All-contains (λ a. (a.before < length i.jobs) × (a.after < length i.jobs)) i.arcs a ends c).0) in
      omega (arith, is, arc_before a c p q cp cq ep e)

  -- so it is complete later
  arc_rises : (a : Arc) → Contains i.arcs a → last a.before < last a.after
  arc_rises a c =
      let within = (All-contains (λ a. (a.before < length i.jobs) × (a.after < length i.jobs)) i.arcs a ends c).1 in
      let (r, cr, er, lasts) = piece_of job_of start finish t.pieces a.after (works a.after within) in
      let bound = All-contains (λ q. finish q ≤ last (job_of q)) t.pieces r (last_of-bound job_of finish t.pieces) cr in
      omega (arith, after_last a c r cr er, lasts, bound, ap last er)

  path_rises : {j k : ℕ} → HasPath i.arcs j k → last j < last k
  path_rises {j} {k} (one c) = arc_rises (record { before = j; after = k }) c
  path_rises {j} (more {k = l} c p) = omega (arith, arc_rises (record { before = j; after = l }) c, path_rises p)

  -- no piece of a job that begins at a moment at the earliest ends before the job's time has passed
  whole_job : (k head : ℕ) → k < length i.jobs → ((q : Piece) → Contains t.pieces q → q.job ≡ k → unit * head ≤ start q) → unit * (head + time_at i k) ≤ last k
  whole_job k head l begin =
      let only = total_below-only (length i.jobs) (work_of job_of start finish t.pieces) k l in
      let (x, lx, ex, g, b) = last_job job_of start finish (λ j. eqb k j) last (length i.jobs) (unit * head) t.pieces plan.jobs plan.apart
      (λ n d r e. begin _ (Contains-get_or t.pieces n d r) (sym (eqb-true k _ e))) (last_of-bound job_of finish t.pieces) (omega (arith, only, works k l)) in
      omega (arith, only, plan.work k l, b, ap last (eqb-true k x ex))

  -- no piece of a job begins before its head
  heads_hold : (heads : ℕ → ℕ) → IsSound i heads → (bound j : ℕ) → j < length i.jobs → last j < bound → (q : Piece) → Contains t.pieces q → q.job ≡ j → unit * heads j ≤ start q
  heads_hold heads sound zero j l r q c e = absurd (omega (arith, r))
  heads_hold heads sound (suc bound) j l r q c e = elim (sound j l) [
    | inl h ↦ released h
    | inr s ↦
        let (a, ca, is, h) = s in
        let before = (All-contains (λ a. (a.before < length i.jobs) × (a.after < length i.jobs)) i.arcs a ends ca).0 in
        let lower : last a.before < bound = omega (arith, arc_rises a ca, ap last is, r) in
        let done = whole_job a.before (heads a.before) before (heads_hold heads sound bound a.before before lower) in
        omega (arith, mul-le-mul_left unit h, done, after_last a ca q c (e ∙ sym is))
  ]
    where
      released : heads j ≤ (job_at i j).release → unit * heads j ≤ start q
      released h =
          let r = All-contains (λ p. (t.unit *ℤ pos (job_at i p.job).release) ≤ℤ p.from) t.pieces q f.release c in
          let in_parts : pos (unit * (job_at i j).release) ≤ℤ pos (start q) = subst₂ (λ x y. x ≤ℤ y) (ap₂ (λ u k. u *ℤ pos (job_at i k).release) plan.unit e) (timed q c).from r in
          omega (arith, le-pos in_parts, mul-le-mul_left unit h)

  pub after_heads : (heads : ℕ → ℕ) → IsSound i heads → (q : Piece) → Contains t.pieces q → unit * heads q.job ≤ start q
  after_heads heads sound q c = heads_hold heads sound (suc (last q.job)) q.job (All-contains (λ p. p.job < length i.jobs) t.pieces q plan.jobs c) (omega arith) q c refl

  -- some jobs, none of which can begin before a moment: what each of them costs at least that leads to none of them is owed
  module _ (greatest : is_greatest i.class.crit ≡ true) (heads : ℕ → ℕ)
      (sound : IsSound i heads) (jobs : List ℕ) (from moment : ℕ) (value : ℤ) (some : 0 < length jobs) (inside : All (λ k. k < length i.jobs) jobs)
      (apart : AllPairs (λ k l. k ≢ l) jobs) (begin : All (λ k. from ≤ heads k) jobs)
      (whole : moment ≡ from + total_time i jobs) (least : All (λ k. LeadsToNone i jobs k → value ≤ℤ cost_at i k moment) jobs) where
    abbrev among : ℕ → Bool
    among k = list_any (λ x. eqb x k) jobs

    abbrev work : ℕ
    work = total_below (length i.jobs) (λ k. cond (among k) (work_of job_of start finish t.pieces k) 0)

    work_is : work ≡ unit * total_time i jobs
    work_is =
        let n = length i.jobs in
        total_below-same n _ (λ k. unit * cond (among k) (time_at i k) 0) (λ k l. ap (λ w. cond (among k) w 0) (plan.work k l) ∙ cond-scale (among k) unit (time_at i k))
        ∙ total_below-scale n unit (λ k. cond (among k) (time_at i k) 0)
        ∙ ap (λ w. unit * w) (list_total (time_at i) n jobs inside apart)

    some_work : 0 < work
    some_work =
        let first = get_or jobs 0 0 in
        let term = sum_by-contains (time_at i) jobs first (Contains-get_or jobs 0 0 some) in
        subst (λ w. 0 < w) (sym work_is) (mul-pos plan.some (omega (arith, takes first (inside 0 0 some), term)))

    begins : All (λ q. among (job_of q) ≡ true → unit * from ≤ start q) t.pieces
    begins n d l e =
        let q = get_or t.pieces n d in
        let c = Contains-from_list_any jobs q.job e in
        let after = All-contains (λ k. from ≤ heads k) jobs q.job begin c in
        omega (arith, mul-le-mul_left unit after, after_heads heads sound q (Contains-get_or t.pieces n d l))

    -- of the jobs the last one to end, in parts of the unit
    latest : (k : ℕ) × (k < length i.jobs) × (among k ≡ true) × ((l : ℕ) → l < length i.jobs → among l ≡ true → last l ≤ last k) × (unit * from + work ≤ last k)
    latest = last_job job_of start finish among last (length i.jobs) (unit * from) t.pieces plan.jobs plan.apart begins (last_of-bound job_of finish t.pieces) some_work

    leads_to_none : LeadsToNone i jobs latest.0
    leads_to_none n d l p =
        let k = get_or jobs n d in
        let rise = path_rises p in
        let all = latest.3 k (inside n d l) (list_any-from_Contains jobs k (Contains-get_or jobs n d l)) in
        omega (arith, rise, all)

    -- the moment has passed when it ends
    moment_passed : unit * moment ≤ last latest.0
    moment_passed = omega (arith, ap (λ x. unit * x) whole, work_is, latest.4)

    pub block_is_bound : (pos unit *ℤ value) ≤ℤ cost_of i t
    block_is_bound =
        let k = latest.0 in
        let crit = i.class.crit in
        let there = Contains-from_list_any jobs k latest.2 in
        let owed = All-contains (λ k. LeadsToNone i jobs k → value ≤ℤ cost_at i k moment) jobs k least there leads_to_none in
        let scaled : pos unit *ℤ cost_at i k moment ≡ job_cost crit (pos unit) (job_at i k) (pos (unit * moment)) =
        sym (ap (λ u. job_cost crit u (job_at i k) (pos (unit * moment))) (sym (*ℤ-one (pos unit))) ∙ job_cost-scale unit plan.some (pos 1) crit (job_at i k) (pos moment)) in
        let later : job_cost crit (pos unit) (job_at i k) (pos (unit * moment)) ≤ℤ job_cost crit (pos unit) (job_at i k) (pos (last k)) =
        job_cost-mono crit (pos unit) (job_at i k) (pos (unit * moment)) (pos (last k)) (omega (arith, ints)) (pos-le moment_passed) in
        let charge : job_cost crit (pos unit) (job_at i k) (pos (last k)) ≡ charge_of i t k = ap₂ (λ u x. job_cost crit u (job_at i k) x) (sym plan.unit) (sym (last_end-is t.pieces k plan.timed)) in
        ≤ℤ_trans (*ℤ-mono unit owed) (≤ℤ_trans (≤ℤ_of_same scaled) (≤ℤ_trans later (≤ℤ_trans (≤ℤ_of_same charge) (cost_of-bound i t greatest k latest.1))))

  -- what is certified is owed
  pub certified_is_bound : is_greatest i.class.crit ≡ true → (heads : ℕ → ℕ) → IsSound i heads → (j moment : ℕ) → IsCertified i heads j moment → (pos unit *ℤ cost_at i j moment) ≤ℤ cost_of i t
  certified_is_bound greatest heads sound j moment c =
      block_is_bound greatest heads sound c.jobs c.from moment (cost_at i j moment) c.some c.inside c.apart c.begin c.whole (λ n d l none. c.least n d l (no_arc (get_or c.jobs n d) none))
    where
      no_arc : (k : ℕ) → LeadsToNone i c.jobs k → HasNoSuccessor i c.jobs k
      no_arc k none n d l e there = All-contains (λ x. ¬ HasPath i.arcs k x)
          c.jobs (get_or i.arcs n d).after none there (one (subst (Contains i.arcs) (ap (λ b. record { before = b; after = (get_or i.arcs n d).after }) e) (Contains-get_or i.arcs n d l)))

-- ---- a feasible schedule is best whose jobs end by moments at which they are certified
pub best_by_certificates : (i : Instance) → IsOneMachine i → ((j : ℕ) → j < length i.jobs → 0 < time_at i j)
    → All (λ a. (a.before < length i.jobs) × (a.after < length i.jobs)) i.arcs → 0 < length i.jobs → is_greatest i.class.crit ≡ true
    → (heads : ℕ → ℕ) → IsSound i heads → (s : Schedule) → s.unit ≡ pos 1 → Feasible i s
    → ((k : ℕ) → k < length i.jobs → (moment : ℕ) × (end_of s k ≤ℤ pos moment) × IsCertified i heads k moment) → Best i s
best_by_certificates i m takes ends some greatest heads sound s single feasible each = record { feasible = feasible; least = least }
  where
    least : (t : Schedule) → Feasible i t → (cost_of i s *ℤ t.unit) ≤ℤ (cost_of i t *ℤ s.unit)
    least t f =
        let (k, l, reached) = cost_of-reached i s greatest some in
        let (moment, early, certified) = each k l in
        let unit_is : t.unit ≡ pos (nat_abs t.unit) = (IsPlan-from_feasible i m t f).unit in
        let here : charge_of i s k ≤ℤ cost_at i k moment = subst (λ u. job_cost i.class.crit u (job_at i k) (end_of s k) ≤ℤ cost_at i k moment)
        (sym single) (job_cost-mono i.class.crit (pos 1) (job_at i k) (end_of s k) (pos moment) (omega (arith, ints)) early) in
        let bound = certified_is_bound i m takes ends t f greatest heads sound k moment certified in
        let left : cost_of i s *ℤ t.unit ≡ pos (nat_abs t.unit) *ℤ charge_of i s k = ap₂ (λ x u. x *ℤ u) (sym reached) unit_is ∙ *ℤ_comm (charge_of i s k) (pos (nat_abs t.unit)) in
        let right : cost_of i t ≡ cost_of i t *ℤ s.unit = sym (ap (λ u. cost_of i t *ℤ u) single ∙ *ℤ-one (cost_of i t)) in
        ≤ℤ_trans (≤ℤ_of_same left) (≤ℤ_trans (*ℤ-mono (nat_abs t.unit) here) (≤ℤ_trans bound (≤ℤ_of_same right)))

-- ---- the law of blocks
pub law_of_blocks : LawOfBlocks
law_of_blocks l i s heads jobs value env greatest h f b v =
    let m = IsOneMachine-from_env l i env h in
    let plan = IsPlan-from_feasible i m s f in
    subst (λ u. (u *ℤ value) ≤ℤ cost_of i s) (sym plan.unit)
    (block_is_bound i m (takes_time l i m.kind h) h.ends s f greatest
    (λ j. slice_index_or heads j 0) b.sound jobs v.begin (v.begin + total_time i jobs) value b.some b.inside b.apart v.after refl v.least)
