-- Jobs of one time that run by rising head: when they end, and that so many jobs end no earlier in any feasible schedule. So their
-- schedule is feasible, its ends come first, and it is best.
use Rattle.std.proofs.Common.{◌≡◌, ℕ, zero, suc, ◌+◌, ◌*◌, ◌-◌, ◌<◌, ◌≤◌, inl, inr, max, Bool, true, false, not, cond, leb, List, length, get_or, map}
use Rattle.std.proofs.Common.{ℤ, All, sym, ap, subst, ◌∙◌, arith, le_trans, pos, nat_abs, ◌*ℤ◌, ◌≤ℤ◌, ◌<ℤ◌, refl, subst₂}
use Rattle.std.specs.Prelude.{◌&&◌, nat_abs}
use Rattle.std.proofs.lemmas.Bool.{cases_lt, le-leb, leb-true, and_parts}
use Rattle.std.proofs.Math.Nat.{mul-pos}
use Rattle.std.proofs.lemmas.List.{length-map, get_or-map, get_or_default}
use Rattle.std.proofs.lemmas.List.Elements.{Contains-get_or}
use native.Mathlib.Nat.{mul-le-mul_left}
use Rattle.msp_class.specs.Sums.{total_below}
use Rattle.msp_class.proofs.Sums.{OnceBelow, OnceBelow-from_permutation, OnceBelow-distinct, length-OnceBelow, sum_by-OnceBelow, cond-le, cond-yes}
use Rattle.msp_class.proofs.Sums.{cond-count, total_below-mono, total_below-same, total_below-add, total_below-scale, total_below-bound}
use Rattle.msp_instance.specs.declared.Instance.{Instance}
use Rattle.msp_instance.specs.Instance.{common_time, job_at}
use Rattle.msp_pieces.specs.declared.Piece.{Piece}
use Rattle.msp_pieces.specs.declared.Schedule.{Schedule}
use Rattle.msp_pieces.specs.Feasible.{Feasible, IsWholeWork}
use Rattle.msp_pieces.specs.Piece.{job_of, start, finish, no_piece, IsBefore, IsTimed}
use Rattle.msp_pieces.specs.BackToBack.{piece, time_at}
use Rattle.msp_pieces.proofs.feasible.OneMachine.{IsPlan, IsPlan-from_feasible, last_end-is}
use Rattle.msp_pieces.proofs.bounds.Certified.{after_heads}
use Rattle.msp_pieces.proofs.lists.Intervals.{last_of, last_of-bound, last_of-least, room_on_one}
use Rattle.msp_pieces.proofs.lists.Places.{sum_by-places}
use Rattle.msp_route.specs.Heads.{head_in, AreHeads}
use Rattle.msp_route.proofs.OneInstances.{takes_time, is_short}
use Rattle.msp_srpt.specs.EqualHeads.{piece_number, end_before, RunInOrder, equal_heads_class, RunByHeads, end_number, EndsFirst, AreSortedEnds}
use Rattle.msp_srpt.proofs.Counts.{at_most, total_from_counts}
use Rattle.msp_srpt.proofs.EqualInstances.{IsEqualInstance, IsEqualInstance-from_class, uncut}
use Rattle.msp_srpt.proofs.SortedEnds.{few, many, Rises, AreCounted-from_sorted, number_at, low_from_count, count_from_low}
use Rattle.std.proofs.lemmas.Int.{ints}
use Rattle.std.proofs.lemmas.Nat.{mul-le}
use Rattle.msp_class.specs.declared.sizes.TheConstants.{MOST_JOBS, GREATEST}
use Rattle.msp_class.specs.Env.{kind_of}
use Rattle.msp_class.proofs.IntegerRing.{pos-le, pos-lt, zero-le-pos}
use Rattle.msp_instance.specs.Conditions.{Inner}
use Rattle.msp_pieces.specs.Cost.{cost_of}
use Rattle.msp_pieces.proofs.feasible.OneEach.{AreOneEach, one_each_is_feasible}
use Rattle.msp_route.specs.declared.bounds.TheConstants.{GREATEST_ANSWER_MOMENT}
use Rattle.msp_route.specs.Bounds.{IsBestAnswer}
use Rattle.msp_route.proofs.Owed.{unit_one, over_units}
use Rattle.msp_route.proofs.OneEach.{one_each_is_answer}
use Rattle.msp_srpt.proofs.Best.{ends_cost, as_schedule}

-- what the answer has
pub record IsHeadsAnswer (i : Instance) (s : Schedule) : Type 0 where
  pub best : IsBestAnswer i s
  pub ends : EndsFirst i s

-- ---- begins that grow step by step
rises_by_steps : (n : ℕ) (x : ℕ → ℕ) → ((k : ℕ) → suc k < n → x k ≤ x (suc k)) → Rises n x
rises_by_steps n x step p zero b l = let e : p ≡ 0 = omega (arith, b) in omega (arith, ap x e)
rises_by_steps n x step p (suc q) b l = elim (cases_lt p (suc q)) [
  | inl less ↦ omega (arith, rises_by_steps n x step p q (omega (arith, less)) (omega (arith, l)), step q l)
  | inr more ↦ let e : p ≡ suc q = omega (arith, b, more) in omega (arith, ap x e)
]

-- a job begins at the head of one that is not after it, and after whole times without idle time
pub record IsRun (begin head : ℕ → ℕ) (time k : ℕ) : Type 0 where
  pub first : ℕ
  pub more : ℕ
  pub place : k ≡ first + more
  pub begin_is : begin k ≡ head first + more * time

runs : (n time : ℕ) (begin head : ℕ → ℕ) → (0 < n → begin 0 ≡ head 0) → ((k : ℕ) → suc k < n → begin (suc k) ≡ max (begin k + time) (head (suc k))) → (k : ℕ) → k < n → IsRun begin head time k
runs n time begin head start next zero l = record { first = 0; more = 0; place = omega arith; begin_is = omega (arith, start l) }
runs n time begin head start next (suc k) l = elim (cases_lt (begin k + time) (head (suc k))) [
  | inl less ↦ record { first = suc k; more = 0; place = omega arith; begin_is = omega (arith, next k l, less) }
  | inr more ↦
      let r = runs n time begin head start next k (omega (arith, l)) in
      record { first = r.first; more = suc r.more; place = omega (arith, r.place); begin_is = omega (arith, next k l, more, r.begin_is) }
]

-- a job that passes the first test passes both, or not the second
either : (a b : Bool) → cond a 1 0 ≤ cond (a && b) 1 0 + cond (not b) 1 0
either true true = omega arith
either true false = omega arith
either false _ = omega arith

module _ (i : Instance) (h : IsEqualInstance i) (heads : List ℕ) (are : AreHeads i heads) (pieces : List Piece) (r : RunInOrder i heads pieces) where
  abbrev n : ℕ
  n = length i.jobs

  abbrev time : ℕ
  time = common_time i

  abbrev jobs : List ℕ
  jobs = map (λ p. p.job) pieces

  abbrev number : ℕ → ℕ
  number k = get_or jobs k 0

  abbrev begin : ℕ → ℕ
  begin k = start (piece_number pieces k)

  abbrev head : ℕ → ℕ
  head k = head_in heads (number k)

  once : OnceBelow n jobs
  once = OnceBelow-from_permutation r.all

  jobs_many : length jobs ≡ n
  jobs_many = length-OnceBelow once

  pieces_many : length pieces ≡ n
  pieces_many = sym (length-map pieces (λ p. p.job)) ∙ jobs_many

  number_inside : (k : ℕ) → k < n → number k < n
  number_inside k l = once.within k 0 (omega (arith, l, jobs_many))

  number_is : (k : ℕ) → k < n → (piece_number pieces k).job ≡ number k
  number_is k l = sym (get_or-map (λ p. p.job) pieces k no_piece 0 (omega (arith, l, pieces_many)))

  piece_is : (k : ℕ) → k < n → piece_number pieces k ≡ piece (number k) (begin k) (begin k + time)
  piece_is k l =
      r.whole k no_piece (omega (arith, l, pieces_many))
      ∙ ap (λ j. piece j (begin k) (begin k + time_at i j)) (number_is k l)
      ∙ ap (λ x. piece (number k) (begin k) (begin k + x)) (h.same (number k) (number_inside k l))

  ends_at : (k : ℕ) → k < n → finish (piece_number pieces k) ≡ begin k + time
  ends_at k l = ap finish (piece_is k l)

  heads_rise : Rises n head
  heads_rise p q b l = grind (arith, r.rising p q 0, jobs_many)

  begins_at : (k : ℕ) → k < n → begin k ≡ max (end_before pieces k) (head k)
  begins_at k l = r.early k (omega (arith, l, pieces_many)) ∙ ap (λ j. max (end_before pieces k) (head_in heads j)) (number_is k l)

  first_begin : 0 < n → begin 0 ≡ head 0
  first_begin l = omega (arith, begins_at 0 l)

  next_begin : (k : ℕ) → suc k < n → begin (suc k) ≡ max (begin k + time) (head (suc k))
  next_begin k l = begins_at (suc k) l ∙ ap (λ x. max x (head (suc k))) (ends_at k (omega (arith, l)))

  begins_rise : Rises n begin
  begins_rise = rises_by_steps n begin (λ k l. omega (arith, next_begin k l))

  from_head : (k : ℕ) → k < n → head k ≤ begin k
  from_head k l = omega (arith, begins_at k l)

  in_order : (p q : ℕ) → p < q → q < n → begin p + time ≤ begin q
  in_order p q less l = omega (arith, next_begin p (omega (arith, less, l)), begins_rise (suc p) q (omega (arith, less)) l)

  run_of : (k : ℕ) → k < n → IsRun begin head time k
  run_of = runs n time begin head first_begin next_begin

  -- ---- totals over the jobs, in the order in which they run
  by_number : (x : ℕ → ℕ) → total_below n x ≡ total_below n (λ p. x (number p))
  by_number x = sym (sum_by-OnceBelow x once) ∙ sum_by-places x jobs 0 ∙ ap (λ m. total_below m (λ p. x (number p))) jobs_many

  -- ---- the rule's own ends
  ends_by : (k : ℕ) → k < n → last_of job_of finish pieces (number k) ≤ begin k + time
  ends_by k l = last_of-least job_of finish pieces (number k) (begin k + time) (λ a d b e.
      let la : a < n = omega (arith, b, pieces_many) in
      let at : get_or pieces a d ≡ piece_number pieces a = get_or_default pieces a d no_piece b in
      let same : number a ≡ number k = sym (number_is a la) ∙ sym (ap (λ p. p.job) at) ∙ e in
      let here : a ≡ k = grind (arith, OnceBelow-distinct once a k 0, OnceBelow-distinct once k a 0, same, la, jobs_many) in
      omega (arith, ap finish at, ends_at a la, ap begin here))

  -- and so do those before it
  ends_up_to : (k : ℕ) → k < n → (p : ℕ) → p ≤ k → last_of job_of finish pieces (number p) ≤ begin k + time
  ends_up_to k l p e = omega (arith, ends_by p (omega (arith, e, l)), begins_rise p k e l)

  -- where the values of the first jobs are at most a moment, as many are
  enough : (x : ℕ → ℕ) (k moment : ℕ) → k < n → ((p : ℕ) → p ≤ k → x (number p) ≤ moment) → k < at_most n x moment
  enough x k moment l small =
      subst (λ m. k < m) (sym (by_number (λ j. cond (leb (x j) moment) 1 0)))
      (many n k (λ p. cond (leb (x (number p)) moment) 1 0) l (λ p e. cond-yes 1 (le-leb (x (number p)) moment (small p e))))

  -- ---- the schedule
  abbrev s : Schedule
  s = as_schedule pieces

  -- feasible
  place : (a : ℕ) (d : Piece) → a < length pieces → (a < n) × (get_or pieces a d ≡ piece (number a) (begin a) (begin a + time))
  place a d l = let b : a < n = omega (arith, l, pieces_many) in (b, get_or_default pieces a d _ l ∙ piece_is a b)

  each : (P : Piece → Type 0) → ((k : ℕ) → k < n → P (piece (number k) (begin k) (begin k + time))) → All P pieces
  each P f a d l = let (b, is) = place a d l in subst P (sym is) (f a b)

  takes : (k : ℕ) → k < n → 0 < time
  takes k l = subst (λ x. 0 < x) (h.same k l) (takes_time i h.one k l)

  short : (k : ℕ) → k < n → time ≤ GREATEST
  short k l = subst (λ x. x ≤ GREATEST) (h.same k l) (is_short i h.one k l)

  soon : (k : ℕ) → k < n → begin k + time ≤ (2 * MOST_JOBS + 3) * GREATEST
  soon k l =
      let run = run_of k l in
      let lf : number run.first < length heads = omega (arith, number_inside run.first (omega (arith, run.place, l)), are.each) in
      let rest = mul-le run.more time MOST_JOBS GREATEST (omega (arith, run.place, l, h.one.few)) (short k l) in
      omega (arith, run.begin_is, are.small (number run.first) 0 lf, short k l, rest)

  apart : (a b : ℕ) (d : Piece) → a < b → b < length pieces → IsBefore (get_or pieces a d) (get_or pieces b d)
  apart a b d l m =
      let (la, ea) = place a d (omega (arith, l, m)) in
      let (lb, eb) = place b d m in
      subst₂ IsBefore (sym ea) (sym eb) (pos-le (in_order a b l lb))

  forward : All (λ a. All (λ p. All (λ q. p.job ≡ a.before → q.job ≡ a.after → IsBefore p q) pieces) pieces) i.arcs
  forward c y lc a d la b g lb ep eq =
      let (la', ea) = place a d la in
      let (lb', eb) = place b g lb in
      let from : number a ≡ (get_or i.arcs c y).before = sym (ap (λ p. p.job) ea) ∙ ep in
      let to : number b ≡ (get_or i.arcs c y).after = sym (ap (λ p. p.job) eb) ∙ eq in
      let times : time_at i (get_or i.arcs c y).before ≡ time = sym (ap (time_at i) from) ∙ h.same (number a) (number_inside a la') in
      let rise : head_in heads (number a) < head_in heads (number b) = omega (arith, are.arcs c y lc, ap (head_in heads) from, ap (head_in heads) to, times, takes a la') in
      elim (cases_lt a b) [
        | inl less ↦ subst₂ IsBefore (sym ea) (sym eb) (pos-le (in_order a b less lb'))
        | inr more ↦ absurd (omega (arith, rise, heads_rise b a more la'))
      ]

  one_each : AreOneEach i 1 pieces
  one_each = record {
    some = omega arith;
    jobs = once;
    ops = each (λ p. p.op ≡ 0) (λ k l. refl);
    inside = each (λ p. p.machine < i.machines) (λ k l. let one = h.one.machine.one in omega (arith, one));
    span = each (λ p. (pos 0 ≤ℤ p.from) × (p.from <ℤ p.to)) (λ k l. (zero-le-pos (begin k), pos-lt (omega (arith, takes k l))));
    apart = λ a b d l m _. inl (apart a b d l m);
    released = each (λ p. (pos 1 *ℤ pos (job_at i p.job).release) ≤ℤ p.from) (λ k l.
        omega (arith, ints, are.release (number k) (number_inside k l), from_head k l));
    forward = forward;
    whole = each (IsWholeWork (kind_of i.class.env) i (pos 1)) (λ k l.
        subst (λ e. IsWholeWork e i (pos 1) (piece (number k) (begin k) (begin k + time)))
        (sym h.one.machine.kind) (omega (arith, ints, h.same (number k) (number_inside k l))));
    ends = each (λ p. p.to ≤ℤ GREATEST_ANSWER_MOMENT) (λ k l. pos-le (omega (arith, soon k l)));
  }

  feasible : Feasible i s
  feasible = one_each_is_feasible i (uncut i h) 1 pieces one_each

  abbrev ends : ℕ → ℕ
  ends = last_of job_of finish pieces

  timed : All IsTimed pieces
  timed = (IsPlan-from_feasible i h.one.machine s feasible).timed

  -- ---- any feasible schedule
  module _ (t : Schedule) (f : Feasible i t) where
    abbrev unit : ℕ
    unit = nat_abs t.unit

    abbrev last : ℕ → ℕ
    last = last_of job_of finish t.pieces

    plan : IsPlan i t
    plan = IsPlan-from_feasible i h.one.machine t f

    some : 0 < n → 0 < unit * time
    some l = mul-pos plan.some (subst (λ x. 0 < x) (h.same 0 l) (takes_time i h.one 0 l))

    module _ (k moment : ℕ) (l : k < n) (more : k < at_most n last moment) where
      run : IsRun begin head time k
      run = run_of k l

      abbrev from : ℕ
      from = head run.first

      -- the jobs that end by the moment, but those before the run
      abbrev test : ℕ → Bool
      test j = leb (last j) moment && leb from (head_in heads j)

      abbrev count : ℕ
      count = total_below n (λ j. cond (test j) 1 0)

      between : All (λ q. test (job_of q) ≡ true → (unit * from ≤ start q) × (finish q ≤ moment)) t.pieces
      between a d b e =
          let q = get_or t.pieces a d in
          let both = and_parts (leb (last q.job) moment) (leb from (head_in heads q.job)) e in (
            le_trans (mul-le-mul_left unit (leb-true _ _ both.1))
                (after_heads i h.one.machine (takes_time i h.one) h.one.inner.conditions.ends t f (head_in heads) are.sound q (Contains-get_or t.pieces a d b)),
            le_trans (last_of-bound job_of finish t.pieces a d b) (leb-true _ _ both.0),
          )

      work : unit * time * count ≤ moment - unit * from
      work = subst (λ w. w ≤ moment - unit * from) (total_below-same n _ (λ j. unit * time * cond (test j) 1 0) (λ j b.
          ap (λ w. cond (test j) w 0) (plan.work j b ∙ ap (λ x. unit * x) (h.same j b)) ∙ cond-count (test j) (unit * time)) ∙ total_below-scale n (unit * time) (λ j. cond (test j) 1 0))
          (room_on_one job_of start finish test n (unit * from) moment t.pieces plan.jobs plan.apart between)

      -- no more jobs have lesser heads than stand before the run
      before : total_below n (λ j. cond (not (leb from (head_in heads j))) 1 0) ≤ run.first
      before =
          subst (λ m. m ≤ run.first) (sym (by_number (λ j. cond (not (leb from (head_in heads j))) 1 0)))
          (few n run.first (λ p. cond (not (leb from (head p))) 1 0)
          (λ p. cond-le (not (leb from (head p))) 1) (λ p b m. ap (λ x. cond (not x) 1 0) (le-leb from (head p) (heads_rise run.first p b m))))

      all : at_most n last moment ≤ count + total_below n (λ j. cond (not (leb from (head_in heads j))) 1 0)
      all = subst (λ m. at_most n last moment ≤ m) (total_below-add n (λ j. cond (test j) 1 0) (λ j. cond (not (leb from (head_in heads j))) 1 0))
          (total_below-mono n (λ j. cond (leb (last j) moment) 1 0)
          (λ j. cond (test j) 1 0 + cond (not (leb from (head_in heads j))) 1 0) (λ j b. either (leb (last j) moment) (leb from (head_in heads j))))

      -- where more than k jobs end by a moment, the job of place k can
      no_earlier : unit * (begin k + time) ≤ moment
      no_earlier =
          let enough : run.more + 1 ≤ count = omega (arith, all, before, more, run.place) in
          rw run.begin_is (omega (arith, some (omega (arith, l)), mul-le-mul_left (unit * time) enough, work))

    ends_first : (mine its : List ℤ) → AreSortedEnds i s mine → AreSortedEnds i t its
        → (k : ℕ) → k < n → (end_number mine k *ℤ t.unit) ≤ℤ (end_number its k *ℤ pos 1)
    ends_first mine its hm hi k l =
        let ours = AreCounted-from_sorted i s ends (λ j _. last_end-is pieces j timed) mine hm in
        let others = AreCounted-from_sorted i t last (λ j _. last_end-is t.pieces j plan.timed) its hi in
        let moment = nat_abs (end_number its k) in
        let least = no_earlier k moment l
        (subst (λ m. k < m) (others.counts moment) (count_from_low n (λ k. nat_abs (end_number its k)) others.rises k moment l (omega arith))) in
        let most = low_from_count n (λ k. nat_abs (end_number mine k)) ours.rises k (begin k + time) l
        (subst (λ m. k < m) (sym (ours.counts (begin k + time))) (enough ends k (begin k + time) l (ends_up_to k l))) in
        over_units (end_number mine k) (end_number its k) t.unit (nat_abs (end_number mine k)) moment unit
        (number_at i s ends (λ j _. last_end-is pieces j timed) mine hm k l)
        (number_at i t last (λ j _. last_end-is t.pieces j plan.timed) its hi k l) plan.unit
        (omega (arith, mul-le-mul_left unit most, least))

    counts : (c m : ℕ) → at_most n last c ≡ m → at_most n last c ≤ at_most n (λ j. unit * ends j) c
    counts c zero e = omega (arith, e)
    counts c (suc k) e =
        let l : k < n = omega (arith, e, total_below-bound n 1 (λ j. cond (leb (last j) c) 1 0) (λ j _. cond-le (leb (last j) c) 1)) in
        let least = no_earlier k c l (omega (arith, e)) in
        omega (arith, e, enough (λ j. unit * ends j) k c l (λ p b. le_trans (mul-le-mul_left unit (ends_up_to k l p b)) least))

    beats : (cost_of i s *ℤ t.unit) ≤ℤ (cost_of i t *ℤ pos 1)
    beats =
        over_units _ _ t.unit _ _ unit (ends_cost i s h.of.crit timed) (ends_cost i t h.of.crit plan.timed) plan.unit
        (subst (λ x. x ≤ total_below n last) (total_below-scale n unit ends)
        (total_from_counts n (λ j. unit * ends j) last (λ c. counts c (at_most n last c) refl)))

  pub IsHeadsAnswer-made : IsHeadsAnswer i s
  IsHeadsAnswer-made = record {
    best = record { best = record { feasible = feasible; least = beats }; answer = one_each_is_answer i (uncut i h) 1 pieces one_each (unit_one (kind_of i.class.env)) };
    ends = λ t mine its f. ends_first t f mine its;
  }

-- as the code has it
pub IsHeadsAnswer-read : (i : Instance) → i.class ≡ equal_heads_class → Inner i → (pieces : List Piece) → RunByHeads i pieces → IsHeadsAnswer i (as_schedule pieces)
IsHeadsAnswer-read i class inner pieces (heads, are, r) = IsHeadsAnswer-made i (IsEqualInstance-from_class i class inner) heads are pieces r
