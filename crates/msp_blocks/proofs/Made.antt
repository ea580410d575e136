-- All jobs are placed: the pieces are a feasible schedule, and it is best.
use Rattle.std.proofs.Common.{◌≡◌, ℕ, ◌+◌, ◌<◌, ◌≤◌, ◌⊎◌, inl, inr, Bool, true, false, List, [], ◌∷◌, length, get_or, map, filter, ℤ, pos, ◌*ℤ◌, ◌≤ℤ◌, All, AllPairs}
use Rattle.std.proofs.Common.{Contains, IsPermutation, MatchBool, sum_by, refl, sym, ap, ◌∙◌, subst, arith}
use Rattle.std.specs.Prelude.{◌==◌}
use Rattle.std.specs.List.{range_with_len}
use Rattle.std.proofs.lemmas.Int.{ints}
use Rattle.std.proofs.lemmas.List.Sums.{sum_by-cons}
use Rattle.std.proofs.lemmas.List.Elements.{All-nil, All-filter, All-head, All-tail}
use Rattle.msp_class.specs.declared.environments.EnvKind.TheVariants.{Identical}
use Rattle.msp_class.specs.declared.class.Times.TheVariants.{Unit as UnitTimes}
use Rattle.msp_class.specs.declared.class.Crit.TheVariants.{Fmax}
use Rattle.msp_class.specs.declared.class.Env.TheVariants.{One}
use Rattle.msp_class.specs.Env.{kind_of}
use Rattle.msp_class.specs.Crit.{is_greatest}
use Rattle.msp_class.proofs.IntegerRing.{≤ℤ_trans}
use Rattle.msp_class.proofs.Sums.{OnceBelow-from_permutation, OnceBelow-distinct, OnceBelow-contains, length-OnceBelow}
use Rattle.msp_instance.specs.declared.Instance.{Instance}
use Rattle.msp_instance.specs.Instance.{job_at, need_at, no_job, no_need}
use Rattle.msp_instance.specs.Conditions.{HasSameTimes, Inner}
use Rattle.msp_pieces.specs.declared.Piece.{Piece}
use Rattle.msp_pieces.specs.declared.Schedule.{Schedule}
use Rattle.msp_pieces.specs.Piece.{pieces_of, start, finish, IsTimed}
use Rattle.msp_pieces.specs.Feasible.{Feasible, GetsWork, IsWholeWork, total, work_of as part_of}
use Rattle.msp_pieces.specs.Cost.{end_of}
use Rattle.msp_pieces.specs.Intervals.{size_of}
use Rattle.msp_pieces.proofs.feasible.OneMachine.{pieces_of-job}
use Rattle.msp_pieces.specs.BackToBack.{time_at}
use Rattle.msp_pieces.proofs.feasible.LastEnds.{last_end-least}
use Rattle.msp_pieces.specs.Blocks.{cost_at}
use Rattle.msp_route.specs.Bounds.{IsBestAnswer}
use Rattle.msp_route.proofs.Owed.{unit_one, timed_answer}
use Rattle.msp_route.proofs.Laid.{AreLaid, HasOneOperation-identical, gets_by_kind, laid_adds_up, laid_is_feasible}
use Rattle.msp_blocks.specs.Blocks.{IsBestCost}
use Rattle.msp_route.specs.Heads.{AreHeads}
use Rattle.msp_blocks.specs.Filling.{IsPut, IsFilling, IsBound, CostAtMost, greatest_end}
use Rattle.msp_blocks.proofs.Bound.{best_by_block, value_is_best}
use Rattle.msp_route.proofs.OneInstances.{IsOneInstance, IsOneInstance-from, takes_time}

-- ---- before the first job is placed
pub IsFilling-none : (i : Instance) → IsOneInstance i → (head : ℕ → ℕ) (jobs : List ℕ)
    → IsPermutation (range_with_len 0 (length i.jobs)) jobs → AllPairs (λ a b. head a ≤ head b) jobs → IsFilling i head greatest_end jobs []
IsFilling-none i one head jobs all rising =
    let once = OnceBelow-from_permutation all in
    record {
      inside = once.within;
      distinct = OnceBelow-distinct once;
      sorted = rising;
      put = All-nil _;
      placed = All-nil _;
      after = All-nil _;
      idle = All-nil _;
      apart = λ a b d l m. absurd (omega (arith, l, m));
      early = λ k d l. All-nil _;
      ordered = λ k d l. All-nil _;
      work = λ j l gone. absurd (gone (OnceBelow-contains once j l));
      few = omega (arith, length-OnceBelow once, one.few);
      ends = All-nil _;
    }

-- a job that takes one unit has one piece
sole_piece : (ps : List Piece) → All IsTimed ps → sum_by (size_of start finish) ps ≡ 1 → (p : Piece) × (ps ≡ p ∷ []) × (finish p ≡ start p + 1)
sole_piece [] t e = absurd (omega (arith, e))
sole_piece (p ∷ []) t e = (p, refl, omega (arith, e, sum_by-cons (size_of start finish) p [], (All-head IsTimed p [] t).lasts))
sole_piece (p ∷ q ∷ ps) t e =
    let rest = All-tail IsTimed p (q ∷ ps) t in
    absurd (omega (arith, e, sum_by-cons (size_of start finish) p (q ∷ ps), sum_by-cons (size_of start finish) q ps, (All-head IsTimed p (q ∷ ps) t).lasts, (All-head IsTimed q ps rest).lasts))

-- with unit times each job takes one
unit_time : (i : Instance) → IsOneInstance i → i.class.times ≡ UnitTimes → (j : ℕ) → j < length i.jobs → time_at i j ≡ 1
unit_time i one e j l =
    let same = subst (λ t. HasSameTimes t (need_at i 0 0).time (job_at i j).needs) e (one.inner.conditions.jobs j no_job l).times in
    same 0 no_need (omega (arith, (one.needs j no_job l).0))

module _ (i : Instance) (one : IsOneInstance i) (heads : List ℕ) (are : AreHeads i heads) (ps : List Piece) (f : IsFilling i (λ j. get_or heads j 0) greatest_end [] ps) where
  abbrev s : Schedule
  s = record { unit = pos 1; pieces = ps }

  timed : All IsTimed ps
  timed k d l = (f.put k d l).timed

  nothing : (j : ℕ) → ¬ Contains [] j
  nothing j c = omega (arith, c.1)

  laid : AreLaid i 1 ps
  laid = record {
    some = omega arith;
    timed = timed;
    jobs = λ k d l. (f.put k d l).job;
    ops = λ k d l. (f.put k d l).op;
    inside = λ k d l. let single = one.machine.one in omega (arith, (f.put k d l).machine, single);
    machines = λ a b d m k _. f.apart a b d m k;
    apart = λ a b d m k _. f.apart a b d m k;
    released = λ k d l. omega (arith, are.release (get_or ps k d).job (f.put k d l).job, f.after k d l);
    arcs = λ n d b k x y k' x' y' same is. omega (arith, ints, (timed k x y).to, (timed k' x' y').from, f.ordered n d b k x y k' x' y' same is);
  }

  module _ (whole : (i.class.cut ≡ true) ⊎ (i.class.times ≡ UnitTimes)) where
    module _ (j : ℕ) (small : j < length i.jobs) where
      abbrev mine : List Piece
      mine = filter (λ p. p.job == j) ps

      same_pieces : pieces_of s j 0 ≡ mine
      same_pieces = pieces_of-job s j (λ k d l. (f.put k d l).op)

      timed_mine : All IsTimed mine
      timed_mine = All-filter (λ p. p.job == j) IsTimed ps timed

      work_is : sum_by (size_of start finish) mine ≡ time_at i j
      work_is = f.work j small (nothing j)

      in_one : i.class.times ≡ UnitTimes → (p : Piece) × (pieces_of s j 0 ≡ p ∷ []) × IsWholeWork Identical i (pos 1) p
      in_one unit =
          let (p, is, size) = sole_piece mine timed_mine (work_is ∙ unit_time i one unit j small) in
          let put : IsPut i p = All-head (IsPut i) p [] (subst (All (IsPut i)) is (All-filter (λ p. p.job == j) (IsPut i) ps f.put)) in
          let time_is : (need_at i p.job p.op).time ≡ 1 = ap (λ o. (need_at i p.job o).time) put.op ∙ unit_time i one unit p.job put.job in
          (p, same_pieces ∙ is, omega (arith, ints, put.timed.from, put.timed.to, size, time_is))

      adds_up : total (map (part_of Identical i) (pieces_of s j 0)) ≡ pos 1 *ℤ pos (time_at i j)
      adds_up = laid_adds_up i 1 ps laid j (omega (arith, work_is))

      gets : GetsWork i s j 0
      gets = gets_by_kind Identical i s j one.machine.kind (by i.class.cut refl)
        where
          by : (b : Bool) → i.class.cut ≡ b → MatchBool b (total (map (part_of Identical i) (pieces_of s j 0)) ≡ pos 1 *ℤ pos (time_at i j))
              ((p : Piece) × (pieces_of s j 0 ≡ p ∷ []) × IsWholeWork Identical i (pos 1) p)
          by true e = adds_up
          by false e = elim whole [ inl cut ↦ absurd (cc) | inr unit ↦ in_one unit ]

    is_feasible : Feasible i s
    is_feasible = laid_is_feasible i 1 ps laid (HasOneOperation-identical i one.machine.kind) gets

    module _ (jobs : List ℕ) (cost : ℤ) (costs : CostAtMost i cost [] ps) where
      pub each : (k : ℕ) → k < length i.jobs → (moment : ℕ) × (end_of s k ≤ℤ pos moment) × (cost_at i k moment ≤ℤ cost)
      each k l =
          let (end, ended, most) = costs k l (nothing k) in
          (end, last_end-least ps k (pos end) (omega (arith, ints)) (λ n d m same. omega (arith, ints, (timed n d m).to, ended n d m same)), most)

-- no job costs more than so much before the first one is placed
pub CostAtMost-none : (i : Instance) → IsOneInstance i → (head : ℕ → ℕ) (greatest : ℕ) (jobs : List ℕ) (most : ℤ) → IsFilling i head greatest jobs [] → CostAtMost i most jobs []
CostAtMost-none i one head greatest jobs most f j l gone =
    let none : 0 ≡ time_at i j = f.work j l gone in
    absurd (omega (arith, none, takes_time i one j l))

pub CostAtMost-more : (i : Instance) (less more : ℤ) (left : List ℕ) (ps : List Piece) → less ≤ℤ more → CostAtMost i less left ps → CostAtMost i more left ps
CostAtMost-more i less more left ps h c j l gone = let (end, ended, most) = c j l gone in (end, ended, ≤ℤ_trans most h)

-- what is said of the answer's schedule, and of the value of its greatest block
pub record IsBlockSchedule (i : Instance) (s : Schedule) (cost : ℤ) : Type 0 where
  pub best : IsBestAnswer i s
  pub value : IsBestCost i cost

pub IsBlockSchedule-made : (i : Instance) → i.class.env ≡ One → i.class.crit ≡ Fmax → Inner i → (i.class.cut ≡ true) ⊎ (i.class.times ≡ UnitTimes)
    → (heads : List ℕ) → AreHeads i heads → (ps : List Piece) → IsFilling i (λ j. get_or heads j 0) greatest_end [] ps
    → (jobs : List ℕ) (cost : ℤ) → IsBound i heads jobs cost → CostAtMost i cost [] ps → IsBlockSchedule i (record { unit = pos 1; pieces = ps }) cost
IsBlockSchedule-made i env crit inner whole heads are ps f jobs cost bound costs =
    let one = IsOneInstance-from i env inner in
    let s : Schedule = record { unit = pos 1; pieces = ps } in
    let feasible = is_feasible i one heads are ps f whole in
    let some : 0 < length i.jobs = omega (arith, one.some) in
    record {
      best = record {
        best = best_by_block i env (ap is_greatest crit) inner heads jobs cost bound s refl feasible some (each i one heads are ps f whole jobs cost costs);
        answer = timed_answer i s greatest_end (unit_one (kind_of i.class.env)) (omega (arith, f.few)) (timed i one heads are ps f) f.ends (omega (arith, ints));
      };
      value = value_is_best i env (ap is_greatest crit) inner heads jobs cost bound s refl feasible some (each i one heads are ps f whole jobs cost costs);
    }

-- ---- as the code passes them
pub filling_passed : (i : Instance) → i.class.env ≡ One
    → Inner i → (heads first second jobs : List ℕ) → AreHeads i heads → first ≡ heads → second ≡ heads → IsPermutation (range_with_len 0 (length first)) jobs
    → AllPairs (λ a b. get_or first a 0 ≤ get_or first b 0) jobs → IsFilling i (λ j. get_or second j 0) greatest_end jobs []
filling_passed i env inner heads first second jobs are same again all rising =
    let one = IsOneInstance-from i env inner in
    IsFilling-none i one (λ j. get_or second j 0) jobs (subst (λ n. IsPermutation (range_with_len 0 n) jobs) (ap length same ∙ are.each) all)
    (subst (λ hs. AllPairs (λ a b. get_or hs a 0 ≤ get_or hs b 0) jobs) (same ∙ sym again) rising)

pub some_passed : (i : Instance) → i.class.env ≡ One → Inner i → (heads first jobs : List ℕ) → AreHeads i heads → first ≡ heads → IsPermutation (range_with_len 0 (length first)) jobs → 0 < length jobs
some_passed i env inner heads first jobs are same all =
    let one = IsOneInstance-from i env inner in
    omega (arith, one.some, length-OnceBelow (OnceBelow-from_permutation (subst (λ n. IsPermutation (range_with_len 0 n) jobs) (ap length same ∙ are.each) all)))
