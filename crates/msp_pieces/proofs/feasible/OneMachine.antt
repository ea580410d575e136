-- Feasible schedules on one machine, as lemmas on pieces in ℕ want them: begins and ends, work, and the sum of costs.
use Rattle.std.proofs.Common.{◌≡◌, ℕ, zero, suc, ◌*◌, ◌-◌, ◌<◌, ◌≤◌, max, Bool, true, false, cond, eqb, List, [], ◌∷◌, length, get_or, take, map, filter, fold, ℤ, pos}
use Rattle.std.proofs.Common.{nat_abs, ◌+ℤ◌, ◌*ℤ◌, ◌≤ℤ◌, ◌<ℤ◌, inl, inr, All, AllPairs, sum_by, MatchBool, MatchOption, refl, sym, ap, ap₂, ◌∙◌, subst, arith, zero-add, add-one}
use Rattle.std.specs.Prelude.{◌==◌, ◌&&◌, ⊤}
use Rattle.std.specs.Int.{int_max}
use Rattle.std.proofs.lemmas.Bool.{eqb-true, eq-eqb, and_parts}
use Rattle.std.proofs.lemmas.Int.{ints, clamps}
use Rattle.std.proofs.lemmas.List.{take_all}
use Rattle.std.proofs.lemmas.List.Elements.{All-head, All-tail, All-filter, filter_passes}
use Rattle.std.proofs.lemmas.List.Sums.{fold_more, sum_by-cons}
use Rattle.msp_class.specs.declared.environments.EnvKind.{EnvKind}
use Rattle.msp_class.specs.declared.environments.EnvKind.TheVariants.{Identical}
use Rattle.msp_class.specs.declared.class.Env.TheVariants.{One}
use Rattle.msp_class.specs.declared.class.Crit.{Crit}
use Rattle.msp_class.specs.declared.class.Crit.TheVariants.{SumWC}
use Rattle.msp_class.specs.Env.{fixed_machines, kind_of}
use Rattle.msp_class.proofs.IntegerRing.{natural, pos-same, +ℤ_assoc, +ℤ_idl, +ℤ_idr}
use Rattle.msp_pieces.specs.Intervals.{IsApart, IsApartOn, size_of, work_of}
use Rattle.msp_pieces.proofs.lists.Intervals.{apart_from_one, last_of, greatest_by}
use Rattle.msp_class.specs.Sums.{total_below, int_total_below}
use Rattle.msp_class.proofs.Sums.{int_total_below-same, int_total_below-natural}
use Rattle.msp_instance.specs.declared.Instance.{Instance}
use Rattle.msp_instance.specs.Instance.{no_need, no_job, job_at, need_at}
use Rattle.msp_instance.specs.Conditions.{Limits, MeetsConditions, HasShape, HasTimes, least_time, greatest_time}
use Rattle.msp_pieces.specs.declared.Piece.{Piece}
use Rattle.msp_pieces.specs.declared.Schedule.{Schedule}
use Rattle.msp_pieces.specs.Piece.{length_of, pieces_of, IsApart as AreApart, job_of, start, finish, IsTimed}
use Rattle.msp_pieces.specs.Feasible.{Feasible, HasOperation, MayRun, IsWholeWork, total, whole_work, work_of as part_of}
use Rattle.msp_pieces.specs.BackToBack.{time_at}
use Rattle.msp_pieces.specs.Cost.{last_end, end_of, job_cost, job_costs, combined, cost_of}
use Rattle.msp_pieces.proofs.costs.Costs.{length-job_costs, get_or-job_costs}

-- ---- pieces in ℕ
pub IsTimed-from_span : (p : Piece) → (pos 0 ≤ℤ p.from) × (p.from <ℤ p.to) → IsTimed p
IsTimed-from_span p h = record { from = natural p.from h.0; to = natural p.to (omega (arith, ints)); lasts = omega (arith, ints) }

-- pieces that do not overlap are apart in ℕ too
pub apart_in_nat : (p q : Piece) → IsTimed p → IsTimed q → AreApart p q → IsApart start finish p q
apart_in_nat p q t u h = elim h [ inl a ↦ inl (omega (arith, ints, a, t.to, u.from)) | inr a ↦ inr (omega (arith, ints, a, t.from, u.to)) ]

pub apart_in_int : (p q : Piece) → IsTimed p → IsTimed q → IsApart start finish p q → AreApart p q
apart_in_int p q t u h = elim h [ inl a ↦ inl (omega (arith, ints, a, t.to, u.from)) | inr a ↦ inr (omega (arith, ints, a, t.from, u.to)) ]

-- how long a piece lasts
pub length-timed : (p : Piece) → IsTimed p → length_of p ≡ pos (finish p - start p)
length-timed p t = omega (arith, ints, t.from, t.to, t.lasts)

-- the pieces and the unit of a feasible schedule
module _ (i : Instance) (s : Schedule) (f : Feasible i s) where
  pub unit_in_parts : s.unit ≡ pos (nat_abs s.unit)
  unit_in_parts = natural s.unit (omega (arith, ints, f.unit))

  pub pieces_timed : All IsTimed s.pieces
  pieces_timed k d l = IsTimed-from_span _ (f.span k d l)

  pub machines_apart : AllPairs (IsApartOn (λ p. p.machine) start finish) s.pieces
  machines_apart a b d h k e = apart_in_nat _ _ (pieces_timed a d (omega arith)) (pieces_timed b d k) (f.machine a b d h k e)

  pub jobs_apart : AllPairs (IsApartOn job_of start finish) s.pieces
  jobs_apart a b d h k e = apart_in_nat _ _ (pieces_timed a d (omega arith)) (pieces_timed b d k) (f.job a b d h k e)

-- ---- lists
pub filter-same : {X : Type 0} (f g : X → Bool) (xs : List X) → All (λ x. f x ≡ g x) xs → filter f xs ≡ filter g xs
filter-same f g [] h = refl
filter-same f g (x ∷ xs) h =
    ap (λ b. cond b (x ∷ filter f xs) (filter f xs)) (All-head (λ y. f y ≡ g y) x xs h)
    ∙ ap (λ l. cond (g x) (x ∷ l) l) (filter-same f g xs (All-tail (λ y. f y ≡ g y) x xs h))

pub both_true : (a b : Bool) → (a && b) ≡ true → (a ≡ true) × (b ≡ true)
both_true a b h = and_parts a b h

with_true : (a b : Bool) → b ≡ true → (a && b) ≡ a
with_true true b h = h
with_true false b h = refl

-- the pieces of the one operation of a job are all its pieces
pub pieces_of-job : (s : Schedule) (j : ℕ) → All (λ p. p.op ≡ 0) s.pieces → pieces_of s j 0 ≡ filter (λ p. eqb p.job j) s.pieces
pieces_of-job s j h = filter-same (λ p. (p.job == j) && (p.op == 0)) (λ p. eqb p.job j) s.pieces (λ k d l. with_true _ _ (eq-eqb _ _ (h k d l)))

-- ---- ends
int_max-pos : (a b : ℕ) → int_max (pos a) (pos b) ≡ pos (max a b)
int_max-pos a b = omega (arith, ints, clamps)

fold-ends : (a : ℕ) (xs : List Piece) → All IsTimed xs → fold int_max (pos a) (map (λ p. p.to) xs) ≡ pos (max a (greatest_by finish xs))
fold-ends a [] h = ap pos (omega arith)
fold-ends a (p ∷ ps) h =
    ap (λ x. fold int_max x (map (λ q. q.to) ps)) (ap (int_max (pos a)) (All-head IsTimed p ps h).to ∙ int_max-pos a (finish p))
    ∙ fold-ends (max a (finish p)) ps (All-tail IsTimed p ps h)
    ∙ ap pos (omega arith)

-- the end of a job is the greatest end of its pieces in ℕ
pub last_end-is : (xs : List Piece) (j : ℕ) → All IsTimed xs → last_end xs j ≡ pos (last_of job_of finish xs j)
last_end-is xs j h = fold-ends 0 (filter (λ p. p.job == j) xs) (All-filter (λ p. p.job == j) IsTimed xs h) ∙ ap pos (omega arith)

-- ---- work
total_from : (a : ℤ) (xs : List ℤ) → fold ◌+ℤ◌ a xs ≡ a +ℤ total xs
total_from a [] = sym (+ℤ_idr a)
total_from a (x ∷ xs) = total_from (a +ℤ x) xs ∙ +ℤ_assoc a x (total xs) ∙ ap (λ z. a +ℤ z) (sym (total_from (pos 0 +ℤ x) xs ∙ ap (λ z. z +ℤ total xs) (+ℤ_idl x)))

pub total-cons : (x : ℤ) (xs : List ℤ) → total (x ∷ xs) ≡ x +ℤ total xs
total-cons x xs = total_from (pos 0 +ℤ x) xs ∙ ap (λ z. z +ℤ total xs) (+ℤ_idl x)

-- a total of integers that are natural numbers is their sum
pub total_in_nat : {X : Type 0} (f : X → ℤ) (g : X → ℕ) (xs : List X) → All (λ x. f x ≡ pos (g x)) xs → total (map f xs) ≡ pos (sum_by g xs)
total_in_nat f g [] h = refl
total_in_nat f g (x ∷ xs) h =
    total-cons (f x) (map f xs)
    ∙ ap₂ ◌+ℤ◌ (All-head (λ y. f y ≡ pos (g y)) x xs h) (total_in_nat f g xs (All-tail (λ y. f y ≡ pos (g y)) x xs h)) ∙ ap pos (sym (sum_by-cons g x xs))

pub total_lengths : (xs : List Piece) → All IsTimed xs → total (map length_of xs) ≡ pos (sum_by (size_of start finish) xs)
total_lengths xs h = total_in_nat length_of (size_of start finish) xs (λ k d l. length-timed _ (h k d l))

-- ---- the one machine
pub record IsOneMachine (i : Instance) : Type 0 where
  pub kind : kind_of i.class.env ≡ Identical
  pub one : i.machines ≡ 1

pub IsOneMachine-from_env : (l : Limits) (i : Instance) → i.class.env ≡ One → MeetsConditions l i → IsOneMachine i
IsOneMachine-from_env l i e h = record {
  kind = ap kind_of e;
  one = subst (λ env. MatchOption (fixed_machines env) ⊤ (λ m. i.machines ≡ m)) e h.machines.2;
}

-- on one machine, as on any of the same speed, each job takes time
pub takes_time : (l : Limits) (i : Instance) → kind_of i.class.env ≡ Identical → MeetsConditions l i → (j : ℕ) → j < length i.jobs → 0 < time_at i j
takes_time l i kind h j less = let n = (h.jobs j no_job less).needs in by (kind_of i.class.env) kind n.shape n.times
  where
    by : (k : EnvKind) → k ≡ Identical → HasShape k i.class.env i.machines (job_at i j).needs
        → HasTimes (least_time k i.class.times) (greatest_time l i.class.times) (job_at i j).needs → 0 < time_at i j
    by Identical e s t = (t 0 no_need (omega (arith, s.0))).0
    by _ e s t = absurd (cc)

-- a schedule's pieces as the lemmas on intervals take them: D is the unit, and `time` says how long each job takes
pub record IsPlan (i : Instance) (s : Schedule) : Type 0 where
  pub unit : s.unit ≡ pos (nat_abs s.unit)
  pub some : 0 < nat_abs s.unit
  pub timed : All IsTimed s.pieces
  pub jobs : All (λ p. p.job < length i.jobs) s.pieces
  pub apart : AllPairs (IsApart start finish) s.pieces
  pub work : (j : ℕ) → j < length i.jobs → work_of job_of start finish s.pieces j ≡ nat_abs s.unit * (need_at i j 0).time

-- on identical machines
module _ (i : Instance) (kind : kind_of i.class.env ≡ Identical) (s : Schedule) (f : Feasible i s) where
  pub timed_pieces : All IsTimed s.pieces
  timed_pieces = pieces_timed i s f

  pub machines_below : All (λ p. p.machine < i.machines) s.pieces
  machines_below k d l = subst (λ x. MayRun x i (get_or s.pieces k d).job (get_or s.pieces k d).op (get_or s.pieces k d).machine) kind (f.place k d l).machine

  pub apart_on_machines : AllPairs (IsApartOn (λ p. p.machine) start finish) s.pieces
  apart_on_machines = machines_apart i s f

  module _ (j : ℕ) (small : j < length i.jobs) where
    abbrev mine : List Piece
    mine = filter (λ p. eqb p.job j) s.pieces

    timed_mine : All IsTimed mine
    timed_mine = All-filter (λ p. eqb p.job j) IsTimed s.pieces timed_pieces

    abbrev Gets : EnvKind → Type 0
    Gets x = MatchBool i.class.cut (total (map (part_of x i) (pieces_of s j 0)) ≡ s.unit *ℤ pos (whole_work x i j 0)) ((p : Piece) × (pieces_of s j 0 ≡ p ∷ []) × IsWholeWork x i s.unit p)

    -- the whole of job j in parts of the unit
    abbrev whole : ℕ
    whole = nat_abs s.unit * (need_at i j 0).time

    unit_times : s.unit *ℤ pos (need_at i j 0).time ≡ pos whole
    unit_times = ap (λ u. u *ℤ pos (need_at i j 0).time) (unit_in_parts i s f)

    same_pieces : pieces_of s j 0 ≡ mine
    same_pieces = pieces_of-job s j (λ k d l. let p = get_or s.pieces k d in subst (λ x. HasOperation x i p.job p.op) kind (f.place k d l).operation)

    in_one : (p : Piece) → pieces_of s j 0 ≡ p ∷ [] → length_of p ≡ s.unit *ℤ pos (need_at i p.job p.op).time → sum_by (size_of start finish) mine ≡ whole
    in_one p e h =
        let is : mine ≡ p ∷ [] = sym same_pieces ∙ e in
        let t = All-head IsTimed p [] (subst (All IsTimed) is timed_mine) in
        let passes = both_true
        _ _ (All-head (λ q. ((q.job == j) && (q.op == 0)) ≡ true) p [] (subst (All (λ q. ((q.job == j) && (q.op == 0)) ≡ true)) e (filter_passes (λ q. (q.job == j) && (q.op == 0)) s.pieces))) in
        let same : need_at i p.job p.op ≡ need_at i j 0 = ap (λ x. need_at i x p.op) (eqb-true _ _ passes.0) ∙ ap (need_at i j) (eqb-true _ _ passes.1) in
        let size : pos (finish p - start p) ≡ pos whole = sym (length-timed p t) ∙ h ∙ ap (λ n. s.unit *ℤ pos n.time) same ∙ unit_times in
        ap (sum_by (size_of start finish)) is ∙ zero-add (finish p - start p) ∙ pos-same size

    pub full_work : work_of job_of start finish s.pieces j ≡ whole
    full_work = by i.class.cut (subst Gets kind (f.work j 0 small (subst (λ x. HasOperation x i j 0) (sym kind) refl)))
      where
        by : (b : Bool) → MatchBool b (total (map length_of (pieces_of s j 0)) ≡ s.unit *ℤ pos (need_at i j 0).time)
            ((p : Piece) × (pieces_of s j 0 ≡ p ∷ []) × (length_of p ≡ s.unit *ℤ pos (need_at i p.job p.op).time)) → sum_by (size_of start finish) mine ≡ whole
        by true h = pos-same (sym (total_lengths mine timed_mine) ∙ ap (λ l. total (map length_of l)) (sym same_pieces) ∙ h ∙ unit_times)
        by false h = in_one h.0 h.1 h.2

module _ (i : Instance) (m : IsOneMachine i) (s : Schedule) (f : Feasible i s) where
  machines : All (λ p. p.machine ≡ 0) s.pieces
  machines k d l = let h = machines_below i m.kind s f k d l in let o = m.one in omega arith

  -- a feasible schedule on one machine is a plan
  pub IsPlan-from_feasible : IsPlan i s
  IsPlan-from_feasible = record {
    unit = unit_in_parts i s f;
    some = omega (arith, ints, f.unit);
    timed = timed_pieces i m.kind s f;
    jobs = λ k d l. (f.place k d l).job;
    apart = apart_from_one (λ p. p.machine) start finish 0 s.pieces machines (apart_on_machines i m.kind s f);
    work = full_work i m.kind s f;
  }

-- ---- the sum of costs
total-take : (xs : List ℤ) (k : ℕ) → k ≤ length xs → fold ◌+ℤ◌ (pos 0) (take k xs) ≡ int_total_below k (λ j. get_or xs j (pos 0))
total-take xs zero h = refl
total-take xs (suc k) h =
    ap (λ n. fold ◌+ℤ◌ (pos 0) (take n xs)) (sym (add-one k)) ∙ fold_more ◌+ℤ◌ (pos 0) xs k (pos 0) (omega arith)
    ∙ ap (λ x. x +ℤ get_or xs k (pos 0)) (total-take xs k (omega arith))

pub total-below : (xs : List ℤ) → total xs ≡ int_total_below (length xs) (λ j. get_or xs j (pos 0))
total-below xs = ap total (sym (take_all (length xs) xs (omega arith))) ∙ total-take xs (length xs) (omega arith)

pub total_costs : (crit : Crit) (unit : ℤ) (end : ℕ → ℤ) (i : Instance) → total (job_costs crit unit end 0 i.jobs) ≡ int_total_below (length i.jobs) (λ j. job_cost crit unit (job_at i j) (end j))
total_costs crit unit end i =
    let costs = job_costs crit unit end 0 i.jobs in
    total-below costs
    ∙ ap (λ n. int_total_below n (λ j. get_or costs j (pos 0))) (length-job_costs crit unit end 0 i.jobs)
    ∙ int_total_below-same (length i.jobs) _ _ (λ j l. get_or-job_costs crit unit end 0 j i.jobs no_job (pos 0) l ∙ ap (λ n. job_cost crit unit (job_at i j) (end n)) (zero-add j))

-- the weighted sum of the ends, in ℕ
pub weighted_cost : (i : Instance) (s : Schedule) → i.class.crit ≡ SumWC
    → All IsTimed s.pieces → cost_of i s ≡ pos (total_below (length i.jobs) (λ j. (job_at i j).weight * last_of job_of finish s.pieces j))
weighted_cost i s e h =
    ap (λ c. combined c (job_costs c s.unit (end_of s) 0 i.jobs)) e
    ∙ total_costs SumWC s.unit (end_of s) i
    ∙ int_total_below-natural (length i.jobs) _ _ (λ j l. ap (λ x. pos (job_at i j).weight *ℤ x) (last_end-is s.pieces j h))
