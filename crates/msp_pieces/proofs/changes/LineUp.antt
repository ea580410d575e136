-- One machine without release dates: the jobs in the order of their ends, lined up without gaps, end no later.
use Rattle.std.proofs.Common.{◌≡◌, ◌≢◌, ◌⊎◌, inl, inr, ℕ, zero, suc, ◌+◌, ◌*◌, ◌≤◌, ◌<◌, Bool, true, false, cond, eqb, leb, List, [], ◌∷◌, get_or, length, All}
use Rattle.std.proofs.Common.{AllPairs, Contains, count_by, ℤ, pos, nat_abs, ◌≤ℤ◌, ◌<ℤ◌, refl, sym, ap, ap₂, subst, subst₂, ◌∙◌, arith, sum_by}
use Rattle.std.specs.Prelude.{int_lt}
use Rattle.std.specs.List.{range_with_len}
use Rattle.std.proofs.lemmas.List.Kept.{AllPairs-cons}
use Rattle.std.proofs.lemmas.Bool.{eqb-true, eqb-false, le-leb, cond_both}
use Rattle.std.proofs.Math.Nat.{mul-pos, mul-one, one-mul}
use Rattle.std.proofs.lemmas.Int.{ints}
use Rattle.std.proofs.lemmas.List.Sums.{sum_by-cons}
use Rattle.std.proofs.lemmas.List.Elements.{All-cons, All-head, All-tail, All-contains, Contains-get_or}
use Rattle.msp_class.specs.declared.environments.EnvKind.TheVariants.{Identical}
use Rattle.msp_class.specs.declared.class.Env.TheVariants.{One}
use Rattle.msp_class.proofs.Sums.{cond-yes, AllPairs-head, AllPairs-tail, Contains-tail, AllPairs-contains, OnceBelow, OnceBelow-distinct, OnceBelow-contains, OnceBelow-range}
use Rattle.msp_class.proofs.IntegerRing.{pos-le, le-pos, ≤ℤ_trans, ≤ℤ_of_same, ≤ℤ_antisym, ≤ℤ_total}
use Rattle.msp_instance.specs.declared.Arc.{Arc}
use Rattle.msp_instance.specs.declared.Instance.{Instance}
use Rattle.msp_instance.specs.Instance.{job_at, need_at}
use Rattle.msp_instance.specs.Conditions.{Limits, MeetsConditions}
use Rattle.msp_pieces.specs.declared.Schedule.{Schedule}
use Rattle.msp_pieces.specs.Piece.{IsBefore, job_of, start, finish, IsTimed}
use Rattle.msp_pieces.specs.Feasible.{Feasible}
use Rattle.msp_pieces.specs.Cost.{cost_of, last_end, end_of}
use Rattle.msp_pieces.specs.Intervals.{IsApart}
use Rattle.msp_pieces.proofs.lists.Intervals.{last_of, last_of-bound}
use Rattle.msp_pieces.proofs.lists.WeightedEnds.{done_by, ends_cover_work}
use Rattle.msp_pieces.specs.BackToBack.{back_to_back, piece, time_at}
use Rattle.msp_pieces.proofs.lists.BackToBack.{end_in, back_to_back-last}
use Rattle.msp_pieces.proofs.feasible.OneMachine.{IsOneMachine, IsOneMachine-from_env, takes_time, IsPlan, IsPlan-from_feasible, unit_in_parts, last_end-is}
use Rattle.msp_pieces.proofs.feasible.BackToBack.{piece_makes, back_to_back-timed}
use Rattle.msp_pieces.proofs.feasible.Frames.{frame_by, Lasts, Fits, HasWork, IsShaped-from_identical, piece_of, Fits-from_feasible, Feasible-from_fits}
use Rattle.msp_pieces.proofs.feasible.LastEnds.{last_end-contains, last_end-reached}
use Rattle.msp_pieces.proofs.costs.Charges.{SameCharges, cost-by_ends, cost-same_charges}
use Rattle.msp_pieces.proofs.feasible.Series.{IsSerial, MayPrecede, tasks, piece_on, zero_only, Fits-series}
use Rattle.msp_pieces.specs.LineUp.{lined_up, insert_by, sorted_by, order_of_ends}

-- one machine, jobs that take time, and arcs between them
pub record IsLine (i : Instance) : Type 0 where
  pub machine : IsOneMachine i
  pub some : (j : ℕ) → j < length i.jobs → 1 ≤ time_at i j
  pub arcs : All (λ a. (a.before < length i.jobs) × (a.after < length i.jobs)) i.arcs

pub IsLine-from_conditions : (l : Limits) (i : Instance) → i.class.env ≡ One → MeetsConditions l i → IsLine i
IsLine-from_conditions l i e h = let m = IsOneMachine-from_env l i e h in record { machine = m; some = takes_time l i m.kind h; arcs = h.ends }

-- ---- it is feasible
module _ (i : Instance) (line : IsLine i) (D : ℕ) (unit : 1 ≤ D) (order : List ℕ) (o : OnceBelow (length i.jobs) order) where
  abbrev time : ℕ → ℕ
  time j = D * time_at i j

  pub positive : (j : ℕ) → j < length i.jobs → 0 < time j
  positive j l = mul-pos unit (line.some j l)

  serial : ((j : ℕ) → j < length i.jobs → (job_at i j).release ≡ 0) → IsSerial (frame_by Identical i) D (λ j. 0 ∷ []) (λ j n. 0) (λ j n. time j)
  serial heads = record {
    unit = unit;
    has = λ j l. zero_only (λ n. n ≡ 0) refl;
    all = λ j n l e. (0, omega arith, sym e);
    once = λ j l a b d h k. absurd (omega arith);
    may = λ j l. zero_only (λ n. 0 < i.machines) (let m = line.machine.one in omega arith);
    some = λ j l. zero_only (λ n. 0 < time j) (positive j l);
    rate = λ j l. zero_only (λ n. time j * 1 ≡ D * (need_at i j n).time) (mul-one (time j));
    heads = heads;
    unrouted = refl;
  }

  same_back_to_back : (t : ℕ) (js : List ℕ) → back_to_back (piece_on (λ j n. 0)) (λ x. time x.job) t (tasks (λ j. 0 ∷ []) js) ≡ back_to_back piece time t js
  same_back_to_back t [] = refl
  same_back_to_back t (j ∷ js) = ap (λ l. piece j t (t + time j) ∷ l) (same_back_to_back (t + time j) js)

  pub Feasible-lined_up : ((j : ℕ) → j < length i.jobs → (job_at i j).release ≡ 0) → AllPairs (MayPrecede i.arcs) order → All (λ a. a.before ≢ a.after) i.arcs → Feasible i (lined_up i D order)
  Feasible-lined_up heads forward loose =
      Feasible-from_fits i (lined_up i D order) (IsShaped-from_identical i line.machine.kind)
      (subst (λ k. Fits (frame_by k i) (pos D) (back_to_back piece time 0 order)) (sym line.machine.kind)
      (subst (Fits (frame_by Identical i) (pos D)) (same_back_to_back 0 order) (Fits-series (frame_by Identical i) D (λ j. 0 ∷ []) (λ j n. 0) (λ j n. time j) (serial heads) order o forward loose)))

  pub end_of-lined_up : (j : ℕ) → j < length i.jobs → end_of (lined_up i D order) j ≡ pos (end_in time 0 order j)
  end_of-lined_up j l =
      last_end-is (back_to_back piece time 0 order) j (back_to_back-timed time 0 order (λ k d b. positive (get_or order k d) (o.within k d b)))
      ∙ ap pos (back_to_back-last piece time piece_makes 0 order j (OnceBelow-distinct o) (OnceBelow-contains o j l))

-- ---- no job ends later
-- where a list rises, its jobs back to back end with no more than what is done by then
end_in-done : (p last : ℕ → ℕ) (t : ℕ) (js : List ℕ) (j : ℕ) → AllPairs (λ a b. last a ≤ last b) js → Contains js j → end_in p t js j ≤ t + done_by p last js j
end_in-done p last t [] j h c = absurd (omega (arith, c.1))
end_in-done p last t (i ∷ js) j h c =
    by (eqb i j) refl (end_in-done p last (t + p i) js j (AllPairs-tail (λ a b. last a ≤ last b) i js h)) (sum_by-cons (λ k. cond (leb (last k) (last j)) (p k) 0) i js)
  where
    by : (b : Bool) → eqb i j ≡ b → (Contains js j → end_in p (t + p i) js j ≤ t + p i + done_by p last js j)
        → {n : ℕ} → n ≡ cond (leb (last i) (last j)) (p i) 0 + done_by p last js j → cond b (t + p i) (end_in p (t + p i) js j) ≤ t + n
    by true e later s = omega (arith, s, cond-yes (p i) (le-leb (last i) (last j) (omega (arith, ap last (eqb-true i j e)))))
    by false e later s =
        let there = Contains-tail i js j c (eqb-false i j e) in
        omega (arith, s, later there, cond-yes (p i) (le-leb (last i) (last j) (All-contains (λ b. last i ≤ last b) js j (AllPairs-head (λ a b. last a ≤ last b) i js h) there)))

module _ (i : Instance) (line : IsLine i) (s : Schedule) (f : Feasible i s) (order : List ℕ) (o : OnceBelow (length i.jobs) order) (rises : AllPairs (λ a b. end_of s a ≤ℤ end_of s b) order) where
  abbrev D : ℕ
  D = nat_abs s.unit

  plan : IsPlan i s
  plan = IsPlan-from_feasible i line.machine s f

  abbrev last : ℕ → ℕ
  last = last_of job_of finish s.pieces

  last_is : (j : ℕ) → end_of s j ≡ pos (last j)
  last_is j = last_end-is s.pieces j plan.timed

  last_rises : AllPairs (λ a b. last a ≤ last b) order
  last_rises a b d h k = le-pos (subst₂ (λ x y. x ≤ℤ y) (last_is (get_or order a d)) (last_is (get_or order b d)) (rises a b d h k))

  pub lined_up-no_later : (j : ℕ) → j < length i.jobs → end_of (lined_up i D order) j ≤ℤ end_of s j
  lined_up-no_later j l =
      let p = λ (k : ℕ). D * time_at i k in
      let done = ends_cover_work job_of start finish (length i.jobs) s.pieces 1 p last order o plan.jobs
      plan.apart (λ k b. plan.work k b ∙ sym (one-mul (p k))) (last_of-bound job_of finish s.pieces) j in
      subst₂ (λ x y. x ≤ℤ y) (sym (end_of-lined_up i line D plan.some order o j l)) (sym (last_is j)) (pos-le (omega (arith, end_in-done p last 0 order j last_rises (OnceBelow-contains o j l), done)))

  -- ---- and arcs go forward
  fits : Fits (frame_by Identical i) s.unit s.pieces
  fits = subst (λ k. Fits (frame_by k i) s.unit s.pieces) line.machine.kind (Fits-from_feasible i s (IsShaped-from_identical i line.machine.kind) f)

  works : HasWork (frame_by Identical i)
  works = record { some = λ j l. (0, refl, line.some j l) }

  -- along an arc ends grow
  arc_grows : (a : Arc) → Contains i.arcs a → end_of s a.before <ℤ end_of s a.after
  arc_grows a c =
      let inside = All-contains (λ x. (x.before < length i.jobs) × (x.after < length i.jobs)) i.arcs a line.arcs c in
      let (p, cp, ep, tp) = last_end-reached (frame_by Identical i) s.unit s.pieces fits works a.before inside.0 in
      let (q, cq, eq) = piece_of (frame_by Identical i) s.unit s.pieces fits works a.after inside.1 in
      let first = All-contains (λ x. All (λ y. x.job ≡ a.before → y.job ≡ a.after → IsBefore x y) s.pieces)
      s.pieces p (All-contains (λ b. All (λ x. All (λ y. x.job ≡ b.before → y.job ≡ b.after → IsBefore x y) s.pieces) s.pieces) i.arcs a f.arc c) cp in
      let before = All-contains (λ y. p.job ≡ a.before → y.job ≡ a.after → IsBefore p y) s.pieces q first cq ep eq in
      subst₂ (λ x y. x <ℤ last_end s.pieces y) tp eq (omega (arith, ints, (All-contains Lasts s.pieces q f.span cq).1, last_end-contains s.pieces q cq))

  pub forward_by_ends : AllPairs (MayPrecede i.arcs) order
  forward_by_ends a b d h k arc c e g =
      omega (arith, ints, rises a b d h k, subst₂ (λ x y. end_of s x <ℤ end_of s y) e g (arc_grows arc c))

  pub loose_by_ends : All (λ a. a.before ≢ a.after) i.arcs
  loose_by_ends k d l e =
      let a = get_or i.arcs k d in
      omega (arith, ints, subst (λ x. end_of s x <ℤ end_of s a.after) e (arc_grows a (Contains-get_or i.arcs k d l)))

  -- no two jobs end together
  ends_differ : (a b : ℕ) → a < length i.jobs → b < length i.jobs → end_of s a ≡ end_of s b → a ≡ b
  ends_differ a b l m e =
      let (p, cp, jp, tp) = last_end-reached (frame_by Identical i) s.unit s.pieces fits works a l in
      let (q, cq, jq, tq) = last_end-reached (frame_by Identical i) s.unit s.pieces fits works b m in
      let h = All-contains IsTimed s.pieces p plan.timed cp in
      let k = All-contains IsTimed s.pieces q plan.timed cq in
      let together : finish p ≡ finish q = ap nat_abs (tp ∙ e ∙ sym tq) in
      elim (AllPairs-contains (IsApart start finish) s.pieces p q plan.apart cp cq) [
        | inl apart ↦ absurd (never (start p) (finish p) (start q) (finish q) h.lasts k.lasts together apart)
        | inr (inl same) ↦ sym jp ∙ ap (λ x. x.job) same ∙ jq
        | inr (inr apart) ↦ absurd (never (start q) (finish q) (start p) (finish p) k.lasts h.lasts (sym together) apart)
      ]
    where
      never : (a b c d : ℕ) → a < b → c < d → b ≡ d → (b ≤ c) ⊎ (d ≤ a) → ⊥
      never a b c d h k e r = omega arith

  pub rises_strictly : AllPairs (λ a b. end_of s a <ℤ end_of s b) order
  rises_strictly a b d h k = strictly (end_of s (get_or order a d)) (end_of s (get_or order b d)) (rises a b d h k)
      (λ e. OnceBelow-distinct o a b d h k (ends_differ (get_or order a d) (get_or order b d) (o.within a d (omega arith)) (o.within b d k) e))
    where
      strictly : (x y : ℤ) → x ≤ℤ y → x ≢ y → x <ℤ y
      strictly x y h n = elim (≤ℤ_total y x) [ inl below ↦ absurd (n (≤ℤ_antisym h below)) | inr less ↦ less ]

-- ---- for another instance with the same times and arcs
pub back_to_back_agree : (p q : ℕ → ℕ) (t : ℕ) (js : List ℕ) → All (λ k. p k ≡ q k) js → back_to_back piece p t js ≡ back_to_back piece q t js
back_to_back_agree p q t [] h = refl
back_to_back_agree p q t (j ∷ js) h =
    ap (λ n. piece j t (t + n) ∷ back_to_back piece p (t + n) js) (All-head (λ k. p k ≡ q k) j js h)
    ∙ ap (λ l. piece j t (t + q j) ∷ l) (back_to_back_agree p q (t + q j) js (All-tail (λ k. p k ≡ q k) j js h))

pub record SameLine (i j : Instance) : Type 0 where
  pub count : length i.jobs ≡ length j.jobs
  pub times : (k : ℕ) → k < length i.jobs → time_at i k ≡ time_at j k
  pub arcs : i.arcs ≡ j.arcs

pub SameLine-refl : (i : Instance) → SameLine i i
SameLine-refl i = record { count = refl; times = λ k l. refl; arcs = refl }

-- the jobs lined up in the order of the ends of a schedule for i, as a schedule for j
module _ (i j : Instance) (line : IsLine i) (other : IsLine j) (same : SameLine i j)
    (s : Schedule) (f : Feasible i s) (order : List ℕ) (o : OnceBelow (length i.jobs) order) (rises : AllPairs (λ a b. end_of s a ≤ℤ end_of s b) order) where
  abbrev lined : Schedule
  lined = lined_up j (nat_abs s.unit) order

  unit_some : 1 ≤ nat_abs s.unit
  unit_some = omega (arith, ints, f.unit)

  same_lined : lined_up i (nat_abs s.unit) order ≡ lined
  same_lined = ap (λ l. record { unit = pos (nat_abs s.unit); pieces = l })
      (back_to_back_agree (λ k. nat_abs s.unit * time_at i k) (λ k. nat_abs s.unit * time_at j k) 0 order (λ k d l. ap (λ n. nat_abs s.unit * n) (same.times (get_or order k d) (o.within k d l))))

  pub end_of-by_ends : (k : ℕ) → k < length i.jobs → end_of lined k ≤ℤ end_of s k
  end_of-by_ends k l = subst (λ t. end_of t k ≤ℤ end_of s k) same_lined (lined_up-no_later i line s f order o rises k l)

  -- by ends: it costs no more
  pub cost-lined_up : SameCharges i j → cost_of j lined ≤ℤ cost_of i s
  cost-lined_up h =
      let unit_is = unit_in_parts i s f in
      ≤ℤ_trans (cost-by_ends j lined s (sym unit_is) (pos-le (omega arith)) (λ k l. end_of-by_ends k (omega (arith, same.count, l)))) (≤ℤ_of_same (sym (cost-same_charges i j s h f.unit)))

-- ---- an order of the jobs by the ends
module _ (f : ℕ → ℤ) where
  abbrev Rises : ℕ → ℕ → Type 0
  Rises a b = f a ≤ℤ f b

  insert_by-All : (P : ℕ → Type 0) (x : ℕ) (ys : List ℕ) → P x → All P ys → All P (insert_by f x ys)
  insert_by-All P x [] p h = All-cons P x [] p h
  insert_by-All P x (y ∷ ys) p h = cond_both (int_lt (f y) (f x)) (y ∷ insert_by f x ys) (x ∷ y ∷ ys) (All P)
      (λ _. All-cons P y (insert_by f x ys) (All-head P y ys h) (insert_by-All P x ys p (All-tail P y ys h))) (λ _. All-cons P x (y ∷ ys) p h)

  insert_by-rises : (x : ℕ) (ys : List ℕ) → AllPairs (λ a b. f a ≤ℤ f b) ys → AllPairs (λ a b. f a ≤ℤ f b) (insert_by f x ys)
  insert_by-rises x [] h = λ i j d a b. absurd (omega arith)
  insert_by-rises x (y ∷ ys) h = cond_both (int_lt (f y) (f x)) (y ∷ insert_by f x ys) (x ∷ y ∷ ys) (AllPairs Rises)
      (λ e. AllPairs-cons Rises y (insert_by f x ys)
      (insert_by-All (Rises y) x ys (omega (arith, ints)) (AllPairs-head Rises y ys h)) (insert_by-rises x ys (AllPairs-tail Rises y ys h)))
      (λ e. let first : f x ≤ℤ f y = omega (arith, ints) in
      AllPairs-cons Rises x (y ∷ ys) (All-cons (Rises x) y ys first (λ k d l. ≤ℤ_trans first (AllPairs-head Rises y ys h k d l))) h)

  insert_by-count : (i x : ℕ) (ys : List ℕ) → count_by (λ z. eqb z i) (insert_by f x ys) ≡ count_by (λ z. eqb z i) (x ∷ ys)
  insert_by-count i x [] = refl
  insert_by-count i x (y ∷ ys) =
      let one : ℕ → ℕ = λ z. cond (eqb z i) 1 0 in
      let moved = sum_by-cons one y (insert_by f x ys) in
      cond_both (int_lt (f y) (f x)) (y ∷ insert_by f x ys) (x ∷ y ∷ ys) (λ l. sum_by one l ≡ sum_by one (x ∷ y ∷ ys))
      (λ _. omega (arith, insert_by-count i x ys, moved, sum_by-cons one x ys, sum_by-cons one x (y ∷ ys), sum_by-cons one y ys)) (λ _. refl)

  sorted_by-All : (P : ℕ → Type 0) (xs : List ℕ) → All P xs → All P (sorted_by f xs)
  sorted_by-All P [] h = h
  sorted_by-All P (x ∷ xs) h = insert_by-All P x (sorted_by f xs) (All-head P x xs h) (sorted_by-All P xs (All-tail P x xs h))

  sorted_by-count : (i : ℕ) (xs : List ℕ) → count_by (λ z. eqb z i) (sorted_by f xs) ≡ count_by (λ z. eqb z i) xs
  sorted_by-count i [] = refl
  sorted_by-count i (x ∷ xs) =
      let one : ℕ → ℕ = λ z. cond (eqb z i) 1 0 in
      insert_by-count i x (sorted_by f xs) ∙ omega (arith, sorted_by-count i xs, sum_by-cons one x (sorted_by f xs), sum_by-cons one x xs)

  pub sorted_by-rises : (xs : List ℕ) → AllPairs (λ a b. f a ≤ℤ f b) (sorted_by f xs)
  sorted_by-rises [] = λ i j d a b. absurd (omega arith)
  sorted_by-rises (x ∷ xs) = insert_by-rises x (sorted_by f xs) (sorted_by-rises xs)

  pub sorted_by-OnceBelow : (n : ℕ) (xs : List ℕ) → OnceBelow n xs → OnceBelow n (sorted_by f xs)
  sorted_by-OnceBelow n xs o = record { within = sorted_by-All (λ x. x < n) xs o.within; once = λ i l. sorted_by-count i xs ∙ o.once i l }

pub order_of_ends-once : (i : Instance) (s : Schedule) → OnceBelow (length i.jobs) (order_of_ends i s)
order_of_ends-once i s = sorted_by-OnceBelow (end_of s) (length i.jobs) (range_with_len 0 (length i.jobs)) (OnceBelow-range (length i.jobs))

pub order_of_ends-rises : (i : Instance) (s : Schedule) → AllPairs (λ a b. end_of s a ≤ℤ end_of s b) (order_of_ends i s)
order_of_ends-rises i s = sorted_by-rises (end_of s) (range_with_len 0 (length i.jobs))

-- it is the only one: lists with the same elements that rise strictly are the same
rising_once : {X : Type 0} (R : X → X → Type 0) → ((x y : X) → R x y → R y x → ⊥) → (xs ys : List X) → AllPairs R xs → AllPairs R ys → All (Contains ys) xs → All (Contains xs) ys → xs ≡ ys
rising_once R apart [] [] h k f g = refl
rising_once R apart [] (y ∷ ys) h k f g = absurd (omega (arith, (All-head (Contains []) y ys g).1))
rising_once R apart (x ∷ xs) [] h k f g = absurd (omega (arith, (All-head (Contains []) x xs f).1))
rising_once {X} R apart (x ∷ xs) (y ∷ ys) h k f g = ap₂ (λ z zs. z ∷ zs) same
    (rising_once R apart xs ys (AllPairs-tail R x xs h) (AllPairs-tail R y ys k) (λ i d l. rest x y ys same (AllPairs-head R x xs h i d l) (All-tail (Contains (y ∷ ys)) x xs f i d l))
    (λ i d l. rest y x xs (sym same) (AllPairs-head R y ys k i d l) (All-tail (Contains (x ∷ xs)) y ys g i d l)))
  where
    first : (a b : X) (bs : List X) → Contains (b ∷ bs) a → AllPairs R (b ∷ bs) → (b ≡ a) ⊎ R b a
    first a b bs (zero, l, e) r = inl e
    first a b bs (suc n, l, e) r = inr (All-contains (R b) bs a (AllPairs-head R b bs r) (n, omega arith, e))

    same : x ≡ y
    same = elim (first x y ys (All-head (Contains (y ∷ ys)) x xs f) k) [
      | inl e ↦ sym e
      | inr below ↦ elim (first y x xs (All-head (Contains (x ∷ xs)) y ys g) h) [ inl e ↦ e | inr above ↦ absurd (apart x y above below) ]
    ]

    rest : (a b : X) (bs : List X) → a ≡ b → {z : X} → R a z → Contains (b ∷ bs) z → Contains bs z
    rest a b bs e {z} r (zero, l, s) = absurd (apart a a (subst (R a) (sym s ∙ sym e) r) (subst (R a) (sym s ∙ sym e) r))
    rest a b bs e {z} r (suc n, l, s) = (n, omega arith, s)

pub order_of_ends-only : (i : Instance) → IsLine i → (s : Schedule)
    → Feasible i s → (order : List ℕ) → OnceBelow (length i.jobs) order → AllPairs (λ a b. end_of s a ≤ℤ end_of s b) order → order ≡ order_of_ends i s
order_of_ends-only i line s f order o rises =
    let model = order_of_ends i s in
    let once = order_of_ends-once i s in
    rising_once (λ a b. end_of s a <ℤ end_of s b) (λ x y h k. omega (arith, ints))
    order model (rises_strictly i line s f order o rises) (rises_strictly i line s f model once (order_of_ends-rises i s))
    (λ k d l. OnceBelow-contains once (get_or order k d) (o.within k d l)) (λ k d l. OnceBelow-contains o (get_or model k d) (once.within k d l))
