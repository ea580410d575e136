-- Pieces of a shop, one for each operation, as a schedule over the unit 1: when it is feasible, and when no feasible schedule ends earlier.
use Rattle.std.proofs.Common.{◌≡◌, ◌≢◌, ℕ, ◌+◌, ◌*◌, ◌<◌, ◌≤◌, ◌⊎◌, inl, inr, true, false, List, [], ◌∷◌, length, get_or, map, ℤ, pos, nat_abs, ◌*ℤ◌, ◌≤ℤ◌, ◌<ℤ◌, All}
use Rattle.std.proofs.Common.{AllPairs, Contains, Bool, MatchBool, refl, sym, ap, ap₂, ◌∙◌, subst, subst₂, arith, rules}
use Rattle.std.specs.Prelude.{◌==◌, ◌&&◌}
use Rattle.std.proofs.lemmas.Bool.{eq-eqb, and_from}
use Rattle.std.proofs.lemmas.Int.{ints}
use Rattle.std.proofs.lemmas.List.Elements.{Contains-get_or}
use Rattle.std.proofs.lemmas.List.Kept.{AllPairs-filter}
use Rattle.msp_class.specs.declared.sizes.TheConstants.{MOST_PIECES}
use Rattle.msp_class.specs.declared.environments.EnvKind.{EnvKind}
use Rattle.msp_class.specs.declared.environments.EnvKind.TheVariants.{OpenShop}
use Rattle.msp_class.specs.declared.class.Crit.TheVariants.{Cmax}
use Rattle.msp_class.specs.Env.{kind_of, is_shop_kind, is_shop}
use Rattle.msp_class.proofs.IntegerRing.{natural, pos-le, ≤ℤ_antisym, +ℤ_idl, *ℤ_comm, *ℤ-one, one-*ℤ, ≤ℤ_trans}
use Rattle.msp_class.proofs.Sums.{AllPairs-contains, Contains-filter}
use Rattle.msp_instance.specs.declared.Instance.{Instance}
use Rattle.msp_instance.specs.Instance.{no_job, job_at, need_at}
use Rattle.msp_pieces.specs.declared.Piece.{Piece}
use Rattle.msp_pieces.specs.declared.Schedule.{Schedule}
use Rattle.msp_pieces.specs.Piece.{length_of, pieces_of, IsBefore, start, finish, IsTimed}
use Rattle.msp_pieces.specs.Feasible.{Feasible, HasPlace, HasOperation, MayRun, FollowsRoute, GetsWork, IsWholeWork, total, whole_work, work_of}
use Rattle.msp_pieces.specs.Cost.{cost_of, end_of, Best}
use Rattle.msp_pieces.specs.Within.{Within}
use Rattle.msp_pieces.specs.Intervals.{IsApartOn}
use Rattle.msp_pieces.proofs.feasible.OneMachine.{IsTimed-from_span, apart_in_int}
use Rattle.msp_pieces.proofs.feasible.Frames.{of_operation-named, of_one, named_one}
use Rattle.msp_pieces.proofs.feasible.LastEnds.{last_end-bound}
use Rattle.msp_pieces.proofs.costs.Makespan.{cost_natural, ends_by_cost, cost_by_ends}
use Rattle.msp_pieces.proofs.feasible.BackToBack.{ordered_without_arcs}
use Rattle.msp_route.specs.declared.bounds.TheConstants.{GREATEST_ANSWER_MOMENT}
use Rattle.msp_route.specs.Bounds.{IsAnswer, answer_unit}
use Rattle.msp_route.proofs.Owed.{answer_is_within}
use Rattle.msp_shops.specs.Pass.{machine_of}

-- ---- the kinds of shops
-- a job's operation that takes time
abbrev pub IsTimely : Instance → ℕ → ℕ → Type 0
IsTimely i j o = (o < length (job_at i j).needs) × ((need_at i j o).time ≢ 0)

has_by : (k : EnvKind) (i : Instance) (j o : ℕ) → is_shop_kind k ≡ true → IsTimely i j o → HasOperation k i j o
has_by OpenShop i j o s h = h
has_by _ i j o s h = search rules

by_has : (k : EnvKind) (i : Instance) (j o : ℕ) → is_shop_kind k ≡ true → HasOperation k i j o → IsTimely i j o
by_has OpenShop i j o s h = h
by_has _ i j o s h = search rules

may_by : (k : EnvKind) (i : Instance) (j o m : ℕ) → is_shop_kind k ≡ true → m ≡ (need_at i j o).machine → MayRun k i j o m
may_by OpenShop i j o m s h = h
may_by _ i j o m s h = search rules

whole_by : (k : EnvKind) (i : Instance) (unit : ℤ) (p : Piece) → is_shop_kind k ≡ true → length_of p ≡ unit *ℤ pos (need_at i p.job p.op).time → IsWholeWork k i unit p
whole_by OpenShop i unit p s h = h
whole_by _ i unit p s h = search rules

sums_by : (k : EnvKind) (i : Instance) (ps : List Piece) (j o : ℕ) (unit : ℤ)
    → is_shop_kind k ≡ true → total (map length_of ps) ≡ unit *ℤ pos (need_at i j o).time → total (map (work_of k i) ps) ≡ unit *ℤ pos (whole_work k i j o)
sums_by OpenShop i ps j o unit s h = h
sums_by _ i ps j o unit s h = search rules

route_by : (k : EnvKind) (ps : List Piece) → is_shop_kind k ≡ true → (k ≡ OpenShop) ⊎ All (λ p. All (λ q. p.job ≡ q.job → p.op < q.op → IsBefore p q) ps) ps → FollowsRoute k ps
route_by OpenShop ps s h = tt
route_by _ ps s (inr h) = search rules
route_by _ ps s (inl e) = absurd (cc)

-- the unit is within the limits of an answer
unit_by : (k : EnvKind) → is_shop_kind k ≡ true → pos 1 ≤ℤ answer_unit k
unit_by OpenShop s = omega (arith, ints)
unit_by _ s = omega (arith, ints)

-- a shop without precedence and release dates, and the greatest completion time
pub record IsPlainShop (i : Instance) : Type 0 where
  pub kind : is_shop i.class.env ≡ true
  pub crit : i.class.crit ≡ Cmax
  pub arcs : i.arcs ≡ []
  pub release : All (λ j. j.release ≡ 0) i.jobs
  pub some : 1 ≤ length i.jobs

pub is_before : (p q : Piece) → IsTimed p → IsTimed q → finish p ≤ start q → IsBefore p q
is_before p q t u l = omega (arith, ints, t.to, u.from, l)

-- ---- plans: the pieces of all operations that take time
pub record IsShopPlan (i : Instance) (ps : List Piece) : Type 0 where
  pub timed : All IsTimed ps
  pub job : All (λ p. p.job < length i.jobs) ps
  pub operation : All (λ p. p.op < length (job_at i p.job).needs) ps
  pub machine : All (λ p. p.machine ≡ (need_at i p.job p.op).machine) ps
  pub whole : All (λ p. finish p ≡ start p + (need_at i p.job p.op).time) ps
  pub apart : AllPairs (IsApartOn machine_of start finish) ps
  -- the pieces of a job stand in the order in which they run
  pub in_order : AllPairs (λ p q. p.job ≡ q.job → (p.op ≢ q.op) × (finish p ≤ start q)) ps
  -- which is that of their numbers, but on open shops
  pub route : (kind_of i.class.env ≡ OpenShop) ⊎ AllPairs (λ p q. p.job ≡ q.job → p.op < q.op) ps
  pub each : (j o : ℕ) → j < length i.jobs → IsTimely i j o → (p : Piece) × Contains ps p × (p.job ≡ j) × (p.op ≡ o)

abbrev pub over_one : List Piece → Schedule
over_one ps = record { unit = pos 1; pieces = ps }

module _ (i : Instance) (h : IsPlainShop i) (ps : List Piece) (w : IsShopPlan i ps) where
  abbrev s : Schedule
  s = over_one ps

  lasts : (p : Piece) (t : ℕ) → IsTimed p → finish p ≡ start p + t → (t ≢ 0) × (length_of p ≡ pos t)
  lasts p t d e = (λ z. absurd (omega (arith, d.lasts, e, z)), omega (arith, ints, d.from, d.to, e))

  places : All (HasPlace i) ps
  places k d l = let p = get_or ps k d in record {
    job = w.job k d l;
    operation = has_by (kind_of i.class.env) i p.job p.op h.kind (w.operation k d l, (lasts p _ (w.timed k d l) (w.whole k d l)).0);
    machine = may_by (kind_of i.class.env) i p.job p.op p.machine h.kind (w.machine k d l);
  }

  released : All (λ p. (pos 1 *ℤ pos (job_at i p.job).release) ≤ℤ p.from) ps
  released k d l = omega (arith, ints, (w.timed k d l).from, h.release (get_or ps k d).job no_job (w.job k d l))

  abbrev Follows : Piece → Piece → Type 0
  Follows p q = p.job ≡ q.job → (p.op < q.op) × IsBefore p q

  routed : (kind_of i.class.env ≡ OpenShop) ⊎ AllPairs (λ p q. p.job ≡ q.job → p.op < q.op) ps
      → (kind_of i.class.env ≡ OpenShop) ⊎ All (λ p. All (λ q. p.job ≡ q.job → p.op < q.op → IsBefore p q) ps) ps
  routed (inl e) = inl e
  routed (inr r) = inr (λ a d l b e m same less. by (get_or ps a d) (get_or ps b e) same less
      (AllPairs-contains Follows ps (get_or ps a d) (get_or ps b e)
      (λ x y c g k same. (r x y c g k same, is_before _ _ (w.timed x c (omega arith)) (w.timed y c k) (w.in_order x y c g k same).1))
      (Contains-get_or ps a d l) (Contains-get_or ps b e m)))
    where
      by : (p q : Piece) → p.job ≡ q.job → p.op < q.op → Follows p q ⊎ ((p ≡ q) ⊎ Follows q p) → IsBefore p q
      by p q same less (inl f) = (f same).1
      by p q same less (inr (inl e)) = absurd (omega (arith, less, ap (λ x. x.op) e))
      by p q same less (inr (inr f)) = absurd (omega (arith, less, (f (sym same)).0))

  module _ (j o : ℕ) (inside : j < length i.jobs) (timely : IsTimely i j o) where
    abbrev mine : List Piece
    mine = pieces_of s j o

    sole : (p : Piece) × (mine ≡ p ∷ [])
    sole = by mine refl
      where
        found : Contains mine (w.each j o inside timely).0
        found = let e = w.each j o inside timely in Contains-filter (λ p. (p.job == j) && (p.op == o)) ps e.0 e.1 (and_from _ _ (eq-eqb _ _ e.2) (eq-eqb _ _ e.3))

        by : (l : List Piece) → mine ≡ l → (p : Piece) × (mine ≡ p ∷ [])
        by [] e = absurd (omega (arith, (subst (λ l. Contains l (w.each j o inside timely).0) e found).1))
        by (p ∷ []) e = (p, e)
        by (p ∷ q ∷ rest) e = absurd (
            let pairs = subst (AllPairs (λ p q. p.job ≡ q.job → (p.op ≢ q.op) × (finish p ≤ start q)))
            e (AllPairs-filter (λ p q. p.job ≡ q.job → (p.op ≢ q.op) × (finish p ≤ start q)) (λ p. (p.job == j) && (p.op == o)) ps w.in_order) in
            let named = subst (All (λ p. (p.job ≡ j) × (p.op ≡ o))) e (of_operation-named ps j o) in
            let a : (p.job ≡ j) × (p.op ≡ o) = named 0 p (omega arith) in
            let b : (q.job ≡ j) × (q.op ≡ o) = named 1 p (omega arith) in
            (pairs 0 1 p (omega arith) (omega arith) (a.0 ∙ sym b.0)).0 (a.1 ∙ sym b.1))

    works : GetsWork i s j o
    works =
        let (p, e) = sole in
        let t : IsTimed p = of_one IsTimed ps j o p e w.timed in
        let long : finish p ≡ start p + (need_at i p.job p.op).time = of_one (λ p. finish p ≡ start p + (need_at i p.job p.op).time) ps j o p e w.whole in
        let size : length_of p ≡ pos 1 *ℤ pos (need_at i p.job p.op).time = (lasts p _ t long).1 ∙ sym (one-*ℤ _) in
        let named = named_one ps j o p e in
        -- where it may be cut, the one piece is work that adds up
        let sum : total (map length_of mine) ≡ pos 1 *ℤ pos (need_at i j o).time =
        ap (λ l. total (map length_of l)) e ∙ +ℤ_idl (length_of p) ∙ size ∙ ap₂ (λ a b. pos 1 *ℤ pos (need_at i a b).time) named.0 named.1 in
        either i.class.cut (sums_by (kind_of i.class.env) i mine j o (pos 1) h.kind sum) (p, e, whole_by (kind_of i.class.env) i (pos 1) p h.kind size)
      where
        either : {A B : Type 0} (cut : Bool) → A → B → MatchBool cut A B
        either true a b = a
        either false a b = b

  pub Feasible-from_plan : Feasible i s
  Feasible-from_plan = record {
    unit = omega (arith, ints);
    span = λ k d l. let t = w.timed k d l in (omega (arith, ints, t.from), omega (arith, ints, t.from, t.to, t.lasts));
    place = places;
    machine = λ a b d m k e. apart_in_int _ _ (w.timed a d (omega arith)) (w.timed b d k) (w.apart a b d m k e);
    job = λ a b d m k e. inl (is_before _ _ (w.timed a d (omega arith)) (w.timed b d k) (w.in_order a b d m k e).1);
    release = released;
    arc = ordered_without_arcs i.arcs ps h.arcs;
    route = route_by (kind_of i.class.env) ps h.kind (routed w.route);
    work = λ j o l op. works j o l (by_has (kind_of i.class.env) i j o h.kind op);
  }

-- ---- best
-- no feasible schedule ends before the moment
abbrev pub IsLeastEnd : Instance → ℕ → Type 0
IsLeastEnd i end = (t : Schedule) → Feasible i t → (c : ℤ) → pos 0 ≤ℤ c → ((j : ℕ) → j < length i.jobs → end_of t j ≤ℤ c) → (t.unit *ℤ pos end) ≤ℤ c

-- the same by the ends of its pieces, in ℕ
pub IsLeastEnd-from_pieces : (i : Instance) (end : ℕ) → ((t : Schedule) → Feasible i t → (c : ℕ) → All (λ p. finish p ≤ c) t.pieces → nat_abs t.unit * end ≤ c) → IsLeastEnd i end
IsLeastEnd-from_pieces i end h t f c b ends =
    subst₂ (λ x y. (x *ℤ pos end) ≤ℤ y) (sym (natural t.unit (omega (arith, ints, f.unit)))) (sym (natural c b))
    (pos-le (h t f (nat_abs c) (λ k d l. ended (get_or t.pieces k d) (f.span k d l) (last_end-bound t.pieces k d l) (ends (get_or t.pieces k d).job (f.place k d l).job))))
  where
    ended : (p : Piece) → (pos 0 ≤ℤ p.from) × (p.from <ℤ p.to) → p.to ≤ℤ end_of t p.job → end_of t p.job ≤ℤ c → finish p ≤ nat_abs c
    ended p s l m = omega (arith, ints, (IsTimed-from_span p s).to, natural c b, l, m)

-- what is said of the answer's schedule
pub record IsBestPlan (i : Instance) (end : ℕ) (s : Schedule) : Type 0 where
  pub best : Best i s
  pub within : Within i s
  pub answer : IsAnswer i s
  pub cost : cost_of i s ≡ pos end

module _ (i : Instance) (kind : is_shop i.class.env ≡ true) (crit : i.class.crit ≡ Cmax) (some : 1 ≤ length i.jobs) (end : ℕ) (least : IsLeastEnd i end) where
  bound : (t : Schedule) → Feasible i t → (pos end *ℤ t.unit) ≤ℤ cost_of i t
  bound t f = subst (λ x. x ≤ℤ cost_of i t) (*ℤ_comm t.unit (pos end)) (least t f (cost_of i t) (omega (arith, ints, cost_natural i crit t some)) (ends_by_cost i crit t))

  module _ (ps : List Piece) (feasible : Feasible i (over_one ps)) (few : length ps ≤ MOST_PIECES) (ends : All (λ p. finish p ≤ end) ps) (short : pos end ≤ℤ GREATEST_ANSWER_MOMENT) where
    abbrev made : Schedule
    made = over_one ps

    timed : All IsTimed ps
    timed k d l = IsTimed-from_span _ (feasible.span k d l)

    ended : All (λ p. p.to ≤ℤ pos end) ps
    ended k d l = omega (arith, ints, (timed k d l).to, ends k d l)

    upper : cost_of i made ≤ℤ pos end
    upper = cost_by_ends i crit made some (pos end) (omega (arith, ints)) ended

    cost_is : cost_of i made ≡ pos end
    cost_is = ≤ℤ_antisym upper (subst (λ x. x ≤ℤ cost_of i made) (*ℤ-one (pos end)) (bound made feasible))

    is_answer : IsAnswer i made
    is_answer = record { few = few; unit = unit_by (kind_of i.class.env) kind; ends = λ k d l. ≤ℤ_trans (ended k d l) short }

    pub IsBestPlan-from_feasible : IsBestPlan i end made
    IsBestPlan-from_feasible = record {
      best = record {
        feasible = feasible;
        least = λ t f. subst (λ x. (x *ℤ t.unit) ≤ℤ (cost_of i t *ℤ pos 1)) (sym cost_is) (subst (λ x. (pos end *ℤ t.unit) ≤ℤ x) (sym (*ℤ-one (cost_of i t))) (bound t f));
      };
      within = answer_is_within i made feasible is_answer;
      answer = is_answer;
      cost = cost_is;
    }

pub IsBestPlan-from_plan : (i : Instance) → IsPlainShop i → (end : ℕ) → IsLeastEnd i end
    → (ps : List Piece) → IsShopPlan i ps → length ps ≤ MOST_PIECES → All (λ p. finish p ≤ end) ps → pos end ≤ℤ GREATEST_ANSWER_MOMENT → IsBestPlan i end (over_one ps)
IsBestPlan-from_plan i h end least ps w = IsBestPlan-from_feasible i h.kind h.crit h.some end least ps (Feasible-from_plan i h ps w)
