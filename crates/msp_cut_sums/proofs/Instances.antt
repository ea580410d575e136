-- What the instances of the classes have.
use Rattle.std.proofs.Common.{◌≡◌, ℕ, ◌*◌, ◌<◌, ◌≤◌, Bool, true, false, [], length, get_or, pos, ◌≤ℤ◌, inl, inr, ◌⊎◌, sym, ap, subst, true≢false, ◌∙◌, arith}
use Rattle.std.proofs.lemmas.Int.{ints}
use Rattle.std.proofs.lemmas.List.{get_or_default}
use Rattle.msp_class.specs.declared.sizes.TheConstants.{GREATEST, GREATEST_EQUAL_TIME}
use Rattle.msp_class.specs.declared.environments.EnvKind.TheVariants.{Identical}
use Rattle.msp_class.specs.declared.class.Times.{Times}
use Rattle.msp_class.specs.declared.class.Times.TheVariants.{Unit as UnitTimes, Equal}
use Rattle.msp_class.specs.Env.{kind_of, is_shop, is_shop_kind, is_mirror_kind}
use Rattle.msp_class.specs.Sums.{total_below}
use Rattle.msp_class.proofs.Sums.{total_below-same, total_below-constant}
use Rattle.msp_instance.specs.declared.Instance.{Instance}
use Rattle.msp_instance.specs.Instance.{no_job, no_need, job_at, need_at, common_time}
use Rattle.msp_instance.specs.Conditions.{Inner}
use Rattle.msp_pieces.specs.Feasible.{HasOperation, whole_work}
use Rattle.msp_pieces.specs.LastEnds.{AreOnMachines}
use Rattle.msp_pieces.specs.Loads.{job_length}
use Rattle.msp_pieces.specs.BackToBack.{time_at}
use Rattle.msp_pieces.proofs.lists.Places.{sum_by-places}
use Rattle.msp_pieces.proofs.feasible.Frames.{IsShaped-from_identical, rate_on}
use Rattle.msp_pieces.proofs.feasible.OfClass.{IsOfClass, IsOfClass-from}
use Rattle.msp_route.specs.Bounds.{answer_unit}
use Rattle.msp_route.proofs.Placed.{HasOperations}
use Rattle.msp_cut_sums.specs.Sums.{cut_sum_class, cut_weights_class, open_weights_class, cut_open_weights_class}

-- nothing is released later than at 0, operations have no route, and an answer may have the unit 1
pub record HasFreeOperations (i : Instance) (ops : ℕ) : Type 0 where
  pub operations : HasOperations i ops
  pub mirror : is_mirror_kind (kind_of i.class.env) ≡ true
  pub release : (j : ℕ) → j < length i.jobs → (job_at i j).release ≡ 0
  pub unit : pos 1 ≤ℤ answer_unit (kind_of i.class.env)

pub no_route : {i : Instance} {ops : ℕ} → HasFreeOperations i ops → is_mirror_kind (kind_of i.class.env) ≡ false → ⊥
no_route h e = true≢false (sym h.mirror ∙ e)

-- ---- identical machines
abbrev pub IsSumInstance : Instance → Type 0
IsSumInstance i = IsOfClass i cut_sum_class

abbrev pub IsWeightsInstance : Instance → Type 0
IsWeightsInstance i = IsOfClass i cut_weights_class

HasFreeOperations-identical : (i : Instance) → kind_of i.class.env ≡ Identical → i.arcs ≡ [] → ((j : ℕ) → j < length i.jobs → (job_at i j).release ≡ 0) → HasFreeOperations i 1
HasFreeOperations-identical i kind arcs release = record {
  operations = record {
    shaped = IsShaped-from_identical i kind;
    has = λ j o l h. omega (arith, subst (λ k. HasOperation k i j o) kind h);
    rate = λ j m. ap (λ k. rate_on k i j m) kind;
    want = λ j o. ap (λ k. whole_work k i j o) kind;
    arcs = arcs;
  };
  mirror = ap is_mirror_kind kind;
  release = release;
  unit = subst (λ k. pos 1 ≤ℤ answer_unit k) (sym kind) (omega (arith, ints));
}

module _ (i : Instance) (h : IsSumInstance i) where
  pub sum_operations : HasFreeOperations i 1
  sum_operations = HasFreeOperations-identical i h.kind h.arcs (λ j l. (h.jobs j no_job l).release)

  pub sum_times : (j : ℕ) → j < length i.jobs → (1 ≤ time_at i j) × (time_at i j ≤ GREATEST)
  sum_times j l = let n = (h.jobs j no_job l).needs in n.times 0 no_need (omega (arith, n.shape.0))

module _ (i : Instance) (h : IsWeightsInstance i) where
  pub weights_operations : HasFreeOperations i 1
  weights_operations = HasFreeOperations-identical i h.kind h.arcs (λ j l. (h.jobs j no_job l).release)

  pub weights_time : (j : ℕ) → j < length i.jobs → time_at i j ≡ common_time i
  weights_time j l = (h.jobs j no_job l).times 0 no_need (omega (arith, (h.jobs j no_job l).needs.shape.0))

  pub weights_span : (1 ≤ common_time i) × (common_time i ≤ GREATEST_EQUAL_TIME)
  weights_span = let n = (h.jobs 0 no_job (omega (arith, h.some))).needs in n.times 0 no_need (omega (arith, n.shape.0))

-- ---- open shops
-- an open shop without arcs and release dates, whose operations all take one time
pub record IsEvenShop (i : Instance) : Type 0 where
  pub cut : Bool
  pub times : Times
  pub of : IsOfClass i (record cut_open_weights_class { cut = cut; times = times })
  pub time : (j o : ℕ) → j < length i.jobs → o < i.machines → (need_at i j o).time ≡ common_time i
  pub span : (1 ≤ common_time i) × (common_time i ≤ GREATEST_EQUAL_TIME)

pub IsEvenShop-from : (i : Instance) → (i.class ≡ open_weights_class) ⊎ (i.class ≡ cut_open_weights_class) → Inner i → IsEvenShop i
IsEvenShop-from i (inl e) inner =
    record { cut = false; times = UnitTimes; of = h; time = λ j o l b. one j o l b ∙ sym first; span = (omega (arith, first), omega (arith, first)) }
  where
    h : IsOfClass i open_weights_class
    h = IsOfClass-from i open_weights_class e inner

    one : (j o : ℕ) → j < length i.jobs → o < i.machines → (need_at i j o).time ≡ 1
    one j o l b = let w = h.jobs j no_job l in w.times o no_need (omega (arith, w.needs.shape.0, b))

    first : common_time i ≡ 1
    first = one 0 0 (omega (arith, h.some)) (omega (arith, h.machine))
IsEvenShop-from i (inr e) inner = record { cut = true; times = Equal; of = h; time = same; span = span }
  where
    h : IsOfClass i cut_open_weights_class
    h = IsOfClass-from i cut_open_weights_class e inner

    same : (j o : ℕ) → j < length i.jobs → o < i.machines → (need_at i j o).time ≡ common_time i
    same j o l b = let w = h.jobs j no_job l in w.times o no_need (omega (arith, w.needs.shape.0, b))

    span : (1 ≤ common_time i) × (common_time i ≤ GREATEST_EQUAL_TIME)
    span = let n = (h.jobs 0 no_job (omega (arith, h.some))).needs in n.times 0 no_need (omega (arith, n.shape.0, h.machine))

module _ (i : Instance) (h : IsEvenShop i) where
  pub shop_is : is_shop i.class.env ≡ true
  shop_is = ap is_shop_kind h.of.kind

  pub shop_needs : (j : ℕ) → j < length i.jobs → length (job_at i j).needs ≡ i.machines
  shop_needs j l = (h.of.jobs j no_job l).needs.shape.0

  pub shop_own : (j o : ℕ) → j < length i.jobs → o < i.machines → (need_at i j o).machine ≡ o
  shop_own j o l b = (h.of.jobs j no_job l).needs.shape.1 o (omega (arith, shop_needs j l, b))

  pub shop_operations : HasFreeOperations i i.machines
  shop_operations = record {
    operations = record {
      shaped = record { unrelated = λ e. cc (h.of.kind, e) };
      has = λ j o l has. omega (arith, (subst (λ k. HasOperation k i j o) h.of.kind has).0, shop_needs j l);
      rate = λ j m. ap (λ k. rate_on k i j m) h.of.kind;
      want = λ j o. ap (λ k. whole_work k i j o) h.of.kind;
      arcs = h.of.arcs;
    };
    mirror = ap is_mirror_kind h.of.kind;
    release = λ j l. (h.of.jobs j no_job l).release;
    unit = subst (λ k. pos 1 ≤ℤ answer_unit k) (sym h.of.kind) (omega (arith, ints));
  }

  pub shop_machines : AreOnMachines i
  shop_machines k d l a c b =
      let is = get_or_default i.jobs k d no_job l in
      let here : a < length (job_at i k).needs = subst (λ j. a < length j.needs) is b in
      subst (λ n. n.machine < i.machines) (sym (ap (λ j. get_or j.needs a c) is ∙ get_or_default (job_at i k).needs a c no_need here))
      (omega (arith, shop_own k a l (omega (arith, here, shop_needs k l)), here, shop_needs k l))

  pub shop_length : (j : ℕ) → j < length i.jobs → job_length i j ≡ i.machines * common_time i
  shop_length j l =
      sum_by-places (λ n. n.time) (job_at i j).needs no_need
      ∙ ap (λ n. total_below n (λ o. (need_at i j o).time)) (shop_needs j l)
      ∙ total_below-same i.machines (λ o. (need_at i j o).time) (λ _. common_time i) (λ o b. h.time j o l b)
      ∙ total_below-constant i.machines (common_time i)
