-- Open shops of two machines: what an instance has, the greatest of its loads and lengths, and why the second machine ends by it.
use Rattle.std.proofs.Common.{◌*◌, ◌≡◌, ℕ, zero, suc, ◌+◌, ◌<◌, ◌≤◌, ◌⊎◌, inl, inr, max, min, false, Bool, cond, eqb, List, ◌∷◌, ◌++◌, length, get_or, All, Contains}
use Rattle.std.proofs.Common.{pos, ◌*ℤ◌, ◌≤ℤ◌, sum_by, refl, sym, ap, subst, ◌∙◌, arith}
use Rattle.std.specs.List.{range_with_len}
use Rattle.std.proofs.lemmas.Bool.{cases_lt}
use Rattle.std.proofs.lemmas.List.Elements.{All-contains, Contains-append_right}
use Rattle.std.proofs.lemmas.List.Sums.{sum_by-append, sum_by-cons}
use Rattle.msp_class.specs.declared.sizes.TheConstants.{MOST_JOBS, GREATEST, MOST_MACHINES}
use Rattle.msp_class.specs.declared.class.Env.TheVariants.{O2}
use Rattle.msp_class.specs.declared.environments.EnvKind.TheVariants.{OpenShop}
use Rattle.msp_class.specs.Env.{kind_of, is_shop_kind}
use Rattle.msp_class.proofs.IntegerRing.{≤ℤ_trans}
use Rattle.msp_class.specs.Sums.{total_below}
use Rattle.msp_class.proofs.Sums.{total_below-same, total_below-bound, sum_by-mono, OnceBelow-range, OnceBelow-contains, length-OnceBelow, total_below-only, eqb_comm}
use Rattle.msp_class.specs.declared.class.Env.{Env}
use Rattle.msp_instance.specs.declared.Need.{Need}
use Rattle.msp_instance.specs.declared.Instance.{Instance}
use Rattle.msp_instance.specs.Instance.{no_need, no_job, job_at, need_at}
use Rattle.msp_instance.specs.Conditions.{Inner, HasShape, inner_factor}
use Rattle.msp_pieces.specs.Loads.{machine_load, job_length}
use Rattle.msp_pieces.proofs.lists.Intervals.{greatest_by, greatest_by-contains, greatest_by-reached}
use Rattle.msp_pieces.proofs.lists.Places.{sum_by-places}
use Rattle.msp_pieces.proofs.bounds.Loads.{law_of_machines, law_of_lines}
use Rattle.msp_pieces.proofs.feasible.OfClass.{IsOfClass-from, IsOfClass}
use Rattle.msp_shops.specs.declared.pass.JobTimes.{JobTimes}
use Rattle.msp_shops.specs.Pass.{IsCritical}
use Rattle.msp_shops.specs.Open.{open_class, IsOpenEnd}
use Rattle.msp_shops.specs.OpenOrder.{AreGrouped}
use Rattle.msp_shops.proofs.JohnsonOrder.{all_before, all_after}
use Rattle.msp_shops.proofs.Shops.{IsPlainShop, IsLeastEnd}
use Rattle.msp_shops.proofs.ShopClasses.{fixed_machines_of}
use Rattle.msp_shops.specs.OpenCut.{IsGreatestLine}

-- ---- what an instance has, cut or not: each job has one operation on each machine, in order of number
pub record IsOpenShop (i : Instance) : Type 0 where
  pub kind : kind_of i.class.env ≡ OpenShop
  pub shop : IsPlainShop i
  pub few : length i.jobs ≤ MOST_JOBS
  pub few_machines : i.machines ≤ MOST_MACHINES
  pub needs : (j : ℕ) → j < length i.jobs → length (job_at i j).needs ≡ i.machines
  pub machines : (j o : ℕ) → j < length i.jobs → o < i.machines → (need_at i j o).machine ≡ o
  pub times : (j o : ℕ) → j < length i.jobs → o < i.machines → (need_at i j o).time ≤ GREATEST

pub IsOpenShop-from : (i : Instance) (e : Env) (cut : Bool) → kind_of e ≡ OpenShop → IsOfClass i (record open_class { env = e; cut = cut }) → IsOpenShop i
IsOpenShop-from i e cut kind h = record {
  kind = h.kind ∙ kind;
  shop = record { kind = ap is_shop_kind (h.kind ∙ kind); crit = h.crit; arcs = h.arcs; release = λ k d l. (h.jobs k d l).release; some = h.some };
  few = h.few;
  few_machines = h.machines;
  needs = λ j l. (shape j l).0;
  machines = λ j o l b. (shape j l).1 o (omega (arith, (shape j l).0, b));
  times = λ j o l b. subst (λ k. (need_at i j o).time ≤ GREATEST * inner_factor k) kind
      ((h.jobs j no_job l).needs.times o no_need (omega (arith, (shape j l).0, b))).1;
}
  where
    shape : (j : ℕ) → j < length i.jobs → HasShape OpenShop e i.machines (job_at i j).needs
    shape j l = subst (λ k. HasShape k e i.machines (job_at i j).needs) kind (h.jobs j no_job l).needs.shape

-- with two machines
pub record IsOpenInstance (i : Instance) : Type 0 where
  pub is : IsOpenShop i
  pub two : i.machines ≡ 2

pub IsOpenInstance-from_class : (i : Instance) → i.class ≡ open_class → Inner i → IsOpenInstance i
IsOpenInstance-from_class i e inner = record {
  is = IsOpenShop-from i O2 false refl (IsOfClass-from i open_class e inner);
  two = fixed_machines_of i O2 (ap (λ c. c.env) e) inner;
}

-- ---- loads and lengths
pub one_or_other : (o : ℕ) → o < 2 → (o ≡ 0) ⊎ (o ≡ 1)
one_or_other zero l = inl refl
one_or_other (suc zero) l = inr refl
one_or_other (suc (suc o)) l = absurd (omega arith)

on_machine : (needs : List Need) (n o : ℕ) → length needs ≡ n
    → ((k : ℕ) → k < n → (get_or needs k no_need).machine ≡ k) → o < n → sum_by (λ n. cond (eqb n.machine o) n.time 0) needs ≡ (get_or needs o no_need).time
on_machine needs n o size is l =
    sum_by-places (λ (n : Need). cond (eqb n.machine o) n.time 0) needs no_need
    ∙ ap (λ k. total_below k (λ k. cond (eqb (get_or needs k no_need).machine o) (get_or needs k no_need).time 0)) size
    ∙ total_below-same n (λ k. cond (eqb (get_or needs k no_need).machine o) (get_or needs k no_need).time 0)
    (λ k. cond (eqb o k) (get_or needs k no_need).time 0) (λ k m. ap (λ b. cond b (get_or needs k no_need).time 0) (ap (λ x. eqb x o) (is k m) ∙ eqb_comm k o))
    ∙ total_below-only n (λ k. (get_or needs k no_need).time) o l

module _ (i : Instance) (h : IsOpenShop i) where
  pub load_is : (o : ℕ) → o < i.machines → machine_load i o ≡ total_below (length i.jobs) (λ j. (need_at i j o).time)
  load_is o l =
      sum_by-places (λ j. sum_by (λ n. cond (eqb n.machine o) n.time 0) j.needs) i.jobs no_job
      ∙ total_below-same (length i.jobs) _ (λ j. (need_at i j o).time) (λ j b. on_machine (job_at i j).needs i.machines o (h.needs j b) (λ k m. h.machines j k b m) l)

  pub length_is : (j : ℕ) → j < length i.jobs → job_length i j ≡ total_below i.machines (λ o. (need_at i j o).time)
  length_is j l = sum_by-places (λ (n : Need). n.time) (job_at i j).needs no_need ∙ ap (λ n. total_below n (λ o. (need_at i j o).time)) (h.needs j l)

  pub load_short : (o : ℕ) → o < i.machines → machine_load i o ≤ MOST_JOBS * GREATEST
  load_short o l = omega (arith, load_is o l, total_below-bound (length i.jobs) GREATEST (λ j. (need_at i j o).time) (λ j b. h.times j o b l), h.few)

  pub length_short : (j : ℕ) → j < length i.jobs → job_length i j ≤ MOST_MACHINES * GREATEST
  length_short j l = omega (arith, length_is j l, total_below-bound i.machines GREATEST (λ o. (need_at i j o).time) (λ o b. h.times j o l b), h.few_machines)

  pub end_short : (end : ℕ) → IsGreatestLine i end → end ≤ MOST_JOBS * GREATEST
  end_short end e = elim e.reached [ inl (m, l, f) ↦ omega (arith, f, load_short m l) | inr (j, l, f) ↦ omega (arith, f, length_short j l) ]

  pub least_end : (end : ℕ) → IsGreatestLine i end → IsLeastEnd i end
  least_end end e t f c b ends = elim e.reached [
    | inl (m, l, g) ↦ subst (λ n. (t.unit *ℤ pos n) ≤ℤ c) (sym g) (law_of_machines i t m c h.shop.kind f b ends)
    | inr (j, l, g) ↦ subst (λ n. (t.unit *ℤ pos n) ≤ℤ c) (sym g) (≤ℤ_trans (law_of_lines i t j h.shop.kind f l) (ends j l))
  ]

module _ (i : Instance) (h : IsOpenInstance i) where
  pub length_of_two : (j : ℕ) → j < length i.jobs → job_length i j ≡ (need_at i j 0).time + (need_at i j 1).time
  length_of_two j l = omega (arith, length_is i h.is j l, ap (λ n. total_below n (λ o. (need_at i j o).time)) h.two)

  pub greatest_line : (end : ℕ) → IsOpenEnd i end → IsGreatestLine i end
  greatest_line end e = record {
    loads = λ m l. elim (one_or_other m (omega (arith, l, h.two))) [
      | inl z ↦ omega (arith, ap (machine_load i) z, e.first_load)
      | inr z ↦ omega (arith, ap (machine_load i) z, e.second_load)
    ];
    lengths = e.lengths;
    reached = elim e.reached [ inl f ↦ inl (0, omega (arith, h.two), f) | inr g ↦ elim g [ inl f ↦ inl (1, omega (arith, h.two), f) | inr f ↦ inr f ] ];
  }

abbrev pub job_numbers : Instance → List ℕ
job_numbers i = range_with_len 0 (length i.jobs)

-- there is a greatest of the loads and lengths
abbrev pub open_end : Instance → ℕ
open_end i = max (max (machine_load i 0) (machine_load i 1)) (greatest_by (job_length i) (job_numbers i))

pub IsOpenEnd-open_end : (i : Instance) → 1 ≤ length i.jobs → IsOpenEnd i (open_end i)
IsOpenEnd-open_end i some = record {
  first_load = omega arith;
  second_load = omega arith;
  lengths = λ j l. omega (arith, greatest_by-contains (job_length i) (job_numbers i) j (OnceBelow-contains (OnceBelow-range (length i.jobs)) j l));
  reached = by (machine_load i 0) (machine_load i 1) (greatest_by (job_length i) (job_numbers i))
      (greatest_by-reached (job_length i) (job_numbers i) (omega (arith, some, length-OnceBelow (OnceBelow-range (length i.jobs)))));
}
  where
    by : (a b c : ℕ) → (j : ℕ) × Contains (job_numbers i) j × (job_length i j ≡ c)
        → (max (max a b) c ≡ a) ⊎ ((max (max a b) c ≡ b) ⊎ ((j : ℕ) × (j < length i.jobs) × (max (max a b) c ≡ job_length i j)))
    by a b c (j, k, e) = elim (cases_lt (max a b) c) [
      | inl l ↦ inr (inr (j, All-contains (λ x. x < length i.jobs) (job_numbers i) j (OnceBelow-range (length i.jobs)).within k, omega (arith, l, e)))
      | inr l ↦ elim (cases_lt a b) [ inl m ↦ inr (inl (omega (arith, l, m))) | inr m ↦ inl (omega (arith, l, m)) ]
    ]

-- ---- the critical job
abbrev EarlierShorter : JobTimes → JobTimes → Type 0
EarlierShorter s t = t.first ≤ t.second → s.first ≤ s.second

pub critical_end : (others : List JobTimes) (a b end y : ℕ) → a ≤ b
    → All (λ t. min t.first t.second ≤ min a b) others → AreGrouped others → a + sum_by (λ t. t.first) others ≤ end → b + sum_by (λ t. t.second) others ≤ end →
    IsCritical others (record { first = 0; second = b }) y → y ≤ end
critical_end others a b end y small greatest grouped one two (inl e) = omega (arith, e, two)
critical_end others a b end y small greatest grouped one two (inr (before, k, rest, is, e)) = elim (cases_lt k.second k.first) [
  | inl l ↦ omega (arith, e, l, mine, small, sum_by-mono (λ t. t.second) (λ t. t.first) rest (behind l), sums (λ t. t.first), one)
  | inr l ↦ omega (arith, e, l, mine, sum_by-mono (λ t. t.first) (λ t. t.second) before (ahead l), sums (λ t. t.second), two)
]
  where
    in_all : All (λ t. min t.first t.second ≤ min a b) (before ++ k ∷ rest)
    in_all = subst (All (λ t. min t.first t.second ≤ min a b)) is greatest

    in_groups : AreGrouped (before ++ k ∷ rest)
    in_groups = subst AreGrouped is grouped

    sums : (f : JobTimes → ℕ) → sum_by f others ≡ sum_by f before + (f k + sum_by f rest)
    sums f = ap (sum_by f) is ∙ sum_by-append f before (k ∷ rest) ∙ ap (λ n. sum_by f before + n) (sum_by-cons f k rest)

    mine : min k.first k.second ≤ min a b
    mine = All-contains (λ t. min t.first t.second ≤ min a b) (before ++ k ∷ rest) k in_all (Contains-append_right before (k ∷ rest) k (0, omega arith, refl))

    ahead : k.first ≤ k.second → All (λ t. t.first ≤ t.second) before
    ahead l n d b = all_before EarlierShorter before k rest in_groups n d b l

    behind : k.second < k.first → All (λ t. t.second ≤ t.first) rest
    behind l n d b = elim (cases_lt (get_or rest n d).second (get_or rest n d).first) [
      | inl m ↦ omega (arith, m)
      | inr m ↦ absurd (omega (arith, l, all_after EarlierShorter before k rest in_groups n d b m))
    ]
