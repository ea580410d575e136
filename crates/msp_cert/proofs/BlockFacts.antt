-- Heads that arcs back, and the least cost of the last jobs of a block.
use Rattle.std.proofs.Common.{◌≡◌, ◌⊎◌, inl, inr, ℕ, ◌+◌, ◌*◌, ◌<◌, ◌≤◌, Bool, true, false, cond, List, [], ◌∷◌, ◌++◌, length, get_or, take, All, Any, Some, None, ℤ, pos, ◌+ℤ◌}
use Rattle.std.proofs.Common.{◌*ℤ◌, ◌≤ℤ◌, sum_by, refl, sym, ap, subst, subst₂, ◌∙◌, arith, unwrap_or}
use Rattle.std.specs.Prelude.{slice_get, Option, int_lt}
use Rattle.std.specs.Option.{IfSome}
use Rattle.std.proofs.lemmas.Bool.{false≢true, cases_Bool, cases_lt}
use Rattle.std.proofs.lemmas.Int.{ints}
use Rattle.std.proofs.lemmas.Nat.{mul-le}
use Rattle.std.proofs.lemmas.Option.{unwrap_or-slice_get}
use Rattle.std.proofs.lemmas.List.{get_or_default, take_all, take_more}
use Rattle.std.proofs.lemmas.List.Elements.{All-push, Contains-push, Contains-append_left}
use Rattle.msp_class.specs.declared.sizes.TheConstants.{MOST_STEPS, GREATEST}
use Rattle.msp_class.proofs.Sums.{sum_by-mono, sum_by-constant}
use Rattle.msp_class.proofs.IntegerRing.{≤ℤ_refl, ≤ℤ_trans}
use Rattle.msp_class.specs.Crit.{uses_curve}
use Rattle.msp_class.specs.declared.class.Crit.TheVariants.{Fmax}
use Rattle.msp_instance.specs.declared.Job.{Job}
use Rattle.msp_instance.specs.declared.Step.{Step}
use Rattle.msp_instance.specs.declared.Instance.{Instance}
use Rattle.msp_instance.specs.Instance.{no_job, no_need, job_at, need_at}
use Rattle.msp_instance.specs.Conditions.{LiesWithin, HasCurve, InClass, text_limits}
use Rattle.msp_instance.specs.declared.path_bits.Paths.{Paths}
use Rattle.msp_instance.specs.Paths.{ShowsPaths, leads}
use Rattle.msp_pieces.specs.declared.Frac.{Frac}
use Rattle.msp_pieces.specs.Blocks.{LeadsToNone, IsBlockValue, total_time, cost_at}
use Rattle.msp_pieces.specs.Cost.{jump, jumps, job_cost}
use Rattle.msp_pieces.specs.Within.{HasSmallCost}
use Rattle.msp_pieces.proofs.costs.Jumps.{jumps_le}
use Rattle.msp_pieces.proofs.costs.Small.{FitTogether, HasSmallCost-from, product_within}
use Rattle.msp_cert.specs.declared.Proof.TheVariants.{Block}
use Rattle.msp_cert.specs.Certificates.{IsBlockOf, of_job}
use Rattle.msp_cert.specs.Worth.{IsWorth, greatest_value, latest_end}
use Rattle.msp_cert.specs.Least.{IsLast, IsOwnCost, IsLeast, lesser}

-- ---- what is read past the last job
missing : (i : Instance) (j : ℕ) → None ≡ slice_get i.jobs j → job_at i j ≡ no_job
missing i j e = sym (unwrap_or-slice_get i.jobs j no_job) ∙ ap (λ o. unwrap_or o no_job) (sym e)

pub no_release : (i : Instance) (j : ℕ) → None ≡ slice_get i.jobs j → 0 ≡ (job_at i j).release
no_release i j e = sym (ap (λ (x : Job). x.release) (missing i j e))

pub no_time : (i : Instance) (j : ℕ) → None ≡ slice_get i.jobs j → 0 ≡ (need_at i j 0).time
no_time i j e = sym (ap (λ (x : Job). (get_or x.needs 0 no_need).time) (missing i j e))

-- ---- the least head
pub record IsLeastHead (head jobs : List ℕ) (k least : ℕ) : Type 0 where
  pub first : (p : ℕ) × (p < k) × (of_job head (get_or jobs p 0) ≡ least)
  pub after : (p : ℕ) → p < k → least ≤ of_job head (get_or jobs p 0)

pub first_head : (head jobs : List ℕ) (least : ℕ) → least ≡ of_job head (get_or jobs 0 0) → IsLeastHead head jobs 1 least
first_head head jobs least e = record {
  first = (0, omega arith, sym e);
  after = λ p t. let zero : p ≡ 0 = omega (arith, t) in subst (λ q. least ≤ of_job head (get_or jobs q 0)) (sym zero) (omega (arith, e));
}

pub next_head : (head jobs : List ℕ) (k least own new : ℕ) → own ≡ of_job head (get_or jobs k 0)
    → (new ≡ least) ⊎ (new ≡ own) → (new ≤ least) × (new ≤ own) → IsLeastHead head jobs k least → IsLeastHead head jobs (k + 1) new
next_head head jobs k least own new e one low h = record {
  first = elim one as (λ _. (p : ℕ) × (p < k + 1) × (of_job head (get_or jobs p 0) ≡ new)) [
    | inl old ↦ (h.first.0, omega (arith, h.first.1), h.first.2 ∙ sym old)
    | inr now ↦ (k, omega arith, sym e ∙ sym now)
  ];
  after = λ p t. elim (cases_lt p k) as (λ _. new ≤ of_job head (get_or jobs p 0)) [
    | inl before ↦ omega (arith, low.0, h.after p before)
    | inr last ↦ let same : p ≡ k = omega (arith, t, last) in subst (λ q. new ≤ of_job head (get_or jobs q 0)) (sym same) (omega (arith, low.1, e))
  ];
}

pub head_reached : (head jobs : List ℕ) (k least : ℕ) → IsLeastHead head jobs k least → k ≤ length jobs → Any (λ j. of_job head j ≡ least) jobs
head_reached head jobs k least h t =
    (h.first.0, get_or jobs h.first.0 0, omega (arith, h.first.1, t), get_or_default jobs h.first.0 (get_or jobs h.first.0 0) 0 (omega (arith, h.first.1, t)), h.first.2)

pub head_low : (head jobs : List ℕ) (k least : ℕ) → IsLeastHead head jobs k least → length jobs ≤ k → All (λ j. least ≤ of_job head j) jobs
head_low head jobs k least h past p d t = subst (λ j. least ≤ of_job head j) (get_or_default jobs p 0 d t) (h.after p (omega (arith, t, past)))

-- ---- the cost of a job
adds_few : (steps : List Step) (x : ℤ) → length steps ≤ MOST_STEPS → All (λ s. (s.above ≤ GREATEST) × (s.add ≤ GREATEST)) steps → sum_by (λ s. jump (pos 1) s x) steps ≤ MOST_STEPS * GREATEST
adds_few steps x few h =
    let each = sum_by-mono (λ s. s.add) (λ _. GREATEST) steps (λ k d l. (h k d l).1) in
    let same = sum_by-constant GREATEST steps in
    let most = mul-le (length steps) GREATEST MOST_STEPS GREATEST few (omega arith) in
    omega (arith, jumps_le (pos 1) x steps, each, same, most)

curve_within : (slope e adds : ℕ) (base : ℤ) → slope ≤ GREATEST → e ≤ latest_end → adds ≤ MOST_STEPS * GREATEST → LiesWithin GREATEST base
    → LiesWithin greatest_value ((pos slope *ℤ pos e) +ℤ (pos 1 *ℤ (base +ℤ pos adds)))
curve_within slope e adds base low early few w =
    let first = product_within slope (pos e) GREATEST latest_end (GREATEST * latest_end) low (omega (arith, ints), omega (arith, ints)) (omega arith) in
    let second = product_within 1 (base +ℤ pos adds) 1 ((1 + MOST_STEPS) * GREATEST) ((1 + MOST_STEPS) * GREATEST) (omega arith) (omega (arith, ints, w), omega (arith, ints, w)) (omega arith) in
    (omega (arith, ints, first, second), omega (arith, ints, first, second))

pub small_cost : (i : Instance) (jobs : List Job) (k : ℕ) (j : Job) → InClass i → jobs ≡ i.jobs → j ≡ get_or jobs k j → k < length i.jobs → HasSmallCost (pos 1) j
small_cost i jobs k j c same is t =
    let fit : FitTogether text_limits 1 = record { dates = omega arith; times = omega arith; levels = omega arith; releases = omega arith; equal = omega arith } in
    subst (HasSmallCost (pos 1)) (sym (is ∙ ap (λ xs. get_or xs k j) same)) (HasSmallCost-from text_limits 1 1 i (get_or i.jobs k j) fit (omega arith) (c.conditions.jobs k j t))

pub own_cost_within : (i : Instance) (j e : ℕ) (x : ℤ) → InClass i → i.class.crit ≡ Fmax → j < length i.jobs → e ≤ latest_end → x ≡ cost_at i j e → LiesWithin greatest_value x
own_cost_within i j e x c is t early same =
    let own = (job_at i j).curve in
    let curve = subst (λ f. HasCurve text_limits (uses_curve f) own) is (c.conditions.jobs j no_job t).curve in
    subst (LiesWithin greatest_value) (sym (same ∙ ap (λ f. job_cost f (pos 1) (job_at i j) (pos e)) is))
    (curve_within own.slope e (jumps (pos 1) own (pos e)) own.base curve.slope early (adds_few own.steps (pos e) curve.few curve.steps) curve.base)

-- ---- the least cost
module _ (counts : ℕ → Type 0) (cost : ℕ → ℤ) (jobs : List ℕ) (k : ℕ) (d : ℕ) (t : k < length jobs) where
  abbrev now : ℕ
  now = get_or jobs k d

  abbrev longer : List ℕ
  longer = take k jobs ++ now ∷ []

  pub next_least : (least own new : Option ℤ) → new ≡ lesser least own
      → IsLeast counts cost (take k jobs) least → IsOwnCost (counts now) (cost now) own → IsLeast counts cost (take (k + 1) jobs) new
  next_least least own new e h o = subst₂ (IsLeast counts cost) (sym (take_more jobs k d t)) (sym e) (by least own h o)
    where
      here : (x : ℤ) → counts now → x ≡ cost now → Any (λ j. counts j × (x ≡ cost j)) longer
      here x mine e = let c = Contains-push (take k jobs) now in (c.0, now, c.1, c.2, (mine, e))

      there : (x : ℤ) → Any (λ j. counts j × (x ≡ cost j)) (take k jobs) → Any (λ j. counts j × (x ≡ cost j)) longer
      there x a = let c = Contains-append_left (take k jobs) (now ∷ []) a.1 (a.0, a.2, a.3) in (c.0, a.1, c.1, c.2, a.4)

      by : (least own : Option ℤ) → IsLeast counts cost (take k jobs) least → IsOwnCost (counts now) (cost now) own → IsLeast counts cost longer (lesser least own)
      by None None none never = All-push (λ j. ¬ counts j) (take k jobs) now none never
      by None (Some y) none o = (here y o.0 o.1, All-push (λ j. counts j → y ≤ℤ cost j) (take k jobs) now (λ p e u mine. absurd (none p e u mine)) (λ mine. subst (λ z. y ≤ℤ z) o.1 (≤ℤ_refl y)))
      by (Some x) None l never = (there x l.0, All-push (λ j. counts j → x ≤ℤ cost j) (take k jobs) now l.1 (λ mine. absurd (never mine)))
      by (Some x) (Some y) l o = both (int_lt y x) refl
        where
          both : (b : Bool) → int_lt y x ≡ b → IsLeast counts cost longer (Some (cond b y x))
          both true less =
              let low : y ≤ℤ x = omega (arith, ints, less) in
              (here y o.0 o.1, All-push (λ j. counts j → y ≤ℤ cost j) (take k jobs) now (λ p e u mine. ≤ℤ_trans low (l.1 p e u mine)) (λ mine. subst (λ z. y ≤ℤ z) o.1 (≤ℤ_refl y)))
          both false more =
              let low : x ≤ℤ y = omega (arith, ints, more) in
              (there x l.0, All-push (λ j. counts j → x ≤ℤ cost j) (take k jobs) now l.1 (λ mine. subst (λ z. x ≤ℤ z) o.1 low))

pub lesser_within : (P : ℤ → Type 0) (a b : Option ℤ) → IfSome a P → IfSome b P → IfSome (lesser a b) P
lesser_within P None b h g = g
lesser_within P (Some x) None h g = h
lesser_within P (Some x) (Some y) h g = elim (int_lt y x) as (λ b. P (cond b y x)) [ true ↦ g | false ↦ h ]

pub least_of_all : (counts : ℕ → Type 0) (cost : ℕ → ℤ) (jobs : List ℕ) (k : ℕ) (least : Option ℤ) → length jobs ≤ k → IsLeast counts cost (take k jobs) least → IsLeast counts cost jobs least
least_of_all counts cost jobs k least past h = subst (λ l. IsLeast counts cost l least) (take_all k jobs past) h

pub next_within : (P : ℤ → Type 0) (a b new : Option ℤ) → new ≡ lesser a b → IfSome a P → IfSome b P → IfSome new P
next_within P a b new e h g = subst (λ o. IfSome o P) (sym e) (lesser_within P a b h g)

-- ---- what the block is worth
module _ (i : Instance) (p : Paths) (head jobs : List ℕ) (shows : ShowsPaths i p) (inside : All (λ j. j < length i.jobs) jobs) where
  leads_to_none : (j : ℕ) → j < length i.jobs → IsLast p jobs j → LeadsToNone i jobs j
  leads_to_none j t h k d u path = false≢true (sym (h k d u) ∙ (shows j (get_or jobs k d) t (inside k d u)).1 path)

  is_last : (j : ℕ) → j < length i.jobs → LeadsToNone i jobs j → IsLast p jobs j
  is_last j t h k d u = elim (cases_Bool (leads p j (get_or jobs k d))) [
    | inl is ↦ absurd (h k d u ((shows j (get_or jobs k d) t (inside k d u)).0 is))
    | inr isnt ↦ isnt
  ]

  pub block_is_worth : (begin time end : ℕ) (x : ℤ) (v : Frac)
      → IsBlockOf i head jobs → Any (λ j. of_job head j ≡ begin) jobs → All (λ j. begin ≤ of_job head j) jobs → time ≡ total_time i jobs → end ≡ begin + time
      → IsLeast (IsLast p jobs) (λ j. cost_at i j end) jobs (Some x) → v.num ≡ x → v.den ≡ pos 1 → IsWorth i (Block head jobs) (Some v)
  block_is_worth begin time end x v holds first after time_is end_is least num den = (holds, (1, den, (subst (IsBlockValue i head jobs) (sym num) value, refl)))
    where
      same : end ≡ begin + total_time i jobs
      same = end_is ∙ ap (λ t. begin + t) time_is

      value : IsBlockValue i head jobs x
      value = record {
        begin = begin;
        first = first;
        after = after;
        reached = let a = least.0 in (a.0, a.1, a.2, a.3, (leads_to_none a.1 (subst (λ j. j < length i.jobs) a.3 (inside a.0 a.1 a.2)) a.4.0, subst (λ e. x ≡ cost_at i a.1 e) same a.4.1));
        least = λ k d t none. subst (λ e. x ≤ℤ cost_at i (get_or jobs k d) e) same (least.1 k d t (is_last (get_or jobs k d) (inside k d t) none));
      }

  pub block_is_nothing : (end : ℕ) → IsLeast (IsLast p jobs) (λ j. cost_at i j end) jobs None → IsWorth i (Block head jobs) None
  block_is_nothing end none num den holds value =
      let a = value.0.reached in
      none a.0 a.1 a.2 (subst (IsLast p jobs) (sym a.3) (is_last a.1 (subst (λ j. j < length i.jobs) a.3 (inside a.0 a.1 a.2)) a.4.0))
