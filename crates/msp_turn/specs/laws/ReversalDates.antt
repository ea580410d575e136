-- The rows that read schedules from their end, and in which release dates and due dates take each other's places.
use Rattle.std.proofs.Common.{◌≡◌, ℕ, ◌*◌, ◌<◌, ◌≤◌, Bool, true, false, List, length, get_or, map, All, ℤ, pos, negsuc, neg_ℤ, ◌+ℤ◌, ◌-ℤ◌}
use Rattle.std.proofs.Common.{◌*ℤ◌, ◌≤ℤ◌, Some, unwrap_or, refl, sym, ap, subst, ◌∙◌, arith}
use Rattle.std.specs.Prelude.{unsigned_abs}
use Rattle.std.proofs.lemmas.Bool.{eqb-true, and_parts}
use Rattle.std.proofs.lemmas.Int.{ints}
use Rattle.std.proofs.lemmas.List.{length-map, get_or-map, get_or_default}
use Rattle.std.proofs.lemmas.List.Elements.{All-map}
use Rattle.msp_class.specs.declared.class.Crit.{Crit}
use Rattle.msp_class.specs.declared.class.Crit.TheVariants.{Cmax, Lmax}
use Rattle.msp_class.specs.declared.environments.EnvKind.{EnvKind}
use Rattle.msp_class.specs.declared.environments.EnvKind.TheVariants.{Identical, Uniform, Unrelated, OpenShop, FlowShop, JobShop}
use Rattle.msp_class.specs.Env.{kind_of, is_mirror}
use Rattle.msp_class.specs.Order.{turned}
use Rattle.msp_class.specs.Crit.{is_greatest, uses_due, uses_weight, uses_curve}
use Rattle.msp_class.proofs.RankLemmas.{flag_number-injective, crit_number-injective}
use Rattle.msp_class.proofs.IntegerRing.{zero-*ℤ, *ℤ-neg, *ℤ-sub, *ℤ_comm, le-pos}
use Rattle.msp_class.specs.declared.sizes.TheConstants.{GREATEST}
use Rattle.msp_instance.specs.declared.Job.{Job}
use Rattle.msp_instance.specs.declared.Instance.{Instance}
use Rattle.msp_instance.specs.Instance.{no_job, job_at}
use Rattle.msp_instance.specs.Conditions.{Limits, LiesWithin, IsJobOf, HasSameTimes, HasRelease, HasDue, HasWeight, HasCurve, Inner, inner_limits, inner_factor}
use Rattle.msp_pieces.specs.Cost.{job_cost, greatest}
use Rattle.msp_pieces.proofs.costs.Charges.{greatest-bound, greatest-reached}
use Rattle.msp_pieces.proofs.feasible.Frames.{no_heads, job_at-map}
use Rattle.msp_pieces.proofs.changes.Serves.{SameNeeds-from_map}
use Rattle.msp_pieces.proofs.changes.Mirror.{turned_arcs as arcs_turned, turned_back}
use Rattle.msp_table.specs.Rows.{goes_of, table}
use Rattle.msp_route.specs.Law.{Applies}
use Rattle.msp_route.proofs.InnerChanges.{common_time-map, IsJobOf-recast, HasNearDues-map}
use Rattle.msp_route.specs.Sizes.{greatest_row_date}
use Rattle.msp_route.proofs.Applied.{parts_and_condition}
use Rattle.msp_turn.specs.Turned.{turned_arcs}
use Rattle.msp_turn.specs.laws.TurnedArcs.{turned_with, Inner-turned}
use Rattle.msp_route.specs.Rates.{greatest_due}
use Rattle.msp_turn.specs.Reversal.{due_by_release, led_to_due_dates, release_by_due, led_to_release_dates}
use Rattle.msp_turn.specs.laws.ReversalLaw.{IsReverse}
use Rattle.msp_turn.specs.laws.ReversalRows.{IsReversal, cmax_charge}

-- ---- jobs that are changed one by one, in a class with other dates
-- the limit of dates
abbrev dates : Instance → ℕ
dates i = 2 * GREATEST * inner_factor (kind_of i.class.env)

-- what a job keeps of its limits where its dates change
abbrev limits_of : Instance → Limits
limits_of i = inner_limits (kind_of i.class.env)

module _ (i : Instance) (h : Bool) (from to : Crit) (f : Job → Job) (keeps : (a : Job) → f a ≡ record a { release = (f a).release; due = (f a).due }) where
  abbrev jobs : List Job
  jobs = map f i.jobs

  abbrev below : Instance
  below = turned_with i h to jobs

  abbrev HasDates : Job → Type 0
  HasDates a = HasRelease (limits_of i) h (f a).release × HasDue (limits_of i) (uses_due to) (f a).due

  IsJobOf-dated : i.class.crit ≡ from → uses_weight from ≡ uses_weight to
      → uses_curve from ≡ uses_curve to → 0 < length i.jobs → (a : Job) → HasDates a → IsJobOf (limits_of i) i a → IsJobOf (limits_of i) below (f a)
  IsJobOf-dated e w c some a dated own = subst (IsJobOf (limits_of i) below) (sym (keeps a)) (IsJobOf-recast own.needs refl refl own.needs.times
      (subst (λ t. HasSameTimes i.class.times t a.needs) (sym (common_time-map i below f refl (λ b. ap (λ x. x.needs) (keeps b)) some)) own.times)
      dated.0 dated.1 (subst (λ b. HasWeight b a.weight) (ap uses_weight e ∙ w) own.weight) (subst (λ b. HasCurve (limits_of i) b a.curve) (ap uses_curve e ∙ c) own.curve))

  pub Inner-dated : i.class.crit ≡ from → uses_weight from ≡ uses_weight to → uses_curve from ≡ uses_curve to → ((k : ℕ) → k < length i.jobs → HasDates (job_at i k)) →
      ((j k : ℕ) → j < length i.jobs → k < length i.jobs → ((f (job_at i j)).due -ℤ (f (job_at i k)).due) ≤ℤ pos (dates i)) → Inner i → Inner below
  Inner-dated e w c dated close inner = Inner-turned i h to jobs (length-map i.jobs f)
      (All-map (IsJobOf (limits_of i) below) f i.jobs
      (λ k d l. let own = inner.conditions.jobs k d l in IsJobOf-dated e w c inner.conditions.some (get_or i.jobs k d) (subst HasDates (get_or_default i.jobs k no_job d l) (dated k l)) own))
      (HasNearDues-map _ i below f refl close) inner

  -- the reverse, where the charges fit
  pub IsReverse-dated : (addend : ℤ) → is_mirror i.class.env ≡ true → is_greatest i.class.crit ≡ true → is_greatest to ≡ true →
      ((a : Job) → (unit x : ℤ) → (k : ℕ) → k < length i.jobs → a ≡ job_at i k → (job_cost i.class.crit unit a x +ℤ (addend *ℤ unit)) ≡ (x +ℤ (unit *ℤ pos (f a).release))) →
      ((a : Job) → (unit x : ℤ) → (k : ℕ) → k < length i.jobs → a ≡ job_at i k → (job_cost to unit (f a) x +ℤ (pos 0 *ℤ unit)) ≡ (x +ℤ (unit *ℤ pos a.release))) → IsReverse addend (pos 0) i below
  IsReverse-dated addend mirror great great_below up down = record {
    needs = SameNeeds-from_map i below f refl refl refl refl refl (λ a. ap (λ x. x.needs) (keeps a));
    mirror = mirror;
    arcs = arcs_turned i.arcs;
    arcs_back = turned_back i.arcs;
    greatest = great;
    greatest_below = great_below;
    charge = λ k l unit x. subst (λ a. (job_cost i.class.crit unit (job_at i k) x +ℤ (addend *ℤ unit)) ≡ (x +ℤ (unit *ℤ pos a.release)))
        (sym (job_at-map i below f refl k l)) (up (job_at i k) unit x k l refl);
    charge_below = λ k l unit x. subst (λ a. (job_cost to unit a x +ℤ (pos 0 *ℤ unit)) ≡ (x +ℤ (unit *ℤ pos (job_at i k).release)))
        (sym (job_at-map i below f refl k l)) (down (job_at i k) unit x k l refl);
  }

-- ---- release dates become due dates
release_small : (k : EnvKind) (h : Bool) (r : ℕ) → h ≡ true → HasRelease (inner_limits k) h r → r ≤ 2 * GREATEST * inner_factor k
release_small k true r e h = h
release_small k false r e h = absurd (cc)

reversal_of_releases : (i : Instance) → i.class.heads ≡ true → i.class.crit ≡ Cmax → is_mirror i.class.env ≡ true →
    goes_of 47 i.class ≡ Some (record i.class { order = turned i.class.order; heads = false; crit = Lmax }) → Inner i → IsReversal 47 (pos 0) i (led_to_due_dates i)
reversal_of_releases i heads crit mirror g inner =
    subst (λ o. IsReversal 47 (pos 0) i (record i { class = unwrap_or o i.class; jobs = map due_by_release i.jobs; arcs = turned_arcs i.arcs })) (sym g) (record {
      none = λ e. absurd (cc);
      lower = record { inner = Inner-dated i false Cmax Lmax due_by_release (λ a. refl) crit refl refl dated close inner; class = g };
      reverse = IsReverse-dated i false Cmax Lmax due_by_release (λ a. refl) (pos 0) mirror (ap is_greatest crit) refl
          (λ a unit x k l e. cmax_charge i.class.crit a 0 crit refl unit x)
          (λ a unit x k l e. late_charge x unit (pos 0 *ℤ unit) (unit *ℤ neg_ℤ (pos a.release)) (unit *ℤ pos a.release) (*ℤ-neg unit (pos a.release)) (zero-*ℤ unit));
    })
  where
    small : (a : Job) → IsJobOf (limits_of i) i a → a.release ≤ dates i
    small a own = release_small (kind_of i.class.env) i.class.heads a.release heads own.release

    dated : (k : ℕ) → k < length i.jobs → HasRelease (limits_of i) false 0 × LiesWithin (dates i) (neg_ℤ (pos (job_at i k).release))
    dated k l = (refl, negated (job_at i k).release (dates i) (small (job_at i k) (inner.conditions.jobs k no_job l)))
      where
        negated : (r n : ℕ) → r ≤ n → LiesWithin n (neg_ℤ (pos r))
        negated r n h = (omega (arith, ints), omega (arith, ints))

    close : (j k : ℕ) → j < length i.jobs → k < length i.jobs → (neg_ℤ (pos (job_at i j).release) -ℤ neg_ℤ (pos (job_at i k).release)) ≤ℤ pos (dates i)
    close j k p q = closer (job_at i j).release (job_at i k).release (dates i) (small (job_at i k) (inner.conditions.jobs k no_job q))
      where
        closer : (a b n : ℕ) → b ≤ n → (neg_ℤ (pos a) -ℤ neg_ℤ (pos b)) ≤ℤ pos n
        closer a b n h = omega (arith, ints)

    late_charge : (x unit o z y : ℤ) → z ≡ neg_ℤ y → o ≡ pos 0 → ((x -ℤ z) +ℤ o) ≡ (x +ℤ y)
    late_charge x unit o z y e h = omega (arith, ints)

pub reversal_47 : (i : Instance) → Inner i → Applies 47 i → IsReversal 47 (pos 0) i (led_to_due_dates i)
unfolding goes_of table
reversal_47 i inner h =
    let (left, mirror, g) = parts_and_condition _ _ _ h in
    let (heads, crit) = and_parts _ _ left in
    reversal_of_releases i (flag_number-injective _ true (eqb-true _ _ heads)) (crit_number-injective _ Cmax (eqb-true _ _ (and_parts _ _ crit).0)) mirror g inner

-- release dates fit the type of due dates
release_fits : (k : EnvKind) (h : Bool) (r : ℕ) → HasRelease (inner_limits k) h r → r ≤ greatest_row_date
release_fits k false r h = omega (arith, h)
release_fits Identical true r h = omega (arith, h)
release_fits Uniform true r h = omega (arith, h)
release_fits Unrelated true r h = omega (arith, h)
release_fits OpenShop true r h = omega (arith, h)
release_fits FlowShop true r h = omega (arith, h)
release_fits JobShop true r h = omega (arith, h)

pub releases_fit : (i : Instance) → Inner i → All (λ j. j.release ≤ greatest_row_date) i.jobs
releases_fit i inner k d l = release_fits (kind_of i.class.env) i.class.heads (get_or i.jobs k d).release (inner.conditions.jobs k d l).release

-- ---- due dates become release dates
-- a natural number is its size
pub size_of_natural : (z : ℤ) → pos 0 ≤ℤ z → pos (unsigned_abs z) ≡ z
size_of_natural (pos n) h = refl
size_of_natural (negsuc n) h = absurd (omega (arith, ints))

latest : (i : Instance) (k : ℕ) → k < length i.jobs → (job_at i k).due ≤ℤ greatest_due i
latest i k l = subst (λ x. x ≤ℤ greatest_due i) (get_or-map (λ j. j.due) i.jobs k no_job (pos 0) l) (greatest-bound (map (λ j. j.due) i.jobs) k (pos 0) (omega (arith, length-map i.jobs (λ j. j.due))))

spread : (i : Instance) → Inner i → (k : ℕ) → k < length i.jobs → (greatest_due i -ℤ (job_at i k).due) ≤ℤ pos (dates i)
spread i inner k l =
    let (m, n, e) = greatest-reached (map (λ j. j.due) i.jobs) (omega (arith, length-map i.jobs (λ j. j.due), inner.conditions.some)) in
    let inside : m < length i.jobs = omega (arith, length-map i.jobs (λ j. j.due)) in
    subst (λ x. (x -ℤ (job_at i k).due) ≤ℤ pos (dates i)) (sym (get_or-map (λ j. j.due) i.jobs m no_job (greatest_due i) inside) ∙ e) (inner.dues m k inside l)

reversal_of_dates : (i : Instance) → i.class.heads ≡ false → i.class.crit ≡ Lmax → is_mirror i.class.env ≡ true →
    goes_of 48 i.class ≡ Some (record i.class { order = turned i.class.order; heads = true; crit = Cmax }) → Inner i → IsReversal 48 (greatest_due i) i (led_to_release_dates i)
reversal_of_dates i heads crit mirror g inner =
    subst (λ o. IsReversal 48 last i (record i { class = unwrap_or o i.class; jobs = map (release_by_due last) i.jobs; arcs = turned_arcs i.arcs })) (sym g) (record {
      none = λ e. none;
      lower = record { inner = Inner-dated i true Lmax Cmax (release_by_due last) (λ a. refl) crit refl refl dated (λ j k p q. zero_within (dates i)) inner; class = g };
      reverse = IsReverse-dated i true Lmax Cmax (release_by_due last) (λ a. refl) last mirror (ap is_greatest crit) refl up
          (λ a unit x k l e. cmax_charge Cmax (release_by_due last a) a.release refl (ap (λ b. b.release) e ∙ none k l) unit x);
    })
  where
    last : ℤ
    last = greatest_due i

    none : (k : ℕ) → k < length i.jobs → (job_at i k).release ≡ 0
    none k l = no_heads (limits_of i) i heads inner.conditions k l

    zero_within : (n : ℕ) → (pos 0 -ℤ pos 0) ≤ℤ pos n
    zero_within n = omega (arith, ints)

    size : (k : ℕ) → k < length i.jobs → pos (unsigned_abs (last -ℤ (job_at i k).due)) ≡ last -ℤ (job_at i k).due
    size k l = size_of_natural _ (natural last (job_at i k).due (latest i k l))
      where
        natural : (g d : ℤ) → d ≤ℤ g → pos 0 ≤ℤ (g -ℤ d)
        natural g d h = omega (arith, ints)

    dated : (k : ℕ) → k < length i.jobs → HasRelease (limits_of i) true (unsigned_abs (last -ℤ (job_at i k).due)) × HasDue (limits_of i) false (pos 0)
    dated k l = (le-pos (subst (λ z. z ≤ℤ pos (dates i)) (sym (size k l)) (spread i inner k l)), refl)

    up : (a : Job) → (unit x : ℤ) → (k : ℕ) → k < length i.jobs → a ≡ job_at i k → (job_cost i.class.crit unit a x +ℤ (last *ℤ unit)) ≡ (x +ℤ (unit *ℤ pos (unsigned_abs (last -ℤ a.due))))
    up a unit x k l e =
        ap (λ c. job_cost c unit a x +ℤ (last *ℤ unit)) crit
        ∙ moved x (unit *ℤ a.due) (unit *ℤ last) (last *ℤ unit) (unit *ℤ (last -ℤ a.due)) (*ℤ_comm last unit) (*ℤ-sub unit last a.due)
        ∙ ap (λ z. x +ℤ (unit *ℤ z)) (sym (subst (λ b. pos (unsigned_abs (last -ℤ b.due)) ≡ last -ℤ b.due) (sym e) (size k l)))
      where
        moved : (x d g h z : ℤ) → h ≡ g → z ≡ g -ℤ d → ((x -ℤ d) +ℤ h) ≡ (x +ℤ z)
        moved x d g h z e k = omega (arith, ints)

pub reversal_48 : (i : Instance) → Inner i → Applies 48 i → IsReversal 48 (greatest_due i) i (led_to_release_dates i)
unfolding goes_of table
reversal_48 i inner h =
    let (left, mirror, g) = parts_and_condition _ _ _ h in
    let (heads, crit) = and_parts _ _ left in
    reversal_of_dates i (flag_number-injective _ false (eqb-true _ _ heads)) (crit_number-injective _ Lmax (eqb-true _ _ (and_parts _ _ crit).0)) mirror g inner
