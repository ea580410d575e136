-- A drawn job belongs to its class.
use Rattle.std.proofs.Common.{◌≡◌, ℕ, zero, suc, ◌*◌, ◌≤◌, Bool, true, false, List, [], ◌∷◌, length, get_or, All, refl, sym, ◌∙◌, length-append, arith}
use Rattle.std.specs.Prelude.{Any}
use Rattle.std.proofs.lemmas.Int.{ints}
use Rattle.std.proofs.lemmas.List.Elements.{All-nil, All-push}
use Rattle.msp_class.specs.declared.class.Class.{Class}
use Rattle.msp_class.specs.declared.class.Env.{Env}
use Rattle.msp_class.specs.declared.class.Env.TheVariants.{J2Short}
use Rattle.msp_class.specs.declared.class.Times.{Times}
use Rattle.msp_class.specs.declared.class.Times.TheVariants.{General, Unit as UnitTimes, Equal}
use Rattle.msp_class.specs.declared.environments.EnvKind.{EnvKind}
use Rattle.msp_class.specs.declared.environments.EnvKind.TheVariants.{Identical, Uniform, Unrelated, JobShop}
use Rattle.msp_class.specs.Crit.{uses_due, uses_weight, uses_curve}
use Rattle.msp_class.specs.Env.{kind_of, most_operations}
use Rattle.msp_class.specs.declared.sizes.TheConstants.{GREATEST}
use Rattle.msp_instance.specs.declared.Need.{Need}
use Rattle.msp_instance.specs.declared.Step.{Step}
use Rattle.msp_instance.specs.declared.Job.{Job}
use Rattle.msp_instance.specs.Instance.{no_need, no_curve}
use Rattle.msp_instance.specs.Conditions.{text_limits, least_shop_time, least_time, greatest_time, HasShape, HasTimes, HasSameTimes, HasSpeeds, HasSmallMultiple, HasRelease}
use Rattle.msp_instance.specs.Conditions.{HasDue, HasWeight, HasCurve}
use Rattle.msp_gen.specs.Draws.{draw, draw_from_one, draw_one, draw_turns, draw_where}
use Rattle.msp_gen.specs.Generated.{draw_speeds, draw_some_time, draw_shop_time, draw_needs, draw_step, draw_curve, draw_job, most_drawn}
use Rattle.msp_gen.proofs.Turns.{turns_keep}
use Rattle.msp_gen.proofs.Numbers.{draw_below, IsSharedTime, IsTime, some_time, shop_time, first_shop_time, release, due, weight}
use Rattle.msp_gen.proofs.NeedLists.{all_one, HasDrawnTimes, need_per_machine, route}

-- ---- needs
pub record AreDrawnNeeds (k : EnvKind) (e : Env) (times : Times) (m shared : ℕ) (needs : List Need) : Type 0 where
  pub shape : HasShape k e m needs
  pub times_met : HasDrawnTimes times shared (least_time k times) needs
  pub some : Any (λ n. 1 ≤ n.time) needs

some_route : (e : Env) → 2 ≤ most_operations e
some_route J2Short = omega arith
some_route _ = omega arith

pub needs_fit : (k : EnvKind) (c : Class) (m shared s : ℕ) → 1 ≤ m → (k ≡ JobShop → 2 ≤ m) → IsSharedTime c.times shared → AreDrawnNeeds k c.env c.times m shared (draw_needs k c m shared s).value
needs_fit Identical c m shared s one two ok =
    let t = some_time c.times shared s ok in
    record { shape = (refl, all_one (λ n. n.machine ≡ 0) _ refl); times_met = all_one (λ n. IsTime c.times shared 1 n.time) _ t; some = (0, _, omega arith, refl, t.least_met) }
needs_fit Uniform c m shared s one two ok =
    let t = some_time c.times shared s ok in
    record { shape = (refl, all_one (λ n. n.machine ≡ 0) _ refl); times_met = all_one (λ n. IsTime c.times shared 1 n.time) _ t; some = (0, _, omega arith, refl, t.least_met) }
needs_fit Unrelated c m shared s one two ok =
    let h = need_per_machine c.times shared 1 (λ _. draw_some_time c.times shared) (λ k t. some_time c.times shared t ok) (λ t. (some_time c.times shared t ok).least_met) m s in
    record { shape = (h.count, h.places); times_met = h.times_met; some = h.some one }
needs_fit JobShop c m shared s one two ok =
    let most = some_route c.env in
    let count = draw_from_one (most_drawn c.env) s in
    let below = draw_below (most_drawn c.env) s (omega (arith, most)) in
    let h = route m (two refl) c.times shared ok count.value count.seed in
    record {
      shape = record { some = omega (arith, h.count); few = omega (arith, h.count, below, most); machines = h.machines; moves = h.moves };
      times_met = h.times_met;
      some = h.some (omega arith);
    }
needs_fit _ c m shared s one two ok =
    let h = need_per_machine c.times shared (least_shop_time c.times) (draw_shop_time c.times shared) (λ k t. shop_time c.times shared k t ok) (λ t. first_shop_time c.times shared t ok) m s in
    record { shape = (h.count, h.places); times_met = h.times_met; some = h.some one }

-- ---- cost curves
abbrev AreSteps : ℕ → List Step → Type 0
AreSteps k steps = (length steps ≡ k) × All (λ x. (x.above ≤ GREATEST) × (x.add ≤ GREATEST)) steps

curve_fits : (has : Bool) (s : ℕ) → HasCurve text_limits has (draw_where has draw_curve no_curve s).value
curve_fits false s = refl
curve_fits true s =
    let slope = draw 10 s in
    let base = draw 1000 slope.seed in
    let count = draw 3 base.seed in
    let slope_below = draw_below 10 s (omega arith) in
    let base_below = draw_below 1000 slope.seed (omega arith) in
    let count_below = draw_below 3 base.seed (omega arith) in
    let steps = steps_fit count.value count.seed in
    record { slope = omega (arith, slope_below); base = (omega (arith, ints), omega (arith, ints, base_below)); few = omega (arith, steps.0, count_below); steps = steps.1 }
  where
    steps_fit : (count s : ℕ) → AreSteps count (draw_turns (λ _ _. draw_one draw_step) count s).value
    steps_fit count s =
        turns_keep AreSteps (λ _ _. draw_one draw_step) count s (refl, All-nil (λ x. (x.above ≤ GREATEST) × (x.add ≤ GREATEST)))
        (λ k before t l h.
        let above = draw_below 2000 t (omega arith) in
        let add = draw_below 100 (draw 2000 t).seed (omega arith) in (
          omega (arith, length-append before ((draw_step t).value ∷ []), h.0),
          All-push (λ x. (x.above ≤ GREATEST) × (x.add ≤ GREATEST)) before (draw_step t).value h.1 (omega (arith, above), omega (arith, add)),
        ))

-- ---- a job
pub record IsDrawnJob (c : Class) (m shared : ℕ) (job : Job) : Type 0 where
  pub needs : AreDrawnNeeds (kind_of c.env) c.env c.times m shared job.needs
  pub release_met : HasRelease text_limits c.heads job.release
  pub due_met : HasDue text_limits (uses_due c.crit) job.due
  pub weight_met : HasWeight (uses_weight c.crit) job.weight
  pub curve_met : HasCurve text_limits (uses_curve c.crit) job.curve

job_fits : (c : Class) (m shared s : ℕ) → 1 ≤ m → (kind_of c.env ≡ JobShop → 2 ≤ m) → IsSharedTime c.times shared → IsDrawnJob c m shared (draw_job c m shared s).value
job_fits c m shared s one two ok =
    let needs = draw_needs (kind_of c.env) c m shared s in
    let released = draw_where c.heads (draw 1000) 0 needs.seed in
    let dated = draw_where (uses_due c.crit) (draw 1000) 0 released.seed in
    let weighted = draw_where (uses_weight c.crit) (draw_from_one 100) 1 dated.seed in
    record {
      needs = needs_fit (kind_of c.env) c m shared s one two ok;
      release_met = release c.heads needs.seed;
      due_met = due (uses_due c.crit) released.seed;
      weight_met = weight (uses_weight c.crit) dated.seed;
      curve_met = curve_fits (uses_curve c.crit) weighted.seed;
    }

abbrev pub AreDrawnJobs : Class → ℕ → ℕ → ℕ → List Job → Type 0
AreDrawnJobs c m shared k jobs = (length jobs ≡ k) × All (IsDrawnJob c m shared) jobs

pub jobs_fit : (c : Class) (m shared n s : ℕ) → 1 ≤ m
    → (kind_of c.env ≡ JobShop → 2 ≤ m) → IsSharedTime c.times shared → AreDrawnJobs c m shared n (draw_turns (λ _ _. draw_one (draw_job c m shared)) n s).value
jobs_fit c m shared n s one two ok =
    turns_keep (AreDrawnJobs c m shared) (λ _ _. draw_one (draw_job c m shared)) n s (refl, All-nil (IsDrawnJob c m shared))
    (λ k before t l h. (
      omega (arith, length-append before ((draw_job c m shared t).value ∷ []), h.0),
      All-push (IsDrawnJob c m shared) before (draw_job c m shared t).value h.1 (job_fits c m shared t one two ok),
    ))

-- ---- what the conditions say of the needs in an instance
wide : (t : Times) → 100 ≤ greatest_time text_limits t
wide General = omega arith
wide _ = omega arith

pub times_within : (least : ℕ) (times : Times) (shared : ℕ) (needs : List Need) → HasDrawnTimes times shared least needs → HasTimes least (greatest_time text_limits times) needs
times_within least times shared needs h k d l = let t = h k d l in ((t.least_met, omega (arith, t.few, wide times)))

pub same_times : (t : Times) (shared common least : ℕ) (needs : List Need) → (t ≡ Equal → common ≡ shared) → HasDrawnTimes t shared least needs → HasSameTimes t common needs
same_times General shared common least needs e h = tt
same_times UnitTimes shared common least needs e h = λ k d l. (h k d l).fits
same_times Equal shared common least needs e h = λ k d l. (h k d l).fits ∙ sym (e refl)

pub shared_by_first : (t : Times) (shared least : ℕ) (needs : List Need) → Any (λ n. 1 ≤ n.time) needs → HasDrawnTimes t shared least needs → t ≡ Equal → (get_or needs 0 no_need).time ≡ shared
shared_by_first Equal shared least needs some h e = (h 0 no_need (omega (arith, some.2))).fits
shared_by_first _ shared least needs some h e = absurd (cc)

-- ---- speeds
abbrev pub AreDrawnSpeeds : ℕ → List ℕ → Type 0
AreDrawnSpeeds k speeds = (length speeds ≡ k) × All (λ s. (1 ≤ s) × (s ≤ 4)) speeds

speeds_drawn : (m s : ℕ) → AreDrawnSpeeds m (draw_turns (λ _ _. draw_one (draw_from_one 4)) m s).value
speeds_drawn m s =
    turns_keep AreDrawnSpeeds (λ _ _. draw_one (draw_from_one 4)) m s (refl, All-nil (λ x. (1 ≤ x) × (x ≤ 4)))
    (λ k before t l h. let below = draw_below 4 t (omega arith) in
    (omega (arith, length-append before ((draw_from_one 4 t).value ∷ []), h.0), All-push (λ x. (1 ≤ x) × (x ≤ 4)) before (draw_from_one 4 t).value h.1 (omega arith, omega (arith, below))))

pub speeds_fit : (k : EnvKind) (m s : ℕ) → HasSpeeds k m (draw_speeds k m s).value
speeds_fit Uniform m s = let h = speeds_drawn m s in (h.0, λ k d l. ((h.1 k d l).0, omega (arith, (h.1 k d l).1)))
speeds_fit _ m s = refl

divides_twelve : (s : ℕ) → 1 ≤ s → s ≤ 4 → (times : ℕ) × (12 ≡ times * s)
divides_twelve zero l h = absurd (omega (arith, l))
divides_twelve (suc zero) l h = (12, refl)
divides_twelve (suc (suc zero)) l h = (6, refl)
divides_twelve (suc (suc (suc zero))) l h = (4, refl)
divides_twelve (suc (suc (suc (suc zero)))) l h = (3, refl)
divides_twelve (suc (suc (suc (suc (suc s))))) l h = absurd (omega (arith, h))

no_speeds : HasSmallMultiple []
no_speeds = (1, omega arith, omega arith, All-nil (λ s. (times : ℕ) × (1 ≡ times * s)))

pub multiple_fits : (k : EnvKind) (m s : ℕ) → HasSmallMultiple (draw_speeds k m s).value
multiple_fits Uniform m s = let h = speeds_drawn m s in (12, omega arith, omega arith, λ k d l. divides_twelve _ (h.1 k d l).0 (h.1 k d l).1)
multiple_fits _ m s = no_speeds
