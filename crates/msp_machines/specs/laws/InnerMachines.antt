-- Instances in another environment keep the inner limits.
use Rattle.std.proofs.Common.{◌≡◌, ℕ, ◌*◌, ◌≤◌, List, length, get_or, map, All, MatchOption, ◌≤ℤ◌, refl, subst, arith}
use Rattle.std.specs.Bool.{⊤}
use Rattle.std.proofs.lemmas.List.{length-map}
use Rattle.std.proofs.lemmas.List.Elements.{All-map}
use Rattle.msp_class.specs.declared.class.Env.{Env}
use Rattle.msp_class.specs.Env.{kind_of, fixed_machines}
use Rattle.msp_class.specs.declared.environments.EnvKind.{EnvKind}
use Rattle.msp_class.proofs.IntegerRing.{≤ℤ_trans, pos-le}
use Rattle.msp_class.specs.declared.sizes.TheConstants.{MOST_MACHINES, GREATEST}
use Rattle.msp_instance.specs.declared.Need.{Need}
use Rattle.msp_instance.specs.declared.Job.{Job}
use Rattle.msp_instance.specs.declared.Instance.{Instance}
use Rattle.msp_instance.specs.Instance.{common_time}
use Rattle.msp_instance.specs.Conditions.{IsJobOf, HasNeeds, HasSameTimes, HasSpeeds, HasSmallMultiple, HasNearDues, Inner, inner_limits, inner_factor}
use Rattle.msp_instance.proofs.Limits.{AreWithin, IsJobOf-wider}
use Rattle.msp_route.proofs.InnerChanges.{Inner-remade, HasNearDues-map}
use Rattle.msp_route.proofs.KindLimits.{inner_factor-some}

-- the instance in another environment, with other machines and jobs
abbrev pub in_environment : Env → ℕ → List ℕ → List Job → Instance → Instance
in_environment e m speeds jobs i = record i { class = record i.class { env = e }; machines = m; speeds = speeds; jobs = jobs }

-- what the machines of an environment have to be
pub record AreMachines (e : Env) (m : ℕ) (list : List ℕ) : Type 0 where
  pub some : 1 ≤ m
  pub few : m ≤ MOST_MACHINES
  pub fixed : MatchOption (fixed_machines e) ⊤ (λ n. m ≡ n)
  pub speeds : HasSpeeds (kind_of e) m list
  pub multiple : HasSmallMultiple list

pub Inner-in_environment : (i : Instance) (e : Env) (m : ℕ) (speeds : List ℕ) (jobs : List Job)
    → length jobs ≡ length i.jobs → AreMachines e m speeds → All (IsJobOf (inner_limits (kind_of e)) (in_environment e m speeds jobs i)) jobs →
    HasNearDues (2 * GREATEST * inner_factor (kind_of e)) (in_environment e m speeds jobs i) → Inner i → Inner (in_environment e m speeds jobs i)
Inner-in_environment i e m speeds jobs same machines own dues inner = let was = inner.conditions in
    Inner-remade i (record i.class { env = e }) m speeds jobs same (machines.some, machines.few, machines.fixed) machines.speeds machines.multiple own was.arcs
    (λ j l. was.degree j (omega (arith, same))) dues inner

-- ---- jobs of which the needs alone change
abbrev pub with_needs : (List Need → List Need) → Job → Job
with_needs g a = record a { needs = g a.needs }

-- the needs have to suit the environment, with times in range
pub Inner-with_needs : (i : Instance) (e : Env) (m : ℕ) (speeds : List ℕ) (g : List Need → List Need)
    → AreWithin (inner_limits (kind_of i.class.env)) (inner_limits (kind_of e)) → AreMachines e m speeds →
    ((needs : List Need) → HasNeeds (inner_limits (kind_of i.class.env)) i needs → HasSameTimes i.class.times (common_time i) needs →
    HasNeeds (inner_limits (kind_of e)) (in_environment e m speeds (map (with_needs g) i.jobs) i) (g needs)
    × HasSameTimes i.class.times (common_time (in_environment e m speeds (map (with_needs g) i.jobs) i)) (g needs)) →
    Inner i → Inner (in_environment e m speeds (map (with_needs g) i.jobs) i)
Inner-with_needs i e m speeds g wider machines own inner = Inner-in_environment i e m speeds (map (with_needs g) i.jobs) (length-map i.jobs (with_needs g)) machines
    (All-map (IsJobOf (inner_limits (kind_of e)) lower) (with_needs g) i.jobs (λ k d l. job (get_or i.jobs k d) (inner.conditions.jobs k d l)))
    (λ j k a b. ≤ℤ_trans (HasNearDues-map _ i lower (with_needs g) refl inner.dues j k a b) (pos-le wider.dates))
    inner
  where
    lower : Instance
    lower = in_environment e m speeds (map (with_needs g) i.jobs) i

    job : (a : Job) → IsJobOf (inner_limits (kind_of i.class.env)) i a → IsJobOf (inner_limits (kind_of e)) lower (with_needs g a)
    job a h = let w = IsJobOf-wider _ _ i a wider h in let n = own a.needs h.needs h.times in record {
      needs = n.0;
      times = n.1;
      release = w.release;
      due = w.due;
      weight = w.weight;
      curve = w.curve;
    }

-- the same jobs
pub Inner-same_jobs : (i : Instance) (e : Env) (m : ℕ) (speeds : List ℕ) → AreWithin (inner_limits (kind_of i.class.env)) (inner_limits (kind_of e)) → AreMachines e m speeds →
    ((needs : List Need) → HasNeeds (inner_limits (kind_of i.class.env)) i needs → HasNeeds (inner_limits (kind_of e)) (in_environment e m speeds i.jobs i) needs) →
    Inner i → Inner (in_environment e m speeds i.jobs i)
Inner-same_jobs i e m speeds wider machines own inner = Inner-in_environment i e m speeds i.jobs refl machines
    (λ k d l. job (get_or i.jobs k d) (inner.conditions.jobs k d l))
    (λ j k a b. ≤ℤ_trans (inner.dues j k a b) (pos-le wider.dates))
    inner
  where
    job : (a : Job) → IsJobOf (inner_limits (kind_of i.class.env)) i a → IsJobOf (inner_limits (kind_of e)) (in_environment e m speeds i.jobs i) a
    job a h = let w = IsJobOf-wider _ _ i a wider h in record {
      needs = own a.needs h.needs;
      times = h.times;
      release = w.release;
      due = w.due;
      weight = w.weight;
      curve = w.curve;
    }

-- environments of one kind have the same limits, and those whose factor is 1 have the narrowest
pub AreWithin-self : (e f : Env) → kind_of e ≡ kind_of f → AreWithin (inner_limits (kind_of e)) (inner_limits (kind_of f))
AreWithin-self e f same = subst (λ k. AreWithin (inner_limits (kind_of e)) (inner_limits k)) same (record { times = omega arith; releases = omega arith; dates = omega arith })

pub AreWithin-any : (k l : EnvKind) → inner_factor k ≡ 1 → AreWithin (inner_limits k) (inner_limits l)
AreWithin-any k l e = let some = inner_factor-some l in record { times = omega (arith, e, some); releases = omega (arith, e, some); dates = omega (arith, e, some) }
