-- What an instance of its class says of the numbers that are added up.
use Rattle.std.proofs.Common.{IsPermutation, ℕ, ◌≤◌, List, length, get_or, All, arith}
use Rattle.msp_class.specs.declared.class.Env.{Env}
use Rattle.msp_class.specs.declared.class.Env.TheVariants.{J2Short}
use Rattle.msp_class.specs.declared.class.Times.{Times}
use Rattle.msp_class.specs.declared.class.Times.TheVariants.{General}
use Rattle.msp_class.specs.declared.environments.EnvKind.{EnvKind}
use Rattle.msp_class.specs.declared.environments.EnvKind.TheVariants as kind
use Rattle.msp_class.specs.Env.{kind_of, most_operations}
use Rattle.msp_instance.specs.declared.Need.{Need}
use Rattle.msp_instance.specs.declared.Instance.{Instance}
use Rattle.msp_instance.specs.Conditions.{InClass, HasShape, text_limits, greatest_time}
use Rattle.std.proofs.lemmas.List.Sorted.{All-permutation, length_permutation}
use Rattle.msp_class.specs.declared.sizes.TheConstants.{MOST_MACHINES, MOST_OPERATIONS, GREATEST, GREATEST_SPEED}
use Rattle.msp_pieces.specs.Speeds.{HaveSpeeds}
use Rattle.msp_cert.specs.Certificates.{speeds_of}
use Rattle.msp_cert.proofs.Soundness.{speeds_many, speeds_between}
use Rattle.msp_cert.specs.Small.{HasSmallNeeds}

short_times : (t : Times) → greatest_time text_limits t ≤ GREATEST
short_times General = omega arith
short_times _ = omega arith

few_operations : (e : Env) → most_operations e ≤ MOST_OPERATIONS
few_operations J2Short = omega arith
few_operations _ = omega arith

some_few : (k : EnvKind) (e : Env) (m : ℕ) (needs : List Need) → 1 ≤ m → m ≤ MOST_MACHINES → HasShape k e m needs → (1 ≤ length needs) × (length needs ≤ MOST_OPERATIONS)
some_few kind.Identical e m needs some few shape = (omega (arith, shape.0), omega (arith, shape.0))
some_few kind.Uniform e m needs some few shape = (omega (arith, shape.0), omega (arith, shape.0))
some_few kind.JobShop e m needs some few shape = (omega (arith, shape.some), omega (arith, shape.few, few_operations e))
some_few _ e m needs some few shape = (omega (arith, shape.0, some), omega (arith, shape.0, few))

pub small_needs : (i : Instance) → InClass i → All HasSmallNeeds i.jobs
small_needs i c k d l =
    let job = c.conditions.jobs k d l in
    let (some, few) = some_few (kind_of i.class.env) i.class.env i.machines (get_or i.jobs k d).needs c.conditions.machines.0 c.conditions.machines.1 job.needs.shape in
    record { some = some; few = few; short = λ o z b. omega (arith, (job.needs.times o z b).1, short_times i.class.times) }

-- the speeds of all machines are few and small, in any order
pub record AreSmallSpeeds (order : List ℕ) : Type 0 where
  pub some : 1 ≤ length order
  pub few : length order ≤ MOST_MACHINES
  pub slow : All (λ s. s ≤ GREATEST_SPEED) order
  pub fast : All (λ s. 1 ≤ s) order

pub small_speeds : (i : Instance) (order : List ℕ) → InClass i → HaveSpeeds (kind_of i.class.env) → IsPermutation (speeds_of i) order → AreSmallSpeeds order
small_speeds i order c speeds all =
    record {
      some = omega (arith, length_permutation (speeds_of i) order all, speeds_many i, c.conditions.machines.0);
      few = omega (arith, length_permutation (speeds_of i) order all, speeds_many i, c.conditions.machines.1);
      slow = All-permutation (λ s. s ≤ GREATEST_SPEED) (speeds_of i) order all (λ k d l. (speeds_between i c k d l).1);
      fast = All-permutation (λ s. 1 ≤ s) (speeds_of i) order all (λ k d l. (speeds_between i c k d l).0);
    }
