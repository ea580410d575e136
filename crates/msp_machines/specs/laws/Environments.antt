-- The rows that lead to an environment of which theirs is a case: both have the same schedules at the same costs.
use Rattle.std.proofs.Common.{◌≡◌, ℕ, true, List, MatchOption, Some, refl, ap, subst, ◌∙◌, arith}
use Rattle.std.specs.Bool.{⊤}
use Rattle.std.proofs.lemmas.Bool.{eqb-true}
use Rattle.msp_class.specs.declared.class.Env.{Env}
use Rattle.msp_class.specs.declared.class.Env.TheVariants.{One, P2, P3, P, Q2, Q, R2, R, O2, O3, O, F2, F3, F, J2Short, JShort, J2, J}
use Rattle.msp_class.specs.Env.{kind_of, fixed_machines}
use Rattle.msp_class.specs.declared.sizes.TheConstants.{MOST_OPERATIONS, MOST_SHORT_OPERATIONS}
use Rattle.msp_class.proofs.EnvNumbers.{env_number-injective}
use Rattle.msp_instance.specs.declared.Need.{Need}
use Rattle.msp_instance.specs.declared.Instance.{Instance}
use Rattle.msp_instance.specs.Conditions.{IsRoute, HasShape, HasSpeeds, HasTimes, Inner, least_time, greatest_time, inner_limits}
use Rattle.msp_pieces.proofs.costs.Charges.{SameCharges-from_class}
use Rattle.msp_pieces.proofs.changes.Serves.{SameWork-from_class}
use Rattle.msp_table.specs.Parts.{EnvIs, has}
use Rattle.msp_table.specs.Rows.{goes_of, table}
use Rattle.msp_route.specs.Law.{Applies}
use Rattle.msp_route.specs.Changes.{led}
use Rattle.msp_route.specs.Stays.{SchedulesStay}
use Rattle.msp_route.proofs.Alike.{Alike-led, stay-alike}
use Rattle.msp_route.proofs.Applied.{part_alone}
use Rattle.msp_machines.specs.laws.InnerMachines.{AreMachines, AreWithin-self, Inner-same_jobs}

-- each instance of the one environment is one of the other
record EnvGrows (from to : Env) : Type 0 where
  kind : kind_of from ≡ kind_of to
  machines : (m : ℕ) → MatchOption (fixed_machines from) ⊤ (λ n. m ≡ n) → MatchOption (fixed_machines to) ⊤ (λ n. m ≡ n)
  shape : (m : ℕ) (needs : List Need) → HasShape (kind_of from) from m needs → HasShape (kind_of to) to m needs

stay_env : (row : ℕ) (from to : Env) → EnvGrows from to → (i : Instance) → Inner i
    → (has i.class (EnvIs from) ≡ true) × (goes_of row i.class ≡ Some (record i.class { env = to })) → SchedulesStay row i (led row i)
stay_env row from to grows i inner (b, g) = stay-alike (Alike-led row i (record i.class { env = to }) i.jobs g (record {
  lower = record {
    inner = Inner-same_jobs i to i.machines i.speeds (AreWithin-self i.class.env to kinds) machines (λ needs h. record {
      shape = grows.shape i.machines needs (subst (λ x. HasShape (kind_of x) x i.machines needs) e h.shape);
      times = subst (λ k. HasTimes (least_time k i.class.times) (greatest_time (inner_limits k) i.class.times) needs) kinds h.times;
      some = h.some;
    }) inner;
    class = g;
  };
  work = SameWork-from_class i (record i.class { env = to }) kinds refl;
  charges = SameCharges-from_class i (record i.class { env = to }) refl;
})) inner
  where
    e : i.class.env ≡ from
    e = env_number-injective _ from (eqb-true _ _ b)

    kinds : kind_of i.class.env ≡ kind_of to
    kinds = ap kind_of e ∙ grows.kind

    machines : AreMachines to i.machines i.speeds
    machines = let was = inner.conditions in record {
      some = was.machines.0;
      few = was.machines.1;
      fixed = grows.machines i.machines (subst (λ x. MatchOption (fixed_machines x) ⊤ (λ n. i.machines ≡ n)) e was.machines.2);
      speeds = subst (λ k. HasSpeeds k i.machines i.speeds) kinds was.speeds;
      multiple = was.multiple;
    }

-- a route of at most two operations is a route
longer : {m : ℕ} {needs : List Need} → IsRoute MOST_SHORT_OPERATIONS m needs → IsRoute MOST_OPERATIONS m needs
longer h = record { some = h.some; few = omega (arith, h.few); machines = h.machines; moves = h.moves }

pub stay_17 : (i : Instance) → Inner i → Applies 17 i → SchedulesStay 17 i (led 17 i)
unfolding goes_of table
stay_17 i inner h = stay_env 17 One P (record { kind = refl; machines = λ m h. tt; shape = λ m needs h. h }) i inner (part_alone _ _ h)

pub stay_18 : (i : Instance) → Inner i → Applies 18 i → SchedulesStay 18 i (led 18 i)
unfolding goes_of table
stay_18 i inner h = stay_env 18 P2 P (record { kind = refl; machines = λ m h. tt; shape = λ m needs h. h }) i inner (part_alone _ _ h)

pub stay_19 : (i : Instance) → Inner i → Applies 19 i → SchedulesStay 19 i (led 19 i)
unfolding goes_of table
stay_19 i inner h = stay_env 19 P3 P (record { kind = refl; machines = λ m h. tt; shape = λ m needs h. h }) i inner (part_alone _ _ h)

pub stay_22 : (i : Instance) → Inner i → Applies 22 i → SchedulesStay 22 i (led 22 i)
unfolding goes_of table
stay_22 i inner h = stay_env 22 Q2 Q (record { kind = refl; machines = λ m h. tt; shape = λ m needs h. h }) i inner (part_alone _ _ h)

pub stay_25 : (i : Instance) → Inner i → Applies 25 i → SchedulesStay 25 i (led 25 i)
unfolding goes_of table
stay_25 i inner h = stay_env 25 R2 R (record { kind = refl; machines = λ m h. tt; shape = λ m needs h. h }) i inner (part_alone _ _ h)

pub stay_35 : (i : Instance) → Inner i → Applies 35 i → SchedulesStay 35 i (led 35 i)
unfolding goes_of table
stay_35 i inner h = stay_env 35 F2 F (record { kind = refl; machines = λ m h. tt; shape = λ m needs h. h }) i inner (part_alone _ _ h)

pub stay_36 : (i : Instance) → Inner i → Applies 36 i → SchedulesStay 36 i (led 36 i)
unfolding goes_of table
stay_36 i inner h = stay_env 36 F3 F (record { kind = refl; machines = λ m h. tt; shape = λ m needs h. h }) i inner (part_alone _ _ h)

pub stay_37 : (i : Instance) → Inner i → Applies 37 i → SchedulesStay 37 i (led 37 i)
unfolding goes_of table
stay_37 i inner h = stay_env 37 O2 O (record { kind = refl; machines = λ m h. tt; shape = λ m needs h. h }) i inner (part_alone _ _ h)

pub stay_38 : (i : Instance) → Inner i → Applies 38 i → SchedulesStay 38 i (led 38 i)
unfolding goes_of table
stay_38 i inner h = stay_env 38 O3 O (record { kind = refl; machines = λ m h. tt; shape = λ m needs h. h }) i inner (part_alone _ _ h)

pub stay_41 : (i : Instance) → Inner i → Applies 41 i → SchedulesStay 41 i (led 41 i)
unfolding goes_of table
stay_41 i inner h = stay_env 41 J2Short J2 (record { kind = refl; machines = λ m h. h; shape = λ m needs h. longer h }) i inner (part_alone _ _ h)

pub stay_42 : (i : Instance) → Inner i → Applies 42 i → SchedulesStay 42 i (led 42 i)
unfolding goes_of table
stay_42 i inner h = stay_env 42 J2Short JShort (record { kind = refl; machines = λ m h. tt; shape = λ m needs h. h }) i inner (part_alone _ _ h)

pub stay_43 : (i : Instance) → Inner i → Applies 43 i → SchedulesStay 43 i (led 43 i)
unfolding goes_of table
stay_43 i inner h = stay_env 43 J2 J (record { kind = refl; machines = λ m h. tt; shape = λ m needs h. h }) i inner (part_alone _ _ h)

pub stay_44 : (i : Instance) → Inner i → Applies 44 i → SchedulesStay 44 i (led 44 i)
unfolding goes_of table
stay_44 i inner h = stay_env 44 JShort J (record { kind = refl; machines = λ m h. tt; shape = λ m needs h. longer h }) i inner (part_alone _ _ h)
