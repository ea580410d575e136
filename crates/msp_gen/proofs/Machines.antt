-- How many machines there are.
use Rattle.std.proofs.Common.{◌≡◌, ℕ, ◌≤◌, arith}
use Rattle.msp_class.specs.declared.class.Env.{Env}
use Rattle.msp_class.specs.declared.class.Env.TheVariants.{One, J2Short, JShort, J2, J}
use Rattle.msp_class.specs.declared.environments.EnvKind.TheVariants.{JobShop}
use Rattle.msp_class.specs.Env.{kind_of}
use Rattle.msp_class.specs.declared.sizes.TheConstants.{MOST_MACHINES}
use Rattle.msp_gen.specs.Generated.{machines_of}

-- a job shop has at least two
pub shop_machines : (e : Env) (n : ℕ) → n ≡ machines_of e → kind_of e ≡ JobShop → 2 ≤ n
shop_machines J2Short n e k = omega (arith, e)
shop_machines JShort n e k = omega (arith, e)
shop_machines J2 n e k = omega (arith, e)
shop_machines J n e k = omega (arith, e)
shop_machines _ n e k = absurd (cc)

pub some_machines : (e : Env) → (1 ≤ machines_of e) × (machines_of e ≤ MOST_MACHINES)
some_machines One = (omega arith, omega arith)
some_machines _ = (omega arith, omega arith)
