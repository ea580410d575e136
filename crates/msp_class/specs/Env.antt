-- What the machine environment says of machines and routes.
use Rattle.std.specs.Prelude.{◌≡◌, ℕ, Bool, true, false, Option, Some, None}
use Rattle.msp_class.specs.declared.class.Class.{Class}
use Rattle.msp_class.specs.declared.class.Env.{Env}
use Rattle.msp_class.specs.declared.class.Env.TheVariants.{One, P2, P3, P, Q2, Q, R2, R, O2, O3, O, F2, F3, F, J2Short, JShort, J2, J}
use Rattle.msp_class.specs.declared.environments.EnvKind.{EnvKind}
use Rattle.msp_class.specs.declared.environments.EnvKind.TheVariants.{Identical, Uniform, Unrelated, OpenShop, FlowShop, JobShop}
use Rattle.msp_class.specs.declared.sizes.TheConstants.{MOST_OPERATIONS, MOST_SHORT_OPERATIONS}

-- the kind of an environment; one machine is the case of one identical machine
abbrev pub kind_of : Env → EnvKind
kind_of One = Identical
kind_of P2 = Identical
kind_of P3 = Identical
kind_of P = Identical
kind_of Q2 = Uniform
kind_of Q = Uniform
kind_of R2 = Unrelated
kind_of R = Unrelated
kind_of O2 = OpenShop
kind_of O3 = OpenShop
kind_of O = OpenShop
kind_of F2 = FlowShop
kind_of F3 = FlowShop
kind_of F = FlowShop
kind_of J2Short = JobShop
kind_of JShort = JobShop
kind_of J2 = JobShop
kind_of J = JobShop

-- the number of machines that an environment fixes, if it does
abbrev pub fixed_machines : Env → Option ℕ
fixed_machines One = Some 1
fixed_machines P2 = Some 2
fixed_machines P3 = Some 3
fixed_machines P = None
fixed_machines Q2 = Some 2
fixed_machines Q = None
fixed_machines R2 = Some 2
fixed_machines R = None
fixed_machines O2 = Some 2
fixed_machines O3 = Some 3
fixed_machines O = None
fixed_machines F2 = Some 2
fixed_machines F3 = Some 3
fixed_machines F = None
fixed_machines J2Short = Some 2
fixed_machines JShort = None
fixed_machines J2 = Some 2
fixed_machines J = None

-- whether each operation of a job is bound to a machine: open shops, flow shops, job shops
abbrev pub is_shop_kind : EnvKind → Bool
is_shop_kind Identical = false
is_shop_kind Uniform = false
is_shop_kind Unrelated = false
is_shop_kind OpenShop = true
is_shop_kind FlowShop = true
is_shop_kind JobShop = true

abbrev pub is_shop : Env → Bool
is_shop e = is_shop_kind (kind_of e)

-- whether a schedule of the environment may be read from its end: all but flow shops and job shops
abbrev pub is_mirror_kind : EnvKind → Bool
is_mirror_kind Identical = true
is_mirror_kind Uniform = true
is_mirror_kind Unrelated = true
is_mirror_kind OpenShop = true
is_mirror_kind FlowShop = false
is_mirror_kind JobShop = false

abbrev pub is_mirror : Env → Bool
is_mirror e = is_mirror_kind (kind_of e)

-- the class is cut and on unrelated machines
abbrev pub IsCutOnUnrelated : Class → Type 0
IsCutOnUnrelated c = (c.cut ≡ true) × (kind_of c.env ≡ Unrelated)

-- the most operations of a route
abbrev pub most_operations : Env → ℕ
most_operations J2Short = MOST_SHORT_OPERATIONS
most_operations JShort = MOST_SHORT_OPERATIONS
most_operations _ = MOST_OPERATIONS
