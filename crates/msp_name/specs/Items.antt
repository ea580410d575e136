-- What the items of a name say of its class.
use Rattle.std.specs.Prelude.{Bool, true, false, Option, Some, None}
use Rattle.msp_class.specs.declared.class.Class.{Class}
use Rattle.msp_class.specs.declared.class.Env.{Env}
use Rattle.msp_class.specs.declared.class.Env.TheVariants as e
use Rattle.msp_class.specs.declared.class.Order.{Order}
use Rattle.msp_class.specs.declared.class.Order.TheVariants as o
use Rattle.msp_class.specs.declared.class.Times.{Times}
use Rattle.msp_class.specs.declared.class.Times.TheVariants as t
use Rattle.msp_class.specs.declared.class.Crit.TheVariants as k
use Rattle.msp_name.specs.declared.words.Item.{Item}
use Rattle.msp_name.specs.declared.words.Item.TheVariants as i

abbrev pub order_eq : Order → Order → Bool
order_eq o.Free o.Free = true
order_eq o.Chains o.Chains = true
order_eq o.Intree o.Intree = true
order_eq o.Outtree o.Outtree = true
order_eq o.Prec o.Prec = true
order_eq _ _ = false

abbrev pub times_eq : Times → Times → Bool
times_eq t.General t.General = true
times_eq t.Unit t.Unit = true
times_eq t.Equal t.Equal = true
times_eq _ _ = false

abbrev pub is_short : Env → Bool
is_short e.J2Short = true
is_short e.JShort = true
is_short _ = false

-- whether an item is one of the class
abbrev pub has_item : Class → Item → Bool
has_item c i.Cut = c.cut
has_item c i.Chains = order_eq c.order o.Chains
has_item c i.Intree = order_eq c.order o.Intree
has_item c i.Outtree = order_eq c.order o.Outtree
has_item c i.Prec = order_eq c.order o.Prec
has_item c i.Heads = c.heads
has_item c i.Unit = times_eq c.times t.Unit
has_item c i.Equal = times_eq c.times t.Equal
has_item c i.Short = is_short c.env

-- the environment without n<=2
abbrev pub plain_env : Env → Env
plain_env e.J2Short = e.J2
plain_env e.JShort = e.J
plain_env x = x

-- the same item
abbrev pub item_eq : Item → Item → Bool
item_eq i.Cut i.Cut = true
item_eq i.Chains i.Chains = true
item_eq i.Intree i.Intree = true
item_eq i.Outtree i.Outtree = true
item_eq i.Prec i.Prec = true
item_eq i.Heads i.Heads = true
item_eq i.Unit i.Unit = true
item_eq i.Equal i.Equal = true
item_eq i.Short i.Short = true
item_eq _ _ = false

-- the class of an environment and no item; the criterion is not read yet
abbrev pub bare : Env → Class
bare x = record { env = x; cut = false; order = o.Free; heads = false; times = t.General; crit = k.Cmax }

-- the class with another order, where it has none
abbrev pub with_order : Class → Order → Option Class
with_order c x = elim c.order [ o.Free ↦ Some (record c { order = x }) | _ ↦ None ]

-- the class with other times, where they are general
abbrev pub with_times : Class → Times → Option Class
with_times c x = elim c.times [ t.General ↦ Some (record c { times = x }) | _ ↦ None ]

-- the class with n<=2, where its environment takes it
abbrev pub with_short : Class → Option Class
with_short c = elim c.env [ e.J2 ↦ Some (record c { env = e.J2Short }) | e.J ↦ Some (record c { env = e.JShort }) | _ ↦ None ]

-- the class with one item more, where the item fits
abbrev pub with_item : Class → Item → Option Class
with_item c i.Cut = Some (record c { cut = true })
with_item c i.Chains = with_order c o.Chains
with_item c i.Intree = with_order c o.Intree
with_item c i.Outtree = with_order c o.Outtree
with_item c i.Prec = with_order c o.Prec
with_item c i.Heads = Some (record c { heads = true })
with_item c i.Unit = with_times c t.Unit
with_item c i.Equal = with_times c t.Equal
with_item c i.Short = with_short c
