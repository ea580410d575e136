-- One item more: what the class has then, and when the item fits.
use Rattle.std.proofs.Common.{◌≡◌, ◌∙◌, refl, sym, ap, ap₂, subst, Bool, true, false, cond, ◌||◌, ◌⊎◌, inl, inr, Option, Some, None}
use Rattle.msp_class.specs.declared.class.Class.{Class}
use Rattle.msp_class.specs.declared.class.Env.{Env}
use Rattle.msp_class.specs.declared.class.Env.TheVariants as e
use Rattle.msp_class.specs.declared.class.Order.{Order}
use Rattle.msp_class.specs.declared.class.Order.TheVariants as o
use Rattle.msp_class.specs.declared.class.Times.{Times}
use Rattle.msp_class.specs.declared.class.Times.TheVariants as t
use Rattle.msp_name.specs.declared.words.Item.{Item}
use Rattle.msp_name.specs.declared.words.Item.TheVariants as i
use Rattle.msp_name.specs.Items.{has_item, plain_env, item_eq, order_eq, times_eq, is_short, with_item}

-- `d` has the item `x` and those of `s`, and else is as `s`
pub record Gains (s : Class) (x : Item) (d : Class) : Type 0 where
  pub items : (y : Item) → has_item d y ≡ (item_eq x y || has_item s y)
  pub env : plain_env d.env ≡ plain_env s.env
  pub crit : d.crit ≡ s.crit

Gains-at : (x : Item) (s s' d d' : Class) → s ≡ s' → d ≡ d' → Gains s x d → Gains s' x d'
Gains-at x s s' d d' e f g =
    let P : Class → Type 0 = λ v. Gains s' x v in
    let Q : Class → Type 0 = λ v. Gains v x d in
    subst P f (subst Q e g)

abbrev Has : Class → Item → Class → Item → Type 0
Has s x d y = has_item d y ≡ (item_eq x y || has_item s y)

Gains-cut : (s : Class) → Gains s i.Cut (record s { cut = true })
Gains-cut s = record { items = λ y. elim y as (Has s i.Cut (record s { cut = true })) [ i.Cut ↦ refl | _ ↦ refl ]; env = refl; crit = refl }

Gains-heads : (s : Class) → Gains s i.Heads (record s { heads = true })
Gains-heads s = record { items = λ y. elim y as (Has s i.Heads (record s { heads = true })) [ i.Cut ↦ refl | _ ↦ refl ]; env = refl; crit = refl }

Gains-unit : (s : Class) → Gains (record s { times = t.General }) i.Unit (record s { times = t.Unit })
Gains-unit s = record { items = λ y. elim y as (Has (record s { times = t.General }) i.Unit (record s { times = t.Unit })) [ i.Cut ↦ refl | _ ↦ refl ]; env = refl; crit = refl }

Gains-equal : (s : Class) → Gains (record s { times = t.General }) i.Equal (record s { times = t.Equal })
Gains-equal s = record { items = λ y. elim y as (Has (record s { times = t.General }) i.Equal (record s { times = t.Equal })) [ i.Cut ↦ refl | _ ↦ refl ]; env = refl; crit = refl }

Gains-chains : (s : Class) → Gains (record s { order = o.Free }) i.Chains (record s { order = o.Chains })
Gains-chains s = record { items = λ y. elim y as (Has (record s { order = o.Free }) i.Chains (record s { order = o.Chains })) [ i.Cut ↦ refl | _ ↦ refl ]; env = refl; crit = refl }

Gains-intree : (s : Class) → Gains (record s { order = o.Free }) i.Intree (record s { order = o.Intree })
Gains-intree s = record { items = λ y. elim y as (Has (record s { order = o.Free }) i.Intree (record s { order = o.Intree })) [ i.Cut ↦ refl | _ ↦ refl ]; env = refl; crit = refl }

Gains-outtree : (s : Class) → Gains (record s { order = o.Free }) i.Outtree (record s { order = o.Outtree })
Gains-outtree s = record { items = λ y. elim y as (Has (record s { order = o.Free }) i.Outtree (record s { order = o.Outtree })) [ i.Cut ↦ refl | _ ↦ refl ]; env = refl; crit = refl }

Gains-prec : (s : Class) → Gains (record s { order = o.Free }) i.Prec (record s { order = o.Prec })
Gains-prec s = record { items = λ y. elim y as (Has (record s { order = o.Free }) i.Prec (record s { order = o.Prec })) [ i.Cut ↦ refl | _ ↦ refl ]; env = refl; crit = refl }

Gains-J2 : (s : Class) → Gains (record s { env = e.J2 }) i.Short (record s { env = e.J2Short })
Gains-J2 s = record { items = λ y. elim y as (Has (record s { env = e.J2 }) i.Short (record s { env = e.J2Short })) [ i.Cut ↦ refl | _ ↦ refl ]; env = refl; crit = refl }

Gains-J : (s : Class) → Gains (record s { env = e.J }) i.Short (record s { env = e.JShort })
Gains-J s = record { items = λ y. elim y as (Has (record s { env = e.J }) i.Short (record s { env = e.JShort })) [ i.Cut ↦ refl | _ ↦ refl ]; env = refl; crit = refl }

with_order-some : (p : Order) (r d : Class) → elim p as (λ _. Option Class) [ o.Free ↦ Some r | _ ↦ None ] ≡ Some d → (p ≡ o.Free) × (r ≡ d)
with_order-some o.Free r d h = (refl, cc)
with_order-some _ r d h = cc

with_times-some : (p : Times) (r d : Class) → elim p as (λ _. Option Class) [ t.General ↦ Some r | _ ↦ None ] ≡ Some d → (p ≡ t.General) × (r ≡ d)
with_times-some t.General r d h = (refl, cc)
with_times-some _ r d h = cc

with_short-some : (x : Env) (r q d : Class) → elim x as (λ _. Option Class) [ e.J2 ↦ Some r | e.J ↦ Some q | _ ↦ None ] ≡ Some d → ((x ≡ e.J2) × (r ≡ d)) ⊎ ((x ≡ e.J) × (q ≡ d))
with_short-some e.J2 r q d h = inl (refl, cc)
with_short-some e.J r q d h = inr (refl, cc)
with_short-some _ r q d h = cc

free : (s : Class) (p : Order) → s.order ≡ p → record s { order = p } ≡ s
free s p h = sym (ap (λ q. record s { order = q }) h)

general : (s : Class) (p : Times) → s.times ≡ p → record s { times = p } ≡ s
general s p h = sym (ap (λ q. record s { times = q }) h)

plain : (s : Class) (x : Env) → s.env ≡ x → record s { env = x } ≡ s
plain s x h = sym (ap (λ q. record s { env = q }) h)

-- a class with one item more
pub Gains-with : (s : Class) (x : Item) (d : Class) → with_item s x ≡ Some d → Gains s x d
Gains-with s i.Cut d h = let k : record s { cut = true } ≡ d = cc in Gains-at _ s s _ d refl k (Gains-cut s)
Gains-with s i.Chains d h = let f = with_order-some s.order _ d h in Gains-at _ _ s _ d (free s o.Free f.0) f.1 (Gains-chains s)
Gains-with s i.Intree d h = let f = with_order-some s.order _ d h in Gains-at _ _ s _ d (free s o.Free f.0) f.1 (Gains-intree s)
Gains-with s i.Outtree d h = let f = with_order-some s.order _ d h in Gains-at _ _ s _ d (free s o.Free f.0) f.1 (Gains-outtree s)
Gains-with s i.Prec d h = let f = with_order-some s.order _ d h in Gains-at _ _ s _ d (free s o.Free f.0) f.1 (Gains-prec s)
Gains-with s i.Heads d h = let k : record s { heads = true } ≡ d = cc in Gains-at _ s s _ d refl k (Gains-heads s)
Gains-with s i.Unit d h = let f = with_times-some s.times _ d h in Gains-at _ _ s _ d (general s t.General f.0) f.1 (Gains-unit s)
Gains-with s i.Equal d h = let f = with_times-some s.times _ d h in Gains-at _ _ s _ d (general s t.General f.0) f.1 (Gains-equal s)
Gains-with s i.Short d h = elim (with_short-some s.env _ _ d h) [ inl f ↦ Gains-at _ _ s _ d (plain s e.J2 f.0) f.1 (Gains-J2 s) | inr f ↦ Gains-at _ _ s _ d (plain s e.J f.0) f.1 (Gains-J s) ]

order_eq-same : (p q : Order) → order_eq p q ≡ true → p ≡ q
order_eq-same o.Free o.Free h = refl
order_eq-same o.Chains o.Chains h = refl
order_eq-same o.Intree o.Intree h = refl
order_eq-same o.Outtree o.Outtree h = refl
order_eq-same o.Prec o.Prec h = refl
order_eq-same _ _ h = cc

times_eq-same : (p q : Times) → times_eq p q ≡ true → p ≡ q
times_eq-same t.General t.General h = refl
times_eq-same t.Unit t.Unit h = refl
times_eq-same t.Equal t.Equal h = refl
times_eq-same _ _ h = cc

-- the items of `s` are items of `c`
pub record Within (s c : Class) : Type 0 where
  pub items : (y : Item) → has_item s y ≡ true → has_item c y ≡ true
  pub env : plain_env s.env ≡ plain_env c.env

order_eq-self : (p : Order) → order_eq p p ≡ true
order_eq-self o.Free = refl
order_eq-self _ = refl

times_eq-self : (p : Times) → times_eq p p ≡ true
times_eq-self t.General = refl
times_eq-self _ = refl

-- a value of `a` that `b` has too is no other than the one that `b` has and `a` lacks
clash : {T : Type 0} (eq : T → T → Bool) → ((p q : T) → eq p q ≡ true → p ≡ q) → ((p : T) → eq p p ≡ true)
    → (x p a b : T) → (eq a p ≡ true → eq b p ≡ true) → eq b x ≡ true → eq a x ≡ false → a ≡ p → ⊥
clash eq same self x p a b w h k m =
    let q : b ≡ p = same b p (w (ap (λ y. eq y p) m ∙ self p)) in
    let u : b ≡ x = same b x h in
    let z : eq a x ≡ true = ap (λ y. eq y x) (m ∙ sym q ∙ u) ∙ self x in
    cc

is_free : (x : Order) (s c : Class) → Within s c → order_eq c.order x ≡ true → order_eq s.order x ≡ false → (p : Order) → s.order ≡ p → p ≡ o.Free
is_free x s c w h k o.Free m = refl
is_free x s c w h k o.Chains m = absurd (clash order_eq order_eq-same order_eq-self x o.Chains s.order c.order (w.items i.Chains) h k m)
is_free x s c w h k o.Intree m = absurd (clash order_eq order_eq-same order_eq-self x o.Intree s.order c.order (w.items i.Intree) h k m)
is_free x s c w h k o.Outtree m = absurd (clash order_eq order_eq-same order_eq-self x o.Outtree s.order c.order (w.items i.Outtree) h k m)
is_free x s c w h k o.Prec m = absurd (clash order_eq order_eq-same order_eq-self x o.Prec s.order c.order (w.items i.Prec) h k m)

is_general : (x : Times) (s c : Class) → Within s c → times_eq c.times x ≡ true → times_eq s.times x ≡ false → (p : Times) → s.times ≡ p → p ≡ t.General
is_general x s c w h k t.General m = refl
is_general x s c w h k t.Unit m = absurd (clash times_eq times_eq-same times_eq-self x t.Unit s.times c.times (w.items i.Unit) h k m)
is_general x s c w h k t.Equal m = absurd (clash times_eq times_eq-same times_eq-self x t.Equal s.times c.times (w.items i.Equal) h k m)

-- `s` has room for the item
abbrev pub Fits : Class → Item → Type 0
Fits s x = (d : Class) × (with_item s x ≡ Some d)

fits_order : (s : Class) (r : Class) (p : Order) → p ≡ o.Free → (d : Class) × (elim p as (λ _. Option Class) [ o.Free ↦ Some r | _ ↦ None ] ≡ Some d)
fits_order s r p h = rw h (r, refl)

fits_times : (s : Class) (r : Class) (p : Times) → p ≡ t.General → (d : Class) × (elim p as (λ _. Option Class) [ t.General ↦ Some r | _ ↦ None ] ≡ Some d)
fits_times s r p h = rw h (r, refl)

is_short-plain : (y : Env) → is_short y ≡ true → (plain_env y ≡ e.J2) ⊎ (plain_env y ≡ e.J)
is_short-plain e.J2Short h = inl refl
is_short-plain e.JShort h = inr refl
is_short-plain _ h = cc

not_short-plain : (x : Env) → is_short x ≡ false → x ≡ plain_env x
not_short-plain e.J2Short h = cc
not_short-plain e.JShort h = cc
not_short-plain _ h = refl

short_of : (x y : Env) (r q : Class) → plain_env x ≡ plain_env y
    → is_short y ≡ true → is_short x ≡ false → (d : Class) × (elim x as (λ _. Option Class) [ e.J2 ↦ Some r | e.J ↦ Some q | _ ↦ None ] ≡ Some d)
short_of x y r q h k m = elim (is_short-plain y k) [ inl p ↦ rw (not_short-plain x m ∙ h ∙ p) (r, refl) | inr p ↦ rw (not_short-plain x m ∙ h ∙ p) (q, refl) ]

-- an item of the class that `s` lacks fits
pub fits_within : (s c : Class) (x : Item) → Within s c → has_item c x ≡ true → has_item s x ≡ false → Fits s x
fits_within s c i.Cut w h k = (record s { cut = true }, refl)
fits_within s c i.Chains w h k = fits_order s _ s.order (is_free o.Chains s c w h k s.order refl)
fits_within s c i.Intree w h k = fits_order s _ s.order (is_free o.Intree s c w h k s.order refl)
fits_within s c i.Outtree w h k = fits_order s _ s.order (is_free o.Outtree s c w h k s.order refl)
fits_within s c i.Prec w h k = fits_order s _ s.order (is_free o.Prec s c w h k s.order refl)
fits_within s c i.Heads w h k = (record s { heads = true }, refl)
fits_within s c i.Unit w h k = fits_times s _ s.times (is_general t.Unit s c w h k s.times refl)
fits_within s c i.Equal w h k = fits_times s _ s.times (is_general t.Equal s c w h k s.times refl)
fits_within s c i.Short w h k = short_of s.env c.env _ _ w.env h k

order_from : Bool → Bool → Bool → Bool → Order
order_from a b c d = cond a o.Chains (cond b o.Intree (cond c o.Outtree (cond d o.Prec o.Free)))

order_back : (p : Order) → order_from (order_eq p o.Chains) (order_eq p o.Intree) (order_eq p o.Outtree) (order_eq p o.Prec) ≡ p
unfolding order_from
order_back o.Free = refl
order_back _ = refl

times_from : Bool → Bool → Times
times_from a b = cond a t.Unit (cond b t.Equal t.General)

times_back : (p : Times) → times_from (times_eq p t.Unit) (times_eq p t.Equal) ≡ p
unfolding times_from
times_back t.General = refl
times_back _ = refl

env_from : Bool → Env → Env
env_from true e.J2 = e.J2Short
env_from true e.J = e.JShort
env_from _ x = x

env_back : (p : Env) → env_from (is_short p) (plain_env p) ≡ p
unfolding env_from
env_back e.J2Short = refl
env_back e.JShort = refl
env_back _ = refl

order_same : (p q : Order)
    → order_eq p o.Chains ≡ order_eq q o.Chains → order_eq p o.Intree ≡ order_eq q o.Intree → order_eq p o.Outtree ≡ order_eq q o.Outtree → order_eq p o.Prec ≡ order_eq q o.Prec → p ≡ q
order_same p q a b c d =
    let same : order_from (order_eq p o.Chains) (order_eq p o.Intree) (order_eq p o.Outtree) (order_eq p o.Prec)
    ≡ order_from (order_eq q o.Chains) (order_eq q o.Intree) (order_eq q o.Outtree) (order_eq q o.Prec) = λ j. order_from (a j) (b j) (c j) (d j) in
    sym (order_back p) ∙ same ∙ order_back q

class_eq : (s c : Class) → s.env ≡ c.env → s.cut ≡ c.cut → s.order ≡ c.order → s.heads ≡ c.heads → s.times ≡ c.times → s.crit ≡ c.crit → s ≡ c
class_eq s c a b d f g h = λ j. record { env = a j; cut = b j; order = d j; heads = f j; times = g j; crit = h j }

-- a class is given by its plain environment, its items and its criterion
pub class_same : (s c : Class) → ((y : Item) → has_item c y ≡ has_item s y) → plain_env s.env ≡ plain_env c.env → s.crit ≡ c.crit → s ≡ c
class_same s c h m k =
    let env = sym (env_back s.env) ∙ ap₂ env_from (sym (h i.Short)) m ∙ env_back c.env in
    let times = sym (times_back s.times) ∙ ap₂ times_from (sym (h i.Unit)) (sym (h i.Equal)) ∙ times_back c.times in
    let order = order_same s.order c.order (sym (h i.Chains)) (sym (h i.Intree)) (sym (h i.Outtree)) (sym (h i.Prec)) in
    class_eq s c env (sym (h i.Cut)) order (sym (h i.Heads)) times k
