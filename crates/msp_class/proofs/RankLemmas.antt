-- Each class has a rank of its own.
use Rattle.std.proofs.Common.{◌≡◌, ℕ, ◌+◌, ◌*◌, ◌<◌, Bool, true, false, List, [], ◌∷◌, get_or, refl, sym, ap, ◌∙◌, arith}
use Rattle.msp_class.specs.Rank.{flag_number, order_number, times_number, crit_number, rank_of}
use Rattle.msp_class.specs.declared.ranks.TheConstants.{CLASSES}
use Rattle.msp_class.specs.declared.class.Class.{Class}
use Rattle.msp_class.specs.declared.class.Env.{Env}
use Rattle.msp_class.specs.declared.class.Order.{Order}
use Rattle.msp_class.specs.declared.class.Order.TheVariants.{Free, Chains, Intree, Outtree, Prec}
use Rattle.msp_class.specs.declared.class.Times.{Times}
use Rattle.msp_class.specs.declared.class.Times.TheVariants.{General, Unit as UnitTimes, Equal}
use Rattle.msp_class.specs.declared.class.Crit.{Crit}
use Rattle.msp_class.specs.declared.class.Crit.TheVariants.{Cmax, Lmax, Fmax, SumC, SumWC, SumU, SumWU, SumT, SumWT}
use Rattle.msp_class.proofs.EnvNumbers.{env_number-injective, env_number-below}

abbrev flags : List Bool
flags = false ∷ true ∷ []

flag_at_number : (b : Bool) → get_or flags (flag_number b) false ≡ b
flag_at_number false = refl
flag_at_number true = refl

pub flag_number-injective : (a b : Bool) → flag_number a ≡ flag_number b → a ≡ b
flag_number-injective a b e = sym (flag_at_number a) ∙ ap (λ n. get_or flags n false) e ∙ flag_at_number b

pub flag_number-below : (b : Bool) → flag_number b < 2
flag_number-below false = omega arith
flag_number-below true = omega arith

abbrev orders : List Order
orders = Free ∷ Chains ∷ Intree ∷ Outtree ∷ Prec ∷ []

order_at_number : (o : Order) → get_or orders (order_number o) Free ≡ o
order_at_number Free = refl
order_at_number _ = refl

pub order_number-injective : (a b : Order) → order_number a ≡ order_number b → a ≡ b
order_number-injective a b e = sym (order_at_number a) ∙ ap (λ n. get_or orders n Free) e ∙ order_at_number b

pub order_number-below : (o : Order) → order_number o < 5
order_number-below Free = omega arith
order_number-below _ = omega arith

abbrev kinds : List Times
kinds = General ∷ UnitTimes ∷ Equal ∷ []

times_at_number : (t : Times) → get_or kinds (times_number t) General ≡ t
times_at_number General = refl
times_at_number _ = refl

pub times_number-injective : (a b : Times) → times_number a ≡ times_number b → a ≡ b
times_number-injective a b e = sym (times_at_number a) ∙ ap (λ n. get_or kinds n General) e ∙ times_at_number b

pub times_number-below : (t : Times) → times_number t < 3
times_number-below General = omega arith
times_number-below _ = omega arith

abbrev crits : List Crit
crits = Cmax ∷ Lmax ∷ Fmax ∷ SumC ∷ SumWC ∷ SumU ∷ SumWU ∷ SumT ∷ SumWT ∷ []

crit_at_number : (k : Crit) → get_or crits (crit_number k) Cmax ≡ k
crit_at_number Cmax = refl
crit_at_number _ = refl

pub crit_number-injective : (a b : Crit) → crit_number a ≡ crit_number b → a ≡ b
crit_number-injective a b e = sym (crit_at_number a) ∙ ap (λ n. get_or crits n Cmax) e ∙ crit_at_number b

pub crit_number-below : (k : Crit) → crit_number k < 9
crit_number-below Cmax = omega arith
crit_number-below _ = omega arith

-- numbers of six digits are equal only where all digits are
same_digits : (e c o g t k : ℕ) (f d p h u l : ℕ)
    → c < 2 → o < 5 → g < 2 → t < 3 → k < 9 → d < 2 → p < 5 → h < 2 → u < 3 → l < 9
    → ((((e * 2 + c) * 5 + o) * 2 + g) * 3 + t) * 9 + k ≡ ((((f * 2 + d) * 5 + p) * 2 + h) * 3 + u) * 9 + l
    → (e ≡ f) × (c ≡ d) × (o ≡ p) × (g ≡ h) × (t ≡ u) × (k ≡ l)
same_digits e c o g t k f d p h u l c2 o5 g2 t3 k9 d2 p5 h2 u3 l9 same =
    let timed : (((e * 2 + c) * 5 + o) * 2 + g) * 3 + t ≡ (((f * 2 + d) * 5 + p) * 2 + h) * 3 + u = omega arith in
    let dated : ((e * 2 + c) * 5 + o) * 2 + g ≡ ((f * 2 + d) * 5 + p) * 2 + h = omega arith in
    let ordered : (e * 2 + c) * 5 + o ≡ (f * 2 + d) * 5 + p = omega arith in
    let first : e * 2 + c ≡ f * 2 + d = omega arith in
    (omega arith, omega arith, omega arith, omega arith, omega arith, omega arith)

same_class : (e f : Env) (c d : Bool) (o p : Order) (g h : Bool) (t u : Times) (k l : Crit)
    → e ≡ f → c ≡ d → o ≡ p → g ≡ h → t ≡ u → k ≡ l
    → ◌≡◌ {A = Class} (record { env = e; cut = c; order = o; heads = g; times = t; crit = k })
    (record { env = f; cut = d; order = p; heads = h; times = u; crit = l })
same_class e f c d o p g h t u k l a1 a2 a3 a4 a5 a6 = rw (a1, a2, a3, a4, a5, a6)

-- every rank is below the number of classes
pub rank_of-below : (c : Class) → rank_of c < CLASSES
unfolding rank_of
rank_of-below c =
    omega (
      arith,
      env_number-below c.env,
      flag_number-below c.cut,
      order_number-below c.order,
      flag_number-below c.heads,
      times_number-below c.times,
      crit_number-below c.crit,
    )

-- no two classes have one rank
pub rank_of-injective : (a b : Class) → rank_of a ≡ rank_of b → a ≡ b
unfolding rank_of
rank_of-injective a b same =
    let d = same_digits _ _ _ _ _ _ _ _ _ _ _ _ (flag_number-below a.cut) (order_number-below a.order) (flag_number-below a.heads)
    (times_number-below a.times) (crit_number-below a.crit) (flag_number-below b.cut) (order_number-below b.order)
    (flag_number-below b.heads) (times_number-below b.times) (crit_number-below b.crit) same in
    same_class _ _ _ _ _ _ _ _ _ _ _ _ (env_number-injective a.env b.env d.0) (flag_number-injective a.cut b.cut d.1)
    (order_number-injective a.order b.order d.2) (flag_number-injective a.heads b.heads d.3)
    (times_number-injective a.times b.times d.4) (crit_number-injective a.crit b.crit d.5)
