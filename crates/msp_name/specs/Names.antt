-- The names of a class: its accepted spellings, and the canonical one.
use Rattle.std.specs.Prelude.{◌≡◌, ℕ, List, [], ◌∷◌, ◌++◌, map, Bool, true, false, not, All, Contains, codes}
use Rattle.std.specs.List.{IsDistinct, list_any, join_with_byte}
use Rattle.msp_class.specs.declared.class.Class.{Class}
use Rattle.msp_class.specs.declared.class.Env.{Env}
use Rattle.msp_class.specs.declared.class.Env.TheVariants as e
use Rattle.msp_class.specs.declared.class.Order.{Order}
use Rattle.msp_class.specs.declared.class.Order.TheVariants as o
use Rattle.msp_class.specs.declared.class.Times.{Times}
use Rattle.msp_class.specs.declared.class.Times.TheVariants as t
use Rattle.msp_class.specs.declared.class.Crit.{Crit}
use Rattle.msp_class.specs.declared.class.Crit.TheVariants as k
use Rattle.msp_name.specs.declared.words.Item.{Item}
use Rattle.msp_name.specs.Spellings.{env_texts, item_texts, crit_texts}
use Rattle.msp_name.specs.Items.{has_item, plain_env, item_eq, is_short, order_eq, times_eq}

-- the code of `|`
abbrev pub bar : ℕ
bar = 124

-- the code of `,`
abbrev pub comma : ℕ
comma = 44

-- whether an item stands in the list
abbrev pub among : List Item → Item → Bool
among xs x = list_any (λ y. item_eq y x) xs

-- `b` is ENV|ITEMS|CRIT in accepted spellings of the parts of the class `c`; its items are those of the class, in any order and none twice
pub record NameOf (b : List ℕ) (c : Class) : Type 0 where
  pub env : List ℕ
  pub items : List (List ℕ × Item)
  pub crit : List ℕ
  pub written : b ≡ env ++ (bar ∷ (join_with_byte comma (map (λ w. w.0) items) ++ (bar ∷ crit)))
  pub env_spelled : Contains env_texts (env, plain_env c.env)
  pub items_spelled : All (Contains item_texts) items
  pub exact : (x : Item) → has_item c x ≡ among (map (λ w. w.1) items) x
  pub once : IsDistinct item_eq (map (λ w. w.1) items)
  pub crit_spelled : Contains crit_texts (crit, c.crit)

-- the canonical texts
abbrev pub env_text : Env → List ℕ
env_text e.One = codes "1"
env_text e.P2 = codes "P2"
env_text e.P3 = codes "P3"
env_text e.P = codes "P"
env_text e.Q2 = codes "Q2"
env_text e.Q = codes "Q"
env_text e.R2 = codes "R2"
env_text e.R = codes "R"
env_text e.O2 = codes "O2"
env_text e.O3 = codes "O3"
env_text e.O = codes "O"
env_text e.F2 = codes "F2"
env_text e.F3 = codes "F3"
env_text e.F = codes "F"
env_text e.J2Short = codes "J2"
env_text e.JShort = codes "J"
env_text e.J2 = codes "J2"
env_text e.J = codes "J"

-- no text where there is no order
abbrev pub order_text : Order → List ℕ
order_text o.Free = []
order_text o.Chains = codes "chains"
order_text o.Intree = codes "intree"
order_text o.Outtree = codes "outtree"
order_text o.Prec = codes "prec"

-- no text where the times are general
abbrev pub times_text : Times → List ℕ
times_text t.General = []
times_text t.Unit = codes "p=1"
times_text t.Equal = codes "p=p"

abbrev pub crit_text : Crit → List ℕ
crit_text k.Cmax = codes "Cmax"
crit_text k.Lmax = codes "Lmax"
crit_text k.Fmax = codes "fmax"
crit_text k.SumC = codes "sumC"
crit_text k.SumWC = codes "sumwC"
crit_text k.SumU = codes "sumU"
crit_text k.SumWU = codes "sumwU"
crit_text k.SumT = codes "sumT"
crit_text k.SumWT = codes "sumwT"

-- the text alone where it is wanted
abbrev pub text_if : Bool → List ℕ → List (List ℕ)
text_if true w = w ∷ []
text_if false w = []

-- the canonical texts of the items of a class, in the order cut, order, release dates, times, short routes
unfoldable pub item_texts_of : Class → List (List ℕ)
item_texts_of c =
    text_if c.cut (codes "pmtn")
    ++ (text_if (not (order_eq c.order o.Free)) (order_text c.order)
    ++ (text_if c.heads (codes "r")
    ++ (text_if (not (times_eq c.times t.General)) (times_text c.times)
    ++ text_if (is_short c.env) (codes "n<=2"))))

-- the canonical spelling of a class
unfoldable pub name_of : Class → List ℕ
name_of c = env_text c.env ++ (bar ∷ (join_with_byte comma (item_texts_of c) ++ (bar ∷ crit_text c.crit)))
