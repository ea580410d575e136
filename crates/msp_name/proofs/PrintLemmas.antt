-- The canonical name: how its items are put one by one, its length, and that it is a name.
use Rattle.std.proofs.Common.{◌≡◌, ℕ, ◌≤◌, List, [], ◌∷◌, ◌++◌, length, map, refl, sym, ap, ◌∙◌, Bool, true, false, ◌||◌, ◌&&◌, not, Some, append_assoc, append-nil, lit≤, leb}
use Rattle.std.proofs.Common.{bytes_eq, Contains, All, codes, length-append, arith}
use Rattle.std.specs.List.{join_with_byte, IsDistinct, AllByRecursion, filter}
use Rattle.std.specs.Cmp.Lexicographic.{pointwise}
use Rattle.std.proofs.lemmas.Bool.{leb-true, and_parts, not-true}
use Rattle.std.proofs.lemmas.Slice.Eq.{bytes_eq-Decides, slice_eq-Decides}
use Rattle.std.proofs.lemmas.List.Elements.{All-nil, All-cons, All-filter}
use Rattle.msp_class.specs.declared.class.Class.{Class}
use Rattle.msp_class.specs.declared.class.Env.{Env}
use Rattle.msp_class.specs.declared.class.Env.TheVariants as e
use Rattle.msp_class.specs.declared.class.Order.{Order}
use Rattle.msp_class.specs.declared.class.Order.TheVariants as o
use Rattle.msp_class.specs.declared.class.Times.{Times}
use Rattle.msp_class.specs.declared.class.Times.TheVariants as t
use Rattle.msp_class.specs.declared.class.Crit.{Crit}
use Rattle.msp_class.specs.declared.class.Crit.TheVariants as k
use Rattle.msp_name.specs.declared.text.TheConstants.{LONGEST_CLASS_NAME}
use Rattle.msp_name.specs.declared.words.Item.{Item}
use Rattle.msp_name.specs.declared.words.Item.TheVariants as i
use Rattle.msp_name.specs.Spellings.{env_texts, item_texts, crit_texts}
use Rattle.msp_name.specs.Items.{has_item, is_short, order_eq, times_eq, plain_env, item_eq}
use Rattle.msp_name.specs.Names.{bar, comma, text_if, env_text, order_text, times_text, crit_text, item_texts_of, name_of, NameOf, among}
use Rattle.msp_name.specs.Printing.{following}
use Rattle.msp_name.specs.Reading.{spelled}
use Rattle.msp_name.proofs.TableLemmas.{spelled-some, Finds}

following-again : (w : List ℕ) (ws : List (List ℕ)) → w ++ following true ws ≡ join_with_byte comma (w ∷ ws)
following-again w [] = append-nil w
following-again w (v ∷ ws) = ap (λ t. w ++ (comma ∷ t)) (following-again v ws)

following-join : (ws : List (List ℕ)) → following false ws ≡ join_with_byte comma ws
following-join [] = refl
following-join (w ∷ ws) = following-again w ws

following-if : (p b : Bool) (w : List ℕ) (ws : List (List ℕ)) → following p (text_if b w ++ ws) ≡ following p (text_if b w) ++ following (p || b) ws
following-if true true w ws = ap (λ t. comma ∷ (t ++ following true ws)) (sym (append-nil w))
following-if true false w ws = refl
following-if false true w ws = ap (λ t. t ++ following true ws) (sym (append-nil w))
following-if false false w ws = refl

step : (out : List ℕ) (p b : Bool) (w : List ℕ) (ws : List (List ℕ)) → out ++ following p (text_if b w ++ ws) ≡ (out ++ following p (text_if b w)) ++ following (p || b) ws
step out p b w ws = ap (λ t. out ++ t) (following-if p b w ws) ∙ sym (append_assoc out _ _)

-- five items put one by one
five_items : (out : List ℕ) (a b d f g : Bool) (u v w x y : List ℕ) →
    ((((out ++ following false (text_if a u)) ++ following (false || a) (text_if b v)) ++ following ((false || a) || b) (text_if d w)) ++ following (((false || a) || b) || d) (text_if f x))
    ++ following ((((false || a) || b) || d) || f) (text_if g y)
    ≡ out ++ join_with_byte comma (text_if a u ++ (text_if b v ++ (text_if d w ++ (text_if f x ++ text_if g y))))
five_items out a b d f g u v w x y = sym (
    ap (λ t. out ++ t) (sym (following-join (text_if a u ++ (text_if b v ++ (text_if d w ++ (text_if f x ++ text_if g y))))))
    ∙ step out false a u _
    ∙ step _ (false || a) b v _
    ∙ step _ ((false || a) || b) d w _
    ∙ step _ (((false || a) || b) || d) f x _)

-- the same, each step by what its call promises
pub items_put : (out o1 o2 o3 o4 o5 : List ℕ) (p1 p2 p3 p4 a b d f g b' f' g' : Bool) (u v w x y v' x' : List ℕ)
    → o1 ≡ out ++ following false (text_if a u) → p1 ≡ (false || a) → b ≡ b' → v ≡ v'
    → o2 ≡ o1 ++ following p1 (text_if b v) → p2 ≡ (p1 || b)
    → o3 ≡ o2 ++ following p2 (text_if d w) → p3 ≡ (p2 || d) → f ≡ f' → x ≡ x'
    → o4 ≡ o3 ++ following p3 (text_if f x) → p4 ≡ (p3 || f) → g ≡ g'
    → o5 ≡ o4 ++ following p4 (text_if g y)
    → o5 ≡ out ++ join_with_byte comma (text_if a u ++ (text_if b' v' ++ (text_if d w ++ (text_if f' x' ++ text_if g' y))))
items_put out o1 o2 o3 o4 o5 p1 p2 p3 p4 a b d f g b' f' g' u v w x y v' x' e1 q1 eb ev e2 q2 e3 q3 ef ex e4 q4 eg e5 =
    rw (e5, e4, q4, e3, q3, e2, q2, e1, q1, eb, ev, ef, ex, eg) (five_items out a b' d f' g' u v' w x' y)

has : Bool → Order → Bool → Times → Bool → Item → Bool
has a p h u s i.Cut = a
has a p h u s i.Chains = order_eq p o.Chains
has a p h u s i.Intree = order_eq p o.Intree
has a p h u s i.Outtree = order_eq p o.Outtree
has a p h u s i.Prec = order_eq p o.Prec
has a p h u s i.Heads = h
has a p h u s i.Unit = times_eq u t.Unit
has a p h u s i.Equal = times_eq u t.Equal
has a p h u s i.Short = s

-- the items in their order, each with its text
nine : List (List ℕ × Item)
nine =
    (codes "pmtn", i.Cut) ∷ (codes "chains", i.Chains) ∷ (codes "intree", i.Intree) ∷ (codes "outtree", i.Outtree)
    ∷ (codes "prec", i.Prec) ∷ (codes "r", i.Heads) ∷ (codes "p=1", i.Unit) ∷ (codes "p=p", i.Equal) ∷ (codes "n<=2", i.Short) ∷ []

-- the items by what the class says of each part
rows : Bool → Order → Bool → Times → Bool → List (List ℕ × Item)
rows a p h u s = filter (λ r. has a p h u s r.1) nine

texts : Bool → Order → Bool → Times → Bool → List (List ℕ)
texts a p h u s = text_if a (codes "pmtn")
    ++ (text_if (not (order_eq p o.Free)) (order_text p) ++ (text_if h (codes "r") ++ (text_if (not (times_eq u t.General)) (times_text u) ++ text_if s (codes "n<=2"))))

-- a test at each value
all_bools : (Bool → Bool) → Bool
all_bools f = f true && f false

all_bools-at : (f : Bool → Bool) → all_bools f ≡ true → (b : Bool) → f b ≡ true
unfolding all_bools
all_bools-at f h true = (and_parts (f true) (f false) h).0
all_bools-at f h false = (and_parts (f true) (f false) h).1

all_orders : (Order → Bool) → Bool
all_orders f = (f o.Free && f o.Chains) && (f o.Intree && (f o.Outtree && f o.Prec))

all_orders-at : (f : Order → Bool) → all_orders f ≡ true → (p : Order) → f p ≡ true
unfolding all_orders
all_orders-at f h p =
    let x = and_parts (f o.Free && f o.Chains) (f o.Intree && (f o.Outtree && f o.Prec)) h in
    let y = and_parts (f o.Free) (f o.Chains) x.0 in
    let z = and_parts (f o.Intree) (f o.Outtree && f o.Prec) x.1 in
    let w = and_parts (f o.Outtree) (f o.Prec) z.1 in
    elim p as (λ p. f p ≡ true) [ o.Free ↦ y.0 | o.Chains ↦ y.1 | o.Intree ↦ z.0 | o.Outtree ↦ w.0 | o.Prec ↦ w.1 ]

all_times : (Times → Bool) → Bool
all_times f = f t.General && (f t.Unit && f t.Equal)

all_times-at : (f : Times → Bool) → all_times f ≡ true → (p : Times) → f p ≡ true
unfolding all_times
all_times-at f h p =
    let x = and_parts (f t.General) (f t.Unit && f t.Equal) h in
    let y = and_parts (f t.Unit) (f t.Equal) x.1 in
    elim p as (λ p. f p ≡ true) [ t.General ↦ x.0 | t.Unit ↦ y.0 | t.Equal ↦ y.1 ]

every : (Bool → Order → Bool → Times → Bool → Bool) → Bool
every f = all_bools (λ a. all_orders (λ p. all_bools (λ h. all_times (λ u. all_bools (λ s. f a p h u s)))))

every-at : (f : Bool → Order → Bool → Times → Bool → Bool) → every f ≡ true → (a : Bool) (p : Order) (h : Bool) (u : Times) (s : Bool) → f a p h u s ≡ true
unfolding every
every-at f t a p h u s = all_bools-at _ (all_times-at _ (all_bools-at _ (all_orders-at _ (all_bools-at _ t a) p) h) u) s

rows-texts : (a : Bool) (p : Order) (h : Bool) (u : Times) (s : Bool) → map (λ w. w.0) (rows a p h u s) ≡ texts a p h u s
unfolding rows nine has texts every all_bools all_orders all_times
rows-texts a p h u s = (slice_eq-Decides bytes_eq-Decides _ _ _ refl).0 (every-at (λ a p h u s. pointwise bytes_eq (map (λ w. w.0) (rows a p h u s)) (texts a p h u s)) refl a p h u s)

texts-short : (a : Bool) (p : Order) (h : Bool) (u : Times) (s : Bool) → length (join_with_byte comma (texts a p h u s)) ≤ 23
unfolding texts every all_bools all_orders all_times
texts-short a p h u s = leb-true _ _ (every-at (λ a p h u s. leb (length (join_with_byte comma (texts a p h u s))) 23) refl a p h u s)

abbrev same : Bool → Bool → Bool
same true b = b
same false b = not b

same-is : (a b : Bool) → same a b ≡ true → a ≡ b
same-is true b h = sym h
same-is false true h = cc
same-is false false h = refl

rows-exact : (y : Item) (a : Bool) (p : Order) (h : Bool) (u : Times) (s : Bool) → has a p h u s y ≡ among (map (λ w. w.1) (rows a p h u s)) y
unfolding has rows nine every all_bools all_orders all_times
rows-exact y a p h u s = same-is _ _ (every-at (λ a p h u s. same (has a p h u s y) (among (map (λ w. w.1) (rows a p h u s)) y)) (by y) a p h u s)
  where
    by : (y : Item) → every (λ a p h u s. same (has a p h u s y) (among (map (λ w. w.1) (rows a p h u s)) y)) ≡ true
    by i.Cut = refl
    by _ = refl

abbrev differ : Item → List Item → Bool
differ x [] = true
differ x (y ∷ ys) = not (item_eq x y) && differ x ys

distinct : List Item → Bool
distinct [] = true
distinct (x ∷ xs) = differ x xs && distinct xs

differ-all : (x : Item) (ys : List Item) → differ x ys ≡ true → AllByRecursion (λ y. item_eq x y ≡ false) ys
differ-all x [] h = tt
differ-all x (y ∷ ys) h = let both = and_parts (not (item_eq x y)) (differ x ys) h in (not-true _ both.0, differ-all x ys both.1)

distinct-is : (xs : List Item) → distinct xs ≡ true → IsDistinct item_eq xs
unfolding distinct IsDistinct
distinct-is [] h = tt
distinct-is (x ∷ xs) h = let both = and_parts (differ x xs) (distinct xs) h in (differ-all x xs both.0, distinct-is xs both.1)

rows-distinct : (a : Bool) (p : Order) (h : Bool) (u : Times) (s : Bool) → distinct (map (λ w. w.1) (rows a p h u s)) ≡ true
unfolding rows nine has distinct every all_bools all_orders all_times
rows-distinct a p h u s = every-at (λ a p h u s. distinct (map (λ w. w.1) (rows a p h u s))) refl a p h u s

found : (rs : List (List ℕ × Item)) → AllByRecursion (Finds item_texts) rs → All (Contains item_texts) rs
found [] h = All-nil (Contains item_texts)
found (r ∷ rs) h = All-cons (Contains item_texts) r rs (spelled-some item_texts r.0 r.1 h.0) (found rs h.1)

rows-spelled : (a : Bool) (p : Order) (h : Bool) (u : Times) (s : Bool) → All (Contains item_texts) (rows a p h u s)
unfolding rows nine item_texts
rows-spelled a p h u s =
    All-filter (λ r. has a p h u s r.1) (Contains item_texts) nine
    (found nine (refl, (refl, (refl, (refl, (refl, (refl, (refl, (refl, (refl, tt))))))))))

env-spelled : (x : Env) → spelled env_texts (env_text x) ≡ Some (plain_env x)
unfolding env_texts
env-spelled e.One = refl
env-spelled _ = refl

crit-spelled : (x : Crit) → spelled crit_texts (crit_text x) ≡ Some x
unfolding crit_texts
crit-spelled k.Cmax = refl
crit-spelled _ = refl

env-short : (x : Env) → length (env_text x) ≤ 2
env-short e.One = lit≤ tt
env-short _ = lit≤ tt

crit-short : (x : Crit) → length (crit_text x) ≤ 5
crit-short k.Cmax = lit≤ tt
crit-short _ = lit≤ tt

class_has : (c : Class) (y : Item) → has_item c y ≡ has c.cut c.order c.heads c.times (is_short c.env) y
unfolding has
class_has c i.Cut = refl
class_has c _ = refl

-- the canonical name is a name
pub name_of-NameOf : (c : Class) → NameOf (name_of c) c
unfolding name_of item_texts_of texts
name_of-NameOf c =
    let items : List (List ℕ × Item) = rows c.cut c.order c.heads c.times (is_short c.env) in
    record {
      env = env_text c.env;
      items = items;
      crit = crit_text c.crit;
      written = ap (λ ws. env_text c.env ++ (bar ∷ (join_with_byte comma ws ++ (bar ∷ crit_text c.crit)))) (sym (rows-texts c.cut c.order c.heads c.times (is_short c.env)));
      env_spelled = spelled-some env_texts (env_text c.env) (plain_env c.env) (env-spelled c.env);
      items_spelled = rows-spelled c.cut c.order c.heads c.times (is_short c.env);
      exact = λ y. class_has c y ∙ rows-exact y c.cut c.order c.heads c.times (is_short c.env);
      once = distinct-is _ (rows-distinct c.cut c.order c.heads c.times (is_short c.env));
      crit_spelled = spelled-some crit_texts (crit_text c.crit) c.crit (crit-spelled c.crit);
    }

pub length-items : (c : Class) → length (join_with_byte comma (item_texts_of c)) ≤ 23
unfolding item_texts_of texts
length-items c = texts-short c.cut c.order c.heads c.times (is_short c.env)

pub length-name_of : (c : Class) → length (name_of c) ≤ LONGEST_CLASS_NAME
unfolding name_of
length-name_of c =
    let items : List ℕ = join_with_byte comma (item_texts_of c) in
    let one = env-short c.env in
    let two = length-items c in
    let three = crit-short c.crit in
    omega (arith, length-append (env_text c.env) (bar ∷ (items ++ (bar ∷ crit_text c.crit))), length-append items (bar ∷ crit_text c.crit))

pub ruleset print_rules = (length-items)
