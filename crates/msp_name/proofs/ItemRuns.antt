-- The texts of the items, read from left to right, and the class that they give.
use Rattle.std.proofs.Common.{◌≡◌, ℕ, ◌+◌, List, [], ◌∷◌, map, length, refl, sym, ap, ◌∙◌, Bool, true, false, cond, ◌||◌, Option, Some, None, Result, Ok, Err, All, Contains, ok_or}
use Rattle.std.specs.List.{AllByRecursion, IsDistinct}
use Rattle.std.proofs.lemmas.List.Elements.{All-nil, All-cons, All-head, All-tail}
use Rattle.std.proofs.lemmas.Bool.{or_parts, or_right}
use Rattle.msp_class.specs.declared.class.Class.{Class}
use Rattle.msp_name.specs.declared.fault.NameFault.{NameFault}
use Rattle.msp_name.specs.declared.fault.NameFault.TheVariants.{Item as NoItem, Twice, Clash}
use Rattle.msp_name.specs.declared.words.Item.{Item}
use Rattle.msp_name.specs.declared.words.Item.TheVariants as i
use Rattle.msp_name.specs.Spellings.{item_texts}
use Rattle.msp_name.specs.Items.{has_item, with_item, plain_env, item_eq}
use Rattle.msp_name.specs.Names.{among}
use Rattle.msp_name.specs.Reading.{spelled, then_read, placed, item_read, items_read}
use Rattle.msp_name.proofs.ItemLemmas.{Gains, Gains-with, Within, Fits, fits_within, class_same}
use Rattle.msp_name.proofs.TableLemmas.{spelled-some, item_spelled}

-- from the class `s` on, the items give the class `c`
pub record Reads (s : Class) (xs : List Item) (c : Class) : Type 0 where
  pub exact : (y : Item) → has_item c y ≡ (among xs y || has_item s y)
  pub fresh : AllByRecursion (λ y. has_item s y ≡ false) xs
  pub once : IsDistinct item_eq xs
  pub env : plain_env s.env ≡ plain_env c.env
  pub crit : s.crit ≡ c.crit

or_move : (a b c : Bool) → (a || (b || c)) ≡ ((b || a) || c)
or_move true true c = refl
or_move true false c = refl
or_move false true c = refl
or_move false false c = refl

item_eq-itself : (x : Item) → item_eq x x ≡ true
item_eq-itself i.Cut = refl
item_eq-itself _ = refl

fresh_back : (s d : Class) (x : Item) → Gains s x d → (xs : List Item)
    → AllByRecursion (λ y. has_item d y ≡ false) xs → AllByRecursion (λ y. has_item s y ≡ false) xs × AllByRecursion (λ y. item_eq x y ≡ false) xs
fresh_back s d x g [] h = (tt, tt)
fresh_back s d x g (y ∷ ys) h =
    let both = or_parts _ _ (sym (g.items y) ∙ h.0) in
    let rest = fresh_back s d x g ys h.1 in
    ((both.1, rest.0), (both.0, rest.1))

fresh_on : (s d : Class) (x : Item) → Gains s x d → (xs : List Item)
    → AllByRecursion (λ y. has_item s y ≡ false) xs → AllByRecursion (λ y. item_eq x y ≡ false) xs → AllByRecursion (λ y. has_item d y ≡ false) xs
fresh_on s d x g [] h k = tt
fresh_on s d x g (y ∷ ys) h k =
    let here : has_item d y ≡ false = g.items y ∙ (rw (k.0, h.0) refl) in
    (here, fresh_on s d x g ys h.1 k.1)

Reads-cons : (s d c : Class) (x : Item) (xs : List Item) → Gains s x d → has_item s x ≡ false → Reads d xs c → Reads s (x ∷ xs) c
unfolding IsDistinct
Reads-cons s d c x xs g h r =
    let f = fresh_back s d x g xs r.fresh in
    record {
      exact = λ y. r.exact y ∙ ap (λ b. among xs y || b) (g.items y) ∙ or_move (among xs y) (item_eq x y) (has_item s y);
      fresh = (h, f.0);
      once = (f.1, r.once);
      env = sym g.env ∙ r.env;
      crit = sym g.crit ∙ r.crit;
    }

Reads-tail : (s d c : Class) (x : Item) (xs : List Item) → Gains s x d → Reads s (x ∷ xs) c → Reads d xs c
unfolding IsDistinct
Reads-tail s d c x xs g r =
    record {
      exact = λ y. r.exact y ∙ sym (or_move (among xs y) (item_eq x y) (has_item s y)) ∙ ap (λ b. among xs y || b) (sym (g.items y));
      fresh = fresh_on s d x g xs r.fresh.1 r.once.0;
      once = r.once.1;
      env = g.env ∙ r.env;
      crit = g.crit ∙ r.crit;
    }

Reads-fits : (s c : Class) (x : Item) (xs : List Item) → Reads s (x ∷ xs) c → Fits s x
Reads-fits s c x xs r =
    let within : Within s c = record { items = λ y h. r.exact y ∙ ap (λ b. among (x ∷ xs) y || b) h ∙ or_right _ _ refl; env = r.env } in
    let here : has_item c x ≡ true = r.exact x ∙ (rw (item_eq-itself x) refl) in
    fits_within s c x within here r.fresh.0

Reads-none : (s c : Class) → s ≡ c → Reads s [] c
unfolding IsDistinct
Reads-none s c e = record { exact = λ y. ap (λ v. has_item v y) (sym e); fresh = tt; once = tt; env = ap (λ v. plain_env v.env) e; crit = ap (λ v. v.crit) e }

pub then_read-ok : {A B : Type 0} (r : Result A NameFault) (f : A → Result B NameFault) (b : B) → then_read r f ≡ Ok b → (a : A) × (r ≡ Ok a) × (f a ≡ Ok b)
then_read-ok (Ok a) f b h = (a, refl, h)
then_read-ok (Err e) f b h = cc

pub ok_or-ok : {A : Type 0} (o : Option A) (e : NameFault) (a : A) → ok_or o e ≡ Ok a → o ≡ Some a
ok_or-ok None e a h = cc
ok_or-ok (Some x) e a h = let k : x ≡ a = cc in ap (λ v. Some v) k

if_ok : (b : Bool) (e : NameFault) (r : Result Class NameFault) (d : Class) → cond b (Err e) r ≡ Ok d → (b ≡ false) × (r ≡ Ok d)
if_ok true e r d h = cc
if_ok false e r d h = (refl, h)

-- what a read item tells
record ReadsOne (s : Class) (w : List ℕ) (d : Class) : Type 0 where
  item : Item
  spells : spelled item_texts w ≡ Some item
  lacked : has_item s item ≡ false
  fits : with_item s item ≡ Some d

item_read-ok : (at : ℕ) (s : Class) (w : List ℕ) (d : Class) → item_read at s w ≡ Ok d → ReadsOne s w d
unfolding item_read
item_read-ok at s w d h =
    let a = then_read-ok (ok_or (spelled item_texts w) (NoItem at)) (placed at s) d h in
    let b = if_ok (has_item s a.0) (Twice at) (ok_or (with_item s a.0) (Clash at)) d a.2 in
    record { item = a.0; spells = ok_or-ok _ _ _ a.1; lacked = b.0; fits = ok_or-ok _ _ _ b.1 }

item_read-from : (at : ℕ) (s : Class) (w : List ℕ) (x : Item) (d : Class) → spelled item_texts w ≡ Some x → has_item s x ≡ false → with_item s x ≡ Some d → item_read at s w ≡ Ok d
unfolding item_read
item_read-from at s w x d e f g = rw (e, f, g) refl

-- the words with their items
pub record Given (s : Class) (ws : List (List ℕ)) (c : Class) : Type 0 where
  pub items : List (List ℕ × Item)
  pub texts : map (λ w. w.0) items ≡ ws
  pub spells : All (Contains item_texts) items
  pub reads : Reads s (map (λ w. w.1) items) c

pub items_read-ok : (at : ℕ) (s : Class) (ws : List (List ℕ)) (c : Class) → items_read at s ws ≡ Ok c → Given s ws c
items_read-ok at s [] c h = let e : s ≡ c = cc in record { items = []; texts = refl; spells = All-nil (Contains item_texts); reads = Reads-none s c e }
items_read-ok at s (w ∷ ws) c h =
    let a = then_read-ok (item_read at s w) (λ d. items_read (at + length w + 1) d ws) c h in
    let one = item_read-ok at s w a.0 a.1 in
    let rest = items_read-ok (at + length w + 1) a.0 ws c a.2 in
    record {
      items = (w, one.item) ∷ rest.items;
      texts = ap (λ v. w ∷ v) rest.texts;
      spells = All-cons (Contains item_texts) (w, one.item) rest.items (spelled-some item_texts w one.item one.spells) rest.spells;
      reads = Reads-cons s a.0 c one.item _ (Gains-with s one.item a.0 one.fits) one.lacked rest.reads;
    }

pub items_read-from : (at : ℕ) (s c : Class) (items : List (List ℕ × Item)) → All (Contains item_texts) items → Reads s (map (λ w. w.1) items) c → items_read at s (map (λ w. w.0) items) ≡ Ok c
items_read-from at s c [] h r = ap (λ v. Ok v) (class_same s c r.exact r.env r.crit)
items_read-from at s c (w ∷ ws) h r =
    let fit = Reads-fits s c w.1 (map (λ v. v.1) ws) r in
    let spells = item_spelled w.0 w.1 (All-head (Contains item_texts) w ws h) in
    let read : item_read at s w.0 ≡ Ok fit.0 = item_read-from at s w.0 w.1 fit.0 spells r.fresh.0 fit.1 in
    let rest = items_read-from (at + length w.0 + 1) fit.0 c ws (All-tail (Contains item_texts) w ws h) (Reads-tail s fit.0 c w.1 _ (Gains-with s w.1 fit.0 fit.1) r) in
    rw read rest
