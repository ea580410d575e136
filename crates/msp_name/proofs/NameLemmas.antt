-- What is read is a name of the class, and the other way round.
use Rattle.std.proofs.Common.{◌≡◌, ℕ, ◌+◌, List, [], ◌∷◌, ◌++◌, map, length, refl, sym, ap, subst, ◌∙◌, Bool, true, false, ◌||◌, Option, Some, None, Ok, Contains, ok_or}
use Rattle.std.specs.List.{AllByRecursion, IsDistinct, join_with_byte}
use Rattle.std.proofs.lemmas.List.Splits.{join_with_byte-slice_split}
use Rattle.msp_class.specs.declared.class.Class.{Class}
use Rattle.msp_class.specs.declared.class.Env.{Env}
use Rattle.msp_class.specs.declared.class.Env.TheVariants as e
use Rattle.msp_class.specs.declared.class.Crit.{Crit}
use Rattle.msp_class.specs.declared.class.Crit.TheVariants as k
use Rattle.msp_name.specs.declared.fault.NameFault.{NameFault}
use Rattle.msp_name.specs.declared.fault.NameFault.TheVariants.{Environment, Criterion}
use Rattle.msp_name.specs.declared.words.Item.{Item}
use Rattle.msp_name.specs.declared.words.Item.TheVariants as i
use Rattle.msp_name.specs.Spellings.{env_texts, crit_texts}
use Rattle.msp_name.specs.Items.{has_item, plain_env, is_short, bare, item_eq}
use Rattle.msp_name.specs.Names.{bar, comma, among, NameOf}
use Rattle.msp_name.specs.Reading.{spelled, then_read, items_read, crit_read, fields_read, parts, parts_read, words, reading_of}
use Rattle.msp_name.proofs.ItemRuns.{Reads, Given, items_read-ok, items_read-from, then_read-ok, ok_or-ok}
use Rattle.msp_name.proofs.TableLemmas.{spelled-some, env_spelled, crit_spelled}
use Rattle.msp_name.proofs.Separators.{IsEnvRow, env_row_of, crit-lacks_bar, items-lack_bar, words-items, join-words, parts-three}

has_item-crit : (c : Class) (x : Crit) (y : Item) → has_item (record c { crit = x }) y ≡ has_item c y
has_item-crit c x i.Cut = refl
has_item-crit c x _ = refl

has_item-bare : (x : Env) → is_short x ≡ false → (y : Item) → has_item (bare x) y ≡ false
has_item-bare x h i.Short = h
has_item-bare x h _ = refl

or_none : (a : Bool) → (a || false) ≡ a
or_none true = refl
or_none false = refl

-- the three texts of what is read
three : (ps : List (List ℕ)) (c : Class) → parts_read ps ≡ Ok c → (env : List ℕ) × (items : List ℕ) × (crit : List ℕ) × (ps ≡ env ∷ items ∷ crit ∷ []) × (fields_read env items crit ≡ Ok c)
three (x ∷ y ∷ z ∷ []) c h = (x, y, z, refl, h)
three _ c h = cc

crit-ok : (o : Option Crit) (d : Class) (f : NameFault) (c : Class)
    → ok_or (elim o as (λ _. Option Class) [ Some x ↦ Some (record d { crit = x }) | None ↦ None ]) f ≡ Ok c → (x : Crit) × (o ≡ Some x) × (record d { crit = x } ≡ c)
crit-ok None d f c h = cc
crit-ok (Some x) d f c h = (x, refl, cc)

-- the parts of a class that was read
record IsRead (env items crit : List ℕ) (c : Class) : Type 0 where
  machines : Env
  env_is : spelled env_texts env ≡ Some machines
  before : Class
  items_are : items_read (length env + 1) (bare machines) (words items) ≡ Ok before
  last : Crit
  crit_is : spelled crit_texts crit ≡ Some last
  whole : record before { crit = last } ≡ c

fields_read-ok : (env items crit : List ℕ) (c : Class) → fields_read env items crit ≡ Ok c → IsRead env items crit c
unfolding fields_read
fields_read-ok env items crit c h =
    let a = then_read-ok (ok_or (spelled env_texts env) (Environment 0))
    (λ x. then_read (items_read (length env + 1) (bare x) (words items)) (λ d. crit_read (length env + length items + 2) d crit)) c h in
    let b = then_read-ok (items_read (length env + 1) (bare a.0) (words items)) (λ d. crit_read (length env + length items + 2) d crit) c a.2 in
    let l = crit-ok (spelled crit_texts crit) b.0 (Criterion (length env + length items + 2)) c b.2 in
    record { machines = a.0; env_is = ok_or-ok _ _ _ a.1; before = b.0; items_are = b.1; last = l.0; crit_is = l.1; whole = l.2 }

read_name : (b env items crit : List ℕ) (c : Class) → parts bar b ≡ env ∷ items ∷ crit ∷ [] → IsRead env items crit c → NameOf b c
read_name b env items crit c split r =
    let given : Given (bare r.machines) (words items) r.before = items_read-ok (length env + 1) (bare r.machines) (words items) r.before r.items_are in
    let row : Contains env_texts (env, r.machines) = spelled-some env_texts env r.machines r.env_is in
    let facts : IsEnvRow (env, r.machines) = env_row_of env r.machines row in
    let joined : join_with_byte comma (map (λ w. w.0) given.items) ≡ items = ap (λ ws. join_with_byte comma ws) given.texts ∙ join-words items in
    let same_env : r.machines ≡ plain_env c.env = sym facts.plain ∙ given.reads.env ∙ ap (λ v. plain_env v.env) r.whole in
    let same_crit : r.last ≡ c.crit = ap (λ v. v.crit) r.whole in
    record {
      env = env;
      items = given.items;
      crit = crit;
      written = sym (join_with_byte-slice_split bar b) ∙ ap (λ ps. join_with_byte bar ps) split
          ∙ ap (λ v. env ++ (bar ∷ (v ++ (bar ∷ crit)))) (sym joined);
      env_spelled = let P : Env → Type 0 = λ v. Contains env_texts (env, v) in subst P same_env row;
      items_spelled = given.spells;
      exact = λ y. ap (λ v. has_item v y) (sym r.whole) ∙ has_item-crit r.before r.last y
          ∙ given.reads.exact y ∙ ap (λ v. among (map (λ w. w.1) given.items) y || v) (has_item-bare r.machines facts.long y) ∙ or_none _;
      once = given.reads.once;
      crit_spelled = let P : Crit → Type 0 = λ v. Contains crit_texts (crit, v) in subst P same_crit (spelled-some crit_texts crit r.last r.crit_is);
    }

-- what is read is a name
pub NameOf-from_reading : (b : List ℕ) (c : Class) → reading_of b ≡ Ok c → NameOf b c
unfolding reading_of
NameOf-from_reading b c h =
    let t = three (parts bar b) c h in
    read_name b t.0 t.1 t.2 c t.3 (fields_read-ok t.0 t.1 t.2 c t.4)

bare_fresh : (x : Env) → is_short x ≡ false → (xs : List Item) → AllByRecursion (λ y. has_item (bare x) y ≡ false) xs
bare_fresh x h [] = tt
bare_fresh x h (y ∷ ys) = (has_item-bare x h y, bare_fresh x h ys)

plain_env-twice : (x : Env) → plain_env (plain_env x) ≡ plain_env x
plain_env-twice e.One = refl
plain_env-twice _ = refl

bare_reads : (c : Class) (xs : List Item) → is_short (plain_env c.env) ≡ false
    → ((y : Item) → has_item c y ≡ among xs y) → IsDistinct item_eq xs → Reads (bare (plain_env c.env)) xs (record c { crit = k.Cmax })
bare_reads c xs long exact once =
    record {
      exact = λ y. has_item-crit c k.Cmax y ∙ exact y ∙ sym (or_none _) ∙ ap (λ v. among xs y || v) (sym (has_item-bare (plain_env c.env) long y));
      fresh = bare_fresh (plain_env c.env) long xs;
      once = once;
      env = plain_env-twice c.env;
      crit = refl;
    }

fields_read-from : (env items crit : List ℕ) (x : Env) (d c : Class) → spelled env_texts env ≡ Some x → items_read (length env + 1) (bare x) (words items) ≡ Ok d
    → spelled crit_texts crit ≡ Some c.crit → record d { crit = c.crit } ≡ c → fields_read env items crit ≡ Ok c
unfolding fields_read
fields_read-from env items crit x d c a b l whole = rw (a, b, l) (ap (λ v. Ok v) whole)

-- a name is read
pub reading_of-NameOf : (b : List ℕ) (c : Class) → NameOf b c → reading_of b ≡ Ok c
unfolding reading_of
reading_of-NameOf b c n =
    let facts : IsEnvRow (n.env, plain_env c.env) = env_row_of n.env (plain_env c.env) n.env_spelled in
    let text : List ℕ = join_with_byte comma (map (λ w. w.0) n.items) in
    let split : parts bar b ≡ n.env ∷ text ∷ n.crit ∷ [] =
    ap (λ v. parts bar v) n.written ∙ parts-three n.env text n.crit facts.no_bar (items-lack_bar n.items n.items_spelled) (crit-lacks_bar n.crit c.crit n.crit_spelled) in
    let d : Class = record c { crit = k.Cmax } in
    let read : items_read (length n.env + 1) (bare (plain_env c.env)) (map (λ w. w.0) n.items) ≡ Ok d =
    items_read-from (length n.env + 1) (bare (plain_env c.env)) d n.items n.items_spelled (bare_reads c (map (λ w. w.1) n.items) facts.long n.exact n.once) in
    let read' : items_read (length n.env + 1) (bare (plain_env c.env)) (words text) ≡ Ok d =
    ap (λ ws. items_read (length n.env + 1) (bare (plain_env c.env)) ws) (words-items n.items n.items_spelled) ∙ read in
    ap parts_read split ∙ fields_read-from n.env text n.crit (plain_env c.env) d c (env_spelled n.env (plain_env c.env) n.env_spelled) read' (crit_spelled n.crit c.crit n.crit_spelled) refl

-- a text names one class at most
pub NameOf-determined : (b : List ℕ) (c d : Class) → NameOf b c → NameOf b d → c ≡ d
NameOf-determined b c d m n =
    let p = reading_of-NameOf b c m in
    let q = reading_of-NameOf b d n in
    cc
