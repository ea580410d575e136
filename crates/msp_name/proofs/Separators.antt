-- Texts without a separator, and what they are cut into.
use Rattle.std.proofs.Common.{◌≡◌, ℕ, List, [], ◌∷◌, ◌++◌, map, refl, ap, ◌∙◌, Bool, true, false, ◌==◌, All, Contains}
use Rattle.std.specs.List.{AllByRecursion, list_any, join_with_byte}
use Rattle.std.proofs.lemmas.Bool.{eq-eqb, or_parts, or_from}
use Rattle.std.proofs.lemmas.List.Folds.{list_any-append}
use Rattle.std.proofs.lemmas.List.Elements.{All-from_recursion, All-contains, All-head, All-tail}
use Rattle.std.proofs.lemmas.List.Splits.{slice_split_none, slice_split_at, join_with_byte-slice_split}
use Rattle.msp_class.specs.declared.class.Env.{Env}
use Rattle.msp_class.specs.declared.class.Env.TheVariants as e
use Rattle.msp_class.specs.declared.class.Crit.{Crit}
use Rattle.msp_name.specs.declared.words.Item.{Item}
use Rattle.msp_name.specs.Spellings.{env_texts, item_texts, crit_texts}
use Rattle.msp_name.specs.Items.{is_short, plain_env}
use Rattle.msp_name.specs.Names.{bar, comma}
use Rattle.msp_name.specs.Reading.{parts, words}

-- the separator does not stand in the text
abbrev pub Lacks : ℕ → List ℕ → Type 0
Lacks m w = list_any (λ x. x == m) w ≡ false

each_fails : {X : Type 0} (p : X → Bool) (xs : List X) → list_any p xs ≡ false → AllByRecursion (λ x. p x ≡ false) xs
each_fails p [] h = tt
each_fails p (x ∷ xs) h = let both = or_parts (p x) (list_any p xs) h in (both.0, each_fails p xs both.1)

none_passes : {X : Type 0} (p : X → Bool) (xs : List X) → list_any p xs ≡ false → All (λ x. p x ≡ false) xs
none_passes p xs h = All-from_recursion (λ x. p x ≡ false) xs (each_fails p xs h)

pub parts-whole : (m : ℕ) (w : List ℕ) → Lacks m w → parts m w ≡ w ∷ []
parts-whole m w h = slice_split_none (λ x. x == m) w (none_passes (λ x. x == m) w h)

pub parts-first : (m : ℕ) (w ys : List ℕ) → Lacks m w → parts m (w ++ (m ∷ ys)) ≡ w ∷ parts m ys
parts-first m w ys h = slice_split_at (λ x. x == m) w m ys (none_passes (λ x. x == m) w h) (eq-eqb m m refl)

is_empty : List ℕ → Bool
is_empty [] = true
is_empty (x ∷ xs) = false

-- a text that can stand between two commas
record IsText (w : List ℕ) : Type 0 where
  no_bar : Lacks bar w
  no_comma : Lacks comma w
  some : is_empty w ≡ false

join-lacks_bar : (ws : List (List ℕ)) → AllByRecursion IsText ws → Lacks bar (join_with_byte comma ws)
join-lacks_bar [] h = refl
join-lacks_bar (w ∷ []) h = h.0.no_bar
join-lacks_bar (w ∷ v ∷ ws) h =
    list_any-append (λ x. x == bar) w (comma ∷ join_with_byte comma (v ∷ ws)) ∙ or_from _ _ h.0.no_bar (join-lacks_bar (v ∷ ws) h.1)

parts-join : (w : List ℕ) (ws : List (List ℕ)) → AllByRecursion IsText (w ∷ ws) → parts comma (join_with_byte comma (w ∷ ws)) ≡ w ∷ ws
parts-join w [] h = parts-whole comma w h.0.no_comma
parts-join w (v ∷ ws) h = parts-first comma w (join_with_byte comma (v ∷ ws)) h.0.no_comma ∙ ap (λ ps. w ∷ ps) (parts-join v ws h.1)

words-join : (ws : List (List ℕ)) → AllByRecursion IsText ws → words (join_with_byte comma ws) ≡ ws
unfolding is_empty
words-join [] h = refl
words-join ([] ∷ ws) h = let k : true ≡ false = h.0.some in cc
words-join ((x ∷ xs) ∷ []) h = parts-join (x ∷ xs) [] h
words-join ((x ∷ xs) ∷ v ∷ ws) h = parts-join (x ∷ xs) (v ∷ ws) h

pub join-words : (b : List ℕ) → join_with_byte comma (words b) ≡ b
join-words [] = refl
join-words (x ∷ xs) = join_with_byte-slice_split comma (x ∷ xs)

-- a test that no row of a table passes fails on a row of it
row_fails : {A : Type 0} (p : List ℕ × A → Bool) (rows : List (List ℕ × A)) (row : List ℕ × A) → list_any p rows ≡ false → Contains rows row → p row ≡ false
row_fails p rows row h is = All-contains (λ x. p x ≡ false) rows row (none_passes p rows h) is

item_text : (row : List ℕ × Item) → Contains item_texts row → IsText row.0
unfolding item_texts is_empty
item_text row h = record {
  no_bar = row_fails (λ x. list_any (λ b. b == bar) x.0) item_texts row refl h;
  no_comma = row_fails (λ x. list_any (λ b. b == comma) x.0) item_texts row refl h;
  some = row_fails (λ x. is_empty x.0) item_texts row refl h;
}

all_texts : (items : List (List ℕ × Item)) → All (Contains item_texts) items → AllByRecursion IsText (map (λ w. w.0) items)
all_texts [] h = tt
all_texts (w ∷ ws) h = (item_text w (All-head (Contains item_texts) w ws h), all_texts ws (All-tail (Contains item_texts) w ws h))

-- what the items of the table are cut into
pub words-items : (items : List (List ℕ × Item)) → All (Contains item_texts) items → words (join_with_byte comma (map (λ w. w.0) items)) ≡ map (λ w. w.0) items
words-items items h = words-join (map (λ w. w.0) items) (all_texts items h)

pub items-lack_bar : (items : List (List ℕ × Item)) → All (Contains item_texts) items → Lacks bar (join_with_byte comma (map (λ w. w.0) items))
items-lack_bar items h = join-lacks_bar (map (λ w. w.0) items) (all_texts items h)

-- a row of the environments
pub record IsEnvRow (row : List ℕ × Env) : Type 0 where
  pub no_bar : Lacks bar row.0
  pub long : is_short row.1 ≡ false
  pub plain : plain_env row.1 ≡ row.1

plain_long : (x : Env) → is_short x ≡ false → plain_env x ≡ x
plain_long e.J2Short h = cc
plain_long e.JShort h = cc
plain_long x h = refl

pub env_row_of : (w : List ℕ) (x : Env) → Contains env_texts (w, x) → IsEnvRow (w, x)
unfolding env_texts
env_row_of w x h =
    let long = row_fails (λ row. is_short row.1) env_texts (w, x) refl h in
    record { no_bar = row_fails (λ row. list_any (λ b. b == bar) row.0) env_texts (w, x) refl h; long = long; plain = plain_long x long }

pub crit-lacks_bar : (w : List ℕ) (x : Crit) → Contains crit_texts (w, x) → Lacks bar w
unfolding crit_texts
crit-lacks_bar w x h = row_fails (λ row. list_any (λ b. b == bar) row.0) crit_texts (w, x) refl h

-- the three parts of a text with two bars
pub parts-three : (a b c : List ℕ) → Lacks bar a → Lacks bar b → Lacks bar c → parts bar (a ++ (bar ∷ (b ++ (bar ∷ c)))) ≡ a ∷ b ∷ c ∷ []
parts-three a b c h k l = parts-first bar a (b ++ (bar ∷ c)) h ∙ ap (λ ps. a ∷ ps) (parts-first bar b c k ∙ ap (λ ps. b ∷ ps) (parts-whole bar c l))
