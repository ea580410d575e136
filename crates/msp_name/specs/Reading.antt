-- How a name is read: part by part, up to the first fault.
use Rattle.std.specs.Prelude.{ℕ, ◌+◌, ◌==◌, List, [], ◌∷◌, length, Option, Some, None, Result, Ok, Err, bytes_eq, if◌then◌else◌, ok_or}
use Rattle.std.specs.List.{slice_split}
use Rattle.msp_class.specs.declared.class.Class.{Class}
use Rattle.msp_name.specs.declared.words.Item.{Item}
use Rattle.msp_name.specs.declared.fault.NameFault.{NameFault}
use Rattle.msp_name.specs.declared.fault.NameFault.TheVariants.{Bars, Environment, Item as NoItem, Twice, Clash, Criterion}
use Rattle.msp_name.specs.Spellings.{env_texts, item_texts, crit_texts}
use Rattle.msp_name.specs.Items.{has_item, with_item, bare}
use Rattle.msp_name.specs.Names.{bar, comma}

-- what the table says of a text
abbrev pub spelled : {A : Type 0} → List (List ℕ × A) → List ℕ → Option A
spelled [] w = None
spelled (row ∷ rows) w = if bytes_eq w row.0 then Some row.1 else spelled rows w

-- the next step, or the fault
abbrev pub then_read : {A B : Type 0} → Result A NameFault → (A → Result B NameFault) → Result B NameFault
then_read (Ok x) f = f x
then_read (Err e) f = Err e

-- the class with an item that stands at the place `at`; the items before it are those of the class so far
abbrev pub placed : ℕ → Class → Item → Result Class NameFault
placed at c x = if has_item c x then Err (Twice at) else ok_or (with_item c x) (Clash at)

-- the same by the item's text
unfoldable pub item_read : ℕ → Class → List ℕ → Result Class NameFault
item_read at c w = then_read (ok_or (spelled item_texts w) (NoItem at)) (placed at c)

-- the class with the items of all these texts, from left to right
abbrev pub items_read : ℕ → Class → List (List ℕ) → Result Class NameFault
items_read at c [] = Ok c
items_read at c (w ∷ ws) = then_read (item_read at c w) (λ d. items_read (at + length w + 1) d ws)

-- the parts round a separator
abbrev pub parts : ℕ → List ℕ → List (List ℕ)
parts separator b = slice_split (λ x. x == separator) b

-- the texts of the items: none between two bars side by side
abbrev pub words : List ℕ → List (List ℕ)
words [] = []
words (x ∷ xs) = parts comma (x ∷ xs)

-- the class with the criterion whose text stands at the place `at`
abbrev pub crit_read : ℕ → Class → List ℕ → Result Class NameFault
crit_read at c w = ok_or (elim (spelled crit_texts w) [ Some x ↦ Some (record c { crit = x }) | None ↦ None ]) (Criterion at)

-- the class of the three texts round the bars
unfoldable pub fields_read : List ℕ → List ℕ → List ℕ → Result Class NameFault
fields_read env items crit =
    then_read (ok_or (spelled env_texts env) (Environment 0)) (λ x.
    then_read (items_read (length env + 1) (bare x) (words items)) (λ c.
    crit_read (length env + length items + 2) c crit))

abbrev pub parts_read : List (List ℕ) → Result Class NameFault
parts_read (env ∷ items ∷ crit ∷ []) = fields_read env items crit
parts_read _ = Err Bars

-- the class that the bytes name, or their first fault
unfoldable pub reading_of : List ℕ → Result Class NameFault
reading_of b = parts_read (parts bar b)
