-- The text of the report of `why`.
use Rattle.std.specs.Prelude.{ℕ, ◌≡◌, ◌+◌, Bool, ◌&&◌, ◌==◌, List, [], ◌∷◌, ◌++◌, Option, None, Some, codes, decimal, if◌then◌else◌}
use Rattle.std.specs.Option.{option_map_or}
use Rattle.msp_class.specs.declared.class.Class.{Class}
use Rattle.msp_class.specs.Rank.{rank_of}
use Rattle.msp_table.specs.declared.row.Chain.{Chain}
use Rattle.msp_table.specs.Rows.{goes_of, keeps_size}
use Rattle.msp_table.specs.Chains.{every_row}
use Rattle.msp_closure.specs.declared.entry.Entry.{Entry}
use Rattle.msp_closure.specs.declared.entry.Verdict.{Verdict}
use Rattle.msp_closure.specs.declared.entry.Mark.{Mark}
use Rattle.msp_closure.specs.Entries.{is_easy, is_pseudo, is_hard, is_strong, easy_listed, pseudo_listed, hard_listed, strong_listed, Says, IsWay}
use Rattle.msp_report.specs.Lines.{class_line}
use Rattle.msp_report.specs.ChainText.{chain_lines, clash_part, end_line}
use Rattle.msp_report.specs.LabelsText.{label_text}

-- the source of an entry behind a space; nothing where it is empty
abbrev pub source_text : List ℕ → List ℕ
source_text [] = []
source_text (b ∷ bs) = codes " " ++ b ∷ bs

-- the line of an entry: its number and its source
unfoldable pub record_line : ℕ → Entry → List ℕ
record_line n e = codes "record " ++ decimal n ++ source_text e.source ++ codes "\n"

-- whether an entry lists a class with a verdict that passes the test
abbrev pub lists : (Verdict → Bool) → Class → Entry → Bool
lists test c e = test e.verdict && rank_of e.class == rank_of c

-- the line of the first entry that lists a class with a verdict that passes the test; the entries are numbered on from n
abbrev pub record_from : (Verdict → Bool) → Class → ℕ → List Entry → List ℕ
record_from test c n [] = []
record_from test c n (e ∷ es) = if lists test c e then record_line n e else record_from test c (n + 1) es

-- the same, with the entries numbered from 1
unfoldable pub first_record : (Verdict → Bool) → List Entry → Class → List ℕ
first_record test es c = record_from test c 1 es

-- the class to which rows lead from a class
abbrev pub last_class : Class → List ℕ → Class
last_class a [] = a
last_class a (k ∷ ks) = option_map_or (λ c. last_class c ks) (goes_of k a) a

-- a chain from the class to a listed one, and the record of that one
abbrev pub part_to : List ℕ → (Verdict → Bool) → List Entry → Option Chain → List ℕ
part_to heading test es None = []
part_to heading test es (Some chain) = heading ++ chain_lines chain ++ first_record test es (last_class chain.from chain.rows)

-- the record of a listed class, and a chain from it to the class
abbrev pub part_from : List ℕ → (Verdict → Bool) → List Entry → Option Chain → List ℕ
part_from heading test es None = []
part_from heading test es (Some chain) = heading ++ first_record test es chain.from ++ chain_lines chain

-- why the class is easy or, where it is not, why it is pseudopolynomial
abbrev pub upper_part : List Entry → Option Chain → Option Chain → List ℕ
upper_part es None pseudo = part_to (codes "pseudo\n") is_pseudo es pseudo
upper_part es (Some chain) pseudo = part_to (codes "easy\n") is_easy es (Some chain)

-- why the class is hard, and why in the strong sense
abbrev pub lower_part : List Entry → Option Chain → Option Chain → List ℕ
lower_part es hard strong = part_from (codes "hard\n") is_hard es hard ++ part_from (codes "strong\n") is_strong es strong

-- the first lines: the class and its label
abbrev pub why_head : Class → Mark → List ℕ
why_head c m = class_line c ++ codes "label " ++ label_text m ++ codes "\n"

-- the report of `why` on a class: its label, the chains that show it, then the chains that show a contradiction
pub record IsWhyText (es : List Entry) (c : Class) (easy pseudo hard strong : Option Chain) (text : List ℕ) : Type 0 where
  pub mark : Mark
  pub clash : Option Chain
  pub strong_clash : Option Chain
  pub label_is : Says es c mark
  pub clash_is : IsWay every_row (easy_listed es) (hard_listed es) clash
  pub strong_clash_is : IsWay keeps_size (pseudo_listed es) (strong_listed es) strong_clash
  pub text_is : text ≡ why_head c mark ++ upper_part es easy pseudo ++ lower_part es hard strong ++ clash_part clash strong_clash ++ end_line
