-- The text of the report of `label`.
use Rattle.std.specs.Prelude.{ℕ, List, ◌++◌, Option, codes}
use Rattle.std.specs.List.{flat_map}
use Rattle.msp_class.specs.declared.class.Class.{Class}
use Rattle.msp_name.specs.Names.{name_of}
use Rattle.msp_table.specs.declared.row.Chain.{Chain}
use Rattle.msp_closure.specs.Frontier.{mark_at}
use Rattle.msp_closure.specs.declared.entry.Mark.{Mark}
use Rattle.msp_closure.specs.declared.entry.Mark.TheVariants.{Easy, Pseudo, Weak, Hard, Strong, Torn, Both, Unsettled}
use Rattle.msp_report.specs.ChainText.{clash_part, end_line}

-- the word of a mark
abbrev pub label_text : Mark → List ℕ
label_text Both = codes "both"
label_text Easy = codes "easy"
label_text Torn = codes "torn"
label_text Weak = codes "weak"
label_text Strong = codes "strong"
label_text Hard = codes "hard"
label_text Pseudo = codes "pseudo"
label_text Unsettled = codes "open"

-- the line of a class: its name and its label
unfoldable pub label_line : List Mark → Class → List ℕ
label_line marks c = name_of c ++ codes " " ++ label_text (mark_at marks c) ++ codes "\n"

abbrev pub label_lines : List Mark → List Class → List ℕ
label_lines marks classes = flat_map (label_line marks) classes

-- the report of `label`: a line for each class, then the chains that show a contradiction
abbrev pub labels_report : List Mark → List Class → Option Chain → Option Chain → List ℕ
labels_report marks classes clash strong_clash = label_lines marks classes ++ clash_part clash strong_clash ++ end_line
