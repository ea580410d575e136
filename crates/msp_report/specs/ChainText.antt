-- The lines of a chain, and of the chains that show a contradiction.
use Rattle.std.specs.Prelude.{ℕ, List, [], ◌∷◌, ◌++◌, Option, None, Some, codes, decimal}
use Rattle.std.specs.Option.{option_map_or}
use Rattle.msp_class.specs.declared.class.Class.{Class}
use Rattle.msp_name.specs.Names.{name_of}
use Rattle.msp_table.specs.declared.row.Chain.{Chain}
use Rattle.msp_table.specs.Rows.{goes_of}

-- the line of a row of a chain: its number, and the name of the class to which it leads
unfoldable pub row_line : ℕ → Class → List ℕ
row_line k c = codes "row " ++ decimal k ++ codes " " ++ name_of c ++ codes "\n"

-- the lines of rows that lead on from a class
abbrev pub row_lines : Class → List ℕ → List ℕ
row_lines a [] = []
row_lines a (k ∷ ks) = option_map_or (λ c. row_line k c ++ row_lines c ks) (goes_of k a) []

-- a chain: the class from which it leads, and its rows
unfoldable pub chain_lines : Chain → List ℕ
chain_lines chain = codes "start " ++ name_of chain.from ++ codes "\n" ++ row_lines chain.from chain.rows

-- a chain below its heading; nothing where there is no chain
abbrev pub headed_chain : List ℕ → Option Chain → List ℕ
headed_chain heading None = []
headed_chain heading (Some chain) = heading ++ chain_lines chain

-- the chains that show that the results contradict themselves
unfoldable pub clash_part : Option Chain → Option Chain → List ℕ
clash_part clash strong_clash = headed_chain (codes "clash\n") clash ++ headed_chain (codes "strong clash\n") strong_clash

-- the last line of every report
abbrev pub end_line : List ℕ
end_line = codes "end\n"
