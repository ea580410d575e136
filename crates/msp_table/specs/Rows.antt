-- The table of elementary reductions, and where each row leads.
use Rattle.std.specs.Prelude.{ℕ, ◌==◌, Bool, true, false, not, List, [], ◌∷◌, ◌&&◌, ◌||◌, if◌then◌else◌, codes, Option, Some, None, find, option_and_then}
use Rattle.std.specs.Option.{option_map_or}
use Rattle.msp_class.specs.declared.class.Class.{Class}
use Rattle.msp_class.specs.declared.class.Env.TheVariants.{One, P2, P3, P, Q2, Q, R2, R, O2, O3, O, F2, F3, F, J2Short, JShort, J2, J}
use Rattle.msp_class.specs.declared.class.Order.TheVariants.{Free, Chains, Intree, Outtree, Prec}
use Rattle.msp_class.specs.declared.class.Times.TheVariants.{General, Unit as UnitTimes, Equal}
use Rattle.msp_class.specs.declared.class.Crit.TheVariants.{Cmax, Lmax, Fmax, SumC, SumWC, SumU, SumWU, SumT, SumWT}
use Rattle.msp_class.specs.Env.{is_mirror}
use Rattle.msp_class.specs.Order.{turned}
use Rattle.msp_table.specs.declared.row.RowKind.{RowKind}
use Rattle.msp_table.specs.declared.row.RowKind.TheVariants.{Carries, Threshold}
use Rattle.msp_table.specs.Parts.{Part, EnvIs, CutIs, OrderIs, HeadsIs, TimesIs, CritIs, has, has_all, with_all}

-- a further condition of a row
abbrev pub Condition : Type 0
Condition = Class → Bool

-- a row of the table: it leads from a class that has the parts on its left and meets the further condition to the same class with
-- the parts on its right
pub record RowRule : Type 0 where
  pub number : ℕ
  pub text : List ℕ
  pub left : List Part
  pub given : Condition
  pub right : List Part
  -- whether every arc has its ends exchanged
  pub turns : Bool

-- a row that changes one part
abbrev pub rule : ℕ → List ℕ → Part → Condition → Part → RowRule
rule number text left given right = record {
  number = number;
  text = text;
  left = left ∷ [];
  given = given;
  right = right ∷ [];
  turns = false;
}

-- a row that changes several parts and exchanges the ends of every arc
abbrev pub turning_rule : ℕ → List ℕ → List Part → Condition → List Part → RowRule
turning_rule number text left given right = record {
  number = number;
  text = text;
  left = left;
  given = given;
  right = right;
  turns = true;
}

-- further conditions
abbrev pub no_condition : Condition
no_condition c = true

abbrev pub general_times : Condition
general_times c = has c (TimesIs General)

abbrev pub mirror : Condition
mirror c = is_mirror c.env

abbrev pub mirror_no_r_cmax : Condition
mirror_no_r_cmax c = is_mirror c.env && has_all c (HeadsIs false ∷ CritIs Cmax ∷ [])

abbrev pub one_machine_no_r : Condition
one_machine_no_r c = has_all c (EnvIs One ∷ HeadsIs false ∷ [])

abbrev pub exchangeable : Condition
exchangeable c = has_all c (EnvIs One ∷ CutIs false ∷ HeadsIs false ∷ TimesIs General ∷ CritIs SumWC ∷ [])

abbrev pub no_r_cmax_sumc_sumwc : Condition
no_r_cmax_sumc_sumwc c = has c (HeadsIs false) && (has c (CritIs Cmax) || has c (CritIs SumC) || has c (CritIs SumWC))

-- the table: number, text, parts on the left, further condition, parts on the right
unfoldable pub table : List RowRule
table =
    rule 1 (codes "none to chains") (OrderIs Free) no_condition (OrderIs Chains) ∷
    rule 2 (codes "chains to intree") (OrderIs Chains) no_condition (OrderIs Intree) ∷
    rule 3 (codes "chains to outtree") (OrderIs Chains) no_condition (OrderIs Outtree) ∷
    rule 4 (codes "intree to prec") (OrderIs Intree) no_condition (OrderIs Prec) ∷
    rule 5 (codes "outtree to prec") (OrderIs Outtree) no_condition (OrderIs Prec) ∷
    rule 6 (codes "no r to r") (HeadsIs false) no_condition (HeadsIs true) ∷
    rule 7 (codes "p=1 to p=p") (TimesIs UnitTimes) no_condition (TimesIs Equal) ∷
    rule 8 (codes "Cmax to Lmax") (CritIs Cmax) no_condition (CritIs Lmax) ∷
    rule 9 (codes "Lmax to fmax") (CritIs Lmax) no_condition (CritIs Fmax) ∷
    rule 10 (codes "sumC to sumwC") (CritIs SumC) no_condition (CritIs SumWC) ∷
    rule 11 (codes "sumC to sumT") (CritIs SumC) no_condition (CritIs SumT) ∷
    rule 12 (codes "sumwC to sumwT") (CritIs SumWC) no_condition (CritIs SumWT) ∷
    rule 13 (codes "sumT to sumwT") (CritIs SumT) no_condition (CritIs SumWT) ∷
    rule 14 (codes "sumU to sumwU") (CritIs SumU) no_condition (CritIs SumWU) ∷
    rule 15 (codes "Lmax to sumU") (CritIs Lmax) no_condition (CritIs SumU) ∷
    rule 16 (codes "Lmax to sumT") (CritIs Lmax) no_condition (CritIs SumT) ∷
    rule 17 (codes "1 to P") (EnvIs One) no_condition (EnvIs P) ∷
    rule 18 (codes "P2 to P") (EnvIs P2) no_condition (EnvIs P) ∷
    rule 19 (codes "P3 to P") (EnvIs P3) no_condition (EnvIs P) ∷
    rule 20 (codes "P2 to Q2") (EnvIs P2) no_condition (EnvIs Q2) ∷
    rule 21 (codes "P to Q") (EnvIs P) no_condition (EnvIs Q) ∷
    rule 22 (codes "Q2 to Q") (EnvIs Q2) no_condition (EnvIs Q) ∷
    rule 23 (codes "P2 to R2") (EnvIs P2) no_condition (EnvIs R2) ∷
    rule 24 (codes "P to R") (EnvIs P) no_condition (EnvIs R) ∷
    rule 25 (codes "R2 to R") (EnvIs R2) no_condition (EnvIs R) ∷
    rule 26 (codes "Q to R") (EnvIs Q) general_times (EnvIs R) ∷
    rule 27 (codes "Q2 to R2") (EnvIs Q2) general_times (EnvIs R2) ∷
    rule 28 (codes "1 to F2") (EnvIs One) general_times (EnvIs F2) ∷
    rule 29 (codes "1 to O2") (EnvIs One) general_times (EnvIs O2) ∷
    rule 30 (codes "F2 to F3") (EnvIs F2) general_times (EnvIs F3) ∷
    rule 31 (codes "O2 to O3") (EnvIs O2) general_times (EnvIs O3) ∷
    rule 32 (codes "1 to F") (EnvIs One) no_condition (EnvIs F) ∷
    rule 33 (codes "1 to O") (EnvIs One) no_condition (EnvIs O) ∷
    rule 34 (codes "1 to J2 with n<=2") (EnvIs One) no_condition (EnvIs J2Short) ∷
    rule 35 (codes "F2 to F") (EnvIs F2) no_condition (EnvIs F) ∷
    rule 36 (codes "F3 to F") (EnvIs F3) no_condition (EnvIs F) ∷
    rule 37 (codes "O2 to O") (EnvIs O2) no_condition (EnvIs O) ∷
    rule 38 (codes "O3 to O") (EnvIs O3) no_condition (EnvIs O) ∷
    rule 39 (codes "F2 to J2 with n<=2") (EnvIs F2) no_condition (EnvIs J2Short) ∷
    rule 40 (codes "F to J") (EnvIs F) no_condition (EnvIs J) ∷
    rule 41 (codes "J2 with n<=2 to J2") (EnvIs J2Short) no_condition (EnvIs J2) ∷
    rule 42 (codes "J2 with n<=2 to J with n<=2") (EnvIs J2Short) no_condition (EnvIs JShort) ∷
    rule 43 (codes "J2 to J") (EnvIs J2) no_condition (EnvIs J) ∷
    rule 44 (codes "J with n<=2 to J") (EnvIs JShort) no_condition (EnvIs J) ∷
    rule 45 (codes "intree to outtree by reversal") (OrderIs Intree) mirror_no_r_cmax (OrderIs Outtree) ∷
    rule 46 (codes "outtree to intree by reversal") (OrderIs Outtree) mirror_no_r_cmax (OrderIs Intree) ∷
    turning_rule 47 (codes "r, Cmax to no r, Lmax") (HeadsIs true ∷ CritIs Cmax ∷ []) mirror (HeadsIs false ∷ CritIs Lmax ∷ []) ∷
    turning_rule 48 (codes "no r, Lmax to r, Cmax") (HeadsIs false ∷ CritIs Lmax ∷ []) mirror (HeadsIs true ∷ CritIs Cmax ∷ []) ∷
    rule 49 (codes "pmtn to uncut") (CutIs true) one_machine_no_r (CutIs false) ∷
    rule 50 (codes "uncut to pmtn") (CutIs false) one_machine_no_r (CutIs true) ∷
    rule 51 (codes "intree to outtree by exchange") (OrderIs Intree) exchangeable (OrderIs Outtree) ∷
    rule 52 (codes "outtree to intree by exchange") (OrderIs Outtree) exchangeable (OrderIs Intree) ∷
    rule 53 (codes "p=p to general") (TimesIs Equal) no_condition (TimesIs General) ∷
    rule 54 (codes "p=p to p=1") (TimesIs Equal) no_r_cmax_sumc_sumwc (TimesIs UnitTimes) ∷
    []

-- the row of a number, if there is one
abbrev pub row_of : ℕ → Option RowRule
row_of k = find (λ r. r.number == k) table

-- whether a row applies to a class
abbrev pub applies : RowRule → Class → Bool
applies r c = has_all c r.left && r.given c

-- the class to which a row leads from a class to which it applies
abbrev pub led_to : RowRule → Class → Class
led_to r c = with_all r.right (record c { order = if r.turns then turned c.order else c.order })

-- the class to which a row leads from a class, if it applies
abbrev pub goes_by : RowRule → Class → Option Class
goes_by r c = if applies r c then Some (led_to r c) else None

-- the class to which the row of a number leads from a class, if it applies
unfoldable pub goes_of : ℕ → Class → Option Class
goes_of k c = option_and_then (λ r. goes_by r c) (row_of k)

-- the text of the row of a number
unfoldable pub text_of : ℕ → List ℕ
text_of k = option_map_or (λ r. r.text) (row_of k) []

-- every row carries schedules back and forth but rows 15 and 16, which answer only whether a threshold can be met
abbrev pub carries : ℕ → Bool
carries k = not (k == 15 || k == 16)

-- the kind of the row of a number
abbrev pub kind_of : ℕ → RowKind
kind_of k = if carries k then Carries else Threshold

-- every row keeps the numbers of an instance small but rows 26 and 27, which multiply them by a common multiple of the speeds
abbrev pub keeps_size : ℕ → Bool
keeps_size k = not (k == 26 || k == 27)

-- row 47 turns release dates into due dates
abbrev pub turns_dates : ℕ → Bool
turns_dates k = k == 47
