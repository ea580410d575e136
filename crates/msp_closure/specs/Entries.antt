-- What known results say of the classes: verdicts, labels, clashes, and the ways that show them.
use Rattle.std.specs.Prelude.{◌≡◌, ℕ, ◌<◌, ◌⊎◌, ⊤, Bool, true, false, List, ◌∷◌, map, filter, length, slice_get, Contains, IsSomeAnd, Option, Some, None}
use Rattle.msp_class.specs.declared.class.Class.{Class}
use Rattle.msp_class.specs.declared.ranks.TheConstants.{CLASSES}
use Rattle.msp_class.specs.Rank.{rank_of}
use Rattle.msp_table.specs.declared.row.Chain.{Chain}
use Rattle.msp_table.specs.Rows.{keeps_size}
use Rattle.msp_table.specs.Chains.{every_row, Reaches, IsNearest}
use Rattle.msp_closure.specs.declared.entry.Entry.{Entry}
use Rattle.msp_closure.specs.declared.entry.Verdict.{Verdict}
use Rattle.msp_closure.specs.declared.entry.Verdict.TheVariants as verdict
use Rattle.msp_closure.specs.declared.entry.Mark.{Mark}
use Rattle.msp_closure.specs.declared.entry.Mark.TheVariants.{Easy, Pseudo, Weak, Hard, Strong, Torn, Both, Unsettled}

-- what the verdicts claim; one that is hard in the strong sense is hard
abbrev pub is_easy : Verdict → Bool
is_easy verdict.Easy = true
is_easy _ = false

abbrev pub is_pseudo : Verdict → Bool
is_pseudo verdict.Pseudo = true
is_pseudo _ = false

abbrev pub is_hard : Verdict → Bool
is_hard verdict.Hard = true
is_hard verdict.Strong = true
is_hard _ = false

abbrev pub is_strong : Verdict → Bool
is_strong verdict.Strong = true
is_strong _ = false

-- whether a verdict makes the claim of another
abbrev pub makes : Verdict → Verdict → Bool
makes verdict.Easy = is_easy
makes verdict.Pseudo = is_pseudo
makes verdict.Hard = is_hard
makes verdict.Strong = is_strong

-- the classes of the entries whose verdict passes the test, in the order of the entries
abbrev pub listed : (Verdict → Bool) → List Entry → List Class
listed test es = map (λ e. e.class) (filter (λ e. test e.verdict) es)

abbrev pub easy_listed : List Entry → List Class
easy_listed es = listed is_easy es

abbrev pub pseudo_listed : List Entry → List Class
pseudo_listed es = listed is_pseudo es

abbrev pub hard_listed : List Entry → List Class
hard_listed es = listed is_hard es

abbrev pub strong_listed : List Entry → List Class
strong_listed es = listed is_strong es

-- some chain leads from the class to one of the wanted classes
abbrev pub LeadsToOne : (ℕ → Bool) → List Class → Class → Type 0
LeadsToOne usable wanted a = (b : Class) × Contains wanted b × Reaches usable a b

-- some chain leads to the class from one of the starts
abbrev pub IsLedTo : (ℕ → Bool) → List Class → Class → Type 0
IsLedTo usable starts a = (b : Class) × Contains starts b × Reaches usable b a

-- solvable in polynomial time, by what is listed
abbrev pub IsEasy : List Entry → Class → Type 0
IsEasy es a = LeadsToOne every_row (easy_listed es) a

-- solvable in pseudopolynomial time
abbrev pub IsPseudo : List Entry → Class → Type 0
IsPseudo es a = IsEasy es a ⊎ LeadsToOne keeps_size (pseudo_listed es) a

-- NP-hard
abbrev pub IsHard : List Entry → Class → Type 0
IsHard es a = IsLedTo every_row (hard_listed es) a

-- NP-hard in the strong sense
abbrev pub IsStrong : List Entry → Class → Type 0
IsStrong es a = IsLedTo keeps_size (strong_listed es) a

-- what a mark asks of a class
abbrev pub Applies : List Entry → Class → Mark → Type 0
Applies es c Both = IsEasy es c × IsHard es c
Applies es c Easy = IsEasy es c
Applies es c Torn = IsPseudo es c × IsStrong es c
Applies es c Weak = IsHard es c × IsPseudo es c
Applies es c Strong = IsStrong es c
Applies es c Hard = IsHard es c
Applies es c Pseudo = IsPseudo es c
Applies es c Unsettled = ⊤

-- the order in which the marks are tried
abbrev pub label_number : Mark → ℕ
label_number Both = 0
label_number Easy = 1
label_number Torn = 2
label_number Weak = 3
label_number Strong = 4
label_number Hard = 5
label_number Pseudo = 6
label_number Unsettled = 7

-- the mark is the first that applies to the class
abbrev pub Says : List Entry → Class → Mark → Type 0
Says es c m = Applies es c m × ((other : Mark) → label_number other < label_number m → ¬ Applies es c other)

-- the mark of a class by four tests: whether it is easy, pseudopolynomial or easy, hard, and strongly hard
abbrev pub mark_of : Bool → Bool → Bool → Bool → Mark
mark_of true p true s = Both
mark_of true p false s = Easy
mark_of false true h true = Torn
mark_of false true true false = Weak
mark_of false true false false = Pseudo
mark_of false false h true = Strong
mark_of false false true false = Hard
mark_of false false false false = Unsettled

-- the labels of the entries: one mark for each class in order of rank, and each says what holds
pub record AreLabels (es : List Entry) (marks : List Mark) : Type 0 where
  pub one_each : length marks ≡ CLASSES
  pub each : (c : Class) → IsSomeAnd (slice_get marks (rank_of c)) (Says es c)

-- some chain leads from one of the starts to one of the wanted classes
abbrev pub HasWay : (ℕ → Bool) → List Class → List Class → Type 0
HasWay usable wanted starts = (a : Class) × Contains starts a × LeadsToOne usable wanted a

-- a class listed as hard leads to a class listed as easy: the list contradicts itself, unless P = NP
abbrev pub IsClash : List Entry → Type 0
IsClash es = HasWay every_row (easy_listed es) (hard_listed es)

-- the same of a class that is hard in the strong sense and one that is solvable in pseudopolynomial time
abbrev pub IsStrongClash : List Entry → Type 0
IsStrongClash es = HasWay keeps_size (pseudo_listed es) (strong_listed es)

-- the first class of a list that has a property
pub data IsFirst (P : Class → Type 0) : List Class → Class → Type 0 where
  here : {x : Class} {xs : List Class} → P x → IsFirst P (x ∷ xs) x
  later : {x y : Class} {xs : List Class} → ¬ P y → IsFirst P xs x → IsFirst P (y ∷ xs) x

-- the chain from the first of the starts that leads to a wanted class, to the nearest such class; None where no start leads to one
abbrev pub IsWay : (ℕ → Bool) → List Class → List Class → Option Chain → Type 0
IsWay usable wanted starts None = ¬ HasWay usable wanted starts
IsWay usable wanted starts (Some chain) = IsFirst (LeadsToOne usable wanted) starts chain.from × IsNearest usable wanted chain.from chain.rows
