-- The frontier: the classes with a property that chains of rows lead to or from last.
use Rattle.std.specs.Prelude.{◌≡◌, ◌<◌, ◌↔◌, Bool, true, false, List, slice_index_or, Contains, AllPairs}
use Rattle.msp_class.specs.declared.class.Class.{Class}
use Rattle.msp_class.specs.Rank.{rank_of}
use Rattle.msp_table.specs.Chains.{every_row, Reaches}
use Rattle.msp_closure.specs.declared.entry.Entry.{Entry}
use Rattle.msp_closure.specs.declared.entry.Mark.{Mark}
use Rattle.msp_closure.specs.declared.entry.Mark.TheVariants.{Easy, Pseudo, Weak, Hard, Strong, Torn, Both, Unsettled}
use Rattle.msp_closure.specs.declared.frontier_lists.FrontierLists.{FrontierLists}
use Rattle.msp_closure.specs.Entries.{IsEasy, IsHard}

-- among the classes with a property, each to which a chain leads from this one leads back to it
abbrev pub IsMaximal : (Class → Type 0) → Class → Type 0
IsMaximal P a = P a × ((b : Class) → P b → Reaches every_row a b → Reaches every_row b a)

-- among the classes with a property, each from which a chain leads to this one is led to from it
abbrev pub IsMinimal : (Class → Type 0) → Class → Type 0
IsMinimal P a = P a × ((b : Class) → P b → Reaches every_row b a → Reaches every_row a b)

-- the list has exactly the classes with a property, in order of rank
pub record ListsInOrder (P : Class → Type 0) (classes : List Class) : Type 0 where
  pub lists : (c : Class) → Contains classes c ↔ P c
  pub rises : AllPairs (λ a b. rank_of a < rank_of b) classes

-- the mark of a class
abbrev pub mark_at : List Mark → Class → Mark
mark_at marks c = slice_index_or marks (rank_of c) Unsettled

-- whether a mark says that a class is easy
abbrev pub says_easy : Mark → Bool
says_easy Easy = true
says_easy Both = true
says_easy _ = false

-- whether it says that a class is hard, in the strong sense or not
abbrev pub says_hard : Mark → Bool
says_hard Hard = true
says_hard Strong = true
says_hard Weak = true
says_hard Torn = true
says_hard Both = true
says_hard _ = false

-- whether it says neither
abbrev pub says_open : Mark → Bool
says_open Pseudo = true
says_open Unsettled = true
says_open _ = false

-- the classes whose marks pass a test
abbrev pub HasMark : (Mark → Bool) → List Mark → Class → Type 0
HasMark test marks c = test (mark_at marks c) ≡ true

-- neither easy nor hard, by what is listed
abbrev pub IsOpen : List Entry → Class → Type 0
IsOpen es c = (¬ IsEasy es c) × (¬ IsHard es c)

-- the frontier of what known results say of the classes
pub record IsFrontier (es : List Entry) (lists : FrontierLists) : Type 0 where
  pub easy : ListsInOrder (IsMaximal (IsEasy es)) lists.easy
  pub hard : ListsInOrder (IsMinimal (IsHard es)) lists.hard
  pub low : ListsInOrder (IsMinimal (IsOpen es)) lists.low
  pub high : ListsInOrder (IsMaximal (IsOpen es)) lists.high
