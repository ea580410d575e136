-- The sides of the frontier. No public contract cites this file.
use Rattle.std.specs.Prelude.{Bool, List}
use Rattle.msp_closure.specs.declared.entry.Mark.{Mark}
use Rattle.msp_closure.specs.declared.frontier_lists.FrontierLists.{FrontierLists}
use Rattle.msp_closure.specs.declared.frontier_lists.Standing.{Standing}
use Rattle.msp_closure.specs.declared.frontier_lists.Standing.TheVariants.{Easy, Hard, Open}
use Rattle.msp_closure.specs.Frontier.{IsMaximal, IsMinimal, ListsInOrder, says_easy, says_hard, says_open, HasMark}

-- whether a mark puts a class on a side
abbrev pub has_standing : Standing → Mark → Bool
has_standing Easy = says_easy
has_standing Hard = says_hard
has_standing Open = says_open

-- the lists are the ends of what the marks say of the classes
pub record AreEnds (marks : List Mark) (lists : FrontierLists) : Type 0 where
  pub easy : ListsInOrder (IsMaximal (HasMark says_easy marks)) lists.easy
  pub hard : ListsInOrder (IsMinimal (HasMark says_hard marks)) lists.hard
  pub low : ListsInOrder (IsMinimal (HasMark says_open marks)) lists.low
  pub high : ListsInOrder (IsMaximal (HasMark says_open marks)) lists.high
