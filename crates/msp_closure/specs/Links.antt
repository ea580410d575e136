-- The steps of a search as a list of links between ranks. No public contract cites this file.
use Rattle.std.specs.Prelude.{ℕ, ◌≡◌, ◌<◌, ◌⊎◌, Bool, List, Some, Contains, All}
use Rattle.msp_class.specs.declared.class.Class.{Class}
use Rattle.msp_class.specs.declared.ranks.TheConstants.{CLASSES}
use Rattle.msp_class.specs.Rank.{rank_of}
use Rattle.msp_closure.specs.declared.links.Link.{Link}
use Rattle.msp_closure.specs.Entries.{IsLedTo}
use Rattle.msp_closure.specs.Walk.{step_of}

-- the link from one class to another
abbrev pub link : Class → Class → Link
link a x = record { from = rank_of a; to = rank_of x }

-- the links join ranks of classes
abbrev pub AreInside : List Link → Type 0
AreInside links = All (λ l. (l.from < CLASSES) × (l.to < CLASSES)) links

-- a usable row makes the step of the link
pub record IsStep (usable : ℕ → Bool) (l : Link) : Type 0 where
  pub row : ℕ
  pub start : Class
  pub next : Class
  pub steps : step_of usable row start ≡ Some next
  pub joins : l ≡ link start next

-- the links are steps by usable rows, among them all from classes to which these lead from one of the starts
pub record AreLinks (usable : ℕ → Bool) (starts : List Class) (links : List Link) : Type 0 where
  pub sound : (l : Link) → Contains links l → IsStep usable l
  pub all : (k : ℕ) (a x : Class) → IsLedTo usable starts a → step_of usable k a ≡ Some x → Contains links (link a x)

-- the links from one class by the usable rows of the numbers below `done` are added
pub record AddsLinks (usable : ℕ → Bool) (before after : List Link) (c : Class) (done : ℕ) : Type 0 where
  pub keeps : (l : Link) → Contains before l → Contains after l
  pub sound : (l : Link) → Contains after l → Contains before l ⊎ IsStep usable l
  pub all : (k : ℕ) (x : Class) → k < done → step_of usable k c ≡ Some x → Contains after (link c x)

-- the link from one class by one row is added, if the row may be used and applies
pub record AddsLink (usable : ℕ → Bool) (before after : List Link) (c : Class) (row : ℕ) : Type 0 where
  pub keeps : (l : Link) → Contains before l → Contains after l
  pub sound : (l : Link) → Contains after l → Contains before l ⊎ IsStep usable l
  pub all : (x : Class) → step_of usable row c ≡ Some x → Contains after (link c x)
