-- A walk forwards, which meets the classes to which rows lead from the starts. No public contract cites this file.
use Rattle.std.specs.Prelude.{ℕ, ◌≡◌, ◌+◌, ◌<◌, ◌≤◌, ◌⊎◌, ◌↔◌, ◌++◌, Bool, true, not, List, length, Contains, Some, All, count_by, slice_index_or}
use Rattle.msp_class.specs.declared.class.Class.{Class}
use Rattle.msp_closure.specs.declared.links.Link.{Link}
use Rattle.msp_closure.specs.Entries.{IsLedTo}
use Rattle.msp_closure.specs.Links.{link, IsStep, AreLinks}
use Rattle.msp_closure.specs.Tables.{is_flagged}
use Rattle.msp_closure.specs.Walk.{step_of}

-- a usable row leads from one class to the other
abbrev pub Steps : (ℕ → Bool) → Class → Class → Type 0
Steps usable a x = (k : ℕ) × (step_of usable k a ≡ Some x)

-- how many flags are not set
abbrev pub unset : List Bool → ℕ
unset flags = count_by not flags

-- classes with a property are met and flagged, and nothing else changes
pub record Grows (P : Class → Type 0) (met : List Class) (flags : List Bool) (met_after : List Class) (flags_after : List Bool) : Type 0 where
  pub behind : List Class
  pub front : met_after ≡ met ++ behind
  pub sound : All P behind
  pub keeps : (c : Class) → is_flagged flags c ≡ true → is_flagged flags_after c ≡ true
  pub fresh : (c : Class) → is_flagged flags_after c ≡ true → (is_flagged flags c ≡ true) ⊎ Contains behind c
  pub falls : unset flags_after + length behind ≤ unset flags

-- the usable rows of the numbers below `rows` lead from the class to flagged classes
abbrev pub IsFollowed : (ℕ → Bool) → Class → ℕ → List Bool → Type 0
IsFollowed usable a rows flags = (k : ℕ) (x : Class) → k < rows → step_of usable k a ≡ Some x → is_flagged flags x ≡ true

-- what the walk has met: classes to which chains lead from the starts; those before the place `done` have been followed
pub record IsWalk (usable : ℕ → Bool) (starts met : List Class) (flags : List Bool) (links : List Link) (done : ℕ) : Type 0 where
  pub started : (b : Class) → Contains starts b → is_flagged flags b ≡ true
  pub sound : All (IsLedTo usable starts) met
  pub known : (c : Class) → is_flagged flags c ≡ true → Contains met c
  pub closed : (j : ℕ) (d x : Class) → j < done → Steps usable (slice_index_or met j d) x → is_flagged flags x ≡ true
  pub steps : (l : Link) → Contains links l → IsStep usable l
  pub linked : (j : ℕ) (d x : Class) → j < done → Steps usable (slice_index_or met j d) x → Contains links (link (slice_index_or met j d) x)

-- exactly the classes to which chains lead from the starts are flagged, and the links are the steps from them
pub record IsOutlook (usable : ℕ → Bool) (starts : List Class) (flags : List Bool) (links : List Link) : Type 0 where
  pub flagged : (c : Class) → (is_flagged flags c ≡ true) ↔ IsLedTo usable starts c
  pub are_links : AreLinks usable starts links
