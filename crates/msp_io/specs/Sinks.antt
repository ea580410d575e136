-- What a sink takes, and the laws that it keeps.
use Rattle.std.specs.Prelude.{◌≡◌, ℕ, List, [], ◌++◌, length}
use Rattle.std.specs.Io.KnownBytes.{Appends}
use Rattle.msp_io.specs.Faults.{Rose, WentUp}
use Rattle.msp_io.specs.Views.{SinkView}

-- these bytes were taken, and no write failed
pub record Takes (before after : SinkView) (bytes : List ℕ) : Type 0 where
  -- they stand behind what was held
  pub held : Appends before.held after.held bytes
  pub taken : WentUp before.taken after.taken (length bytes)
  pub faults : after.faults ≡ before.faults

-- these bytes were taken, and then a write failed
pub record TakesAndFails (before after : SinkView) (bytes : List ℕ) : Type 0 where
  -- they stand behind what was held
  pub held : Appends before.held after.held bytes
  pub taken : WentUp before.taken after.taken (length bytes)
  pub failed : Rose before.faults after.faults

-- The laws of a sink: what `took` and `broke` say of the bytes between two moments. Nothing is joined to what is broken.
pub record KeepsLaws {K : Type 0} (seen : K → SinkView) (took broke : K → K → List ℕ → Type 0) : Type 0 where
  -- nothing is taken without a call
  pub none : (a : K) → took a a []
  -- what several calls took is joined
  pub joined : (a b c : K) (xs ys : List ℕ) → took a b xs → took b c ys → took a c (xs ++ ys)
  -- what was taken and then broke is broken
  pub joined_fault : (a b c : K) (xs ys : List ℕ) → took a b xs → broke b c ys → broke a c (xs ++ ys)
  -- where the sink tells or counts its bytes, the bytes are these
  pub takes : (a b : K) (xs : List ℕ) → took a b xs → Takes (seen a) (seen b) xs
  pub breaks : (a b : K) (xs : List ℕ) → broke a b xs → TakesAndFails (seen a) (seen b) xs
