-- One row: what comes back over it, and from what. No public contract cites this file.
use Rattle.std.specs.Prelude.{ℕ}
use Rattle.msp_instance.specs.declared.Instance.{Instance}
use Rattle.msp_instance.specs.Conditions.{Inner}
use Rattle.msp_pieces.specs.declared.Solution.{Solution}
use Rattle.msp_pieces.specs.Cost.{IsSolution, IsBest}
use Rattle.msp_route.specs.Law.{Applies, IsBack}
use Rattle.msp_route.specs.Rates.{rate_of}
use Rattle.msp_route.specs.Bounds.{IsBounded, KeepsBounds}

-- A solution of the lower instance can be brought back over the row.
pub record ComesFrom (row : ℕ) (i lower : Instance) (s : Solution) : Type 0 where
  pub inner : Inner i
  pub applies : Applies row i
  pub solution : IsSolution lower s
  pub bounded : IsBounded lower s.schedule

-- The solution t of the instance is what comes back from s, a best one from a best one.
pub record IsBroughtBack (row : ℕ) (i lower : Instance) (s t : Solution) : Type 0 where
  pub solution : IsSolution i t
  pub best : IsBest lower s → IsBest i t
  pub law : IsBack (rate_of row i) i lower s.schedule t.schedule
  pub bounds : KeepsBounds row i lower s.schedule t.schedule
