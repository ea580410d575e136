use Rattle.std.proofs.Common.{◌≡◌, length}
use Rattle.msp_cert.specs.Certificates.{of_job}
use Rattle.msp_cert.proofs.TrueLevels.{AreRaised}
use Rattle.msp_cert.proofs.true_levels.put_levels.Given as goal

-- the levels by the arcs so far
abbrev pub invariant-loop-arc : goal.invariant-loop-arc
invariant-loop-arc l = record {
  wide : length l.level.items ≡ length l.fn.level.items;
  raised : AreRaised (of_job l.heights) l.sorted l.arc-index l.level.items;
}
