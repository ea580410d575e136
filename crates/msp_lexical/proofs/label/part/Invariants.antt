use Rattle.std.proofs.Common.{◌≡◌, not, filter, take}
use Rattle.msp_instance.specs.Paths.{leads}
use Rattle.msp_lexical.proofs.label.part.Given as goal

-- the parts of the jobs so far
abbrev pub invariant-loop-other : goal.invariant-loop-other
invariant-loop-other l = record {
  stay : l.parts.stay.items ≡ filter (λ j. not (leads l.paths j l.job)) (take l.other-index l.left);
  rise : l.parts.rise.items ≡ filter (λ j. leads l.paths j l.job) (take l.other-index l.left);
}
