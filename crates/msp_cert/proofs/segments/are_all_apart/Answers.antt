use Rattle.std.proofs.Common.{◌≢◌, ◌↔◌, IsTrue, AllPairs, ◌∙◌, subst, arith}
use Rattle.msp_class.specs.declared.sizes.TheConstants.{MOST_JOBS}
use Rattle.msp_cert.proofs.SegmentFacts.{flat_small}
use Rattle.msp_cert.proofs.segments.are_all_apart.Goals as goal

pub are_apart-requires : goal.are_apart-requires
are_apart-requires c = flat_small MOST_JOBS c.args.lists.now c.in_ok-all.all.items c.as_slice.result.now (omega arith) c.requires c.as_slice.ensures.value c.in_ok-all.ensures

pub returns : goal.returns
returns c = subst (λ all. IsTrue c.are_apart.result ↔ AllPairs (λ j k. j ≢ k) all) (c.as_slice.ensures.value ∙ c.in_ok-all.ensures) c.are_apart.ensures
