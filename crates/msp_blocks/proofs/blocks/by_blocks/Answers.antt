use Rattle.std.proofs.Common.{get_or, sym, subst}
use Rattle.msp_route.specs.Heads.{AreHeads}
use Rattle.msp_route.proofs.KeyedJobs.{rises_or_stays}
use Rattle.msp_blocks.proofs.Made.{some_passed, filling_passed}
use Rattle.msp_blocks.proofs.blocks.by_blocks.Goals as goal

pub place_all-requires-clause-heads : goal.place_all-requires-clause-heads
place_all-requires-clause-heads c = subst (AreHeads c.args.inst.now) (sym c.as_slice-2.ensures.value) c.in_ok-heads.ensures

pub place_all-requires-clause-some : goal.place_all-requires-clause-some
place_all-requires-clause-some c = some_passed c.args.inst.now c.requires.machine c.requires.inner
    c.in_ok-heads.heads.items c.as_slice.result.now c.in_ok-jobs.jobs.items c.in_ok-heads.ensures c.as_slice.ensures.value c.in_ok-jobs.ensures.all

pub place_all-requires-clause-filling : goal.place_all-requires-clause-filling
place_all-requires-clause-filling c =
    filling_passed c.args.inst.now c.requires.machine c.requires.inner c.in_ok-heads.heads.items c.as_slice.result.now c.as_slice-2.result.now c.in_ok-jobs.jobs.items c.in_ok-heads.ensures
    c.as_slice.ensures.value c.as_slice-2.ensures.value c.in_ok-jobs.ensures.all (rises_or_stays (λ j. get_or c.as_slice.result.now j 0) c.in_ok-jobs.jobs.items c.in_ok-jobs.ensures.rising)
