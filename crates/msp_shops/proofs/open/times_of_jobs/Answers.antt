use Rattle.std.proofs.Common.{◌≡◌, length, map, ap, ◌∙◌, arith}
use Rattle.std.specs.List.{range_with_len}
use Rattle.msp_shops.specs.Groups.{route_times}
use Rattle.msp_shops.proofs.OpenSteps.{times_next}
use Rattle.msp_shops.proofs.open.times_of_jobs.Goals as goal

pub loop-k-preserved : goal.loop-k-preserved
loop-k-preserved c = times_next c.args.inst.now _ _ c.loop-k.k _ c.in_ok-push.ensures.items c.times_of.ensures c.loop-k.invariant

pub returns : goal.returns
returns c =
    let all : c.loop-k.k ≡ length c.args.inst.now.jobs = omega (arith, c.len-k-end.ensures, c.loop-k-test.false, c.loop-k.auto.k-end) in
    c.loop-k.invariant ∙ ap (λ n. map (route_times c.args.inst.now) (range_with_len 0 n)) all
