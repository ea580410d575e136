use Rattle.std.proofs.Common.{◌≡◌, ◌*◌, arith}
use Rattle.msp_pieces.specs.BackToBack.{time_at}
use Rattle.msp_wrap.proofs.Facts.{IsWrapInstance, IsWrapInstance-from_class}
use Rattle.msp_wrap.proofs.Steps.{work_read, place_small, done_small, next_small, one_made, two_made}
use Rattle.msp_wrap.proofs.wrap.put_job.Goals as goal
use Rattle.msp_wrap.proofs.wrap.put_job.Goals.{Start, After-first_time}

wraps : (c : Start) → IsWrapInstance c.args.inst.now
wraps c = IsWrapInstance-from_class c.args.inst.now c.requires.class c.requires.inner

read : (c : After-first_time) → c.from.result * c.first_time.result ≡ c.args.inst.now.machines * time_at c.args.inst.now c.args.job
read c = work_read c.args.inst.now c.as_slice.result.now c.args.job c.first_time.result
    c.from.result c.index-as_slice-job.result c.as_slice.ensures c.requires.inside c.index-as_slice-job.is c.first_time.ensures c.from.ensures

pub opened-at-requires : goal.opened-at-requires
opened-at-requires c = place_small c.args.inst.now (wraps (goal.at.opened-at-requires c).Start) c.args.end c.args.job _ _ _ c.requires.end c.requires.inside c.requires.wrapped

pub overflow_add-done : goal.overflow_add-done
overflow_add-done c =
    let r = read (goal.at.overflow_add-done c).After-first_time in
    omega (
      arith,
      done_small c.args.inst.now (wraps (goal.at.overflow_add-done c).Start) c.args.end c.args.job _ _ _ _ _ _ c.requires.end c.requires.inside c.opened-at.ensures c.requires.wrapped r,
    )

pub returns-then-done-end : goal.returns-then-done-end
returns-then-done-end c = one_made c.args.inst.now (wraps (goal.at.returns-then-done-end c).Start) c.args.end c.args.job _ _ _ _ _ _ c.requires.end c.requires.inside
    c.opened-at.ensures c.requires.wrapped (read (goal.at.returns-then-done-end c).After-first_time) _ c.if-done-end.true c.in_ok-put.ensures

pub overflow_add-next : goal.overflow_add-next
overflow_add-next c =
    let r = read (goal.at.overflow_add-next c).After-first_time in
    omega (
      arith,
      next_small c.args.inst.now (wraps (goal.at.overflow_add-next c).Start) c.args.end c.args.job _ _ _ _ _ _ c.requires.end c.requires.inside c.opened-at.ensures c.requires.wrapped r,
    )

pub returns : goal.returns
returns c = two_made c.args.inst.now (wraps (goal.at.returns c).Start) c.args.end c.args.job _ _ _ _ _ _ c.requires.end c.requires.inside
    c.opened-at.ensures c.requires.wrapped (read (goal.at.returns c).After-first_time) _ _ c.if-done-end.false c.in_ok-put-2.ensures c.in_ok-put-3.ensures
