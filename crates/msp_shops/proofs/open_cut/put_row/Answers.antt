use Rattle.std.proofs.Common.{◌≡◌, ◌++◌, length, pos, map, append-nil, sym, ap, ◌∙◌, arith, rules}
use Rattle.std.specs.List.{range_with_len}
use Rattle.std.specs.Int.{w128}
use Rattle.std.proofs.lemmas.Int.{to_z-of_z}
use Rattle.msp_instance.specs.Instance.{need_at}
use Rattle.msp_shops.proofs.OpenCutFacts.{row_next}
use Rattle.msp_shops.proofs.open_cut.put_row.Goals as goal

pub loop-job-preserved : goal.loop-job-preserved
loop-job-preserved c = row_next c.args.inst.now c.args.machine c.loop-job.job _ _ _ _ _ c.in_ok-push.ensures.items
    (to_z-of_z w128 _ (search rules) ∙ c.from.ensures) c.time_on.ensures c.loop-job.invariant

pub loop-job-init : goal.loop-job-init
loop-job-init c = sym (append-nil c.args.cells.now.items)

pub returns : goal.returns
returns c =
    let all : c.loop-job.job ≡ length c.args.inst.now.jobs = omega (arith, c.len-job-end.ensures, c.loop-job-test.false, c.loop-job.auto.job-end) in
    c.loop-job.invariant ∙ ap (λ n. c.args.cells.now.items ++ map (λ j. pos (need_at c.args.inst.now j c.args.machine).time) (range_with_len 0 n)) all
