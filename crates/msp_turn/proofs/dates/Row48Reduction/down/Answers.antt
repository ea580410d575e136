-- The last due date is the greatest of the instance.
use Rattle.std.proofs.Common.{◌≡◌, List, length, map, arith, ap, ap₂, ◌∙◌, rules}
use Rattle.std.specs.Int.{w64}
use Rattle.std.proofs.lemmas.Int.{to_z-of_z}
use Rattle.std.proofs.lemmas.List.{length-map, take_all, take-append-le}
use Rattle.msp_instance.specs.declared.Job.{Job}
use Rattle.msp_instance.specs.declared.Instance.{Instance}
use Rattle.msp_pieces.specs.Cost.{greatest}
use Rattle.msp_turn.specs.Reversal.{led_turned, release_by_due}
use Rattle.msp_turn.proofs.dates.Row48Reduction.down.Goals as goal

abbrev with_jobs : Instance → List Job → Instance
with_jobs i js = record i { jobs = js }

pub returns : goal.returns
returns c =
    let taken = c.take_all-jobs.result in
    let all = c.deref_mut.ensures.value in
    let new = c.release_all.new.jobs in
    let made = c.release_all.ensures in
    let long : length new ≡ taken.len = ap length made ∙ length-map c.deref_mut.result.now (release_by_due _) ∙ c.deref_mut.ensures.len in
    ap₂ with_jobs (c.in_ok-lower.ensures ∙ ap (λ row. led_turned row c.args.inst.now) c.row.ensures.row) (
    c.from_vec.ensures
    ∙ (take-append-le taken.len new _ (omega (arith, long)) ∙ take_all taken.len new (omega (arith, long)))
    ∙ made
    ∙ ap₂ (λ last js. map (release_by_due last) js)
    (to_z-of_z w64 c.greatest_due-last.result (search rules) ∙ c.greatest_due-last.ensures ∙ ap (λ js. greatest (map (λ j. j.due) js)) c.as_slice.ensures)
    (all ∙ c.take_all-jobs.ensures.all ∙ ap (λ j. j.jobs) c.in_ok-lower.ensures))
