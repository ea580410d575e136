use Rattle.std.proofs.Common.{true, false, ap, ◌∙◌, sym, arith, ◌==◌, slice_index}
use Rattle.std.proofs.lemmas.Bool.{eq-eqb, ne_eqb}
use Rattle.std.proofs.lemmas.List.{append-nil}
use Rattle.msp_instance.proofs.ArcLemmas.{filter_range_next}
use Rattle.msp_instance.proofs.sequence.free_jobs.Goals as goal
use Rattle.msp_instance.proofs.sequence.free_jobs.Goals.{then-entering-job-eq0+in_ok-push, else-entering-job-eq0}

pub loop-job-preserved : goal.loop-job-preserved
loop-job-preserved c =
    elim c.if-entering-job-eq0.branch [
      | then-entering-job-eq0+in_ok-push w ↦
          filter_range_next (λ k. slice_index c.args.entering.now k == 0) c.loop-job.job c.loop-job.free.items _ true (eq-eqb _ _ w.if-entering-job-eq0.true)
          (ap (λ v. v.items) w.free-is ∙ w.in_ok-push.ensures.items) c.loop-job.invariant
      | else-entering-job-eq0 w ↦
          filter_range_next (λ k. slice_index c.args.entering.now k == 0) c.loop-job.job c.loop-job.free.items _ false (ne_eqb _ _ (λ e. absurd (omega (arith, e, w.if-entering-job-eq0.false))))
          (ap (λ v. v.items) w.free-is ∙ sym (append-nil _)) c.loop-job.invariant
    ]
