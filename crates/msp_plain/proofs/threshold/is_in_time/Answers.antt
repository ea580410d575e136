-- The product fits its type, and is compared.
use Rattle.std.proofs.Common.{rules, ◌≡◌, ℤ, ◌+ℤ◌, ◌*ℤ◌, to_z, of_z, slice_index_or, sym, ap, ap₂, ◌∙◌}
use Rattle.std.specs.Int.{w128}
use Rattle.std.proofs.lemmas.Int.{to_z-of_z}
use Rattle.std.proofs.lemmas.List.{get_or_default}
use Rattle.msp_instance.specs.Instance.{no_job}
use Rattle.msp_plain.proofs.InTime.{latest_fits, fits_again, sum_is, compared}
use Rattle.msp_plain.proofs.threshold.is_in_time.Goals as goal

abbrev due : goal.After-raised_due → ℤ
due c = (slice_index_or c.args.jobs.now c.args.piece.now.job no_job).due

unit_is : (c : goal.After-raised_due) → to_z w128 (of_z w128 c.args.unit) ≡ c.args.unit
unit_is c = to_z-of_z w128 c.args.unit c.ranges.unit

latest_is : (c : goal.After-raised_due) → to_z w128 (of_z w128 c.raised_due.result) ≡ due c +ℤ c.args.bound
latest_is c = sum_is c.raised_due.result (due c) c.args.bound _ c.raised_due.ensures
    (ap (λ j. j.due) (sym (get_or_default c.args.jobs.now c.args.piece.now.job no_job c.index-jobs-piece.result c.requires.job)))
    (c.requires.due c.args.piece.now.job no_job c.requires.job) c.requires.bound

pub overflow_mul-result : goal.overflow_mul-result
overflow_mul-result c = fits_again _ _ c.args.unit (due c +ℤ c.args.bound) (unit_is c)
    (latest_is c) (latest_fits c.args.unit (due c) c.args.bound c.requires.unit (c.requires.due c.args.piece.now.job no_job c.requires.job) c.requires.bound)

pub returns : goal.returns
returns c = compared _ _ c.args.piece.now.to (c.args.unit *ℤ (due c +ℤ c.args.bound)) (to_z-of_z w128 c.args.piece.now.to (search rules))
    (to_z-of_z w128 _ (overflow_mul-result c) ∙ ap₂ ◌*ℤ◌ (unit_is c) (latest_is c))
