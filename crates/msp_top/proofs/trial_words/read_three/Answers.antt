-- The goals of `read_three` that are proved by lemmas.
use Rattle.std.proofs.Common.{refl}
use Rattle.msp_top.proofs.Exits.{failed}
use Rattle.msp_top.proofs.TrialWords.{refuses_name, refuses_count, refuses_start}
use Rattle.msp_top.proofs.trial_words.read_three.Goals as goal

pub returns-in_err-class : goal.returns-in_err-class
returns-in_err-class c = rw (failed _ c.from_residual.ensures.1) (refuses_name _ _ _ _ c.in_err-class.ensures.read)

pub returns-in_err-jobs : goal.returns-in_err-jobs
returns-in_err-jobs c =
    rw (failed _ c.from_residual-in_err-jobs.ensures.1) (refuses_count _ _ _ _ c.in_ok-class.ensures.later c.in_err-jobs.ensures.read)

pub returns-in_err-seed : goal.returns-in_err-seed
returns-in_err-seed c =
    rw (failed _ c.from_residual-in_err-seed.ensures.1) (refuses_start _ _ _ _ c.in_ok-class.ensures.later c.in_ok-jobs.ensures.later c.in_err-seed.ensures.read)

pub returns : goal.returns
returns c = record {
  name = c.args.name.now;
  count = c.args.count.now;
  start = c.args.start.now;
  form = refl;
  class = c.in_ok-class.ensures.read;
  jobs = c.in_ok-jobs.ensures.read;
  seed = c.in_ok-seed.ensures.read;
}
