use Rattle.std.proofs.Common.{sym, subst, arith}
use Rattle.msp_instance.specs.Conditions.{InClass}
use Rattle.msp_gen.proofs.Belongs.{belongs}
use Rattle.msp_gen.proofs.instance.generate.Goals as goal

pub returns-in-Ok-clause-in_class : goal.returns-in-Ok-clause-in_class
returns-in-Ok-clause-in_class c = subst InClass (sym c.in-Ok.ensures) (belongs c.args.class c.args.jobs c.from.result (omega (arith, c.if-jobs-eq0.false), c.if-jobs-gt-MOST_JOBS.false))
