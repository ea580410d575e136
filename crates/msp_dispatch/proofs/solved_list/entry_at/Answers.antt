use Rattle.std.proofs.Common.{refl}
use Rattle.std.proofs.lemmas.Option.{slice_get_read, slice_get_past}
use Rattle.msp_dispatch.specs.declared.solved_list.TheConstants.{SOLVERS}
use Rattle.msp_dispatch.proofs.Picks.{entry_listed, none_listed}
use Rattle.msp_dispatch.proofs.solved_list.entry_at.Goals as goal

pub returns-in-Some : goal.returns-in-Some
returns-in-Some c = entry_listed c.args.n c.in-Some.name.now c.target_of.result
    (slice_get_read SOLVERS _ c.args.n c.in-Some.name.now refl c.in-Some.ensures.lookup.3.0 c.in-Some.ensures.lookup.1) c.target_of.ensures

pub returns-in-None : goal.returns-in-None
returns-in-None c = none_listed c.args.n (slice_get_past SOLVERS c.args.n c.in-None.ensures.lookup.3)
