use Rattle.std.proofs.Common.{◌↔◌, IsTrue, length, refl, subst}
use Rattle.msp_uniform.specs.Uniform.{HaveSmallUnit}
use Rattle.msp_uniform.proofs.DataFacts.{speeds_are, data_of}
use Rattle.msp_uniform.proofs.uniform_cut.UniformCutSolver.fits.Goals as goal

pub has_small_unit-requires-clause-some : goal.has_small_unit-requires-clause-some
has_small_unit-requires-clause-some c = (data_of c.args.inst.now c.requires.class c.requires.inner _ _ refl c.as_slice.ensures).some_machines

pub has_small_unit-requires-clause-few : goal.has_small_unit-requires-clause-few
has_small_unit-requires-clause-few c = (data_of c.args.inst.now c.requires.class c.requires.inner _ _ refl c.as_slice.ensures).few_machines

pub has_small_unit-requires-clause-speeds : goal.has_small_unit-requires-clause-speeds
has_small_unit-requires-clause-speeds c = (data_of c.args.inst.now c.requires.class c.requires.inner _ _ refl c.as_slice.ensures).speeds

pub has_small_unit-requires-clause-small : goal.has_small_unit-requires-clause-small
has_small_unit-requires-clause-small c = (data_of c.args.inst.now c.requires.class c.requires.inner _ _ refl c.as_slice.ensures).multiple

pub returns : goal.returns
returns c = subst (λ m. IsTrue c.has_small_unit.result ↔ HaveSmallUnit c.args.inst.now.speeds m) (speeds_are c.args.inst.now c.requires.class c.requires.inner)
    (subst (λ sp. IsTrue c.has_small_unit.result ↔ HaveSmallUnit sp (length sp)) c.as_slice.ensures c.has_small_unit.ensures)
