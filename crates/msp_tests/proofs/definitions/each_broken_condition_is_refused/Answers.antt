use Rattle.std.proofs.Common.{refl, inl, inr, lit<, arith}
use Rattle.std.proofs.lemmas.Int.{ints}
use Rattle.msp_tests.specs.Examples.{piece}
use Rattle.msp_tests.proofs.definitions.each_broken_condition_is_refused.Goals as goal

pub returns-clause-machine : goal.returns-clause-machine
returns-clause-machine c h = elim (h.machine 0 1 (piece 0 0 0 0) (lit< tt) (lit< tt) refl) [ inl e ↦ absurd (omega (arith, ints, e)) | inr e ↦ absurd (omega (arith, ints, e)) ]

pub returns-clause-job : goal.returns-clause-job
returns-clause-job c h = elim (h.job 0 1 (piece 0 0 0 0) (lit< tt) (lit< tt) refl) [ inl e ↦ absurd (omega (arith, ints, e)) | inr e ↦ absurd (omega (arith, ints, e)) ]

pub returns-clause-arc : goal.returns-clause-arc
returns-clause-arc c h = absurd (omega (arith, ints, h.arc 0 (record { before = 0; after = 0 }) (lit< tt) 1 (piece 0 0 0 0) (lit< tt) 0 (piece 0 0 0 0) (lit< tt) refl refl))

pub returns-clause-route : goal.returns-clause-route
returns-clause-route c h = absurd (omega (arith, ints, h.route 1 (piece 0 0 0 0) (lit< tt) 0 (piece 0 0 0 0) (lit< tt) refl (lit< tt)))
