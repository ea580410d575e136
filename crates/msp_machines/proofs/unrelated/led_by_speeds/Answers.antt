-- The speeds of uniform machines.
use Rattle.std.proofs.Common.{sym, subst}
use Rattle.msp_instance.specs.Conditions.{HasSmallMultiple}
use Rattle.msp_machines.proofs.BroughtBySpeeds.{speeds_within, speeds_few}
use Rattle.msp_machines.proofs.unrelated.led_by_speeds.Goals as goal

pub least_common_multiple-factor-requires-clause-speeds : goal.least_common_multiple-factor-requires-clause-speeds
least_common_multiple-factor-requires-clause-speeds c = speeds_within c.args.inst.now c.requires.inner c.requires.uniform _ c.as_slice-speeds.ensures

pub least_common_multiple-factor-requires-clause-small : goal.least_common_multiple-factor-requires-clause-small
least_common_multiple-factor-requires-clause-small c = subst HasSmallMultiple (sym c.as_slice-speeds.ensures) c.requires.inner.conditions.multiple

pub stretch_all-requires-clause-speeds : goal.stretch_all-requires-clause-speeds
stretch_all-requires-clause-speeds c k d l = (speeds_within c.args.inst.now c.requires.inner c.requires.uniform _ c.as_slice-speeds.ensures k d l).0

pub stretch_all-requires-clause-few : goal.stretch_all-requires-clause-few
stretch_all-requires-clause-few c = speeds_few c.args.inst.now c.requires.inner c.requires.uniform _ c.as_slice-speeds.ensures
