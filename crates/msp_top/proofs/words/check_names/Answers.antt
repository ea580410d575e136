-- The goals of `check_names` that are proved by lemmas.
use Rattle.std.proofs.Common.{string_bytes}
use Rattle.msp_top.proofs.Exits.{failed}
use Rattle.msp_top.proofs.NameWords.{HasNames-next, HasNames-fault, not_all_names}
use Rattle.msp_top.proofs.words.check_names.Goals as goal

pub returns-in_err-read_name : goal.returns-in_err-read_name
returns-in_err-read_name c = rw (failed _ c.from_residual.ensures.1) (
  not_all_names string_bytes c.args.names.now c.loop-k.k c.index-names-k.result _ c.loop-k-test.true c.index-names-k.is c.as_str.ensures.value c.in_err-read_name.ensures.read.1,
  HasNames-fault string_bytes c.args.names.now
      c.loop-k.k c.index-names-k.result _ _ c.loop-k-test.true c.index-names-k.is c.as_str.ensures.value c.in_err-read_name.ensures.read.0 c.loop-k.invariant,
)

pub loop-k-preserved : goal.loop-k-preserved
loop-k-preserved c =
    HasNames-next string_bytes c.args.names.now c.loop-k.k c.index-names-k.result _ c.in_ok-read_name.field-0
    c.loop-k-test.true c.index-names-k.is c.as_str.ensures.value c.in_ok-read_name.ensures.read c.in_ok-read_name.ensures.later c.loop-k.invariant
