use Rattle.std.proofs.Common.{ap, sym, ◌∙◌}
use Rattle.std.proofs.lemmas.Option.{get_or_from_slice_get}
use Rattle.msp_class.specs.Rank.{rank_of}
use Rattle.msp_closure.specs.declared.entry.Mark.TheVariants.{Unsettled}
use Rattle.msp_report.specs.LabelsText.{label_text}
use Rattle.msp_report.proofs.labels.label_word.Goals as goal

pub returns : goal.returns
returns c = c.word.ensures ∙ ap label_text (sym (get_or_from_slice_get c.args.labels.now (rank_of c.args.c) c.label.result Unsettled c.label.ensures))
