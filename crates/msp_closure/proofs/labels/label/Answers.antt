-- The goals of `label` that are proved by lemmas.
use Rattle.std.proofs.Common.{◌≡◌, List, Some, sym, subst}
use Rattle.std.specs.Prelude.{slice_get}
use Rattle.std.proofs.lemmas.Option.{slice_get_read}
use Rattle.msp_class.specs.declared.ranks.TheConstants.{CLASSES}
use Rattle.msp_class.specs.Rank.{rank_of}
use Rattle.msp_class.proofs.RankLemmas.{rank_of-below}
use Rattle.msp_closure.specs.declared.entry.Mark.{Mark}
use Rattle.msp_closure.proofs.labels.label.Goals as goal

pub returns : goal.returns
returns c =
    let same : c.labels.inside.marks ≡ c.args.labels.now = c.labels.view_is in
    subst (λ (xs : List Mark). slice_get xs (rank_of c.args.c) ≡ Some c.at.result) same
    (slice_get_read c.labels.inside.marks CLASSES (rank_of c.args.c) c.at.result (sym c.at.ensures.len) (rank_of-below c.args.c)
    (sym (c.at.ensures.value c.at.result)))
