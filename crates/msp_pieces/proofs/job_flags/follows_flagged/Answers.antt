use Rattle.std.proofs.Common.{◌≡◌, ◌<◌, ◌==◌, false, All, sym, ap, subst, ◌∙◌, arith, rules, slice_index_or}
use Rattle.std.specs.List.{list_any}
use Rattle.std.proofs.lemmas.List.{take_all}
use Rattle.std.proofs.lemmas.List.Elements.{All-filter, All-more}
use Rattle.std.proofs.lemmas.List.Folds.{list_any_at, list_any_none}
use Rattle.msp_class.specs.declared.sizes.TheConstants.{MOST_JOBS}
use Rattle.msp_instance.specs.declared.Arc.{Arc}
use Rattle.msp_instance.proofs.ArcLemmas.{list_any-filter}
use Rattle.msp_pieces.proofs.job_flags.follows_flagged.Goals as goal

pub bounds-flags-arc : goal.bounds-flags-arc
bounds-flags-arc c =
    (subst (All (λ a. (a.before < MOST_JOBS) × (a.after < MOST_JOBS))) (sym c.entering_of-entering.ensures)
    (All-filter (λ a. a.after == c.args.job) (λ a. (a.before < MOST_JOBS) × (a.after < MOST_JOBS)) c.args.sorted.now c.requires.ends) c.loop-arc.arc-index _ c.loop-arc-test.true).0

pub returns-then-flags-arc : goal.returns-then-flags-arc
returns-then-flags-arc c =
    let flagged = λ (a : Arc). slice_index_or c.args.flags.now a.before false in
    sym (list_any_at flagged c.entering_of-entering.result.now c.loop-arc.arc-index (record { before = 0; after = 0 }) c.loop-arc-test.true (search rules))
    ∙ ap (list_any flagged) c.entering_of-entering.ensures ∙ list_any-filter (λ a. a.after == c.args.job) flagged c.args.sorted.now

pub loop-arc-preserved : goal.loop-arc-preserved
loop-arc-preserved c = All-more (λ a. slice_index_or c.args.flags.now a.before false ≡ false)
    c.entering_of-entering.result.now c.loop-arc.arc-index (record { before = 0; after = 0 }) c.loop-arc-test.true c.loop-arc.invariant (search rules)

pub returns : goal.returns
returns c =
    let flagged = λ (a : Arc). slice_index_or c.args.flags.now a.before false in
    sym (list_any_none flagged c.entering_of-entering.result.now
    (subst (All (λ a. flagged a ≡ false)) (take_all c.loop-arc.arc-index c.entering_of-entering.result.now (omega (arith, c.loop-arc-test.false))) c.loop-arc.invariant))
    ∙ ap (list_any flagged) c.entering_of-entering.ensures ∙ list_any-filter (λ a. a.after == c.args.job) flagged c.args.sorted.now
