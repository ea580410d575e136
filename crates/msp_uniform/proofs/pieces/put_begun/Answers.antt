use Rattle.std.proofs.Common.{◌≡◌, ℕ, ◌+◌, ◌-◌, ◌++◌, ◌<◌, ◌^◌, List, All, length, sym, ◌∙◌, ap, ap₂, subst, subst₂, arith}
use Rattle.std.proofs.lemmas.List.{get_or_default}
use Rattle.std.proofs.lemmas.List.Elements.{All-set}
use Rattle.msp_pieces.specs.declared.Piece.{Piece}
use Rattle.msp_uniform.specs.Runs.{part_on}
use Rattle.msp_uniform.specs.Segments.{at}
use Rattle.msp_uniform.proofs.LatestFirst.{IsBack, IsBack-end, IsBack-kept, IsBack-changed}
use Rattle.msp_uniform.proofs.pieces.put_begun.Goals.{then-job-before+in_ok-put_part, else-job-before}
use Rattle.msp_uniform.proofs.pieces.put_begun.Goals as goal

pub loop-back-preserved : goal.loop-back-preserved
loop-back-preserved c =
    let m = length c.args.jobs.now - 1 - c.loop-back.back in
    let old = c.args.ends.now.items in
    let i = c.loop-back.invariant in
    let T : List ℕ → List Piece → Type 0 = IsBack c.args.none c.args.before.now c.args.jobs.now c.args.moment old c.args.pieces.now (c.loop-back.back + 1) in
    let place : m + (c.loop-back.back + 1) ≡ length c.args.jobs.now = omega (arith, c.loop-back-test.true) in
    let small : All (λ e. e < 2 ^ 127) c.loop-back.ends.items = i.small in
    elim c.if-job-before.branch [
      | then-job-before+in_ok-put_part w ↦
          let end_is : w.index.result.now ≡ at c.loop-back.ends.items m =
          w.index.ensures ∙ get_or_default c.loop-back.ends.items m w.index.result.now 0 (omega (arith, place, i.behind.many, c.requires.many)) in
          record {
            behind = subst₂ T (sym (ap (λ v. v.items) w.ends-is))
                (sym (w.pieces-is ∙ w.in_ok-put_part.ensures ∙ ap₂ (λ j e. c.loop-back.pieces ++ part_on c.args.none m j c.args.moment e) w.from.ensures end_is))
                (IsBack-changed c.args.none c.args.before.now c.args.jobs.now c.args.moment old c.args.pieces.now
                c.loop-back.ends.items c.loop-back.pieces c.loop-back.back m place i.behind w.if-job-before.true (i.behind.many ∙ c.requires.many));
            small = let P : List ℕ → Type 0 = All (λ e. e < 2 ^ 127) in
                subst P (sym (ap (λ v. v.items) w.ends-is)) (All-set (λ e. e < 2 ^ 127) c.loop-back.ends.items m c.args.moment c.requires.moment small);
          }
      | else-job-before w ↦ record {
        behind = subst₂ T (sym (ap (λ v. v.items) w.ends-is)) (sym w.pieces-is)
            (IsBack-kept c.args.none c.args.before.now c.args.jobs.now
            c.args.moment old c.args.pieces.now c.loop-back.ends.items c.loop-back.pieces c.loop-back.back m place i.behind w.if-job-before.false);
        small = let P : List ℕ → Type 0 = All (λ e. e < 2 ^ 127) in subst P (sym (ap (λ v. v.items) w.ends-is)) small;
      }
    ]

pub returns : goal.returns
returns c =
    let e = IsBack-end c.args.none c.args.before.now c.args.jobs.now c.args.moment c.args.ends.now.items
    c.args.pieces.now c.loop-back.ends.items c.loop-back.pieces c.loop-back.back c.loop-back-test.false c.loop-back.invariant.behind in
    record { pieces = e.0; ends = e.1 }
