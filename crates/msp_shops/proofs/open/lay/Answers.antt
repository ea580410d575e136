use Rattle.std.proofs.Common.{◌++◌, ap, ap₂, ◌∙◌}
use Rattle.msp_shops.specs.Pass.{part}
use Rattle.msp_shops.proofs.open.lay.Goals as goal

pub returns : goal.returns
returns c =
    let s = c.args.special in
    let (laid, e, passed) = c.in_ok-to.ensures in (
      c.in_ok-to.to,
      laid,
      passed,
      c.in_ok-put-2.ensures ∙ ap₂ (λ ps begin. ps ++ part s.job c.args.first begin s.first)
          (e ∙ ap (λ ps. ps ++ laid) (c.in_ok-put.ensures ∙ ap (λ ps. ps ++ part s.job c.args.second 0 s.second) c.new-pieces.ensures)) c.max-begin.ensures,
    )
