-- The goals of `is_led_back` that are proved by lemmas.
use Rattle.std.proofs.Common.{◌≡◌, ◌+◌, ℕ, false, true, sym, ◌∙◌, subst, arith}
use Rattle.msp_table.specs.Chains.{every_row, Reaches}
use Rattle.msp_closure.specs.Tables.{is_flagged}
use Rattle.msp_closure.proofs.FrontierLemmas.{LedBackBelow, LedBackBelow-next}
use Rattle.msp_closure.proofs.frontier_lists.is_led_back.Goals as goal
use Rattle.msp_closure.proofs.frontier_lists.is_led_back.Goals.{else-at-via-then-at+else-not-reaches, else-at-via-else-at}

pub reached-preserved : goal.reached-preserved
reached-preserved c =
    let back : is_flagged c.args.set.now c.in-Some.b ≡ true → Reaches every_row c.in-Some.b c.args.c = λ flagged. elim c.else-at.branch [
      | else-at-via-then-at+else-not-reaches w ↦ w.reaches.ensures.0 w.if-not-reaches.false
      | else-at-via-else-at w ↦ let both : false ≡ true = sym (c.at.ensures.value false ∙ w.if-at.false) ∙ flagged in absurd (let e = both in cc)
    ] in
    let found = c.in-Some.ensures in
    let P : ℕ → Type 0 = λ n. LedBackBelow c.args.set.now c.args.c (n + 1) in (
      subst P (sym c.rank-from.ensures.rank)
          (LedBackBelow-next c.args.set.now c.args.c c.in-Some.b c.reached.from
          (record { reached = found.reached; high = found.from; least = found.least }) back c.reached.invariant.0),
      omega (arith, c.rank-from.ensures.below),
    )
