-- The goals of `strike` that are proved by lemmas.
use Rattle.std.proofs.Common.{◌≡◌, ◌+◌, ℕ, false, true, sym, ◌∙◌, subst, arith}
use Rattle.msp_closure.proofs.FrontierLemmas.{IsNext, Struck, Struck-off, Struck-stay, Struck-all}
use Rattle.msp_closure.proofs.frontier_lists.strike.Goals as goal
use Rattle.msp_closure.proofs.frontier_lists.strike.Goals.{then-not-reaches, else-not-reaches}

pub reached-preserved : goal.reached-preserved
reached-preserved c =
    let found = c.in-Some.ensures in
    let next : IsNext c.args.c c.reached.from c.in-Some.b = record { reached = found.reached; high = found.from; least = found.least } in
    let P : ℕ → Type 0 = λ n. Struck c.args.c c.args.left.now c.if-not-reaches.left (n + 1) in (
      subst P (sym c.rank-from.ensures.rank)
          (elim c.if-not-reaches.branch [
            | then-not-reaches w ↦ rw (w.left-is, w.set.ensures.written)
                (Struck-off c.args.c c.args.left.now c.reached.left c.reached.from c.in-Some.b next w.set.ensures.len
                (λ back. let both : false ≡ true = sym w.if-not-reaches.true ∙ c.reaches.ensures.1 back in let e = both in cc) c.reached.invariant.0)
            | else-not-reaches w ↦ rw w.left-is
                (Struck-stay c.args.c c.args.left.now c.reached.left c.reached.from c.in-Some.b next (c.reaches.ensures.0 w.if-not-reaches.false)
                c.reached.invariant.0)
          ]),
      omega (arith, c.rank-from.ensures.below),
    )

pub returns : goal.returns
returns c = Struck-all c.args.c c.args.left.now c.reached.left c.reached.from c.in_default.ensures.none c.reached.invariant.0
