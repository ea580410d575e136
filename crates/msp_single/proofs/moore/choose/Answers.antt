use Rattle.std.proofs.Common.{[], take, sum_by, pos, sym, ap, subst, arith}
use Rattle.std.proofs.lemmas.List.{take_more}
use Rattle.msp_single.specs.declared.moore.Task.{Task}
use Rattle.msp_single.specs.Moore.{none}
use Rattle.msp_single.proofs.MooreSteps.{Chooses}
use Rattle.msp_single.proofs.moore.choose.Goals as goal

pub loop-k-init : goal.loop-k-init
loop-k-init c = record {
  total = sym (ap (sum_by (λ (t : Task). t.time)) c.new.ensures.items);
  early = omega arith;
  choice = subst (λ xs. Chooses [] xs c.new-2.result.items) (sym c.new.ensures.items) (subst (Chooses [] []) (sym c.new-2.ensures.items) none);
}

pub loop-k-preserved : goal.loop-k-preserved
loop-k-preserved c = record {
  total = c.in_ok-accept.ensures.total;
  early = omega (arith, c.accept.ensures.early, c.requires.short c.loop-k.k (record { job = 0; time = 0; due = pos 0 }) c.loop-k-test.true, c.loop-k.invariant.early);
  choice = subst (λ xs. Chooses xs c.accept.new.choice.accepted.items c.accept.new.choice.dropped.items) (sym (take_more c.args.tasks.now c.loop-k.k _ c.loop-k-test.true))
      (c.in_ok-accept.ensures.next (take c.loop-k.k c.args.tasks.now) c.loop-k.invariant.choice);
}
