-- The goals of `gather` that are proved by lemmas.
use Rattle.std.proofs.Common.{◌≡◌, sym, subst}
use Rattle.msp_text.specs.JobName.{AreDistinct}
use Rattle.msp_text.proofs.NameLists.{IsGathered, gathered_none, gathered_next, gathered_twice, gathered_all}
use Rattle.msp_text.proofs.names.Names.gather.Goals as goal

pub loop-name-init : goal.loop-name-init
loop-name-init c = subst (λ g. IsGathered c.as_slice-items.result.now g 0) (sym c.new-gathered.ensures) (gathered_none c.as_slice-items.result.now)

pub loop-name-preserved : goal.loop-name-preserved
loop-name-preserved c =
    let h = rw c.if-not-branch.false at c.in_ok-add.ensures.added in
    gathered_next
    c.as_slice-items.result.now
    c.loop-name.gathered
    c.add.new.self
    c.loop-name.name-index
    c.name-item.result
    c.loop-name.invariant
    c.loop-name-test.true
    c.name-item.is
    h.0
    h.1

pub returns-then-not-branch : goal.returns-then-not-branch
returns-then-not-branch c =
    let h = rw c.if-not-branch.true at c.in_ok-add.ensures.added in
    subst (λ l. ¬ (AreDistinct l)) c.as_slice-items.ensures
    (gathered_twice c.as_slice-items.result.now c.loop-name.gathered c.loop-name.name-index c.name-item.result c.loop-name.invariant c.loop-name-test.true c.name-item.is h.0)

pub returns : goal.returns
returns c =
    subst (λ l. (c.loop-name.gathered ≡ l) × AreDistinct l) c.as_slice-items.ensures
    (gathered_all c.as_slice-items.result.now c.loop-name.gathered c.loop-name.name-index c.loop-name-test.false c.loop-name.invariant)
