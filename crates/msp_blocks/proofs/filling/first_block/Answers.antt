use Rattle.std.proofs.Common.{◌≡◌, ℕ, ◌+◌, ◌<◌, ◌≤◌, List, length, get_or, take, sum_by, subst, ap, arith, below_more}
use Rattle.std.proofs.lemmas.List.Sums.{sum_by_more}
use Rattle.msp_pieces.specs.BackToBack.{time_at}
use Rattle.msp_route.specs.Heads.{head_in}
use Rattle.msp_blocks.specs.Filling.{IsFirstBlock}
use Rattle.msp_blocks.proofs.filling.first_block.Goals as goal

-- one job more in the block
next : (head time : ℕ → ℕ) (jobs : List ℕ) (count end new : ℕ) → (count < length jobs) × (head (get_or jobs count 0) ≤ end)
    → new ≡ end + time (get_or jobs count 0) → IsFirstBlock head time jobs count end → IsFirstBlock head time jobs (count + 1) new
next head time jobs count end new (inside, early) e h = record {
  some = omega arith;
  within = omega (arith, inside);
  end_is = omega (arith, e, h.end_is, sum_by_more time jobs count 0 inside);
  near = below_more (λ k. head (get_or jobs k 0) ≤ head (get_or jobs 0 0) + sum_by time (take k jobs)) count h.near (subst (λ t. head (get_or jobs count 0) ≤ t) h.end_is early);
}

pub loop-end-preserved : goal.loop-end-preserved
loop-end-preserved c = record {
  block = next (head_in c.args.heads.now) (time_at c.args.inst.now) _ _ _ _ (c.goes_on.ensures.yes c.loop-end-test.true)
      (ap (λ t. c.loop-end.end + t) c.time_of-end.ensures.value) c.loop-end.invariant.block;
  small = omega (arith, c.loop-end.invariant.small, c.time_of-end.ensures.size);
}
