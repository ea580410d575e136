use Rattle.std.proofs.Common.{◌≡◌, ◌≢◌, ◌+◌, ◌<◌, ℕ, List, length, get_or, All, AllPairs, sym, subst, arith}
use Rattle.msp_class.proofs.Sums.{OnceBelow-distinct}
use Rattle.msp_instance.proofs.CycleLemmas.{OnceBelow-from_sequence}
use Rattle.msp_cert.specs.Certificates.{of_job}
use Rattle.msp_cert.proofs.TrueLevels.{heights_from}
use Rattle.msp_cert.proofs.true_levels.heights_of.Goals as goal

pub put_heights-requires-clause-inside : goal.put_heights-requires-clause-inside
put_heights-requires-clause-inside c =
    let n : length c.in_ok-heights.heights.items ≡ length c.args.inst.now.jobs = omega (arith, c.in_ok-heights.ensures.len, c.len.ensures) in
    subst (λ (l : List ℕ). All (λ j. j < length c.in_ok-heights.heights.items) l) (sym c.as_slice.ensures)
    (subst (λ m. All (λ j. j < m) c.in-Ok.order) (sym n) (OnceBelow-from_sequence c.args.inst.now c.in-Ok.order c.in-Ok.ensures.sequence).within)

pub put_heights-requires-clause-apart : goal.put_heights-requires-clause-apart
put_heights-requires-clause-apart c =
    subst (λ (l : List ℕ). AllPairs (λ j k. j ≢ k) l) (sym c.as_slice.ensures) (OnceBelow-distinct (OnceBelow-from_sequence c.args.inst.now c.in-Ok.order c.in-Ok.ensures.sequence))

pub returns : goal.returns
returns c =
    let n : length c.put_heights.new.heights.items ≡ length c.args.inst.now.jobs = omega (arith, c.put_heights.ensures.len, c.in_ok-heights.ensures.len, c.len.ensures) in
    heights_from c.args.inst.now c.in-Ok.order c.put_heights.new.heights.items c.in-Ok.ensures.sequence c.in-Ok.ensures.forward n
    (subst (λ (l : List ℕ). (k : ℕ) → k < length l → of_job c.put_heights.new.heights.items (get_or l k 0) + k + 1 ≡ length l) c.as_slice.ensures c.put_heights.ensures.after)
