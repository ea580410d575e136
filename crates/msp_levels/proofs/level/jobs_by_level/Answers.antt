use Rattle.std.proofs.Common.{◌≡◌, ◌∙◌, map, ap, AllPairs, IsPermutation, slice_index}
use Rattle.std.specs.List.{range_with_len}
use Rattle.std.proofs.lemmas.Result.{IfOk-weaker}
use Rattle.msp_route.proofs.KeyedJobs.{numbers_all, numbers_falling}
use Rattle.msp_levels.proofs.ByLevel.{Falls, by_number}
use Rattle.msp_levels.proofs.level.jobs_by_level.Goals as goal

pub returns-clause-all : goal.returns-clause-all
returns-clause-all c =
    IfOk-weaker c.job_numbers.result (λ n. n.items ≡ map (λ k. k.job) c.as_slice.result.now) (λ n. IsPermutation (range_with_len 0 c.args.count) n.items)
    (λ n e. numbers_all c.args.count c.in_ok-all.all.items c.sort_by_falling_key.new.jobs.items n.items c.in_ok-all.ensures.jobs c.sort_by_falling_key.ensures.permutation
    (e ∙ ap (map (λ k. k.job)) c.as_slice.ensures.value))
    c.job_numbers.ensures

pub returns-clause-falling : goal.returns-clause-falling
returns-clause-falling c =
    IfOk-weaker c.job_numbers.result (λ n. n.items ≡ map (λ k. k.job) c.as_slice.result.now) (λ n. AllPairs (Falls (slice_index c.args.levels.now)) n.items)
    (λ n e. by_number c.args.count (slice_index c.args.levels.now) n.items
    (numbers_all c.args.count c.in_ok-all.all.items c.sort_by_falling_key.new.jobs.items n.items c.in_ok-all.ensures.jobs c.sort_by_falling_key.ensures.permutation
    (e ∙ ap (map (λ k. k.job)) c.as_slice.ensures.value))
    (numbers_falling (slice_index c.args.levels.now) c.in_ok-all.all.items c.sort_by_falling_key.new.jobs.items
    n.items c.in_ok-all.ensures.levels c.sort_by_falling_key.ensures.permutation c.sort_by_falling_key.ensures.sorted (e ∙ ap (map (λ k. k.job)) c.as_slice.ensures.value)))
    c.job_numbers.ensures
