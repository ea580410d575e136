use Rattle.std.proofs.Common.{◌≡◌, ◌∙◌, length, map, ap, AllPairs, IsPermutation, slice_index_or}
use Rattle.std.specs.List.{range_with_len}
use Rattle.std.proofs.lemmas.Result.{IfOk-weaker}
use Rattle.msp_route.proofs.KeyedJobs.{numbers_all, numbers_falling, Falls}
use Rattle.msp_route.proofs.keyed.jobs_by_falling_key.Goals as goal

pub returns-clause-all : goal.returns-clause-all
returns-clause-all c =
    IfOk-weaker c.job_numbers.result (λ n. n.items ≡ map (λ k. k.job) c.as_slice.result.now) (λ n. IsPermutation (range_with_len 0 (length c.args.keys.now)) n.items)
    (λ n e. numbers_all (length c.args.keys.now) c.in_ok-all.all.items c.sort_by_falling_key.new.jobs.items n.items c.in_ok-all.ensures.jobs c.sort_by_falling_key.ensures.permutation
    (e ∙ ap (map (λ k. k.job)) c.as_slice.ensures.value))
    c.job_numbers.ensures

pub returns-clause-falling : goal.returns-clause-falling
returns-clause-falling c =
    IfOk-weaker c.job_numbers.result (λ n. n.items ≡ map (λ k. k.job) c.as_slice.result.now) (λ n. AllPairs (Falls (λ j. slice_index_or c.args.keys.now j 0)) n.items)
    (λ n e. numbers_falling (λ j. slice_index_or c.args.keys.now j 0) c.in_ok-all.all.items c.sort_by_falling_key.new.jobs.items
    n.items c.in_ok-all.ensures.keys c.sort_by_falling_key.ensures.permutation c.sort_by_falling_key.ensures.sorted (e ∙ ap (map (λ k. k.job)) c.as_slice.ensures.value))
    c.job_numbers.ensures
