use Rattle.std.proofs.Common.{◌≡◌, length, Ok, Err, Result, IsPermutation, ap, ◌∙◌}
use Rattle.std.specs.Prelude.{IfOk}
use Rattle.std.specs.List.{range_with_len}
use Rattle.msp_route.proofs.DateKeys.{by_date, each_at}
use Rattle.msp_route.proofs.dates.jobs_by_date.Goals as goal

both : {A E : Type 0} (r : Result A E) (P Q R : A → Type 0) → ((a : A) → P a → Q a → R a) → IfOk r P → IfOk r Q → IfOk r R
both (Ok a) P Q R f p q = f a p q
both (Err e) P Q R f p q = tt

pub returns-clause-sorted : goal.returns-clause-sorted
returns-clause-sorted c =
    let count : length c.deref.result.now ≡ length c.args.inst.now.jobs = ap length c.deref.ensures.value ∙ c.in_ok-keys.ensures.count in
    both c.jobs_by_key.result (λ o. IsPermutation (range_with_len 0 (length c.deref.result.now)) o.items) _ _
    (λ o p r. by_date c.args.inst.now c.deref.result.now o.items count (each_at c.args.inst.now c.deref.result.now c.in_ok-keys.keys.items c.deref.ensures.value c.in_ok-keys.ensures.each) p r)
    c.jobs_by_key.ensures.all c.jobs_by_key.ensures.rising
