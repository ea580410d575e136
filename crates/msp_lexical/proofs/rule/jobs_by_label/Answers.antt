use Rattle.std.proofs.Common.{◌≡◌, ◌<◌, ◌≤◌, ◌⊎◌, Result, Ok, Err, IfOk, length, get_or, AllPairs, IsPermutation, ap, subst, ◌∙◌, slice_index}
use Rattle.std.specs.List.{range_with_len}
use Rattle.std.proofs.lemmas.Result.{IfOk-weaker}
use Rattle.msp_lexical.proofs.Ranks.{falling_labels}
use Rattle.msp_lexical.proofs.rule.jobs_by_label.Goals as goal

both_ok : {A E : Type 0} (r : Result A E) (P Q R : A → Type 0) → ((x : A) → P x → Q x → R x) → IfOk r P → IfOk r Q → IfOk r R
both_ok (Ok x) P Q R f p q = f x p q
both_ok (Err e) P Q R f p q = p

pub returns-clause-all : goal.returns-clause-all
returns-clause-all c =
    IfOk-weaker c.jobs_by_key.result (λ jobs. IsPermutation (range_with_len 0 (length c.as_slice.result.now)) jobs.items) (λ jobs. IsPermutation (range_with_len 0 c.args.count) jobs.items)
    (λ jobs h. subst (λ n. IsPermutation (range_with_len 0 n) jobs.items) (ap length c.as_slice.ensures.value ∙ c.in_ok-ranks.ensures.len) h) c.jobs_by_key.ensures.all

pub returns-clause-falling : goal.returns-clause-falling
returns-clause-falling c =
    both_ok c.jobs_by_key.result (λ jobs. IsPermutation (range_with_len 0 c.args.count) jobs.items)
    (λ jobs. AllPairs (λ a b. (get_or c.as_slice.result.now a 0 < get_or c.as_slice.result.now b 0) ⊎ ((get_or c.as_slice.result.now a 0 ≡ get_or c.as_slice.result.now b 0) × (a ≤ b))) jobs.items)
    (λ jobs. AllPairs (λ a b. slice_index c.args.labels.now b ≤ slice_index c.args.labels.now a) jobs.items)
    (λ jobs all rising. falling_labels c.args.count
    c.args.labels.now c.as_slice.result.now c.in_ok-ranks.ranks.items jobs.items c.as_slice.ensures.value c.in_ok-ranks.ensures c.requires.small all rising)
    (returns-clause-all c) c.jobs_by_key.ensures.rising
