use Rattle.std.proofs.Common.{◌≡◌, ℕ, ◌+◌, ◌*◌, ◌/◌, ◌≤◌, length, get_or, sym, ap, subst, ◌∙◌, arith}
use Rattle.std.specs.Prelude.{slice_index}
use Rattle.msp_weighted.specs.Values.{is_flagged}
use Rattle.msp_weighted.proofs.BitFacts.{none_flagged}
use Rattle.msp_weighted.proofs.ReachFacts.{reached-start}
use Rattle.msp_weighted.proofs.table.table_of.Goals as goal

-- words for so many rows of so many bits
room : (rows width values flags : ℕ) → values ≡ width → flags ≡ rows * width / 64 + 1 → rows * values ≤ 64 * flags
room rows width values flags e f = subst (λ w. rows * w ≤ 64 * flags) (sym e) (omega (arith, f))

pub put_jobs-requires-clause-room : goal.put_jobs-requires-clause-room
put_jobs-requires-clause-room c =
    room _ _ _ _ (ap length c.deref_mut.ensures.value ∙ c.in_ok-values.ensures.width) (ap length c.deref_mut-2.ensures.value ∙ c.in_ok-flags.ensures.count)

pub put_jobs-requires-clause-start : goal.put_jobs-requires-clause-start
put_jobs-requires-clause-start c = λ t l. ap (λ xs. slice_index xs t) c.deref_mut.ensures.value ∙ c.in_ok-values.ensures.first t

pub put_jobs-requires-clause-clear : goal.put_jobs-requires-clause-clear
put_jobs-requires-clause-clear c = λ m. none_flagged c.deref_mut-2.result.now m (ap (λ xs. get_or xs (m / 64) 0) c.deref_mut-2.ensures.value ∙ c.in_ok-flags.ensures.zero (m / 64))

pub put_jobs-requires-clause-reached : goal.put_jobs-requires-clause-reached
put_jobs-requires-clause-reached c =
    reached-start _ _ _ (λ t l. ap (λ xs. slice_index xs t) c.deref_mut.ensures.value ∙ c.in_ok-values.ensures.first t)
    (ap (λ xs. is_flagged xs 0) c.deref_mut-3.ensures.value ∙ c.in_ok-reached.ensures.first)
