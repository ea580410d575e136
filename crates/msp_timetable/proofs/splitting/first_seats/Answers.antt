use Rattle.std.proofs.Common.{◌≡◌, ℕ, ◌+◌, ◌<◌, List, [], ◌∷◌, ◌++◌, length, ap, sym, subst, ◌∙◌, below_more}
use Rattle.std.proofs.lemmas.List.{length_push, get_or_push, get_or_append_left}
use Rattle.msp_assign.specs.Passing.{at}
use Rattle.msp_timetable.proofs.splitting.first_seats.Goals as goal

-- one line more in a list of lines
next : (n : ℕ) (xs ys : List ℕ) → length xs ≡ n → ((r : ℕ) → r < n → at xs r ≡ r) → ys ≡ xs ++ n ∷ [] → (length ys ≡ n + 1) × ((r : ℕ) → r < n + 1 → at ys r ≡ r)
next n xs ys size each is = (
  ap length is ∙ length_push xs n ∙ ap (λ k. k + 1) size,
  below_more (λ r. at ys r ≡ r) n
      (λ r l. ap (λ zs. at zs r) is ∙ get_or_append_left xs (n ∷ []) 0 r (subst (λ k. r < k) (sym size) l) ∙ each r l)
      (ap (λ zs. at zs n) is ∙ get_or_push xs n 0 n size),
)

pub loop-line-preserved : goal.loop-line-preserved
loop-line-preserved c =
    let columns = next _ _ _ c.loop-line.invariant.columns c.loop-line.invariant.column_is c.in_ok-push.ensures.items in
    let owner = next _ _ _ c.loop-line.invariant.owner c.loop-line.invariant.owner_is c.in_ok-push-2.ensures.items in
    record { columns = columns.0; owner = owner.0; column_is = columns.1; owner_is = owner.1 }
