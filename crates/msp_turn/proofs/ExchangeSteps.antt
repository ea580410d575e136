-- Jobs that are exchanged where they stand: the next one is as it was.
use Rattle.std.proofs.Common.{◌≡◌, ℕ, zero, suc, ◌<◌, List, [], ◌∷◌, ◌++◌, length, get_or, map, take, drop, All, refl, sym, ap, subst, ◌∙◌, arith}
use Rattle.msp_instance.specs.declared.Job.{Job}
use Rattle.msp_turn.specs.Exchanged.{IsExchangeable, exchanged_job}

same_item : {X : Type 0} (f : X → X) (xs : List X) (k : ℕ) (d : X) → k < length xs → get_or (map f (take k xs) ++ drop k xs) k d ≡ get_or xs k d
same_item f [] k d h = absurd (omega arith)
same_item f (x ∷ xs) zero d h = refl
same_item f (x ∷ xs) (suc k) d h = same_item f xs k d (omega arith)

pub next_exchangeable : (jobs now : List Job) (k : ℕ) (d : Job) → k < length jobs → now ≡ map exchanged_job (take k jobs) ++ drop k jobs → All IsExchangeable jobs → IsExchangeable (get_or now k d)
next_exchangeable jobs now k d l e h = subst IsExchangeable (sym (ap (λ x. get_or x k d) e ∙ same_item exchanged_job jobs k d l)) (h k d l)
