-- What holds after a push, or another call, that was not refused.
use Rattle.std.proofs.Common.{◌≡◌, ℕ, suc, ◌+◌, Bool, false, not, cond, List, [], ◌∷◌, ◌++◌, map, OnOk, Ok, Err, Result, sym, ap, ◌∙◌, arith}
use Rattle.std.specs.Result.{is_err}
use Rattle.std.specs.List.{range_with_len}
use Rattle.std.proofs.lemmas.List.{map-append}
use Rattle.msp_class.proofs.Sums.{range_with_len_last}

pub on_ok : {A E : Type 0} (r : Result A E) (P : Type 0) (b : Bool) → OnOk r P → b ≡ is_err r → b ≡ false → P
on_ok (Ok a) P b h e f = h
on_ok (Err x) P b h e f = absurd (cc)

pub pushed : {X : Type 0} (new old more : List X) (ok err : Bool) → new ≡ cond ok more old → ok ≡ not err → err ≡ false → new ≡ more
pushed new old more ok err e is f = e ∙ ap (λ b. cond b more old) (is ∙ ap not f)

-- one more number: those below k, and k
pub range-next : (new old : List ℕ) (k : ℕ) → new ≡ old ++ k ∷ [] → old ≡ range_with_len 0 k → new ≡ range_with_len 0 (k + 1)
range-next new old k e so_far =
    let place : k ≡ 0 + k = omega arith in
    let back : suc k ≡ k + 1 = omega arith in
    e ∙ ap (λ l. l ++ k ∷ []) so_far ∙ ap (λ n. range_with_len 0 k ++ n ∷ []) place ∙ sym (range_with_len_last 0 k) ∙ ap (range_with_len 0) back

-- one more item, whose number is k
pub numbers-next : {X : Type 0} (number : X → ℕ) (new old : List X) (x : X) (k : ℕ)
    → new ≡ old ++ x ∷ [] → number x ≡ k → map number old ≡ range_with_len 0 k → map number new ≡ range_with_len 0 (k + 1)
numbers-next number new old x k e is so_far =
    range-next (map number new) (map number old) k (ap (map number) e ∙ map-append number old (x ∷ []) ∙ ap (λ n. map number old ++ n ∷ []) is) so_far
