-- A number taken out of the first ones of a list.
use Rattle.std.proofs.Common.{◌≡◌, ℕ, suc, ◌+◌, ◌-◌, ◌<◌, ◌≤◌, List, ◌++◌, length, take, drop, sym, ap, ap₂, ◌∙◌, arith}
use Rattle.std.specs.Prelude.{remove}
use Rattle.std.specs.List.{copy_within}
use Rattle.std.proofs.lemmas.List.{length-drop, take-take, drop-take}
use Rattle.std.proofs.lemmas.List.Edits.{take-paste}

pub taken_out : (all : List ℕ) (count place : ℕ) → place < count → count ≤ length all → take (count - 1) (copy_within all (place + 1) count place) ≡ remove (take count all) place
taken_out all count place l few =
    let k = count - (place + 1) in
    let parts : count - 1 ≡ place + k = omega (arith, l) in
    let whole : count ≡ suc place + k = omega (arith, l) in
    ap (λ n. take n (copy_within all (place + 1) count place)) parts
    ∙ take-paste all place (drop (place + 1) all) k (omega (arith, l, few)) (omega (arith, l, few, length-drop (place + 1) all))
    ∙ ap₂ (λ xs ys. xs ++ ys) (sym (take-take place count all (omega (arith, l)))) (behind k whole)
  where
    behind : (k : ℕ) → count ≡ suc place + k → take k (drop (place + 1) all) ≡ drop (suc place) (take count all)
    behind k whole =
        let next : place + 1 ≡ suc place = omega arith in
        ap (λ n. take k (drop n all)) next ∙ sym (drop-take (suc place) k all) ∙ ap (λ n. drop (suc place) (take n all)) (sym whole)
