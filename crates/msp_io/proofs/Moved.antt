-- Bytes that are taken by several calls.
use Rattle.std.proofs.Common.{◌≡◌, ℕ, ◌+◌, ◌≤◌, ◌-◌, List, [], ◌++◌, length, take, drop, sym, ◌∙◌, ap, subst, arith, Option, Some, None}
use Rattle.std.proofs.lemmas.List.{append-nil, length-append, take_rest}
use Rattle.std.proofs.Math.Seq.{take-add}
use Rattle.std.specs.Io.KnownBytes.{Consumes, IsAtEnd}

-- nothing more
pub and_none : (P : List ℕ → Type 0) (bytes : List ℕ) → P (bytes ++ []) → P bytes
and_none P bytes h = subst P (append-nil bytes) h

-- the first bytes, and then the first of the rest, as a slice gives them
pub take_further : (done n : ℕ) (bytes : List ℕ) → take done bytes ++ take n (take (length bytes - done) (drop done bytes)) ≡ take (done + n) bytes
take_further done n bytes = ap (λ rest. take done bytes ++ take n rest) (take_rest bytes done) ∙ sym (take-add done n bytes)

-- where the bytes left are told, all that was taken to the end is all that was left
pub Consumes-all : (left all : List ℕ) (after : Option (List ℕ)) → Consumes (Some left) after all → IsAtEnd after → all ≡ left
Consumes-all left all None taken end = absurd taken
Consumes-all left all (Some rest) taken end =
    sym (taken ∙ ap (λ (s : List ℕ). all ++ s) end ∙ append-nil all)

-- where the bytes left are told, no more is taken than was left
pub Consumes-within : (left taken : List ℕ) (after : Option (List ℕ)) → Consumes (Some left) after taken → length taken ≤ length left
Consumes-within left taken None front = absurd front
Consumes-within left taken (Some rest) front = omega (arith, ap length front, length-append taken rest)
