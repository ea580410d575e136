use Rattle.std.proofs.Common.{◌≡◌, ℤ, pos, ◌+◌, ◌+ℤ◌, to_z, of_z, FitsSigned, IsTrue, ◌↔◌, sym, ap, ap₂, subst₂, ◌∙◌, rules}
use Rattle.std.specs.Prelude.{int_le}
use Rattle.std.specs.Int.{w64, w128}
use Rattle.std.proofs.lemmas.Int.{to_z-of_z}
use Rattle.msp_threshold.specs.Squeezed.{HasTime}
use Rattle.msp_threshold.proofs.squeezing.has_time.Goals as goal

word : (x a : ℤ) → x ≡ a → FitsSigned w128 a → to_z w128 (of_z w128 x) ≡ a
word x a e f = ap (λ z. to_z w128 (of_z w128 z)) e ∙ to_z-of_z w128 a f

pub returns : goal.returns
returns c =
    let j = c.args.job.now in
    let release = word _ _ c.from.ensures (search rules) in
    let due = word _ _ (c.from-2.ensures ∙ to_z-of_z w64 j.due (search rules)) (search rules) in
    let bound = word _ _ (c.from-3.ensures ∙ to_z-of_z w64 c.args.bound c.ranges.bound) (search rules) in
    subst₂ (λ x y. IsTrue (int_le x y) ↔ HasTime c.args.bound j)
    (sym (word _ (pos (j.release + 1)) (ap (λ x. x +ℤ pos 1) release) (search rules))) (sym (word _ _ (ap₂ (λ x y. x +ℤ y) due bound) (search rules))) (search rules)
