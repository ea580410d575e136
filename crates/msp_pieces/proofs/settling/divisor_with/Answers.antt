use Rattle.std.proofs.Common.{◌≡◌, ℕ, rules, subst, unsigned_abs}
use Rattle.std.specs.Int.{IsGcd}
use Rattle.msp_pieces.proofs.changes.SettledSchedules.{IsCommonDivisor-more}
use Rattle.msp_pieces.proofs.settling.divisor_with.Goals as goal

along : (a b x g : ℕ) → a ≡ x → IsGcd a b g → IsGcd x b g
along a b x g e h = subst (λ z. IsGcd z b g) e h

pub returns : goal.returns
returns c unit ps h = IsCommonDivisor-more unit ps c.args.piece.now _ _ _ (along _ _ (unsigned_abs c.args.piece.now.from) _ (search rules) c.gcd-with_begin.ensures.divisor)
    (along _ _ (unsigned_abs c.args.piece.now.to) _ (search rules) c.gcd.ensures.divisor) h
