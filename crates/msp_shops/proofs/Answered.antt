-- The two passes of Jackson's rule, and the schedule that they make, at the values as the code passes them.
use Rattle.std.proofs.Common.{◌≡◌, List, [], ◌++◌, ap, ◌∙◌, subst, subst₂}
use Rattle.msp_pieces.specs.declared.Piece.{Piece}
use Rattle.msp_shops.specs.declared.pass.JobTimes.{JobTimes}
use Rattle.msp_shops.specs.declared.pass.Moments.{Moments}
use Rattle.msp_shops.specs.declared.pass.Stage.{Stage}
use Rattle.msp_shops.specs.Pass.{IsPass, HasPassed}
use Rattle.msp_shops.specs.Laid.{after, AreLaid}

same_pass : (a a' b b' : Stage) (jobs : List JobTimes) (from from' to : Moments) (laid : List Piece) → a ≡ a' → b ≡ b' → from ≡ from' → IsPass a b jobs from to laid → IsPass a' b' jobs from' to laid
same_pass a a' b b' jobs from from' to laid e f g h = subst (λ m. IsPass a' b' jobs m to laid) g (subst₂ (λ x y. IsPass x y jobs from to laid) e f h)

pub AreLaid-made : (here there : List JobTimes) (none once twice : List Piece) (a b c d : Stage) (from_here from_there : Moments) → none ≡ []
    → a ≡ record { op = 0; machine = 0 } → b ≡ record { op = 1; machine = 1 } → c ≡ record { op = 0; machine = 1 } → d ≡ record { op = 1; machine = 0 }
    → from_here ≡ after there → from_there ≡ after here
    → (to : Moments) × HasPassed a b here from_here to none once → (to : Moments) × HasPassed c d there from_there to once twice → AreLaid here there twice
AreLaid-made here there none once twice a b c d from_here from_there e p q r s f g (end_here, (laid_here, is_here, pass_here)) (end_there, (laid_there, is_there, pass_there)) = record {
  end_here = end_here;
  end_there = end_there;
  pieces_here = laid_here;
  pieces_there = laid_there;
  is = is_there ∙ ap (λ l. l ++ laid_there) (is_here ∙ ap (λ l. l ++ laid_here) e);
  pass_here = same_pass a _ b _ here from_here _ end_here laid_here p q f pass_here;
  pass_there = same_pass c _ d _ there from_there _ end_there laid_there r s g pass_there;
}
