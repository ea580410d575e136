use Rattle.std.proofs.Common.{◌≡◌, ◌∙◌, ap₂, sym, subst, subst₂, All}
use Rattle.std.specs.Int.{w64}
use Rattle.std.proofs.lemmas.Bool.{false≢true}
use Rattle.std.proofs.lemmas.Int.{to_z-of_z}
use Rattle.msp_threshold.specs.Squeezed.{HasTime, squeezed_by, CanBeFree}
use Rattle.msp_threshold.proofs.Facts.{IsLatenessShop-from}
use Rattle.msp_threshold.proofs.Law.{free_if_met}
use Rattle.msp_threshold.proofs.BackMeets.{met_if_free, time_if_met}
use Rattle.msp_threshold.proofs.squeezing.squeezed.Goals as goal

pub returns-then-not-all_have_time-clause-law : goal.returns-then-not-all_have_time-clause-law
returns-then-not-all_have_time-clause-law c met =
    let i = c.args.inst.now in
    let time = time_if_met i (IsLatenessShop-from i c.requires.class c.requires.inner) c.args.bound met in
    false≢true (sym c.if-not-all_have_time.true ∙ c.all_have_time.ensures.1 (subst₂ (λ b js. All (HasTime b) js) (sym (to_z-of_z w64 c.args.bound c.ranges.bound)) (sym c.as_slice.ensures) time))

lower_is : (c : goal.After-drop-kept-2) → c.in_ok-lower.lower ≡ squeezed_by c.in_ok-kept.kept.items c.args.bound c.args.inst.now
lower_is c = c.in_ok-lower.ensures.value ∙ ap₂ (λ k b. squeezed_by k b c.args.inst.now) c.as_slice-2.ensures.value (to_z-of_z w64 c.args.bound c.ranges.bound)

pub returns-clause-law : goal.returns-clause-law
returns-clause-law c =
    let i = c.args.inst.now in
    let t = IsLatenessShop-from i c.requires.class c.requires.inner in
    let possible = subst₂ (λ b js. All (HasTime b) js) (to_z-of_z w64 c.args.bound c.ranges.bound) c.as_slice.ensures (c.all_have_time.ensures.0 c.if-not-all_have_time.false) in (
      (λ f. met_if_free i t c.in_ok-kept.kept.items c.in_ok-kept.ensures.kept c.args.bound c.requires.bound possible (subst CanBeFree (lower_is c) f)),
      (λ m. subst CanBeFree (sym (lower_is c)) (free_if_met i t c.in_ok-kept.kept.items c.in_ok-kept.ensures.kept c.args.bound m)),
    )
