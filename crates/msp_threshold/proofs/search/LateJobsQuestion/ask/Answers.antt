use Rattle.std.proofs.Common.{rules, All, to_z, of_z, ap, ◌∙◌, sym, subst}
use Rattle.std.specs.Prelude.{IfSome, MatchOption, ◌↔◌}
use Rattle.std.specs.Int.{w64, w128}
use Rattle.std.proofs.lemmas.Bool.{false≢true}
use Rattle.msp_instance.specs.Conditions.{InClass, LiesWithin}
use Rattle.msp_instance.proofs.Limits.{Inner-from_class}
use Rattle.msp_threshold.specs.Squeezed.{greatest_bound, HasTime, IsSqueezed, CanMeet, CanBeFree}
use Rattle.msp_threshold.proofs.Bounds.{some_value, free_by_cost, zero_test, narrow_is}
use Rattle.msp_threshold.proofs.search.LateJobsQuestion.ask.Goals as goal

pub squeezed-requires-clause-bound : goal.squeezed-requires-clause-bound
squeezed-requires-clause-bound g c = subst (LiesWithin greatest_bound) (sym (narrow_is c.args.bound c.requires.bound)) c.requires.bound

pub returns-in-None : goal.returns-in-None
returns-in-None g c =
    let i = c.args.self.now.inst.now in
    let b = to_z w64 (of_z w64 (to_z w128 (of_z w128 c.args.bound))) in
    let none = subst (λ o. MatchOption o (CanMeet i b → ⊥) (λ l. CanBeFree l ↔ CanMeet i b)) c.in-None.is c.in_ok-squeezed.ensures.law in
    ((λ e. absurd (false≢true e)), (λ m. absurd (none (subst (CanMeet i) (sym (narrow_is c.args.bound c.requires.bound)) m))))

pub solve-requires-clause-inner : goal.solve-requires-clause-inner
solve-requires-clause-inner g c = Inner-from_class c.in-Some.lower (subst (λ o. IfSome o InClass) c.in-Some.is c.in_ok-squeezed.ensures.inside)

pub solve-requires-clause-class : goal.solve-requires-clause-class
solve-requires-clause-class g c =
    let i = c.args.self.now.inst.now in
    let b = to_z w64 (of_z w64 (to_z w128 (of_z w128 c.args.bound))) in
    let squeezed = some_value (All (HasTime b) i.jobs → ⊥) (IsSqueezed i b) c.in_ok-squeezed.field-0 c.in-Some.lower c.in-Some.is c.in_ok-squeezed.ensures.value in
    ap (λ l. l.class) squeezed.value ∙ sym c.requires.asked.solves

pub solve-requires-clause-fits : goal.solve-requires-clause-fits
solve-requires-clause-fits g c =
    let i = c.args.self.now.inst.now in
    let b = to_z w64 (of_z w64 (to_z w128 (of_z w128 c.args.bound))) in
    c.requires.asked.fits b c.in-Some.lower (subst (LiesWithin greatest_bound) (sym (narrow_is c.args.bound c.requires.bound)) c.requires.bound)
    (some_value (All (HasTime b) i.jobs → ⊥) (IsSqueezed i b) c.in_ok-squeezed.field-0 c.in-Some.lower c.in-Some.is c.in_ok-squeezed.ensures.value)

pub returns-in_ok-solution-in-Some : goal.returns-in_ok-solution-in-Some
returns-in_ok-solution-in-Some g c =
    let i = c.args.self.now.inst.now in
    let b = to_z w64 (of_z w64 (to_z w128 (of_z w128 c.args.bound))) in
    let lower = c.in-Some.lower in
    let s = c.in_ok-solution-in-Some.solution in
    let squeezed = some_value (All (HasTime b) i.jobs → ⊥) (IsSqueezed i b) c.in_ok-squeezed.field-0 lower c.in-Some.is c.in_ok-squeezed.ensures.value in
    let test = zero_test s.cost.num (search rules) in
    let free = free_by_cost lower (ap (λ l. l.class.crit) squeezed.value) s.schedule c.in_ok-solution-in-Some.ensures.best.best s.cost c.in_ok-solution-in-Some.ensures.best.cost in
    let law = subst (λ x. CanBeFree lower ↔ CanMeet i x) (narrow_is c.args.bound c.requires.bound)
    (some_value (CanMeet i b → ⊥) (λ l. CanBeFree l ↔ CanMeet i b) c.in_ok-squeezed.field-0 lower c.in-Some.is c.in_ok-squeezed.ensures.law) in
    ((λ e. law.0 (free.0 (test.0 e))), (λ m. test.1 (free.1 (law.1 m))))
