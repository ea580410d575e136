use Rattle.std.proofs.Common.{◌+◌, ◌≤◌, ℕ, List, Some, length, take, sym, subst, ◌∙◌, arith}
use Rattle.std.proofs.lemmas.Bool.{false≢true}
use Rattle.std.proofs.lemmas.List.{length-take-le}
use Rattle.msp_cert.specs.declared.Proof.TheVariants.{Group}
use Rattle.msp_cert.specs.Search.{HasValue, IsFirst, groups}
use Rattle.msp_cert.proofs.Tried.{all_longest, none_placed, first_placed, no_groups}
use Rattle.msp_cert.proofs.search.group_with.Goals as goal

pub returns-then-not-has_related_machines : goal.returns-then-not-has_related_machines
returns-then-not-has_related_machines c = no_groups c.args.inst.now c.args.cost.now c.args.longest.now (λ h. false≢true (c.if-not-has_related_machines.ensures.1 h))

pub slice_bounds-from_slice-end : goal.slice_bounds-from_slice-end
slice_bounds-from_slice-end c =
    let b : c.in-Some.last + 1 ≤ length c.args.longest.now = omega (arith, all_longest c.args.inst.now c.args.longest.now c.requires.longest, c.in-Some.ensures.0) in
    omega (arith, b, length-take-le (c.in-Some.last + 1) c.args.longest.now b)

pub returns-in-Some : goal.returns-in-Some
returns-in-Some c =
    subst (λ (l : List ℕ). IsFirst (HasValue c.args.inst.now c.args.cost.now) (groups c.args.inst.now c.args.longest.now) (Some (Group l)))
    (sym (c.from_vec.ensures ∙ c.in_ok-jobs-in-Some.ensures.items))
    (first_placed (HasValue c.args.inst.now c.args.cost.now) (λ k. Group (take (k + 1) c.args.longest.now)) (length c.args.inst.now.jobs) c.in-Some.last c.in-Some.ensures)

pub returns : goal.returns
returns c = none_placed (HasValue c.args.inst.now c.args.cost.now) (λ k. Group (take (k + 1) c.args.longest.now)) (length c.args.inst.now.jobs) c.in-None.ensures
