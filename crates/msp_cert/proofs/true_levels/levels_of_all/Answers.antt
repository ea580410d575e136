use Rattle.std.proofs.Common.{◌∙◌, ◌<◌, List, ℕ, length, All, IsPermutation, sym, subst}
use Rattle.msp_instance.specs.declared.Arc.{Arc}
use Rattle.msp_cert.specs.Certificates.{of_job}
use Rattle.msp_cert.proofs.TrueLevels.{all_levels, arcs_inside, arcs_fall}
use Rattle.msp_cert.proofs.true_levels.levels_of_all.Goals as goal

pub put_levels-requires-clause-inside : goal.put_levels-requires-clause-inside
put_levels-requires-clause-inside c =
    let same : IsPermutation c.args.inst.now.arcs c.in_ok-sorted.sorted.items = subst (λ (l : List Arc). IsPermutation l c.in_ok-sorted.sorted.items) c.as_slice.ensures c.in_ok-sorted.ensures.same in
    subst (λ (l : List Arc). All (λ a. a.before < length c.in_ok-level.level.items) l)
    (sym c.as_slice-3.ensures.value) (arcs_inside c.args.inst.now _ _ (c.in_ok-level.ensures.len ∙ c.len.ensures) c.requires.conditions.ends same)

pub put_levels-requires-clause-falls : goal.put_levels-requires-clause-falls
put_levels-requires-clause-falls c =
    let same : IsPermutation c.args.inst.now.arcs c.in_ok-sorted.sorted.items = subst (λ (l : List Arc). IsPermutation l c.in_ok-sorted.sorted.items) c.as_slice.ensures c.in_ok-sorted.ensures.same in
    subst (λ (l : List Arc). All (λ a. of_job c.as_slice-4.result.now a.after < of_job c.as_slice-4.result.now a.before) l) (sym c.as_slice-3.ensures.value)
    (subst (λ (h : List ℕ). All (λ a. of_job h a.after < of_job h a.before) c.in_ok-sorted.sorted.items) (sym c.as_slice-4.ensures.value) (arcs_fall c.args.inst.now _ _ c.in_ok-heights.ensures same))

pub returns : goal.returns
returns c =
    let same : IsPermutation c.args.inst.now.arcs c.in_ok-sorted.sorted.items = subst (λ (l : List Arc). IsPermutation l c.in_ok-sorted.sorted.items) c.as_slice.ensures c.in_ok-sorted.ensures.same in
    all_levels c.args.inst.now c.as_slice-3.result.now c.put_levels.new.level.items (c.put_levels.ensures.len ∙ c.in_ok-level.ensures.len ∙ c.len.ensures)
    (subst (IsPermutation c.args.inst.now.arcs) (sym c.as_slice-3.ensures.value) same) c.put_levels.ensures.levels
