use Rattle.std.proofs.Common.{rules, sym, ap, subst, ◌∙◌, AllPairs, IsPermutation, map, to_z, of_z}
use Rattle.std.specs.Int.{w128}
use Rattle.std.proofs.lemmas.Int.{to_z-of_z}
use Rattle.msp_pieces.specs.Divisor.{part_of, divided}
use Rattle.msp_pieces.specs.Settled.{IsReportedFirst}
use Rattle.msp_pieces.proofs.changes.SettledSchedules.{divisor_positive, IsSettling, settled, settled_from, settled_feasible, settled_cost, settled_within}
use Rattle.msp_pieces.proofs.settling.settle.Goals as goal

pub divide_all-requires-clause-some : goal.divide_all-requires-clause-some
divide_all-requires-clause-some c = divisor_positive _ _ _ c.requires.unit c.common_divisor-divisor.ensures

pub part-s-requires-clause-some : goal.part-s-requires-clause-some
part-s-requires-clause-some c = divisor_positive _ _ _ c.requires.unit c.common_divisor-divisor.ensures

settling : (c : goal.After-drop-s) → IsSettling c.args.s.now (record { unit = to_z w128 (of_z w128 c.part-s.result); pieces = c.from_vec.result }) c.common_divisor-divisor.result
settling c =
    let g = c.common_divisor-divisor.result in
    record {
      some_unit = c.requires.unit;
      spans = c.requires.span;
      common = c.common_divisor-divisor.ensures;
      unit_is = to_z-of_z w128 c.part-s.result (search rules) ∙ c.part-s.ensures ∙ ap (part_of g) (to_z-of_z w128 c.args.s.now.unit (search rules));
      moved = subst (λ l. IsPermutation l c.from_vec.result) (c.divide_all.ensures ∙ ap (map (divided g)) c.take_all-pieces.ensures.all)
          (subst (IsPermutation c.divide_all.new.pieces.items) (sym c.from_vec.ensures) c.sort_pieces.ensures.permutation);
      sorted = subst (AllPairs IsReportedFirst) (sym c.from_vec.ensures) c.sort_pieces.ensures.sorted;
    }

pub returns-clause-settled : goal.returns-clause-settled
returns-clause-settled c = settled _ _ _ (settling c)

pub returns-clause-kept : goal.returns-clause-kept
returns-clause-kept c = settled_from _ _ _ (settling c)

pub returns-clause-feasible : goal.returns-clause-feasible
returns-clause-feasible c = settled_feasible _ _ _ (settling c)

pub returns-clause-cost : goal.returns-clause-cost
returns-clause-cost c = settled_cost _ _ _ (settling c)

pub returns-clause-within : goal.returns-clause-within
returns-clause-within c = settled_within _ _ _ (settling c)
