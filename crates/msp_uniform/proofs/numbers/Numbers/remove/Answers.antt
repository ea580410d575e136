use Rattle.std.proofs.Common.{◌≡◌, ◌-◌, ◌<◌, ◌≤◌, length, take, ap, ◌∙◌, arith}
use Rattle.std.specs.Prelude.{remove}
use Rattle.std.proofs.lemmas.List.{length-take}
use Rattle.msp_class.specs.declared.sizes.TheConstants.{MOST_MACHINES}
use Rattle.msp_uniform.proofs.NumberFacts.{taken_out}
use Rattle.msp_uniform.proofs.numbers.Numbers.remove.Goals as goal

pub returns-clause-others : goal.returns-clause-others
returns-clause-others c =
    let all = c.self.inside.all in
    let count = c.self.inside.count in
    let now : take count all ≡ c.args.self.now = c.self.view_is in
    let few : count ≤ MOST_MACHINES = c.self.invariant in
    let inside : c.args.place < count = omega (arith, c.requires, ap length now, length-take count all) in
    ap (take (count - 1)) c.copy_within.ensures.after ∙ taken_out all count c.args.place inside (omega (arith, c.self.told, few)) ∙ ap (λ xs. remove xs c.args.place) now
