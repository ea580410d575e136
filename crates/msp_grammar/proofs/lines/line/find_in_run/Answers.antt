-- The goals of `find_in_run` that are proved by lemmas.
use Rattle.std.proofs.Common.{◌==◌, ◌∙◌, Some, ap, eqb, w8, sym, arith}
use Rattle.std.proofs.lemmas.Simd.{bitmask_splat}
use Rattle.msp_grammar.specs.declared.lines.line.TheConstants.{RUN}
use Rattle.msp_grammar.proofs.reading.FirstSeparator.{no_lane, first_lane}
use Rattle.msp_grammar.proofs.lines.line.find_in_run.Goals as goal
use lib.Count.{count_trailing_zeros}

pub returns-then-hits-eq0 : goal.returns-then-hits-eq0
returns-then-hits-eq0 c =
    let bits = bitmask_splat w8 eqb c.args.run.now RUN c.args.separator c.told-run (omega arith) in
    no_lane (λ x. x == c.args.separator) c.args.run.now (sym bits ∙ c.if-hits-eq0.true)

pub returns : goal.returns
returns c =
    let bits = bitmask_splat w8 eqb c.args.run.now RUN c.args.separator c.told-run (omega arith) in
    ap (λ m. Some (count_trailing_zeros 64 m)) bits ∙ first_lane (λ x. x == c.args.separator) c.args.run.now (omega (arith, c.told-run)) (λ none. c.if-hits-eq0.false (bits ∙ none))
