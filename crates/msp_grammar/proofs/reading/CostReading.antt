-- How the parts of a cost are read.
use Rattle.std.proofs.Common.{◌≡◌, ℕ, ◌≤◌, ◌==◌, List, [], ◌∷◌, length, drop, Result, Ok, Err, ℤ, refl, sym, ap, ◌∙◌, arith}
use Rattle.std.specs.List.{slice_split}
use Rattle.std.proofs.lemmas.List.Splits.{length-slice_split}
use Rattle.msp_pieces.specs.declared.Frac.{Frac}
use Rattle.msp_text.specs.declared.number.Spelled.{Spelled}
use Rattle.msp_text.specs.Numbers.{capped}
use Rattle.msp_grammar.specs.lines.Answers.{Gives}
use Rattle.msp_grammar.specs.declared.lines.fault.FileFault.{FileFault}
use Rattle.msp_grammar.specs.declared.lines.fault.FileFault.TheVariants.{Number}
use Rattle.msp_grammar.specs.lines.Costs.{number_at, denominator_at, cost_of, cost_in}
use Rattle.msp_grammar.specs.lines.Steps.{spelled_as, parts_of, parts_after}

-- parts behind the denominator
too_many : (at : ℕ) (part : List ℕ) (parts : List (List ℕ)) → 1 ≤ length parts → denominator_at at (part ∷ parts) ≡ Err (Number at)
too_many at part [] h = absurd (omega arith)
too_many at part (other ∷ parts) h = refl

more_parts : (at : ℕ) (part rest : List ℕ) → 1 ≤ length rest → denominator_at at (part ∷ parts_after 47 rest) ≡ Err (Number at)
more_parts at part [] h = absurd (omega arith)
more_parts at part (slash ∷ bytes) h = too_many at part (slice_split (λ x. x == 47) bytes) (omega (arith, length-slice_split (λ x. x == 47) bytes))

pub no_denominator : (at : ℕ) (rest more part others : List ℕ) → 1 ≤ length rest → more ≡ drop 1 rest → slice_split (λ x. x == 47) more ≡ part ∷ parts_after 47 others → 1 ≤ length others
    → Err (Number at) ≡ spelled_as (denominator_at at (parts_after 47 rest))
no_denominator at [] more part others some is cut left = absurd (omega arith)
no_denominator at (slash ∷ bytes) more part others some is cut left =
    let parts : slice_split (λ x. x == 47) bytes ≡ part ∷ parts_after 47 others = ap (slice_split (λ x. x == 47)) (sym is) ∙ cut in
    sym (ap spelled_as (ap (denominator_at at) parts ∙ more_parts at part others left))

spelled_ok : (r : Result ℤ FileFault) (n : Spelled) → Ok n ≡ spelled_as r → (x : ℤ) × (r ≡ Ok x) × (n ≡ capped x)
spelled_ok (Ok x) n e = (x, refl, cc)
spelled_ok (Err d) n e = absurd cc

pub cost_done : (greatest at : ℕ) (field top rest : List ℕ) (n d : Spelled) (result : Result Frac FileFault)
    → slice_split (λ x. x == 47) field ≡ top ∷ parts_after 47 rest → Ok n ≡ spelled_as (number_at at top) → Ok d ≡ spelled_as (denominator_at at (parts_after 47 rest))
    → ((x y : ℤ) → n ≡ capped x → d ≡ capped y → Gives parts_of result (cost_of greatest at x y)) → Gives parts_of result (cost_in greatest at field)
unfolding cost_in
cost_done greatest at field top rest n d result cut e f h =
    let a = spelled_ok (number_at at top) n e in
    let b = spelled_ok (denominator_at at (parts_after 47 rest)) d f in
    rw (cut, a.1, b.1) (h a.0 b.0 a.2 b.2)

pub ruleset cost_rules = (cost_done)
