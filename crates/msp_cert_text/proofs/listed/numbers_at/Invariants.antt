-- What holds in the loop of `numbers_at`.
use Rattle.std.proofs.Common.{◌≡◌, [], length, drop}
use Rattle.msp_cert_text.specs.Reading.{numbers_at}
use Rattle.msp_grammar.specs.lines.Steps.{place_of}
use Rattle.msp_cert_text.proofs.listed.numbers_at.Given as goal

-- what is left gives the answer of the whole
abbrev pub invariant-jobs : goal.invariant-jobs
invariant-jobs g l = (length l.numbers ≡ l.k)
    × (numbers_at g.T.Listed.reads l.word l.before l.numbers (drop l.k l.names) (place_of l.lines) ≡ numbers_at g.T.Listed.reads l.word l.before [] l.names (place_of l.initial.lines))
