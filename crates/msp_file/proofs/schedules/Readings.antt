-- The lines of a schedule are read in one way, and always to an end.
use Rattle.std.proofs.Common.{◌≡◌, ℕ, List, [], ℤ, Result, Ok, Err, refl, sym, ap, ◌∙◌, subst}
use Rattle.msp_grammar.specs.declared.limits.TheConstants.{GREATEST_COST}
use Rattle.msp_grammar.specs.declared.lines.fault.FileFault.{FileFault}
use Rattle.msp_grammar.specs.lines.Reading.{◌>>=◌, Place, lines_from, all_of}
use Rattle.msp_pieces.specs.declared.Frac.{Frac}
use Rattle.msp_pieces.specs.declared.Schedule.{Schedule}
use Rattle.std.proofs.Common.{codes}
use Rattle.msp_grammar.specs.declared.filed.Stated.{Stated}
use Rattle.msp_file.specs.schedule.Reading.{title_at, cost_at, unit_at, piece_step, said_of, stated_at, schedule_at, ReadsSchedule}
use Rattle.msp_grammar.proofs.reading.LineLaws.{bind_ok, provided_ok, ok_is}
use Rattle.msp_grammar.proofs.reading.Readings.{seen_is}
use Rattle.msp_grammar.proofs.reading.Fractions.{fraction_is, IsOfFraction, cost_is}

abbrev pub Said : Type 0
Said = (ℤ × ℤ) × Schedule

abbrev pub stated_by : Schedule → Frac → Stated
stated_by s x = record { schedule = s; cost = x }

stated_is : (s t : Stated) → said_of s ≡ said_of t → s ≡ t
stated_is s t e =
    ap (stated_by s.schedule) (fraction_is s.cost t.cost (ap (λ (y : Said). y.0.0) e) (ap (λ (y : Said). y.0.1) e))
    ∙ ap (λ (x : Schedule). stated_by x t.cost) (ap (λ (y : Said). y.1) e)

pub schedule_same : (names : List (List ℕ)) (line : ℕ) (b : List ℕ) (r s : Result Stated FileFault) → ReadsSchedule names line b r → ReadsSchedule names line b s → r ≡ s
schedule_same names line b r s h k = seen_is said_of stated_is r s (sym h ∙ k)

-- a cost that was read is a fraction
cost_read : (names : List (List ℕ)) (start : Place) (y : Said × Place) → stated_at names start ≡ Ok y → IsOfFraction y.0.0
unfolding stated_at
cost_read names start y e =
    let t = bind_ok (title_at start) _ y e in
    let c = bind_ok (cost_at t.0) _ y t.2 in
    let u = bind_ok (unit_at c.0.1) _ y c.2 in
    let p = bind_ok (lines_from (piece_step names) [] u.0.1) _ y u.2 in
    subst (λ (z : Said × Place). IsOfFraction z.0.0) (ok_is _ y p.2) (cost_is (codes "cost") GREATEST_COST t.0 c.0 c.1)

pub schedule_ends : (names : List (List ℕ)) (line : ℕ) (b : List ℕ) → (r : Result Stated FileFault) × ReadsSchedule names line b r
unfolding IsOfFraction
schedule_ends names line b = by (schedule_at names line b) refl
  where
    by : (r : Result Said FileFault) → schedule_at names line b ≡ r → (s : Result Stated FileFault) × ReadsSchedule names line b s
    by (Err e) is = (Err e, is)
    by (Ok y) is =
        let x = bind_ok (stated_at names (record { at = line; rest = b })) all_of y is in
        let f = cost_read names (record { at = line; rest = b }) x.0 x.1 in
        let same = ok_is x.0.0 y (provided_ok _ _ _ y x.2).1 in
        (Ok (stated_by x.0.0.1 f.0), is ∙ ap Ok (sym same ∙ ap (λ (c : ℤ × ℤ). (c, x.0.0.1)) (sym f.1)))
