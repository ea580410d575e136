-- The faults of the lines of a schedule.
use Rattle.std.proofs.Common.{◌≡◌, ◌⊎◌, inl, inr, ℕ, ap, sym, ◌==◌, List, [], length, None, Result, Ok, Err, bytes_eq, codes, ℤ, nat_lt, subst}
use Rattle.msp_class.specs.declared.sizes.TheConstants.{MOST_MACHINES, MOST_OPERATIONS, MOST_PIECES}
use Rattle.msp_pieces.specs.declared.Piece.{Piece}
use Rattle.msp_grammar.specs.declared.filed.Stated.{Stated}
use Rattle.msp_file.specs.schedule.Reading.{title_at, cost_at, unit_at, moment_at, span_at, place_at, piece_at, piece_line_at, piece_step, stated_at, ReadsSchedule}
use Rattle.msp_file.specs.schedule.Answers.{IsScheduleFault}
use Rattle.msp_grammar.specs.declared.lines.fault.FileFault.{FileFault}
use Rattle.msp_grammar.specs.declared.lines.fault.FileFault.TheVariants.{Class as ClassBroken, Cycle, Memory, After, Head, Missing, Cut, Line, Count, Key, Name, Number, Limit}
use Rattle.msp_grammar.specs.declared.lines.fault.FileFault.TheVariants.{Again, ArcAgain, Unknown}
use Rattle.msp_grammar.specs.declared.lines.fault.What.TheVariants as what
use Rattle.msp_grammar.specs.lines.Reading.{first_of, others_of, Place, line_at, fields_of, lines_from}
use Rattle.msp_grammar.proofs.reading.LineFaults.{IsPlainFault, IsPlain, fine, bad, chain, given, either, line_plain, word_plain, natural_plain, ordinal_plain, number_line_plain}
use Rattle.msp_grammar.proofs.reading.LineFaults.{known_plain, end_plain, lines_each, whole_in, whole_remembers, cost_plain}

unit : (p : Place) → IsPlain (unit_at p)
unfolding unit_at
unit p = chain _ _ (number_line_plain _ _ _ p) (λ u. fine _)

moment : (at : ℕ) (w : List ℕ) → IsPlain (moment_at at w)
unfolding moment_at
moment at w = chain _ _ (natural_plain at _ 0 _ w) (λ m. fine _)

span : (at : ℕ) (fields : List (List ℕ)) → IsPlain (span_at at fields)
unfolding span_at
span at fields = chain _ _ (moment at _) (λ from. chain _ _ (moment at _) (λ to. fine _))

piece_place : (at : ℕ) (fields : List (List ℕ)) → IsPlain (place_at at fields)
unfolding place_at
piece_place at fields = chain _ _ (ordinal_plain at _ MOST_OPERATIONS _) (λ op. chain _ _ (ordinal_plain at _ MOST_MACHINES _) (λ machine. fine _))

piece : (names : List (List ℕ)) (at : ℕ) (fields : List (List ℕ)) → IsPlain (piece_at names at fields)
unfolding piece_at
piece names at fields = chain _ _ (known_plain at names _) (λ job. chain _ _ (piece_place at _) (λ place. chain _ _ (span at _) (λ s. fine _)))

piece_line : (names : List (List ℕ)) (at : ℕ) (pieces : List Piece) (fields : List (List ℕ)) → IsPlain (piece_line_at names at pieces fields)
unfolding piece_line_at
piece_line names at pieces fields =
    given (nat_lt (length pieces) MOST_PIECES) (Limit at what.Pieces) _ tt (
    given (length fields == 5) (Count at) _ tt (chain _ _ (piece names at fields) (λ p. fine _)))

after_piece : (names : List (List ℕ)) (pieces : List Piece) (p : Place) → IsPlain (piece_step names pieces p)
unfolding piece_step
after_piece names pieces p =
    chain (line_at p) _ (line_plain p) (λ l.
    let fields = fields_of l.0 in
    either (bytes_eq (first_of fields) (codes "piece"))
    _ _ (chain (piece_line_at names p.at pieces (others_of fields)) _ (piece_line names p.at pieces (others_of fields)) (λ e. fine _)) (end_plain p.at pieces fields l.1))

stated : (names : List (List ℕ)) (p : Place) → IsPlain (stated_at names p)
unfolding stated_at
stated names p =
    chain (title_at p) _ (word_plain _ p) (λ q.
    chain (cost_at q) _ (cost_plain _ _ q) (λ x.
    chain (unit_at x.1) _ (unit x.1) (λ u.
    chain (lines_from (piece_step names) [] u.1) _ (lines_each (piece_step names) None (λ at. tt) (λ next h. h) (after_piece names) _ [] u.1) (λ l. fine _))))

plain_schedule : (e : FileFault) → IsPlainFault e → IsScheduleFault e
plain_schedule (ClassBroken fault name) h = h
plain_schedule (Cycle job name) h = h
plain_schedule (Head at) h = h
plain_schedule (Key at) h = h
plain_schedule (Again at) h = h
plain_schedule (ArcAgain at) h = h
plain_schedule _ h = tt

-- the faults of a schedule text
pub schedule_faults : (names : List (List ℕ)) (line : ℕ) (b : List ℕ) (e : FileFault) → ReadsSchedule names line b (Err e) → IsScheduleFault e
schedule_faults names line b e h = by (whole_in _ e (stated names (record { at = line; rest = b })) (sym h))
  where
    by : IsPlainFault e ⊎ ((at : ℕ) × (e ≡ After at)) → IsScheduleFault e
    by (inl k) = plain_schedule e k
    by (inr k) = subst IsScheduleFault (sym k.1) tt

-- reading gives no out of memory
pub schedule_remembers : (names : List (List ℕ)) (line : ℕ) (b : List ℕ) → ¬ ReadsSchedule names line b (Err Memory)
schedule_remembers names line b h = whole_remembers _ (stated names (record { at = line; rest = b })) (λ k. k) (sym h)
