-- Schedule texts: what is read is a text of its schedule, and a text of a schedule is read as it.
use Rattle.std.proofs.Common.{◌≡◌, ℕ, ◌+◌, List, [], ◌∷◌, ◌++◌, None, Result, Ok, Err, ℤ, pos, negsuc, unsigned_abs}
use Rattle.std.proofs.Common.{All, refl, sym, ap, subst, ◌∙◌, append_assoc, append-nil, arith, eqb-true, codes}
use Rattle.std.specs.Fmt.{signed_decimal}
use Rattle.std.specs.Result.{IfErr}
use Rattle.std.proofs.lemmas.Int.{ints}
use Rattle.std.proofs.lemmas.List.{nil_from_length}
use Rattle.std.proofs.lemmas.List.Elements.{All-nil}
use Rattle.msp_class.specs.declared.sizes.TheConstants.{GREATEST_UNIT}
use Rattle.msp_pieces.specs.declared.Piece.{Piece}
use Rattle.msp_pieces.specs.declared.Frac.{Frac}
use Rattle.msp_pieces.specs.declared.Schedule.{Schedule}
use Rattle.msp_pieces.specs.Within.{IsUnit}
use Rattle.msp_text.specs.JobName.{IsJobName, AreDistinct}
use Rattle.msp_grammar.specs.declared.limits.TheConstants.{GREATEST_COST}
use Rattle.msp_grammar.specs.ScheduleText.{line_feed, IsFractionText, piece_lines, cost_line, unit_line, stated_text, schedule_text, IsStatedCost}
use Rattle.msp_grammar.specs.ScheduleText.{IsStatedPiece, IsStated, IsScheduleText}
use Rattle.msp_grammar.specs.InstanceText.{line_text}
use Rattle.msp_grammar.specs.lines.Answers.{Fails, Gives}
use Rattle.msp_grammar.specs.declared.lines.fault.FileFault.{FileFault}
use Rattle.msp_grammar.specs.declared.lines.fault.FileFault.TheVariants.{Memory}
use Rattle.msp_grammar.specs.declared.lines.fault.What.TheVariants as what
use Rattle.msp_grammar.specs.declared.filed.Stated.{Stated}
use Rattle.msp_grammar.specs.lines.Reading.{◌>>=◌, Place, number_line_at}
use Rattle.msp_grammar.specs.lines.Reading.{lines_from, all_of}
use Rattle.msp_file.specs.schedule.Reading.{title_at, cost_at, unit_at, piece_step, said_of, stated_at, schedule_at, ReadsSchedule}
use Rattle.msp_grammar.proofs.PrintLemmas.{printed}
use Rattle.msp_file.specs.schedule.Answers.{IsScheduleFaultOf, IsScheduleFault}
use Rattle.msp_grammar.specs.lines.Steps.{parts_of}
use Rattle.msp_file.proofs.schedules.LineFaults.{schedule_faults}
use Rattle.msp_file.proofs.schedules.Readings.{Said, stated_by, schedule_same}
use Rattle.msp_grammar.proofs.reading.LineLaws.{bind_ok, provided_ok, reads, ok_is, bind_again, Takes, Gets, Takes-then, word_line_takes}
use Rattle.msp_grammar.proofs.reading.LineLaws.{word_line_again, end_text, spread}
use Rattle.msp_grammar.proofs.reading.CostLaws.{plain_word, IsCostWithin, with_place, cost_line_takes, cost_line_again}
use Rattle.msp_grammar.proofs.reading.FieldLaws.{number_line_takes, number_line_again}
use Rattle.msp_grammar.proofs.reading.Lines.{lines_take}
use Rattle.msp_file.proofs.schedules.PieceLines.{ArePieces, Pieces, pieces_on, pieces_again}

-- ---- the cost

within : (x : Frac) → IsStatedCost x → IsCostWithin GREATEST_COST x
within x h = record { num = h.num; den = h.den }

stated_cost : (x : Frac) → IsCostWithin GREATEST_COST x → IsStatedCost x
stated_cost x h = record { num = h.num; den = h.den }

cost_again : (at : ℕ) (w : List ℕ) (x : Frac) (rest : List ℕ) → IsFractionText x w → IsStatedCost x → Gets (cost_at (record { at = at; rest = cost_line w ++ rest })) (parts_of x) rest
unfolding cost_line
cost_again at w x rest is h = cost_line_again GREATEST_COST (omega arith) (codes "cost") at w x rest (plain_word (codes "cost") refl refl) is (within x h)

cost_text : (p q : Place) (w : List ℕ) → Takes p (line_text (codes "cost" ∷ w ∷ [])) q → Takes p (cost_line w) q
unfolding cost_line
cost_text p q w t = t

-- ---- the unit

unit_takes : (p : Place) (u : ℤ) (q : Place) → unit_at p ≡ Ok (u, q) → Takes p (unit_line u) q × IsUnit u
unfolding unit_at unit_line
unit_takes p u q e =
    let last : ℤ × Place = (u, q) in
    let n = bind_ok (number_line_at (codes "unit") what.Unit (unsigned_abs GREATEST_UNIT) p) _ last e in
    let t = number_line_takes (codes "unit") what.Unit (unsigned_abs GREATEST_UNIT) p n.0 (omega arith) n.1 in
    let read : ℤ × Place = (pos n.0.0, n.0.1) in
    let both : read ≡ last = ok_is read last n.2 in
    let unit : IsUnit (pos n.0.0) = (omega (arith, ints, t.1.0), omega (arith, ints, t.1.1)) in
    subst (λ (y : ℤ × Place). Takes p (codes "unit " ++ signed_decimal y.0 ++ line_feed) y.1 × IsUnit y.0) both (t.0, unit)

unit_again : (at : ℕ) (u : ℤ) (rest : List ℕ) → IsUnit u → Gets (unit_at (record { at = at; rest = unit_line u ++ rest })) u rest
unfolding unit_at unit_line
unit_again at (pos n) rest h =
    let line = number_line_again (codes "unit") what.Unit
    (unsigned_abs GREATEST_UNIT) at n rest (plain_word (codes "unit") refl refl) (omega arith) (omega (arith, ints, h.0)) (omega (arith, ints, h.1)) in
    (line.0, rw line.1 refl)
unit_again at (negsuc n) rest h = absurd (omega (arith, ints, h.0))

-- ---- the whole

-- What the lines of a schedule text say.
record SaysStated (names : List (List ℕ)) (start : Place) (x : Stated) (q : Place) : Type 0 where
  spelling : List ℕ
  spells : IsFractionText x.cost spelling
  text : Takes start (stated_text spelling names x.schedule) q
  stated : IsStated names x.schedule x.cost

no_pieces : (names : List (List ℕ)) → ArePieces names []
no_pieces names = record { few = omega arith; stated = All-nil (IsStatedPiece names) }

-- A schedule by its unit and its pieces.
abbrev schedule_by : ℤ → List Piece → Schedule
schedule_by unit pieces = record { unit = unit; pieces = pieces }

abbrev said_at : (ℤ × ℤ) → Schedule → Place → Said × Place
said_at x s q = ((x, s), q)

stated_takes : (names : List (List ℕ)) (start : Place) (x : Stated) (q : Place) → stated_at names start ≡ Ok (said_at (parts_of x.cost) x.schedule q) → SaysStated names start x q
unfolding stated_at
stated_takes names start x q h =
    let last = said_at (parts_of x.cost) x.schedule q in
    let t = bind_ok (title_at start) _ last h in
    let c = bind_ok (cost_at t.0) _ last t.2 in
    let u = bind_ok (unit_at c.0.1) _ last c.2 in
    let l = bind_ok (lines_from (piece_step names) [] u.0.1) _ last u.2 in
    let both = ok_is (said_at c.0.0 (schedule_by u.0.0 l.0.0) l.0.1) last l.2 in
    let a = lines_take (piece_step names) None (Pieces names) (pieces_on names) _ [] u.0.1 l.0 l.1 (no_pieces names) in
    let cost = cost_line_takes GREATEST_COST (omega arith) (codes "cost") t.0 x.cost c.0.1 (c.1 ∙ ap (λ (y : Said × Place). reads (with_place y.0.0 c.0.1)) both) in
    let unit = unit_takes c.0.1 u.0.0 u.0.1 u.1 in
    let two = Takes-then start t.0 c.0.1 (codes "schedule\n") (cost_line cost.spelling) (word_line_takes (codes "schedule") start t.0 t.1) (cost_text t.0 c.0.1 cost.spelling cost.text) in
    let three = Takes-then start c.0.1 u.0.1 (codes "schedule\n" ++ cost_line cost.spelling) (unit_line u.0.0) two unit.0 in
    let four = Takes-then start u.0.1 l.0.1 (codes "schedule\n" ++ cost_line cost.spelling ++ unit_line u.0.0) (piece_lines names a.more ++ end_text) three a.text in
    let whole : Takes start (stated_text cost.spelling names (schedule_by u.0.0 a.more)) l.0.1 =
    subst (λ (b : List ℕ). Takes start b l.0.1) (sym (append_assoc (codes "schedule\n" ++ cost_line cost.spelling ++ unit_line u.0.0) (piece_lines names a.more) end_text)) four in
    let fit : ArePieces names a.more = subst (ArePieces names) a.added a.fit in
    let is : schedule_by u.0.0 a.more ≡ x.schedule = ap (schedule_by u.0.0) (sym a.added) ∙ ap (λ (y : Said × Place). y.0.1) both in
    record {
      spelling = cost.spelling;
      spells = cost.spells;
      text = subst (λ (p : Place). Takes start (stated_text cost.spelling names x.schedule) p)
          (ap (λ (y : Said × Place). y.1) both) (subst (λ (s : Schedule). Takes start (stated_text cost.spelling names s) l.0.1) is whole);
      stated = subst (λ (s : Schedule). IsStated names s x.cost) is (record { cost = stated_cost x.cost cost.range; unit = unit.1; few = fit.few; pieces = fit.stated });
    }

pub schedule_taken : (names : List (List ℕ)) (line : ℕ) (b : List ℕ) (s : Stated) → ReadsSchedule names line b (Ok s) → IsScheduleText b names s.schedule s.cost
schedule_taken names line b s h =
    let start : Place = record { at = line; rest = b } in
    let x = bind_ok (stated_at names start) all_of (said_of s) h in
    let g = provided_ok _ _ _ (said_of s) x.2 in
    let same = ok_is x.0.0 (said_of s) g.1 in
    let says = stated_takes names start s x.0.1 (x.1 ∙ ap (λ (y : Said). reads (said_at y.0 y.1 x.0.1)) same) in
    let nothing : x.0.1.rest ≡ [] = nil_from_length x.0.1.rest (eqb-true _ _ g.0) in
    let text = stated_text says.spelling names s.schedule in
    record { spelling = says.spelling; spells = says.spells; text = says.text ∙ ap (λ (r : List ℕ). text ++ r) nothing ∙ append-nil text; stated = says.stated }

stated_again : (names : List (List ℕ)) (at : ℕ) (spelling : List ℕ) (s : Schedule) (x : Frac) (rest : List ℕ) → All IsJobName names → AreDistinct names → IsFractionText x spelling → IsStated names s x
    → Gets (stated_at names (record { at = at; rest = stated_text spelling names s ++ rest })) (parts_of x, s) rest
unfolding stated_at
stated_again names at spelling s x rest spelled apart spells h =
    let pieces = piece_lines names s.pieces in
    let lines = (pieces ++ end_text) ++ rest in
    let title = codes "schedule\n" in
    let cost = cost_line spelling in
    let unit = unit_line s.unit in
    let text : stated_text spelling names s ++ rest ≡ title ++ (cost ++ (unit ++ lines)) =
    spread title cost unit pieces end_text rest ∙ ap (λ (b : List ℕ). title ++ (cost ++ (unit ++ b))) (sym (append_assoc pieces end_text rest)) in
    let t = word_line_again (codes "schedule") at (cost ++ (unit ++ lines)) (plain_word (codes "schedule") refl refl) in
    let c = cost_again t.0 spelling x (unit ++ lines) spells h.cost in
    let u = unit_again c.0 s.unit lines h.unit in
    let p = pieces_again s.pieces names [] u.0 rest apart spelled (record { few = h.few; stated = h.pieces }) _ (omega arith) in (
      p.0,
      bind_again _ _ _ _ (ap (λ (b : List ℕ). title_at (record { at = at; rest = b })) text ∙ t.1) (
          bind_again _ _ _ _ c.1 (
          bind_again _ _ _ _ u.1 (
          bind_again _ _ _ _ p.1 refl))),
    )

pub schedule_again : (names : List (List ℕ)) (line : ℕ) (b : List ℕ) (s : Schedule) (x : Frac)
    → All IsJobName names → AreDistinct names → IsScheduleText b names s x → ReadsSchedule names line b (Ok (record { schedule = s; cost = x }))
schedule_again names line b s x spelled apart h =
    let g = stated_again names line h.spelling s x [] spelled apart h.spells h.stated in
    let text : b ≡ stated_text h.spelling names s ++ [] = h.text ∙ sym (append-nil (stated_text h.spelling names s)) in
    ap (λ (t : List ℕ). stated_at names (record { at = line; rest = t }) >>= all_of) text ∙ bind_again _ all_of _ _ g.1 refl

pub printed_again : (names : List (List ℕ)) (line : ℕ) (s : Schedule) (x : Frac)
    → All IsJobName names → AreDistinct names → IsStated names s x → ReadsSchedule names line (schedule_text names s x) (Ok (record { schedule = s; cost = x }))
printed_again names line s x spelled apart h = schedule_again names line (schedule_text names s x) s x spelled apart (printed names s x (schedule_text names s x) h refl)

-- ---- the reader

pub schedule_fault_of : (names : List (List ℕ)) (line : ℕ) (b : List ℕ) (e : FileFault) → Fails e (schedule_at names line b) → IsScheduleFaultOf names line b e
schedule_fault_of names line b Memory h = tt
schedule_fault_of names line b e h = h

pub no_schedule_fault : (names : List (List ℕ)) (line : ℕ) (b : List ℕ) (e : FileFault) → All IsJobName names
    → AreDistinct names → IsScheduleFaultOf names line b e → (s : Schedule) (x : Frac) → IsScheduleText b names s x → Fails e (reads (stated_by s x))
no_schedule_fault names line b Memory spelled apart k s x h = tt
no_schedule_fault names line b e spelled apart k s x h = schedule_same names line b (reads (stated_by s x)) (Err e) (schedule_again names line b s x spelled apart h) k

-- what is answered to the text of a schedule
pub schedule_answered : (names : List (List ℕ)) (line : ℕ) (b : List ℕ) (r : Result Stated FileFault) → All IsJobName names → AreDistinct names
    → Gives said_of r (schedule_at names line b) → (s : Schedule) (x : Frac) → IsScheduleText b names s x → Gives (λ f. f) r (reads (stated_by s x))
schedule_answered names line b (Ok f) spelled apart k s x h = schedule_same names line b (reads (stated_by s x)) (Ok f) (schedule_again names line b s x spelled apart h) k
schedule_answered names line b (Err e) spelled apart k s x h = no_schedule_fault names line b e spelled apart (schedule_fault_of names line b e k) s x h

-- the faults that are answered
pub schedule_faults_answered : (names : List (List ℕ)) (line : ℕ) (b : List ℕ) (r : Result Stated FileFault) → Gives said_of r (schedule_at names line b) → IfErr r (λ e. IsScheduleFault e)
schedule_faults_answered names line b (Ok f) k = tt
schedule_faults_answered names line b (Err Memory) k = tt
schedule_faults_answered names line b (Err e) k = schedule_faults names line b e k

pub ruleset schedule_rules = (schedule_fault_of, schedule_taken)
