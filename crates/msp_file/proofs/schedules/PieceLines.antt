-- The lines after the unit: what is read are the pieces up to the end, and pieces are read as these.
use Rattle.std.proofs.Common.{◌≡◌, ℕ, ◌+◌, ◌<◌, ◌≤◌, Bool, true, false, ◌==◌, nat_lt, if◌then◌else◌, List, [], ◌∷◌, ◌++◌, length, None, Result, Ok}
use Rattle.std.proofs.Common.{All, bytes_eq, refl, sym, ap, subst, ◌∙◌, append_assoc, append-nil, length-append, arith, codes}
use Rattle.std.proofs.lemmas.Bool.{ltb-true, lt-ltb}
use Rattle.std.proofs.lemmas.List.{get_or_at}
use Rattle.std.proofs.lemmas.List.Elements.{All-push}
use Rattle.msp_class.specs.declared.sizes.TheConstants.{MOST_PIECES}
use Rattle.msp_pieces.specs.declared.Piece.{Piece}
use Rattle.msp_text.specs.JobName.{IsJobName, AreDistinct}
use Rattle.msp_text.proofs.NameLists.{same_bytes}
use Rattle.msp_grammar.specs.ScheduleText.{piece_line, piece_lines}
use Rattle.msp_grammar.specs.ScheduleText.{IsStatedPiece}
use Rattle.msp_grammar.specs.InstanceText.{line_text}
use Rattle.msp_grammar.specs.declared.lines.fault.FileFault.{FileFault}
use Rattle.msp_grammar.specs.declared.lines.fault.FileFault.TheVariants.{Count, Limit}
use Rattle.msp_grammar.specs.declared.lines.fault.What.TheVariants as what
use Rattle.msp_grammar.specs.lines.Reading.{◌>>=◌, Place, line_at, fields_of, first_of, others_of, LineRead, job_read, more_read}
use Rattle.msp_grammar.specs.lines.Reading.{end_read, end_at}
use Rattle.msp_file.specs.schedule.Reading.{piece_at, piece_line_at, piece_step}
use Rattle.msp_grammar.proofs.reading.LineLaws.{bind_ok, provided_ok, ok_is, bind_again, provided_again, Takes, Takes-then, fields_takes}
use Rattle.msp_grammar.proofs.reading.LineLaws.{line_then, end_text, end_field, end_takes}
use Rattle.msp_grammar.proofs.reading.Lines.{line_less, Follows, GetsLines, line_gets}
use Rattle.msp_file.proofs.schedules.PieceLaws.{piece_fields, piece_line_is, SaysPiece, piece_takes, piece_again, piece_line_fields}

-- What the line of a piece adds to the pieces.
record AddsPiece (names : List (List ℕ)) (pieces : List Piece) (fields : List (List ℕ)) (after : List Piece) : Type 0 where
  piece : Piece
  added : after ≡ pieces ++ piece ∷ []
  says : SaysPiece names fields piece
  few : length pieces < MOST_PIECES

piece_line_takes : (names : List (List ℕ)) (at : ℕ) (pieces : List Piece) (fields : List (List ℕ)) (after : List Piece)
    → piece_line_at names at pieces fields ≡ Ok after → AddsPiece names pieces fields after
unfolding piece_line_at
piece_line_takes names at pieces fields after e =
    let a = provided_ok (nat_lt (length pieces) MOST_PIECES) (Limit at what.Pieces) _ after e in
    let b = provided_ok (length fields == 5) (Count at) _ after a.1 in
    let p = bind_ok (piece_at names at fields) _ after b.1 in
    record { piece = p.0; added = sym (ok_is (pieces ++ p.0 ∷ []) after p.2); says = piece_takes names at fields p.0 b.0 p.1; few = ltb-true _ _ a.0 }

piece_line_again : (names : List (List ℕ)) (at : ℕ) (pieces : List Piece) (x : Piece) → AreDistinct names
    → All IsJobName names → IsStatedPiece names x → length pieces < MOST_PIECES → piece_line_at names at pieces (piece_fields names x) ≡ Ok (pieces ++ x ∷ [])
unfolding piece_line_at
piece_line_again names at pieces x apart spelled h few =
    provided_again (nat_lt (length pieces) MOST_PIECES) (Limit at what.Pieces) _ _ (lt-ltb (length pieces) MOST_PIECES few)
    (bind_again _ _ _ _ (piece_again names at x apart spelled h) refl)

-- What a line after the unit says.
abbrev TakesPiece : List (List ℕ) → List Piece → Place → LineRead (List Piece) → Type 0
TakesPiece names pieces p (job_read e q) = ⊥
TakesPiece names pieces p (more_read e q) = (fields : List (List ℕ)) × Takes p (line_text (codes "piece" ∷ fields)) q × AddsPiece names pieces fields e
TakesPiece names pieces p (end_read e q) = (e ≡ pieces) × Takes p end_text q

abbrev piece_or_end : List (List ℕ) → ℕ → List Piece → List (List ℕ) → Place → Result (LineRead (List Piece)) FileFault
piece_or_end names at pieces fields q =
    if bytes_eq (first_of fields) (codes "piece")
    then (piece_line_at names at pieces (others_of fields) >>= λ more. Ok (more_read more q))
    else end_at at pieces fields q

piece_or_end_takes : (names : List (List ℕ)) (at : ℕ) (pieces : List Piece) (fields : List (List ℕ)) (p q : Place) (next : LineRead (List Piece))
    → Takes p (line_text (first_of fields ∷ others_of fields)) q → piece_or_end names at pieces fields q ≡ Ok next → TakesPiece names pieces p next
piece_or_end_takes names at pieces fields p q next t = by (bytes_eq (first_of fields) (codes "piece")) refl
  where
    by : (b : Bool) → bytes_eq (first_of fields) (codes "piece") ≡ b
        → (if b then (piece_line_at names at pieces (others_of fields) >>= λ more. Ok (more_read more q)) else end_at at pieces fields q) ≡ Ok next → TakesPiece names pieces p next
    by true is e =
        let l = bind_ok (piece_line_at names at pieces (others_of fields)) _ next e in
        let line = subst (λ (w : List ℕ). Takes p (line_text (w ∷ others_of fields)) q) (same_bytes (first_of fields) (codes "piece") is) t in
        subst (TakesPiece names pieces p) (ok_is (more_read l.0 q) next l.2) (others_of fields, line, piece_line_takes names at pieces (others_of fields) l.0 l.1)
    by false is e = let l = end_takes at pieces fields p q next t e in subst (TakesPiece names pieces p) (sym l.0) (refl, l.1)

piece_step_takes : (names : List (List ℕ)) (pieces : List Piece) (p : Place) (next : LineRead (List Piece)) → piece_step names pieces p ≡ Ok next → TakesPiece names pieces p next
unfolding piece_step
piece_step_takes names pieces p next e =
    let l = bind_ok (line_at p) _ next e in
    piece_or_end_takes names p.at pieces (fields_of l.0.0) p l.0.1 next (fields_takes p l.0 l.1) l.2

-- Pieces of named jobs, as many as a text can have.
pub record ArePieces (names : List (List ℕ)) (pieces : List Piece) : Type 0 where
  pub few : length pieces ≤ MOST_PIECES
  pub stated : All (IsStatedPiece names) pieces

-- What the lines after the unit add to the pieces.
pub record AddsPieces (names : List (List ℕ)) (pieces : List Piece) (p : Place) (after : List Piece) (q : Place) : Type 0 where
  pub more : List Piece
  pub added : after ≡ pieces ++ more
  pub text : Takes p (piece_lines names more ++ end_text) q
  pub fit : ArePieces names after

then_pieces : (names : List (List ℕ)) (pieces : List Piece) (fields : List (List ℕ)) (e : List Piece) (p q : Place) (x : List Piece × Place)
    → Takes p (line_text (codes "piece" ∷ fields)) q → AddsPiece names pieces fields e → ArePieces names pieces
    → (ArePieces names e → AddsPieces names e q x.0 x.1) → AddsPieces names pieces p x.0 x.1
then_pieces names pieces fields e p q x t h fit rest =
    let line : Takes p (piece_line names h.piece) q = subst (λ (b : List ℕ). Takes p b q) (ap (λ (ws : List (List ℕ)). line_text (codes "piece" ∷ ws)) h.says.text ∙ piece_line_is names h.piece) t in
    let one : ArePieces names (pieces ++ h.piece ∷ []) =
    record { few = omega (arith, h.few, length-append pieces (h.piece ∷ [])); stated = All-push (IsStatedPiece names) pieces h.piece fit.stated h.says.stated } in
    let a = rest (subst (ArePieces names) (sym h.added) one) in
    record {
      more = h.piece ∷ a.more;
      added = a.added ∙ ap (λ (ps : List Piece). ps ++ a.more) h.added ∙ append_assoc pieces (h.piece ∷ []) a.more;
      text = subst (λ (b : List ℕ). p.rest ≡ b ++ x.1.rest) (sym (append_assoc (piece_line names h.piece) (piece_lines names a.more) end_text))
          (Takes-then p q x.1 (piece_line names h.piece) (piece_lines names a.more ++ end_text) line a.text);
      fit = a.fit;
    }

abbrev pub Pieces : List (List ℕ) → List Piece → Place → List Piece × Place → Type 0
Pieces names pieces p x = ArePieces names pieces → AddsPieces names pieces p x.0 x.1

pub pieces_on : (names : List (List ℕ)) (pieces : List Piece) (p : Place) (line : LineRead (List Piece)) (x : List Piece × Place)
    → piece_step names pieces p ≡ Ok line → Follows None (Pieces names) line x → Pieces names pieces p x
pieces_on names pieces p line x e = by line (piece_step_takes names pieces p line e)
  where
    by : (line : LineRead (List Piece)) → TakesPiece names pieces p line → Follows None (Pieces names) line x → Pieces names pieces p x
    by (job_read e q) t k fit = absurd t
    by (more_read e q) t k fit = then_pieces names pieces t.0 e p q x t.1 t.2 fit k
    by (end_read e q) t k fit = subst (λ (y : List Piece × Place). AddsPieces names pieces p y.0 y.1) (sym (k ∙ ap (λ (y : List Piece). (y, q)) t.0))
        (record { more = []; added = sym (append-nil pieces); text = t.1; fit = fit })

pub pieces_again : (more : List Piece) (names : List (List ℕ)) (pieces : List Piece) (at : ℕ) (rest : List ℕ) → AreDistinct names → All IsJobName names → ArePieces names (pieces ++ more)
    → GetsLines (piece_step names) None pieces (record { at = at; rest = (piece_lines names more ++ end_text) ++ rest }) (pieces ++ more) rest
unfolding piece_step
pieces_again [] names pieces at rest apart spelled fit =
    let l = line_then (piece_or_end names at pieces) at (codes "end") [] rest end_field in
    let q : Place = record { at = l.0; rest = rest } in
    subst (λ (ps : List Piece). GetsLines (piece_step names) None pieces (record { at = at; rest = end_text ++ rest }) ps rest)
    (sym (append-nil pieces)) (line_gets (piece_step names) None pieces _ (end_read pieces q) pieces rest l.1 (λ n enough. (l.0, refl)))
pieces_again (x ∷ more) names pieces at rest apart spelled fit =
    let within : length pieces < length (pieces ++ x ∷ more) = omega (arith, length-append pieces (x ∷ more)) in
    let stated : IsStatedPiece names x = subst (IsStatedPiece names) (get_or_at pieces x more x (length pieces) refl) (fit.stated (length pieces) x within) in
    let left = (piece_lines names more ++ end_text) ++ rest in
    let line = line_text (codes "piece" ∷ piece_fields names x) in
    let text : (piece_lines names (x ∷ more) ++ end_text) ++ rest ≡ line ++ left =
    ap (λ (b : List ℕ). b ++ rest) (append_assoc (piece_line names x) (piece_lines names more) end_text) ∙ append_assoc (piece_line names x) (piece_lines names more ++ end_text) rest
    ∙ ap (λ (b : List ℕ). b ++ left) (sym (piece_line_is names x)) in
    let l = line_then (piece_or_end names at pieces) at (codes "piece") (piece_fields names x) left (piece_line_fields names x spelled stated) in
    let q : Place = record { at = l.0; rest = left } in
    let one = piece_line_again names at pieces x apart spelled stated (omega (arith, fit.few)) in
    let g = pieces_again more names (pieces ++ x ∷ []) l.0 rest apart spelled (subst (ArePieces names) (sym (append_assoc pieces (x ∷ []) more)) fit) in
    let all = subst (λ (ps : List Piece). GetsLines (piece_step names) None (pieces ++ x ∷ []) q ps rest) (append_assoc pieces (x ∷ []) more) g in
    subst (λ (b : List ℕ). GetsLines (piece_step names) None pieces (record { at = at; rest = b }) (pieces ++ x ∷ more) rest) (sym text)
    (line_gets (piece_step names) None pieces (record { at = at; rest = line ++ left }) (more_read (pieces ++ x ∷ []) q) (pieces ++ x ∷ more) rest
    (l.1 ∙ ap (λ r. r >>= λ e. Ok (more_read e q)) one)
    (λ n enough. all n (let less = line_less (codes "piece" ∷ piece_fields names x) (record { at = at; rest = line ++ left }) q refl in omega arith)))
