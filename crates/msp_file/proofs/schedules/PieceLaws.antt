-- The line of a piece: what is read is a piece, and a piece is read as it.
use Rattle.std.proofs.Common.{◌≡◌, ℕ, ◌+◌, ◌<◌, ◌≤◌, true, ◌==◌, List, [], ◌∷◌, length, Ok, ℤ, pos, negsuc, unsigned_abs}
use Rattle.std.proofs.Common.{All, refl, sym, ap, subst, ◌∙◌, append_assoc, arith, eqb-true, codes, decimal}
use Rattle.std.specs.Fmt.{signed_decimal}
use Rattle.std.specs.List.{AllByRecursion}
use Rattle.std.proofs.lemmas.Int.{ints}
use Rattle.msp_class.specs.declared.sizes.TheConstants.{MOST_MACHINES, MOST_OPERATIONS, GREATEST}
use Rattle.msp_pieces.specs.declared.limits.TheConstants.{GREATEST_MOMENT}
use Rattle.msp_pieces.specs.declared.Piece.{Piece}
use Rattle.msp_pieces.specs.Within.{IsMoment}
use Rattle.msp_text.specs.JobName.{IsJobName, AreDistinct}
use Rattle.msp_grammar.specs.ScheduleText.{name_at, piece_line}
use Rattle.msp_grammar.specs.ScheduleText.{IsStatedPiece}
use Rattle.msp_grammar.specs.InstanceText.{line_text}
use Rattle.msp_grammar.specs.declared.lines.fault.What.TheVariants as what
use Rattle.msp_grammar.specs.lines.Reading.{Place, first_of, others_of, natural_at, ordinal_at, known_at}
use Rattle.msp_file.specs.schedule.Reading.{moment_at, span_at, place_at, piece_at}
use Rattle.msp_grammar.proofs.reading.LineLaws.{bind_ok, ok_is, bind_again, IsField}
use Rattle.msp_grammar.proofs.reading.CostLaws.{plain_word, pair}
use Rattle.msp_grammar.proofs.reading.FieldLaws.{wide_takes, wide_again, wide_field, known_takes, known_again, name_field, ordinal_takes, ordinal_again}

moment_takes : (at : ℕ) (w : List ℕ) (m : ℤ) → moment_at at w ≡ Ok m → (w ≡ signed_decimal m) × IsMoment m
unfolding moment_at
moment_takes at w m e =
    let n = bind_ok (natural_at at what.Moment 0 (unsigned_abs GREATEST_MOMENT) w) _ m e in
    let t = wide_takes at what.Moment 0 (unsigned_abs GREATEST_MOMENT) w n.0 (omega arith) n.1 in
    let moment : IsMoment (pos n.0) = (omega (arith, ints), omega (arith, ints, t.2)) in
    subst (λ (y : ℤ). (w ≡ signed_decimal y) × IsMoment y) (ok_is (pos n.0) m n.2) (t.0, moment)

moment_again : (at : ℕ) (m : ℤ) → IsMoment m → moment_at at (signed_decimal m) ≡ Ok m
unfolding moment_at
moment_again at (pos n) h = bind_again _ _ _ _ (wide_again at what.Moment 0 (unsigned_abs GREATEST_MOMENT) n (omega arith) (omega arith) (omega (arith, ints, h.1))) refl
moment_again at (negsuc n) h = absurd (omega (arith, ints, h.0))

moment_field : (m : ℤ) → IsMoment m → IsField (signed_decimal m)
moment_field (pos n) h = let small : n ≤ unsigned_abs GREATEST_MOMENT = omega (arith, ints, h.1) in wide_field n (omega arith)
moment_field (negsuc n) h = absurd (omega (arith, ints, h.0))

-- The fields of a piece.
abbrev pub piece_fields : List (List ℕ) → Piece → List (List ℕ)
piece_fields names p = name_at names p.job ∷ decimal (p.op + 1) ∷ decimal (p.machine + 1) ∷ signed_decimal p.from ∷ signed_decimal p.to ∷ []

pub piece_line_is : (names : List (List ℕ)) (p : Piece) → line_text (codes "piece" ∷ piece_fields names p) ≡ piece_line names p
unfolding piece_line
piece_line_is names p = simp append_assoc

five_fields : (fields : List (List ℕ)) → (length fields == 5) ≡ true
    → fields ≡ first_of fields ∷ first_of (others_of fields) ∷ first_of (others_of (others_of fields))
    ∷ first_of (others_of (others_of (others_of fields))) ∷ first_of (others_of (others_of (others_of (others_of fields)))) ∷ []
five_fields (a ∷ b ∷ c ∷ d ∷ e ∷ []) h = refl
five_fields fields h = absurd (omega (arith, eqb-true (length fields) 5 h))

-- What the fields of a piece say.
pub record SaysPiece (names : List (List ℕ)) (fields : List (List ℕ)) (x : Piece) : Type 0 where
  pub text : fields ≡ piece_fields names x
  pub stated : IsStatedPiece names x

-- The place of a piece, as it is read.
abbrev read_place : ℕ → ℕ → List (List ℕ) → ℕ × ℕ × List (List ℕ)
read_place op machine rest = (op, machine, rest)

place_takes : (at : ℕ) (fields : List (List ℕ)) (x : ℕ × ℕ × List (List ℕ)) → place_at at fields ≡ Ok x
    → (first_of fields ≡ decimal (x.0 + 1)) × (first_of (others_of fields) ≡ decimal (x.1 + 1)) × (x.2 ≡ others_of (others_of fields)) × (x.0 < MOST_OPERATIONS) × (x.1 < MOST_MACHINES)
unfolding place_at
place_takes at fields x e =
    let op = bind_ok (ordinal_at at what.Place MOST_OPERATIONS (first_of fields)) _ x e in
    let machine = bind_ok (ordinal_at at what.Place MOST_MACHINES (first_of (others_of fields))) _ x op.2 in
    let a = ordinal_takes at what.Place MOST_OPERATIONS (first_of fields) op.0 (omega arith) op.1 in
    let b = ordinal_takes at what.Place MOST_MACHINES (first_of (others_of fields)) machine.0 (omega arith) machine.1 in
    let is : read_place op.0 machine.0 (others_of (others_of fields)) ≡ x = ok_is (read_place op.0 machine.0 (others_of (others_of fields))) x machine.2 in
    subst (λ (y : ℕ × ℕ × List (List ℕ)). (first_of fields ≡ decimal (y.0 + 1)) × (first_of (others_of fields) ≡ decimal (y.1 + 1))
    × (y.2 ≡ others_of (others_of fields)) × (y.0 < MOST_OPERATIONS) × (y.1 < MOST_MACHINES)) is (a.0, b.0, refl, a.1, b.1)

span_takes : (at : ℕ) (fields : List (List ℕ)) (x : ℤ × ℤ)
    → span_at at fields ≡ Ok x → (first_of fields ≡ signed_decimal x.0) × (first_of (others_of fields) ≡ signed_decimal x.1) × IsMoment x.0 × IsMoment x.1
unfolding span_at
span_takes at fields x e =
    let from = bind_ok (moment_at at (first_of fields)) _ x e in
    let to = bind_ok (moment_at at (first_of (others_of fields))) _ x from.2 in
    let a = moment_takes at (first_of fields) from.0 from.1 in
    let b = moment_takes at (first_of (others_of fields)) to.0 to.1 in
    subst (λ (y : ℤ × ℤ). (first_of fields ≡ signed_decimal y.0) × (first_of (others_of fields) ≡ signed_decimal y.1) × IsMoment y.0 × IsMoment y.1)
    (ok_is (pair from.0 to.0) x to.2) (a.0, b.0, a.1, b.1)

pub piece_takes : (names : List (List ℕ)) (at : ℕ) (fields : List (List ℕ)) (x : Piece) → (length fields == 5) ≡ true → piece_at names at fields ≡ Ok x → SaysPiece names fields x
unfolding piece_at
piece_takes names at fields x five e =
    let job = bind_ok (known_at at names (first_of fields)) _ x e in
    let place = bind_ok (place_at at (others_of fields)) _ x job.2 in
    let span = bind_ok (span_at at place.0.2) _ x place.2 in
    let named = known_takes at names (first_of fields) job.0 job.1 in
    let placed = place_takes at (others_of fields) place.0 place.1 in
    let spanned = span_takes at place.0.2 span.0 span.1 in
    let from : first_of (others_of (others_of (others_of fields))) ≡ signed_decimal span.0.0 = ap first_of (sym placed.2) ∙ spanned.0 in
    let to : first_of (others_of (others_of (others_of (others_of fields)))) ≡ signed_decimal span.0.1 = ap (λ (ws : List (List ℕ)). first_of (others_of ws)) (sym placed.2) ∙ spanned.1 in
    let made : Piece = record { job = job.0; op = place.0.0; machine = place.0.1; from = span.0.0; to = span.0.1 } in
    let says : SaysPiece names fields made = record {
      text = five_fields fields five ∙ cc (named.0, placed.0, placed.1, from, to);
      stated = record { job = named.1; op = placed.3; machine = placed.4; from = spanned.2; to = spanned.3 };
    } in
    subst (SaysPiece names fields) (ok_is made x span.2) says

place_again : (at op machine : ℕ) (rest : List (List ℕ)) → op < MOST_OPERATIONS → machine < MOST_MACHINES → place_at at (decimal (op + 1) ∷ decimal (machine + 1) ∷ rest) ≡ Ok (op, machine, rest)
unfolding place_at
place_again at op machine rest h k =
    bind_again _ _ _ _ (ordinal_again at what.Place MOST_OPERATIONS op (omega arith) h) (
    bind_again _ _ _ _ (ordinal_again at what.Place MOST_MACHINES machine (omega arith) k) refl)

span_again : (at : ℕ) (from to : ℤ) → IsMoment from → IsMoment to → span_at at (signed_decimal from ∷ signed_decimal to ∷ []) ≡ Ok (from, to)
unfolding span_at
span_again at from to h k =
    bind_again _ _ _ _ (moment_again at from h) (
    bind_again _ _ _ _ (moment_again at to k) refl)

pub piece_again : (names : List (List ℕ)) (at : ℕ) (x : Piece) → AreDistinct names → All IsJobName names → IsStatedPiece names x → piece_at names at (piece_fields names x) ≡ Ok x
unfolding piece_at
piece_again names at x apart spelled h =
    bind_again _ _ _ _ (known_again at names x.job apart spelled h.job) (
    bind_again _ _ _ _ (place_again at x.op x.machine (signed_decimal x.from ∷ signed_decimal x.to ∷ []) h.op h.machine) (
    bind_again _ _ _ _ (span_again at x.from x.to h.from h.to) refl))

small_ordinal : (k most : ℕ) → most ≤ GREATEST → k < most → IsField (decimal (k + 1))
small_ordinal k most h l = wide_field (k + 1) (omega arith)

pub piece_line_fields : (names : List (List ℕ)) (x : Piece) → All IsJobName names → IsStatedPiece names x → AllByRecursion IsField (codes "piece" ∷ piece_fields names x)
piece_line_fields names x spelled h = (
  plain_word (codes "piece") refl refl,
  (
    name_field _ (spelled x.job [] h.job),
    (small_ordinal x.op MOST_OPERATIONS (omega arith) h.op, (small_ordinal x.machine MOST_MACHINES (omega arith) h.machine, (moment_field x.from h.from, (moment_field x.to h.to, tt)))),
  ),
)
