-- Steps of the loops that lay jobs on machines.
use Rattle.std.proofs.Common.{◌≡◌, ℕ, ◌+◌, ◌*◌, ◌<◌, ◌≤◌, ◌^◌, Bool, true, false, cond, eqb, List, [], ◌∷◌, ◌++◌, length, get_or, take, drop, set, All, refl, sym, ap, subst, ◌∙◌, arith}
use Rattle.std.specs.Prelude.{slice_index_or}
use Rattle.std.proofs.lemmas.Bool.{eqb-true, eqb-false}
use Rattle.std.proofs.lemmas.Grind.{get_or-set_at}
use Rattle.std.proofs.lemmas.List.{drop_more, drop_all, append-nil, get_or-set_other, length-take, length-drop, get_or-drop, append_assoc}
use Rattle.std.proofs.lemmas.List.Elements.{All-take}
use Rattle.msp_class.specs.declared.sizes.TheConstants.{MOST_JOBS, MOST_MACHINES}
use Rattle.msp_class.proofs.Sums.{cond-yes, cond-no, sum_by-take_more}
use Rattle.msp_pieces.specs.declared.Piece.{Piece}
use Rattle.msp_total.specs.declared.lay.Place.{Place}
use Rattle.msp_total.specs.Places.{no_place, ArePlaces, time_on, piece_until, laid}
use Rattle.msp_total.proofs.LaidJobs.{time_on-cons, time_on-own, time_on-most}

-- the numbers of a list are those of a function, machine by machine
abbrev pub AreTimes : List ℕ → List Place → Type 0
AreTimes times places = (m : ℕ) → m < MOST_MACHINES → slice_index_or times m 0 ≡ time_on m places

-- ---- one place more
time_on-next : (m k : ℕ) (places : List Place) → k < length places
    → time_on m (take (k + 1) places) ≡ time_on m (take k places) + cond (eqb (get_or places k no_place).machine m) (get_or places k no_place).length 0
time_on-next m k places l = sum_by-take_more (λ p. cond (eqb p.machine m) p.length 0) places k no_place l

pub times-next : (places : List Place) (k : ℕ) (p : Place) (old : List ℕ) (long : ℕ)
    → k < length places → p ≡ get_or places k no_place → p.machine < length old → p.machine < MOST_MACHINES → long ≡ p.length
    → AreTimes old (take k places) → AreTimes (set old p.machine (slice_index_or old p.machine 0 + long)) (take (k + 1) places)
times-next places k p old long l is inside small e so_far m h =
    ap (λ x. slice_index_or (set old p.machine (slice_index_or old p.machine 0 + x)) m 0) e
    ∙ by (eqb p.machine m) refl ∙ sym (time_on-next m k places l ∙ ap (λ q. time_on m (take k places) + cond (eqb q.machine m) q.length 0) (sym is))
  where
    by : (b : Bool) → eqb p.machine m ≡ b → slice_index_or (set old p.machine (slice_index_or old p.machine 0 + p.length)) m 0 ≡ time_on m (take k places) + cond (eqb p.machine m) p.length 0
    by true f = get_or-set_at old p.machine m (slice_index_or old p.machine 0 + p.length) 0 (sym (eqb-true p.machine m f)) inside
        ∙ omega (arith, cond-yes p.length f, so_far p.machine small, ap (λ x. time_on x (take k places)) (eqb-true p.machine m f))
    by false f = get_or-set_other old p.machine m (slice_index_or old p.machine 0 + p.length) 0 (λ q. eqb-false p.machine m f (sym q)) ∙ omega (arith, cond-no p.length f, so_far m h)

pub times-small : (places : List Place) (k m : ℕ) → ArePlaces places → time_on m (take k places) ≤ MOST_JOBS * 2 ^ 60
times-small places k m h = omega (arith, time_on-most m (2 ^ 60) (take k places) (All-take (λ p. p.length ≤ 2 ^ 60) k places (λ a d l. omega (arith, (h.1 a d l).1))), length-take k places, h.0)

-- ---- one piece more
-- the time that is left includes that of the next job
pub left_over : (places : List Place) (k : ℕ) (p : Place) (left : List ℕ) → k < length places → p ≡ get_or places k no_place
    → p.machine < MOST_MACHINES → AreTimes left (drop k places) → slice_index_or left p.machine 0 ≡ p.length + time_on p.machine (drop (k + 1) places)
left_over places k p left l is small h = h p.machine small
    ∙ ap (time_on p.machine) (drop_more places k no_place l ∙ ap (λ q. q ∷ drop (k + 1) places) (sym is)) ∙ time_on-own p (drop (k + 1) places)

pub left-small : (places : List Place) (k : ℕ) (p : Place) (left : List ℕ)
    → ArePlaces places → k < length places → p.machine < MOST_MACHINES → AreTimes left (drop k places) → slice_index_or left p.machine 0 ≤ MOST_JOBS * 2 ^ 60
left-small places k p left h l small is = omega (arith, is p.machine small, time_on-most p.machine (2 ^ 60) (drop k places) short, length-drop k places, h.0)
  where
    short : All (λ q. q.length ≤ 2 ^ 60) (drop k places)
    short a d m = let inside : k + a < length places = omega (arith, length-drop k places) in
        subst (λ (q : Place). q.length ≤ 2 ^ 60) (sym (get_or-drop k places a d)) (omega (arith, (h.1 (k + a) d inside).1))

pub left-next : (places : List Place) (k : ℕ) (p : Place) (old : List ℕ) (begin : ℕ)
    → k < length places → p ≡ get_or places k no_place → p.machine < length old → p.machine < MOST_MACHINES → begin + p.length ≡ slice_index_or old p.machine 0
    → AreTimes old (drop k places) → AreTimes (set old p.machine begin) (drop (k + 1) places)
left-next places k p old begin l is inside small begins so_far m h = by (eqb p.machine m) refl
  where
    parts : time_on m (drop k places) ≡ cond (eqb p.machine m) p.length 0 + time_on m (drop (k + 1) places)
    parts = ap (time_on m) (drop_more places k no_place l ∙ ap (λ q. q ∷ drop (k + 1) places) (sym is)) ∙ time_on-cons m p (drop (k + 1) places)

    by : (b : Bool) → eqb p.machine m ≡ b → slice_index_or (set old p.machine begin) m 0 ≡ time_on m (drop (k + 1) places)
    by true f = get_or-set_at old p.machine m begin 0 (sym (eqb-true p.machine m f)) inside
        ∙ omega (arith, cond-yes p.length f, parts, begins, so_far m h, ap (λ x. slice_index_or old x 0) (eqb-true p.machine m f))
    by false f = get_or-set_other old p.machine m begin 0 (λ q. eqb-false p.machine m f (sym q)) ∙ omega (arith, cond-no p.length f, parts, so_far m h)

pub pieces-next : (places : List Place) (k end : ℕ) (p : Place) (left : List ℕ) (old new : List Piece) → k < length places → p ≡ get_or places k no_place
    → p.machine < MOST_MACHINES → AreTimes left (drop k places) → end ≡ slice_index_or left p.machine 0 → new ≡ old ++ piece_until end p ∷ []
    → old ++ laid (drop k places) ≡ laid places → new ++ laid (drop (k + 1) places) ≡ laid places
pieces-next places k end p left old new l is small h at e so_far =
    let whole : drop k places ≡ p ∷ drop (k + 1) places = drop_more places k no_place l ∙ ap (λ q. q ∷ drop (k + 1) places) (sym is) in
    let here : piece_until end p ∷ laid (drop (k + 1) places) ≡ laid (drop k places) =
    ap (λ x. piece_until x p ∷ laid (drop (k + 1) places)) (at ∙ h p.machine small ∙ ap (time_on p.machine) whole) ∙ sym (ap laid whole) in
    ap (λ x. x ++ laid (drop (k + 1) places)) e ∙ append_assoc old (piece_until end p ∷ []) (laid (drop (k + 1) places)) ∙ ap (λ x. old ++ x) here ∙ so_far

pub pieces-all : (places : List Place) (k : ℕ) (pieces : List Piece) → length places ≤ k → pieces ++ laid (drop k places) ≡ laid places → pieces ≡ laid places
pieces-all places k pieces l h = sym (append-nil pieces) ∙ ap (λ x. pieces ++ laid x) (sym (drop_all k places l)) ∙ h
