-- Schedules that are read from their end: for frames whose operations follow no route, with the arcs turned.
use Rattle.std.proofs.Common.{◌≡◌, ℕ, ◌<◌, true, false, not, List, length, get_or, map, All, Contains, inl, inr, ℤ, pos, ◌+ℤ◌, ◌-ℤ◌, ◌*ℤ◌, ◌≤ℤ◌, refl, sym, ap, subst, ◌∙◌, arith}
use Rattle.std.proofs.lemmas.Bool.{false≢true}
use Rattle.std.proofs.lemmas.Int.{ints}
use Rattle.std.proofs.lemmas.List.Elements.{All-map, All-contains, All-contains_itself, Contains-get_or}
use Rattle.msp_class.specs.Env.{is_mirror}
use Rattle.msp_class.proofs.IntegerRing.{≤ℤ_trans, one-*ℤ, *ℤ-nonneg, pos-le, zero-le-pos}
use Rattle.msp_instance.specs.declared.Arc.{Arc}
use Rattle.msp_instance.specs.declared.Instance.{Instance}
use Rattle.msp_instance.specs.Instance.{job_at}
use Rattle.msp_pieces.specs.declared.Piece.{Piece}
use Rattle.msp_pieces.specs.declared.Schedule.{Schedule}
use Rattle.msp_pieces.specs.Piece.{length_of, IsBefore}
use Rattle.msp_pieces.specs.Feasible.{Feasible}
use Rattle.msp_pieces.specs.Cost.{last_end, end_of}
use Rattle.msp_pieces.proofs.feasible.Frames.{Frame, frame_of, Lasts, Fits, HasWork, IsShaped, piece_of, Fits-from_feasible, Feasible-from_fits}
use Rattle.msp_pieces.proofs.feasible.LastEnds.{last_end-least}
use Rattle.msp_pieces.proofs.changes.Moves.{All-map_pairs, Contains-map, Suits, Moves, moved-place, moved-machine, moved-job, moved-work}
use Rattle.msp_pieces.proofs.changes.Serves.{SameOperations, Suits-same, SameNeeds, SameOperations-from_needs, IsShaped-same}

-- the arc the other way round
abbrev pub turned : Arc → Arc
turned a = record { before = a.after; after = a.before }

-- the two frames differ in heads, and in that the arcs of one are those of the other, turned
pub record Mirrors (f g : Frame) : Type 0 where
  pub operations : SameOperations f g
  pub arcs : All (λ a. Contains f.arcs (turned a)) g.arcs
  pub unrouted : g.routed ≡ false

-- the piece as it is read from the moment `last` back
abbrev pub mirrored : ℤ → Piece → Piece
mirrored last p = record { job = p.job; op = p.op; machine = p.machine; from = last -ℤ p.to; to = last -ℤ p.from }

abbrev pub mirrored_all : ℤ → List Piece → List Piece
mirrored_all last ps = map (mirrored last) ps

-- `last` leaves room for the heads to come
abbrev pub LeavesRoom : Frame → ℤ → List Piece → ℤ → Type 0
LeavesRoom g unit ps last = All (λ p. (p.to +ℤ (unit *ℤ pos (g.head p.job))) ≤ℤ last) ps

module _ (f g : Frame) (D : ℤ) (ps : List Piece) (last : ℤ) (fits : Fits f D ps) (m : Mirrors f g) (room : LeavesRoom g D ps last) where
  abbrev move : Piece → Piece
  move = mirrored last

  before : (p q : Piece) → IsBefore p q → IsBefore (move q) (move p)
  before p q h = omega (arith, ints)

  moves : Moves f ps (pos 1) (λ j o. o) move
  moves = record {
    job = λ p. refl;
    op = λ p. refl;
    machine = λ p. refl;
    long = λ k d l. omega (arith, ints) ∙ sym (one-*ℤ (length_of (get_or ps k d)));
    apart = λ p q h i a. elim a [ inl b ↦ inr (before p q b) | inr b ↦ inl (before q p b) ];
  }

  suits : Suits f g D D (pos 1) (λ j o. o)
  suits = Suits-same f g D m.operations

  -- a head is a natural number over the unit
  natural_head : (h : Frame) (j : ℕ) → pos 0 ≤ℤ (D *ℤ pos (h.head j))
  natural_head h j = *ℤ-nonneg (≤ℤ_trans (pos-le (omega arith)) fits.unit_from) (zero-le-pos (h.head j))

  lasts : (p : Piece) → Lasts p → (p.to +ℤ (D *ℤ pos (g.head p.job))) ≤ℤ last → Lasts (move p)
  lasts p h r = let n = natural_head g p.job in (omega (arith, ints, n, h.1, r), omega (arith, ints, h.1))

  pub Fits-mirrored : Fits g D (mirrored_all last ps)
  Fits-mirrored = record {
    unit_from = fits.unit_from;
    span = All-map Lasts move ps (λ k d l. lasts (get_or ps k d) (fits.span k d l) (room k d l));
    place = moved-place f g D D (pos 1) (λ j o. o) move ps fits suits moves;
    machine = moved-machine f g D D (pos 1) (λ j o. o) move ps fits suits moves;
    job = moved-job f g D D (pos 1) (λ j o. o) move ps fits suits moves;
    release = All-map (λ p. (D *ℤ pos (g.head p.job)) ≤ℤ p.from) move ps (λ k d l. omega (arith, ints, room k d l));
    arc = λ a d l.
        let old = All-contains (λ x. All (λ p. All (λ q. p.job ≡ x.before → q.job ≡ x.after → IsBefore p q) ps) ps) f.arcs (turned (get_or g.arcs a d)) fits.arc (m.arcs a d l) in
        All-map_pairs (λ p q. p.job ≡ (get_or g.arcs a d).before → q.job ≡ (get_or g.arcs a d).after → IsBefore p q)
        move ps (λ i e n j x b s t. before (get_or ps j x) (get_or ps i e) (old j x b i e n t s));
    route = λ e. absurd (false≢true (sym m.unrouted ∙ e));
    work = moved-work f g D D (pos 1) (λ j o. o) move ps fits suits moves;
  }

  -- each job ends early enough to leave room for the heads that there were
  pub last_end-mirrored : HasWork f → (j : ℕ) → j < f.jobs → last_end (mirrored_all last ps) j ≤ℤ (last -ℤ (D *ℤ pos (f.head j)))
  last_end-mirrored works j l = last_end-least (mirrored_all last ps) j (last -ℤ (D *ℤ pos (f.head j)))
      some (All-map (λ p. p.job ≡ j → p.to ≤ℤ (last -ℤ (D *ℤ pos (f.head j)))) move ps (λ k d b e. each (get_or ps k d) e (fits.release k d b)))
    where
      each : (p : Piece) → p.job ≡ j → (D *ℤ pos (f.head p.job)) ≤ℤ p.from → (last -ℤ p.from) ≤ℤ (last -ℤ (D *ℤ pos (f.head j)))
      each p e h = omega (arith, ints, subst (λ x. (D *ℤ pos (f.head x)) ≤ℤ p.from) e h)

      some : pos 0 ≤ℤ (last -ℤ (D *ℤ pos (f.head j)))
      some =
          let (p, c, e) = piece_of f D ps fits works j l in
          let from = All-contains (λ q. (D *ℤ pos (f.head q.job)) ≤ℤ q.from) ps p fits.release c in
          let until = All-contains (λ q. (q.to +ℤ (D *ℤ pos (g.head q.job))) ≤ℤ last) ps p room c in
          subst (λ x. pos 0 ≤ℤ (last -ℤ (D *ℤ pos (f.head x)))) e
          (omega (arith, ints, natural_head g p.job, from, (All-contains Lasts ps p fits.span c).1, until))

-- ---- instances
pub Mirrors-from_needs : (i j : Instance) → SameNeeds i j → is_mirror j.class.env ≡ true → All (λ a. Contains i.arcs (turned a)) j.arcs → Mirrors (frame_of i) (frame_of j)
Mirrors-from_needs i j s e arcs = record { operations = SameOperations-from_needs i j s; arcs = arcs; unrouted = ap not e }

abbrev pub mirrored_schedule : ℤ → Schedule → Schedule
mirrored_schedule last s = record { unit = s.unit; pieces = mirrored_all last s.pieces }

pub Feasible-mirrored : (i j : Instance) (s : Schedule) (last : ℤ) → IsShaped i → SameNeeds i j → is_mirror j.class.env ≡ true → All (λ a. Contains i.arcs (turned a)) j.arcs →
    All (λ p. (p.to +ℤ (s.unit *ℤ pos (job_at j p.job).release)) ≤ℤ last) s.pieces → Feasible i s → Feasible j (mirrored_schedule last s)
Feasible-mirrored i j s last p n e arcs room f =
    Feasible-from_fits j (mirrored_schedule last s) (IsShaped-same i j n p)
    (Fits-mirrored (frame_of i) (frame_of j) s.unit s.pieces last (Fits-from_feasible i s p f) (Mirrors-from_needs i j n e arcs) room)

pub end_of-mirrored : (i j : Instance) (s : Schedule) (last : ℤ) → IsShaped i → HasWork (frame_of i) → SameNeeds i j → is_mirror j.class.env ≡ true → All (λ a. Contains i.arcs (turned a)) j.arcs →
    All (λ p. (p.to +ℤ (s.unit *ℤ pos (job_at j p.job).release)) ≤ℤ last) s.pieces
    → Feasible i s → (k : ℕ) → k < length i.jobs → end_of (mirrored_schedule last s) k ≤ℤ (last -ℤ (s.unit *ℤ pos (job_at i k).release))
end_of-mirrored i j s last p w n e arcs room f = last_end-mirrored (frame_of i) (frame_of j) s.unit s.pieces last (Fits-from_feasible i s p f) (Mirrors-from_needs i j n e arcs) room w

-- the arcs and the turned arcs are those of each other, turned
pub turned_arcs : (arcs : List Arc) → All (λ a. Contains arcs (turned a)) (map turned arcs)
turned_arcs arcs = All-map (λ a. Contains arcs (turned a)) turned arcs (All-contains_itself arcs)

pub turned_back : (arcs : List Arc) → All (λ a. Contains (map turned arcs) (turned a)) arcs
turned_back arcs k d l = Contains-map turned arcs (get_or arcs k d) (Contains-get_or arcs k d l)
