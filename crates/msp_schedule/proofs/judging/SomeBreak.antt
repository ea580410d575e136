-- A schedule over a unit of at least 1, without moments below 0, is feasible or has a first break.
use Rattle.std.proofs.Common.{◌≡◌, ℕ, zero, suc, ◌+◌, ◌<◌, ◌≤◌, ◌⊎◌, inl, inr, Bool, true, false, List, [], ◌∷◌, length, get_or, map, All, AllPairs, ℤ, pos, ◌*ℤ◌, ◌≤ℤ◌, ◌<ℤ◌}
use Rattle.std.proofs.Common.{MatchBool, Option, Some, None, refl, sym, ap, subst, arith, add-one}
use Rattle.std.specs.Prelude.{slice_index_or}
use Rattle.std.proofs.Math.Decide.{map_dec, dec_lt, ℕ_discrete}
use Rattle.std.proofs.Math.Logic.Dec.{and as both, not as not_decided, not-not as sure}
use Rattle.std.proofs.lemmas.Int.{ints}
use Rattle.std.proofs.lemmas.Bool.{cases_lt}
use Rattle.std.proofs.lemmas.List.{get_or_default}
use Rattle.std.proofs.lemmas.List.Elements.{All-nil, All-cons, All-head, All-tail}
use Rattle.msp_class.specs.declared.environments.EnvKind.{EnvKind}
use Rattle.msp_class.specs.declared.environments.EnvKind.TheVariants.{Uniform, Unrelated, OpenShop, FlowShop, JobShop}
use Rattle.msp_class.specs.Env.{kind_of}
use Rattle.msp_class.proofs.IntegerRing.{≤ℤ_total, ℤ_discrete}
use Rattle.msp_instance.specs.declared.Arc.{Arc as ArcValue}
use Rattle.msp_instance.specs.declared.Instance.{Instance}
use Rattle.msp_instance.specs.Instance.{job_at, need_at}
use Rattle.msp_pieces.specs.declared.Piece.{Piece}
use Rattle.msp_pieces.specs.declared.Schedule.{Schedule}
use Rattle.msp_schedule.specs.declared.breaks.Break.{Break}
use Rattle.msp_schedule.specs.declared.breaks.Break.TheVariants.{Span, Place, Machine, Job, Release, Arc, Route, Work}
use Rattle.msp_pieces.specs.Piece.{length_of, pieces_of, IsApart, no_piece, piece_at}
use Rattle.msp_pieces.specs.Feasible.{Feasible, HasOperation, MayRun, HasPlace, GetsWork, IsWholeWork, total, work_of, whole_work}
use Rattle.msp_schedule.specs.Breaks.{no_arc, arc_at, IsLeast, IsLeastOperation, IsEmpty, IsEarly, StandsAhead, Overlaps, IsFirstOverlap, KeepsArc, KeepsRoute}
use Rattle.msp_schedule.specs.Breaks.{LacksWork, IsBroken, turn_of, IsFirstBreak, IsDecision}
use Rattle.msp_schedule.specs.Lanes.{Precedes, IsFirstOverlapBelow}
use Rattle.msp_pieces.proofs.lists.Intervals.{greatest_by, greatest_by-bound}
use Rattle.msp_schedule.proofs.judging.OverlapFacts.{nothing_new, new_is_first, new_is_better, known_stays, apart_without_overlap, is_first}
use Rattle.msp_schedule.proofs.judging.FirstBreaks.{KeepsUpTo, first_of, feasible_when_kept, up_to_none, up_to_next}

-- ---- what can be decided
some_of : (P Q : Type 0) → Dec P → Dec Q → Dec (P ⊎ Q)
some_of P Q (yes p) d = yes (inl p)
some_of P Q (no n) (yes q) = yes (inr q)
some_of P Q (no n) (no m) = no (λ h. elim h [ inl p ↦ n p | inr q ↦ m q ])

when : (P Q : Type 0) → Dec P → Dec Q → Dec (P → Q)
when P Q (no m) d = yes (λ p. absurd (m p))
when P Q (yes p) (yes q) = yes (λ _. q)
when P Q (yes p) (no n) = no (λ h. n (h p))

at_most_decided : (x y : ℤ) → Dec (x ≤ℤ y)
at_most_decided x y = elim (≤ℤ_total x y) [ inl h ↦ yes h | inr k ↦ no (λ h. omega (arith, ints, h, k)) ]

below_decided : (x y : ℤ) → Dec (x <ℤ y)
below_decided x y = elim (≤ℤ_total y x) [ inl h ↦ no (λ k. omega (arith, ints, h, k)) | inr k ↦ yes k ]

not_at_most : (x y : ℤ) → ¬ (y ≤ℤ x) → x <ℤ y
not_at_most x y n = elim (≤ℤ_total y x) [ inl h ↦ absurd (n h) | inr k ↦ k ]

not_below : (x y : ℤ) → ¬ (x <ℤ y) → y ≤ℤ x
not_below x y n = elim (≤ℤ_total y x) [ inl h ↦ h | inr k ↦ absurd (n k) ]

all_decided : {X : Type 0} (P : X → Type 0) → ((x : X) → Dec (P x)) → (xs : List X) → Dec (All P xs)
all_decided P d [] = yes (All-nil P)
all_decided P d (x ∷ xs) = map_dec (λ h. All-cons P x xs h.0 h.1) (λ a. (All-head P x xs a, All-tail P x xs a)) (both (d x) (all_decided P d xs))

-- the first number with a property
first_below : (P : ℕ → Type 0) → ((k : ℕ) → Dec (P k)) → (n : ℕ) → ((k : ℕ) → k < n → ¬ P k) ⊎ ((k : ℕ) × IsLeast n P k)
first_below P d zero = inl (λ k l. absurd (omega (arith, l)))
first_below P d (suc n) = by (first_below P d n) (d n)
  where
    by : (((k : ℕ) → k < n → ¬ P k) ⊎ ((k : ℕ) × IsLeast n P k)) → Dec (P n) → ((k : ℕ) → k < suc n → ¬ P k) ⊎ ((k : ℕ) × IsLeast (suc n) P k)
    by (inr (k, h)) e = inr (k, record { inside = omega (arith, h.inside); holds = h.holds; least = h.least })
    by (inl none) (yes held) = inr (n, record { inside = omega arith; holds = held; least = none })
    by (inl none) (no lacks) = inl (λ k l. elim (cases_lt k n) [ inl less ↦ none k less | inr m ↦ subst (λ x. ¬ P x) (omega (arith, l, m)) lacks ])

-- the first operation with a property, which none has from a bound on
module _ (i : Instance) (P : ℕ → ℕ → Type 0) (d : (j o : ℕ) → Dec (P j o)) (bound : ℕ → ℕ) (beyond : (j o : ℕ) → bound j ≤ o → ¬ P j o) where
  abbrev Has : ℕ → Type 0
  Has j = (o : ℕ) × IsLeast (bound j) (P j) o

  none_at : (j : ℕ) → ((o : ℕ) → o < bound j → ¬ P j o) → (o : ℕ) → ¬ P j o
  none_at j h o = elim (cases_lt o (bound j)) [ inl less ↦ h o less | inr more ↦ beyond j o more ]

  has_decided : (j : ℕ) → Dec (Has j)
  has_decided j = elim (first_below (P j) (d j) (bound j)) [ inl h ↦ no (λ x. none_at j h x.0 x.1.holds) | inr found ↦ yes found ]

  absent : (j : ℕ) → ¬ Has j → (o : ℕ) → ¬ P j o
  absent j n = elim (first_below (P j) (d j) (bound j)) [ inl h ↦ none_at j h | inr found ↦ absurd (n found) ]

  first_operation : ((j o : ℕ) → j < length i.jobs → ¬ P j o) ⊎ ((j : ℕ) × ((o : ℕ) × IsLeastOperation i P j o))
  first_operation = elim (first_below Has has_decided (length i.jobs)) [
    | inl h ↦ inl (λ j o l. absent j (h j l) o)
    | inr (j, h) ↦ let (o, x) = h.holds in inr (j, (o, record { inside = h.inside; holds = x.holds; job = λ k q less. absent k (h.least k less) q; operation = x.least }))
  ]

-- ---- pieces that overlap
module _ (lane : Piece → ℕ) (ps : List Piece) where
  ahead_decided : (k l : ℕ) → Dec (StandsAhead ps k l)
  ahead_decided k l = some_of _ _ (below_decided (piece_at ps k).from (piece_at ps l).from) (both (ℤ_discrete (piece_at ps k).from (piece_at ps l).from) (dec_lt k l))

  precedes_decided : (k l : ℕ) → Dec (Precedes lane ps k l)
  precedes_decided k l = some_of _ _ (dec_lt (lane (piece_at ps k)) (lane (piece_at ps l))) (both (ℕ_discrete (lane (piece_at ps k)) (lane (piece_at ps l))) (ahead_decided k l))

  overlaps_decided : (k l : ℕ) → Dec (Overlaps lane ps k l)
  overlaps_decided k l = map_dec (λ h. record { one = h.0; other = h.1.0; same = h.1.1.0; ahead = h.1.1.1.0; early = h.1.1.1.1 }) (λ o. (o.one, (o.other, (o.same, (o.ahead, o.early)))))
      (both (dec_lt k (length ps)) (both (dec_lt l (length ps))
      (both (ℕ_discrete (lane (piece_at ps k)) (lane (piece_at ps l))) (both (ahead_decided k l) (below_decided (piece_at ps l).from (piece_at ps k).to)))))

  abbrev Known : ℕ → Type 0
  Known n = (best : Option (ℕ × ℕ)) × IsFirstOverlapBelow lane ps n best

  new : (n : ℕ) (best : Option (ℕ × ℕ)) → IsFirstOverlapBelow lane ps n best → (k : ℕ) → Overlaps lane ps k n → Known (n + 1)
  new n None h k o = (Some (k, n), new_is_first lane ps None k n refl h o)
  new n (Some (a, b)) h k o = elim (precedes_decided n b) [
    | yes before ↦ (Some (k, n), new_is_better lane ps (Some (a, b)) k n a b refl h o before)
    | no later ↦ (Some (a, b), known_stays lane ps (Some (a, b)) n a b refl h later)
  ]

  next : (n : ℕ) → Known n → Known (n + 1)
  next n (best, h) = elim (first_below (λ k. Overlaps lane ps k n) (λ k. overlaps_decided k n) (length ps)) [
    | inl none ↦ (best, nothing_new lane ps best n (λ k o. none k o.one o) h)
    | inr (k, o) ↦ new n best h k o.holds
  ]

  scan : (n : ℕ) → Known n
  scan zero = (None, λ k l less. absurd (omega (arith, less)))
  scan (suc n) = subst Known (add-one n) (next n (scan n))

  overlap_or_apart : AllPairs (λ p q. lane p ≡ lane q → IsApart p q) ps ⊎ ((a : ℕ) × ((b : ℕ) × IsFirstOverlap lane ps a b))
  overlap_or_apart = by (scan (length ps))
    where
      by : Known (length ps) → AllPairs (λ p q. lane p ≡ lane q → IsApart p q) ps ⊎ ((a : ℕ) × ((b : ℕ) × IsFirstOverlap lane ps a b))
      by (None, h) = inl (apart_without_overlap lane ps h)
      by (Some (a, b), h) = inr (a, (b, is_first lane ps a b h))

-- ---- places, arcs, routes and work
operation_decided : (k : EnvKind) (i : Instance) (j o : ℕ) → Dec (HasOperation k i j o)
operation_decided OpenShop i j o = both (dec_lt o (length (job_at i j).needs)) (not_decided (ℕ_discrete (need_at i j o).time 0))
operation_decided FlowShop i j o = both (dec_lt o (length (job_at i j).needs)) (not_decided (ℕ_discrete (need_at i j o).time 0))
operation_decided JobShop i j o = both (dec_lt o (length (job_at i j).needs)) (not_decided (ℕ_discrete (need_at i j o).time 0))
operation_decided _ i j o = ℕ_discrete o 0

operation_below : (k : EnvKind) (i : Instance) (j o : ℕ) → HasOperation k i j o → o < suc (length (job_at i j).needs)
operation_below OpenShop i j o h = omega (arith, h.0)
operation_below FlowShop i j o h = omega (arith, h.0)
operation_below JobShop i j o h = omega (arith, h.0)
operation_below _ i j o h = omega (arith, h)

run_decided : (k : EnvKind) (i : Instance) (j o m : ℕ) → Dec (MayRun k i j o m)
run_decided OpenShop i j o m = ℕ_discrete m (need_at i j o).machine
run_decided FlowShop i j o m = ℕ_discrete m (need_at i j o).machine
run_decided JobShop i j o m = ℕ_discrete m (need_at i j o).machine
run_decided _ i j o m = dec_lt m i.machines

place_decided : (i : Instance) (p : Piece) → Dec (HasPlace i p)
place_decided i p = map_dec (λ h. record { job = h.0; operation = h.1.0; machine = h.1.1 }) (λ h. (h.job, (h.operation, h.machine)))
    (both (dec_lt p.job (length i.jobs)) (both (operation_decided (kind_of i.class.env) i p.job p.op) (run_decided (kind_of i.class.env) i p.job p.op p.machine)))

arc_decided : (ps : List Piece) (a : ArcValue) → Dec (KeepsArc ps a)
arc_decided ps a = all_decided _ (λ p. all_decided _ (λ q. when _ _ (ℕ_discrete p.job a.before) (when _ _ (ℕ_discrete q.job a.after) (at_most_decided p.to q.from))) ps) ps

route_decided : (ps : List Piece) (j o : ℕ) → Dec (KeepsRoute ps j o)
route_decided ps j o = all_decided
    _ (λ p. all_decided _ (λ q. when _ _ (ℕ_discrete p.job j) (when _ _ (ℕ_discrete q.job j) (when _ _ (dec_lt p.op o) (when _ _ (ℕ_discrete q.op o) (at_most_decided p.to q.from))))) ps)
    ps

-- no piece is of an operation beyond all of them
keeps_beyond : (ps : List Piece) (j o : ℕ) → suc (greatest_by (λ p. p.op) ps) ≤ o → KeepsRoute ps j o
keeps_beyond ps j o h = λ k d l m b n ej eq less eo. absurd (omega (arith, h, greatest_by-bound (λ p. p.op) ps m b n, eo))

routes_decided : (k : EnvKind) → Dec ((k ≡ FlowShop) ⊎ (k ≡ JobShop))
routes_decided FlowShop = yes (inl refl)
routes_decided JobShop = yes (inr refl)
routes_decided _ = no (λ h. elim h [ inl e ↦ cc | inr e ↦ cc ])

whole_decided : (k : EnvKind) (i : Instance) (unit : ℤ) (p : Piece) → Dec (IsWholeWork k i unit p)
whole_decided Uniform i unit p = ℤ_discrete (length_of p *ℤ pos (slice_index_or i.speeds p.machine 0)) (unit *ℤ pos (need_at i p.job p.op).time)
whole_decided Unrelated i unit p = ℤ_discrete (length_of p) (unit *ℤ pos (need_at i p.job p.machine).time)
whole_decided _ i unit p = ℤ_discrete (length_of p) (unit *ℤ pos (need_at i p.job p.op).time)

abbrev IsSole : (Piece → Type 0) → List Piece → Type 0
IsSole P ps = (p : Piece) × (ps ≡ p ∷ []) × P p

sole_decided : (P : Piece → Type 0) → ((p : Piece) → Dec (P p)) → (ps : List Piece) → Dec (IsSole P ps)
sole_decided P d [] = no (λ x. omega (arith, ap length x.1))
sole_decided P d (p ∷ []) = map_dec (λ h. (p, refl, h)) (λ x. subst P (sym (ap (λ l. get_or l 0 p) x.1)) x.2) (d p)
sole_decided P d (p ∷ q ∷ ps) = no (λ x. omega (arith, ap length x.1))

choice_decided : (b : Bool) (P Q : Type 0) → Dec P → Dec Q → Dec (MatchBool b P Q)
choice_decided true P Q d e = d
choice_decided false P Q d e = e

-- ---- one condition after another
module _ (i : Instance) (s : Schedule) (unit : pos 1 ≤ℤ s.unit) (natural : All (λ p. pos 0 ≤ℤ p.from) s.pieces) where
  abbrev Outcome : Type 0
  Outcome = (result : Option Break) × IsDecision i s result

  broken : (b : Break) → KeepsUpTo (turn_of b) i s → IsBroken i s b → Outcome
  broken b h x = (Some b, first_of i s b h x)

  pieces_all : (Q : Piece → Type 0) → ((k : ℕ) → k < length s.pieces → Q (piece_at s.pieces k)) → All Q s.pieces
  pieces_all Q h k d l = subst Q (get_or_default s.pieces k no_piece d l) (h k l)

  first_piece : (P : Piece → Type 0) → ((p : Piece) → Dec (P p))
      → ((k : ℕ) → k < length s.pieces → ¬ P (piece_at s.pieces k)) ⊎ ((k : ℕ) × IsLeast (length s.pieces) (λ l. P (piece_at s.pieces l)) k)
  first_piece P d = first_below (λ l. P (piece_at s.pieces l)) (λ l. d (piece_at s.pieces l)) (length s.pieces)

  work_decided : (j o : ℕ) → Dec (GetsWork i s j o)
  work_decided j o = choice_decided i.class.cut _ _
      (ℤ_discrete (total (map (work_of (kind_of i.class.env) i) (pieces_of s j o))) (s.unit *ℤ pos (whole_work (kind_of i.class.env) i j o)))
      (sole_decided (IsWholeWork (kind_of i.class.env) i s.unit) (whole_decided (kind_of i.class.env) i s.unit) (pieces_of s j o))

  lacks_decided : (j o : ℕ) → Dec (LacksWork i s j o)
  lacks_decided j o = both (operation_decided (kind_of i.class.env) i j o) (not_decided (work_decided j o))

  by_work : KeepsUpTo 7 i s → Outcome
  by_work h = elim (first_operation i (LacksWork i s) lacks_decided (λ j. suc (length (job_at i j).needs)) (λ j o m x. omega (arith, m, operation_below (kind_of i.class.env) i j o x.0))) [
    | inl none ↦ (None, feasible_when_kept i s unit natural (up_to_next i s 7 h (λ j o l has. (sure (work_decided j o)).0 (λ n. none j o l (has, n)))))
    | inr (j, (o, x)) ↦ broken (Work j o) h x
  ]

  by_route : KeepsUpTo 6 i s → Outcome
  by_route h = elim (routes_decided (kind_of i.class.env)) [
    | no n ↦ by_work (up_to_next i s 6 h (λ r. absurd (n r)))
    | yes r ↦ elim (first_operation i (λ j o. ¬ KeepsRoute s.pieces j o)
        (λ j o. not_decided (route_decided s.pieces j o)) (λ j. suc (greatest_by (λ p. p.op) s.pieces)) (λ j o m n. n (keeps_beyond s.pieces j o m))) [
          | inl none ↦ by_work (up_to_next i s 6 h (λ _ j o l. (sure (route_decided s.pieces j o)).0 (none j o l)))
          | inr (j, (o, x)) ↦ broken (Route j o) h (r, x)
        ]
  ]

  by_arc : KeepsUpTo 5 i s → Outcome
  by_arc h = elim (first_below (λ l. ¬ KeepsArc s.pieces (arc_at i l)) (λ l. not_decided (arc_decided s.pieces (arc_at i l))) (length i.arcs)) [
    | inl none ↦ by_route (up_to_next i s 5 h (λ k d l. subst (KeepsArc s.pieces) (get_or_default i.arcs k no_arc d l) ((sure (arc_decided s.pieces (arc_at i k))).0 (none k l))))
    | inr (k, x) ↦ broken (Arc k) h x
  ]

  by_release : KeepsUpTo 4 i s → Outcome
  by_release h = elim (first_piece (IsEarly i s.unit) (λ p. below_decided p.from (s.unit *ℤ pos (job_at i p.job).release))) [
    | inl none ↦ by_arc (up_to_next i s 4 h (pieces_all (λ p. (s.unit *ℤ pos (job_at i p.job).release) ≤ℤ p.from) (λ k l. not_below _ _ (none k l))))
    | inr (k, x) ↦ broken (Release k) h x
  ]

  by_job : KeepsUpTo 3 i s → Outcome
  by_job h = elim (overlap_or_apart (λ p. p.job) s.pieces) [ inl apart ↦ by_release (up_to_next i s 3 h apart) | inr (a, (b, x)) ↦ broken (Job a b) h x ]

  by_machine : KeepsUpTo 2 i s → Outcome
  by_machine h = elim (overlap_or_apart (λ p. p.machine) s.pieces) [ inl apart ↦ by_job (up_to_next i s 2 h apart) | inr (a, (b, x)) ↦ broken (Machine a b) h x ]

  by_place : KeepsUpTo 1 i s → Outcome
  by_place h = elim (first_piece (λ p. ¬ HasPlace i p) (λ p. not_decided (place_decided i p))) [
    | inl none ↦ by_machine (up_to_next i s 1 h (pieces_all (HasPlace i) (λ k l. (sure (place_decided i (piece_at s.pieces k))).0 (none k l))))
    | inr (k, x) ↦ broken (Place k) h x
  ]

  decision : Outcome
  decision = elim (first_piece IsEmpty (λ p. at_most_decided p.to p.from)) [
    | inl none ↦ by_place (up_to_next i s 0 (up_to_none i s) (pieces_all (λ p. p.from <ℤ p.to) (λ k l. not_at_most _ _ (none k l))))
    | inr (k, x) ↦ broken (Span k) (up_to_none i s) x
  ]

  pub some_break : ¬ Feasible i s → (b : Break) × IsFirstBreak i s b
  some_break n = by decision
    where
      by : Outcome → (b : Break) × IsFirstBreak i s b
      by (None, f) = absurd (n f)
      by (Some b, h) = (b, h)
