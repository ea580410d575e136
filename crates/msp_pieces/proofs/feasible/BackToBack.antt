-- Jobs back to back on machine 0 from moment 0, as a schedule: when it is feasible, and the form in which it is reported.
use Rattle.std.proofs.Common.{◌≡◌, ℕ, ◌<◌, Bool, true, false, List, [], ◌∷◌, length, get_or, map, pos, ◌*ℤ◌, ◌≤ℤ◌, inl, All}
use Rattle.std.proofs.Common.{AllPairs, MatchBool, refl, sym, ap, ◌∙◌, subst, arith}
use Rattle.std.proofs.lemmas.Int.{ints}
use Rattle.std.proofs.lemmas.List.Elements.{All-nil}
use Rattle.msp_class.specs.declared.environments.EnvKind.{EnvKind}
use Rattle.msp_class.specs.declared.environments.EnvKind.TheVariants.{Identical}
use Rattle.msp_class.specs.Env.{kind_of}
use Rattle.msp_class.proofs.Sums.{OnceBelow, OnceBelow-distinct, OnceBelow-contains}
use Rattle.msp_pieces.specs.BackToBack.{back_to_back, piece, time_at, schedule_in_order}
use Rattle.msp_pieces.proofs.lists.BackToBack.{Makes, begin_in, end_in, end_in-begin, back_to_back-All, back_to_back-in_order}
use Rattle.msp_pieces.proofs.lists.BackToBack.{back_to_back-made, back_to_back-positive, back_to_back-filter}
use Rattle.msp_instance.specs.declared.Arc.{Arc}
use Rattle.msp_instance.specs.declared.Instance.{Instance}
use Rattle.msp_instance.specs.Instance.{job_at}
use Rattle.msp_pieces.specs.declared.Piece.{Piece}
use Rattle.msp_pieces.specs.Piece.{length_of, pieces_of, IsBefore, IsApart as AreApart, job_of, start, finish, IsTimed}
use Rattle.msp_pieces.specs.Feasible.{Feasible, HasPlace, HasOperation, MayRun, FollowsRoute, IsWholeWork, GetsWork, total, whole_work, work_of as part_of}
use Rattle.msp_pieces.proofs.feasible.OneMachine.{pieces_of-job, IsOneMachine}

pub piece_makes : Makes piece job_of start finish
piece_makes = record { job_is = λ j a b. refl; from_is = λ j a b. refl; to_is = λ j a b. refl }

-- where there are no arcs, none asks for an order of pieces
pub ordered_without_arcs : (arcs : List Arc) (ps : List Piece) → arcs ≡ [] → All (λ a. All (λ p. All (λ q. p.job ≡ a.before → q.job ≡ a.after → IsBefore p q) ps) ps) arcs
ordered_without_arcs arcs ps none = subst (All (λ a. All (λ p. All (λ q. p.job ≡ a.before → q.job ≡ a.after → IsBefore p q) ps) ps)) (sym none) (All-nil _)

pub back_to_back-timed : (p : ℕ → ℕ) (t : ℕ) (js : List ℕ) → All (λ j. 0 < p j) js → All IsTimed (back_to_back piece p t js)
back_to_back-timed p t js h k d l =
    let made = back_to_back-made piece p piece_makes t js k d l in
    record { from = ap (λ q. q.from) made; to = ap (λ q. q.to) made; lasts = back_to_back-positive piece p piece_makes t js h k d l }

pub back_to_back-op : (p : ℕ → ℕ) (t : ℕ) (js : List ℕ) → All (λ q. q.op ≡ 0) (back_to_back piece p t js)
back_to_back-op p t js k d l = ap (λ q. q.op) (back_to_back-made piece p piece_makes t js k d l)

module _ (i : Instance) (order : List ℕ) (o : OnceBelow (length i.jobs) order) (some : (j : ℕ) → j < length i.jobs → 0 < time_at i j) where
  abbrev pieces : List Piece
  pieces = back_to_back piece (time_at i) 0 order

  timed : All IsTimed pieces
  timed = back_to_back-timed (time_at i) 0 order (λ k d l. some (get_or order k d) (o.within k d l))

  in_order : AllPairs (λ p q. (p.to ≤ℤ q.from) × (p.from ≤ℤ p.to)) pieces
  in_order a b d h k =
      let e = back_to_back-in_order piece (time_at i) piece_makes 0 order a b d h k in
      let t = timed a d (omega arith) in
      let u = timed b d k in
      (omega (arith, ints, e, t.to, u.from), omega (arith, ints, t.to, t.from, t.lasts))

  apart : AllPairs AreApart pieces
  apart a b d h k = inl (in_order a b d h k).0

  -- they may be run on the one machine as soon as release dates and arcs allow it
  module _ (m : IsOneMachine i) (release : All (λ p. (pos 1 *ℤ pos (job_at i p.job).release) ≤ℤ p.from) pieces)
      (arcs : All (λ a. All (λ p. All (λ q. p.job ≡ a.before → q.job ≡ a.after → IsBefore p q) pieces) pieces) i.arcs) where
    places : All (HasPlace i) pieces
    places k d l =
        let op = back_to_back-op (time_at i) 0 order k d l in
        let on = ap (λ q. q.machine) (back_to_back-made piece (time_at i) piece_makes 0 order k d l) in
        let one = m.one in
        record {
          job = back_to_back-All piece (time_at i) piece_makes (λ j. j < length i.jobs) 0 order o.within k d l;
          operation = subst (λ x. HasOperation x i (get_or pieces k d).job (get_or pieces k d).op) (sym m.kind) op;
          machine = subst (λ x. MayRun x i (get_or pieces k d).job (get_or pieces k d).op (get_or pieces k d).machine) (sym m.kind) (omega arith);
        }

    module _ (j : ℕ) (small : j < length i.jobs) where
      abbrev begin : ℕ
      begin = begin_in (time_at i) 0 order j

      abbrev end : ℕ
      end = end_in (time_at i) 0 order j

      one_piece : pieces_of (schedule_in_order i order) j 0 ≡ piece j begin end ∷ []
      one_piece = pieces_of-job (schedule_in_order i order) j (back_to_back-op (time_at i) 0 order)
          ∙ back_to_back-filter piece (time_at i) piece_makes 0 order j (OnceBelow-distinct o) (OnceBelow-contains o j small)

      lasts : length_of (piece j begin end) ≡ pos 1 *ℤ pos (time_at i j)
      lasts = omega (arith, ints, end_in-begin (time_at i) 0 order j (OnceBelow-contains o j small))

      abbrev Gets : EnvKind → ℕ → Bool → Type 0
      Gets x n b = MatchBool b (total (map (part_of x i) (pieces_of (schedule_in_order i order) j n)) ≡ pos 1 *ℤ pos (whole_work x i j n))
          ((p : Piece) × (pieces_of (schedule_in_order i order) j n ≡ p ∷ []) × IsWholeWork x i (pos 1) p)

      gets_work : (b : Bool) → Gets Identical 0 b
      gets_work true = ap (λ l. total (map length_of l)) one_piece ∙ omega (arith, ints, lasts)
      gets_work false = (piece j begin end, one_piece, lasts)

      works : (n : ℕ) → HasOperation (kind_of i.class.env) i j n → GetsWork i (schedule_in_order i order) j n
      works n h =
          let zero_op : n ≡ 0 = subst (λ x. HasOperation x i j n) m.kind h in
          subst (λ (x : EnvKind). Gets x n i.class.cut) (sym m.kind) (subst (λ (z : ℕ). Gets Identical z i.class.cut) (sym zero_op) (gets_work i.class.cut))

    pub back_to_back_is_feasible : Feasible i (schedule_in_order i order)
    back_to_back_is_feasible = record {
      unit = omega (arith, ints);
      span = λ k d l. let t = timed k d l in (omega (arith, ints, t.from), omega (arith, ints, t.from, t.to, t.lasts));
      place = places;
      machine = λ a b d h k _. apart a b d h k;
      job = λ a b d h k _. apart a b d h k;
      release = release;
      arc = arcs;
      route = subst (λ x. FollowsRoute x pieces) (sym m.kind) tt;
      work = λ j n l h. works j l n h;
    }
