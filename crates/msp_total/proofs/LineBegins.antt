-- What a feasible schedule of a flow shop of unit operations has: its jobs come to the last machine at moments that, rounded down to whole
-- ones and moved to the front by one for each machine before, are begins on one machine, none of which is too late.
use Rattle.std.proofs.Common.{◌≡◌, ℕ, zero, suc, ◌+◌, ◌*◌, ◌-◌, ◌/◌, ◌<◌, ◌≤◌, ◌⊎◌, inl, inr, Bool, [], ◌∷◌, length, get_or, map, All, Contains, MatchBool, ℤ}
use Rattle.std.proofs.Common.{pos, nat_abs, ◌-ℤ◌, ◌*ℤ◌, ◌≤ℤ◌, ◌<ℤ◌, refl, sym, ap, ap₂, subst, subst₂, ◌∙◌, arith}
use Rattle.std.specs.Prelude.{◌==◌, ◌&&◌}
use Rattle.std.proofs.lemmas.Bool.{eqb-true}
use Rattle.std.proofs.lemmas.Int.{ints}
use Rattle.std.proofs.lemmas.Nat.{le-div}
use Rattle.std.proofs.lemmas.List.Elements.{All-contains}
use Rattle.msp_class.specs.Env.{kind_of}
use Rattle.msp_class.proofs.IntegerRing.{natural, pos-le, le-pos, ≤ℤ_trans, *ℤ-one}
use Rattle.msp_class.proofs.Sums.{AllPairs-contains, Contains-from_filter}
use Rattle.msp_instance.specs.declared.Instance.{Instance}
use Rattle.msp_instance.specs.Instance.{job_at, need_at}
use Rattle.msp_pieces.specs.declared.Piece.{Piece}
use Rattle.msp_pieces.specs.declared.Schedule.{Schedule}
use Rattle.msp_pieces.specs.Piece.{pieces_of, IsBefore, IsApart as AreApart, start, finish, IsTimed, no_piece}
use Rattle.msp_pieces.specs.Feasible.{Feasible, HasPlace, MayRun, FollowsRoute, IsWholeWork, total, work_of, whole_work}
use Rattle.msp_pieces.specs.Cost.{end_of}
use Rattle.msp_pieces.proofs.feasible.OneMachine.{IsTimed-from_span, apart_in_nat, both_true}
use Rattle.msp_pieces.proofs.feasible.LastEnds.{last_end-contains}
use Rattle.msp_slots.proofs.Seats.{one_at_most}
use Rattle.msp_slots.proofs.Begins.{head_at, HasBeginsOn}
use Rattle.msp_total.proofs.Floors.{floors_differ, floor_to}
use Rattle.msp_total.proofs.LineFacts.{IsLineShop, own, ones, operations}

module _ (i : Instance) (late : Bool) (h : IsLineShop i late) (s : Schedule) (f : Feasible i s) where
  abbrev n : ℕ
  n = length i.jobs

  abbrev u : ℕ
  u = nat_abs s.unit

  unit_is : s.unit ≡ pos u
  unit_is = natural s.unit (omega (arith, ints, f.unit))

  some_unit : 1 ≤ u
  some_unit = le-pos (subst (λ x. pos 1 ≤ℤ x) unit_is f.unit)

  -- ---- the one piece of an operation
  abbrev piece : ℕ → ℕ → Piece
  piece j o = get_or (pieces_of s j o) 0 no_piece

  record IsOperation (j o : ℕ) (p : Piece) : Type 0 where
    among : Contains s.pieces p
    job : p.job ≡ j
    machine : p.machine ≡ o
    op : p.op ≡ o
    timed : IsTimed p
    lasts : finish p ≡ start p + u

  module _ (j o : ℕ) (l : j < n) (b : o < i.machines) where
    abbrev HasOne : Type 0
    HasOne = (p : Piece) × (pieces_of s j o ≡ p ∷ []) × IsWholeWork (kind_of i.class.env) i s.unit p

    read : (p : Piece) → Contains s.pieces p → p.job ≡ j → p.op ≡ o → IsWholeWork (kind_of i.class.env) i s.unit p → IsOperation j o p
    read p c job op w = record { among = c; job = job; machine = machine; op = op; timed = timed; lasts = lasts (start p) (finish p) u p.from p.to timed.from timed.to (length ∙ unit_is) }
      where
        timed : IsTimed p
        timed = IsTimed-from_span p (All-contains (λ p. (pos 0 ≤ℤ p.from) × (p.from <ℤ p.to)) s.pieces p f.span c)

        machine : p.machine ≡ o
        machine = subst (λ k. MayRun k i p.job p.op p.machine) h.kind (All-contains (HasPlace i) s.pieces p f.place c).machine ∙ ap₂ (λ a d. (need_at i a d).machine) job op ∙ own i late h j o l b

        length : p.to -ℤ p.from ≡ s.unit
        length = subst (λ k. IsWholeWork k i s.unit p) h.kind w ∙ ap₂ (λ a d. s.unit *ℤ pos (need_at i a d).time) job op ∙ ap (λ t. s.unit *ℤ pos t) (ones i late h j o l b) ∙ *ℤ-one s.unit

        lasts : (x y t : ℕ) (from to : ℤ) → from ≡ pos x → to ≡ pos y → to -ℤ from ≡ pos t → y ≡ x + t
        lasts x y t from to e d g = omega (arith, ints, e, d, g)

    is_operation : IsOperation j o (piece j o)
    is_operation = by (subst (λ c. MatchBool c (total (map (work_of (kind_of i.class.env) i) (pieces_of s j o)) ≡ s.unit *ℤ pos (whole_work (kind_of i.class.env) i j o)) HasOne)
        h.cut (f.work j o l (operations i late h j o l b)))
      where
        by : HasOne → IsOperation j o (piece j o)
        by (p, e, w) =
            let (c, t) = Contains-from_filter (λ q. (q.job == j) && (q.op == o)) s.pieces p (subst (λ ps. Contains ps p) (sym e) (0, omega arith, refl)) in
            let both = both_true _ _ t in
            subst (IsOperation j o) (sym (ap (λ ps. get_or ps 0 no_piece) e)) (read p c (eqb-true _ _ both.0) (eqb-true _ _ both.1) w)

  -- ---- the operations of a job follow each other
  before : (p q : Piece) → Contains s.pieces p → Contains s.pieces q → p.job ≡ q.job → p.op < q.op → IsBefore p q
  before p q c d =
      let From : Piece → Piece → Type 0 = λ p q. p.job ≡ q.job → p.op < q.op → IsBefore p q in
      All-contains (From p) s.pieces q (All-contains (λ p. All (From p) s.pieces) s.pieces p (subst (λ k. FollowsRoute k s.pieces) h.kind f.route) c) d

  soon : (j o : ℕ) → j < n → o < i.machines → u * (head_at i j + o) ≤ start (piece j o)
  soon j zero l b =
      let e = is_operation j zero l b in
      let head = All-contains (λ p. (s.unit *ℤ pos (job_at i p.job).release) ≤ℤ p.from) s.pieces (piece j zero) f.release e.among in
      let begins = le-pos (subst₂ (λ x y. x ≤ℤ y)
      (ap (λ v. v *ℤ pos (job_at i (piece j zero).job).release) unit_is ∙ ap (λ k. pos (u * (job_at i k).release)) e.job) e.timed.from head) in
      omega (arith, begins)
  soon j (suc o) l b =
      let c : o < i.machines = omega (arith, b) in
      let d = is_operation j o l c in
      let e = is_operation j (suc o) l b in
      let less : (piece j o).op < (piece j (suc o)).op = subst₂ (λ x y. x < y) (sym d.op) (sym e.op) (omega arith) in
      let follows : finish (piece j o) ≤ start (piece j (suc o)) =
      le-pos (subst₂ (λ x y. x ≤ℤ y) d.timed.to e.timed.from (before (piece j o) (piece j (suc o)) d.among e.among (d.job ∙ sym e.job) less)) in
      omega (arith, soon j o l c, d.lasts, follows)

  -- ---- the last machine
  abbrev last : ℕ
  last = i.machines - 1

  abbrev from : ℕ → ℕ
  from j = start (piece j last)

  abbrev begin : ℕ → ℕ
  begin j = from j / u - last

  last_inside : last < i.machines
  last_inside = omega (arith, h.machine)

  is_last : (j : ℕ) → j < n → IsOperation j last (piece j last)
  is_last j l = is_operation j last l last_inside

  floor : (j : ℕ) → j < n → head_at i j + last ≤ from j / u
  floor j l = le-div (head_at i j + last) (from j) u some_unit (omega (arith, soon j last l last_inside))

  apart : (a b : ℕ) → a < n → b < n → begin a ≡ begin b → a ≡ b
  apart a b l k e = elim (AllPairs-contains (λ p q. p.machine ≡ q.machine → AreApart p q) s.pieces (piece a last) (piece b last) f.machine (is_last a l).among (is_last b k).among) [
    | inl r ↦ never a b l k e (apart_in_nat (piece a last) (piece b last) (is_last a l).timed (is_last b k).timed (r ((is_last a l).machine ∙ sym (is_last b k).machine)))
    | inr o ↦ elim o [
      | inl same ↦ sym (is_last a l).job ∙ ap (λ p. p.job) same ∙ (is_last b k).job
      | inr r ↦ sym (never b a k l (sym e) (apart_in_nat (piece b last) (piece a last) (is_last b k).timed (is_last a l).timed (r ((is_last b k).machine ∙ sym (is_last a l).machine))))
    ]
  ]
    where
      never : (a b : ℕ) → a < n → b < n → begin a ≡ begin b → (finish (piece a last) ≤ start (piece b last)) ⊎ (finish (piece b last) ≤ start (piece a last)) → a ≡ b
      never a b l k e o =
          let same : from a / u ≡ from b / u = omega (arith, e, floor a l, floor b k) in
          elim o [
            | inl r ↦ absurd (floors_differ u (from a) (from b) some_unit same (omega (arith, r, (is_last a l).lasts)))
            | inr r ↦ absurd (floors_differ u (from b) (from a) some_unit (sym same) (omega (arith, r, (is_last b k).lasts)))
          ]

  ends : (j : ℕ) → j < n → (s.unit *ℤ pos (begin j + i.machines)) ≤ℤ end_of s j
  ends j l =
      let e = is_last j l in
      let whole : begin j + i.machines ≡ from j / u + 1 = omega (arith, floor j l, h.machine) in
      let reached : u * (begin j + i.machines) ≤ finish (piece j last) = omega (arith, floor_to u (from j) (begin j) i.machines whole, e.lasts) in
      ≤ℤ_trans (subst₂ (λ v x. (v *ℤ pos (begin j + i.machines)) ≤ℤ x) (sym unit_is) (sym e.timed.to) (pos-le reached))
      (subst (λ k. (piece j last).to ≤ℤ end_of s k) e.job (last_end-contains s.pieces (piece j last) e.among))

  pub line_begins : (begin : ℕ → ℕ) × HasBeginsOn i 1 i.machines s begin
  line_begins = (begin, record { seated = record { released = λ j l. omega (arith, floor j l); few = λ x. one_at_most n begin x apart }; ends = ends })
