-- What a feasible schedule of unit jobs on identical machines has: whole moments at which its jobs could begin, no more at a time than there
-- are machines, and none of them later than the job begins.
use Rattle.std.proofs.Common.{◌≡◌, ℕ, suc, [], ◌∷◌, ◌+◌, ◌*◌, ◌/◌, ◌-◌, ◌<◌, ◌≤◌, Bool, true, false, cond, eqb, length, get_or, pos, nat_abs, ◌-ℤ◌, ◌*ℤ◌, ◌≤ℤ◌, All, Contains, mul-suc, le_trans, le_of_eq, mul_comm}
use Rattle.std.proofs.Common.{refl, sym, ap, subst, subst₂, ◌∙◌, arith}
use Rattle.std.specs.Prelude.{◌==◌, ◌&&◌}
use Rattle.std.proofs.lemmas.Bool.{eqb-true, eq-eqb}
use Rattle.std.proofs.lemmas.Int.{ints}
use Rattle.std.proofs.Math.Nat.{mul-div_cancel_left}
use native.Mathlib.Nat.{le_of_mul-le-mul_left}
use Rattle.std.proofs.lemmas.List.Elements.{All-contains, Contains-get_or, All-cons, All-nil}
use Rattle.msp_class.specs.declared.environments.EnvKind.TheVariants.{Identical}
use Rattle.msp_class.specs.Env.{kind_of}
use Rattle.msp_class.specs.Sums.{total_below}
use Rattle.msp_class.proofs.Sums.{total_below-same, total_below-range, Contains-filter}
use Rattle.msp_class.proofs.IntegerRing.{natural, pos-le, le-pos, zero-le-pos, ≤ℤ_refl, ≤ℤ_trans}
use Rattle.msp_instance.specs.declared.Instance.{Instance}
use Rattle.msp_instance.specs.Instance.{job_at, need_at}
use Rattle.msp_pieces.specs.declared.Piece.{Piece}
use Rattle.msp_pieces.specs.declared.Schedule.{Schedule}
use Rattle.msp_pieces.specs.Feasible.{Feasible, HasPlace, HasOperation, whole_work}
use Rattle.msp_pieces.specs.Cost.{end_of}
use Rattle.msp_pieces.specs.Laws.{time_together, HasRoom, BeginsFrom, floored}
use Rattle.msp_pieces.proofs.bounds.EndsAndFloors.{law_of_ends, law_of_floors}
use Rattle.msp_pieces.proofs.bounds.Floored.{FillsUnit, floored-fills}
use Rattle.msp_pieces.proofs.feasible.LastEnds.{last_end-reached}
use Rattle.msp_pieces.proofs.feasible.Frames.{frame_of, of_operation, HasWork, IsShaped-from_identical, Fits-from_feasible}
use Rattle.msp_slots.specs.Seating.{one_if, begin_at, IsSeated}

-- the job's release date
abbrev pub head_at : Instance → ℕ → ℕ
head_at i j = (job_at i j).release

-- the jobs may begin at whole moments on so many machines, and end no earlier than the span later
pub record HasBeginsOn (i : Instance) (machines span : ℕ) (s : Schedule) (begin : ℕ → ℕ) : Type 0 where
  pub seated : IsSeated (length i.jobs) machines (head_at i) begin
  pub ends : (j : ℕ) → j < length i.jobs → (s.unit *ℤ pos (begin j + span)) ≤ℤ end_of s j

abbrev pub HasBegins : Instance → Schedule → (ℕ → ℕ) → Type 0
HasBegins i s begin = HasBeginsOn i i.machines 1 s begin

module _ (i : Instance) (kind : kind_of i.class.env ≡ Identical) (ones : (k : ℕ) → k < length i.jobs → (need_at i k 0).time ≡ 1) where
  works : HasWork (frame_of i)
  works = record { some = λ j b. (0, subst (λ k. HasOperation k i j 0) (sym kind) refl, subst (λ k. 1 ≤ whole_work k i j 0) (sym kind) (omega (arith, ones j b))) }

  -- jobs that pass a test, by their times
  together : (test : ℕ → Bool) → time_together i test ≡ total_below (length i.jobs) (λ j. one_if (test j))
  together test = total_below-range (length i.jobs) (λ j. cond (test j) (need_at i j 0).time 0)
      ∙ total_below-same (length i.jobs) _ (λ j. one_if (test j)) (λ j b. ap (λ x. cond (test j) x 0) (ones j b))

  -- in a schedule whose pieces last one unit and begin at multiples of it
  module _ (s : Schedule) (f : Feasible i s) (unit : ℕ) (unit_is : s.unit ≡ pos unit) (pieces : All (FillsUnit unit) s.pieces) where
    some_unit : 1 ≤ unit
    some_unit = le-pos (subst (λ x. pos 1 ≤ℤ x) unit_is f.unit)

    -- the whole moment at which the job begins
    abbrev begin : ℕ → ℕ
    begin j = nat_abs (end_of s j) / unit - 1

    begin_is : (j q : ℕ) → end_of s j ≡ pos (unit * q + unit) → begin j ≡ q
    begin_is j q e = omega (arith, ap (λ x. nat_abs x / unit) e, ap (λ n. n / unit) (sym (mul-suc unit q)), mul-div_cancel_left (suc q) {n = unit} some_unit)

    record IsRun (j : ℕ) : Type 0 where
      piece : Piece
      here : Contains s.pieces piece
      of : piece.job ≡ j
      from : piece.from ≡ pos (unit * begin j)
      end : end_of s j ≡ pos (unit * begin j + unit)

    run : (j : ℕ) → j < length i.jobs → IsRun j
    run j b =
        let (p, c, e, r) = last_end-reached (frame_of i) s.unit s.pieces (Fits-from_feasible i s (IsShaped-from_identical i kind) f) works j b in
        let (q, from, to) = All-contains (FillsUnit unit) s.pieces p pieces c in
        let is : begin j ≡ q = begin_is j q (sym r ∙ to) in
        record { piece = p; here = c; of = e; from = from ∙ ap (λ n. pos (unit * n)) (sym is); end = sym r ∙ to ∙ ap (λ n. pos (unit * n + unit)) (sym is) }

    -- its one piece begins then
    only : (uncut : i.class.cut ≡ false) (p : Piece) → Contains s.pieces p → p.from ≡ pos (unit * begin p.job)
    only uncut p c =
        let place = All-contains (HasPlace i) s.pieces p f.place c in
        let op : p.op ≡ 0 = subst (λ k. HasOperation k i p.job p.op) kind place.operation in
        let (q, e) = ((Fits-from_feasible i s (IsShaped-from_identical i kind) f).work p.job 0 place.job (subst (λ k. HasOperation k i p.job 0) (sym kind) refl)).one uncut in
        let r = run p.job place.job in
        let rop : r.piece.op ≡ 0 = subst (λ k. HasOperation k i r.piece.job r.piece.op) kind (All-contains (HasPlace i) s.pieces r.piece f.place r.here).operation in
        ap (λ x. x.from) (same q p.job e p c refl op ∙ sym (same q p.job e r.piece r.here r.of rop)) ∙ r.from
      where
        same : (q : Piece) (j : ℕ) → of_operation s.pieces j 0 ≡ q ∷ [] → (p : Piece) → Contains s.pieces p → p.job ≡ j → p.op ≡ 0 → p ≡ q
        same q j e p c a b =
            let passes : ((p.job == j) && (p.op == 0)) ≡ true = subst₂ (λ x y. (x && y) ≡ true) (sym (eq-eqb p.job j a)) (sym (eq-eqb p.op 0 b)) refl in
            let only = All-cons (λ x. x ≡ q) q [] refl (All-nil (λ x. x ≡ q)) in
            All-contains (λ x. x ≡ q) (q ∷ []) p only (subst (λ ps. Contains ps p) e (Contains-filter (λ p. (p.job == j) && (p.op == 0)) s.pieces p c passes))

    released : (j : ℕ) → j < length i.jobs → head_at i j ≤ begin j
    released j b =
        let r = run j b in
        let head = All-contains (λ p. (s.unit *ℤ pos (job_at i p.job).release) ≤ℤ p.from) s.pieces r.piece f.release r.here in
        le_of_mul-le-mul_left {k = unit}
        (le-pos (subst₂ (λ x y. x ≤ℤ y) (ap (λ u. u *ℤ pos (job_at i r.piece.job).release) unit_is ∙ ap (λ k. pos (unit * (job_at i k).release)) r.of) r.from head)) some_unit

    few : (uncut : i.class.cut ≡ false) (x : ℕ) → begin_at (length i.jobs) begin x ≤ i.machines
    few uncut x = le_of_mul-le-mul_left {k = unit} (le_trans (le-pos (subst (λ z. pos (unit * begin_at (length i.jobs) begin x) ≤ℤ (pos i.machines *ℤ z))
        (apart (unit * x) unit) (subst₂ (λ u n. (u *ℤ pos n) ≤ℤ (pos i.machines *ℤ (pos (unit * x + unit) -ℤ pos (unit * x)))) unit_is (together test) has)))
        (le_of_eq (mul_comm i.machines unit))) some_unit
      where
        test : ℕ → Bool
        test j = eqb (begin j) x

        apart : (a b : ℕ) → pos (a + b) -ℤ pos a ≡ pos b
        apart a b = omega (arith, ints)

        from : BeginsFrom (pos (unit * x)) test s
        from k d l e = let p = get_or s.pieces k d in subst (λ z. pos (unit * x) ≤ℤ z) (sym (only uncut p (Contains-get_or s.pieces k d l)))
            (subst (λ y. pos (unit * x) ≤ℤ pos (unit * y)) (sym (eqb-true (begin p.job) x e)) (≤ℤ_refl (pos (unit * x))))

        to : (j : ℕ) → j < length i.jobs → test j ≡ true → end_of s j ≤ℤ pos (unit * x + unit)
        to j b e = subst (λ z. z ≤ℤ pos (unit * x + unit)) (sym ((run j b).end ∙ ap (λ y. pos (unit * y + unit)) (eqb-true (begin j) x e))) (≤ℤ_refl (pos (unit * x + unit)))

        has : HasRoom i s test (pos (unit * x)) (pos (unit * x + unit))
        has = law_of_ends.room i s test (pos (unit * x)) (pos (unit * x + unit)) kind f (zero-le-pos (unit * x)) (pos-le (omega arith)) from to

    HasBegins-here : i.class.cut ≡ false → HasBegins i s begin
    HasBegins-here uncut = record {
      seated = record { released = released; few = few uncut };
      ends = λ j b. subst₂ (λ u e. (u *ℤ pos (begin j + 1)) ≤ℤ e) (sym unit_is) (sym (run j b).end) (pos-le (omega arith));
    }

-- every feasible schedule has such moments
pub begins_of : (i : Instance) (s : Schedule) → kind_of i.class.env ≡ Identical
    → i.class.cut ≡ false → ((k : ℕ) → k < length i.jobs → (need_at i k 0).time ≡ 1) → Feasible i s → (begin : ℕ → ℕ) × HasBegins i s begin
begins_of i s kind uncut ones f =
    let (g, no_later) = law_of_floors i s kind uncut ones f in
    let unit_is : s.unit ≡ pos (nat_abs s.unit) = natural s.unit (omega (arith, ints, f.unit)) in
    let h = HasBegins-here i kind ones (floored s) g (nat_abs s.unit) unit_is (floored-fills s f.unit) uncut in
    (begin i kind ones (floored s) g (nat_abs s.unit) unit_is (floored-fills s f.unit), record { seated = h.seated; ends = λ j b. ≤ℤ_trans (h.ends j b) (no_later j) })
