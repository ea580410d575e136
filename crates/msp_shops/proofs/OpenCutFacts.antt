-- Open shops with preemption: what an instance has, the lines of its matrix of times, and why laid slices are best.
use Rattle.std.proofs.Common.{◌≡◌, ◌≢◌, ℕ, suc, ◌+◌, ◌*◌, ◌<◌, ◌≤◌, ◌⊎◌, inl, inr, true, List, [], ◌∷◌, ◌++◌, length, get_or, map, All, AllPairs, MatchBool, ℤ, pos}
use Rattle.std.proofs.Common.{◌+ℤ◌, ◌*ℤ◌, ◌≤ℤ◌, append_assoc, refl, sym, ap, ap₂, subst, subst₂, ◌∙◌, arith}
use Rattle.std.specs.List.{range_with_len}
use Rattle.std.proofs.lemmas.Int.{ints}
use Rattle.std.proofs.lemmas.Nat.{mul-le}
use Rattle.std.proofs.lemmas.Bool.{cases_lt}
use Rattle.std.proofs.lemmas.List.{get_or_append_left, get_or-append-add, length-append}
use Rattle.std.proofs.lemmas.List.FromFn.{get_or-map-range_with_len, length-map-range_with_len, map-range_with_len_more}
use Rattle.msp_class.specs.declared.sizes.TheConstants.{MOST_JOBS, MOST_MACHINES, MOST_PIECES}
use Rattle.msp_class.specs.Env.{kind_of}
use Rattle.msp_class.specs.Sums.{total_below}
use Rattle.msp_class.proofs.IntegerRing.{one-*ℤ, pos-le}
use Rattle.msp_class.proofs.Sums.{int_total_below-natural}
use Rattle.msp_class.specs.declared.class.Env.{Env}
use Rattle.msp_instance.specs.declared.Instance.{Instance}
use Rattle.msp_instance.specs.Instance.{no_job, job_at, need_at}
use Rattle.msp_instance.specs.Conditions.{Inner}
use Rattle.msp_pieces.specs.declared.Piece.{Piece}
use Rattle.msp_pieces.specs.declared.Schedule.{Schedule}
use Rattle.msp_pieces.specs.declared.Frac.{Frac}
use Rattle.msp_pieces.specs.Fraction.{IsOver}
use Rattle.msp_pieces.specs.Piece.{pieces_of, IsApart}
use Rattle.msp_pieces.specs.Feasible.{Feasible, HasPlace, HasOperation, MayRun, FollowsRoute, GetsWork, IsWholeWork, total as sum, whole_work, work_of}
use Rattle.msp_pieces.specs.Cost.{cost_of}
use Rattle.msp_pieces.specs.Loads.{machine_load, job_length}
use Rattle.msp_pieces.proofs.feasible.OfClass.{IsOfClass-from}
use Rattle.msp_pieces.proofs.feasible.BackToBack.{ordered_without_arcs}
use Rattle.msp_timetable.specs.declared.matrix.Matrix.{Matrix}
use Rattle.msp_timetable.specs.declared.matrix.Slice.{Slice}
use Rattle.msp_timetable.specs.Split.{cell, row_sum, column_sum, total, IsMatrix, IsGreatestSum, IsSplit}
use Rattle.msp_shops.specs.OpenCut.{open_cut_class, IsGreatestLine, IsOpenCutCost}
use Rattle.msp_shops.specs.Joined.{AreJoined}
use Rattle.msp_shops.specs.Sliced.{AreTimes, IsTimeMatrix, IsCutPlan}
use Rattle.msp_shops.proofs.Shops.{IsBestPlan, IsBestPlan-from_feasible, over_one}
use Rattle.msp_shops.proofs.SlicedPieces.{Differ, IsLaidPiece, AreLaid, AreLaid-parts}
use Rattle.msp_shops.proofs.Joining.{AreLaid-joined}
use Rattle.msp_shops.proofs.OpenFacts.{IsOpenShop, IsOpenShop-from, load_is, length_is, load_short, length_short, end_short, least_end}

pub IsOpenShop-from_cut : (i : Instance) → i.class ≡ open_cut_class → Inner i → IsOpenShop i
IsOpenShop-from_cut i e inner = IsOpenShop-from i Env.O true refl (IsOfClass-from i open_cut_class e inner)

-- the most slices
abbrev most_slices : ℕ
most_slices = MOST_MACHINES * MOST_JOBS + 2 * (MOST_MACHINES + MOST_JOBS)

module _ (i : Instance) (h : IsOpenShop i) (cut : i.class.cut ≡ true) where
  -- ---- the matrix of times
  module _ (m : Matrix) (rows : m.rows ≡ i.machines) (columns : m.columns ≡ length i.jobs) (cells : (r c : ℕ) → r < m.rows → c < m.columns → cell m r c ≡ pos (need_at i c r).time) where
    row_is : (r : ℕ) → r < m.rows → row_sum m r ≡ pos (machine_load i r)
    row_is r l =
        int_total_below-natural m.columns (λ c. cell m r c) (λ c. (need_at i c r).time) (λ c b. cells r c l b)
        ∙ ap pos (ap (λ n. total_below n (λ c. (need_at i c r).time)) columns ∙ sym (load_is i h r (omega (arith, l, rows))))

    column_is : (c : ℕ) → c < m.columns → column_sum m c ≡ pos (job_length i c)
    column_is c l =
        int_total_below-natural m.rows (λ r. cell m r c) (λ r. (need_at i c r).time) (λ r b. cells r c b l)
        ∙ ap pos (ap (λ n. total_below n (λ r. (need_at i c r).time)) rows ∙ sym (length_is i h c (omega (arith, l, columns))))

    is_matrix : length m.cells ≡ m.rows * m.columns → IsMatrix m
    is_matrix whole = record {
      whole = whole;
      cells = λ r c l b. omega (arith, ints, cells r c l b);
      row_sums = λ r l. omega (arith, ints, row_is r l, load_short i h r (omega (arith, l, rows)));
      column_sums = λ c l. omega (arith, ints, column_is c l, length_short i h c (omega (arith, l, columns)));
    }

    greatest : (g : ℤ) → IsGreatestSum m g → (end : ℕ) × (g ≡ pos end) × IsGreatestLine i end
    greatest g w = by w.line
      where
        lines : (end : ℕ) → g ≡ pos end → ((k : ℕ) × (k < i.machines) × (end ≡ machine_load i k)) ⊎ ((j : ℕ) × (j < length i.jobs) × (end ≡ job_length i j)) → IsGreatestLine i end
        lines end e reached = record {
          loads = λ k l. let b : k < m.rows = omega (arith, l, rows) in omega (arith, ints, w.rows k b, row_is k b, e);
          lengths = λ j l. let b : j < m.columns = omega (arith, l, columns) in omega (arith, ints, w.columns j b, column_is j b, e);
          reached = reached;
        }

        by : ((r : ℕ) × (r < m.rows) × (row_sum m r ≡ g)) ⊎ ((c : ℕ) × (c < m.columns) × (column_sum m c ≡ g)) → (end : ℕ) × (g ≡ pos end) × IsGreatestLine i end
        by (inl (r, l, e)) = let is : g ≡ pos (machine_load i r) = sym e ∙ row_is r l in (machine_load i r, is, lines (machine_load i r) is (inl (r, omega (arith, l, rows), refl)))
        by (inr (c, l, e)) = let is : g ≡ pos (job_length i c) = sym e ∙ column_is c l in (job_length i c, is, lines (job_length i c) is (inr (c, omega (arith, l, columns), refl)))

    -- ---- the schedule
    module _ (slices : List Slice) (split : IsSplit m slices) (ps : List Piece) (laid : AreLaid m.rows m.columns slices ps) where
      abbrev g : ℤ
      g = total (λ s. s.length) slices

      each : All (IsLaidPiece m.rows m.columns slices (pos 0) (pos 0 +ℤ g)) ps
      each = laid.each

      pairs : AllPairs (λ p q. IsApart p q ⊎ Differ p q) ps
      pairs = laid.apart

      job_inside : (p : Piece) → IsLaidPiece m.rows m.columns slices (pos 0) (pos 0 +ℤ g) p → p.job < length i.jobs
      job_inside p a = omega (arith, a.job, columns)

      timely : (p : Piece) → IsLaidPiece m.rows m.columns slices (pos 0) (pos 0 +ℤ g) p → (p.op < length (job_at i p.job).needs) × ((need_at i p.job p.op).time ≢ 0)
      timely p a = (
        omega (arith, a.row, rows, h.needs p.job (job_inside p a)),
        λ z. omega (arith, ints, z, subst (λ x. pos 1 ≤ℤ x) (split.cells p.op p.job a.row a.job ∙ cells p.op p.job a.row a.job) a.uses),
      )

      place : (p : Piece) → IsLaidPiece m.rows m.columns slices (pos 0) (pos 0 +ℤ g) p → HasPlace i p
      place p a = record {
        job = job_inside p a;
        operation = subst (λ k. HasOperation k i p.job p.op) (sym h.kind) (timely p a);
        machine = subst (λ k. MayRun k i p.job p.op p.machine) (sym h.kind) (a.machine ∙ sym (h.machines p.job p.op (job_inside p a) (omega (arith, a.row, rows))));
      }

      released : (p : Piece) → IsLaidPiece m.rows m.columns slices (pos 0) (pos 0 +ℤ g) p → (pos 1 *ℤ pos (job_at i p.job).release) ≤ℤ p.from
      released p a = omega (arith, ints, h.shop.release p.job no_job (job_inside p a), a.from)

      works : (j o : ℕ) → j < length i.jobs → HasOperation (kind_of i.class.env) i j o → GetsWork i (over_one ps) j o
      works j o l op =
          let there : o < length (job_at i j).needs = (subst (λ k. HasOperation k i j o) h.kind op).0 in
          let row : o < m.rows = omega (arith, there, rows, h.needs j l) in
          let column : j < m.columns = omega (arith, l, columns) in
          subst₂ (λ b k. MatchBool b (sum (map (work_of k i) (pieces_of (over_one ps) j o)) ≡ pos 1 *ℤ pos (whole_work k i j o))
          ((p : Piece) × (pieces_of (over_one ps) j o ≡ p ∷ []) × IsWholeWork k i (pos 1) p)) (sym cut) (sym h.kind)
          (laid.work j o column row ∙ split.cells o j row column ∙ cells o j row column ∙ sym (one-*ℤ (pos (need_at i j o).time)))

      feasible : Feasible i (over_one ps)
      feasible = record {
        unit = omega (arith, ints);
        span = λ k d l. ((each k d l).from, (each k d l).lasts);
        place = λ k d l. place _ (each k d l);
        machine = λ a b d l k e. elim (pairs a b d l k) [ inl x ↦ x | inr x ↦ absurd (x.0 e) ];
        job = λ a b d l k e. elim (pairs a b d l k) [ inl x ↦ x | inr x ↦ absurd (x.1 e) ];
        release = λ k d l. released _ (each k d l);
        arc = ordered_without_arcs i.arcs ps h.shop.arcs;
        route = subst (λ k. FollowsRoute k ps) (sym h.kind) tt;
        work = works;
      }

      few : length ps ≤ MOST_PIECES
      few = by (length slices) m.rows m.columns laid.few split.few (omega (arith, rows, h.few_machines)) (omega (arith, columns, h.few))
        where
          by : (n r c : ℕ) → length ps ≤ n * r → n ≤ r * c + 2 * (r + c) → r ≤ MOST_MACHINES → c ≤ MOST_JOBS → length ps ≤ MOST_PIECES
          by n r c l s a b =
              let cells : r * c ≤ MOST_MACHINES * MOST_JOBS = mul-le r c MOST_MACHINES MOST_JOBS a b in
              let most : n ≤ most_slices = omega (arith, s, cells, a, b) in
              omega (arith, l, mul-le n r most_slices MOST_MACHINES most a)

      pub best_laid : (end : ℕ) × IsGreatestLine i end × IsBestPlan i end (over_one ps)
      best_laid =
          let (end, e, line) = greatest g split.lengths in (
            end,
            line,
            IsBestPlan-from_feasible i h.shop.kind h.shop.crit h.shop.some end (least_end i h end line) ps feasible few
                (λ k d l. let a = each k d l in omega (arith, ints, a.to, a.from, a.lasts, e)) (pos-le (omega (arith, end_short i h end line))),
          )

-- ---- as the code has it
pub row_next : (i : Instance) (k j : ℕ) (base old new : List ℤ) (x : ℤ) (t : ℕ) → new ≡ old ++ x ∷ [] → x ≡ pos t → t ≡ (need_at i j k).time
    → old ≡ base ++ map (λ j. pos (need_at i j k).time) (range_with_len 0 j) → new ≡ base ++ map (λ j. pos (need_at i j k).time) (range_with_len 0 (j + 1))
row_next i k j base old new x t e is time so_far =
    e ∙ ap₂ (λ l y. l ++ y ∷ []) so_far (is ∙ ap pos time) ∙ append_assoc base (map (λ j. pos (need_at i j k).time) (range_with_len 0 j)) (pos (need_at i j k).time ∷ [])
    ∙ ap (λ l. base ++ l) (sym (map-range_with_len_more (λ j. pos (need_at i j k).time) 0 j j (omega arith)))

pub AreTimes-next : (i : Instance) (k : ℕ) (old new : List ℤ) → new ≡ old ++ map (λ j. pos (need_at i j k).time) (range_with_len 0 (length i.jobs)) → AreTimes i k old → AreTimes i (k + 1) new
AreTimes-next i k old new e h = record {
  all = omega (arith, ap length e, length-append old row, length-map-range_with_len (λ j. pos (need_at i j k).time) 0 (length i.jobs), h.all);
  each = λ r c l b. ap (λ xs. get_or xs (r * length i.jobs + c) (pos 0)) e ∙ by r c b (cases_lt r k) l;
}
  where
    row : List ℤ
    row = map (λ j. pos (need_at i j k).time) (range_with_len 0 (length i.jobs))

    by : (r c : ℕ) → c < length i.jobs → (r < k) ⊎ (k ≤ r) → r < k + 1 → get_or (old ++ row) (r * length i.jobs + c) (pos 0) ≡ pos (need_at i c r).time
    by r c b (inl l) m =
        let most : suc r * length i.jobs ≤ k * length i.jobs = mul-le (suc r) (length i.jobs) k (length i.jobs) (omega (arith, l)) (omega arith) in
        get_or_append_left old row (pos 0) (r * length i.jobs + c) (omega (arith, most, b, h.all)) ∙ h.each r c l b
    by r c b (inr l) m =
        let z : r ≡ k = omega (arith, l, m) in
        let place : r * length i.jobs + c ≡ length old + c = omega (arith, ap (λ x. x * length i.jobs) z, h.all) in
        ap (λ x. get_or (old ++ row) x (pos 0)) place ∙ get_or-append-add old row c (pos 0)
        ∙ get_or-map-range_with_len (λ j. pos (need_at i j k).time) 0 (length i.jobs) c c (pos 0) b (omega arith)
        ∙ ap (λ x. pos (need_at i c x).time) (sym z)

pub IsTimeMatrix-made : (i : Instance) → i.class ≡ open_cut_class → Inner i → (m : Matrix) → m.rows ≡ i.machines → m.columns ≡ length i.jobs → AreTimes i i.machines m.cells → IsTimeMatrix i m
IsTimeMatrix-made i class inner m rows columns t =
    let cells : (r c : ℕ) → r < m.rows → c < m.columns → cell m r c ≡ pos (need_at i c r).time =
    λ r c l b. ap (λ n. get_or m.cells (r * n + c) (pos 0)) columns ∙ t.each r c (omega (arith, l, rows)) (omega (arith, b, columns)) in
    record {
      rows = rows;
      columns = columns;
      matrix = is_matrix i (IsOpenShop-from_cut i class inner) (ap (λ c. c.cut) class) m rows columns cells (t.all ∙ ap₂ ◌*◌ (sym rows) (sym columns));
      cells = cells;
    }

pub IsBestPlan-from_cut : (i : Instance) → i.class ≡ open_cut_class → Inner i → (pieces : List Piece) → IsCutPlan i pieces → (end : ℕ) × IsGreatestLine i end × IsBestPlan i end (over_one pieces)
IsBestPlan-from_cut i class inner pieces (m, slices, t, split, joins, apart) =
    best_laid i (IsOpenShop-from_cut i class inner) (ap (λ c. c.cut) class)
    m t.rows t.columns t.cells slices split pieces (AreLaid-joined m.rows m.columns slices joins (AreLaid-parts m.rows m.columns slices split.each))

pub AreJoined-from_cut : (i : Instance) (pieces : List Piece) → IsCutPlan i pieces → AreJoined pieces
AreJoined-from_cut i pieces (m, slices, t, split, joins, apart) = apart

pub IsOpenCutCost-read : (i : Instance) (cost : Frac) (s : Schedule) → (end : ℕ) × IsGreatestLine i end × IsBestPlan i end s → IsOver cost (cost_of i s) (pos 1) → IsOpenCutCost i cost
IsOpenCutCost-read i cost s (end, line, w) over = (end, line, subst (λ x. IsOver cost x (pos 1)) w.cost over)
