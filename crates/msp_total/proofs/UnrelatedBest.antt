-- Jobs at the positions of a least assignment, as a schedule on unrelated machines: it is feasible and best, and lies within the bounds.
use Rattle.std.proofs.Common.{◌≡◌, ℕ, zero, suc, ◌+◌, ◌*◌, ◌/◌, ◌%◌, ◌<◌, ◌≤◌, Bool, true, false, cond, eqb, inl, inr, List, length, map, ℤ, pos, ◌+ℤ◌, ◌*ℤ◌, add-zero, add-suc, mul-zero, mul_comm, ◌≢◌}
use Rattle.std.proofs.Common.{◌≤ℤ◌, All, refl, sym, ap, ap₂, subst, ◌∙◌, arith}
use Rattle.std.proofs.lemmas.Bool.{eqb-true}
use Rattle.std.proofs.lemmas.Int.{ints}
use Rattle.std.proofs.Math.Nat.{mul-le-mul_left, mul-le-mul_right, div-mul-le_self, div-add-mod}
use Rattle.std.proofs.lemmas.List.{get_or_default}
use Rattle.std.proofs.lemmas.List.Elements.{All-contains}
use Rattle.msp_class.specs.declared.sizes.TheConstants.{GREATEST, GREATEST_MULTIPLE}
use lib.Arith.{digits_div, digits_mod}
use Rattle.msp_class.proofs.IntegerRing.{pos-le, ≤ℤ_trans, one-*ℤ}
use Rattle.msp_class.specs.Sums.{total_below, int_total_below}
use Rattle.msp_class.proofs.Sums.{cond-yes, cond-no, total_below-mono, int_total_below-same, int_total_below-natural, OnceBelow}
use Rattle.msp_class.proofs.Sums.{OnceBelow-from_permutation}
use Rattle.msp_instance.specs.declared.Instance.{Instance}
use Rattle.msp_instance.specs.Instance.{no_job, need_at}
use Rattle.msp_pieces.specs.declared.Piece.{Piece}
use Rattle.msp_pieces.specs.declared.Schedule.{Schedule}
use Rattle.msp_pieces.specs.Feasible.{IsWholeWork}
use Rattle.msp_pieces.specs.Cost.{cost_of, Best}
use Rattle.msp_pieces.specs.Prices.{ArePrices, all_prices, prices_on_machine}
use Rattle.msp_pieces.proofs.bounds.PriceBounds.{law_of_prices, total_over_range}
use Rattle.msp_route.specs.Bounds.{IsBestAnswer, answer_unit}
use Rattle.msp_assign.specs.declared.assignment.Assignment.{Assignment}
use Rattle.msp_assign.specs.Prices.{column_of, price_at}
use Rattle.msp_pieces.proofs.feasible.OneEach.{IsUncut-unrelated}
use Rattle.msp_total.specs.declared.lay.Place.{Place}
use Rattle.msp_total.specs.declared.positions.Positions.{Positions}
use Rattle.msp_total.specs.declared.unrelated.Chosen.{Chosen}
use Rattle.msp_total.specs.Places.{no_place, ArePlaces, laid}
use Rattle.msp_total.specs.Positions.{time_in, position_cost}
use Rattle.msp_total.specs.Turns.{machine_at}
use Rattle.msp_total.specs.Multipliers.{seats}
use Rattle.msp_total.specs.Columns.{IsTableOf, HasShortTimes, IsPositioned, no_chosen, chosen_at, IsByColumn, ArePlacesOf}
use Rattle.msp_total.proofs.ColumnSteps.{machine_inside}
use Rattle.msp_total.proofs.LaidJobs.{piece_before, piece_long, length_at}
use Rattle.msp_total.proofs.LaidSchedule.{IsPlain, AreFitting, schedule_of, laid_is_feasible, laid_costs, laid_is_answer}
use Rattle.msp_total.proofs.UnrelatedFacts.{IsUnrelatedInstance, times}
use Rattle.std.proofs.lemmas.Bool.{cases_lt}
use Rattle.msp_slots.proofs.LeastCosts.{IsBestAt-from}
use Rattle.msp_total.proofs.ListedJobs.{listed_count, listed_inside, listed_once, listed_total, listed_places}

-- ---- totals of integers
int_total_below-split : (a b : ℕ) (f : ℕ → ℤ) → int_total_below (a + b) f ≡ int_total_below a f +ℤ int_total_below b (λ k. f (a + k))
int_total_below-split a zero f = ap (λ k. int_total_below k f) (add-zero a) ∙ omega (arith, ints)
int_total_below-split a (suc b) f =
    ap (λ k. int_total_below k f) (add-suc a b)
    ∙ by (int_total_below (a + b) f) (int_total_below a f) (int_total_below b (λ k. f (a + k))) (f (a + b)) (int_total_below-split a b f)
  where
    by : (w x y z : ℤ) → w ≡ x +ℤ y → w +ℤ z ≡ x +ℤ (y +ℤ z)
    by w x y z e = omega (arith, ints)

-- by machine
by_machine : (each machines : ℕ) (v : ℕ → ℤ) → int_total_below (each * machines) v ≡ int_total_below machines (λ m. int_total_below each (λ k. v (m * each + k)))
by_machine each zero v = ap (λ k. int_total_below k v) (mul-zero each)
by_machine each (suc m) v =
    let next : each * suc m ≡ m * each + each = omega arith in
    ap (λ k. int_total_below k v) next ∙ int_total_below-split (m * each) each v
    ∙ ap (λ x. x +ℤ int_total_below each (λ k. v (m * each + k))) (ap (λ k. int_total_below k v) (mul_comm m each) ∙ by_machine each m v)

-- ---- positions by rising column
-- of the columns of a machine that come before a moment in the order, no more are taken than lie below
below_column : (each : ℕ) (column machine : ℕ → ℕ) (r m x : ℕ) → ((a : ℕ) → a < r → machine a * each ≤ column a)
    → ((a b : ℕ) → a < b → b < r → column a < column b) → ((a : ℕ) → a < r → column a < x) → m * each ≤ x → seats machine r m + m * each ≤ x
below_column each column machine zero m x starts rises under low = omega (arith, low)
below_column each column machine (suc r) m x starts rises under low =
    by (eqb (machine r) m) refl
    (λ e. below_column each column machine r m (column r) (λ a l. starts a (omega arith)) (λ a b l h. rises a b l (omega arith))
    (λ a l. rises a r l (omega arith)) (subst (λ k. k * each ≤ column r) (eqb-true (machine r) m e) (starts r (omega arith))))
    (below_column each column machine r m x (λ a l. starts a (omega arith)) (λ a b l h. rises a b l (omega arith)) (λ a l. under a (omega arith)) low)
  where
    by : (b : Bool) → eqb (machine r) m ≡ b → (eqb (machine r) m ≡ true → seats machine r m + m * each ≤ column r)
        → seats machine r m + m * each ≤ x → seats machine r m + cond (eqb (machine r) m) 1 0 + m * each ≤ x
    by true e taken other = omega (arith, taken e, under r (omega arith), cond-yes 1 e)
    by false e taken other = omega (arith, other, cond-no 1 e)

pub IsPlain-from_unrelated : (i : Instance) → IsUnrelatedInstance i → IsPlain i
IsPlain-from_unrelated i h = record {
  uncut = IsUncut-unrelated i h.kind h.cut h.few;
  crit = h.crit;
  arcs = h.arcs;
  release = λ j l. (h.jobs j no_job l).release;
}

module _ (i : Instance) (h : IsUnrelatedInstance i) (p : Positions) (table : IsTableOf i p) where
  abbrev n : ℕ
  n = length i.jobs

  abbrev time : ℕ → ℕ → ℕ
  time j m = (need_at i j m).time

  pub read : (j m : ℕ) → j < n → m < i.machines → time_in p.machines p.times j m ≡ time j m
  read j m l k = ap (λ w. time_in w p.times j m) table.machines ∙ table.times.each j m (omega (arith, l, table.jobs)) k

  pub short_times : HasShortTimes p
  short_times j m l k =
      let a : j < n = omega (arith, l, table.jobs) in
      let b : m < i.machines = omega (arith, k, table.machines) in
      omega (arith, read j m a b, (times i h j m a b).1)

  module _ (a : Assignment) (placing : IsPositioned p a) where
    abbrev each : ℕ
    each = p.jobs

    abbrev row : ℕ → ℤ
    row j = price_at a.row_price j

    abbrev position : ℕ → ℤ
    position c = price_at a.column_price c

    abbrev at : ℕ → ℕ
    at j = column_of a.column j

    columns_is : each * p.machines ≡ each * i.machines
    columns_is = ap (λ w. each * w) table.machines

    at-inside : (j : ℕ) → j < n → at j < each * i.machines
    at-inside j l = omega (arith, placing.assigned.inside j 0 (omega (arith, l, placing.assigned.all, table.jobs)), columns_is)

    -- what a job costs at a column
    abbrev cost_at : ℕ → ℕ → ℕ
    cost_at j c = (c % each + 1) * time j (c / each)

    cost_is : (j c : ℕ) → j < n → c < each * i.machines → position_cost each p.machines p.times j c ≡ pos (cost_at j c)
    cost_is j c l k = ap (λ x. pos ((c % each + 1) * x)) (read j (c / each) l (machine_inside each i.machines c k))

    abbrev pub value : ℕ
    value = total_below n (λ j. cost_at j (at j))

    -- all prices together are the cost of the assignment
    total_is : int_total_below n row +ℤ int_total_below (each * i.machines) position ≡ pos value
    total_is =
        sym (ap₂ (λ x y. int_total_below x row +ℤ int_total_below y position) table.jobs columns_is) ∙ sym placing.total
        ∙ ap (λ x. int_total_below x (λ j. position_cost each p.machines p.times j (at j))) table.jobs
        ∙ int_total_below-natural n (λ j. position_cost each p.machines p.times j (at j)) (λ j. cost_at j (at j)) (λ j l. cost_is j (at j) l (at-inside j l))

    -- the price of the position on machine m that k jobs follow
    abbrev position_price : ℕ → ℕ → ℤ
    position_price m k = position (m * each + k)

    pub prices_are : all_prices i row position_price ≡ pos value
    prices_are =
        ap₂ (λ x y. x +ℤ y) (total_over_range n row)
        (total_over_range i.machines (prices_on_machine i position_price) ∙ int_total_below-same i.machines _ (λ m. int_total_below each (λ k. position (m * each + k)))
        (λ m l. total_over_range n (position_price m) ∙ ap (λ x. int_total_below x (position_price m)) (sym table.jobs)) ∙ sym (by_machine each i.machines position))
        ∙ total_is

    pub prices_fit : ArePrices i row position_price
    prices_fit = record {
      low = λ m k l b. placing.priced.low (m * each + k) (omega (arith, inside m k l (omega (arith, b, table.jobs)), columns_is));
      fair = λ j m k l b c.
          let less : k < each = omega (arith, c, table.jobs) in
          subst (λ x. (row j +ℤ position (m * each + k)) ≤ℤ x) (cost_is j (m * each + k) l (inside m k b less) ∙ ap₂ (λ x y. pos ((x + 1) * time j y)) (digits_mod m less) (digits_div m less))
          (placing.priced.at_most j (m * each + k) (omega (arith, l, table.jobs)) (omega (arith, inside m k b less, columns_is)));
    }
      where
        inside : (m k : ℕ) → m < i.machines → k < each → m * each + k < each * i.machines
        inside m k l b = let s : (m + 1) * each ≤ i.machines * each = mul-le-mul_right each (omega arith) in omega (arith, s)

    -- ---- the jobs by rising column
    module _ (column : List ℕ) (same_column : column ≡ a.column) (chosen listed : List Chosen) (sorted : IsByColumn (length column) column chosen) (same_chosen : listed ≡ chosen) where
      abbrev job : ℕ → ℕ
      job r = (chosen_at chosen r).job

      abbrev column_at : ℕ → ℕ
      column_at r = (chosen_at chosen r).column

      column-count : length column ≡ n
      column-count = ap length same_column ∙ placing.assigned.all ∙ table.jobs

      once : OnceBelow n (map (λ c. c.job) chosen)
      once = subst (λ k. OnceBelow k (map (λ c. c.job) chosen)) column-count (OnceBelow-from_permutation sorted.all)

      chosen-count : length chosen ≡ n
      chosen-count = listed_count (λ (c : Chosen). c.job) no_chosen chosen once

      job-inside : (r : ℕ) → r < n → job r < n
      job-inside = listed_inside (λ (c : Chosen). c.job) no_chosen chosen once

      job-apart : (r q : ℕ) → r < q → q < n → job r ≡ job q → ⊥
      job-apart r q l m e = absurd (omega (arith, l, listed_once (λ (c : Chosen). c.job) no_chosen chosen once r q (omega arith) m e))

      column-is : (r : ℕ) → r < n → column_at r ≡ at (job r)
      column-is r l = sorted.columns r no_chosen (omega (arith, l, chosen-count)) ∙ ap (λ xs. column_of xs (job r)) same_column

      column-inside : (r : ℕ) → r < n → column_at r < each * i.machines
      column-inside r l = omega (arith, column-is r l, at-inside (job r) (job-inside r l))

      at-once : (j k : ℕ) → j < n → k < n → (j ≡ k → ⊥) → at j ≡ at k → ⊥
      at-once j k l m ne e = elim (cases_lt j k) [ inl less ↦ apart j k less m e | inr more ↦ apart k j (omega (arith, more, ne)) l (sym e) ]
        where
          apart : (j k : ℕ) → j < k → k < n → at j ≡ at k → ⊥
          apart j k l m e = placing.assigned.apart j k 0 l (omega (arith, m, placing.assigned.all, table.jobs)) e

      rises : (r q : ℕ) → r < q → q < n → column_at r < column_at q
      rises r q l m =
          let apart : column_at r ≢ column_at q = λ e.
          at-once (job r) (job q) (job-inside r (omega arith)) (job-inside q m) (job-apart r q l m) (sym (column-is r (omega arith)) ∙ e ∙ column-is q m) in
          omega (arith, sorted.rising r q no_chosen l (omega (arith, m, chosen-count)), apart)

      pub chosen_inside : All (λ c. (c.job < p.jobs) × (c.column < each * p.machines)) listed
      chosen_inside = subst (All (λ c. (c.job < p.jobs) × (c.column < each * p.machines))) (sym same_chosen) inside
        where
          inside : All (λ c. (c.job < p.jobs) × (c.column < each * p.machines)) chosen
          inside r d l =
              let below : r < n = omega (arith, l, chosen-count) in
              subst (λ (c : Chosen). (c.job < p.jobs) × (c.column < each * p.machines))
              (get_or_default chosen r no_chosen d l) (omega (arith, job-inside r below, table.jobs), omega (arith, column-inside r below, columns_is))

      module _ (places : List Place) (turns : ArePlacesOf p listed places) where
        abbrev machine : ℕ → ℕ
        machine r = machine_at places r

        count : length places ≡ n
        count = turns.count ∙ ap length same_chosen ∙ chosen-count

        machine-is : (r : ℕ) → r < n → machine r ≡ column_at r / each
        machine-is r l = (turns.placed r (omega (arith, l, count))).1 ∙ ap (λ xs. (chosen_at xs r).column / each) same_chosen

        length-is : (r : ℕ) → r < n → length_at places r ≡ time (job r) (column_at r / each)
        length-is r l = (turns.placed r (omega (arith, l, count))).2 ∙ ap (λ xs. time_in p.machines p.times (chosen_at xs r).job ((chosen_at xs r).column / each)) same_chosen
            ∙ read (job r) (column_at r / each) (job-inside r l) (machine_inside each i.machines (column_at r) (column-inside r l))

        -- a job is followed by no more jobs than its position says
        position-is : (r : ℕ) → r < n → seats machine r (machine r) + 1 ≤ column_at r % each + 1
        position-is r l =
            let below = below_column each column_at machine r (machine r)
            (column_at r) (λ a m. starts a (omega arith)) (λ a b m k. rises a b m (omega arith)) (λ a m. rises a r m l) (starts r l) in omega (arith, below, parts r l)
          where
            starts : (r : ℕ) → r < n → machine r * each ≤ column_at r
            starts r l = omega (arith, ap (λ x. x * each) (machine-is r l), div-mul-le_self (column_at r) each)

            parts : (r : ℕ) → r < n → column_at r ≡ machine r * each + column_at r % each
            parts r l = omega (arith, ap (λ x. x * each) (machine-is r l), div-add-mod (column_at r) each)

        same-jobs : map (λ q. q.job) places ≡ map (λ c. c.job) chosen
        same-jobs = listed_places (λ (c : Chosen). c.job) no_chosen chosen once places (turns.count ∙ ap length same_chosen)
            (λ r l. (turns.placed r l).0 ∙ ap (λ xs. (chosen_at xs r).job) same_chosen)

        record IsMeant (q : Place) : Type 0 where
          machine_is : q.machine < i.machines
          lasts : 0 < q.length
          short : q.length ≤ GREATEST * GREATEST_MULTIPLE
          work : q.length ≡ time q.job q.machine

        meant : All IsMeant places
        meant r d l =
            let below : r < n = omega (arith, l, count) in
            let on : column_at r / each < i.machines = machine_inside each i.machines (column_at r) (column-inside r below) in
            subst IsMeant (get_or_default places r no_place d l) (record {
              machine_is = omega (arith, machine-is r below, on);
              lasts = omega (arith, length-is r below, (times i h (job r) (column_at r / each) (job-inside r below) on).0);
              short = omega (arith, length-is r below, (times i h (job r) (column_at r / each) (job-inside r below) on).1);
              work = length-is r below ∙ sym (ap₂ time ((turns.placed r l).0 ∙ ap (λ xs. (chosen_at xs r).job) same_chosen) (machine-is r below));
            })

        pub fitting : AreFitting i 1 places
        fitting = record {
          some = omega arith;
          few = omega arith;
          bounded = subst (λ k. pos 1 ≤ℤ answer_unit k) (sym h.kind) (omega (arith, ints));
          jobs = subst (OnceBelow n) (sym same-jobs) once;
          inside = λ k d l. (meant k d l).machine_is;
          lasts = λ k d l. (meant k d l).lasts;
          short = λ k d l. (meant k d l).short;
          work = λ q rest c. subst (λ k. IsWholeWork k i (pos 1) (piece_before q rest))
              (sym h.kind) (piece_long q rest ∙ ap pos (All-contains IsMeant places q meant c).work ∙ sym (one-*ℤ (pos (time q.job q.machine))));
        }

        abbrev s : Schedule
        s = schedule_of 1 places

        pub upper : cost_of i s ≤ℤ pos value
        upper = ≤ℤ_trans (laid_costs i (IsPlain-from_unrelated i h) 1 places fitting)
            (pos-le (subst (λ x. x ≤ value) (ap (λ k. total_below k (λ r. length_at places r * (seats machine r (machine r) + 1))) (sym count))
            (subst (λ x. total_below n (λ r. length_at places r * (seats machine r (machine r) + 1)) ≤ x) (sym reordered) (total_below-mono n _ _ term))))
          where
            reordered : value ≡ total_below n (λ r. cost_at (job r) (at (job r)))
            reordered = listed_total (λ (c : Chosen). c.job) no_chosen chosen once (λ j. cost_at j (at j))

            term : (r : ℕ) → r < n → length_at places r * (seats machine r (machine r) + 1) ≤ cost_at (job r) (at (job r))
            term r l = subst (λ c. length_at places r * (seats machine r (machine r) + 1) ≤ cost_at (job r) c) (column-is r l)
                (let t = time (job r) (column_at r / each) in
                omega (arith, ap (λ y. y * (seats machine r (machine r) + 1)) (length-is r l), mul-le-mul_left t (position-is r l)))

        pub best : Best i s
        best = (IsBestAt-from i (laid places) (pos value) (laid_is_feasible i (IsPlain-from_unrelated i h) 1 places fitting) upper
            (λ t f. subst (λ x. (t.unit *ℤ x) ≤ℤ cost_of i t) prices_are (law_of_prices i t row position_price h.kind h.cut h.crit f prices_fit))).best

        pub places_small : (laid_places : List Place) → laid_places ≡ places → ArePlaces laid_places
        places_small laid_places e = subst ArePlaces (sym e) (omega (arith, count, h.few), λ k d l. (omega (arith, fitting.inside k d l, h.machines), fitting.short k d l))

        pub answer_read : (laid_places : List Place) (pieces : List Piece) → laid_places ≡ places → pieces ≡ laid laid_places → IsBestAnswer i (record { unit = pos 1; pieces = pieces })
        answer_read laid_places pieces e all = subst (λ x. IsBestAnswer i (record { unit = pos 1; pieces = x })) (sym (all ∙ ap laid e)) (record {
          best = best;
          answer = laid_is_answer i (IsPlain-from_unrelated i h) 1 places fitting;
        })
