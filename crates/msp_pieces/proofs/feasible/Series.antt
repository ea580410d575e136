-- All operations one after another: in a frame without heads and routes it is feasible, and all ends when the times are over.
use Rattle.std.proofs.Common.{◌≡◌, ◌≢◌, ℕ, zero, suc, ◌*◌, ◌<◌, ◌≤◌, Bool, true, false, cond, List, [], ◌∷◌, ◌++◌, length, get_or, map, filter, All, AllPairs, Contains}
use Rattle.std.proofs.Common.{sum_by, pos, ◌*ℤ◌, ◌≤ℤ◌, inl, refl, sym, ap, ap₂, subst, ◌∙◌, arith}
use Rattle.std.specs.Prelude.{◌==◌, ◌&&◌}
use Rattle.std.proofs.lemmas.Bool.{eqb-true, eq-eqb, false≢true}
use Rattle.std.proofs.lemmas.Int.{ints}
use Rattle.std.proofs.lemmas.List.Sums.{sum_by-append}
use Rattle.std.proofs.lemmas.List.Elements.{All-nil, All-cons, All-head, All-tail, All-map, All-append, All-contains, Contains-append_left, Contains-append_right, Contains-get_or}
use Rattle.std.proofs.lemmas.List.Kept.{AllPairs-cons}
use Rattle.msp_class.proofs.Sums.{AllPairs-head, AllPairs-tail, Contains-tail, OnceBelow, OnceBelow-distinct, OnceBelow-contains}
use Rattle.msp_class.proofs.IntegerRing.{+ℤ_idl, *ℤ-zero}
use Rattle.msp_instance.specs.declared.Arc.{Arc}
use Rattle.msp_instance.proofs.ArcLemmas.{filter_none}
use Rattle.msp_pieces.specs.declared.Piece.{Piece}
use Rattle.msp_pieces.specs.Piece.{IsBefore, start, finish, IsTimed}
use Rattle.msp_pieces.specs.Feasible.{total}
use Rattle.msp_pieces.proofs.feasible.OneMachine.{both_true, length-timed}
use Rattle.msp_pieces.proofs.changes.Moves.{AllPairs-map, Contains-map, filter-map, one_from_map}
use Rattle.msp_pieces.proofs.feasible.Frames.{Frame, Lasts, Stands, Gets, Fits, of_operation, of_one, named_one, part}
use Rattle.msp_pieces.specs.BackToBack.{back_to_back}
use Rattle.msp_pieces.proofs.lists.BackToBack.{Makes, back_to_back-jobs, back_to_back-All, back_to_back-made, back_to_back-sizes, back_to_back-to, back_to_back-positive}
use Rattle.msp_pieces.proofs.lists.BackToBack.{back_to_back-in_order, back_to_back-arcs}

-- ---- lists
pub AllPairs-append : {X : Type 0} (R : X → X → Type 0) (xs ys : List X) → AllPairs R xs → AllPairs R ys → All (λ x. All (R x) ys) xs → AllPairs R (xs ++ ys)
AllPairs-append R [] ys h k across = k
AllPairs-append R (x ∷ xs) ys h k across = AllPairs-cons R x (xs ++ ys) (All-append (R x) xs ys (AllPairs-head R x xs h) (All-head (λ z. All (R z) ys) x xs across))
    (AllPairs-append R xs ys (AllPairs-tail R x xs h) k (All-tail (λ z. All (R z) ys) x xs across))

-- of a list in which no two pass a test, the test keeps the one that does
filter_one : {X : Type 0} (test : X → Bool) (xs : List X) (x : X) → AllPairs (λ a b. test a ≡ true → test b ≡ false) xs → Contains xs x → test x ≡ true → filter test xs ≡ x ∷ []
filter_one test [] x u c e = absurd (omega (arith, c.1))
filter_one {X} test (y ∷ ys) x u c e = by (test y) refl c (λ d. filter_one test ys x (AllPairs-tail (λ a b. test a ≡ true → test b ≡ false) y ys u) d e)
  where
    by : (b : Bool) → test y ≡ b → Contains (y ∷ ys) x → (Contains ys x → filter test ys ≡ x ∷ []) → cond b (y ∷ filter test ys) (filter test ys) ≡ x ∷ []
    by true k (zero, l, s) later = ap (λ z. z ∷ filter test ys) s ∙ ap (λ l. x ∷ l) (filter_none test ys (λ i d b. AllPairs-head (λ a b. test a ≡ true → test b ≡ false) y ys u i d b k))
    by true k (suc n, l, s) later = absurd (false≢true
        (sym (All-contains (λ b. test y ≡ true → test b ≡ false) ys x (AllPairs-head (λ a b. test a ≡ true → test b ≡ false) y ys u) (n, omega arith, s) k) ∙ e))
    by false k c later = later (Contains-tail y ys x c (λ s. false≢true (sym k ∙ ap test s ∙ e)))

-- what holds of 0 holds of all of the list of 0 alone
pub zero_only : (P : ℕ → Type 0) → P 0 → All P (0 ∷ [])
zero_only P p = All-cons P 0 [] p (All-nil P)

-- ---- tasks: the operations of jobs
pub record Task : Type 0 where
  pub job : ℕ
  pub op : ℕ

abbrev pub task : ℕ → ℕ → Task
task j o = record { job = j; op = o }

abbrev pub tasks_of : (ℕ → List ℕ) → ℕ → List Task
tasks_of ops j = map (task j) (ops j)

-- those of the jobs of a list, in order
abbrev pub tasks : (ℕ → List ℕ) → List ℕ → List Task
tasks ops [] = []
tasks ops (j ∷ js) = tasks_of ops j ++ tasks ops js

module _ (ops : ℕ → List ℕ) where
  tasks-All : (Q : Task → Type 0) (js : List ℕ) → All (λ j. All (λ o. Q (task j o)) (ops j)) js → All Q (tasks ops js)
  tasks-All Q [] h = All-nil Q
  tasks-All Q (j ∷ js) h = All-append Q (tasks_of ops j) (tasks ops js) (All-map Q (task j) (ops j) (All-head (λ i. All (λ o. Q (task i o)) (ops i)) j js h))
      (tasks-All Q js (All-tail (λ i. All (λ o. Q (task i o)) (ops i)) j js h))

  tasks-AllPairs : (R : Task → Task → Type 0) (js : List ℕ)
      → AllPairs (λ i j. (o n : ℕ) → R (task i o) (task j n)) js → All (λ j. AllPairs (λ o n. R (task j o) (task j n)) (ops j)) js → AllPairs R (tasks ops js)
  tasks-AllPairs R [] h k = λ i j d a b. absurd (omega arith)
  tasks-AllPairs R (j ∷ js) h k =
      let Own : ℕ → Type 0 = λ i. AllPairs (λ o n. R (task i o) (task i n)) (ops i) in
      let Across : ℕ → ℕ → Type 0 = λ i m. (o n : ℕ) → R (task i o) (task m n) in
      AllPairs-append R (tasks_of ops j) (tasks ops js)
      (AllPairs-map R (task j) (ops j) (All-head Own j js k))
      (tasks-AllPairs R js (AllPairs-tail Across j js h) (All-tail Own j js k))
      (All-map (λ x. All (R x) (tasks ops js)) (task j) (ops j)
      (λ a d l. tasks-All (R (task j (get_or (ops j) a d))) js (λ b e m c f n. AllPairs-head Across j js h b e m (get_or (ops j) a d) (get_or (ops (get_or js b e)) c f))))

  tasks-contains : (js : List ℕ) (j o : ℕ) → Contains js j → Contains (ops j) o → Contains (tasks ops js) (task j o)
  tasks-contains [] j o c d = absurd (omega (arith, c.1))
  tasks-contains (i ∷ js) j o (zero, l, e) d =
      Contains-append_left (tasks_of ops i) (tasks ops js) (task j o) (subst (λ x. Contains (tasks_of ops x) (task j o)) (sym e) (Contains-map (task j) (ops j) o d))
  tasks-contains (i ∷ js) j o (suc k, l, e) d = Contains-append_right (tasks_of ops i) (tasks ops js) (task j o) (tasks-contains js j o (k, omega arith, e) d)

  -- where the tasks of each job take at most b together
  pub tasks-sum : (time : Task → ℕ) (b : ℕ) (js : List ℕ) → All (λ j. sum_by time (tasks_of ops j) ≤ b) js → sum_by time (tasks ops js) ≤ length js * b
  tasks-sum time b [] h = omega arith
  tasks-sum time b (j ∷ js) h =
      let first = All-head (λ i. sum_by time (tasks_of ops i) ≤ b) j js h in
      let rest = tasks-sum time b js (All-tail (λ i. sum_by time (tasks_of ops i) ≤ b) j js h) in
      omega (arith, first, rest, sum_by-append time (tasks_of ops j) (tasks ops js))

-- ---- all tasks back to back
-- job j's operation o on the machine of that operation, from a to b
abbrev pub piece_on : (ℕ → ℕ → ℕ) → Task → ℕ → ℕ → Piece
piece_on machine x a b = record { job = x.job; op = x.op; machine = machine x.job x.op; from = pos a; to = pos b }

abbrev pub task_of : Piece → Task
task_of p = task p.job p.op

-- all operations of the jobs of a list, one after another
abbrev pub one_by_one : (ℕ → List ℕ) → (ℕ → ℕ → ℕ) → (ℕ → ℕ → ℕ) → List ℕ → List Piece
one_by_one ops machine time order = back_to_back (piece_on machine) (λ x. time x.job x.op) 0 (tasks ops order)

-- what operations the jobs have, and where and how long each may run as a whole over the unit D
pub record IsSerial (f : Frame) (D : ℕ) (ops : ℕ → List ℕ) (machine time : ℕ → ℕ → ℕ) : Type 0 where
  pub unit : 1 ≤ D
  pub has : (j : ℕ) → j < f.jobs → All (f.Has j) (ops j)
  pub all : (j o : ℕ) → j < f.jobs → f.Has j o → Contains (ops j) o
  pub once : (j : ℕ) → j < f.jobs → AllPairs (λ x y. x ≢ y) (ops j)
  pub may : (j : ℕ) → j < f.jobs → All (λ o. f.May j o (machine j o)) (ops j)
  pub some : (j : ℕ) → j < f.jobs → All (λ o. 0 < time j o) (ops j)
  pub rate : (j : ℕ) → j < f.jobs → All (λ o. time j o * f.rate j (machine j o) ≡ D * f.want j o) (ops j)
  pub heads : (j : ℕ) → j < f.jobs → f.head j ≡ 0
  pub unrouted : f.routed ≡ false

-- no arc leads from the job y to the job x
abbrev pub MayPrecede : List Arc → ℕ → ℕ → Type 0
MayPrecede arcs x y = (a : Arc) → Contains arcs a → a.before ≡ y → a.after ≡ x → ⊥

module _ (f : Frame) (D : ℕ) (ops : ℕ → List ℕ) (machine time : ℕ → ℕ → ℕ) (s : IsSerial f D ops machine time) (order : List ℕ) (o : OnceBelow f.jobs order) where
  abbrev time_of : Task → ℕ
  time_of x = time x.job x.op

  abbrev all_tasks : List Task
  all_tasks = tasks ops order

  abbrev series : List Piece
  series = one_by_one ops machine time order

  makes : Makes (piece_on machine) task_of start finish
  makes = record { job_is = λ x a b. refl; from_is = λ x a b. refl; to_is = λ x a b. refl }

  -- what holds of each operation of a job holds of each task
  each : (Q : ℕ → ℕ → Type 0) → ((j : ℕ) → j < f.jobs → All (Q j) (ops j)) → All (λ x. Q x.job x.op) all_tasks
  each Q h = tasks-All ops (λ x. Q x.job x.op) order (λ k d l. h (get_or order k d) (o.within k d l))

  pieces : (Q : ℕ → ℕ → Type 0) → ((j : ℕ) → j < f.jobs → All (Q j) (ops j)) → All (λ p. Q p.job p.op) series
  pieces Q h = back_to_back-All (piece_on machine) time_of makes (λ x. Q x.job x.op) 0 all_tasks (each Q h)

  made : All (λ p. p ≡ piece_on machine (task_of p) (start p) (finish p)) series
  made = back_to_back-made (piece_on machine) time_of makes 0 all_tasks

  timed : All IsTimed series
  timed k d l = let m = made k d l in record {
    from = ap (λ p. p.from) m;
    to = ap (λ p. p.to) m;
    lasts = back_to_back-positive (piece_on machine) time_of makes 0 all_tasks (each (λ j n. 0 < time j n) s.some) k d l;
  }

  lasts : All Lasts series
  lasts k d l = let t = timed k d l in (omega (arith, ints, t.from), omega (arith, ints, t.from, t.to, t.lasts))

  before : AllPairs IsBefore series
  before a b d h k = let e = back_to_back-in_order (piece_on machine) time_of makes 0 all_tasks a b d h k in omega (arith, ints, e, (timed a d (omega arith)).to, (timed b d k).from)

  stands : All (Stands f) series
  stands k d l =
      let p = get_or series k d in
      record {
        job = pieces (λ j n. j < f.jobs) (λ j h a e m. h) k d l;
        operation = pieces f.Has s.has k d l;
        machine = subst (f.May p.job p.op) (sym (ap (λ q. q.machine) (made k d l))) (pieces (λ j n. f.May j n (machine j n)) s.may k d l);
      }

  -- each piece is all its operation wants
  whole : All (λ p. part f p ≡ pos D *ℤ pos (f.want p.job p.op)) series
  whole k d l =
      let p = get_or series k d in
      let t = timed k d l in
      ap₂ (λ x m. x *ℤ pos (f.rate p.job m))
      (length-timed p t ∙ ap pos (omega (arith, back_to_back-sizes (piece_on machine) time_of makes 0 all_tasks k d l))) (ap (λ q. q.machine) (made k d l))
      ∙ ap pos (pieces (λ j n. time j n * f.rate j (machine j n) ≡ D * f.want j n) s.rate k d l)

  -- no two tasks have the same numbers
  distinct : AllPairs (λ x y. x.job ≡ y.job → x.op ≡ y.op → ⊥) all_tasks
  distinct = tasks-AllPairs ops (λ x y. x.job ≡ y.job → x.op ≡ y.op → ⊥) order (λ a b d h k m n e q. OnceBelow-distinct o a b d h k e)
      (λ a d l b c e h k _ q. s.once (get_or order a d) (o.within a d l) b c e h k q)

  module _ (j n : ℕ) (inside : j < f.jobs) (has : f.Has j n) where
    abbrev test : Task → Bool
    test x = (x.job == j) && (x.op == n)

    only : filter test all_tasks ≡ task j n ∷ []
    only = filter_one test all_tasks (task j n) (λ a b d h k e. other (get_or all_tasks a d) (get_or all_tasks b d) (distinct a b d h k) e (test (get_or all_tasks b d)) refl)
        (tasks-contains ops order j n (OnceBelow-contains o j inside) (s.all j n inside has)) (ap₂ ◌&&◌ (eq-eqb j j refl) (eq-eqb n n refl))
      where
        other : (x y : Task) → (x.job ≡ y.job → x.op ≡ y.op → ⊥) → test x ≡ true → (b : Bool) → test y ≡ b → b ≡ false
        other x y u e false k = refl
        other x y u e true k = let p = both_true _ _ e in let q = both_true _ _ k in absurd (u (eqb-true _ _ p.0 ∙ sym (eqb-true _ _ q.0)) (eqb-true _ _ p.1 ∙ sym (eqb-true _ _ q.1)))

    gets : Gets f (pos D) series j n
    gets =
        let back = sym (filter-map task_of test (λ p. (p.job == j) && (p.op == n)) series (λ a d l. refl)) ∙ ap (filter test) (back_to_back-jobs (piece_on machine) time_of makes 0 all_tasks) ∙ only in
        let (p, e, _) = one_from_map task_of (of_operation series j n) (task j n) back in
        let named = named_one series j n p e in
        record {
          one = λ c. (p, e);
          sum = ap (λ l. total (map (part f) l)) e ∙ +ℤ_idl (part f p)
              ∙ of_one (λ q. part f q ≡ pos D *ℤ pos (f.want q.job q.op)) series j n p e whole ∙ ap₂ (λ a b. pos D *ℤ pos (f.want a b)) named.0 named.1;
        }

  module _ (forward : AllPairs (MayPrecede f.arcs) order) (loose : All (λ a. a.before ≢ a.after) f.arcs) where
    pub Fits-series : Fits f (pos D) series
    Fits-series = record {
      unit_from = omega (arith, ints, s.unit);
      span = lasts;
      place = stands;
      machine = λ a b d h k _. inl (before a b d h k);
      job = λ a b d h k _. inl (before a b d h k);
      release = λ k d l. subst (λ h. (pos D *ℤ pos h) ≤ℤ (get_or series k d).from) (sym (pieces (λ j n. f.head j ≡ 0) (λ j h a e m. s.heads j h) k d l))
          (subst (λ z. z ≤ℤ (get_or series k d).from) (sym (*ℤ-zero (pos D))) (lasts k d l).0);
      arc = λ a d l. in_order (get_or f.arcs a d) (Contains-get_or f.arcs a d l) (loose a d l);
      route = λ e. absurd (false≢true (sym s.unrouted ∙ e));
      work = gets;
    }
      where
        in_order : (a : Arc) → Contains f.arcs a → a.before ≢ a.after → All (λ p. All (λ q. p.job ≡ a.before → q.job ≡ a.after → IsBefore p q) series) series
        in_order a c apart k d l m e n h i =
            let p = get_or series k d in
            let q = get_or series m e in
            let From : Task → Task → Type 0 = λ x y. (x.job ≡ a.before) × (y.job ≡ a.after) in
            let first : AllPairs (λ x y. ¬ (From y x)) all_tasks =
            tasks-AllPairs ops (λ x y. ¬ (From y x)) order (λ x b g r t _ _ w. forward x b g r t a c (sym w.0) (sym w.1)) (λ x b g y v r t u w. apart (sym w.0 ∙ w.1)) in
            let less = back_to_back-arcs (piece_on machine)
            time_of makes From 0 all_tasks (λ x w. apart (sym w.0 ∙ w.1)) first p q (Contains-get_or series k d l) (Contains-get_or series m e n) (h, i) in
            omega (arith, ints, less, (timed k d l).to, (timed m e n).from)

  -- all is over when the times are
  pub series-to : All (λ p. p.to ≤ℤ pos (sum_by time_of all_tasks)) series
  series-to k d l = let t = timed k d l in omega (arith, ints, t.to, back_to_back-to (piece_on machine) time_of makes 0 all_tasks k d l)
