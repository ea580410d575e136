-- The pieces of a feasible schedule on two machines in series, cut or not: the work of each operation, and the order on each job's route.
use Rattle.std.proofs.Common.{◌≡◌, ◌≢◌, ℕ, ◌*◌, ◌-◌, ◌<◌, ◌≤◌, inl, inr, Bool, true, false, cond, eqb, List, [], ◌∷◌, length, get_or, map, filter, All, AllPairs, MatchBool}
use Rattle.std.proofs.Common.{pos, nat_abs, ◌*ℤ◌, sum_by, refl, sym, ap, ap₂, subst, ◌∙◌, arith}
use Rattle.std.specs.Prelude.{◌==◌, ◌&&◌}
use Rattle.std.proofs.lemmas.Bool.{cases_lt, eqb-true, eq-eqb, and_from}
use Rattle.std.proofs.lemmas.Int.{ints}
use Rattle.std.proofs.lemmas.List.Elements.{All-filter, filter_passes}
use Rattle.std.proofs.Math.ListN.{get_or-eq_default}
use Rattle.msp_class.specs.declared.environments.EnvKind.{EnvKind}
use Rattle.msp_class.specs.declared.environments.EnvKind.TheVariants.{FlowShop, JobShop}
use Rattle.msp_class.specs.Env.{kind_of}
use Rattle.msp_class.proofs.IntegerRing.{natural, pos-same, +ℤ_idl}
use Rattle.msp_class.proofs.Sums.{sum_by-filter, sum_by-mono}
use Rattle.msp_class.proofs.Cases.{same_or_not}
use Rattle.msp_instance.specs.declared.Instance.{Instance}
use Rattle.msp_instance.specs.Instance.{job_at, need_at, no_need}
use Rattle.msp_pieces.specs.declared.Piece.{Piece}
use Rattle.msp_pieces.specs.declared.Schedule.{Schedule}
use Rattle.msp_pieces.specs.Piece.{length_of, pieces_of, job_of, IsBefore, start, finish, IsTimed}
use Rattle.msp_pieces.specs.Feasible.{Feasible, HasOperation, MayRun, FollowsRoute, IsWholeWork, total, whole_work, work_of as part_of}
use Rattle.msp_pieces.specs.Intervals.{IsApart, size_of, work_of}
use Rattle.msp_pieces.proofs.lists.Intervals.{apart_on_each}
use Rattle.msp_pieces.proofs.lists.Places.{filter-both}
use Rattle.msp_pieces.proofs.feasible.Frames.{named_one}
use Rattle.msp_pieces.proofs.feasible.OneMachine.{IsTimed-from_span, apart_in_nat, both_true, total_lengths}
use Rattle.msp_shops.specs.Pass.{machine_of}
use Rattle.msp_shops.specs.Groups.{IsTwoMachineShop}

-- an operation that takes time is one of the job's
pub operation_there : (i : Instance) (j o : ℕ) → (need_at i j o).time ≢ 0 → o < length (job_at i j).needs
operation_there i j o works = elim (cases_lt o (length (job_at i j).needs)) [
  | inl l ↦ l
  | inr l ↦ absurd (works (ap (λ n. n.time) (get_or-eq_default (job_at i j).needs no_need l)))
]

-- what passes a test is no more than what passes a wider one
sum_by-wider : {X : Type 0} (f : X → ℕ) (p q : X → Bool) (xs : List X) → All (λ x. p x ≡ true → q x ≡ true) xs → sum_by f (filter p xs) ≤ sum_by f (filter q xs)
sum_by-wider f p q xs h = omega (
  arith,
  sum_by-filter f p xs,
  sum_by-filter f q xs,
  sum_by-mono (λ x. cond (p x) (f x) 0) (λ x. cond (q x) (f x) 0) xs (λ k d l. wider (p (get_or xs k d)) (q (get_or xs k d)) (f (get_or xs k d)) (h k d l)),
)
  where
    wider : (a b : Bool) (n : ℕ) → (a ≡ true → b ≡ true) → cond a n 0 ≤ cond b n 0
    wider true b n h = subst (λ c. n ≤ cond c n 0) (sym (h refl)) (omega arith)
    wider false b n h = omega arith

module _ (i : Instance) (shop : IsTwoMachineShop i) where
  abbrev kind : EnvKind
  kind = kind_of i.class.env

  by_kind : (P : EnvKind → Type 0) → P FlowShop → P JobShop → P kind
  by_kind P f j = elim shop.kind [ inl e ↦ subst P (sym e) f | inr e ↦ subst P (sym e) j ]

  of_kind : (P : EnvKind → Type 0) {A : Type 0} → P kind → (P FlowShop → A) → (P JobShop → A) → A
  of_kind P h f j = elim shop.kind [ inl e ↦ f (subst P e h) | inr e ↦ j (subst P e h) ]

-- ---- each feasible schedule
module _ (i : Instance) (shop : IsTwoMachineShop i) (s : Schedule) (f : Feasible i s) where
  abbrev unit : ℕ
  unit = nat_abs s.unit

  timed_pieces : All IsTimed s.pieces
  timed_pieces k d l = IsTimed-from_span _ (f.span k d l)

  -- the pieces on a machine
  abbrev pub on : ℕ → List Piece
  on m = filter (λ p. eqb p.machine m) s.pieces

  pub among : (m : ℕ) (P : Piece → Type 0) → All P s.pieces → All P (on m)
  among m P h = All-filter (λ p. eqb p.machine m) P s.pieces h

  pub jobs_on : (m : ℕ) → All (λ p. p.job < length i.jobs) (on m)
  jobs_on m = among m (λ p. p.job < length i.jobs) (λ k d l. (f.place k d l).job)

  machine_on : (m : ℕ) → All (λ p. p.machine ≡ m) (on m)
  machine_on m k d l = eqb-true _ _ (filter_passes (λ p. eqb p.machine m) s.pieces k d l)

  pub apart_on : (m : ℕ) → AllPairs (IsApart start finish) (on m)
  apart_on m = apart_on_each machine_of start finish m s.pieces (λ a b d h k e. apart_in_nat _ _ (timed_pieces a d (omega arith)) (timed_pieces b d k) (f.machine a b d h k e))

  -- the piece is of an operation that its job has, on the machine of the operation
  record HasOwnPlace (p : Piece) : Type 0 where
    op : p.op < length (job_at i p.job).needs
    machine : p.machine ≡ (need_at i p.job p.op).machine

  own_places : All HasOwnPlace s.pieces
  own_places k d l =
      let p = get_or s.pieces k d in
      let place = f.place k d l in
      record {
        op = of_kind i shop (λ x. HasOperation x i p.job p.op) place.operation (λ h. h.0) (λ h. h.0);
        machine = of_kind i shop (λ x. MayRun x i p.job p.op p.machine) place.machine (λ h. h) (λ h. h);
      }

  -- ---- the order on a job's route
  is_first : (m : ℕ) (p : Piece) → m < 2 → p.job < length i.jobs → HasOwnPlace p → (need_at i p.job 0).machine ≡ m → p.machine ≡ m → p.op ≡ 0
  is_first m p two inside h begins on = elim (cases_lt p.op 1) [
    | inl l ↦ omega (arith, l)
    | inr l ↦
        let needs = shop.needs p.job inside in
        let e : p.op ≡ 1 = omega (arith, l, h.op, needs.few) in
        absurd (omega (arith, two, begins, on, h.machine, ap (λ o. (need_at i p.job o).machine) e, needs.second (omega (arith, e, h.op, needs.few))))
  ]

  is_second : (m : ℕ) (q : Piece) → m < 2 → HasOwnPlace q → (need_at i q.job 0).machine ≡ m → q.machine ≡ 1 - m → 1 ≤ q.op
  is_second m q two h begins on = elim (cases_lt q.op 1) [
    | inl l ↦ let e : q.op ≡ 0 = omega (arith, l) in absurd (omega (arith, two, begins, on, h.machine, ap (λ o. (need_at i q.job o).machine) e))
    | inr l ↦ l
  ]

  abbrev Follows : Piece → Piece → Type 0
  Follows p q = p.job ≡ q.job → p.op < q.op → IsBefore p q

  route : All (λ p. All (Follows p) s.pieces) s.pieces
  route = of_kind i shop (λ x. FollowsRoute x s.pieces) f.route (λ h. h) (λ h. h)

  -- of a job that begins on the machine, no piece on the other one begins before all those on this one are over
  pub follows_route : (m : ℕ) → m < 2 → All (λ q. (need_at i q.job 0).machine ≡ m → All (λ p. p.job ≡ q.job → finish p ≤ start q) (on m)) (on (1 - m))
  follows_route m two k d l begins a e h same =
      let p = get_or (on m) a e in
      let q = get_or (on (1 - m)) k d in
      let first : p.op ≡ 0 = is_first m p two (jobs_on m a e h) (among m HasOwnPlace own_places a e h) (ap (λ j. (need_at i j 0).machine) same ∙ begins) (machine_on m a e h) in
      let second : 1 ≤ q.op = is_second m q two (among (1 - m) HasOwnPlace own_places k d l) begins (machine_on (1 - m) k d l) in
      let before : IsBefore p q = among m (λ p. All (Follows p) (on (1 - m))) (λ x y z. among (1 - m) (Follows (get_or s.pieces x y)) (route x y z)) a e h k d l same (omega (arith, first, second)) in
      omega (arith, ints, before, (among m IsTimed timed_pieces a e h).to, (among (1 - m) IsTimed timed_pieces k d l).from)

  -- ---- the work of an operation, cut or not
  module _ (j o : ℕ) (inside : j < length i.jobs) where
    abbrev own : List Piece
    own = pieces_of s j o

    abbrev time : ℕ
    time = (need_at i j o).time

    adds_up : (cut : Bool) → MatchBool cut (total (map length_of own) ≡ s.unit *ℤ pos time) ((p : Piece) × (own ≡ p ∷ []) × (length_of p ≡ s.unit *ℤ pos (need_at i p.job p.op).time))
        → total (map length_of own) ≡ s.unit *ℤ pos time
    adds_up true h = h
    adds_up false (p, e, h) =
        let named = named_one s.pieces j o p e in
        ap (λ l. total (map length_of l)) e ∙ +ℤ_idl (length_of p) ∙ h ∙ ap₂ (λ a b. s.unit *ℤ pos (need_at i a b).time) named.0 named.1

    abbrev Gives : EnvKind → Type 0
    Gives x = MatchBool i.class.cut (total (map (part_of x i) own) ≡ s.unit *ℤ pos (whole_work x i j o)) ((p : Piece) × (own ≡ p ∷ []) × IsWholeWork x i s.unit p)

    worked : time ≢ 0 → sum_by (size_of start finish) own ≡ unit * time
    worked works =
        let has = operation_there i j o works in
        let given = f.work j o inside (by_kind i shop (λ x. HasOperation x i j o) (has, works) (has, works)) in
        pos-same (
        sym (total_lengths own (All-filter (λ p. (p.job == j) && (p.op == o)) IsTimed s.pieces timed_pieces))
        ∙ of_kind i shop Gives given (adds_up i.class.cut) (adds_up i.class.cut)
        ∙ ap (λ u. u *ℤ pos time) (natural s.unit (omega (arith, ints, f.unit))))

    -- and it is work on the operation's machine
    pub work_on_machine : (m : ℕ) → (time ≢ 0 → (need_at i j o).machine ≡ m) → unit * time ≤ work_of job_of start finish (on m) j
    work_on_machine m is = elim (same_or_not time 0) [
      | inl z ↦ omega (arith, ap (λ n. unit * n) z)
      | inr works ↦ omega (
        arith,
        worked works,
        sum_by-wider (size_of start finish) (λ p. (p.job == j) && (p.op == o)) (λ p. eqb p.machine m && eqb p.job j) s.pieces (λ k d l. on_it works (get_or s.pieces k d) (own_places k d l)),
        ap (sum_by (size_of start finish)) (filter-both (λ p. eqb p.machine m) (λ p. eqb p.job j) s.pieces),
      )
    ]
      where
        on_it : time ≢ 0 → (p : Piece) → HasOwnPlace p → ((p.job == j) && (p.op == o)) ≡ true → (eqb p.machine m && eqb p.job j) ≡ true
        on_it works p h e =
            let (a, b) = both_true _ _ e in
            let on : p.machine ≡ m = h.machine ∙ ap₂ (λ k n. (need_at i k n).machine) (eqb-true _ _ a) (eqb-true _ _ b) ∙ is works in
            and_from _ _ (eq-eqb _ _ on) a
