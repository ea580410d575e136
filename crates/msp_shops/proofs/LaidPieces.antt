-- The laid pieces are the operations of all jobs, and when they end.
use Rattle.std.proofs.Common.{◌*◌, ◌≡◌, ◌≢◌, ℕ, ◌+◌, ◌-◌, ◌<◌, ◌≤◌, ◌⊎◌, inl, inr, max, List, ◌++◌, length, length-append, get_or, All, AllPairs, Contains, sum_by, refl, sym, ap, subst, ◌∙◌, arith, pos_of_ne-zero}
use Rattle.std.proofs.lemmas.Bool.{cases_lt}
use Rattle.std.proofs.lemmas.List.Elements.{All-append, All-contains, Contains-append_left, Contains-append_right}
use Rattle.msp_class.specs.declared.sizes.TheConstants.{MOST_JOBS, GREATEST}
use Rattle.msp_instance.specs.declared.Instance.{Instance}
use Rattle.msp_instance.specs.Instance.{job_at, need_at}
use Rattle.msp_pieces.specs.declared.Piece.{Piece}
use Rattle.msp_pieces.specs.Intervals.{IsApartOn}
use Rattle.msp_pieces.specs.Piece.{start, finish, IsTimed}
use Rattle.msp_pieces.proofs.feasible.Series.{AllPairs-append}
use Rattle.msp_shops.specs.declared.pass.JobTimes.{JobTimes}
use Rattle.msp_shops.specs.declared.pass.Moments.{Moments}
use Rattle.msp_shops.specs.Pass.{machine_of, IsOf, HasPiece, IsPass}
use Rattle.msp_shops.specs.Groups.{route_times, IsTwoMachineShop, IsGroup}
use Rattle.msp_shops.specs.Laid.{after, AreLaid}
use Rattle.msp_shops.proofs.Shops.{IsShopPlan}
use Rattle.msp_shops.proofs.ShopPieces.{operation_there}

-- the piece is a whole operation of the instance
pub record IsOperationOf (i : Instance) (p : Piece) : Type 0 where
  pub inside : p.job < length i.jobs
  pub op : p.op < length (job_at i p.job).needs
  pub machine : p.machine ≡ (need_at i p.job p.op).machine
  pub whole : finish p ≡ start p + (need_at i p.job p.op).time

-- of two pieces of a job the one before in the list is an earlier operation, and ends no later than the other begins
abbrev pub InOrder : Piece → Piece → Type 0
InOrder p q = p.job ≡ q.job → (p.op < q.op) × (finish p ≤ start q)

-- ---- one group
module _ (i : Instance) (shop : IsTwoMachineShop i) (m other : ℕ) (turns : other ≡ 1 - m) (jobs : List JobTimes) (group : IsGroup i m jobs)
    (from to : Moments) (ps : List Piece) (h : IsPass (record { op = 0; machine = m }) (record { op = 1; machine = other }) jobs from to ps) where
  abbrev IsMember : JobTimes → Type 0
  IsMember t = (t ≡ route_times i t.job) × (t.job < length i.jobs) × ((need_at i t.job 0).machine ≡ m)

  -- what a piece is: where it runs, and between which moments
  pub record IsOneOf (p : Piece) : Type 0 where
    pub operation : IsOperationOf i p
    pub begins : (need_at i p.job 0).machine ≡ m
    pub side : ((p.machine ≡ m) × (finish p ≤ to.first)) ⊎ ((p.machine ≡ other) × (from.second ≤ start p) × (finish p ≤ to.second))

  operation : (p : Piece) (j o time : ℕ) → IsTimed p → p.job ≡ j → p.op ≡ o
      → j < length i.jobs → time ≡ (need_at i j o).time → finish p ≡ start p + time → (0 < time → p.machine ≡ (need_at i j o).machine) → IsOperationOf i p
  operation p j o time timed job op inside is whole machine =
      let there : (need_at i p.job p.op) ≡ need_at i j o = ap (λ x. need_at i x p.op) job ∙ ap (need_at i j) op in
      let some : 0 < time = omega (arith, timed.lasts, whole) in
      let works : (need_at i p.job p.op).time ≢ 0 = λ e. omega (arith, some, is, ap (λ n. n.time) there, e) in
      record {
        inside = omega (arith, job, inside);
        op = operation_there i p.job p.op works;
        machine = machine some ∙ sym (ap (λ n. n.machine) there);
        whole = omega (arith, whole, is, ap (λ n. n.time) there);
      }

  second_machine : (j : ℕ) → j < length i.jobs → (need_at i j 0).machine ≡ m → 0 < (need_at i j 1).time → other ≡ (need_at i j 1).machine
  second_machine j inside first some =
      let needs = shop.needs j inside in
      let works : (need_at i j 1).time ≢ 0 = λ e. omega (arith, some, e) in
      turns ∙ sym (needs.second (omega (arith, operation_there i j 1 works, needs.few)) ∙ ap (λ k. 1 - k) first)

  one_of : (p : Piece) (t : JobTimes) → IsTimed p → IsMember t → IsOf (record { op = 0; machine = m }) (record { op = 1; machine = other }) from to p t → IsOneOf p
  one_of p t timed (is, inside, first) (inl o) = record {
    operation = operation p t.job 0 t.first timed o.job o.op inside (ap (λ u. u.first) is) o.whole (λ s. o.machine ∙ sym first);
    begins = ap (λ j. (need_at i j 0).machine) o.job ∙ first;
    side = inl (o.machine, o.to);
  }
  one_of p t timed (is, inside, first) (inr o) = record {
    operation = operation p t.job 1 t.second timed o.job o.op inside (ap (λ u. u.second) is) o.whole (λ s. o.machine ∙ second_machine t.job inside first (omega (arith, s, ap (λ u. u.second) is)));
    begins = ap (λ j. (need_at i j 0).machine) o.job ∙ first;
    side = inr (o.machine, o.from, o.to);
  }

  pub each_is : All IsOneOf ps
  each_is k d l =
      let (t, c, o) = h.tidy.known k d l in
      one_of (get_or ps k d) t (h.tidy.timed k d l) (All-contains IsMember jobs t group.members c) o

  pub ordered : AllPairs InOrder ps
  ordered a b d l k e = let r = h.tidy.in_order a b d l k e in (omega (arith, r.0, r.1), r.2)

  pub has_piece : (j o : ℕ) → j < length i.jobs → (need_at i j 0).machine ≡ m → o < length (job_at i j).needs → (need_at i j o).time ≢ 0 → (p : Piece) × Contains ps p × (p.job ≡ j) × (p.op ≡ o)
  has_piece j o inside first op works =
      let mine : Contains jobs (route_times i j) = group.all j inside first in
      elim (cases_lt o 1) [
        | inl l ↦
            let e : o ≡ 0 = omega (arith, l) in
            let (p, c, a, b) = All-contains (λ t. 0 < t.first → HasPiece ps (record { op = 0; machine = m }) t.job) jobs (route_times i j) h.tidy.has_first mine
            (pos_of_ne-zero (subst (λ k. (need_at i j k).time ≢ 0) e works)) in
            (p, c, a, b ∙ sym e)
        | inr l ↦
            let e : o ≡ 1 = omega (arith, l, op, (shop.needs j inside).few) in
            let (p, c, a, b) = All-contains (λ t. 0 < t.second → HasPiece ps (record { op = 1; machine = other }) t.job) jobs (route_times i j) h.tidy.has_second mine
            (pos_of_ne-zero (subst (λ k. (need_at i j k).time ≢ 0) e works)) in
            (p, c, a, b ∙ sym e)
      ]

-- ---- both groups
module _ (i : Instance) (shop : IsTwoMachineShop i) (here there : List JobTimes) (group_here : IsGroup i 0 here) (group_there : IsGroup i 1 there) (ps : List Piece) (h : AreLaid here there ps) where
  abbrev both : List Piece
  both = h.pieces_here ++ h.pieces_there

  abbrev OneHere : Piece → Type 0
  OneHere = IsOneOf i shop 0 1 refl here group_here (after there) h.end_here h.pieces_here h.pass_here

  abbrev OneThere : Piece → Type 0
  OneThere = IsOneOf i shop 1 0 refl there group_there (after here) h.end_there h.pieces_there h.pass_there

  ones_here : All OneHere h.pieces_here
  ones_here = each_is i shop 0 1 refl here group_here (after there) h.end_here h.pieces_here h.pass_here

  ones_there : All OneThere h.pieces_there
  ones_there = each_is i shop 1 0 refl there group_there (after here) h.end_there h.pieces_there h.pass_there

  -- the moment by which all pieces end
  abbrev pub last : ℕ
  last = max (max h.end_here.first h.end_here.second) (max h.end_there.first h.end_there.second)

  each : All (IsOperationOf i) both
  each = All-append (IsOperationOf i) h.pieces_here h.pieces_there (λ k d l. (ones_here k d l).operation) (λ k d l. (ones_there k d l).operation)

  pub timed : All IsTimed both
  timed = All-append IsTimed h.pieces_here h.pieces_there h.pass_here.tidy.timed h.pass_there.tidy.timed

  ends : All (λ p. finish p ≤ last) both
  ends = All-append (λ p. finish p ≤ last) h.pieces_here h.pieces_there
      (λ k d l. elim (ones_here k d l).side [ inl s ↦ omega (arith, s.1) | inr s ↦ omega (arith, s.2) ])
      (λ k d l. elim (ones_there k d l).side [ inl s ↦ omega (arith, s.1) | inr s ↦ omega (arith, s.2) ])

  crossing : (p q : Piece) → OneHere p → OneThere q → IsApartOn machine_of start finish p q
  crossing p q a b same = elim a.side [
    | inl s ↦ elim b.side [ inl t ↦ absurd (omega (arith, s.0, t.0, same)) | inr t ↦ inl (omega (arith, s.1, t.1, h.pass_here.first_end)) ]
    | inr s ↦ elim b.side [ inl t ↦ inr (omega (arith, s.1, t.1, h.pass_there.first_end)) | inr t ↦ absurd (omega (arith, s.0, t.0, same)) ]
  ]

  other_jobs : (p q : Piece) → OneHere p → OneThere q → p.job ≢ q.job
  other_jobs p q a b e = omega (arith, a.begins, b.begins, ap (λ j. (need_at i j 0).machine) e)

  apart : AllPairs (IsApartOn machine_of start finish) both
  apart = AllPairs-append (IsApartOn machine_of start finish) h.pieces_here h.pieces_there h.pass_here.tidy.apart h.pass_there.tidy.apart
      (λ k d l a e m. crossing (get_or h.pieces_here k d) (get_or h.pieces_there a e) (ones_here k d l) (ones_there a e m))

  pub in_order : AllPairs InOrder both
  in_order = AllPairs-append InOrder h.pieces_here h.pieces_there
      (ordered i shop 0 1 refl here group_here (after there) h.end_here h.pieces_here h.pass_here)
      (ordered i shop 1 0 refl there group_there (after here) h.end_there h.pieces_there h.pass_there)
      (λ k d l a e m same. absurd (other_jobs (get_or h.pieces_here k d) (get_or h.pieces_there a e) (ones_here k d l) (ones_there a e m) same))

  all : (j o : ℕ) → j < length i.jobs → o < length (job_at i j).needs → (need_at i j o).time ≢ 0 → (p : Piece) × Contains both p × (p.job ≡ j) × (p.op ≡ o)
  all j o inside op works = elim (cases_lt (need_at i j 0).machine 1) [
    | inl l ↦
        let (p, c, a, b) = has_piece i shop 0 1 refl here group_here (after there) h.end_here h.pieces_here h.pass_here j o inside (omega (arith, l)) op works in
        (p, Contains-append_left h.pieces_here h.pieces_there p c, a, b)
    | inr l ↦
        let (p, c, a, b) = has_piece i shop 1 0 refl there group_there (after here) h.end_there h.pieces_there h.pass_there j o inside (omega (arith, l, (shop.needs j inside).first)) op works in
        (p, Contains-append_right h.pieces_here h.pieces_there p c, a, b)
  ]

  plan : IsShopPlan i both
  plan = record {
    timed = timed;
    job = λ k d l. (each k d l).inside;
    operation = λ k d l. (each k d l).op;
    machine = λ k d l. (each k d l).machine;
    whole = λ k d l. (each k d l).whole;
    apart = apart;
    in_order = λ a b d l k e. let r = in_order a b d l k e in (λ s. omega (arith, r.0, s), r.1);
    route = inr (λ a b d l k e. (in_order a b d l k e).0);
    each = λ j o l t. all j o l t.0 t.1;
  }

  pub IsShopPlan-laid : IsShopPlan i ps
  IsShopPlan-laid = subst (IsShopPlan i) (sym h.is) plan

  pub laid_ends : All (λ p. finish p ≤ last) ps
  laid_ends = subst (All (λ p. finish p ≤ last)) (sym h.is) ends

  pub laid_few : length ps ≤ 4 * MOST_JOBS
  laid_few = omega (arith, ap length h.is, length-append h.pieces_here h.pieces_there, h.pass_here.few, h.pass_there.few, group_here.few, group_there.few)

  pub laid_short : last ≤ 3 * MOST_JOBS * GREATEST
  laid_short =
      let here_first : sum_by (λ t. t.first) here ≤ MOST_JOBS * GREATEST = omega (arith, h.pass_here.first_end, h.pass_here.small.0, group_here.few) in
      let there_first : sum_by (λ t. t.first) there ≤ MOST_JOBS * GREATEST = omega (arith, h.pass_there.first_end, h.pass_there.small.0, group_there.few) in
      omega (arith, here_first, there_first, h.pass_here.small.0, h.pass_here.small.1, h.pass_there.small.0, h.pass_there.small.1, group_here.few, group_there.few)
