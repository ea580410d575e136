-- The laid pieces are those of Jackson's rule: on each machine in its order, and as early as they can begin.
use Rattle.std.proofs.Common.{◌≡◌, ◌≢◌, ℕ, ◌<◌, ◌≤◌, ◌⊎◌, inl, inr, List, ◌++◌, get_or, All, AllPairs, Contains, sum_by, pos, refl, sym, ap, subst, subst₂, ◌∙◌, arith}
use Rattle.std.proofs.lemmas.List.Elements.{All-append, All-contains, Contains-append_left, Contains-append_right}
use Rattle.msp_instance.specs.declared.Instance.{Instance}
use Rattle.msp_pieces.specs.declared.Piece.{Piece}
use Rattle.msp_pieces.specs.Piece.{start, finish, IsTimed}
use Rattle.msp_pieces.proofs.feasible.Series.{AllPairs-append}
use Rattle.msp_shops.specs.declared.pass.JobTimes.{JobTimes}
use Rattle.msp_shops.specs.declared.pass.Moments.{Moments}
use Rattle.msp_shops.specs.declared.pass.Stage.{Stage}
use Rattle.msp_shops.specs.Order.{ComesFirst}
use Rattle.msp_shops.specs.Pass.{StandsBefore, IsEarly, IsEndOn, IsPass}
use Rattle.msp_shops.specs.Groups.{route_times, IsTwoMachineShop, IsJohnsonGroup}
use Rattle.msp_shops.specs.Laid.{after, AreLaid}
use Rattle.msp_shops.specs.Jackson.{JobComesFirst, RunsFirst, BeginsEarly, IsJacksonSchedule}
use Rattle.msp_shops.proofs.Shops.{is_before, over_one}
use Rattle.msp_shops.proofs.LaidPieces.{timed, in_order}

-- ---- one group
module _ (i : Instance) (m : ℕ) (jobs : List JobTimes) (group : IsJohnsonGroup i m jobs) where
  comes_first : (a b : ℕ) → StandsBefore jobs a b → JobComesFirst i a b
  comes_first a b (x, y, before, inside, is) =
      let d = route_times i 0 in
      let early : x < y = before in
      subst₂ (λ s t. ComesFirst (λ (u : JobTimes). u.first) (λ u. u.second) (λ u. u.job) s t)
      ((group.group.members x d (omega (arith, before, inside))).0 ∙ ap (route_times i) (is d).0) ((group.group.members y d inside).0 ∙ ap (route_times i) (is d).1)
      (group.order x y d before inside, group.ties x y d before inside)

  pub none_before : AllPairs (λ s t. t.first ≡ 0 → s.first ≡ 0) jobs
  none_before a b d l k zero = grind (arith, zero, group.order a b d l k)

  module _ (other : ℕ) (from to : Moments) (ps : List Piece) (h : IsPass (record { op = 0; machine = m }) (record { op = 1; machine = other }) jobs from to ps) where
    pub rows : AllPairs (λ p q. p.machine ≡ q.machine → RunsFirst i p q) ps
    rows a b d l k same =
        let p = get_or ps a d in
        let q = get_or ps b d in
        let (stands, op, before) = h.line.row a b d l k same in
        (is_before p q (h.tidy.timed a d (omega (arith, l, k))) (h.tidy.timed b d k) before, inr (op, comes_first p.job q.job stands))

    -- the stage of a piece
    abbrev pub Side : Piece → Type 0
    Side p = ((p.op ≡ 0) × (p.machine ≡ m) × (finish p ≤ to.first)) ⊎ ((p.op ≡ 1) × (p.machine ≡ other) × (from.second ≤ start p))

    pub sides : All Side ps
    sides k d l = let (t, c, o) = h.tidy.known k d l in elim o [ inl x ↦ inl (x.op, x.machine, x.to) | inr x ↦ inr (x.op, x.machine, x.from) ]

-- the machine of second operations is free when the pieces that cross it end
early_of : (second : Stage) (total : ℕ) (own crossing all : List Piece) → ((q : Piece) → Contains own q → Contains all q) → ((q : Piece) → Contains crossing q → Contains all q)
    → All IsTimed all → IsEndOn second.machine 0 crossing total → (p : Piece) → IsTimed p → IsEarly second (record { first = 0; second = total }) own p → BeginsEarly all p
early_of second total own crossing all has_own has_crossing whole last p is (inl e) = inl (is.from ∙ ap pos e)
early_of second total own crossing all has_own has_crossing whole (inl zero) p is (inr (inl (m, e))) = inl (is.from ∙ ap pos (e ∙ zero))
early_of second total own crossing all has_own has_crossing whole (inr (q, c, on, f)) p is (inr (inl (m, e))) =
    inr (q, has_crossing q c, (All-contains IsTimed all q whole (has_crossing q c)).to ∙ ap pos (f ∙ sym e) ∙ sym is.from, inl (on ∙ sym m))
early_of second total own crossing all has_own has_crossing whole last p is (inr (inr (q, c, e, s))) =
    inr (q, has_own q c, (All-contains IsTimed all q whole (has_own q c)).to ∙ ap pos e ∙ sym is.from, s)

-- ---- both groups
module _ (i : Instance) (shop : IsTwoMachineShop i) (here there : List JobTimes) (group_here : IsJohnsonGroup i 0 here)
    (group_there : IsJohnsonGroup i 1 there) (ps : List Piece) (h : AreLaid here there ps) where
  abbrev both : List Piece
  both = h.pieces_here ++ h.pieces_there

  all_timed : All IsTimed both
  all_timed = timed i shop here there group_here.group group_there.group ps h

  abbrev InRow : Piece → Piece → Type 0
  InRow p q = p.machine ≡ q.machine → RunsFirst i p q ⊎ RunsFirst i q p

  abbrev SideHere : Piece → Type 0
  SideHere = Side i 0 here group_here 1 (after there) h.end_here h.pieces_here h.pass_here

  abbrev SideThere : Piece → Type 0
  SideThere = Side i 1 there group_there 0 (after here) h.end_there h.pieces_there h.pass_there

  crossing : (p q : Piece) → IsTimed p → IsTimed q → SideHere p → SideThere q → InRow p q
  crossing p q a b (inl s) (inl t) e = absurd (omega (arith, s.1, t.1, e))
  crossing p q a b (inl s) (inr t) e = inl (is_before p q a b (omega (arith, s.2, t.2, h.pass_here.first_end)), inl (omega (arith, s.0, t.0)))
  crossing p q a b (inr s) (inl t) e = inr (is_before q p b a (omega (arith, s.2, t.2, h.pass_there.first_end)), inl (omega (arith, s.0, t.0)))
  crossing p q a b (inr s) (inr t) e = absurd (omega (arith, s.1, t.1, e))

  order : AllPairs InRow both
  order = AllPairs-append InRow h.pieces_here h.pieces_there
      (λ a b d l k e. inl (rows i 0 here group_here 1 (after there) h.end_here h.pieces_here h.pass_here a b d l k e))
      (λ a b d l k e. inl (rows i 1 there group_there 0 (after here) h.end_there h.pieces_there h.pass_there a b d l k e))
      (λ k d l a e m. crossing (get_or h.pieces_here k d) (get_or h.pieces_there a e) (h.pass_here.tidy.timed k d l) (h.pass_there.tidy.timed a e m)
      (sides i 0 here group_here 1 (after there) h.end_here h.pieces_here h.pass_here k d l)
      (sides i 1 there group_there 0 (after here) h.end_there h.pieces_there h.pass_there a e m))

  end_of_here : IsEndOn 0 0 h.pieces_here (sum_by (λ t. t.first) here)
  end_of_here = subst (IsEndOn 0 0 h.pieces_here) (omega (arith, h.pass_here.first_end)) h.pass_here.line.first_end

  end_of_there : IsEndOn 1 0 h.pieces_there (sum_by (λ t. t.first) there)
  end_of_there = subst (IsEndOn 1 0 h.pieces_there) (omega (arith, h.pass_there.first_end)) h.pass_there.line.first_end

  early : All (BeginsEarly both) both
  early = All-append (BeginsEarly both) h.pieces_here h.pieces_there
      (λ k d l. early_of (record { op = 1; machine = 1 }) (sum_by (λ t. t.first) there) h.pieces_here h.pieces_there both
      (Contains-append_left h.pieces_here h.pieces_there) (Contains-append_right h.pieces_here h.pieces_there) all_timed end_of_there
      (get_or h.pieces_here k d) (h.pass_here.tidy.timed k d l) (h.pass_here.line.early (none_before i 0 here group_here) k d l))
      (λ k d l. early_of (record { op = 1; machine = 0 }) (sum_by (λ t. t.first) here) h.pieces_there h.pieces_here both
      (Contains-append_right h.pieces_here h.pieces_there) (Contains-append_left h.pieces_here h.pieces_there) all_timed end_of_here
      (get_or h.pieces_there k d) (h.pass_there.tidy.timed k d l) (h.pass_there.line.early (none_before i 1 there group_there) k d l))

  whole : AllPairs (λ p q. p.job ≡ q.job → p.op ≢ q.op) both
  whole a b d l k e f = omega (arith, (in_order i shop here there group_here.group group_there.group ps h a b d l k e).0, f)

  pub IsJacksonSchedule-laid : IsJacksonSchedule i (over_one ps)
  IsJacksonSchedule-laid = subst (λ l. IsJacksonSchedule i (over_one l)) (sym h.is) (record { unit = refl; whole = whole; order = order; early = early })

-- as the code has it
pub IsJacksonSchedule-read : (i : Instance) (shop : IsTwoMachineShop i) (here there here_read there_read : List JobTimes) (ps : List Piece)
    → IsJohnsonGroup i 0 here → IsJohnsonGroup i 1 there → here_read ≡ here → there_read ≡ there
    → AreLaid here_read there_read ps → IsJacksonSchedule i (over_one ps)
IsJacksonSchedule-read i shop here there here_read there_read ps a b e f h = IsJacksonSchedule-laid i shop here there a b ps
    (subst (λ l. AreLaid here l ps) f (subst (λ l. AreLaid l there_read ps) e h))
