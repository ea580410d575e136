-- One job more is placed: the one that ends last in the first block takes what the others of the block leave of its time.
use Rattle.std.proofs.Common.{◌≡◌, ◌≢◌, ℕ, ◌+◌, ◌<◌, ◌≤◌, eqb, ◌⊎◌, inl, inr, List, ◌∷◌, ◌++◌, length, get_or, filter, All, AllPairs, Contains, sum_by, ℤ, ◌≤ℤ◌, refl}
use Rattle.std.proofs.Common.{sym, ap, subst, ◌∙◌, arith, le_trans, length-append, append_assoc}
use Rattle.std.proofs.lemmas.Bool.{cases_Bool, eqb-true, eqb-false, eq-eqb, ne_eqb, false≢true}
use Rattle.std.proofs.lemmas.List.{get_or_default}
use Rattle.std.proofs.lemmas.List.Sums.{sum_by-cons, sum_by-append}
use Rattle.std.proofs.lemmas.List.Elements.{All-append, All-contains, Contains-get_or, Contains-append_left, Contains-append_cases, filter-append}
use Rattle.msp_class.proofs.IntegerRing.{≤ℤ_of_same, <ℤ_weak}
use Rattle.msp_class.proofs.Sums.{AllPairs-tail}
use Rattle.std.specs.List.{list_any}
use Rattle.msp_instance.specs.declared.Arc.{Arc}
use Rattle.msp_instance.specs.Paths.{HasStep, HasPath, one, more}
use Rattle.msp_instance.proofs.ListingLemmas.{list_any-from_Contains, Contains-from_list_any}
use Rattle.msp_instance.specs.declared.Instance.{Instance}
use Rattle.msp_pieces.specs.declared.Piece.{Piece}
use Rattle.msp_pieces.specs.Blocks.{cost_at, total_time, HasNoSuccessor, LeadsToNone, IsSound}
use Rattle.msp_pieces.specs.Intervals.{IsApart, size_of, work_of}
use Rattle.msp_instance.proofs.ArcLemmas.{filter_none, filter_all}
use Rattle.msp_pieces.specs.Piece.{job_of, start, finish}
use Rattle.msp_pieces.specs.BackToBack.{piece, time_at}
use Rattle.msp_pieces.proofs.feasible.Series.{AllPairs-append}
use Rattle.msp_route.specs.LastJob.{EndsAt}
use Rattle.msp_pieces.proofs.lists.Intervals.{piece_of}
use Rattle.msp_pieces.proofs.lists.Parts.{All-front, AllPairs-front, AllPairs-back}
use Rattle.msp_blocks.specs.Filling.{done_by, busy_until, Follow, gaps, IsPut, IsFilling, IsBound, CostAtMost}
use Rattle.msp_blocks.proofs.Lists.{All-without, All-at, AllPairs-without, Contains-with, Contains-at, Contains-without, Contains-once}
use Rattle.msp_blocks.proofs.Idle.{done-mono, done-tight, busy-mono, busy-append, busy-done, busy-without, Follow-append, Follow-heads, around, gaps-inside, gaps-made, gaps-apart}
use Rattle.msp_blocks.proofs.Idle.{gaps-size, gaps-few, gaps-idle}

-- what holds of the pieces of a job: the rest is by whose they are
work_of-append : (ps new : List Piece) (j : ℕ) → work_of job_of start finish (ps ++ new) j ≡ work_of job_of start finish ps j + work_of job_of start finish new j
work_of-append ps new j = ap (sum_by (size_of start finish)) (filter-append (λ q. eqb (job_of q) j) ps new)
    ∙ sum_by-append (size_of start finish) (filter (λ q. eqb (job_of q) j) ps) (filter (λ q. eqb (job_of q) j) new)

work_of-none : (ps : List Piece) (j : ℕ) → All (λ p. p.job ≢ j) ps → work_of job_of start finish ps j ≡ 0
work_of-none ps j h = ap (sum_by (size_of start finish)) (filter_none (λ q. eqb (job_of q) j) ps (λ k d l. ne_eqb _ _ (h k d l)))

work_of-own : (ps : List Piece) (j : ℕ) → All (λ p. p.job ≡ j) ps → work_of job_of start finish ps j ≡ sum_by (size_of start finish) ps
work_of-own ps j h = ap (sum_by (size_of start finish)) (filter_all (λ q. eqb (job_of q) j) ps (λ k d l. eq-eqb _ _ (h k d l)))

-- one more job is placed: jobs that are left before and now, pieces before and now, and the block with what the job costs at its end
pub record IsOneMore (i : Instance) (head : ℕ → ℕ) (greatest : ℕ) (heads left now : List ℕ) (ps new : List Piece) (jobs : List ℕ) (cost : ℤ) : Type 0 where
  pub filling : IsFilling i head greatest now new
  pub bound : IsBound i heads jobs cost
  pub costs : (most : ℤ) → cost ≤ℤ most → CostAtMost i most left ps → CostAtMost i most now new

module _ (i : Instance) (head : ℕ → ℕ) (greatest : ℕ) (takes : (j : ℕ) → j < length i.jobs → 0 < time_at i j)
    (rises : All (λ a. head a.before + time_at i a.before ≤ head a.after) i.arcs)
    (X : List ℕ) (l : ℕ) (Y C : List ℕ) (ps : List Piece) (f : IsFilling i head greatest ((X ++ l ∷ Y) ++ C) ps)
    (h e : ℕ) (first : h ≡ head (get_or (X ++ l ∷ Y) 0 0)) (tight : Follow head (time_at i) h (X ++ l ∷ Y)) (end : e ≡ h + sum_by (time_at i) (X ++ l ∷ Y)) (small : e ≤ greatest)
    (later : All (λ c. e < head c) C) (last : EndsAt i e (X ++ l ∷ Y) l) where
  abbrev time : ℕ → ℕ
  time = time_at i

  abbrev block : List ℕ
  block = X ++ l ∷ Y

  abbrev rest : List ℕ
  rest = X ++ Y ++ C

  -- the same list as before
  whole_is : block ++ C ≡ X ++ l ∷ (Y ++ C)
  whole_is = append_assoc X (l ∷ Y) C

  rest_is : rest ≡ X ++ (Y ++ C)
  rest_is = append_assoc X Y C

  abbrev m : ℕ
  m = h + sum_by time X

  abbrev new : List Piece
  new = gaps head time l m Y e

  in_block : 0 < length block
  in_block = omega (arith, length-append X (l ∷ Y))

  tail : Follow head time m (l ∷ Y)
  tail = (Follow-append head time h X (l ∷ Y) tight).1

  head_is_early : head l ≤ m
  head_is_early = tail.0

  parts : e ≡ m + (time l + sum_by time Y)
  parts = omega (arith, end, sum_by-append time X (l ∷ Y), sum_by-cons time l Y)

  room : done_by head time m Y ≤ e
  room = omega (arith, done-mono head time m (m + time l) Y (omega arith), done-tight head time (m + time l) Y tail.1, parts)

  inside : All (λ g. (m ≤ start g) × (finish g ≤ e)) new
  inside = gaps-inside head time l m e Y room

  made : All (λ g. (g ≡ piece l (start g) (finish g)) × (start g < finish g)) new
  made = gaps-made head time l m e Y

  own : All (λ g. g.job ≡ l) new
  own k d b = ap (λ g. g.job) (made k d b).0

  -- ---- what was there
  all_before : All (λ j. j < length i.jobs) (X ++ l ∷ (Y ++ C))
  all_before = subst (All (λ j. j < length i.jobs)) whole_is f.inside

  distinct_before : AllPairs (λ j k. j ≢ k) (X ++ l ∷ (Y ++ C))
  distinct_before = subst (AllPairs (λ j k. j ≢ k)) whole_is f.distinct

  sorted_before : AllPairs (λ j k. head j ≤ head k) (X ++ l ∷ (Y ++ C))
  sorted_before = subst (AllPairs (λ j k. head j ≤ head k)) whole_is f.sorted

  l_inside : l < length i.jobs
  l_inside = All-at (λ j. j < length i.jobs) X l (Y ++ C) all_before

  to_whole : (j : ℕ) → Contains rest j → Contains (block ++ C) j
  to_whole j c = subst (λ xs. Contains xs j) (sym whole_is) (Contains-with X l (Y ++ C) j (subst (λ xs. Contains xs j) rest_is c))

  to_rest : (j : ℕ) → j ≢ l → Contains (block ++ C) j → Contains rest j
  to_rest j other c = subst (λ xs. Contains xs j) (sym rest_is) (Contains-without X l (Y ++ C) j other (subst (λ xs. Contains xs j) whole_is c))

  l_left : Contains (block ++ C) l
  l_left = Contains-append_left block C l (Contains-at X l Y)

  l_gone : ¬ Contains rest l
  l_gone c = Contains-once X l (Y ++ C) distinct_before (subst (λ xs. Contains xs l) rest_is c)

  l_new : All (λ p. p.job ≢ l) ps
  l_new k d b same = f.placed k d b (subst (Contains (block ++ C)) (sym same) l_left)

  distinct_block : AllPairs (λ j k. j ≢ k) block
  distinct_block = AllPairs-front (λ j k. j ≢ k) block C f.distinct

  -- the first head is the least
  from_first : All (λ k. h ≤ head k) block
  from_first k d b =
      let same = get_or_default block 0 d 0 in_block in
      rw first (grind (arith, AllPairs-front (λ j k. head j ≤ head k) block C f.sorted 0 k d, same))

  -- each older piece lies before or after the block
  apart_from_block : All (λ p. (finish p ≤ h) ⊎ (e ≤ start p)) ps
  apart_from_block k d b =
      let p = get_or ps k d in
      elim (around head time h (start p) (finish p) block C in_block first tight (f.put k d b).timed.lasts (f.idle k d b)) [ inl g ↦ inl g | inr g ↦ inr (omega (arith, end, g)) ]

  -- ---- what is there now
  put_now : All (IsPut i) (ps ++ new)
  put_now = All-append (IsPut i) ps new f.put (λ k d b. is_put (get_or new k d) (made k d b).0 (made k d b).1)
    where
      is_put : (g : Piece) → g ≡ piece l (start g) (finish g) → start g < finish g → IsPut i g
      is_put g is less = record {
        job = subst (λ x. x < length i.jobs) (sym (ap (λ g. g.job) is)) l_inside;
        op = ap (λ g. g.op) is;
        machine = ap (λ g. g.machine) is;
        timed = record { from = ap (λ g. g.from) is; to = ap (λ g. g.to) is; lasts = less };
      }

  placed_now : All (λ p. ¬ Contains rest p.job) (ps ++ new)
  placed_now = All-append (λ p. ¬ Contains rest p.job) ps new (λ k d b c. f.placed k d b (to_whole _ c)) (λ k d b c. l_gone (subst (Contains rest) (own k d b) c))

  after_now : All (λ p. head p.job ≤ start p) (ps ++ new)
  after_now = All-append (λ p. head p.job ≤ start p) ps new f.after (λ k d b. omega (arith, ap head (own k d b), head_is_early, (inside k d b).0))

  abbrev Idle : Piece → Type 0
  Idle p = busy_until head time 0 (X ++ (Y ++ C)) (finish p) ≤ start p

  still_idle : All Idle ps
  still_idle k d b = le_trans (busy-without head time 0 X l (Y ++ C) (finish (get_or ps k d)))
      (subst (λ xs. busy_until head time 0 xs (finish (get_or ps k d)) ≤ start (get_or ps k d)) whole_is (f.idle k d b))

  sorted_after : AllPairs (λ j k. head j ≤ head k) (Y ++ C)
  sorted_after = AllPairs-tail (λ j k. head j ≤ head k) l (Y ++ C) (AllPairs-back (λ j k. head j ≤ head k) X (l ∷ (Y ++ C)) sorted_before)

  begun : (y : ℕ) → busy_until head time 0 X y ≤ m
  begun y = le_trans (busy-done head time 0 X y)
      (subst (λ n. done_by head time 0 X ≤ n) (done-tight head time h X (Follow-append head time h X (l ∷ Y) tight).0) (done-mono head time 0 h X (omega arith)))

  newly_idle : All Idle new
  newly_idle k d b =
      let y = finish (get_or new k d) in
      subst (λ n. n ≤ start (get_or new k d)) (sym (busy-append head time 0 X (Y ++ C) y))
      (le_trans (busy-mono head time (busy_until head time 0 X y) m (Y ++ C) y (begun y)) (gaps-idle head time l m m e Y C (omega arith) sorted_after later k d b))

  idle_now : All (λ p. busy_until head time 0 rest (finish p) ≤ start p) (ps ++ new)
  idle_now = subst (λ r. All (λ p. busy_until head time 0 r (finish p) ≤ start p) (ps ++ new)) (sym rest_is) (All-append Idle ps new still_idle newly_idle)

  apart_now : AllPairs (IsApart start finish) (ps ++ new)
  apart_now = AllPairs-append (IsApart start finish) ps new f.apart (gaps-apart head time l m e Y room) (λ k d b k' d' b'. elim (apart_from_block k d b) [
    | inl g ↦ inl (omega (arith, g, (inside k' d' b').0))
    | inr g ↦ inr (omega (arith, g, (inside k' d' b').1))
  ])

  -- along one arc
  module _ (n : ℕ) (d : Arc) (b : n < length i.arcs) where
    abbrev a : Arc
    a = get_or i.arcs n d

    rise : head a.before + time a.before ≤ head a.after
    rise = rises n d b

    early_new : All (λ p. p.job ≡ a.before → Contains rest a.after → finish p ≤ head a.after) new
    early_new k x y same c = elim (Contains-append_cases block C a.after (to_whole a.after c)) [
      | inl here ↦ absurd (last.free n d b (sym same ∙ own k x y) here)
      | inr there ↦ omega (arith, (inside k x y).1, All-contains (λ c. e < head c) C a.after later there)
    ]

    old_new : (k : ℕ) (x : Piece) → k < length ps → (k' : ℕ) (x' : Piece)
        → k' < length new → (get_or ps k x).job ≡ a.before → (get_or new k' x').job ≡ a.after → finish (get_or ps k x) ≤ start (get_or new k' x')
    old_new k x y k' x' y' same is =
        let to_l : a.after ≡ l = sym is ∙ own k' x' y' in
        omega (arith, f.early n d b k x y same (subst (Contains (block ++ C)) (sym to_l) l_left), ap head to_l, head_is_early, (inside k' x' y').0)

    new_old : (k : ℕ) (x : Piece) → k < length new → (k' : ℕ) (x' : Piece)
        → k' < length ps → (get_or new k x).job ≡ a.before → (get_or ps k' x').job ≡ a.after → finish (get_or new k x) ≤ start (get_or ps k' x')
    new_old k x y k' x' y' same is = elim (apart_from_block k' x' y') [
      | inl g ↦
          let from_l : a.before ≡ l = sym same ∙ own k x y in
          let first_head = All-contains (λ k. h ≤ head k) block l from_first (Contains-at X l Y) in
          absurd (omega (arith, g, first_head, ap head from_l, rise, ap head is, f.after k' x' y', (f.put k' x' y').timed.lasts))
      | inr g ↦ omega (arith, g, (inside k x y).1)
    ]

    new_new : (k : ℕ) (x : Piece) → k < length new → (k' : ℕ) (x' : Piece) → k' < length new → (get_or new k x).job ≡ a.before → (get_or new k' x').job ≡ a.after → ⊥
    new_new k x y k' x' y' same is =
        let from_l : a.before ≡ l = sym same ∙ own k x y in
        let to_l : a.after ≡ l = sym is ∙ own k' x' y' in
        omega (arith, rise, ap head from_l, ap head to_l, ap time from_l, takes l l_inside)

  early_now : All (λ a. All (λ p. p.job ≡ a.before → Contains rest a.after → finish p ≤ head a.after) (ps ++ new)) i.arcs
  early_now n d b = All-append (λ p. p.job ≡ (get_or i.arcs n d).before → Contains rest (get_or i.arcs n d).after → finish p ≤ head (get_or i.arcs n d).after)
      ps new (λ k x y same c. f.early n d b k x y same (to_whole (get_or i.arcs n d).after c)) (early_new n d b)

  ordered_now : All (λ a. All (λ p. All (λ q. p.job ≡ a.before → q.job ≡ a.after → finish p ≤ start q) (ps ++ new)) (ps ++ new)) i.arcs
  ordered_now n d b = All-append (λ p. All (λ q. p.job ≡ (get_or i.arcs n d).before → q.job ≡ (get_or i.arcs n d).after → finish p ≤ start q) (ps ++ new)) ps new
      (λ k x y. All-append (λ q. (get_or ps k x).job ≡ (get_or i.arcs n d).before → q.job ≡ (get_or i.arcs n d).after → finish (get_or ps k x) ≤ start q)
      ps new (f.ordered n d b k x y) (λ k' x' y' same is. old_new n d b k x y k' x' y' same is))
      (λ k x y. All-append (λ q. (get_or new k x).job ≡ (get_or i.arcs n d).before → q.job ≡ (get_or i.arcs n d).after → finish (get_or new k x) ≤ start q)
      ps new (λ k' x' y' same is. new_old n d b k x y k' x' y' same is) (λ k' x' y' same is. absurd (new_new n d b k x y k' x' y' same is)))

  work_last : work_of job_of start finish (ps ++ new) l ≡ time l
  work_last = omega (arith, work_of-append ps new l, work_of-none ps l l_new, work_of-own new l own, gaps-size head time l m e Y room, parts)

  work_older : (j : ℕ) → j ≢ l → work_of job_of start finish ps j ≡ time j → work_of job_of start finish (ps ++ new) j ≡ time j
  work_older j other is = omega (arith, work_of-append ps new j, is, work_of-none new j (λ k d b same. other (sym same ∙ own k d b)))

  IsFilling-next : IsFilling i head greatest rest (ps ++ new)
  IsFilling-next = record {
    inside = subst (All (λ j. j < length i.jobs)) (sym rest_is) (All-without (λ j. j < length i.jobs) X l (Y ++ C) all_before);
    distinct = subst (AllPairs (λ j k. j ≢ k)) (sym rest_is) (AllPairs-without (λ j k. j ≢ k) X l (Y ++ C) distinct_before);
    sorted = subst (AllPairs (λ j k. head j ≤ head k)) (sym rest_is) (AllPairs-without (λ j k. head j ≤ head k) X l (Y ++ C) sorted_before);
    put = put_now;
    placed = placed_now;
    after = after_now;
    idle = idle_now;
    apart = apart_now;
    early = early_now;
    ordered = ordered_now;
    work = λ j b gone. elim (cases_Bool (eqb j l)) [
      | inl same ↦ subst (λ x. work_of job_of start finish (ps ++ new) x ≡ time x) (sym (eqb-true j l same)) work_last
      | inr other ↦ work_older j (eqb-false j l other) (f.work j b (λ c. gone (to_rest j (eqb-false j l other) c)))
    ];
    few = omega (arith, f.few, length-append ps new, gaps-few head time l m e Y, length-append block C, length-append X (l ∷ Y), length-append (X ++ Y) C, length-append X Y);
    ends = All-append (λ p. finish p ≤ greatest) ps new f.ends (λ k d b. omega (arith, (inside k d b).1, small));
  }

  -- ---- none of the placed jobs costs more than the last one, or than those before
  module _ (most : ℤ) (last_costs : cost_at i l e ≤ℤ most) (others_cost : CostAtMost i most (block ++ C) ps) where
    abbrev Costs : ℕ → Type 0
    Costs j = (end : ℕ) × All (λ p. p.job ≡ j → finish p ≤ end) (ps ++ new) × (cost_at i j end ≤ℤ most)

    last_one : Costs l
    last_one = (e, All-append (λ p. p.job ≡ l → finish p ≤ e) ps new (λ k d b same. absurd (l_new k d b same)) (λ k d b same. (inside k d b).1), last_costs)

    older_one : (j : ℕ) → j < length i.jobs → ¬ Contains (block ++ C) j → Costs j
    older_one j b gone =
        let (end, ended, costs) = others_cost j b gone in
        (end, All-append (λ p. p.job ≡ j → finish p ≤ end) ps new ended (λ k d n same. absurd (gone (subst (Contains (block ++ C)) (sym (own k d n) ∙ same) l_left))), costs)

    CostAtMost-next : CostAtMost i most rest (ps ++ new)
    CostAtMost-next j b gone = elim (cases_Bool (eqb j l)) [
      | inl same ↦ subst Costs (sym (eqb-true j l same)) last_one
      | inr other ↦ older_one j b (λ c. gone (to_rest j (eqb-false j l other) c))
    ]

  -- ---- no path leads from the last job to one of the block
  not_past : All (λ k. head k ≤ e) block
  not_past = subst (λ n. All (λ k. head k ≤ n) block) (sym end) (Follow-heads head time h block tight)

  module _ (ends : All (λ a. (a.before < length i.jobs) × (a.after < length i.jobs)) i.arcs) where
    begins : (j k : ℕ) → HasStep i.arcs j k → j < length i.jobs
    begins j k c = (All-contains (λ a. (a.before < length i.jobs) × (a.after < length i.jobs)) i.arcs (record { before = j; after = k }) ends c).0

    lifts : (j k : ℕ) → HasStep i.arcs j k → head j + time j ≤ head k
    lifts j k c = All-contains (λ a. head a.before + time a.before ≤ head a.after) i.arcs (record { before = j; after = k }) rises c

    climbs : (j k : ℕ) → HasStep i.arcs j k → head j < head k
    climbs j k c = omega (arith, lifts j k c, takes j (begins j k c))

    -- a job that is placed, with a later head than the last one's, lies before or after the block
    misses : (j k : ℕ) → HasStep i.arcs j k → ¬ Contains (block ++ C) j → head l < head j → ¬ Contains block k
    misses j k c gone late there =
        let inside = begins j k c in
        let (p, cp, is, lasts) = piece_of job_of start finish ps j (subst (λ w. 0 < w) (sym (f.work j inside gone)) (takes j inside)) in
        let begun = All-contains (λ p. head p.job ≤ start p) ps p f.after cp in
        let all = All-contains (λ a. All (λ p. p.job ≡ a.before → Contains (block ++ C) a.after → finish p ≤ head a.after) ps) i.arcs (record { before = j; after = k }) f.early c in
        let early = All-contains (λ p. p.job ≡ j → Contains (block ++ C) k → finish p ≤ head k) ps p all cp is (Contains-append_left block C k there) in
        let up = All-contains (λ k. head k ≤ e) block k not_past there in
        let least = All-contains (λ k. h ≤ head k) block l from_first (Contains-at X l Y) in
        elim (All-contains (λ p. (finish p ≤ h) ⊎ (e ≤ start p)) ps p apart_from_block cp) [
          | inl g ↦ omega (arith, g, lasts, begun, ap head is, late, least)
          | inr g ↦ omega (arith, g, lasts, early, up)
        ]

    -- no arc leads into the block from a job outside of it with a later head than the last one's
    enters : (j k : ℕ) → HasStep i.arcs j k → ¬ Contains block j → head l < head j → ¬ Contains block k
    enters j k c out late there = elim (cases_Bool (list_any (λ x. eqb x j) (block ++ C))) [
      | inl left ↦ elim (Contains-append_cases block C j (Contains-from_list_any (block ++ C) j left)) [
        | inl here ↦ out here
        | inr after ↦ omega (arith, All-contains (λ c. e < head c) C j later after, lifts j k c, All-contains (λ k. head k ≤ e) block k not_past there)
      ]
      | inr gone ↦ misses j k c (λ x. false≢true (sym gone ∙ list_any-from_Contains (block ++ C) j x)) late there
    ]

    -- nor a path
    along : (j m k : ℕ) → HasStep i.arcs j m → (¬ Contains block m → head l < head m → ¬ Contains block k) → ¬ Contains block j → head l < head j → ¬ Contains block k
    along j m k c next out late there = elim (cases_Bool (list_any (λ x. eqb x m) block)) [
      | inl here ↦ enters j m c out late (Contains-from_list_any block m here)
      | inr gone ↦ next (λ x. false≢true (sym gone ∙ list_any-from_Contains block m x)) (omega (arith, late, climbs j m c)) there
    ]

    path_enters : {j k : ℕ} → HasPath i.arcs j k → ¬ Contains block j → head l < head j → ¬ Contains block k
    path_enters (one c) = enters _ _ c
    path_enters (more c p) = along _ _ _ c (path_enters p)

    free : (j k : ℕ) → j ≡ l → HasStep i.arcs j k → ¬ Contains block k
    free j k same c = All-contains (λ a. a.before ≡ l → ¬ Contains block a.after) i.arcs (record { before = j; after = k }) last.free c same

    from_last : {j k : ℕ} → j ≡ l → HasPath i.arcs j k → ¬ Contains block k
    from_last same (one c) = free _ _ same c
    from_last {j} same (more {k = m} c p) = path_enters p (free _ _ same c) (omega (arith, ap head same, climbs j m c))

    leads_to_none : LeadsToNone i block l
    leads_to_none k d b p = from_last refl p (Contains-get_or block k d b)

    no_successor : (j : ℕ) → LeadsToNone i block j → HasNoSuccessor i block j
    no_successor j none n d b same there =
        All-contains (λ x. ¬ HasPath i.arcs j x) block (get_or i.arcs n d).after none there (one (subst (λ x. HasStep i.arcs x (get_or i.arcs n d).after) same (Contains-get_or i.arcs n d b)))

    -- ---- so the block's value is what the last job costs at its end
    module _ (heads : List ℕ) (each : length heads ≡ length i.jobs) (are : (j : ℕ) → get_or heads j 0 ≡ head j) (sound : IsSound i (λ j. get_or heads j 0)) where
      owed : All (λ j. LeadsToNone i block j → cost_at i l e ≤ℤ cost_at i j (h + total_time i block)) block
      owed k d b none = subst (λ m. cost_at i l e ≤ℤ cost_at i (get_or block k d) m) end
          (elim (last.least k d b (no_successor (get_or block k d) none)) [ inl g ↦ <ℤ_weak g | inr g ↦ ≤ℤ_of_same g.0 ])

      IsBound-made : IsBound i heads block (cost_at i l e)
      IsBound-made = record {
        block = record { each = each; sound = sound; some = in_block; inside = All-front (λ j. j < length i.jobs) block C f.inside; apart = distinct_block };
        value = record {
          begin = h;
          first = (0, get_or block 0 0, in_block, get_or_default block 0 (get_or block 0 0) 0 in_block, are (get_or block 0 0) ∙ sym first);
          after = λ k d b. omega (arith, are (get_or block k d), from_first k d b);
          reached = let (n, b, is) = Contains-at X l Y in (n, l, b, is, (leads_to_none, ap (cost_at i l) end));
          least = owed;
        };
      }

      pub IsOneMore-made : IsOneMore i head greatest heads (block ++ C) rest ps (ps ++ new) block (cost_at i l e)
      IsOneMore-made = record { filling = IsFilling-next; bound = IsBound-made; costs = CostAtMost-next }
