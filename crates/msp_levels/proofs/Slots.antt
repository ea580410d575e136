-- Where unit jobs of an outtree run by falling level: a slot with room is over when all jobs with no more above them than its number have begun.
use Rattle.std.proofs.Common.{◌≡◌, ℕ, zero, suc, ◌+◌, ◌-◌, ◌<◌, ◌≤◌, inl, inr, Bool, false, cond, eqb, leb, List, length, get_or, filter, All, AllPairs, Contains, refl, sym, ap, subst, ◌∙◌, arith, sub-add_cancel, add-suc}
use Rattle.std.specs.Prelude.{◌==◌}
use Rattle.std.specs.List.{range_with_len}
use Rattle.std.proofs.lemmas.Bool.{cases_lt, eq-eqb, le-leb, lt-leb, true≢false}
use Rattle.std.proofs.lemmas.List.{get_or_default}
use Rattle.std.proofs.lemmas.List.Elements.{All-contains}
use Rattle.std.proofs.lemmas.List.FromFn.{length-range_with_len}
use Rattle.std.proofs.lemmas.List.Sums.{length-filter}
use Rattle.msp_class.proofs.Sums.{Contains-filter, OnceBelow-range, OnceBelow-distinct, OnceBelow-contains, count_by-distinct, total_below-range}
use Rattle.msp_instance.specs.declared.Arc.{Arc}
use Rattle.msp_instance.specs.declared.Instance.{Instance}
use Rattle.msp_instance.specs.Conditions.{entering}
use Rattle.msp_pieces.specs.Levels.{LeadsOut, AreLevels}
use Rattle.msp_slots.specs.ListSchedule.{RunsAhead, WaitsForJob, RunsInOrder}
use Rattle.msp_slots.specs.Seating.{one_if, begin_at}
use Rattle.msp_slots.proofs.Progress.{stands-in}
use Rattle.msp_levels.specs.Sums.{has_above}
use Rattle.msp_levels.proofs.Above.{under-before, under-more}
use Rattle.msp_levels.proofs.Counts.{cover}

-- ---- arcs of an outtree
no_arc : Arc
no_arc = record { before = 0; after = 0 }

-- the job from which the arc to a job comes
before_of : List Arc → ℕ → ℕ
before_of arcs j = (get_or (filter (λ a. a.after == j) arcs) 0 no_arc).before

before_is : (arcs : List Arc) (a : Arc) → entering arcs a.after ≤ 1 → Contains arcs a → before_of arcs a.after ≡ a.before
unfolding before_of
before_is arcs a few c =
    let (k, l, e) = Contains-filter (λ b. b.after == a.after) arcs a c (eq-eqb a.after a.after refl) in
    let f = filter (λ b. b.after == a.after) arcs in
    let first : k ≡ 0 = omega (arith, l, length-filter (λ b. b.after == a.after) arcs, few) in
    ap (λ b. b.before) (get_or_default f 0 no_arc a (omega (arith, l)) ∙ ap (λ n. get_or f n a) (sym first) ∙ e)

-- up the line from a job to the first that begins by a moment
climb : List Arc → (ℕ → ℕ) → ℕ → ℕ → ℕ → ℕ
climb arcs begin s zero j = j
climb arcs begin s (suc c) j = cond (leb (begin j) s) j (climb arcs begin s c (before_of arcs j))

climb-stop : (arcs : List Arc) (begin : ℕ → ℕ) (s c j : ℕ) → begin j ≤ s → climb arcs begin s c j ≡ j
unfolding climb
climb-stop arcs begin s zero j l = refl
climb-stop arcs begin s (suc c) j l = ap (λ b. cond b j (climb arcs begin s c (before_of arcs j))) (le-leb (begin j) s l)

climb-step : (arcs : List Arc) (begin : ℕ → ℕ) (s c j : ℕ) → s < begin j → climb arcs begin s (suc c) j ≡ climb arcs begin s c (before_of arcs j)
unfolding climb
climb-step arcs begin s c j l = ap (λ b. cond b j (climb arcs begin s c (before_of arcs j))) (lt-leb (begin j) s l)

pub record IsOuttree (i : Instance) (level : ℕ → ℕ) : Type 0 where
  pub few : (j : ℕ) → j < length i.jobs → entering i.arcs j ≤ 1
  pub ends : All (λ a. (a.before < length i.jobs) × (a.after < length i.jobs)) i.arcs
  pub levels : AreLevels i level

module _ (i : Instance) (level : ℕ → ℕ) (t : IsOuttree i level)
    (order : List ℕ) (falling : AllPairs (λ a b. level b ≤ level a) order) (begin machine : ℕ → ℕ) (h : RunsInOrder i order begin machine) where
  abbrev n : ℕ
  n = length i.jobs

  inside : (a : Arc) → Contains i.arcs a → (a.before < n) × (a.after < n)
  inside a c = All-contains (λ a. (a.before < n) × (a.after < n)) i.arcs a t.ends c

  rises : (a : Arc) → Contains i.arcs a → begin a.before < begin a.after
  rises a c = All-contains (λ a. begin a.before < begin a.after) i.arcs a h.forward c

  -- ---- a slot with room
  module _ (x : ℕ) (room : begin_at n begin x < i.machines) where
    abbrev now : ℕ → Bool
    now j = eqb (begin j) x

    -- some number of each job of the slot does not give all machines
    never_all : (f : ℕ → ℕ) → ((k : ℕ) → k < i.machines → (z : ℕ) × (z < n) × (begin z ≡ x) × (f z ≡ k)) → ⊥
    never_all f all = absurd (omega (
      arith,
      room,
      length-range_with_len 0 i.machines,
      cover f here (range_with_len 0 i.machines) (λ k. count_by-distinct (range_with_len 0 i.machines)
          k (OnceBelow-distinct (OnceBelow-range i.machines))) each,
      length-filter now (range_with_len 0 n),
      total_below-range n (λ j. one_if (eqb (begin j) x)),
    ))
      where
        here : List ℕ
        here = filter now (range_with_len 0 n)

        each : All (λ y. (z : ℕ) × Contains here z × (f z ≡ y)) (range_with_len 0 i.machines)
        each k d l =
            let (z, b, e, is) = all (get_or (range_with_len 0 i.machines) k d) ((OnceBelow-range i.machines).within k d l) in
            (z, Contains-filter now (range_with_len 0 n) z (OnceBelow-contains (OnceBelow-range n) z b) (eq-eqb (begin z) x e), is)

    waits_here : (j : ℕ) → j < n → x < begin j → WaitsForJob i begin x j
    waits_here j l late = elim (h.waits j x l late) [
      | inl waits ↦ waits
      | inr full ↦ absurd (never_all machine (λ k b. let (q, lq, e, g, st) = full k b in (q, lq, e, g)))
    ]

    -- ---- above a job that begins too late, one of the line runs in the slot
    abbrev Above : Type 0
    Above = (y : ℕ) × (y < n) × (begin y ≡ x) × LeadsOut i.arcs (suc zero) y × (has_above i.arcs x y ≡ false)

    line_in_slot : (b w : ℕ) → begin w ≤ b → w < n → x < begin w → has_above i.arcs (suc x) w ≡ false → Above
    line_in_slot zero w bound l late under = absurd (omega (arith, bound, late))
    line_in_slot (suc b) w bound l late under =
        let (a, c, to, from) = waits_here w l late in
        let step : begin a.before < begin w = subst (λ k. begin a.before < begin k) to (rises a c) in
        let none : has_above i.arcs x a.before ≡ false = under-before i.arcs x w a c to under in
        elim (cases_lt x (begin a.before)) [
          | inl more ↦ line_in_slot b a.before (omega (arith, step, bound)) (inside a c).0 more (under-more i.arcs x a.before none)
          | inr last ↦ (a.before, (inside a c).0, omega (arith, from, last), (w, subst (λ k. Contains i.arcs (record { before = a.before; after = k })) to c, tt), none)
        ]

    -- ---- up the line, there is a job that waited for machines alone
    abbrev Pause : Type 0
    Pause = (s : ℕ) × (y : ℕ) × (y < n) × (len : ℕ) × LeadsOut i.arcs len y × (len + s ≡ x) × ((k : ℕ) → k < i.machines → RunsAhead i order begin machine s k y)

    pause_in_line : (b y : ℕ) → y < n → begin y ≡ b → (len : ℕ) → LeadsOut i.arcs len y → len + b ≡ suc x → has_above i.arcs b y ≡ false → Pause
    pause_in_line zero y l e len out sum under = absurd (true≢false under)
    pause_in_line (suc s) y l e len out sum under = elim (h.waits y s l (omega (arith, e))) [
      | inr full ↦ (s, y, l, len, out, omega (arith, sum), full)
      | inl (a, c, to, from) ↦
          let step : begin a.before < begin y = subst (λ k. begin a.before < begin k) to (rises a c) in
          pause_in_line s a.before (inside a c).0 (omega (arith, from, step, e)) (suc len)
          (y, subst (λ k. Contains i.arcs (record { before = a.before; after = k })) to c, out) (omega (arith, sum)) (under-before i.arcs s y a c to under)
    ]

    -- ---- below a job with a way down that is long enough, one runs in the slot
    abbrev Below : ℕ → ℕ → Type 0
    Below s f = (z : ℕ) × (z < n) × (begin z ≡ x) × (climb i.arcs begin s x z ≡ f)

    arrived : (s f q c : ℕ) → q < n → begin q ≡ x → s + c ≤ begin q → ((d : ℕ) → climb i.arcs begin s (d + c) q ≡ f) → Below s f
    arrived s f q c l e far up =
        (q, l, e, subst (λ d. climb i.arcs begin s d q ≡ f) (sub-add_cancel (omega (arith, far, e))) (up (x - c)))

    line_to_slot : (s f len q c : ℕ) → q < n → LeadsOut i.arcs len q → begin q ≤ x → x ≤ len + begin q → s + c ≤ begin q → ((d : ℕ) → climb i.arcs begin s (d + c) q ≡ f) → Below s f
    line_to_slot s f zero q c l out early enough far up = arrived s f q c l (omega (arith, early, enough)) far up
    line_to_slot s f (suc len) q c l (k, step, out) early enough far up = elim (cases_lt (begin q) x) [
      | inr last ↦ arrived s f q c l (omega (arith, early, last)) far up
      | inl less ↦
          let lk : k < n = (inside (record { before = q; after = k }) step).1 in
          let next : begin q < begin k = rises (record { before = q; after = k }) step in
          let comes : before_of i.arcs k ≡ q = before_is i.arcs (record { before = q; after = k }) (t.few k lk) step in
          elim (cases_lt x (begin k)) [
            | inl late ↦
                let (a, ca, to, from) = waits_here k lk late in
                let same : a.before ≡ q = sym (before_is i.arcs a (subst (λ j. entering i.arcs j ≤ 1) (sym to) (t.few k lk)) ca) ∙ ap (before_of i.arcs) to ∙ comes in
                absurd (omega (arith, from, less, ap begin same))
            | inr soon ↦ line_to_slot s f len k (suc c) lk out soon (omega (arith, enough, next)) (omega (arith, far, next)) (λ d.
                subst (λ e. climb i.arcs begin s e k ≡ f) (sym (add-suc d c))
                (climb-step i.arcs begin s (d + c) k (omega (arith, far, next)) ∙ ap (climb i.arcs begin s (d + c)) comes ∙ up d))
          ]
    ]

    -- machines that all run ahead of a job with a way down that is long enough leave no room in the slot
    crowded : (s v len : ℕ) → v < n → LeadsOut i.arcs len v → len + s ≡ x → ((k : ℕ) → k < i.machines → RunsAhead i order begin machine s k v) → ⊥
    crowded s v len l out sum full = never_all (λ z. machine (climb i.arcs begin s x z)) each
      where
        each : (k : ℕ) → k < i.machines → (z : ℕ) × (z < n) × (begin z ≡ x) × (machine (climb i.arcs begin s x z) ≡ k)
        each k b =
            let (q, lq, eq, on, st) = full k b in
            let high : level v ≤ level q = stands-in (λ a b. level b ≤ level a) order q v falling st in
            let (z, lz, ez, up) = line_to_slot s q (level q) q 0 lq (t.levels q lq).path (omega (arith, eq, sum))
            (omega (arith, eq, sum, high, (t.levels v l).longest len out)) (omega (arith, eq)) (λ d. climb-stop i.arcs begin s (d + 0) q (omega (arith, eq))) in
            (z, lz, ez, ap machine up ∙ on)

    pub slot_with_room : (w : ℕ) → w < n → has_above i.arcs (suc x) w ≡ false → begin w ≤ x
    slot_with_room w l under = elim (cases_lt x (begin w)) [
      | inr soon ↦ soon
      | inl late ↦
          let (y, ly, ey, down, none) = line_in_slot (begin w) w (omega arith) l late under in
          let (s, v, lv, len, out, sum, full) = pause_in_line x y ly ey (suc zero) down (omega arith) none in
          absurd (crowded s v len lv out sum full)
    ]
