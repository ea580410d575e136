-- A list schedule by lowered due slots keeps them, if any places do.
use Rattle.std.proofs.Common.{◌≡◌, ℕ, zero, suc, ◌+◌, ◌*◌, ◌-◌, ◌<◌, ◌≤◌, ◌⊎◌, inl, inr, Bool, true, false, eqb, ltb, leb, sym, subst, arith}
use Rattle.std.specs.Prelude.{◌&&◌}
use Rattle.std.proofs.lemmas.Bool.{cases_lt, eqb-true, eq-eqb, le-leb, leb-true, and_from, and_right, le-ltb}
use Rattle.std.proofs.lemmas.Bool.Decides.{nat_tests}
use Rattle.std.proofs.Math.Nat.{mul-le-mul_left}
use Rattle.msp_pieces.proofs.feasible.OneMachine.{both_true}
use Rattle.msp_slots.specs.Seating.{begin_at}
use Rattle.msp_due.specs.Steps.{how_many}
use Rattle.msp_due.proofs.Counts.{how_many-mono, how_many-more, how_many-some, only_one, covered, slots_hold, slots_full}

-- jobs that run by their due slots `low`; `Step` are the arcs, `leads` the paths, `place` any places that keep the due slots
pub record IsRun (n m : ℕ) (Step : ℕ → ℕ → Type 0) (leads : ℕ → ℕ → Bool) (low begin place : ℕ → ℕ) : Type 0 where
  pub some : 1 ≤ m
  pub later : (k j : ℕ) → Step k j → begin k < begin j
  pub waits : (j x : ℕ) → j < n → x < begin j → ((k : ℕ) × (k < n) × Step k j × (x ≤ begin k)) ⊎ (m ≤ how_many n (λ k. leb (low k) (low j) && eqb (begin k) x))
  pub path : (k j : ℕ) → k < n → j < n → Step k j → leads k j ≡ true
  pub joined : (k j l : ℕ) → k < n → j < n → l < n → leads k j ≡ true → leads j l ≡ true → leads k l ≡ true
  pub fits : (x y : ℕ) → x < n → y < n → leads x y ≡ true → how_many n (λ z. leads x z && leb (low z) (low y)) + m * low x ≤ m * low y
  pub few : (x : ℕ) → begin_at n place x ≤ m
  pub kept : (j : ℕ) → j < n → place j < low j

-- nothing begins at t or later and before t
past : (u : Bool) (from t e : ℕ) → e ≤ t → (u && (leb from t && ltb t e)) ≡ false
past u from t e h = and_right u (leb from t && ltb t e) (and_right (leb from t) (ltb t e) (le-ltb t e h))

between_is : (from e x : ℕ) → (leb from x && ltb x e) ≡ true → (from ≤ x) × (x < e)
between_is from e x h = (grind (arith, nat_tests), grind (arith, nat_tests))

-- on two machines too many jobs come after one that is in time
too_many : (m t s a b count : ℕ) → m ≡ 2 → s < t → m * (t - (s + 1)) + 1 ≤ count → count + m * a ≤ m * b → s < a → b ≤ t → ⊥
too_many m t s a b count two = subst (λ m. s < t → m * (t - (s + 1)) + 1 ≤ count → count + m * a ≤ m * b → s < a → b ≤ t → ⊥)
    (sym two) (λ l many fits early late. omega (arith, l, many, fits, early, late))

module _ (n m : ℕ) (Step : ℕ → ℕ → Type 0) (leads : ℕ → ℕ → Bool) (low begin place : ℕ → ℕ) (h : IsRun n m Step leads low begin place) where
  -- a job is urgent where its due slot is no later than e
  abbrev urgent : ℕ → ℕ → Bool
  urgent e j = leb (low j) e

  -- the urgent jobs of a slot
  abbrev at : ℕ → ℕ → ℕ
  at e s = how_many n (λ j. urgent e j && eqb (begin j) s)

  is_at : (e s j : ℕ) → low j ≤ e → begin j ≡ s → (urgent e j && eqb (begin j) s) ≡ true
  is_at e s j a b = and_from (leb (low j) e) (eqb (begin j) s) (le-leb (low j) e a) (eq-eqb (begin j) s b)

  at_is : (e s j : ℕ) → (urgent e j && eqb (begin j) s) ≡ true → (low j ≤ e) × (begin j ≡ s)
  at_is e s j a = let (p, q) = both_true (leb (low j) e) (eqb (begin j) s) a in (leb-true (low j) e p, eqb-true (begin j) s q)

  -- due slots rise along arcs
  earlier_due : (k j : ℕ) → k < n → j < n → Step k j → low k < low j
  earlier_due k j a b step =
      let some = how_many-some n (λ z. leads k z && leb (low z) (low j)) j b (and_from (leads k j) (leb (low j) (low j)) (h.path k j a b step) (le-leb (low j) (low j) (omega arith))) in
      sooner (low k) (low j) (how_many n (λ z. leads k z && leb (low z) (low j))) some (h.fits k j a b (h.path k j a b step))
    where
      sooner : (x y c : ℕ) → 1 ≤ c → c + m * x ≤ m * y → x < y
      sooner x y c some l = elim (cases_lt x y) [ inl less ↦ less | inr over ↦ absurd (omega (arith, some, l, mul-le-mul_left m over)) ]

  -- an urgent job waits for an urgent one, or m urgent jobs run
  waits : (e s j : ℕ) → j < n → low j ≤ e → s < begin j → at e s < m → (k : ℕ) × (k < n) × Step k j × (s ≤ begin k) × (low k < low j)
  waits e s j b due l free = elim (h.waits j s b l) [
    | inl (k, a, step, from) ↦ (k, a, step, from, earlier_due k j a b step)
    | inr full ↦ absurd (omega (
      arith,
      full,
      free,
      how_many-mono n (λ k. leb (low k) (low j) && eqb (begin k) s) (λ k. urgent e k && eqb (begin k) s)
          (λ k _ t. let (p, q) = both_true (leb (low k) (low j)) (eqb (begin k) s) t in is_at e s k (omega (arith, leb-true (low k) (low j) p, due)) (eqb-true (begin k) s q)),
    ))
  ]

  -- the jobs of earlier slots are in time, and this one is not; the slots between have m urgent jobs
  abbrev InTime : ℕ → Type 0
  InTime t = (j : ℕ) → j < n → begin j < t → begin j < low j

  abbrev FullStep : Type 0
  FullStep = (x s : ℕ) → x < n → low x ≤ begin x → InTime (begin x) → s < begin x → ((z : ℕ) → s < z → z < begin x → m ≤ at (low x) z) → m ≤ at (low x) s

  -- ---- in an intree a job has one successor
  pub tree_step : (next : ℕ → ℕ) → ((k j : ℕ) → Step k j → next k ≡ j) → FullStep
  tree_step next one x s b late in_time l between = elim (cases_lt (at (low x) s) m) [
    | inr full ↦ full
    | inl free ↦ elim (cases_lt (s + 1) (begin x)) [
      | inl more ↦ absurd (omega (
        arith,
        between (s + 1) (omega arith) more,
        free,
        covered n n (λ k. urgent (low x) k && eqb (begin k) s) (λ j. urgent (low x) j && eqb (begin j) (s + 1)) next (λ j a t.
            let (due, is) = at_is (low x) (s + 1) j t in
            let (k, inside, step, from, less) = waits (low x) s j a due (omega (arith, is)) free in
            (k, inside, is_at (low x) s k (omega (arith, less, due)) (omega (arith, from, h.later k j step, is)), one k j step)),
      ))
      | inr last ↦
          let (k, inside, step, from, less) = waits (low x) s x b (omega arith) l free in
          absurd (omega (arith, in_time k inside (h.later k x step), less, late, last, from))
    ]
  ]

  -- ---- on two machines each urgent job comes after the one of slot s
  abbrev From : ℕ → ℕ → ℕ → Type 0
  From e s j = (y : ℕ) × (y < n) × (low y ≤ e) × (begin y ≡ s) × (leads y j ≡ true)

  back : (e s : ℕ) → at e s < m → (fuel j : ℕ) → j < n → low j ≤ e → s < begin j → begin j ≤ s + fuel → From e s j
  back e s free zero j b due l f = absurd (omega (arith, l, f))
  back e s free (suc fuel) j b due l f =
      let (k, inside, step, from, less) = waits e s j b due l free in
      elim (cases_lt s (begin k)) [
        | inl more ↦
            let (y, c, u, at, path) = back e s free fuel k inside (omega (arith, less, due)) more (omega (arith, h.later k j step, f)) in
            (y, c, u, at, h.joined y k j c inside b path (h.path k j inside b step))
        | inr last ↦ (k, inside, omega (arith, less, due), omega (arith, last, from), h.path k j inside b step)
      ]

  pub pair_step : m ≡ 2 → FullStep
  pair_step two x s b late in_time l between = elim (cases_lt (at (low x) s) m) [
    | inr full ↦ full
    | inl free ↦
        let (y, c, due, is, path) = back (low x) s free (begin x) x b (omega arith) l (omega arith) in
        absurd (too_many m (begin x) s (low y) (low x) _ two l (many free y c due is) (h.fits y x c b path) (omega (arith, in_time y c (omega (arith, is, l)), is)) late)
  ]
    where
      many : at (low x) s < m → (y : ℕ) → y < n → low y ≤ low x → begin y ≡ s → m * (begin x - (s + 1)) + 1 ≤ how_many n (λ z. leads y z && leb (low z) (low x))
      many free y c due is =
          let d = begin x - (s + 1) in
          let ends : s + 1 + d ≡ begin x = omega (arith, l) in
          let f = λ (z : ℕ). urgent (low x) z && (leb (s + 1) (begin z) && ltb (begin z) (s + 1 + d)) in
          omega (
            arith,
            slots_full n m begin (urgent (low x)) (s + 1) d (λ z p q. between z (omega (arith, p)) (omega (arith, q, ends))),
            how_many-more n f (λ z. leads y z && leb (low z) (low x)) x b (past (urgent (low x) x) (s + 1) (begin x) (s + 1 + d) (omega (arith, ends))) (after x b (omega arith) l (omega arith))
                (λ z k e.
                let (p, q) = both_true (urgent (low x) z) (leb (s + 1) (begin z) && ltb (begin z) (s + 1 + d)) e in
                let (u, v) = between_is (s + 1) (s + 1 + d) (begin z) q in
                after z k (leb-true (low z) (low x) p) (omega (arith, u)) (omega (arith, v, ends))),
          )
        where
          after : (z : ℕ) → z < n → low z ≤ low x → s < begin z → begin z ≤ begin x → (leads y z && leb (low z) (low x)) ≡ true
          after z k u p q =
              let (w, inside, soon, at, path) = back (low x) s free (begin x) z k u p (omega (arith, q)) in
              let same = only_one n (λ j. urgent (low x) j && eqb (begin j) s) w y (subst (λ m. how_many n (λ j. urgent (low x) j && eqb (begin j) s) < m) two free)
              inside c (is_at (low x) s w soon at) (is_at (low x) s y due is) in
              and_from (leads y z) (leb (low z) (low x)) (subst (λ k. leads k z ≡ true) same path) (le-leb (low z) (low x) u)

  module _ (step : FullStep) where
    -- every slot before a late job has m urgent jobs
    full : (x : ℕ) → x < n → low x ≤ begin x → InTime (begin x) → (d s : ℕ) → begin x ≤ s + d → s < begin x → m ≤ at (low x) s
    full x b late in_time zero s f l = absurd (omega (arith, f, l))
    full x b late in_time (suc d) s f l = step x s b late in_time l (λ z p q. full x b late in_time d z (omega (arith, f, p)) q)

    -- so there are more of them than the places hold
    none_late : (x : ℕ) → x < n → low x ≤ begin x → InTime (begin x) → ⊥
    none_late x b late in_time =
        let t = begin x in
        let lower = slots_full n m begin (urgent (low x)) 0 t (λ s p q. full x b late in_time t s (omega arith) (omega (arith, q))) in
        let more = how_many-more n (λ j. urgent (low x) j && (leb 0 (begin j) && ltb (begin j) (0 + t))) (urgent (low x)) x b (past (urgent (low x) x) 0 t (0 + t) (omega arith))
        (le-leb (low x) (low x) (omega arith)) (λ j _ e. (both_true (urgent (low x) j) (leb 0 (begin j) && ltb (begin j) (0 + t)) e).0) in
        let upper = slots_hold n m place h.few 0 t (urgent (low x)) (λ j k e. (omega arith, omega (arith, h.kept j k, leb-true (low j) (low x) e, late))) in
        omega (arith, lower, more, upper)

    in_time_below : (t : ℕ) → InTime t
    in_time_below zero j b l = absurd (omega (arith, l))
    in_time_below (suc t) j b l = elim (cases_lt (begin j) (low j)) [
      | inl soon ↦ soon
      | inr late ↦ absurd (none_late j b late (λ k c less. in_time_below t k c (omega (arith, less, l))))
    ]

    -- the law: no job is late
    pub all_in_time : (j : ℕ) → j < n → begin j < low j
    all_in_time j b = in_time_below (begin j + 1) j b (omega arith)
