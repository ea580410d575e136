-- The passes over a relation: what they keep, and that a quiet one ends them.
use Rattle.std.proofs.Common.{◌≡◌, ◌≢◌, ◌⊎◌, ℕ, ◌<◌, ◌≤◌, ◌+◌, Bool, true, false, List, [], ◌∷◌, length, set, Some, refl, ap, sym, ◌∙◌, subst, inl, inr, arith}
use Rattle.std.proofs.lemmas.Bool.{cases_eq, cases_Bool, or_cases, or_left, or_right}
use Rattle.msp_class.specs.declared.class.Class.{Class}
use Rattle.msp_class.specs.declared.ranks.TheConstants.{CLASSES}
use Rattle.msp_class.specs.Rank.{rank_of}
use Rattle.msp_class.proofs.RankLemmas.{rank_of-below, rank_of-injective}
use Rattle.msp_table.specs.Chains.{Leads, stay, step, Reaches}
use Rattle.msp_table.proofs.ChainLemmas.{some_one}
use Rattle.msp_closure.specs.Tables.{is_flagged}
use Rattle.msp_closure.specs.Walk.{step_of}
use Rattle.msp_closure.specs.Relation.{relates, IsReach, Rises, Joins, Includes, IsSound, Grows, GrowsAt, IsClosedBut, IncludesFlagged}
use Rattle.msp_closure.proofs.StepLemmas.{step_of-parts, step_of-from}
use Rattle.msp_closure.proofs.TableLemmas.{is_flagged-set_same, is_flagged-set_other, class_cases}
use Rattle.msp_closure.proofs.RelationLemmas.{Rises-none, Rises-more, Rises-same}

pub Grows-none : (usable : ℕ → Bool) (words : List ℕ) → Grows usable words words
Grows-none usable words = record { keeps = λ a b was. was; sound = λ s. s }

pub Grows-then : {usable : ℕ → Bool} {before middle after : List ℕ} → Grows usable before middle → Grows usable middle after → Grows usable before after
Grows-then g h = record { keeps = λ a b was. h.keeps a b (g.keeps a b was); sound = λ s. h.sound (g.sound s) }

pub GrowsAt-none : (usable : ℕ → Bool) (words : List ℕ) (a : Class) → GrowsAt usable words words a
GrowsAt-none usable words a = record { grows = Grows-none usable words; others = λ x b apart. refl }

pub GrowsAt-then : {usable : ℕ → Bool} {before middle after : List ℕ} {a : Class} → GrowsAt usable before middle a → GrowsAt usable middle after a
    → GrowsAt usable before after a
GrowsAt-then g h = record { grows = Grows-then g.grows h.grows; others = λ x b apart. h.others x b apart ∙ g.others x b apart }

-- the row of a class joined to that of one to which a row of the table leads
pub GrowsAt-join : (usable : ℕ → Bool) (before after : List ℕ) (a c : Class) (k : ℕ) → step_of usable k a ≡ Some c → Joins before after a c
    → GrowsAt usable before after a
GrowsAt-join usable before after a c k steps j = record {
  grows = record {
    keeps = λ x b was. elim (class_cases x a) as (λ _. relates after x b ≡ true) [
      | inl is ↦
          ap (λ y. relates after y b) is ∙ j.joined b
          ∙ or_left (relates before a b) (relates before c b) (ap (λ y. relates before y b) (sym is) ∙ was)
      | inr apart ↦ j.others x b apart ∙ was
    ];
    sound = λ s x b now. elim (class_cases x a) as (λ _. Reaches usable x b) [
      | inl is ↦
          let either = or_cases (relates before a b) (relates before c b) (sym (j.joined b) ∙ ap (λ y. relates after y b) (sym is) ∙ now) in
          subst (λ (y : Class). Reaches usable y b) (sym is)
          (elim either as (λ _. Reaches usable a b) [
            | inl own ↦ s a b own
            | inr other ↦
                let parts = step_of-parts usable k a c steps in
                let rest = s c b other in
                (k ∷ rest.0, step parts.0 parts.1 rest.1)
          ])
      | inr apart ↦ s x b (sym (j.others x b apart) ∙ now)
    ];
  };
  others = j.others;
}

-- a class includes itself
Includes-self : (words : List ℕ) (a c : Class) → rank_of c ≡ rank_of a → Includes words a c
Includes-self words a c same = λ b now. ap (λ y. relates words y b) (rank_of-injective a c (sym same)) ∙ now

Includes-join : (before after : List ℕ) (a c : Class) → Joins before after a c → Includes after a c
Includes-join before after a c j = elim (cases_eq (rank_of c) (rank_of a)) as (λ _. Includes after a c) [
  | inl same ↦ Includes-self after a c same
  | inr apart ↦ λ b now. j.joined b ∙ or_right (relates before a b) (relates before c b) (sym (j.others c b apart) ∙ now)
]

pub IncludesFlagged-join : (usable : ℕ → Bool) (flags : List Bool) (before after : List ℕ) (a c : Class) (k : ℕ) → step_of usable k a ≡ Some c
    → Joins before after a c → IncludesFlagged usable flags after a k
IncludesFlagged-join usable flags before after a c k steps j x steps_too flagged =
    subst (Includes after a) (some_one (sym steps ∙ steps_too)) (Includes-join before after a c j)

-- what a class includes it includes after its own row grew, and after that of another that is not the included one
Includes-kept : (usable : ℕ → Bool) (before after : List ℕ) (a x c : Class) → GrowsAt usable before after a → rank_of c ≢ rank_of a
    → Includes before x c → Includes after x c
Includes-kept usable before after a x c g apart was = λ b now. g.grows.keeps x b (was b (sym (g.others c b apart) ∙ now))

Includes-kept_own : (usable : ℕ → Bool) (before after : List ℕ) (a c : Class) → GrowsAt usable before after a → Includes before a c → Includes after a c
Includes-kept_own usable before after a c g was = elim (cases_eq (rank_of c) (rank_of a)) as (λ _. Includes after a c) [
  | inl same ↦ Includes-self after a c same
  | inr apart ↦ Includes-kept usable before after a a c g apart was
]

-- the rows of the table before a number have been followed from a class
abbrev pub IncludesBefore : (ℕ → Bool) → List Bool → List ℕ → Class → ℕ → Type 0
IncludesBefore usable flags words a n = (k : ℕ) → k < n → IncludesFlagged usable flags words a k

pub IncludesBefore-next : (usable : ℕ → Bool) (flags : List Bool) (before after : List ℕ) (a : Class) (n : ℕ) → GrowsAt usable before after a
    → IncludesFlagged usable flags after a n → IncludesBefore usable flags before a n → IncludesBefore usable flags after a (n + 1)
IncludesBefore-next usable flags before after a n g here early k below = elim (cases_eq k n) as (λ _. IncludesFlagged usable flags after a k) [
  | inl same ↦ let P : ℕ → Type 0 = IncludesFlagged usable flags after a in subst P (sym same) here
  | inr apart ↦ λ c steps flagged. Includes-kept_own usable before after a c g (early k (omega arith) c steps flagged)
]

-- a pass that has visited the classes of the highest ranks
pub record Passed (usable : ℕ → Bool) (before words : List ℕ) (last fresh : List Bool) (changed : Bool) (n : ℕ) : Type 0 where
  pub grows : Grows usable before words
  pub rises : Rises before words changed
  pub quiet : changed ≡ false → (c : Class) → is_flagged fresh c ≡ false
  pub closed : (a : Class) (k : ℕ) (c : Class) → step_of usable k a ≡ Some c → is_flagged fresh c ≡ false
      → (is_flagged last c ≡ false) ⊎ (CLASSES ≤ rank_of a + n) → Includes words a c

pub Passed-start : (usable : ℕ → Bool) (words : List ℕ) (last fresh : List Bool) → ((c : Class) → is_flagged fresh c ≡ false)
    → ((a : Class) → IsClosedBut usable last words a) → Passed usable words words last fresh false 0
Passed-start usable words last fresh unflagged closed = record {
  grows = Grows-none usable words;
  rises = Rises-none words;
  quiet = λ e. unflagged;
  closed = λ a k c steps not_fresh done. elim done as (λ _. Includes words a c) [
    | inl old ↦ closed a k c steps old
    | inr high ↦ absurd (omega (arith, rank_of-below a))
  ];
}

-- the next class, given that what other classes include is kept
closed_next : (usable : ℕ → Bool) (before after : List ℕ) (last fresh : List Bool) (n : ℕ) (v : Class) → rank_of v + n + 1 ≡ CLASSES
    → ((a : Class) (k : ℕ) (c : Class) → step_of usable k a ≡ Some c → is_flagged fresh c ≡ false
    → (is_flagged last c ≡ false) ⊎ (CLASSES ≤ rank_of a + n) → Includes before a c)
    → ((k : ℕ) → IncludesFlagged usable last after v k)
    → (a : Class) (k : ℕ) (c : Class) → step_of usable k a ≡ Some c → is_flagged fresh c ≡ false → (Includes before a c → Includes after a c)
    → (is_flagged last c ≡ false) ⊎ (CLASSES ≤ rank_of a + (n + 1)) → Includes after a c
closed_next usable before after last fresh n v at closed here a k c steps not_fresh kept done =
    elim (cases_Bool (is_flagged last c)) as (λ _. Includes after a c) [
      | inr old ↦ kept (closed a k c steps not_fresh (inl old))
      | inl flagged ↦ elim (cases_eq (rank_of a) (rank_of v)) as (λ _. Includes after a c) [
        | inl same ↦
            subst (λ (x : Class). step_of usable k x ≡ Some c → Includes after x c) (rank_of-injective v a (sym same)) (λ s. here k c s flagged) steps
        | inr apart ↦ elim done as (λ _. Includes after a c) [
          | inl old ↦ absurd (let both : true ≡ false = sym flagged ∙ old in cc)
          | inr high ↦ kept (closed a k c steps not_fresh (inr (omega arith)))
        ]
      ]
    ]

pub Passed-more : (usable : ℕ → Bool) (before words after : List ℕ) (last fresh : List Bool) (changed : Bool) (n : ℕ) (v : Class)
    → rank_of v + n + 1 ≡ CLASSES → length fresh ≡ CLASSES → GrowsAt usable words after v → Rises words after true
    → ((k : ℕ) → IncludesFlagged usable last after v k)
    → Passed usable before words last fresh changed n → Passed usable before after last (set fresh (rank_of v) true) true (n + 1)
Passed-more usable before words after last fresh changed n v at len g r here p = record {
  grows = Grows-then p.grows g.grows;
  rises = Rises-more p.rises r;
  quiet = λ e. cc;
  closed = λ a k c steps not_fresh done.
      let apart : rank_of c ≢ rank_of v = λ e.
      let now : is_flagged (set fresh (rank_of v) true) c ≡ true = ap (is_flagged (set fresh (rank_of v) true)) (rank_of-injective c v e)
      ∙ is_flagged-set_same fresh v true len in
      let both : true ≡ false = sym now ∙ not_fresh in
      cc in
      closed_next usable words after last fresh n v at p.closed here a k c steps (sym (is_flagged-set_other fresh v c true apart) ∙ not_fresh)
      (Includes-kept usable words after v a c g apart) done;
}

pub Passed-same : (usable : ℕ → Bool) (before words after : List ℕ) (last fresh : List Bool) (changed : Bool) (n : ℕ) (v : Class)
    → rank_of v + n + 1 ≡ CLASSES → GrowsAt usable words after v → Rises words after false → ((k : ℕ) → IncludesFlagged usable last after v k)
    → Passed usable before words last fresh changed n → Passed usable before after last fresh changed (n + 1)
Passed-same usable before words after last fresh changed n v at g r here p = record {
  grows = Grows-then p.grows g.grows;
  rises = Rises-same p.rises r;
  quiet = p.quiet;
  closed = λ a k c steps not_fresh done.
      closed_next usable words after last fresh n v at p.closed here a k c steps not_fresh
      (let P : List ℕ → Type 0 = λ ws. Includes ws a c in λ was. subst P (sym (r.quiet refl)) was) done;
}

pub Passed-closed : {usable : ℕ → Bool} {before words : List ℕ} {last fresh : List Bool} {changed : Bool} (n : ℕ) → CLASSES ≤ n
    → Passed usable before words last fresh changed n → (a : Class) → IsClosedBut usable fresh words a
Passed-closed n all p a k c steps not_fresh = p.closed a k c steps not_fresh (inr (omega arith))

-- what the passes keep
pub record IsPassed (usable : ℕ → Bool) (words : List ℕ) (last fresh : List Bool) : Type 0 where
  pub sound : IsSound usable words
  pub itself : (a : Class) → relates words a a ≡ true
  pub closed : (a : Class) → IsClosedBut usable last words a
  pub unflagged : (c : Class) → is_flagged fresh c ≡ false

pub IsSound-alone : (usable : ℕ → Bool) (words : List ℕ) → ((a b : Class) → relates words a b ≡ true → a ≡ b) → IsSound usable words
IsSound-alone usable words alone a b now = let P : Class → Type 0 = Reaches usable a in subst P (alone a b now) ([], stay)

pub IsPassed-start : (usable : ℕ → Bool) (words : List ℕ) (last fresh : List Bool) → IsSound usable words
    → ((a : Class) → relates words a a ≡ true) → ((c : Class) → is_flagged last c ≡ true) → ((c : Class) → is_flagged fresh c ≡ false)
    → IsPassed usable words last fresh
IsPassed-start usable words last fresh sound itself all none = record {
  sound = sound;
  itself = itself;
  closed = λ a k c steps old. absurd (let both : true ≡ false = sym (all c) ∙ old in cc);
  unflagged = none;
}

pub IsPassed-next : (usable : ℕ → Bool) (before after : List ℕ) (last unused fresh none : List Bool) → IsPassed usable before last unused
    → Grows usable before after → ((a : Class) → IsClosedBut usable fresh after a) → ((c : Class) → is_flagged none c ≡ false)
    → IsPassed usable after fresh none
IsPassed-next usable before after last unused fresh none p g closed unflagged = record {
  sound = g.sound p.sound;
  itself = λ a. g.keeps a a (p.itself a);
  closed = closed;
  unflagged = unflagged;
}

related_along : (usable : ℕ → Bool) (words : List ℕ) (a b : Class) (ks : List ℕ) → ((x : Class) → relates words x x ≡ true)
    → ((x : Class) (k : ℕ) (c : Class) → step_of usable k x ≡ Some c → Includes words x c) → Leads usable a ks b → relates words a b ≡ true
related_along usable words a b [] itself closed stay = itself a
related_along usable words a b (k ∷ ks) itself closed (step {c = x} u goes leads) =
    closed a k x (step_of-from usable k a x u goes) b (related_along usable words x b ks itself closed leads)

-- a quiet pass ends the search
pub IsReach-closed : (usable : ℕ → Bool) (before after : List ℕ) (last fresh : List Bool) → ((a : Class) → relates before a a ≡ true)
    → IsSound usable before → Grows usable before after → ((a : Class) → IsClosedBut usable fresh after a) → ((c : Class) → is_flagged fresh c ≡ false)
    → IsReach usable after
IsReach-closed usable before after last fresh itself sound g closed unflagged = record {
  sound = g.sound sound;
  all = λ a b reaches.
      related_along usable after a b reaches.0 (λ x. g.keeps x x (itself x)) (λ x k c steps. closed x k c steps (unflagged c)) reaches.1;
}
