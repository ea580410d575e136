-- The passes that find the distances, level by level.
use Rattle.std.proofs.Common.{◌≡◌, ◌≢◌, ℕ, ◌<◌, ◌≤◌, ◌+◌, Bool, true, false, cond, eqb, List, [], ◌∷◌, length, get_or, set, Some, refl, ap, sym, ◌∙◌, subst, inl, inr, arith}
use Rattle.std.proofs.Common.{length-set, get_or-set_same, get_or-set_other}
use Rattle.std.specs.Prelude.{Contains}
use Rattle.msp_table.specs.Chains.{stay, LeadsInto}
use Rattle.msp_table.proofs.ChainLemmas.{LeadsInto-step, LeadsInto-none, LeadsInto-first}
use Rattle.msp_closure.specs.Entries.{IsLedTo}
use Rattle.msp_closure.proofs.LedLemmas.{led_on}
use Rattle.msp_closure.proofs.StepLemmas.{step_of-parts, step_of-from}
use Rattle.std.proofs.lemmas.List.{get_or_default}
use Rattle.std.proofs.lemmas.List.Elements.{Contains-get_or}
use Rattle.std.proofs.lemmas.List.Sums.{sum_by-set, count_by-le-length}
use Rattle.std.proofs.lemmas.Bool.{cases_eq, cases_lt, eq-eqb, ne_eqb, cond-true, cond-false}
use Rattle.msp_class.specs.declared.class.Class.{Class}
use Rattle.msp_class.specs.declared.ranks.TheConstants.{CLASSES}
use Rattle.msp_class.specs.Rank.{rank_of}
use Rattle.msp_class.proofs.RankLemmas.{rank_of-below, rank_of-injective}
use Rattle.msp_closure.specs.declared.distances.TheConstants.{FAR}
use Rattle.msp_closure.specs.Tables.{value_of, AreDistances}
use Rattle.msp_closure.specs.Walk.{step_of, LeadsToValue, far_count, Raises, Advances}
use Rattle.msp_closure.specs.declared.links.Link.{Link}
use Rattle.msp_closure.specs.Links.{link, AreLinks}
use Rattle.msp_closure.proofs.TableLemmas.{value_of-set_same, value_of-set_other, below_next, class_cases}

-- during a pass a class has the level exactly where it had it before
level_before : (usable : ℕ → Bool) (before after : List ℕ) (level : ℕ) (changed : Bool) (x : Class) → level < FAR
    → Raises usable before after level changed → value_of after x ≡ level → value_of before x ≡ level
level_before usable before after level changed x small r now = elim (cases_eq (value_of before x) FAR) as (λ _. value_of before x ≡ level) [
  | inl far ↦
      let near : value_of after x ≢ FAR = λ e. absurd (omega arith) in
      absurd (omega (arith, (r.reaches x far near).0))
  | inr near ↦ sym (r.keeps x near) ∙ now
]

level_after : (usable : ℕ → Bool) (before after : List ℕ) (level : ℕ) (changed : Bool) (x : Class) → level < FAR
    → Raises usable before after level changed → value_of before x ≡ level → value_of after x ≡ level
level_after usable before after level changed x small r was =
    let near : value_of before x ≢ FAR = λ e. absurd (omega arith) in r.keeps x near ∙ was

far_count-set : (t : List ℕ) (c : Class) (v : ℕ) → length t ≡ CLASSES → value_of t c ≡ FAR → v ≢ FAR
    → far_count (set t (rank_of c) v) + 1 ≡ far_count t
far_count-set t c v len far near =
    let below : rank_of c < length t = omega (arith, rank_of-below c) in
    let was : ◌≡◌ {A = ℕ} (cond (eqb (value_of t c) FAR) 1 0) 1 = cond-true (eqb (value_of t c) FAR) 1 0 (eq-eqb (value_of t c) FAR far) in
    let is : ◌≡◌ {A = ℕ} (cond (eqb v FAR) 1 0) 0 = cond-false (eqb v FAR) 1 0 (ne_eqb v FAR near) in
    omega (arith, sum_by-set (λ x. cond (eqb x FAR) 1 0) t (rank_of c) v 0 below, was, is)

-- a far class gets the next level
Raises-more : (usable : ℕ → Bool) (before after : List ℕ) (level : ℕ) (changed : Bool) (c : Class) → level + 1 < FAR
    → length after ≡ CLASSES → value_of after c ≡ FAR → (k : ℕ) × LeadsToValue usable before c level k
    → Raises usable before after level changed → Raises usable before (set after (rank_of c) (level + 1)) level true
Raises-more usable before after level changed c small len far leads r =
    let was_far : value_of before c ≡ FAR = elim (cases_eq (value_of before c) FAR) as (λ _. value_of before c ≡ FAR) [
      | inl e ↦ e
      | inr near ↦ absurd (near (sym (r.keeps c near) ∙ far))
    ] in
    let next : value_of (set after (rank_of c) (level + 1)) c ≡ level + 1 = value_of-set_same after c (level + 1) len in
    let other = λ (x : Class) (apart : rank_of x ≢ rank_of c). value_of-set_other after c x (level + 1) apart in
    record {
      keeps = λ x near. elim (cases_eq (rank_of x) (rank_of c)) as (λ _. value_of (set after (rank_of c) (level + 1)) x ≡ value_of before x) [
        | inl same ↦ absurd (near (ap (value_of before) (rank_of-injective x c same) ∙ was_far))
        | inr apart ↦ other x apart ∙ r.keeps x near
      ];
      reaches = λ x was near. elim (class_cases x c) as
          (λ _. (value_of (set after (rank_of c) (level + 1)) x ≡ level + 1) × ((k : ℕ) × LeadsToValue usable before x level k)) [
            | inl is ↦
                let leads_on = subst (λ (y : Class). LeadsToValue usable before y level leads.0) (sym is) leads.1 in
                (ap (value_of (set after (rank_of c) (level + 1))) is ∙ next, (leads.0, leads_on))
            | inr apart ↦
                let old = r.reaches x was (λ e. near (other x apart ∙ e)) in
                (other x apart ∙ old.0, old.1)
          ];
      quiet = λ e. cc;
      falls = omega (arith, r.falls, far_count-set after c (level + 1) len far (λ e. absurd (omega arith)));
    }

-- a pass over the first links: where one leads to a class of the level, its own class is not far
pub record Passes (usable : ℕ → Bool) (ls : List Link) (before after : List ℕ) (level : ℕ) (changed : Bool) (done : ℕ) : Type 0 where
  pub raises : Raises usable before after level changed
  pub misses : (j : ℕ) (d : Link) → j < done → get_or after (get_or ls j d).from 0 ≡ FAR → get_or before (get_or ls j d).to 0 ≢ level

pub Passes-start : (usable : ℕ → Bool) (ls : List Link) (t : List ℕ) (level : ℕ) → Passes usable ls t t level false 0
Passes-start usable ls t level = record {
  raises = record {
    keeps = λ c near. refl;
    reaches = λ c far near. absurd (near far);
    quiet = λ e. refl;
    falls = omega arith;
  };
  misses = λ j d below. absurd (omega arith);
}

module _ (usable : ℕ → Bool) (ls : List Link) (before after : List ℕ) (level n : ℕ) (changed : Bool) (e : Link) (small : level + 1 < FAR)
    (below : n < length ls) (starts : List Class) (are : AreLinks usable starts ls) (p : Passes usable ls before after level changed n) where
  -- a link visited without a change
  pub Passes-same : (get_or after (get_or ls n e).from 0 ≡ FAR → get_or after (get_or ls n e).to 0 ≢ level)
      → Passes usable ls before after level changed (n + 1)
  Passes-same missed = record {
    raises = p.raises;
    misses = λ j d early. elim (cases_eq j n) as (λ _. get_or after (get_or ls j d).from 0 ≡ FAR → get_or before (get_or ls j d).to 0 ≢ level) [
      | inl here ↦
          let same : get_or ls j d ≡ get_or ls n e = ap (λ i. get_or ls i d) here ∙ get_or_default ls n d e below in
          let s = are.sound (get_or ls n e) (Contains-get_or ls n e below) in
          let to : (get_or ls n e).to ≡ rank_of s.next = ap (λ l. l.to) s.joins in
          subst (λ (l : Link). get_or after l.from 0 ≡ FAR → get_or before l.to 0 ≢ level) (sym same)
          (λ far was. missed far (ap (λ i. get_or after i 0) to
          ∙ level_after usable before after level changed s.next (omega arith) p.raises (sym (ap (λ i. get_or before i 0) to) ∙ was)))
      | inr apart ↦ p.misses j d (below_next j n early apart)
    ];
  }

  -- the class of a link gets the next level
  pub Passes-more : length after ≡ CLASSES → get_or after (get_or ls n e).from 0 ≡ FAR → get_or after (get_or ls n e).to 0 ≡ level
      → Passes usable ls before (set after (get_or ls n e).from (level + 1)) level true (n + 1)
  Passes-more len far leads =
      let s = are.sound (get_or ls n e) (Contains-get_or ls n e below) in
      let from : (get_or ls n e).from ≡ rank_of s.start = ap (λ l. l.from) s.joins in
      let to : (get_or ls n e).to ≡ rank_of s.next = ap (λ l. l.to) s.joins in
      let value : value_of after s.next ≡ level = sym (ap (λ i. get_or after i 0) to) ∙ leads in
      let led : LeadsToValue usable before s.start level s.row =
      (s.next, s.steps, level_before usable before after level changed s.next (omega arith) p.raises value) in
      let inside : (get_or ls n e).from < length after = omega (arith, rank_of-below s.start) in
      let next : get_or (set after (get_or ls n e).from (level + 1)) (get_or ls n e).from 0 ≡ level + 1
      = get_or-set_same after (get_or ls n e).from (level + 1) 0 inside in
      record {
        raises = subst (λ (i : ℕ). Raises usable before (set after i (level + 1)) level true) (sym from)
            (Raises-more usable before after level changed s.start small len (sym (ap (λ i. get_or after i 0) from) ∙ far) (s.row, led) p.raises);
        misses = λ j d early still. elim (cases_eq (get_or ls j d).from (get_or ls n e).from) as (λ _. get_or before (get_or ls j d).to 0 ≢ level) [
          | inl same ↦ absurd (omega (arith, sym next ∙ sym (ap (λ i. get_or (set after (get_or ls n e).from (level + 1)) i 0) same) ∙ still))
          | inr apart ↦
              let not_here : j ≢ n = λ here. apart (ap (λ l. l.from) (ap (λ i. get_or ls i d) here ∙ get_or_default ls n d e below)) in
              p.misses j d (below_next j n early not_here)
              (sym (get_or-set_other after (get_or ls n e).from (get_or ls j d).from (level + 1) 0 apart) ∙ still)
        ];
      }

-- all links are passed
pub Advances-passed : (usable : ℕ → Bool) (starts : List Class) (ls : List Link) (before after : List ℕ) (level n : ℕ) (changed : Bool) → length ls ≤ n
    → AreLinks usable starts ls → Passes usable ls before after level changed n → Advances usable starts before after level changed
Advances-passed usable starts ls before after level n changed most are p = record {
  raises = p.raises;
  misses = λ c led far k leads.
      let has = are.all k c leads.0 led leads.1 in
      let from : (get_or ls has.0 (link c leads.0)).from ≡ rank_of c = ap (λ l. l.from) has.2 in
      let to : (get_or ls has.0 (link c leads.0)).to ≡ rank_of leads.0 = ap (λ l. l.to) has.2 in
      p.misses has.0 (link c leads.0) (omega (arith, has.1)) (ap (λ i. get_or after i 0) from ∙ far) (ap (λ i. get_or before i 0) to ∙ leads.2);
}

-- after some passes the values up to the level are the distances, and all others are far
pub record IsLevel (usable : ℕ → Bool) (starts wanted : List Class) (t : List ℕ) (level : ℕ) : Type 0 where
  pub sound : (c : Class) → value_of t c ≢ FAR → (value_of t c ≤ level) × ((ks : List ℕ) × (length ks ≡ value_of t c) × LeadsInto usable wanted c ks)
  pub complete : (c : Class) (ks : List ℕ) → IsLedTo usable starts c → LeadsInto usable wanted c ks → length ks ≤ level → value_of t c ≤ length ks

pub IsLevel-start : (usable : ℕ → Bool) (starts wanted : List Class) (t : List ℕ) → ((c : Class) → Contains wanted c → value_of t c ≡ 0)
    → ((c : Class) → value_of t c ≢ FAR → Contains wanted c) → IsLevel usable starts wanted t 0
IsLevel-start usable starts wanted t zero far = record {
  sound = λ c near.
      let is : value_of t c ≡ 0 = zero c (far c near) in
      (omega arith, ([], sym is, record { last = c; is_wanted = far c near; leads = stay }));
  complete = complete;
}
  where
    complete : (c : Class) (ks : List ℕ) → IsLedTo usable starts c → LeadsInto usable wanted c ks → length ks ≤ 0 → value_of t c ≤ length ks
    complete c [] led into short = omega (arith, zero c (LeadsInto-none into))
    complete c (k ∷ ks) led into short = absurd (omega arith)

module _ (usable : ℕ → Bool) (starts wanted : List Class) (before after : List ℕ) (level : ℕ) (changed : Bool) (small : level + 1 < FAR)
    (is : IsLevel usable starts wanted before level) (a : Advances usable starts before after level changed) where
  -- a class from which a row leads to a near class is near
  near_from_row : (c x : Class) (k : ℕ) → IsLedTo usable starts c → step_of usable k c ≡ Some x → value_of before x ≢ FAR → value_of after c ≢ FAR
  near_from_row c x k led steps near far =
      let low = is.sound x near in
      let not_level : value_of before x ≢ level = λ e. a.misses c led far k (x, steps, e) in
      let parts = step_of-parts usable k c x steps in
      let into : LeadsInto usable wanted c (k ∷ low.1.0) = LeadsInto-step parts.0 parts.1 low.1.2 in
      let short : length (k ∷ low.1.0) ≤ level = omega (arith, low.0, low.1.1) in
      let value : value_of before c ≤ length (k ∷ low.1.0) = is.complete c (k ∷ low.1.0) led into short in
      let near_before : value_of before c ≢ FAR = λ e. absurd (omega arith) in
      near_before (sym (a.raises.keeps c near_before) ∙ far)

-- the first classes of the list are at 0, and only classes of the list are near
pub record StartsAt (wanted : List Class) (t : List ℕ) (n : ℕ) : Type 0 where
  pub len : length t ≡ CLASSES
  pub zero : (k : ℕ) (d : Class) → k < n → value_of t (get_or wanted k d) ≡ 0
  pub listed : (c : Class) → value_of t c ≢ FAR → (value_of t c ≡ 0) × Contains wanted c

pub StartsAt-more : (wanted : List Class) (t : List ℕ) (n : ℕ) (x e : Class) → n < length wanted → get_or wanted n e ≡ x → StartsAt wanted t n
    → StartsAt wanted (set t (rank_of x) 0) (n + 1)
StartsAt-more wanted t n x e below at s =
    let written : value_of (set t (rank_of x) 0) x ≡ 0 = value_of-set_same t x 0 s.len in
    let again = λ (c : Class) (same : c ≡ x). ap (value_of (set t (rank_of x) 0)) same ∙ written in
    record {
      len = rw length-set s.len;
      zero = λ k d early. elim (cases_eq (rank_of (get_or wanted k d)) (rank_of x)) as (λ _. value_of (set t (rank_of x) 0) (get_or wanted k d) ≡ 0) [
        | inl same ↦ again (get_or wanted k d) (rank_of-injective (get_or wanted k d) x same)
        | inr apart ↦
            let not_here : k ≢ n = λ same. apart (ap rank_of (ap (λ i. get_or wanted i d) same ∙ get_or_default wanted n d e below ∙ at)) in
            value_of-set_other t x (get_or wanted k d) 0 apart ∙ s.zero k d (below_next k n early not_here)
      ];
      listed = λ c near. elim (class_cases c x) as (λ _. (value_of (set t (rank_of x) 0) c ≡ 0) × Contains wanted c) [
        | inl is ↦
            (again c is, (n, below, get_or_default wanted n c e below ∙ at ∙ sym is))
        | inr apart ↦
            let old = s.listed c (λ far. near (value_of-set_other t x c 0 apart ∙ far)) in
            (value_of-set_other t x c 0 apart ∙ old.0, old.1)
      ];
    }

-- what the next pass makes of the values
module _ (usable : ℕ → Bool) (starts wanted : List Class) (before after : List ℕ) (level : ℕ) (changed : Bool) (small : level + 1 < FAR)
    (is : IsLevel usable starts wanted before level) (a : Advances usable starts before after level changed) where
  complete_next : (c : Class) (ks : List ℕ) → IsLedTo usable starts c → LeadsInto usable wanted c ks → length ks ≤ level + 1 → value_of after c ≤ length ks
  complete_next c [] led into short =
      let low : value_of before c ≤ 0 = is.complete c [] led into (omega arith) in
      let near : value_of before c ≢ FAR = λ e. absurd (omega arith) in
      omega (arith, a.raises.keeps c near)
  complete_next c (k ∷ ks) led into short =
      let first = LeadsInto-first into in
      let steps : step_of usable k c ≡ Some first.next = step_of-from usable k c first.next first.is_usable first.goes in
      let next_led : IsLedTo usable starts first.next = led_on usable starts c first.next k led steps in
      let low : value_of before first.next ≤ length ks = is.complete first.next ks next_led first.rest (omega arith) in
      let near : value_of before first.next ≢ FAR = λ e. absurd (omega arith) in
      let reached : value_of after c ≢ FAR = near_from_row usable starts wanted before after level changed small is a c first.next k led steps near in
      elim (cases_eq (value_of before c) FAR) as (λ _. value_of after c ≤ length (k ∷ ks)) [
        | inl far ↦ elim (cases_lt (length ks) level) as (λ _. value_of after c ≤ length (k ∷ ks)) [
          | inl early ↦
              let value : value_of before c ≤ length (k ∷ ks) = is.complete c (k ∷ ks) led into (omega arith) in
              absurd (omega arith)
          | inr late ↦ omega (arith, (a.raises.reaches c far reached).0)
        ]
        | inr was ↦ elim (cases_lt (length ks) level) as (λ _. value_of after c ≤ length (k ∷ ks)) [
          | inl early ↦
              let value : value_of before c ≤ length (k ∷ ks) = is.complete c (k ∷ ks) led into (omega arith) in
              omega (arith, a.raises.keeps c was)
          | inr late ↦ omega (arith, a.raises.keeps c was, (is.sound c was).0)
        ]
      ]

  sound_next : (c : Class) → value_of after c ≢ FAR
      → (value_of after c ≤ level + 1) × ((ks : List ℕ) × (length ks ≡ value_of after c) × LeadsInto usable wanted c ks)
  sound_next c near = elim (cases_eq (value_of before c) FAR) as
      (λ _. (value_of after c ≤ level + 1) × ((ks : List ℕ) × (length ks ≡ value_of after c) × LeadsInto usable wanted c ks)) [
        | inl far ↦
            let reached = a.raises.reaches c far near in
            let k = reached.1.0 in
            let leads = reached.1.1 in
            let next_near : value_of before leads.0 ≢ FAR = λ e. absurd (omega (arith, leads.2)) in
            let low = is.sound leads.0 next_near in
            let parts = step_of-parts usable k c leads.0 leads.1 in
            let long : length (k ∷ low.1.0) ≡ value_of after c = omega (arith, low.1.1, leads.2, reached.0) in
            (omega (arith, reached.0), (k ∷ low.1.0, long, LeadsInto-step parts.0 parts.1 low.1.2))
        | inr was ↦
            let low = is.sound c was in
            (omega (arith, low.0, a.raises.keeps c was), (low.1.0, low.1.1 ∙ sym (a.raises.keeps c was), low.1.2))
      ]

  -- the values are right up to the next level
  pub IsLevel-next : IsLevel usable starts wanted after (level + 1)
  IsLevel-next = record { sound = sound_next; complete = complete_next }

  reached_all : changed ≡ false → (c : Class) (ks : List ℕ) → IsLedTo usable starts c → LeadsInto usable wanted c ks → value_of after c ≢ FAR
  reached_all still c [] led into = let low : value_of after c ≤ 0 = complete_next c [] led into (omega arith) in λ e. absurd (omega arith)
  reached_all still c (k ∷ ks) led into =
      let first = LeadsInto-first into in
      let steps : step_of usable k c ≡ Some first.next = step_of-from usable k c first.next first.is_usable first.goes in
      let next_led : IsLedTo usable starts first.next = led_on usable starts c first.next k led steps in
      let near : value_of after first.next ≢ FAR = reached_all still first.next ks next_led first.rest in
      let near_before : value_of before first.next ≢ FAR = λ e. near (ap (λ t. value_of t first.next) (a.raises.quiet still) ∙ e) in
      near_from_row usable starts wanted before after level changed small is a c first.next k led steps near_before

  -- a pass that changes nothing ends the walk
  pub AreDistances-quiet : changed ≡ false → level ≤ CLASSES → AreDistances usable starts wanted after
  AreDistances-quiet still most = record {
    near = λ c led near.
        let low = sound_next c near in
        record {
          rows = low.1.0;
          leads = low.1.2;
          length_is = low.1.1;
          least = λ ks into. elim (cases_lt (level + 1) (length ks)) as (λ _. value_of after c ≤ length ks) [
            | inl long ↦ omega (arith, low.0)
            | inr short ↦ complete_next c ks led into short
          ];
        };
    all = reached_all still;
    few = λ c near.
        let same : value_of after c ≡ value_of before c = ap (λ t. value_of t c) (a.raises.quiet still) in
        omega (arith, same, most, (is.sound c (λ e. near (same ∙ e))).0);
  }

pub far_count-most : (t : List ℕ) → length t ≡ CLASSES → far_count t ≤ CLASSES
far_count-most t len = omega (arith, count_by-le-length (λ v. eqb v FAR) t)

-- a pass that changes something leaves fewer far classes
pub far_falls : {usable : ℕ → Bool} {starts : List Class} {before after : List ℕ} {level : ℕ} {changed : Bool} → Advances usable starts before after level changed
    → changed ≡ true → far_count after + 1 ≤ far_count before
far_falls {usable} {starts} {before} {after} {level} {changed} a is =
    let one : ◌≡◌ {A = ℕ} (cond changed 1 0) 1 = cond-true changed 1 0 is in omega (arith, a.raises.falls)
