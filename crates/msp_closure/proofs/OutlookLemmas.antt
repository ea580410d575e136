-- A walk forwards: what it meets is what the starts lead to.
use Rattle.std.proofs.Common.{◌≡◌, ℕ, ◌+◌, ◌-◌, ◌<◌, ◌≤◌, ◌⊎◌, inl, inr, Bool, true, false, not, List, [], ◌∷◌, ◌++◌, length, get_or, set, All, Some, refl, sym, ap}
use Rattle.std.proofs.Common.{subst, ◌∙◌, length-append, append_assoc, arith}
use Rattle.std.specs.Prelude.{Contains, cond}
use Rattle.std.proofs.lemmas.Bool.{cases_eq}
use Rattle.std.proofs.lemmas.List.{append-nil, get_or_append_left, get_or_default}
use Rattle.std.proofs.lemmas.List.Elements.{All-nil, All-cons, All-append, Contains-append_left, Contains-append_right}
use Rattle.std.proofs.lemmas.List.Sums.{sum_by-set}
use Rattle.msp_class.proofs.Sums.{cond-yes}
use Rattle.msp_class.specs.declared.class.Class.{Class}
use Rattle.msp_class.specs.declared.ranks.TheConstants.{CLASSES}
use Rattle.msp_class.specs.Rank.{rank_of}
use Rattle.msp_class.proofs.RankLemmas.{rank_of-below}
use Rattle.msp_table.specs.declared.row.TheConstants.{ROWS}
use Rattle.msp_table.specs.Chains.{Leads, stay, step}
use Rattle.msp_closure.specs.declared.links.Link.{Link}
use Rattle.msp_closure.specs.Entries.{IsLedTo}
use Rattle.msp_closure.specs.Links.{link, IsStep, AddsLinks}
use Rattle.msp_closure.specs.Outlook.{Steps, unset, Grows, IsFollowed, IsWalk, IsOutlook}
use Rattle.msp_closure.specs.Tables.{is_flagged}
use Rattle.msp_closure.specs.Walk.{step_of}
use Rattle.msp_closure.proofs.StepLemmas.{step_of-numbered, step_of-from}
use Rattle.msp_closure.proofs.TableLemmas.{below_next, class_cases, is_flagged-set_same, is_flagged-set_other}
use Rattle.msp_closure.proofs.LedLemmas.{starts_are_led, led_on}

-- one class
pub grows_none : (P : Class → Type 0) (met : List Class) (flags : List Bool) → Grows P met flags met flags
grows_none P met flags = record { behind = []; front = sym (append-nil met); sound = All-nil P; keeps = λ c h. h; fresh = λ c h. inl h; falls = omega arith }

module _ (class : Class) (flags : List Bool) (size : length flags ≡ CLASSES) (new : is_flagged flags class ≡ false) where
  fewer : unset (set flags (rank_of class) true) + 1 ≤ unset flags
  fewer =
      let inside : rank_of class < length flags = omega (arith, size, rank_of-below class) in
      let change = sum_by-set (λ b. cond (not b) 1 0) flags (rank_of class) true false inside in
      let one = cond-yes 1 (ap not new) in
      omega (arith, change, one)

  pub grows_one : (met met_after : List Class) (flags_after : List Bool)
      → flags_after ≡ set flags (rank_of class) true → met_after ≡ met ++ class ∷ [] → Grows (λ c. c ≡ class) met flags met_after flags_after
  grows_one met met_after flags_after e f = subst (Grows (λ c. c ≡ class) met flags met_after) (sym e) (record {
    behind = class ∷ [];
    front = f;
    sound = All-cons (λ c. c ≡ class) class [] refl (All-nil (λ c. c ≡ class));
    keeps = λ c h. elim (class_cases c class) as (λ _. is_flagged (set flags (rank_of class) true) c ≡ true) [
      | inl q ↦ ap (is_flagged (set flags (rank_of class) true)) q ∙ is_flagged-set_same flags class true size
      | inr n ↦ is_flagged-set_other flags class c true n ∙ h
    ];
    fresh = λ c h. elim (class_cases c class) as (λ _. (is_flagged flags c ≡ true) ⊎ Contains (class ∷ []) c) [
      | inl q ↦ inr (0, omega arith, sym q)
      | inr n ↦ inl (sym (is_flagged-set_other flags class c true n) ∙ h)
    ];
    falls = fewer;
  })

-- one after another
pub grows_on : (P : Class → Type 0) (met met_then met_after : List Class) (flags flags_then flags_after : List Bool)
    → Grows P met flags met_then flags_then → Grows P met_then flags_then met_after flags_after → Grows P met flags met_after flags_after
grows_on P met met_then met_after flags flags_then flags_after g h = record {
  behind = g.behind ++ h.behind;
  front = h.front ∙ ap (λ xs. xs ++ h.behind) g.front ∙ append_assoc met g.behind h.behind;
  sound = All-append P g.behind h.behind g.sound h.sound;
  keeps = λ c m. h.keeps c (g.keeps c m);
  fresh = λ c m. elim (h.fresh c m) as (λ _. (is_flagged flags c ≡ true) ⊎ Contains (g.behind ++ h.behind) c) [
    | inl old ↦ elim (g.fresh c old) as (λ _. (is_flagged flags c ≡ true) ⊎ Contains (g.behind ++ h.behind) c) [
      | inl a ↦ inl a
      | inr b ↦ inr (Contains-append_left g.behind h.behind c b)
    ]
    | inr b ↦ inr (Contains-append_right g.behind h.behind c b)
  ];
  falls = omega (arith, g.falls, h.falls, length-append g.behind h.behind);
}

-- a further row is followed
pub followed_more : (usable : ℕ → Bool) (a : Class) (n row : ℕ) (flags flags_after : List Bool) → row ≡ n
    → ((c : Class) → is_flagged flags c ≡ true → is_flagged flags_after c ≡ true) → IsFollowed usable a n flags
    → ((x : Class) → step_of usable row a ≡ Some x → is_flagged flags_after x ≡ true) → IsFollowed usable a (n + 1) flags_after
followed_more usable a n row flags flags_after at keeps old here k x l e = elim (cases_eq k n) as (λ _. is_flagged flags_after x ≡ true) [
  | inl same ↦ here x (ap (λ j. step_of usable j a) (at ∙ sym same) ∙ e)
  | inr apart ↦ keeps x (old k x (below_next k n l apart) e)
]

pub followed_none : (usable : ℕ → Bool) (a : Class) (flags : List Bool) → IsFollowed usable a 1 flags
followed_none usable a flags k x l e = absurd (omega (arith, (step_of-numbered usable k a x e).0))

-- the first of the starts are met, and nothing else
pub record IsStart (starts met : List Class) (flags : List Bool) (links : List Link) (n : ℕ) : Type 0 where
  pub first : (k : ℕ) (d : Class) → k < n → is_flagged flags (get_or starts k d) ≡ true
  pub sound : All (Contains starts) met
  pub known : (c : Class) → is_flagged flags c ≡ true → Contains met c
  pub none : links ≡ []

-- a class that is flagged after the walk grew was met before or is met behind
known_after : (P : Class → Type 0) (met met_after : List Class) (flags flags_after : List Bool) → ((c : Class) → is_flagged flags c ≡ true → Contains met c)
    → Grows P met flags met_after flags_after → (c : Class) → is_flagged flags_after c ≡ true → Contains met_after c
known_after P met met_after flags flags_after known g c m =
    subst (λ (xs : List Class). Contains xs c) (sym g.front) (elim (g.fresh c m) as (λ _. Contains (met ++ g.behind) c) [
      | inl a ↦ Contains-append_left met g.behind c (known c a)
      | inr b ↦ Contains-append_right met g.behind c b
    ])

pub IsStart-start : (starts : List Class) (flags : List Bool) → ((c : Class) (d : Bool) → get_or flags (rank_of c) d ≡ false)
    → IsStart starts [] flags [] 0
IsStart-start starts flags none = record {
  first = λ k d below. absurd (omega arith);
  sound = All-nil (Contains starts);
  known = λ c m. absurd (let no = none c false in cc);
  none = refl;
}

pub IsStart-next : (starts met met_after : List Class) (flags flags_after : List Bool) (links links_after : List Link) (n : ℕ) (x e : Class) → n < length starts
    → get_or starts n e ≡ x → Grows (λ c. c ≡ x) met flags met_after flags_after → is_flagged flags_after x ≡ true → links_after ≡ links
    → IsStart starts met flags links n → IsStart starts met_after flags_after links_after (n + 1)
IsStart-next starts met met_after flags flags_after links links_after n x e below at g here still s = record {
  first = λ k d early. elim (cases_eq k n) as (λ _. is_flagged flags_after (get_or starts k d) ≡ true) [
    | inl same ↦
        let is : get_or starts k d ≡ x = ap (λ i. get_or starts i d) same ∙ get_or_default starts n d e below ∙ at in
        ap (is_flagged flags_after) is ∙ here
    | inr apart ↦ g.keeps (get_or starts k d) (s.first k d (below_next k n early apart))
  ];
  sound =
      subst (All (Contains starts)) (sym g.front) (All-append (Contains starts) met g.behind s.sound
      (λ k d m. (n, below, get_or_default starts n (get_or g.behind k d) e below ∙ at ∙ sym (g.sound k d m))));
  known = known_after (λ c. c ≡ x) met met_after flags flags_after s.known g;
  none = still ∙ s.none;
}

-- the starts are met, and none is followed yet
pub IsWalk-start : (usable : ℕ → Bool) (starts met : List Class) (flags : List Bool) (links : List Link) (n : ℕ) → length starts ≤ n
    → IsStart starts met flags links n → IsWalk usable starts met flags links 0
IsWalk-start usable starts met flags links n most s = record {
  started = λ b has. ap (is_flagged flags) (sym has.2) ∙ s.first has.0 b (omega (arith, has.1));
  sound = λ k d below. starts_are_led usable starts (get_or met k d) (s.sound k d below);
  known = s.known;
  closed = λ j d x below. absurd (omega arith);
  steps = λ l has. absurd (let P : List Link → Type 0 = λ ls. Contains ls l in let none = subst P s.none has in omega (arith, none.1));
  linked = λ j d x below. absurd (omega arith);
}

-- one more class is followed
module _ (usable : ℕ → Bool) (starts met met_after : List Class) (flags flags_after : List Bool) (links links_after : List Link) (done : ℕ) (class : Class)
    (inside : done < length met) (at : class ≡ get_or met done class) (w : IsWalk usable starts met flags links done)
    (g : Grows (Steps usable class) met flags met_after flags_after) (f : IsFollowed usable class (ROWS + 1) flags_after)
    (a : AddsLinks usable links links_after class (ROWS + 1)) where
  here : IsLedTo usable starts class
  here = let P : Class → Type 0 = IsLedTo usable starts in subst P (sym at) (w.sound done class inside)

  -- a place before the end of what was met has the class that it had
  read : (j : ℕ) (d : Class) → j < length met → get_or met_after j d ≡ get_or met j d
  read j d below = ap (λ xs. get_or xs j d) g.front ∙ get_or_append_left met g.behind d j below

  -- what is followed now is this class, or was followed before
  followed_now : (P : Class → Type 0) → P class → ((j : ℕ) (d : Class) → j < done → P (get_or met j d))
      → (j : ℕ) (d : Class) → j < done + 1 → P (get_or met_after j d)
  followed_now P new old j d below = elim (cases_eq j done) as (λ _. P (get_or met_after j d)) [
    | inl same ↦
        let is : get_or met_after j d ≡ class =
        read j d (omega (arith, inside, same)) ∙ ap (λ i. get_or met i d) same ∙ get_or_default met done d class inside ∙ sym at in
        subst P (sym is) new
    | inr apart ↦
        let early : j < done = below_next j done below apart in
        subst P (sym (read j d (omega (arith, inside, early)))) (old j d early)
  ]

  pub IsWalk-next : IsWalk usable starts met_after flags_after links_after (done + 1)
  IsWalk-next = record {
    started = λ b has. g.keeps b (w.started b has);
    sound =
        subst (All (IsLedTo usable starts)) (sym g.front) (All-append (IsLedTo usable starts) met g.behind w.sound
        (λ k d below. let s = g.sound k d below in led_on usable starts class (get_or g.behind k d) s.0 here s.1));
    known = known_after (Steps usable class) met met_after flags flags_after w.known g;
    closed = λ j d x below s. followed_now (λ c. Steps usable c x → is_flagged flags_after x ≡ true)
        (λ t. f t.0 x (omega (arith, (step_of-numbered usable t.0 class x t.1).1)) t.1)
        (λ i e early t. g.keeps x (w.closed i e x early t)) j d below s;
    steps = λ l has. elim (a.sound l has) as (λ _. IsStep usable l) [ inl old ↦ w.steps l old | inr new ↦ new ];
    linked = λ j d x below s. followed_now (λ c. Steps usable c x → Contains links_after (link c x))
        (λ t. a.all t.0 x (omega (arith, (step_of-numbered usable t.0 class x t.1).1)) t.1)
        (λ i e early t. a.keeps (link (get_or met i e) x) (w.linked i e x early t)) j d below s;
  }

-- what is left to do falls: a class that is followed, or one that is flagged
pub walk_smaller : (P : Class → Type 0) (met met_after : List Class) (flags flags_after : List Bool) (done : ℕ) → done < length met → Grows P met flags met_after flags_after
    → (unset flags_after + unset flags_after + (length met_after - (done + 1)) < unset flags + unset flags + (length met - done)) × (done + 1 ≤ length met_after)
walk_smaller P met met_after flags flags_after done l g =
    let more : length met_after ≡ length met + length g.behind = ap length g.front ∙ length-append met g.behind in
    (omega (arith, l, g.falls, more), omega (arith, l, more))

-- all classes that are met are followed
module _ (usable : ℕ → Bool) (starts met : List Class) (flags : List Bool) (links : List Link) (done : ℕ) (most : length met ≤ done)
    (w : IsWalk usable starts met flags links done) where
  met_is_led : (c : Class) → is_flagged flags c ≡ true → IsLedTo usable starts c
  met_is_led c m = let has = w.known c m in let P : Class → Type 0 = IsLedTo usable starts in subst P has.2 (w.sound has.0 c has.1)

  flagged_on : (a x : Class) → is_flagged flags a ≡ true → Steps usable a x → is_flagged flags x ≡ true
  flagged_on a x m s =
      let has = w.known a m in
      w.closed has.0 a x (omega (arith, most, has.1)) (subst (λ (b : Class). Steps usable b x) (sym has.2) s)

  flagged_along : (ks : List ℕ) (a b : Class) → Leads usable a ks b → is_flagged flags a ≡ true → is_flagged flags b ≡ true
  flagged_along [] a b stay m = m
  flagged_along (k ∷ ks) a b (step u goes rest) m = flagged_along ks _ b rest (flagged_on a _ m (k, step_of-from usable k a _ u goes))

  led_is_flagged : (c : Class) → IsLedTo usable starts c → is_flagged flags c ≡ true
  led_is_flagged c led = flagged_along led.2.0 led.0 c led.2.1 (w.started led.0 led.1)

  pub IsOutlook-walked : IsOutlook usable starts flags links
  IsOutlook-walked = record {
    flagged = λ c. (met_is_led c, led_is_flagged c);
    are_links = record {
      sound = w.steps;
      all = λ k a x led steps.
          let has = w.known a (led_is_flagged a led) in
          subst (λ (b : Class). Steps usable b x → Contains links (link b x)) has.2 (w.linked has.0 a x (omega (arith, most, has.1))) (k, steps);
    };
  }
