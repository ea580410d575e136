-- The frontier: classes struck out, and lists in order of rank.
use Rattle.std.proofs.Common.{◌≡◌, ◌≢◌, ◌↔◌, ℕ, ◌<◌, ◌≤◌, ◌+◌, Bool, true, false, not, List, [], ◌∷◌, ◌++◌, length, get_or, set, refl, ap, sym, ◌∙◌, subst, inl, inr, arith}
use Rattle.std.specs.Prelude.{Contains, AllPairs}
use Rattle.std.proofs.lemmas.Bool.{cases_eq, cases_lt}
use Rattle.std.proofs.lemmas.List.Elements.{Contains-get_or, Contains-push, Contains-push_cases, Contains-append_left}
use Rattle.std.proofs.lemmas.List.Quantifiers.{all_pairs_push}
use Rattle.msp_class.specs.declared.class.Class.{Class}
use Rattle.msp_class.specs.declared.ranks.TheConstants.{CLASSES}
use Rattle.msp_class.specs.Rank.{rank_of}
use Rattle.msp_class.proofs.RankLemmas.{rank_of-below, rank_of-injective}
use Rattle.msp_table.specs.Chains.{every_row, Reaches}
use Rattle.msp_closure.specs.Tables.{is_flagged}
use Rattle.msp_closure.specs.Frontier.{IsMaximal, IsMinimal, ListsInOrder}
use Rattle.msp_closure.proofs.TableLemmas.{is_flagged-set_same, is_flagged-set_other, below_next, class_cases}

-- the flagged classes of rank below a number, in order
pub record ListedBelow (t : List Bool) (classes : List Class) (n : ℕ) : Type 0 where
  pub only : (c : Class) → Contains classes c → (is_flagged t c ≡ true) × (rank_of c < n)
  pub all : (c : Class) → is_flagged t c ≡ true → rank_of c < n → Contains classes c
  pub rises : AllPairs (λ a b. rank_of a < rank_of b) classes

pub ListedBelow-more : (t : List Bool) (classes : List Class) (n : ℕ) (c : Class) → rank_of c ≡ n → is_flagged t c ≡ true
    → ListedBelow t classes n → ListedBelow t (classes ++ c ∷ []) (n + 1)
ListedBelow-more t classes n c at flagged s = record {
  only = λ x has. elim (Contains-push_cases classes c x has) as (λ _. (is_flagged t x ≡ true) × (rank_of x < n + 1)) [
    | inl early ↦ let old = s.only x early in (old.0, omega (arith, old.1))
    | inr same ↦ (ap (is_flagged t) (sym same) ∙ flagged, omega (arith, ap rank_of same, at))
  ];
  all = λ x has below. elim (cases_eq (rank_of x) n) as (λ _. Contains (classes ++ c ∷ []) x) [
    | inl same ↦
        subst (Contains (classes ++ c ∷ [])) (rank_of-injective c x (at ∙ sym same)) (Contains-push classes c)
    | inr apart ↦ Contains-append_left classes (c ∷ []) x (s.all x has (below_next (rank_of x) n below apart))
  ];
  rises = all_pairs_push (λ a b. rank_of a < rank_of b) classes c s.rises
      (λ k d inside. omega (arith, at, (s.only (get_or classes k d) (Contains-get_or classes k d inside)).1));
}

pub ListedBelow-same : (t : List Bool) (classes : List Class) (n : ℕ) (c : Class) → rank_of c ≡ n → is_flagged t c ≡ false
    → ListedBelow t classes n → ListedBelow t classes (n + 1)
ListedBelow-same t classes n c at unflagged s = record {
  only = λ x has. let old = s.only x has in (old.0, omega (arith, old.1));
  all = λ x has below. elim (cases_eq (rank_of x) n) as (λ _. Contains classes x) [
    | inl same ↦
        absurd (let not_here : true ≡ false = sym has ∙ ap (is_flagged t) (rank_of-injective x c (same ∙ sym at)) ∙ unflagged in cc)
    | inr apart ↦ s.all x has (below_next (rank_of x) n below apart)
  ];
  rises = s.rises;
}

pub ListsInOrder-from : (t : List Bool) (classes : List Class) (n : ℕ) → CLASSES ≤ n → ListedBelow t classes n
    → ListsInOrder (λ c. is_flagged t c ≡ true) classes
ListsInOrder-from t classes n all s = record {
  lists = λ c. (λ has. (s.only c has).0, λ flagged. s.all c flagged (omega (arith, rank_of-below c)));
  rises = s.rises;
}

-- a list of a property is a list of an equivalent one
ListsInOrder-same : (P Q : Class → Type 0) (classes : List Class) → ((c : Class) → P c → Q c) → ((c : Class) → Q c → P c)
    → ListsInOrder P classes → ListsInOrder Q classes
ListsInOrder-same P Q classes to back s = record {
  lists = λ c. (λ has. to c ((s.lists c).0 has), λ q. (s.lists c).1 (back c q));
  rises = s.rises;
}

-- what the search for the next class found
pub record IsNext (c : Class) (from : ℕ) (b : Class) : Type 0 where
  pub reached : Reaches every_row c b
  pub high : from ≤ rank_of b
  pub least : (x : Class) → from ≤ rank_of x → rank_of x < rank_of b → ¬ Reaches every_row c x

-- each flagged class of rank below a number to which the class leads leads back
abbrev pub LedBackBelow : List Bool → Class → ℕ → Type 0
LedBackBelow t c n = (b : Class) → rank_of b < n → is_flagged t b ≡ true → Reaches every_row c b → Reaches every_row b c

pub LedBackBelow-next : (t : List Bool) (c b : Class) (from : ℕ) → IsNext c from b → (is_flagged t b ≡ true → Reaches every_row b c)
    → LedBackBelow t c from → LedBackBelow t c (rank_of b + 1)
LedBackBelow-next t c b from next back s x below flagged reaches = elim (cases_lt (rank_of x) from) as (λ _. Reaches every_row x c) [
  | inl early ↦ s x early flagged reaches
  | inr high ↦ elim (cases_eq (rank_of x) (rank_of b)) as (λ _. Reaches every_row x c) [
    | inl same ↦
        subst (λ (y : Class). is_flagged t y ≡ true → Reaches every_row y c) (rank_of-injective b x (sym same)) back flagged
    | inr apart ↦ absurd (next.least x high (omega arith) reaches)
  ]
]

-- the classes of rank below a number to which the class leads and that do not lead back have lost their flag
pub record Struck (c : Class) (before left : List Bool) (n : ℕ) : Type 0 where
  pub kept : (b : Class) → is_flagged left b ≡ true → (is_flagged before b ≡ true) × (rank_of b < n → Reaches every_row c b → Reaches every_row b c)
  pub all : (b : Class) → is_flagged before b ≡ true → (rank_of b < n → Reaches every_row c b → Reaches every_row b c) → is_flagged left b ≡ true

-- one class was looked at: its flag is left only if it leads back, and then as it was, and no other flag changed
Struck-next : (c : Class) (before left after : List Bool) (from : ℕ) (b : Class) → IsNext c from b
    → ((x : Class) → rank_of x ≢ rank_of b → is_flagged after x ≡ is_flagged left x)
    → (is_flagged after b ≡ true → Reaches every_row b c × (is_flagged left b ≡ true))
    → (Reaches every_row b c → is_flagged left b ≡ true → is_flagged after b ≡ true)
    → Struck c before left from → Struck c before after (rank_of b + 1)
Struck-next c before left after from b next others only back s = record {
  kept = λ x flagged. elim (class_cases x b) as
      (λ _. (is_flagged before x ≡ true) × (rank_of x < rank_of b + 1 → Reaches every_row c x → Reaches every_row x c)) [
        | inl is ↦
            let here = only (ap (is_flagged after) (sym is) ∙ flagged) in
            ((s.kept x (ap (is_flagged left) is ∙ here.1)).0, λ below reaches. subst (λ (y : Class). Reaches every_row y c) (sym is) here.0)
        | inr apart ↦
            let old = s.kept x (sym (others x apart) ∙ flagged) in (
              old.0,
              λ below reaches. elim (cases_lt (rank_of x) from) as (λ _. Reaches every_row x c) [
                | inl early ↦ old.1 early reaches
                | inr high ↦ absurd (next.least x high (omega arith) reaches)
              ],
            )
      ];
  all = λ x was leads_back.
      let left_x : is_flagged left x ≡ true = s.all x was (λ early. leads_back (omega (arith, next.high))) in
      elim (class_cases x b) as (λ _. is_flagged after x ≡ true) [
        | inl is ↦
            let to_b = subst (λ (y : Class). Reaches every_row y c) is
            (leads_back (omega (arith, ap rank_of is)) (subst (λ (y : Class). Reaches every_row c y) (sym is) next.reached)) in
            ap (is_flagged after) is ∙ back to_b (ap (is_flagged left) (sym is) ∙ left_x)
        | inr apart ↦ others x apart ∙ left_x
      ];
}

no_flag : {P : Type 0} → false ≡ true → P
no_flag e = absurd (let both = e in cc)

pub Struck-off : (c : Class) (before left : List Bool) (from : ℕ) (b : Class) → IsNext c from b → length left ≡ CLASSES
    → ¬ Reaches every_row b c → Struck c before left from → Struck c before (set left (rank_of b) false) (rank_of b + 1)
Struck-off c before left from b next len not_back s = Struck-next c before left (set left (rank_of b) false) from b next
    (λ x apart. is_flagged-set_other left b x false apart)
    (λ flagged. no_flag (sym (is_flagged-set_same left b false len) ∙ flagged))
    (λ back. absurd (not_back back)) s

pub Struck-stay : (c : Class) (before left : List Bool) (from : ℕ) (b : Class) → IsNext c from b → Reaches every_row b c
    → Struck c before left from → Struck c before left (rank_of b + 1)
Struck-stay c before left from b next back s = Struck-next c before left left from b next (λ x apart. refl) (λ flagged. (back, flagged)) (λ back flagged. flagged) s

pub Struck-all : (c : Class) (before left : List Bool) (n : ℕ) → ((x : Class) → n ≤ rank_of x → ¬ Reaches every_row c x) → Struck c before left n
    → (b : Class) → (is_flagged left b ≡ true) ↔ ((is_flagged before b ≡ true) × (Reaches every_row c b → Reaches every_row b c))
Struck-all c before left n none s b = (
  λ flagged.
      let old = s.kept b flagged in (
        old.0,
        λ reaches. elim (cases_lt (rank_of b) n) as (λ _. Reaches every_row b c) [
          | inl below ↦ old.1 below reaches
          | inr high ↦ absurd (none b high reaches)
        ],
      ),
  λ both. s.all b both.0 (λ below reaches. both.1 reaches),
)

-- among the classes of rank below a number, the flags left are those of maximal classes
pub record MaximalBelow (t left : List Bool) (n : ℕ) : Type 0 where
  pub kept : (b : Class) → is_flagged left b ≡ true → (is_flagged t b ≡ true) × (rank_of b < n → IsMaximal (λ c. is_flagged t c ≡ true) b)
  pub all : (b : Class) → is_flagged t b ≡ true → (rank_of b < n → IsMaximal (λ c. is_flagged t c ≡ true) b) → is_flagged left b ≡ true

pub MaximalBelow-off : (t left : List Bool) (n : ℕ) (c : Class) → rank_of c ≡ n → length left ≡ CLASSES
    → ¬ IsMaximal (λ b. is_flagged t b ≡ true) c → MaximalBelow t left n → MaximalBelow t (set left (rank_of c) false) (n + 1)
MaximalBelow-off t left n c at len beaten s = record {
  kept = λ b flagged. elim (class_cases b c) as
      (λ _. (is_flagged t b ≡ true) × (rank_of b < n + 1 → IsMaximal (λ x. is_flagged t x ≡ true) b)) [
        | inl is ↦
            no_flag (sym (ap (is_flagged (set left (rank_of c) false)) is ∙ is_flagged-set_same left c false len) ∙ flagged)
        | inr apart ↦
            let old = s.kept b (sym (is_flagged-set_other left c b false apart) ∙ flagged) in
            (old.0, λ below. old.1 (below_next (rank_of b) n below (λ e. apart (e ∙ sym at))))
      ];
  all = λ b was maximal. elim (cases_eq (rank_of b) (rank_of c)) as (λ _. is_flagged (set left (rank_of c) false) b ≡ true) [
    | inl same ↦
        absurd (beaten (subst (IsMaximal (λ x. is_flagged t x ≡ true)) (rank_of-injective b c same) (maximal (omega arith))))
    | inr apart ↦ is_flagged-set_other left c b false apart ∙ s.all b was (λ early. maximal (omega arith))
  ];
}

pub MaximalBelow-stay : (t left : List Bool) (n : ℕ) (c : Class) → rank_of c ≡ n
    → (is_flagged t c ≡ true → IsMaximal (λ b. is_flagged t b ≡ true) c) → MaximalBelow t left n → MaximalBelow t left (n + 1)
MaximalBelow-stay t left n c at not_beaten s = record {
  kept = λ b flagged.
      let old = s.kept b flagged in (
        old.0,
        λ below. elim (cases_eq (rank_of b) n) as (λ _. IsMaximal (λ x. is_flagged t x ≡ true) b) [
          | inl same ↦
              let is : c ≡ b = rank_of-injective c b (at ∙ sym same) in
              subst (IsMaximal (λ x. is_flagged t x ≡ true)) is (not_beaten (ap (is_flagged t) is ∙ old.0))
          | inr apart ↦ old.1 (below_next (rank_of b) n below apart)
        ],
      );
  all = λ b was maximal. s.all b was (λ early. maximal (omega arith));
}

pub MaximalBelow-all : (t left : List Bool) (n : ℕ) → CLASSES ≤ n → MaximalBelow t left n
    → (b : Class) → (is_flagged left b ≡ true) ↔ IsMaximal (λ c. is_flagged t c ≡ true) b
MaximalBelow-all t left n all s b = (
  λ flagged. (s.kept b flagged).1 (omega (arith, rank_of-below b)),
  λ maximal. s.all b maximal.0 (λ below. maximal),
)

-- the flags left are those of classes that lead to each flagged class of rank below a number by which they are led to
pub record MinimalBelow (t left : List Bool) (n : ℕ) : Type 0 where
  pub kept : (b : Class) → is_flagged left b ≡ true
      → (is_flagged t b ≡ true) × ((a : Class) → rank_of a < n → is_flagged t a ≡ true → Reaches every_row a b → Reaches every_row b a)
  pub all : (b : Class) → is_flagged t b ≡ true
      → ((a : Class) → rank_of a < n → is_flagged t a ≡ true → Reaches every_row a b → Reaches every_row b a) → is_flagged left b ≡ true

-- one more class struck out what it leads to, if it is flagged
MinimalBelow-next : (t left after : List Bool) (n : ℕ) (c : Class) → rank_of c ≡ n
    → ((b : Class) → is_flagged after b ≡ true → (is_flagged left b ≡ true) × (is_flagged t c ≡ true → Reaches every_row c b → Reaches every_row b c))
    → ((b : Class) → is_flagged left b ≡ true → (is_flagged t c ≡ true → Reaches every_row c b → Reaches every_row b c) → is_flagged after b ≡ true)
    → MinimalBelow t left n → MinimalBelow t after (n + 1)
MinimalBelow-next t left after n c at only back s = record {
  kept = λ b flagged.
      let here = only b flagged in
      let old = s.kept b here.0 in (
        old.0,
        λ a below has reaches. elim (cases_eq (rank_of a) n) as (λ _. Reaches every_row b a) [
          | inl same ↦
              subst (λ (y : Class). is_flagged t y ≡ true → Reaches every_row y b → Reaches every_row b y) (rank_of-injective c a (at ∙ sym same)) here.1 has reaches
          | inr apart ↦ old.1 a (below_next (rank_of a) n below apart) has reaches
        ],
      );
  all = λ b was minimal. back b (s.all b was (λ a early. minimal a (omega arith))) (minimal c (omega arith));
}

pub MinimalBelow-struck : (t left after : List Bool) (n : ℕ) (c : Class) → rank_of c ≡ n → is_flagged t c ≡ true
    → ((b : Class) → (is_flagged after b ≡ true) ↔ ((is_flagged left b ≡ true) × (Reaches every_row c b → Reaches every_row b c)))
    → MinimalBelow t left n → MinimalBelow t after (n + 1)
MinimalBelow-struck t left after n c at has struck s = MinimalBelow-next t left after n c at
    (λ b flagged. let both = (struck b).0 flagged in (both.0, λ also. both.1))
    (λ b flagged back. (struck b).1 (flagged, back has)) s

pub MinimalBelow-stay : (t left : List Bool) (n : ℕ) (c : Class) → rank_of c ≡ n → is_flagged t c ≡ false
    → MinimalBelow t left n → MinimalBelow t left (n + 1)
MinimalBelow-stay t left n c at unflagged s = MinimalBelow-next t left left n c at
    (λ b flagged. (flagged, λ has. no_flag (sym unflagged ∙ has)))
    (λ b flagged back. flagged) s

pub MinimalBelow-all : (t left : List Bool) (n : ℕ) → CLASSES ≤ n → MinimalBelow t left n
    → (b : Class) → (is_flagged left b ≡ true) ↔ IsMinimal (λ c. is_flagged t c ≡ true) b
MinimalBelow-all t left n all s b = (
  λ flagged. let both = s.kept b flagged in (both.0, λ a has. both.1 a (omega (arith, rank_of-below a)) has),
  λ both. s.all b both.0 (λ a below has. both.1 a has),
)

-- a list of the maximal classes of a property is one of those of an equivalent property
pub IsMaximal-same : (P Q : Class → Type 0) (classes : List Class) → ((c : Class) → P c ↔ Q c) → ListsInOrder (IsMaximal P) classes
    → ListsInOrder (IsMaximal Q) classes
IsMaximal-same P Q classes same s = ListsInOrder-same (IsMaximal P) (IsMaximal Q) classes
    (λ c m. ((same c).0 m.0, λ b q reaches. m.1 b ((same b).1 q) reaches))
    (λ c m. ((same c).1 m.0, λ b p reaches. m.1 b ((same b).0 p) reaches)) s

pub IsMinimal-same : (P Q : Class → Type 0) (classes : List Class) → ((c : Class) → P c ↔ Q c) → ListsInOrder (IsMinimal P) classes
    → ListsInOrder (IsMinimal Q) classes
IsMinimal-same P Q classes same s = ListsInOrder-same (IsMinimal P) (IsMinimal Q) classes
    (λ c m. ((same c).0 m.0, λ b q reaches. m.1 b ((same b).1 q) reaches))
    (λ c m. ((same c).1 m.0, λ b p reaches. m.1 b ((same b).0 p) reaches)) s

-- the lists of the flags left, where the flags at first were those of a property
pub ListsInOrder-maximal : (P : Class → Type 0) (t left : List Bool) (classes : List Class) → ((c : Class) → (is_flagged t c ≡ true) ↔ P c)
    → ((b : Class) → (is_flagged left b ≡ true) ↔ IsMaximal (λ c. is_flagged t c ≡ true) b) → ListsInOrder (λ c. is_flagged left c ≡ true) classes
    → ListsInOrder (IsMaximal P) classes
ListsInOrder-maximal P t left classes flags kept s = IsMaximal-same (λ c. is_flagged t c ≡ true) P classes flags
    (ListsInOrder-same (λ c. is_flagged left c ≡ true) (IsMaximal (λ c. is_flagged t c ≡ true)) classes (λ c. (kept c).0) (λ c. (kept c).1) s)

pub ListsInOrder-minimal : (P : Class → Type 0) (t left : List Bool) (classes : List Class) → ((c : Class) → (is_flagged t c ≡ true) ↔ P c)
    → ((b : Class) → (is_flagged left b ≡ true) ↔ IsMinimal (λ c. is_flagged t c ≡ true) b) → ListsInOrder (λ c. is_flagged left c ≡ true) classes
    → ListsInOrder (IsMinimal P) classes
ListsInOrder-minimal P t left classes flags kept s = IsMinimal-same (λ c. is_flagged t c ≡ true) P classes flags
    (ListsInOrder-same (λ c. is_flagged left c ≡ true) (IsMinimal (λ c. is_flagged t c ≡ true)) classes (λ c. (kept c).0) (λ c. (kept c).1) s)

-- a class that leads to one that does not lead back is not maximal
pub beaten : (t : List Bool) (c : Class) (led : Bool) → (led ≡ true) ↔ ((b : Class) → is_flagged t b ≡ true → Reaches every_row c b → Reaches every_row b c)
    → not led ≡ true → ¬ IsMaximal (λ b. is_flagged t b ≡ true) c
beaten t c true led is = cc
beaten t c false led is = λ most. let other = led.1 most.1 in cc

pub not_beaten : (t : List Bool) (c : Class) (led : Bool) → (led ≡ true) ↔ ((b : Class) → is_flagged t b ≡ true → Reaches every_row c b → Reaches every_row b c)
    → is_flagged t c ≡ true → not led ≡ false → IsMaximal (λ b. is_flagged t b ≡ true) c
not_beaten t c true led has is = (has, led.0 refl)
not_beaten t c false led has is = cc
