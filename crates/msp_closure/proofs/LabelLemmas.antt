-- The labels from four tests of each class.
use Rattle.std.proofs.Common.{◌≡◌, ◌<◌, Bool, true, false, not, ltb, ◌&&◌, ◌||◌, Option, List, length, get_or, Some, refl, ap, sym, ◌∙◌, subst, arith}
use Rattle.std.specs.Prelude.{slice_get, IsSomeAnd}
use Rattle.std.specs.Bool.{Decides}
use Rattle.std.proofs.lemmas.Option.{slice_get-get_or}
use Rattle.std.proofs.lemmas.Bool.{and_parts, lt-ltb}
use Rattle.std.proofs.lemmas.Bool.Decides.{Decides-and, Decides-or}
use Rattle.msp_class.specs.declared.class.Class.{Class}
use Rattle.msp_class.specs.declared.ranks.TheConstants.{CLASSES}
use Rattle.msp_class.specs.Rank.{rank_of}
use Rattle.msp_class.proofs.RankLemmas.{rank_of-below}
use Rattle.msp_table.specs.Rows.{keeps_size}
use Rattle.msp_closure.specs.declared.entry.Entry.{Entry}
use Rattle.msp_closure.specs.declared.entry.Mark.{Mark}
use Rattle.msp_closure.specs.declared.entry.Mark.TheVariants.{Easy, Pseudo, Weak, Hard, Strong, Torn, Both, Unsettled}
use Rattle.msp_closure.specs.Entries.{pseudo_listed, LeadsToOne, IsEasy, IsHard, IsStrong, Applies, label_number, Says, AreLabels, mark_of}

-- a test of four answers that passes everywhere
all_of : (Bool → Bool) → Bool
all_of test = test true && test false

all_of-at : (test : Bool → Bool) → all_of test ≡ true → (b : Bool) → test b ≡ true
unfolding all_of
all_of-at test all true = (and_parts (test true) (test false) all).0
all_of-at test all false = (and_parts (test true) (test false) all).1

passes : (Bool → Bool → Bool → Bool → Bool) → Bool
passes test = all_of (λ e. all_of (λ p. all_of (λ h. all_of (λ s. test e p h s))))

passes-at : (test : Bool → Bool → Bool → Bool → Bool) → passes test ≡ true → (e p h s : Bool) → test e p h s ≡ true
unfolding passes
passes-at test all e p h s = all_of-at (test e p h) (all_of-at (λ h. all_of (test e p h)) (all_of-at (λ p. all_of (λ h. all_of (test e p h)))
    (all_of-at (λ e. all_of (λ p. all_of (λ h. all_of (test e p h)))) all e) p) h) s

-- whether a mark applies, by the tests of a class
applies : Bool → Bool → Bool → Bool → Mark → Bool
applies e p h s Both = e && h
applies e p h s Easy = e
applies e p h s Torn = (e || p) && s
applies e p h s Weak = h && (e || p)
applies e p h s Strong = s
applies e p h s Hard = h
applies e p h s Pseudo = e || p
applies e p h s Unsettled = true

mark_of-applies : (e p h s : Bool) → applies e p h s (mark_of e p h s) ≡ true
unfolding applies all_of passes
mark_of-applies = passes-at (λ e p h s. applies e p h s (mark_of e p h s)) refl

-- whether the mark does not apply, where it comes before the mark of the tests
is_later : Mark → Bool → Bool → Bool → Bool → Bool
is_later m e p h s = not (ltb (label_number m) (label_number (mark_of e p h s)) && applies e p h s m)

passes-is_later : (m : Mark) → passes (is_later m) ≡ true
unfolding applies all_of passes is_later
passes-is_later Both = refl
passes-is_later _ = refl

not_both : (a b : Bool) → not (a && b) ≡ true → a ≡ true → b ≡ false
not_both true false h e = refl
not_both _ _ h e = cc

mark_of-first : (e p h s : Bool) (m : Mark) → label_number m < label_number (mark_of e p h s) → applies e p h s m ≡ false
unfolding is_later
mark_of-first e p h s m before = not_both (ltb (label_number m) (label_number (mark_of e p h s))) (applies e p h s m)
    (passes-at (is_later m) (passes-is_later m) e p h s) (lt-ltb (label_number m) (label_number (mark_of e p h s)) before)

-- what the tests of a class say
pub record AreTests (es : List Entry) (c : Class) (e p h s : Bool) : Type 0 where
  pub easy : Decides e (IsEasy es c)
  pub pseudo : Decides p (LeadsToOne keeps_size (pseudo_listed es) c)
  pub hard : Decides h (IsHard es c)
  pub strong : Decides s (IsStrong es c)

applies-Decides : (es : List Entry) (c : Class) (e p h s : Bool) (m : Mark) → AreTests es c e p h s → Decides (applies e p h s m) (Applies es c m)
unfolding applies
applies-Decides es c e p h s Both are = Decides-and e h are.easy are.hard
applies-Decides es c e p h s Easy are = are.easy
applies-Decides es c e p h s Torn are = Decides-and (e || p) s (Decides-or e p are.easy are.pseudo) are.strong
applies-Decides es c e p h s Weak are = Decides-and h (e || p) are.hard (Decides-or e p are.easy are.pseudo)
applies-Decides es c e p h s Strong are = are.strong
applies-Decides es c e p h s Hard are = are.hard
applies-Decides es c e p h s Pseudo are = Decides-or e p are.easy are.pseudo
applies-Decides es c e p h s Unsettled are = (λ _. tt, λ _. refl)

pub Says-mark_of : (es : List Entry) (c : Class) (e p h s : Bool) → AreTests es c e p h s → Says es c (mark_of e p h s)
Says-mark_of es c e p h s are = (
  (applies-Decides es c e p h s (mark_of e p h s) are).0 (mark_of-applies e p h s),
  λ other before applied.
      let not_first = mark_of-first e p h s other before in
      let holds = (applies-Decides es c e p h s other are).1 applied in
      cc,
)

-- the marks made from the tests
pub AreLabels-from : (es : List Entry) (tests : (c : Class) → Bool × Bool × Bool × Bool) (marks : List Mark)
    → ((c : Class) → AreTests es c (tests c).0 (tests c).1 (tests c).2 (tests c).3) → length marks ≡ CLASSES
    → ((c : Class) (d : Mark) → get_or marks (rank_of c) d ≡ mark_of (tests c).0 (tests c).1 (tests c).2 (tests c).3) → AreLabels es marks
AreLabels-from es tests marks are len each = record {
  one_each = len;
  each = λ c.
      let inside : rank_of c < length marks = omega (arith, rank_of-below c) in
      let is : slice_get marks (rank_of c) ≡ Some (mark_of (tests c).0 (tests c).1 (tests c).2 (tests c).3) =
      slice_get-get_or marks (rank_of c) Unsettled inside ∙ ap Some (each c Unsettled) in
      subst (λ (o : Option Mark). IsSomeAnd o (Says es c)) (sym is) (Says-mark_of es c (tests c).0 (tests c).1 (tests c).2 (tests c).3 (are c));
}

-- what the label of a class says
pub Says-label : (es : List Entry) (marks : List Mark) (c : Class) (m : Mark) → AreLabels es marks → slice_get marks (rank_of c) ≡ Some m → Says es c m
Says-label es marks c m are is = let P : Option Mark → Type 0 = λ o. IsSomeAnd o (Says es c) in subst P is (are.each c)
