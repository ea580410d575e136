-- Words that are to be names, one by one, and the texts for those that are none.
use Rattle.std.proofs.Common.{◌≡◌, ℕ, zero, suc, ◌+◌, ◌<◌, ◌-◌, List, [], ◌∷◌, ◌++◌, length, get_or, take, drop, map, Result, Ok, Err}
use Rattle.std.proofs.Common.{if◌then◌else◌, ◌↔◌, sym, ap, ◌∙◌, subst, arith}
use Rattle.std.specs.List.{AllZip}
use Rattle.std.proofs.Math.Seq.{drop-cons}
use Rattle.std.proofs.lemmas.List.{get_or-map, take_more, take_all, length-map}
use Rattle.std.proofs.lemmas.Bool.{lt-ltb}
use Rattle.msp_class.specs.declared.list.TheConstants.{PLACES}
use Rattle.msp_class.specs.declared.class.Class.{Class}
use Rattle.msp_name.specs.declared.fault.NameFault.{NameFault}
use Rattle.msp_name.specs.Names.{NameOf}
use Rattle.msp_name.specs.Reading.{reading_of}
use Rattle.msp_top.specs.Commands.{IsNameWord}
use Rattle.msp_top.specs.Usage.{names_text, name_then, text_of_reading, misspelled_text, misfit_text}

-- the text of a word that is to be a name, where it is short
pub name_then-short : (place : ℕ) (word later : List ℕ) → length word < PLACES → name_then place word later ≡ text_of_reading place (reading_of word) later
name_then-short place word later short = ap (λ b. if b then text_of_reading place (reading_of word) later else misfit_text) (lt-ltb (length word) PLACES short)

pub name_then-fault : (place : ℕ) (word bytes later : List ℕ) (r : Result Class NameFault) (fault : NameFault)
    → length word < PLACES → bytes ≡ word → r ≡ reading_of bytes → r ≡ Err fault → misspelled_text place fault ≡ name_then place word later
name_then-fault place word bytes later r fault short e reads is =
    sym (name_then-short place word later short ∙ ap (λ s. text_of_reading place s later) (ap reading_of (sym e) ∙ sym reads ∙ is))

-- ---- lists side by side
AllZip-more : {A B : Type 0} (R : A → B → Type 0) (xs : List A) (ys : List B) (x : A) (y : B) → AllZip R xs ys → R x y → AllZip R (xs ++ x ∷ []) (ys ++ y ∷ [])
AllZip-more R [] [] x y h r = (r, tt)
AllZip-more R [] (b ∷ ys) x y h r = absurd h
AllZip-more R (a ∷ xs) [] x y h r = absurd h
AllZip-more R (a ∷ xs) (b ∷ ys) x y h r = (h.0, AllZip-more R xs ys x y h.1 r)

AllZip-at : {A B : Type 0} (R : A → B → Type 0) (xs : List A) (ys : List B) (k : ℕ) (d : A) → AllZip R xs ys → k < length xs → (y : B) × R (get_or xs k d) y
AllZip-at R [] ys k d h l = absurd (omega arith)
AllZip-at R (a ∷ xs) [] k d h l = absurd h
AllZip-at R (a ∷ xs) (b ∷ ys) zero d h l = (b, h.0)
AllZip-at R (a ∷ xs) (b ∷ ys) (suc k) d h l = AllZip-at R xs ys k d h.1 (omega arith)

-- ---- names one by one
-- the first k words are names, and the text of what is wrong is that of the rest
pub record HasNames (words : List (List ℕ)) (k : ℕ) : Type 0 where
  pub classes : List Class
  pub front : AllZip IsNameWord (take k words) classes
  pub text : names_text 2 words ≡ names_text (k + 2) (drop k words)

word_at : {X : Type 0} (f : X → List ℕ) (xs : List X) (k : ℕ) (x : X) → k < length xs → x ≡ get_or xs k x → get_or (map f xs) k (f x) ≡ f x
word_at f xs k x l is = get_or-map f xs k x (f x) l ∙ ap f (sym is)

rest_at : {X : Type 0} (f : X → List ℕ) (xs : List X) (k : ℕ) (x : X) → k < length xs → x ≡ get_or xs k x → drop k (map f xs) ≡ f x ∷ drop (k + 1) (map f xs)
rest_at f xs k x l is =
    let more : suc k ≡ k + 1 = omega arith in
    drop-cons (map f xs) k (f x) (omega (arith, length-map xs f))
    ∙ ap (λ w. w ∷ drop (suc k) (map f xs)) (word_at f xs k x l is) ∙ ap (λ n. f x ∷ drop n (map f xs)) more

front_at : {X : Type 0} (f : X → List ℕ) (xs : List X) (k : ℕ) (x : X) → k < length xs → x ≡ get_or xs k x → take (k + 1) (map f xs) ≡ take k (map f xs) ++ f x ∷ []
front_at f xs k x l is = take_more (map f xs) k (f x) (omega (arith, length-map xs f)) ∙ ap (λ w. take k (map f xs) ++ w ∷ []) (word_at f xs k x l is)

pub HasNames-next : {X : Type 0} (f : X → List ℕ) (xs : List X) (k : ℕ) (x : X) (word : List ℕ) (c : Class) → k < length xs → x ≡ get_or xs k x → word ≡ f x → IsNameWord word c →
    ((later : List ℕ) → name_then (k + 2) word later ≡ later) → HasNames (map f xs) k → HasNames (map f xs) (k + 1)
HasNames-next f xs k x word c l is e named step h = record {
  classes = h.classes ++ c ∷ [];
  front = subst (λ ws. AllZip IsNameWord ws (h.classes ++ c ∷ []))
      (sym (front_at f xs k x l is)) (AllZip-more IsNameWord (take k (map f xs)) h.classes (f x) c h.front (subst (λ w. IsNameWord w c) e named));
  text = h.text ∙ ap (names_text (k + 2)) (rest_at f xs k x l is) ∙ ap (λ w. names_text (k + 2) (w ∷ drop (k + 1) (map f xs))) (sym e)
      ∙ step (names_text ((k + 2) + 1) (drop (k + 1) (map f xs))) ∙ ap (λ n. names_text n (drop (k + 1) (map f xs))) (omega arith);
}

pub HasNames-fault : {X : Type 0} (f : X → List ℕ) (xs : List X) (k : ℕ) (x : X) (word text : List ℕ) → k < length xs → x ≡ get_or xs k x → word ≡ f x →
    ((later : List ℕ) → text ≡ name_then (k + 2) word later) → HasNames (map f xs) k → text ≡ names_text 2 (map f xs)
HasNames-fault f xs k x word text l is e fault h =
    fault (names_text ((k + 2) + 1) (drop (k + 1) (map f xs))) ∙ ap (λ w. names_text (k + 2) (w ∷ drop (k + 1) (map f xs))) e ∙ sym (ap (names_text (k + 2)) (rest_at f xs k x l is)) ∙ sym h.text

-- where a word is no name, not all are names
pub not_all_names : {X : Type 0} (f : X → List ℕ) (xs : List X) (k : ℕ) (x : X) (word : List ℕ) → k < length xs → x ≡ get_or xs k x → word ≡ f x → ((c : Class) → ¬ IsNameWord word c) →
    (classes : List Class) → ¬ AllZip IsNameWord (map f xs) classes
not_all_names f xs k x word l is e no_name classes h =
    let at = AllZip-at IsNameWord (map f xs) classes k (f x) h (omega (arith, length-map xs f)) in
    no_name at.0 (subst (λ w. IsNameWord w at.0) (word_at f xs k x l is ∙ sym e) at.1)

-- ---- the classes of names
pub classes_more : {X : Type 0} (f : X → List ℕ) (xs : List X) (k : ℕ) (x : X) (word : List ℕ) (c : Class) (before after : List Class)
    → k < length xs → x ≡ get_or xs k x → word ≡ f x → IsNameWord word c → after ≡ before ++ c ∷ [] →
    AllZip IsNameWord (take k (map f xs)) before → AllZip IsNameWord (take (k + 1) (map f xs)) after
classes_more f xs k x word c before after l is e named grown h =
    subst (λ cs. AllZip IsNameWord (take (k + 1) (map f xs)) cs) (sym grown)
    (subst (λ ws. AllZip IsNameWord ws (before ++ c ∷ [])) (sym (front_at f xs k x l is)) (AllZip-more IsNameWord (take k (map f xs)) before (f x) c h (subst (λ w. IsNameWord w c) e named)))

pub all_classes : (words : List (List ℕ)) (k : ℕ) (classes : List Class) → k ≡ length words → AllZip IsNameWord (take k words) classes → AllZip IsNameWord words classes
all_classes words k classes all h = subst (λ ws. AllZip IsNameWord ws classes) (take_all k words (omega (arith, all))) h

-- a word that is refused is no name
pub no_name_word : (word bytes : List ℕ) (r : Result Class NameFault) (fault : NameFault)
    → bytes ≡ word → r ≡ Err fault → ((c : Class) → (r ≡ Ok c) ↔ NameOf bytes c) → (c : Class) → ¬ IsNameWord word c
no_name_word word bytes r fault e is named c h = let read = (named c).1 (subst (λ w. NameOf w c) (sym e) h.named) in absurd cc
