-- The four chains say what the class is.
use Rattle.std.proofs.Common.{◌≡◌, ℕ, Bool, List, [], ◌∷◌, ◌++◌, Option, Some, None, refl, sym, ap, ◌∙◌, subst, append_assoc}
use Rattle.std.specs.Bool.{Decides}
use Rattle.std.specs.Option.{is_some}
use Rattle.std.proofs.lemmas.List.Elements.{Contains-push}
use Rattle.msp_class.specs.declared.class.Class.{Class}
use Rattle.msp_table.specs.declared.row.Chain.{Chain}
use Rattle.msp_table.specs.Rows.{keeps_size}
use Rattle.msp_table.specs.Chains.{every_row, Reaches}
use Rattle.msp_closure.specs.declared.entry.Entry.{Entry}
use Rattle.msp_closure.specs.Entries.{easy_listed, pseudo_listed, hard_listed, strong_listed, LeadsToOne, IsLedTo, Says, IsWay, mark_of}
use Rattle.msp_closure.proofs.WayLemmas.{IsFirst-has, IsFirst-among, one_is}
use Rattle.msp_closure.proofs.LabelLemmas.{Says-mark_of}

-- a chain from the class is there exactly where the class leads to a wanted one
leads_exactly : (usable : ℕ → Bool) (wanted : List Class) (c : Class) (found : Option Chain) → IsWay usable wanted (c ∷ []) found
    → Decides (is_some found) (LeadsToOne usable wanted c)
leads_exactly usable wanted c None way = (λ some. cc, λ leads. absurd (way (c, Contains-push [] c, leads)))
leads_exactly usable wanted c (Some chain) way = (
  λ some. subst (λ x. LeadsToOne usable wanted x) (sym (one_is (IsFirst-among way.0))) (IsFirst-has way.0),
  λ leads. refl,
)

-- a chain to the class is there exactly where a start leads to it
led_exactly : (usable : ℕ → Bool) (starts : List Class) (c : Class) (found : Option Chain) → IsWay usable (c ∷ []) starts found
    → Decides (is_some found) (IsLedTo usable starts c)
led_exactly usable starts c None way = (λ some. cc, λ led. absurd (way (led.0, led.1, (c, Contains-push [] c, led.2))))
led_exactly usable starts c (Some chain) way = (
  λ some.
      let leads = IsFirst-has way.0 in
      let P : Class → Type 0 = λ x. Reaches usable chain.from x in
      (chain.from, IsFirst-among way.0, subst P (sym (one_is leads.1)) leads.2),
  λ led. refl,
)

-- the label that the four chains make is the one that the entries say
pub Says-by_chains : (es : List Entry) (c : Class) (easy pseudo hard strong : Option Chain)
    → IsWay every_row (easy_listed es) (c ∷ []) easy → IsWay keeps_size (pseudo_listed es) (c ∷ []) pseudo
    → IsWay every_row (c ∷ []) (hard_listed es) hard → IsWay keeps_size (c ∷ []) (strong_listed es) strong
    → Says es c (mark_of (is_some easy) (is_some pseudo) (is_some hard) (is_some strong))
Says-by_chains es c easy pseudo hard strong is_easy is_pseudo is_hard is_strong =
    Says-mark_of es c (is_some easy) (is_some pseudo) (is_some hard) (is_some strong) (record {
      easy = leads_exactly every_row (easy_listed es) c easy is_easy;
      pseudo = leads_exactly keeps_size (pseudo_listed es) c pseudo is_pseudo;
      hard = led_exactly every_row (hard_listed es) c hard is_hard;
      strong = led_exactly keeps_size (strong_listed es) c strong is_strong;
    })

-- what is put behind a text that was put whole
pub put_whole : (o p z s c e : List ℕ) → o ≡ [] → p ≡ o ++ s → z ≡ p ++ (c ++ e) → z ≡ s ++ c ++ e
put_whole o p z s c e none first second = second ∙ ap (λ l. l ++ (c ++ e)) (first ∙ ap (λ l. l ++ s) none) ∙ sym (append_assoc s c e)
