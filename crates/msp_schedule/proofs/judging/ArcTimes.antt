-- The first beginnings of jobs over more and more pieces, and arcs by last ends and first beginnings.
use Rattle.std.proofs.Common.{◌≡◌, ◌≢◌, ℕ, ◌+◌, ◌<◌, Bool, List, [], length, get_or, take, set, All, ℤ, pos, ◌≤ℤ◌, sym, ap, subst, ◌∙◌, arith, inl, inr}
use Rattle.std.specs.Prelude.{◌==◌, slice_index_or, IsTrue, ◌↔◌}
use Rattle.std.specs.Int.{int_min}
use Rattle.std.proofs.lemmas.Bool.{cases_Bool, eqb-true, eqb-false}
use Rattle.std.proofs.lemmas.List.{length-take, get_or-take, get_or-set_other}
use Rattle.std.proofs.lemmas.List.Elements.{All-nil, All-more}
use Rattle.std.proofs.lemmas.Grind.{get_or-set_at}
use Rattle.std.proofs.lemmas.Int.{ints, clamps}
use Rattle.msp_instance.specs.declared.Arc.{Arc}
use Rattle.msp_class.proofs.IntegerRing.{≤ℤ_trans}
use Rattle.msp_class.specs.declared.sizes.TheConstants.{MOST_JOBS}
use Rattle.msp_pieces.specs.declared.Piece.{Piece}
use Rattle.msp_pieces.specs.declared.limits.TheConstants.{GREATEST_MOMENT}
use Rattle.msp_schedule.specs.Begins.{IsBegin, AreBegins}
use Rattle.msp_schedule.specs.Breaks.{KeepsArc}
use Rattle.msp_pieces.specs.Cost.{last_end}
use Rattle.msp_pieces.specs.Within.{IsMoment}
use Rattle.msp_pieces.proofs.feasible.LastEnds.{last_end-bound, last_end-least}

pub AreBegins-none : (begins : List ℤ) → ((j : ℕ) → j < MOST_JOBS → slice_index_or begins j (pos 0) ≡ GREATEST_MOMENT) → AreBegins begins []
AreBegins-none begins e j h = record { bound = All-nil _; greatest = λ b small all. subst (λ x. b ≤ℤ x) (sym (e j h)) small }

-- what holds of one more piece holds of those before, and of it
pub fewer : (P : Piece → Type 0) (xs : List Piece) (k : ℕ) (d : Piece) → k < length xs → All P (take (k + 1) xs) → All P (take k xs) × P (get_or xs k d)
fewer P xs k d h all = (
  λ i e l. let inside : i < k = omega (arith, length-take k xs) in
      subst P (get_or-take (k + 1) xs i e (omega arith) ∙ sym (get_or-take k xs i e inside)) (all i e (omega (arith, length-take (k + 1) xs, h))),
  subst P (get_or-take (k + 1) xs k d (omega arith)) (all k d (omega (arith, length-take (k + 1) xs, h))),
)

IsBegin-hit : (xs : List Piece) (k j : ℕ) (d : Piece) (x : ℤ) → k < length xs → (get_or xs k d).job ≡ j → IsBegin (take k xs) j x → IsBegin (take (k + 1) xs) j (int_min x (get_or xs k d).from)
IsBegin-hit xs k j d x h e so_far = record {
  bound = All-more (λ p. p.job ≡ j → int_min x (get_or xs k d).from ≤ℤ p.from)
      xs k d h (λ i f l s. lower x (get_or xs k d).from (get_or (take k xs) i f).from (so_far.bound i f l s)) (λ s. least x (get_or xs k d).from);
  greatest = λ b small all. let f = fewer (λ p. p.job ≡ j → b ≤ℤ p.from) xs k d h all in both b x (get_or xs k d).from (so_far.greatest b small f.0) (f.1 e);
}
  where
    lower : (a b c : ℤ) → a ≤ℤ c → int_min a b ≤ℤ c
    lower a b c h = omega (arith, ints, clamps)

    least : (a b : ℤ) → int_min a b ≤ℤ b
    least a b = omega (arith, ints, clamps)

    both : (b x y : ℤ) → b ≤ℤ x → b ≤ℤ y → b ≤ℤ int_min x y
    both b x y h k = omega (arith, ints, clamps)

IsBegin-miss : (xs : List Piece) (k j : ℕ) (d : Piece) (x : ℤ) → k < length xs → (get_or xs k d).job ≢ j → IsBegin (take k xs) j x → IsBegin (take (k + 1) xs) j x
IsBegin-miss xs k j d x h n so_far = record {
  bound = All-more (λ p. p.job ≡ j → x ≤ℤ p.from) xs k d h so_far.bound (λ s. absurd (n s));
  greatest = λ b small all. so_far.greatest b small (fewer (λ p. p.job ≡ j → b ≤ℤ p.from) xs k d h all).0;
}

pub AreBegins-next : (begins new : List ℤ) (xs : List Piece) (k : ℕ) (p d : Piece) → k < length xs → p ≡ get_or xs k d → p.job < length begins → p.job < MOST_JOBS →
    new ≡ set begins p.job (int_min (slice_index_or begins p.job (pos 0)) p.from) → AreBegins begins (take k xs) → AreBegins new (take (k + 1) xs)
AreBegins-next begins new xs k p d h is inside small e so_far j t = elim (cases_Bool (p.job == j)) [
  | inl hit ↦ subst (IsBegin (take (k + 1) xs) j)
      (sym (ap (λ l. slice_index_or l j (pos 0)) e ∙ get_or-set_at begins p.job j value (pos 0) (sym (eqb-true _ _ hit)) inside
      ∙ ap (λ i. int_min (slice_index_or begins i (pos 0)) p.from) (eqb-true _ _ hit) ∙ ap (λ q. int_min (slice_index_or begins j (pos 0)) q.from) is))
      (IsBegin-hit xs k j d (slice_index_or begins j (pos 0)) h (ap (λ q. q.job) (sym is) ∙ eqb-true _ _ hit) (so_far j t))
  | inr miss ↦ subst (IsBegin (take (k + 1) xs) j)
      (sym (ap (λ l. slice_index_or l j (pos 0)) e ∙ get_or-set_other begins p.job j value (pos 0) (λ q. eqb-false _ _ miss (sym q))))
      (IsBegin-miss xs k j d (slice_index_or begins j (pos 0)) h (λ q. eqb-false _ _ miss (ap (λ r. r.job) is ∙ q)) (so_far j t))
]
  where
    value : ℤ
    value = int_min (slice_index_or begins p.job (pos 0)) p.from

-- an arc is kept where the last end before is no later than the first beginning after
pub arc_if : (xs : List Piece) (a : Arc) (x : ℤ) → IsBegin xs a.after x → last_end xs a.before ≤ℤ x → KeepsArc xs a
arc_if xs a x begin h k d l m e n before after =
    ≤ℤ_trans (subst (λ j. (get_or xs k d).to ≤ℤ last_end xs j) before (last_end-bound xs k d l)) (≤ℤ_trans h (begin.bound m e n after))

pub arc_only_if : (xs : List Piece) (a : Arc) (x : ℤ)
    → All (λ p. IsMoment p.from × IsMoment p.to) xs → IsMoment (last_end xs a.before) → IsBegin xs a.after x → KeepsArc xs a → last_end xs a.before ≤ℤ x
arc_only_if xs a x moments end begin kept = begin.greatest (last_end xs a.before) end.1
    (λ m e n after. last_end-least xs a.before (get_or xs m e).from (moments m e n).0.0 (λ k d l before. kept k d l m e n before after))

pub arc_decided : (xs : List Piece) (a : Arc) (ends begins : List ℤ) (result : Bool) → AreBegins begins xs → ((j : ℕ) → j < MOST_JOBS → slice_index_or ends j (pos 0) ≡ last_end xs j)
    → ((j : ℕ) → j < MOST_JOBS → IsMoment (last_end xs j)) → All (λ p. IsMoment p.from × IsMoment p.to) xs → (a.before < MOST_JOBS) × (a.after < MOST_JOBS) →
    IsTrue result ↔ (slice_index_or ends a.before (pos 0) ≤ℤ slice_index_or begins a.after (pos 0)) → IsTrue result ↔ KeepsArc xs a
arc_decided xs a ends begins result are ends_are small moments inside (to, from) = (
  λ h. arc_if xs a (slice_index_or begins a.after (pos 0)) (are a.after inside.1) (subst (λ x. x ≤ℤ slice_index_or begins a.after (pos 0)) (ends_are a.before inside.0) (to h)),
  λ h. from (subst (λ x. x ≤ℤ slice_index_or begins a.after (pos 0))
      (sym (ends_are a.before inside.0)) (arc_only_if xs a (slice_index_or begins a.after (pos 0)) moments (small a.before inside.0) (are a.after inside.1) h)),
)
