-- What a turn adds to a drawn list.
use Rattle.std.proofs.Common.{◌≡◌, ℕ, zero, suc, ◌+◌, ◌<◌, List, [], ◌∷◌, ◌++◌, refl, sym, ap, add-one, arith}
use Rattle.msp_gen.specs.Draws.{Drawn, draw_turns, draw_one}

pub no_turn : {A : Type 0} (rule : ℕ → List A → ℕ → Drawn (List A)) (seed : ℕ) (items : List A) → items ≡ [] → draw_turns rule 0 seed ≡ record { value = items; seed = seed }
unfolding draw_turns
no_turn rule seed items e = ap (λ xs. record { value = xs; seed = seed }) (sym e)

-- a turn whose rule sees the list so far, and adds what it draws
pub next_drawn : {A : Type 0} (rule : ℕ → List A → ℕ → Drawn (List A)) (k seed middle last : ℕ) (before seen after behind : List A)
    → seen ≡ before → after ≡ before ++ behind → draw_turns rule k seed ≡ record { value = before; seed = middle }
    → behind ≡ (rule k seen middle).value → last ≡ (rule k seen middle).seed → draw_turns rule (k + 1) seed ≡ record { value = after; seed = last }
unfolding draw_turns
next_drawn rule k seed middle last before seen after behind same a e f g = rw (add-one k, e, a, f, g, same) refl

-- a turn that adds one
pub next_one : {A : Type 0} (one : ℕ → List A → ℕ → Drawn A) (k seed middle last : ℕ) (before after : List A) (item : A)
    → after ≡ before ++ item ∷ [] → draw_turns (λ n b. draw_one (one n b)) k seed ≡ record { value = before; seed = middle }
    → item ≡ (one k before middle).value → last ≡ (one k before middle).seed → draw_turns (λ n b. draw_one (one n b)) (k + 1) seed ≡ record { value = after; seed = last }
next_one one k seed middle last before after item a e f g =
    next_drawn (λ n b. draw_one (one n b)) k seed middle last before before after (item ∷ []) refl a e (ap (λ x. x ∷ []) f) g

-- what each turn keeps
pub turns_keep : {A : Type 0} (Q : ℕ → List A → Type 0) (rule : ℕ → List A → ℕ → Drawn (List A)) (n seed : ℕ)
    → Q 0 [] → ((k : ℕ) (before : List A) (s : ℕ) → k < n → Q k before → Q (suc k) (before ++ (rule k before s).value))
    → Q n (draw_turns rule n seed).value
unfolding draw_turns
turns_keep Q rule zero seed z h = z
turns_keep Q rule (suc n) seed z h =
    let before = draw_turns rule n seed in
    h n before.value before.seed (omega arith) (turns_keep Q rule n seed z (λ k b s l. h k b s (omega (arith, l))))
