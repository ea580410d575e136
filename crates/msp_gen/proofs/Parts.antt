-- What is drawn in two parts, one after the other.
use Rattle.std.proofs.Common.{◌≡◌, ℕ, List, ap, ap₂, ◌∙◌}
use Rattle.msp_class.specs.declared.class.Times.{Times}
use Rattle.msp_instance.specs.declared.Need.{Need}
use Rattle.msp_gen.specs.Draws.{draw}
use Rattle.msp_gen.specs.Generated.{draw_step, draw_machine, draw_some_time, draw_operation}

pub step_value : (seed above middle add : ℕ) → above ≡ (draw 2000 seed).value
    → middle ≡ (draw 2000 seed).seed → add ≡ (draw 100 middle).value → record { above = above; add = add } ≡ (draw_step seed).value
step_value seed above middle add e f g = ap₂ (λ x y. record { above = x; add = y }) e (g ∙ ap (λ s. (draw 100 s).value) f)

pub step_seed : (seed middle last : ℕ) → middle ≡ (draw 2000 seed).seed → last ≡ (draw 100 middle).seed → last ≡ (draw_step seed).seed
step_seed seed middle last f g = g ∙ ap (λ s. (draw 100 s).seed) f

pub operation_value : (times : Times) (shared machines : ℕ) (before : List Need) (seed machine middle time : ℕ)
    → machine ≡ (draw_machine machines before seed).value → middle ≡ (draw_machine machines before seed).seed
    → time ≡ (draw_some_time times shared middle).value → record { machine = machine; time = time } ≡ (draw_operation times shared machines before seed).value
operation_value times shared machines before seed machine middle time e f g = ap₂ (λ x y. record { machine = x; time = y }) e (g ∙ ap (λ s. (draw_some_time times shared s).value) f)

pub operation_seed : (times : Times) (shared machines : ℕ) (before : List Need) (seed middle last : ℕ)
    → middle ≡ (draw_machine machines before seed).seed → last ≡ (draw_some_time times shared middle).seed
    → last ≡ (draw_operation times shared machines before seed).seed
operation_seed times shared machines before seed middle last f g = g ∙ ap (λ s. (draw_some_time times shared s).seed) f
