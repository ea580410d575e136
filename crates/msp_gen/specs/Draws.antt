-- Draws: numbers that follow from a seed, one after another.
use Rattle.std.specs.Prelude.{ℕ, zero, suc, ◌+◌, ◌*◌, ◌/◌, ◌%◌, Bool, true, false, Option, Some, None, List, [], ◌∷◌, ◌++◌}
use Rattle.msp_gen.specs.declared.limits.TheConstants.{SEEDS}

-- What was drawn, and the seed of the next draw.
pub record Drawn (A : Type 0) : Type 0 where
  pub value : A
  pub seed : ℕ

-- Each draw changes the seed so: a linear congruence modulo 2 ^ 31.
unfoldable pub next_seed : ℕ → ℕ
next_seed seed = (1103515245 * seed + 12345) % SEEDS

-- A number below `below`, where that is at least 1.
abbrev pub draw : ℕ → ℕ → Drawn ℕ
draw below seed = record { value = (next_seed seed / 65536) % below; seed = next_seed seed }

-- A number from 1 to `most`.
abbrev pub draw_from_one : ℕ → ℕ → Drawn ℕ
draw_from_one most seed = record { value = 1 + (draw most seed).value; seed = (draw most seed).seed }

-- Nothing is drawn.
abbrev pub without_draw : {A : Type 0} → A → ℕ → Drawn A
without_draw value seed = record { value = value; seed = seed }

-- A draw where the class has what is drawn, and else the neutral value without a draw.
abbrev pub draw_where : {A : Type 0} → Bool → (ℕ → Drawn A) → A → ℕ → Drawn A
draw_where true rule neutral seed = rule seed
draw_where false rule neutral seed = without_draw neutral seed

-- A list drawn in turns: a turn's rule sees its number, from 0, and the list so far, and draws what comes behind it.
unfoldable pub draw_turns : {A : Type 0} → (ℕ → List A → ℕ → Drawn (List A)) → ℕ → ℕ → Drawn (List A)
draw_turns rule zero seed = without_draw [] seed
draw_turns rule (suc turns) seed =
    let before = draw_turns rule turns seed in
    let behind = rule turns before.value before.seed in
    record { value = before.value ++ behind.value; seed = behind.seed }

-- A list of one.
abbrev pub draw_one : {A : Type 0} → (ℕ → Drawn A) → ℕ → Drawn (List A)
draw_one rule seed = record { value = (rule seed).value ∷ []; seed = (rule seed).seed }

-- A list of one or none.
abbrev pub listed : {A : Type 0} → Option A → List A
listed (Some a) = a ∷ []
listed None = []
