-- Each environment has a number of its own.
use Rattle.std.proofs.Common.{◌≡◌, ◌<◌, List, [], ◌∷◌, get_or, refl, sym, ap, ◌∙◌, arith}
use Rattle.msp_class.specs.Rank.{env_number}
use Rattle.msp_class.specs.declared.class.Env.{Env}
use Rattle.msp_class.specs.declared.class.Env.TheVariants.{One, P2, P3, P, Q2, Q, R2, R, O2, O3, O, F2, F3, F, J2Short, JShort, J2, J}

abbrev envs : List Env
envs = One ∷ P2 ∷ P3 ∷ P ∷ Q2 ∷ Q ∷ R2 ∷ R ∷ O2 ∷ O3 ∷ O ∷ F2 ∷ F3 ∷ F ∷ J2Short ∷ JShort ∷ J2 ∷ J ∷ []

at_number : (e : Env) → get_or envs (env_number e) One ≡ e
at_number One = refl
at_number _ = refl

-- no two environments have one number
pub env_number-injective : (a b : Env) → env_number a ≡ env_number b → a ≡ b
env_number-injective a b e = sym (at_number a) ∙ ap (λ n. get_or envs n One) e ∙ at_number b

pub env_number-below : (e : Env) → env_number e < 18
env_number-below One = omega arith
env_number-below _ = omega arith
