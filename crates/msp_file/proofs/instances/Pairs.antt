-- Fields that are read in pairs.
use Rattle.std.proofs.Common.{◌≡◌, ℕ, List, ◌∷◌, Ok, sym, ap, ◌∙◌}
use Rattle.msp_instance.specs.declared.Need.{Need}
use Rattle.msp_instance.specs.declared.Step.{Step}
use Rattle.msp_class.specs.declared.sizes.TheConstants.{GREATEST}
use Rattle.msp_grammar.specs.declared.lines.fault.What.TheVariants as what
use Rattle.msp_grammar.specs.lines.Reading.{natural_at, machine_at}
use Rattle.msp_file.specs.instance.Reading.{with_need, with_step, timed_route_at, steps_at}

pub timed_next : (at machines : ℕ) (needs after : List Need) (fields : List (List ℕ)) (w v : List ℕ) (ws : List (List ℕ)) (q t : ℕ) → fields ≡ w ∷ v ∷ ws
    → Ok q ≡ machine_at at machines w → Ok t ≡ natural_at at what.Time 1 GREATEST v → after ≡ with_need needs q t
    → timed_route_at at machines needs fields ≡ timed_route_at at machines after ws
unfolding timed_route_at
timed_next at machines needs after fields w v ws q t e h k a = ap (timed_route_at at machines needs) e ∙ rw (sym h, sym k) (ap (λ (n : List Need). timed_route_at at machines n ws) (sym a))

pub steps_next : (at : ℕ) (steps after : List Step) (fields : List (List ℕ)) (w v : List ℕ) (ws : List (List ℕ)) (above add : ℕ) → fields ≡ w ∷ v ∷ ws
    → Ok above ≡ natural_at at what.Above 0 GREATEST w → Ok add ≡ natural_at at what.Add 0 GREATEST v → after ≡ with_step steps above add
    → steps_at at steps fields ≡ steps_at at after ws
unfolding steps_at
steps_next at steps after fields w v ws above add e h k a = ap (steps_at at steps) e ∙ rw (sym h, sym k) (ap (λ (n : List Step). steps_at at n ws) (sym a))
