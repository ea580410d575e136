-- One step by a usable row.
use Rattle.std.proofs.Common.{◌≡◌, ℕ, ◌≤◌, Bool, true, false, cond, Some, None, refl}
use Rattle.std.specs.Prelude.{IsTrue}
use Rattle.msp_class.specs.declared.class.Class.{Class}
use Rattle.msp_table.specs.declared.row.TheConstants.{ROWS}
use Rattle.msp_table.specs.Rows.{goes_of}
use Rattle.msp_table.proofs.RowLemmas.{goes_of-numbered}
use Rattle.msp_closure.specs.Walk.{step_of}

-- a step is made by a usable row
pub step_of-parts : (usable : ℕ → Bool) (k : ℕ) (a c : Class) → step_of usable k a ≡ Some c → IsTrue (usable k) × (goes_of k a ≡ Some c)
step_of-parts usable k a c is =
    elim (usable k) as (λ b. cond b (goes_of k a) None ≡ Some c → IsTrue b × (goes_of k a ≡ Some c)) [
      | true ↦ λ e. (refl, e)
      | false ↦ λ e. cc
    ] is

-- each usable row makes its step
pub step_of-from : (usable : ℕ → Bool) (k : ℕ) (a c : Class) → IsTrue (usable k) → goes_of k a ≡ Some c → step_of usable k a ≡ Some c
step_of-from usable k a c u goes = rw u goes

pub step_of-numbered : (usable : ℕ → Bool) (k : ℕ) (a c : Class) → step_of usable k a ≡ Some c → (1 ≤ k) × (k ≤ ROWS)
step_of-numbered usable k a c is = goes_of-numbered k a c (step_of-parts usable k a c is).1
