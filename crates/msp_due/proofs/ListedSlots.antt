-- The schedule in slots, as the code makes it.
use Rattle.std.proofs.Common.{◌≡◌, ℕ, ◌<◌, ◌≤◌, ◌⊎◌, ◌++◌, List, length, get_or, take, drop, ℤ, AllPairs, ap, subst, ◌∙◌, arith}
use Rattle.std.proofs.lemmas.List.{drop_all, append-nil, take_all}
use Rattle.msp_instance.specs.declared.Instance.{Instance}
use Rattle.msp_instance.specs.declared.path_bits.Paths.{Paths}
use Rattle.msp_instance.specs.Paths.{leads}
use Rattle.msp_pieces.specs.declared.Piece.{Piece}
use Rattle.msp_slots.specs.ListSchedule.{IsListSchedule}
use Rattle.msp_due.specs.Steps.{AreDueSlots, AreLowered, IsReady, IsListed}

pub whole_slice : (len n : ℕ) (new old : List ℕ) → length new ≡ len → n ≡ length new → length old ≡ length new → take len (new ++ drop n old) ≡ new
whole_slice len n new old e f g = ap (λ xs. take len (new ++ xs)) (drop_all n old (omega (arith, f, g))) ∙ ap (take len) (append-nil new) ∙ take_all len new (omega (arith, e))

pub listed_at : (i : Instance) (bound : ℤ) (p : Paths) (order slots moved low keys jobs : List ℕ) (pieces : List Piece)
    → IsReady i p order → moved ≡ slots → length slots ≡ length i.jobs → AreDueSlots i bound (length i.jobs) slots
    → AreLowered (length i.jobs) i.machines (leads p) (λ j. get_or moved j 0) (λ j. get_or low j 0) → length low ≡ length moved → keys ≡ low
    → AllPairs (λ a b. (get_or keys a 0 < get_or keys b 0) ⊎ ((get_or keys a 0 ≡ get_or keys b 0) × (a ≤ b))) jobs → IsListSchedule i jobs pieces → IsListed i bound low pieces
listed_at i bound p order slots moved low keys jobs pieces ready e whole dues lowered same k sorted schedule = record {
  leads = leads p;
  due = λ j. get_or slots j 0;
  order = jobs;
  whole = omega (arith, same, ap length e, whole);
  shows = ready.paths;
  dues = dues;
  lowered = subst (λ xs. AreLowered (length i.jobs) i.machines (leads p) (λ j. get_or xs j 0) (λ j. get_or low j 0)) e lowered;
  schedule = schedule;
  rising = subst (λ xs. AllPairs (λ a b. (get_or xs a 0 < get_or xs b 0) ⊎ ((get_or xs a 0 ≡ get_or xs b 0) × (a ≤ b))) jobs) k sorted;
}
