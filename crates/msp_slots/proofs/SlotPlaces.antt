-- The slots of the earliest schedule are on machines of the instance, no two of them are at one place, and for any whole moments at which jobs
-- may begin there is a slot for each job that begins no later.
use Rattle.std.proofs.Common.{◌≡◌, ℕ, ◌<◌, leb, List, length, map, IsPermutation, refl, sym, ap, subst, ◌∙◌, arith}
use Rattle.std.proofs.lemmas.List.{length-map}
use Rattle.std.proofs.lemmas.List.Sorted.{length_permutation}
use Rattle.msp_class.specs.Sums.{total_below}
use Rattle.msp_class.proofs.Sums.{sum_by-map, sum_by-IsPermutation}
use Rattle.msp_instance.specs.declared.Instance.{Instance}
use Rattle.msp_instance.specs.Instance.{no_job}
use Rattle.msp_pieces.proofs.lists.Places.{sum_by-places}
use Rattle.msp_slots.specs.declared.earliest.Slot.{Slot}
use Rattle.msp_slots.specs.Seating.{one_if, begin_at, IsSeated, IsTight, Rises}
use Rattle.msp_slots.specs.Earliest.{start_in, machine_in, head_in, AreSlots}
use Rattle.msp_slots.proofs.Seats.{HasSeats, released_by, law_of_seats, at_more, neither_less}
use Rattle.msp_slots.proofs.Begins.{head_at}

module _ (m : ℕ) (heads : List ℕ) (slots : List Slot) (h : AreSlots m heads slots) where
  abbrev start : ℕ → ℕ
  start = start_in slots

  pub slot_inside : (k : ℕ) → k < length heads → machine_in slots k < m
  slot_inside k b = omega (arith, h.machine k b, at_more start k (length heads) (start k) b refl, h.seated.few (start k))

  pub same_slot : (a b : ℕ) → a < length heads → b < length heads → start a ≡ start b → machine_in slots a ≡ machine_in slots b → a ≡ b
  same_slot a b u v s e = neither_less
      (λ l. omega (arith, at_more start a b (start b) l s, h.machine a u, h.machine b v, e, ap (begin_at a start) s))
      (λ l. omega (arith, at_more start b a (start a) l (sym s), h.machine a u, h.machine b v, e, ap (begin_at b start) s))

-- ---- the release dates in order
pub heads_many : (i : Instance) (heads : List ℕ) → IsPermutation (map (λ j. j.release) i.jobs) heads → length heads ≡ length i.jobs
heads_many i heads p = length_permutation (map (λ j. j.release) i.jobs) heads p ∙ length-map i.jobs (λ j. j.release)

released-sorted : (i : Instance) (heads : List ℕ)
    → IsPermutation (map (λ j. j.release) i.jobs) heads → (x : ℕ) → released_by (length i.jobs) (head_at i) x ≡ released_by (length i.jobs) (head_in heads) x
released-sorted i heads p x =
    sym (sum_by-places (λ j. one_if (leb j.release x)) i.jobs no_job) ∙ sym (sum_by-map (λ r. one_if (leb r x)) (λ j. j.release) i.jobs)
    ∙ sym (sum_by-IsPermutation (λ r. one_if (leb r x)) (map (λ j. j.release) i.jobs) heads p)
    ∙ sum_by-places (λ r. one_if (leb r x)) heads 0 ∙ ap (λ n. total_below n (λ k. one_if (leb (head_in heads k) x))) (heads_many i heads p)

-- ---- a slot for each job
pub seats_in : (i : Instance) {m : ℕ} (heads : List ℕ) (slots : List Slot) → IsPermutation (map (λ j. j.release) i.jobs) heads → AreSlots m heads slots
    → (begin : ℕ → ℕ) → IsSeated (length i.jobs) m (head_at i) begin → (seat : ℕ → ℕ) × HasSeats (length i.jobs) (head_at i) begin (start_in slots) seat
seats_in i {m} heads slots p h begin s =
    law_of_seats (length i.jobs) m (head_at i) begin (head_in heads) (start_in slots) s
    (subst (λ k. IsSeated k m (head_in heads) (start_in slots)) many h.seated)
    (subst (λ k. IsTight k m (head_in heads) (start_in slots)) many h.tight) (subst (λ k. Rises k (start_in slots)) many h.rises)
    (released-sorted i heads p)
  where
    many : length heads ≡ length i.jobs
    many = heads_many i heads p
