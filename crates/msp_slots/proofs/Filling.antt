-- The slots of the earliest schedule, one after another.
use Rattle.std.proofs.Common.{◌≡◌, ℕ, ◌+◌, ◌-◌, ◌*◌, ◌<◌, ◌≤◌, ◌⊎◌, inl, inr, Bool, true, false, eqb, All, List, [], ◌∷◌, ◌++◌, length, get_or, refl, sym, ap, subst, ◌∙◌, arith, add-one}
use Rattle.std.specs.List.Sorted.{IsNonDecreasing}
use Rattle.std.proofs.lemmas.Bool.{cases_lt, eqb-true, eq-eqb, ne_eqb}
use Rattle.std.proofs.lemmas.List.{length-append, get_or_append_left, get_or_push}
use Rattle.msp_class.specs.declared.sizes.TheConstants.{GREATEST}
use Rattle.msp_class.proofs.Sums.{total_below-same, total_below-none}
use Rattle.msp_slots.specs.declared.earliest.Slot.{Slot}
use Rattle.msp_slots.specs.Seating.{one_if, begin_at}
use Rattle.msp_slots.specs.Earliest.{no_slot, start_in, machine_in, head_in, AreSlots}
use Rattle.msp_slots.specs.Filling.{IsNextSlot, AreFilled}

last_or : (j k : ℕ) → j < k + 1 → (j < k) ⊎ (j ≡ k)
last_or j k l = elim (cases_lt j k) [ inl less ↦ inl less | inr more ↦ inr (omega (arith, l, more)) ]

begin_at-same : (n : ℕ) (f g : ℕ → ℕ) (x : ℕ) → ((j : ℕ) → j < n → f j ≡ g j) → begin_at n f x ≡ begin_at n g x
begin_at-same n f g x h = total_below-same n (λ j. one_if (eqb (f j) x)) (λ j. one_if (eqb (g j) x)) (λ j l. ap (λ y. one_if (eqb y x)) (h j l))

begin_at-next : (k : ℕ) (f : ℕ → ℕ) (x : ℕ) → begin_at (k + 1) f x ≡ begin_at k f x + one_if (eqb (f k) x)
begin_at-next k f x = ap (λ n. begin_at n f x) (add-one k)

-- none begins later than all
begin_at-none : (k : ℕ) (f : ℕ → ℕ) (moment x : ℕ) → ((j : ℕ) → j < k → f j ≤ moment) → moment < x → begin_at k f x ≡ 0
begin_at-none k f moment x early h = total_below-none k (λ j. one_if (eqb (f j) x)) (λ j l. ap one_if (ne_eqb (f j) x (λ e. absurd (omega (arith, e, early j l, h)))))

module _ (m : ℕ) (heads : List ℕ) (k moment taken : ℕ) (slots : List Slot) (some : 1 ≤ m) (low : head_in heads k ≤ 2 * GREATEST) (sorted : (j : ℕ) → j < k → head_in heads j ≤ head_in heads k)
    (h : AreFilled m heads k moment taken slots) (slot : Slot) (next : IsNextSlot moment taken m (head_in heads k) slot) where
  abbrev new : List Slot
  new = slots ++ slot ∷ []

  kept : (j : ℕ) → j < k → get_or new j no_slot ≡ get_or slots j no_slot
  kept j l = get_or_append_left slots (slot ∷ []) no_slot j (omega (arith, l, h.count))

  here : get_or new k no_slot ≡ slot
  here = get_or_push slots slot no_slot k h.count

  kept_start : (j : ℕ) → j < k → start_in new j ≡ start_in slots j
  kept_start j l = ap (λ s. s.start) (kept j l)

  here_start : start_in new k ≡ slot.start
  here_start = ap (λ s. s.start) here

  -- how many slots begin at a moment now
  counts : (x : ℕ) → begin_at (k + 1) (start_in new) x ≡ begin_at k (start_in slots) x + one_if (eqb slot.start x)
  counts x = begin_at-next k (start_in new) x ∙ ap (λ n. n + one_if (eqb (start_in new k) x)) (begin_at-same k (start_in new) (start_in slots) x kept_start)
      ∙ ap (λ s. begin_at k (start_in slots) x + one_if (eqb s x)) here_start

  grown : (x : ℕ) → begin_at k (start_in slots) x ≤ begin_at (k + 1) (start_in new) x
  grown x = omega (arith, counts x)

  record IsPlaced : Type 0 where
    later : moment ≤ slot.start
    order : begin_at k (start_in slots) slot.start ≡ slot.machine
    inside : slot.machine < m
    released : head_in heads k ≤ slot.start
    waits : (x : ℕ) → head_in heads k ≤ x → x < slot.start → m ≤ begin_at k (start_in slots) x
    soon : slot.start ≤ 2 * GREATEST + (k + 1)

  -- once all jobs so far are released
  full_before : (x : ℕ) → head_in heads k ≤ x → x < moment → m ≤ begin_at k (start_in slots) x
  full_before x r l = h.full x (λ j b. omega (arith, sorted j b, r)) l

  none_after : (x : ℕ) → moment < x → begin_at k (start_in slots) x ≡ 0
  none_after x l = begin_at-none k (start_in slots) moment x h.early l

  placed : IsPlaced
  placed = elim next [
    | inl (later, at, first) ↦ record {
      later = omega (arith, later, at);
      order = ap (begin_at k (start_in slots)) at ∙ none_after (head_in heads k) later ∙ sym first;
      inside = omega (arith, first, some);
      released = omega (arith, at);
      waits = λ x r l. absurd (omega (arith, r, l, at));
      soon = omega (arith, at, low);
    }
    | inr (inl (released, room, at, last)) ↦ record {
      later = omega (arith, at);
      order = ap (begin_at k (start_in slots)) at ∙ h.used ∙ sym last;
      inside = omega (arith, last, room);
      released = omega (arith, at, released);
      waits = λ x r l. full_before x r (omega (arith, l, at));
      soon = omega (arith, at, h.soon);
    }
    | inr (inr (released, room, at, first)) ↦ record {
      later = omega (arith, at);
      order = ap (begin_at k (start_in slots)) at ∙ none_after (moment + 1) (omega arith) ∙ sym first;
      inside = omega (arith, first, some);
      released = omega (arith, at, released);
      waits = λ x r l. elim (cases_lt x moment) [
        | inl less ↦ full_before x r less
        | inr more ↦ let e : moment ≡ x = omega (arith, l, at, more) in subst (λ y. m ≤ begin_at k (start_in slots) y) e (omega (arith, h.used, room))
      ];
      soon = omega (arith, at, h.soon);
    }
  ]

  few_next : (x : ℕ) → begin_at (k + 1) (start_in new) x ≤ m
  few_next x = by (eqb slot.start x) refl
    where
      by : (b : Bool) → eqb slot.start x ≡ b → begin_at (k + 1) (start_in new) x ≤ m
      by true e = omega (arith, counts x, ap one_if e, ap (begin_at k (start_in slots)) (eqb-true slot.start x e), placed.order, placed.inside)
      by false e = omega (arith, counts x, ap one_if e, h.seated.few x)

  pub AreFilled-next : AreFilled m heads (k + 1) slot.start (slot.machine + 1) new
  AreFilled-next = record {
    count = length-append slots (slot ∷ []) ∙ ap (λ n. n + 1) h.count;
    seated = record {
      released = λ j l. elim (last_or j k l) [
        | inl less ↦ omega (arith, kept_start j less, h.seated.released j less)
        | inr e ↦ omega (arith, ap (head_in heads) e, ap (start_in new) e, here_start, placed.released)
      ];
      few = few_next;
    };
    tight = λ j x l r b. elim (last_or j k l) [
      | inl less ↦ omega (arith, grown x, h.tight j x less r (omega (arith, kept_start j less, b)))
      | inr e ↦ omega (arith, grown x, placed.waits x (omega (arith, ap (head_in heads) e, r)) (omega (arith, ap (start_in new) e, here_start, b)))
    ];
    rises = λ a b w l. elim (last_or b k l) [
      | inl less ↦ omega (arith, kept_start a (omega (arith, w, less)), kept_start b less, h.rises a b w less)
      | inr e ↦ elim (cases_lt a k) [
        | inl less ↦ omega (arith, kept_start a less, h.early a less, placed.later, ap (start_in new) e, here_start)
        | inr more ↦ let s : a ≡ b = omega (arith, more, w, e) in omega (arith, ap (start_in new) s)
      ]
    ];
    machine = λ j l. elim (last_or j k l) [
      | inl less ↦
          ap (λ s. s.machine) (kept j less) ∙ h.machine j less
          ∙ sym (ap (begin_at j (start_in new)) (kept_start j less) ∙ begin_at-same j (start_in new) (start_in slots) (start_in slots j) (λ i b. kept_start i (omega (arith, b, less))))
      | inr e ↦ subst (λ n. machine_in new n ≡ begin_at n (start_in new) (start_in new n)) (sym e)
          (ap (λ s. s.machine) here ∙ sym (ap (begin_at k (start_in new)) here_start ∙ begin_at-same k (start_in new) (start_in slots) slot.start kept_start ∙ placed.order))
    ];
    early = λ j l. elim (last_or j k l) [
      | inl less ↦ omega (arith, kept_start j less, h.early j less, placed.later)
      | inr e ↦ omega (arith, ap (start_in new) e, here_start)
    ];
    full = λ x all l. omega (arith, grown x, placed.waits x (all k (omega arith)) l);
    used = omega (arith, counts slot.start, ap one_if (eq-eqb slot.start slot.start refl), placed.order);
    soon = placed.soon;
  }

pub AreFilled-none : (m : ℕ) (heads : List ℕ) → AreFilled m heads 0 0 0 []
AreFilled-none m heads = record {
  count = refl;
  seated = record { released = λ j l. absurd (omega (arith, l)); few = λ x. omega arith };
  tight = λ j x l r b. absurd (omega (arith, l));
  rises = λ a b w l. absurd (omega (arith, l));
  machine = λ j l. absurd (omega (arith, l));
  early = λ j l. absurd (omega (arith, l));
  full = λ x all l. absurd (omega (arith, l));
  used = refl;
  soon = omega arith;
}

-- ---- at the numbers as the code passes them
pub filled_next : (m : ℕ) (heads : List ℕ) (k moment taken : ℕ) (slots new : List Slot) (slot : Slot) → 1 ≤ m → k < length heads → All (λ r. r ≤ 2 * GREATEST) heads → IsNonDecreasing heads
    → AreFilled m heads k moment taken slots → IsNextSlot moment taken m (head_in heads k) slot → new ≡ slots ++ slot ∷ [] → AreFilled m heads (k + 1) slot.start (slot.machine + 1) new
filled_next m heads k moment taken slots new slot some inside low rising h next e =
    subst (AreFilled m heads (k + 1) slot.start (slot.machine + 1))
    (sym e) (AreFilled-next m heads k moment taken slots some (low k 0 inside) (λ j l. rising j k 0 (omega (arith, l)) inside) h slot next)

pub filled_all : (m : ℕ) (heads : List ℕ) (k moment taken : ℕ) (slots : List Slot) → length heads ≤ k → k ≤ length heads → AreFilled m heads k moment taken slots → AreSlots m heads slots
filled_all m heads k moment taken slots a b h =
    let f : AreFilled m heads (length heads) moment taken slots = subst (λ n. AreFilled m heads n moment taken slots) (omega (arith, a, b)) h in
    record { count = f.count; seated = f.seated; tight = f.tight; rises = f.rises; machine = f.machine; soon = λ j l. omega (arith, f.early j l, f.soon) }
