-- The slots of a schedule by labels, as they are read off its pieces.
use Rattle.std.proofs.Common.{◌≡◌, ◌≢◌, ℕ, zero, suc, ◌+◌, ◌-◌, ◌*◌, ◌<◌, ◌≤◌, inl, inr, cond, eqb, List, length, get_or, slice_index, map, nat_abs, pos, All, AllPairs, refl, sym}
use Rattle.std.proofs.Common.{ap, subst, ◌∙◌, arith}
use Rattle.std.proofs.lemmas.Bool.{cases_lt}
use Rattle.std.proofs.lemmas.List.{length-map, get_or-map}
use Rattle.msp_class.specs.declared.sizes.TheConstants.{MOST_JOBS}
use Rattle.msp_class.proofs.Sums.{OnceBelow, OnceBelow-from_permutation, OnceBelow-contains, length-OnceBelow}
use Rattle.msp_instance.specs.declared.Instance.{Instance}
use Rattle.msp_instance.specs.Conditions.{Inner}
use Rattle.msp_pieces.specs.declared.Piece.{Piece}
use Rattle.msp_slots.specs.Pieces.{piece_at}
use Rattle.msp_slots.proofs.ListSchedules.{begins_soon}
use Rattle.msp_slots.proofs.PieceJobs.{job_inside, jobs_apart}
use Rattle.msp_lexical.specs.Lexical.{lexical_class, IsLeastCost}
use Rattle.msp_lexical.specs.Slots.{AreSlots, AreTops, AreSeats, AreCut, IsSeated, IsSeating, place_of, first_in, second_in}
use Rattle.msp_lexical.specs.Steps.{HasLabels, IsByLabel}
use Rattle.msp_lexical.proofs.LexicalBest.{two_machines, are_slots, least_cost}

module _ (i : Instance) (class : i.class ≡ lexical_class)
    (inner : Inner i) (labels : List ℕ) (h : HasLabels i (slice_index labels)) (pieces : List Piece) (b : IsByLabel i (slice_index labels) pieces) where
  abbrev n : ℕ
  n = length i.jobs

  abbrev begin : ℕ → ℕ
  begin = b.schedule.begin

  abbrev machine : ℕ → ℕ
  machine = b.schedule.machine

  jobs : OnceBelow n (map (λ p. p.job) pieces)
  jobs = OnceBelow-from_permutation b.schedule.all

  count : length pieces ≡ n
  count = sym (length-map pieces (λ p. p.job)) ∙ length-OnceBelow jobs

  pub some_piece : 0 < length pieces
  some_piece = omega (arith, count, inner.conditions.some)

  -- what a piece says of its job
  record IsOf (p : Piece) : Type 0 where
    begins : nat_abs p.from ≡ begin p.job
    on : p.machine ≡ machine p.job
    from : p.from ≡ pos (nat_abs p.from)

  of_piece : All IsOf pieces
  of_piece k d l = by (get_or pieces k d) (b.schedule.each k d l)
    where
      by : (p : Piece) → p ≡ piece_at (begin p.job) (machine p.job) p.job → IsOf p
      by p e = let at : nat_abs p.from ≡ begin p.job = ap (λ q. nat_abs q.from) e in record { begins = at; on = ap (λ q. q.machine) e; from = ap (λ q. q.from) e ∙ ap pos (sym at) }

  pub seated : All (IsSeated n) pieces
  seated k d l =
      let inside = job_inside pieces jobs k d l in
      let of = of_piece k d l in
      record {
        machine = omega (arith, of.on, b.schedule.runs.inside (get_or pieces k d).job inside, two_machines i class inner);
        from = of.from;
        early = omega (arith, of.begins, begins_soon i b.order pieces b.schedule (get_or pieces k d).job inside);
        job = inside;
      }

  pub places_apart : AllPairs (λ p q. place_of p ≢ place_of q) pieces
  places_apart k m d less l e = by (get_or pieces k d) (get_or pieces m d) (of_piece k d lk) (of_piece m d l) (seated k d lk) (seated m d l) (jobs_apart pieces jobs k m d less l) e
    where
      lk : k < length pieces
      lk = omega (arith, less, l)

      by : (p q : Piece) → IsOf p → IsOf q → IsSeated n p → IsSeated n q → p.job ≢ q.job → place_of p ≡ place_of q → ⊥
      by p q f g s t other e = other (b.schedule.runs.apart p.job q.job s.job t.job (omega (arith, e, s.machine, t.machine, f.begins, g.begins)) (omega (arith, e, s.machine, t.machine, f.on, g.on)))

  -- the piece of a job
  piece_of : (j : ℕ) → j < n → (k : ℕ) × (k < length pieces) × ((d : Piece) → (get_or pieces k d).job ≡ j)
  piece_of j l =
      let (k, c, e) = OnceBelow-contains jobs j l in
      let inside : k < length pieces = omega (arith, c, length-map pieces (λ p. p.job)) in
      (k, inside, λ d. sym (get_or-map (λ p. p.job) pieces k d j inside) ∙ e)

  abbrev pub no_piece : Piece
  no_piece = piece_at 0 0 0

  module _ (seats : List ℕ) (s : IsSeating n pieces seats) (slots : ℕ) (slots_is : slots ≡ nat_abs (get_or pieces (length pieces - 1) no_piece).from + 1) where
    abbrev seat : ℕ → ℕ → ℕ
    seat x m = cond (eqb m 0) (first_in seats x) (second_in seats x)

    last_inside : length pieces - 1 < length pieces
    last_inside = omega (arith, some_piece)

    slots_are : slots ≡ begin (get_or pieces (length pieces - 1) no_piece).job + 1
    slots_are = omega (arith, slots_is, (of_piece (length pieces - 1) no_piece last_inside).begins)

    few_slots : slots ≤ MOST_JOBS
    few_slots =
        let soon = begins_soon i b.order pieces b.schedule _ (job_inside pieces jobs (length pieces - 1) no_piece last_inside) in
        omega (arith, slots_are, soon, inner.conditions.few)

    at_place : (x m : ℕ) → m < 2 → seat x m ≡ slice_index seats (2 * x + m)
    at_place x zero l = let same : 2 * x ≡ 2 * x + 0 = omega arith in ap (slice_index seats) same
    at_place x (suc zero) l = refl
    at_place x (suc (suc m)) l = absurd (omega (arith, l))

    seats_are : AreSeats n begin machine slots seat
    seats_are = record { seated = sits; from_seat = from_seat; below = below; reached = reached }
      where
        sits : (j : ℕ) → j < n → seat (begin j) (machine j) ≡ j
        sits j l =
            let (k, c, e) = piece_of j l in
            let of = of_piece k no_piece c in
            let same = e no_piece in
            at_place (begin j) (machine j) (omega (arith, b.schedule.runs.inside j l, two_machines i class inner))
            ∙ ap (slice_index seats) (omega (arith, of.begins, of.on, ap begin same, ap machine same)) ∙ s.seated k no_piece c ∙ same

        from_seat : (x m : ℕ) → x < slots → m < 2 → seat x m < n → (begin (seat x m) ≡ x) × (machine (seat x m) ≡ m)
        from_seat x m l two l_n = elim (s.others (2 * x + m) (omega (arith, l, two, few_slots))) [
          | inl none ↦ absurd (omega (arith, at_place x m two, none, l_n))
          | inr found ↦
              let (p, c, place, job) = found in
              let (k, inside, e) = c in
              by p (subst IsOf e (of_piece k p inside)) (subst (IsSeated n) e (seated k p inside)) place (job ∙ sym (at_place x m two))
        ]
          where
            by : (p : Piece) → IsOf p → IsSeated n p → place_of p ≡ 2 * x + m → p.job ≡ seat x m → (begin (seat x m) ≡ x) × (machine (seat x m) ≡ m)
            by p of at place job = (ap begin (sym job) ∙ omega (arith, of.begins, place, at.machine, two), ap machine (sym job) ∙ omega (arith, of.on, place, at.machine, two))

        below : (j : ℕ) → j < n → begin j < slots
        below j l =
            let (k, c, e) = piece_of j l in
            let same = ap begin (e no_piece) in
            elim (cases_lt k (length pieces - 1)) [
              | inl less ↦ omega (arith, b.schedule.sorted k (length pieces - 1) no_piece less last_inside, same, slots_are)
              | inr more ↦ let here : k ≡ length pieces - 1 = omega (arith, more, c) in omega (arith, ap (λ k. begin (get_or pieces k no_piece).job) here, same, slots_are)
            ]

        reached : (x : ℕ) → x < slots → (j : ℕ) × (j < n) × (x ≤ begin j)
        reached x l = ((get_or pieces (length pieces - 1) no_piece).job, job_inside pieces jobs (length pieces - 1) no_piece last_inside, omega (arith, l, slots_are))

    slots_made : AreSlots n slots begin (slice_index labels) (first_in seats) (second_in seats) h.leads
    slots_made = are_slots i class inner (slice_index labels) h pieces b slots seat seats_are

    -- what the slots have
    pub record AreMade : Type 0 where
      pub few : slots ≤ MOST_JOBS
      pub first : (x : ℕ) → x < slots → first_in seats x < n
      pub cost : IsLeastCost i slots
      pub cut : (tops : List ℕ) → AreTops n slots (slice_index labels) (first_in seats) (second_in seats) (slice_index tops) → AreCut i labels seats tops slots

    pub made : AreMade
    made = record {
      few = few_slots;
      first = λ x l. (slots_made.first_in x l).0;
      cost = least_cost i class inner (slice_index labels) h pieces b slots seat seats_are;
      cut = λ tops t. record {
        slot = begin;
        leads = h.leads;
        two = two_machines i class inner;
        few = few_slots;
        jobs = inner.conditions.few;
        seats_whole = s.whole;
        are_slots = slots_made;
        paths = λ j k c d to. (h.shows j k c d).0 to;
        are_tops = t;
      };
    }
