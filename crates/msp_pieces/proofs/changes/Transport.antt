-- Schedules that are carried to another frame by a map of moments and maps of operation numbers; and those that serve it as they are.
use Rattle.std.proofs.Common.{◌≡◌, ℕ, ◌<◌, true, List, [], ◌∷◌, length, get_or, map, filter, fold, All, Contains, ◌⊎◌, inl, inr, ℤ, pos, ◌-ℤ◌, ◌*ℤ◌, ◌≤ℤ◌, ◌<ℤ◌, refl, sym, ap, ap₂}
use Rattle.std.proofs.Common.{subst, ◌∙◌, arith}
use Rattle.std.specs.Prelude.{◌==◌}
use Rattle.std.specs.Int.{int_max}
use Rattle.std.proofs.lemmas.Int.{ints}
use Rattle.std.proofs.lemmas.Simd.{map-map}
use Rattle.std.proofs.lemmas.List.Elements.{All-head, All-tail, All-filter, All-map, All-contains}
use Rattle.msp_class.proofs.IntegerRing.{≤ℤ_refl, ≤ℤ_trans, ≤ℤ_total, <ℤ_weak, one-*ℤ, *ℤ-zero, *ℤ-sub, *ℤ-mono_nonneg, pos-le, int_max-left, int_max-right, ≤ℤ-int_max_left}
use Rattle.msp_pieces.specs.declared.Piece.{Piece}
use Rattle.msp_pieces.specs.Piece.{length_of, IsBefore}
use Rattle.msp_class.specs.declared.environments.EnvKind.{EnvKind}
use Rattle.msp_class.specs.Env.{kind_of}
use Rattle.msp_instance.specs.declared.Instance.{Instance}
use Rattle.msp_pieces.specs.declared.Schedule.{Schedule}
use Rattle.msp_pieces.specs.Feasible.{Feasible}
use Rattle.msp_pieces.specs.Cost.{last_end, end_of}
use Rattle.msp_pieces.proofs.feasible.Frames.{Frame, frame_by, Lasts, Stands, Fits, IsShaped, Fits-from_feasible, Feasible-from_fits}
use Rattle.msp_pieces.proofs.changes.Moves.{All-map_pairs, filter-map, Suits, Suits-order, Moves, moved-place, moved-machine, moved-job, moved-work}
use Rattle.msp_class.proofs.IntegerRing.{natural_some, *ℤ-strict}

-- ---- moments
-- the map begins at 0, is monotone, and makes each piece k times as long
pub record Stretches (ps : List Piece) (k : ℤ) (moment : ℤ → ℤ) : Type 0 where
  pub factor : pos 1 ≤ℤ k
  pub zero_is : moment (pos 0) ≡ pos 0
  pub monotone : (x y : ℤ) → pos 0 ≤ℤ x → x ≤ℤ y → moment x ≤ℤ moment y
  pub long : All (λ p. (moment p.to -ℤ moment p.from) ≡ k *ℤ length_of p) ps

pub Stretches-identity : (ps : List Piece) → Stretches ps (pos 1) (λ x. x)
Stretches-identity ps = record { factor = ≤ℤ_refl (pos 1); zero_is = refl; monotone = λ x y p h. h; long = λ a d l. sym (one-*ℤ (length_of (get_or ps a d))) }

pub Stretches-factor : (ps : List Piece) (k : ℤ) → pos 1 ≤ℤ k → Stretches ps k (λ x. k *ℤ x)
Stretches-factor ps k h = record {
  factor = h;
  zero_is = *ℤ-zero k;
  monotone = λ x y p m. *ℤ-mono_nonneg k (≤ℤ_trans (pos-le (omega arith)) h) m;
  long = λ a d l. sym (*ℤ-sub k (get_or ps a d).to (get_or ps a d).from);
}

-- ---- transport
-- a piece at its new number and its new moments
abbrev pub carried : (ℤ → ℤ) → (ℕ → ℕ → ℕ) → Piece → Piece
carried moment number p = record { job = p.job; op = number p.job p.op; machine = p.machine; from = moment p.from; to = moment p.to }

abbrev pub carried_all : (ℤ → ℤ) → (ℕ → ℕ → ℕ) → List Piece → List Piece
carried_all moment number ps = map (carried moment number) ps

pub record Carries (f g : Frame) (D E : ℤ) (ps : List Piece) (k : ℤ) (moment : ℤ → ℤ) (number : ℕ → ℕ → ℕ) : Type 0 where
  pub unit : pos 1 ≤ℤ E
  pub moments : Stretches ps k moment
  pub operations : Suits f g D E k number
  pub heads : All (λ p. p.job < f.jobs → (D *ℤ pos (f.head p.job)) ≤ℤ p.from → (E *ℤ pos (g.head p.job)) ≤ℤ moment p.from) ps
  pub arcs : All (Contains f.arcs) g.arcs
  -- where operations follow a route there, they follow it here, or each job has one operation
  pub routed : g.routed ≡ true → (f.routed ≡ true) ⊎ ((j o n : ℕ) → j < f.jobs → f.Has j o → f.Has j n → o ≡ n)

module _ (f g : Frame) (D E : ℤ) (ps : List Piece) (k : ℤ) (moment : ℤ → ℤ) (number : ℕ → ℕ → ℕ) (fits : Fits f D ps) (c : Carries f g D E ps k moment number) where
  abbrev move : Piece → Piece
  move = carried moment number

  abbrev moved : List Piece
  moved = map move ps

  natural : (x : ℤ) → pos 0 ≤ℤ x → pos 0 ≤ℤ moment x
  natural x h = subst (λ y. y ≤ℤ moment x) c.moments.zero_is (c.moments.monotone (pos 0) x (≤ℤ_refl (pos 0)) h)

  ends_after : (p : Piece) → Lasts p → pos 0 ≤ℤ p.to
  ends_after p h = omega (arith, ints, h.0, h.1)

  before : (p q : Piece) → Lasts p → Lasts q → IsBefore p q → IsBefore (move p) (move q)
  before p q h i b = c.moments.monotone p.to q.from (ends_after p h) b

  moves : Moves f ps k number move
  moves = record {
    job = λ p. refl;
    op = λ p. refl;
    machine = λ p. refl;
    long = c.moments.long;
    apart = λ p q h i a. elim a [ inl b ↦ inl (before p q h i b) | inr b ↦ inr (before q p i h b) ];
  }

  lasts : (p : Piece) → Lasts p → length_of (move p) ≡ k *ℤ length_of p → Lasts (move p)
  lasts p h e = (natural p.from h.0, longer p.from p.to (moment p.from) (moment p.to) k c.moments.factor h.1 e)
    where
      longer : (a b x y k : ℤ) → pos 1 ≤ℤ k → a <ℤ b → y -ℤ x ≡ k *ℤ (b -ℤ a) → x <ℤ y
      longer a b x y k one h e =
          let (n, is) = natural_some k (omega (arith, ints)) in
          let some = *ℤ-strict n {a = pos 0} {b = b -ℤ a} (omega (arith, ints, is)) (omega (arith, ints)) in
          omega (arith, ints, some, e ∙ ap (λ z. z *ℤ (b -ℤ a)) is)

  in_order : (f.routed ≡ true) ⊎ ((j o n : ℕ) → j < f.jobs → f.Has j o → f.Has j n → o ≡ n) → All (λ p. All (λ q. p.job ≡ q.job → p.op < q.op → IsBefore p q) moved) moved
  in_order w = All-map_pairs (λ p q. p.job ≡ q.job → p.op < q.op → IsBefore p q)
      move ps (λ i d a j e b same less. before (get_or ps i d) (get_or ps j e) (fits.span i d a) (fits.span j e b) (by w i d a j e b same less))
    where
      by : (f.routed ≡ true) ⊎ ((j o n : ℕ) → j < f.jobs → f.Has j o → f.Has j n → o ≡ n) → (i : ℕ) (d : Piece) → i < length ps → (j : ℕ) (e : Piece) → j < length ps
          → (get_or ps i d).job ≡ (get_or ps j e).job → (move (get_or ps i d)).op < (move (get_or ps j e)).op → IsBefore (get_or ps i d) (get_or ps j e)
      by (inl r) i d a j e b same less = fits.route r i d a j e b same (ordered (get_or ps i d) (get_or ps j e) (fits.place i d a) (fits.place j e b) same less)
        where
          ordered : (p q : Piece) → Stands f p → Stands f q → p.job ≡ q.job → number p.job p.op < number q.job q.op → p.op < q.op
          ordered p q h k s l = Suits-order f g number c.operations q.job p.op q.op k.job (subst (λ x. f.Has x p.op) s h.operation) k.operation (subst (λ x. number x p.op < number q.job q.op) s l)
      by (inr one) i d a j e b same less = absurd (never (get_or ps i d) (get_or ps j e) (fits.place i d a) (fits.place j e b) same less)
        where
          never : (p q : Piece) → Stands f p → Stands f q → p.job ≡ q.job → number p.job p.op < number q.job q.op → ⊥
          never p q h k s l = omega (arith, l, ap₂ number s (one q.job p.op q.op k.job (subst (λ x. f.Has x p.op) s h.operation) k.operation))

  pub Fits-carried : Fits g E (carried_all moment number ps)
  Fits-carried = record {
    unit_from = c.unit;
    span = All-map Lasts move ps (λ a d l. lasts (get_or ps a d) (fits.span a d l) (c.moments.long a d l));
    place = moved-place f g D E k number move ps fits c.operations moves;
    machine = moved-machine f g D E k number move ps fits c.operations moves;
    job = moved-job f g D E k number move ps fits c.operations moves;
    release = All-map (λ p. (E *ℤ pos (g.head p.job)) ≤ℤ p.from) move ps (λ a d l. c.heads a d l (fits.place a d l).job (fits.release a d l));
    arc = λ a d l.
        let old = All-contains (λ x. All (λ p. All (λ q. p.job ≡ x.before → q.job ≡ x.after → IsBefore p q) ps) ps) f.arcs (get_or g.arcs a d) fits.arc (c.arcs a d l) in
        All-map_pairs (λ p q. p.job ≡ (get_or g.arcs a d).before → q.job ≡ (get_or g.arcs a d).after → IsBefore p q)
        move ps (λ i e m j x n s t. before (get_or ps i e) (get_or ps j x) (fits.span i e m) (fits.span j x n) (old i e m j x n s t));
    route = λ r. in_order (c.routed r);
    work = moved-work f g D E k number move ps fits c.operations moves;
  }

  -- ends are moved as moments are
  moment-int_max : (x y : ℤ) → pos 0 ≤ℤ x → pos 0 ≤ℤ y → int_max (moment x) (moment y) ≡ moment (int_max x y)
  moment-int_max x y p q = elim (≤ℤ_total x y) [
    | inl h ↦ int_max-right (moment x) (moment y) (c.moments.monotone x y p h) ∙ ap moment (sym (int_max-right x y h))
    | inr h ↦ int_max-left (moment x) (moment y) (c.moments.monotone y x q (<ℤ_weak h)) ∙ ap moment (sym (int_max-left x y (<ℤ_weak h)))
  ]

  fold_moments : (x : ℤ) (qs : List Piece) → pos 0 ≤ℤ x → All Lasts qs → fold int_max (moment x) (map (λ p. moment p.to) qs) ≡ moment (fold int_max x (map (λ p. p.to) qs))
  fold_moments x [] p h = refl
  fold_moments x (q ∷ qs) p h =
      ap (λ z. fold int_max z (map (λ p. moment p.to) qs)) (moment-int_max x q.to p (ends_after q (All-head Lasts q qs h)))
      ∙ fold_moments (int_max x q.to) qs (≤ℤ_trans p (≤ℤ-int_max_left x q.to)) (All-tail Lasts q qs h)

  pub last_end-carried : (j : ℕ) → last_end (carried_all moment number ps) j ≡ moment (last_end ps j)
  last_end-carried j =
      let mine = filter (λ p. p.job == j) ps in
      ap (λ l. fold int_max (pos 0) (map (λ p. p.to) l)) (filter-map move (λ p. p.job == j) (λ p. p.job == j) ps (λ a d l. refl))
      ∙ ap (fold int_max (pos 0)) (map-map (λ p. p.to) move mine)
      ∙ ap (λ z. fold int_max z (map (λ p. moment p.to) mine)) (sym c.moments.zero_is)
      ∙ fold_moments (pos 0) mine (≤ℤ_refl (pos 0)) (All-filter (λ p. p.job == j) Lasts ps fits.span)

-- ---- instances
abbrev pub carried_schedule : ℤ → (ℤ → ℤ) → (ℕ → ℕ → ℕ) → Schedule → Schedule
carried_schedule unit moment number s = record { unit = unit; pieces = carried_all moment number s.pieces }

module _ (i j : Instance) (s : Schedule) (d e : EnvKind) (of_d : kind_of i.class.env ≡ d) (of_e : kind_of j.class.env ≡ e) (unit k : ℤ) (moment : ℤ → ℤ) (number : ℕ → ℕ → ℕ)
    (p : IsShaped i) (f : Feasible i s) (c : Carries (frame_by d i) (frame_by e j) s.unit unit s.pieces k moment number) where
  fits : Fits (frame_by d i) s.unit s.pieces
  fits = subst (λ x. Fits (frame_by x i) s.unit s.pieces) of_d (Fits-from_feasible i s p f)

  pub Feasible-carried : IsShaped j → Feasible j (carried_schedule unit moment number s)
  Feasible-carried q = Feasible-from_fits j (carried_schedule unit moment number s) q
      (subst (λ x. Fits (frame_by x j) unit (carried_all moment number s.pieces)) (sym of_e) (Fits-carried (frame_by d i) (frame_by e j) s.unit unit s.pieces k moment number fits c))

  pub end_of-carried : (a : ℕ) → end_of (carried_schedule unit moment number s) a ≡ moment (end_of s a)
  end_of-carried = last_end-carried (frame_by d i) (frame_by e j) s.unit unit s.pieces k moment number fits c
