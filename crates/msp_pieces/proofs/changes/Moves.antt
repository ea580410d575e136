-- Pieces that are moved one by one to a schedule for another frame: places, machines, jobs and work. Moments are moved in any way.
use Rattle.std.proofs.Common.{◌≡◌, ℕ, ◌<◌, Bool, true, false, cond, eqb, ltb, List, [], ◌∷◌, get_or, map, filter, All, AllPairs, Contains, ℤ, pos, ◌+ℤ◌, ◌*ℤ◌, refl, sym, ap}
use Rattle.std.proofs.Common.{ap₂, subst, subst₂, ◌∙◌, arith, inl, inr}
use Rattle.std.specs.Prelude.{◌==◌, ◌&&◌}
use Rattle.std.proofs.lemmas.Bool.{eqb-true, eqb-false, eq-eqb, ne_eqb, ltb-true, ltb-false, cases_order}
use Rattle.std.proofs.lemmas.List.{length-map, get_or-map}
use Rattle.std.proofs.lemmas.Simd.{map-map}
use Rattle.std.proofs.lemmas.List.Elements.{All-head, All-tail, All-filter, All-map}
use Rattle.std.proofs.lemmas.List.Kept.{AllPairs-cons}
use Rattle.msp_class.proofs.IntegerRing.{*ℤ-zero, *ℤ-add, *ℤ_assoc, *ℤ_comm, *ℤ_exchange, *ℤ-cancel_same}
use Rattle.msp_class.proofs.Sums.{AllPairs-head, AllPairs-tail}
use Rattle.msp_pieces.specs.declared.Piece.{Piece}
use Rattle.msp_pieces.specs.Piece.{length_of, IsApart}
use Rattle.msp_pieces.specs.Feasible.{total}
pub use Rattle.msp_pieces.proofs.feasible.OneMachine.{total-cons}
use Rattle.msp_pieces.proofs.feasible.Frames.{Frame, Lasts, Stands, Gets, Fits, of_operation, of_operation-named, part}

-- ---- lists
pub AllPairs-map : {X Y : Type 0} (R : Y → Y → Type 0) (f : X → Y) (xs : List X) → AllPairs (λ x y. R (f x) (f y)) xs → AllPairs R (map f xs)
AllPairs-map R f [] h = λ i j d a b. absurd (omega arith)
AllPairs-map R f (x ∷ xs) h = AllPairs-cons R
    (f x) (map f xs) (All-map (R (f x)) f xs (AllPairs-head (λ x y. R (f x) (f y)) x xs h)) (AllPairs-map R f xs (AllPairs-tail (λ x y. R (f x) (f y)) x xs h))

-- the same for each two places, in either order
pub All-map_pairs : {X Y : Type 0} (R : Y → Y → Type 0) (f : X → Y) (xs : List X) → All (λ x. All (λ y. R (f x) (f y)) xs) xs → All (λ x. All (λ y. R x y) (map f xs)) (map f xs)
All-map_pairs R f xs h = All-map (λ x. All (λ y. R x y) (map f xs)) f xs (λ k d l. All-map (R (f (get_or xs k d))) f xs (h k d l))

pub Contains-map : {X Y : Type 0} (f : X → Y) (xs : List X) (x : X) → Contains xs x → Contains (map f xs) (f x)
Contains-map f xs x (k, l, e) = (k, omega (arith, length-map xs f), get_or-map f xs k x (f x) l ∙ ap f e)

pub filter-map : {X Y : Type 0} (f : X → Y) (p : Y → Bool) (q : X → Bool) (xs : List X) → All (λ x. p (f x) ≡ q x) xs → filter p (map f xs) ≡ map f (filter q xs)
filter-map f p q [] h = refl
filter-map f p q (x ∷ xs) h =
    ap₂ (λ b l. cond b (f x ∷ l) l) (All-head (λ y. p (f y) ≡ q y) x xs h) (filter-map f p q xs (All-tail (λ y. p (f y) ≡ q y) x xs h))
    ∙ elim (q x) as (λ b. cond b (f x ∷ map f (filter q xs)) (map f (filter q xs)) ≡ map f (cond b (x ∷ filter q xs) (filter q xs)))
    [ true ↦ refl | false ↦ refl ]

-- a list of which a map makes one element has one
pub one_from_map : {X Y : Type 0} (f : X → Y) (xs : List X) (y : Y) → map f xs ≡ y ∷ [] → (x : X) × (xs ≡ x ∷ []) × (f x ≡ y)
one_from_map f [] y e = absurd (cc)
one_from_map f (x ∷ []) y e = (x, refl, cc)
one_from_map f (x ∷ z ∷ zs) y e = absurd (cc)

-- multiples of two lists of numbers that are equal one by one have equal totals
pub total-multiples : {X : Type 0} (a b : ℤ) (f g : X → ℤ) (xs : List X) → All (λ x. a *ℤ f x ≡ b *ℤ g x) xs → a *ℤ total (map f xs) ≡ b *ℤ total (map g xs)
total-multiples a b f g [] h = *ℤ-zero a ∙ sym (*ℤ-zero b)
total-multiples a b f g (x ∷ xs) h =
    ap (λ z. a *ℤ z) (total-cons (f x) (map f xs)) ∙ *ℤ-add a (f x) (total (map f xs))
    ∙ ap₂ ◌+ℤ◌ (All-head (λ y. a *ℤ f y ≡ b *ℤ g y) x xs h) (total-multiples a b f g xs (All-tail (λ y. a *ℤ f y ≡ b *ℤ g y) x xs h))
    ∙ sym (ap (λ z. b *ℤ z) (total-cons (g x) (map g xs)) ∙ *ℤ-add b (g x) (total (map g xs)))

-- ---- what the two frames have to do with each other
-- over times that are k times as long, the rates and the work wanted keep their ratio
pub record KeepsRatio (f g : Frame) (D E k : ℤ) (j o o' : ℕ) : Type 0 where
  pub times : ℕ
  pub over : ℕ
  pub some : 0 < times
  pub rate : (m : ℕ) → f.May j o m → pos times *ℤ (k *ℤ pos (g.rate j m)) ≡ pos over *ℤ pos (f.rate j m)
  pub want : pos times *ℤ (E *ℤ pos (g.want j o')) ≡ pos over *ℤ (D *ℤ pos (f.want j o))

-- operation o of job j becomes operation `number j o`
pub record Suits (f g : Frame) (D E k : ℤ) (number : ℕ → ℕ → ℕ) : Type 0 where
  pub jobs : f.jobs ≡ g.jobs
  pub has : (j o : ℕ) → j < f.jobs → f.Has j o → g.Has j (number j o)
  pub all : (j o : ℕ) → j < f.jobs → g.Has j o → (n : ℕ) × f.Has j n × (number j n ≡ o)
  pub increasing : (j o n : ℕ) → j < f.jobs → f.Has j o → f.Has j n → o < n → number j o < number j n
  pub may : (j o m : ℕ) → j < f.jobs → f.Has j o → f.May j o m → g.May j (number j o) m
  pub ratio : (j o : ℕ) → j < f.jobs → f.Has j o → KeepsRatio f g D E k j o (number j o)
  pub cut : g.cut ≡ false → f.cut ≡ false

-- operations keep their order
pub Suits-order : (f g : Frame) {D E k : ℤ} (number : ℕ → ℕ → ℕ) → Suits f g D E k number → (j o n : ℕ) → j < f.jobs → f.Has j o → f.Has j n → number j o < number j n → o < n
Suits-order f g number s j o n l a b h = elim (cases_order o n) [
  | inl same ↦ absurd (omega (arith, h, ap (number j) same))
  | inr (inl less) ↦ less
  | inr (inr more) ↦ absurd (omega (arith, h, s.increasing j n o l b a more))
]

-- ---- the pieces
-- a move keeps jobs and machines, renumbers operations, and makes each piece k times as long
pub record Moves (f : Frame) (ps : List Piece) (k : ℤ) (number : ℕ → ℕ → ℕ) (move : Piece → Piece) : Type 0 where
  pub job : (p : Piece) → (move p).job ≡ p.job
  pub op : (p : Piece) → (move p).op ≡ number p.job p.op
  pub machine : (p : Piece) → (move p).machine ≡ p.machine
  pub long : All (λ p. length_of (move p) ≡ k *ℤ length_of p) ps
  -- pieces that are apart stay so
  pub apart : (p q : Piece) → Lasts p → Lasts q → IsApart p q → IsApart (move p) (move q)

module _ (f g : Frame) (D E k : ℤ) (number : ℕ → ℕ → ℕ) (move : Piece → Piece) (ps : List Piece) (fits : Fits f D ps) (s : Suits f g D E k number) (m : Moves f ps k number move) where
  pub moved-place : All (Stands g) (map move ps)
  moved-place = All-map (Stands g) move ps (λ a d l. one (get_or ps a d) (fits.place a d l))
    where
      one : (p : Piece) → Stands f p → Stands g (move p)
      one p h = record {
        job = omega (arith, m.job p, s.jobs, h.job);
        operation = subst₂ g.Has (sym (m.job p)) (sym (m.op p)) (s.has p.job p.op h.job h.operation);
        machine = subst (λ x. g.May (move p).job (move p).op x)
            (sym (m.machine p)) (subst₂ (λ x y. g.May x y p.machine) (sym (m.job p)) (sym (m.op p)) (s.may p.job p.op p.machine h.job h.operation h.machine));
      }

  pub moved-machine : AllPairs (λ p q. p.machine ≡ q.machine → IsApart p q) (map move ps)
  moved-machine = AllPairs-map (λ p q. p.machine ≡ q.machine → IsApart p q) move ps
      (λ i j d a b e. m.apart _ _ (fits.span i d (omega arith)) (fits.span j d b) (fits.machine i j d a b (sym (m.machine (get_or ps i d)) ∙ e ∙ m.machine (get_or ps j d))))

  pub moved-job : AllPairs (λ p q. p.job ≡ q.job → IsApart p q) (map move ps)
  moved-job = AllPairs-map (λ p q. p.job ≡ q.job → IsApart p q) move ps
      (λ i j d a b e. m.apart _ _ (fits.span i d (omega arith)) (fits.span j d b) (fits.job i j d a b (sym (m.job (get_or ps i d)) ∙ e ∙ m.job (get_or ps j d))))

  module _ (j o : ℕ) (inside : j < f.jobs) (has : f.Has j o) where
    -- the pieces of the new number are those of the old one, moved
    same_test : (p : Piece) → Stands f p → (((move p).job == j) && ((move p).op == number j o)) ≡ ((p.job == j) && (p.op == o))
    same_test p h = ap₂ (λ x y. (x == j) && (y == number j o)) (m.job p) (m.op p) ∙ by (eqb p.job j) refl
      where
        by_op : p.job ≡ j → (b : Bool) → eqb p.op o ≡ b → eqb (number p.job p.op) (number j o) ≡ b
        by_op e true k = eq-eqb _ _ (ap₂ number e (eqb-true _ _ k))
        by_op e false k = ne_eqb _ _ (λ q. eqb-false _ _ k (same q))
          where
            own : f.Has j p.op
            own = subst (λ x. f.Has x p.op) e h.operation

            same : number p.job p.op ≡ number j o → p.op ≡ o
            same q = let r : number j p.op ≡ number j o = sym (ap (λ x. number x p.op) e) ∙ q in between (ltb p.op o) refl (ltb o p.op) refl r
              where
                between : (c : Bool) → ltb p.op o ≡ c → (d : Bool) → ltb o p.op ≡ d → number j p.op ≡ number j o → p.op ≡ o
                between true c d k r = absurd (omega (arith, r, s.increasing j p.op o inside own has (ltb-true _ _ c)))
                between false c true k r = absurd (omega (arith, r, s.increasing j o p.op inside has own (ltb-true _ _ k)))
                between false c false k r = omega (arith, ltb-false _ _ c, ltb-false _ _ k)

        by : (b : Bool) → eqb p.job j ≡ b → (b && (number p.job p.op == number j o)) ≡ (b && (p.op == o))
        by true e = by_op (eqb-true _ _ e) (eqb p.op o) refl
        by false e = refl

    moved_operation : of_operation (map move ps) j (number j o) ≡ map move (of_operation ps j o)
    moved_operation = filter-map move (λ p. (p.job == j) && (p.op == number j o)) (λ p. (p.job == j) && (p.op == o)) ps (λ a d l. same_test (get_or ps a d) (fits.place a d l))

    ratio : KeepsRatio f g D E k j o (number j o)
    ratio = s.ratio j o inside has

    abbrev mine : List Piece
    mine = of_operation ps j o

    same_part : (p : Piece) → p.job ≡ j → p.op ≡ o → Stands f p → length_of (move p) ≡ k *ℤ length_of p → pos ratio.times *ℤ part g (move p) ≡ pos ratio.over *ℤ part f p
    same_part p e q h long =
        ap (λ z. pos ratio.times *ℤ z) (ap₂ (λ x y. x *ℤ pos y) long (ap₂ g.rate (m.job p ∙ e) (m.machine p)))
        ∙ turned (pos ratio.times) k (length_of p) (pos (g.rate j p.machine)) (pos ratio.over) (pos (f.rate j p.machine)) (ratio.rate p.machine (subst₂ (λ x y. f.May x y p.machine) e q h.machine))
        ∙ ap (λ x. pos ratio.over *ℤ (length_of p *ℤ pos (f.rate x p.machine))) (sym e)
      where
        turned : (a k x r b q : ℤ) → a *ℤ (k *ℤ r) ≡ b *ℤ q → a *ℤ ((k *ℤ x) *ℤ r) ≡ b *ℤ (x *ℤ q)
        turned a k x r b q e =
            ap (λ z. a *ℤ z) (ap (λ z. z *ℤ r) (*ℤ_comm k x) ∙ *ℤ_assoc x k r) ∙ *ℤ_exchange a x (k *ℤ r)
            ∙ ap (λ z. x *ℤ z) e ∙ *ℤ_exchange x b q

    moved_sum : total (map (part g) (map move mine)) ≡ E *ℤ pos (g.want j (number j o))
    moved_sum =
        let named = of_operation-named ps j o in
        let stands = All-filter (λ p. (p.job == j) && (p.op == o)) (Stands f) ps fits.place in
        let long = All-filter (λ p. (p.job == j) && (p.op == o)) (λ p. length_of (move p) ≡ k *ℤ length_of p) ps m.long in
        *ℤ-cancel_same ratio.times ratio.some
        (ap (λ l. pos ratio.times *ℤ total l) (map-map (part g) move mine)
        ∙ total-multiples (pos ratio.times) (pos ratio.over) (λ p. part g (move p)) (part f) mine (λ a d l. same_part (get_or mine a d) (named a d l).0 (named a d l).1 (stands a d l) (long a d l))
        ∙ ap (λ z. pos ratio.over *ℤ z) (fits.work j o inside has).sum
        ∙ sym ratio.want)

    moved_gets : Gets g E (map move ps) j (number j o)
    moved_gets = record {
      one = λ e. let (p, q) = (fits.work j o inside has).one (s.cut e) in (move p, moved_operation ∙ ap (map move) q);
      sum = ap (λ l. total (map (part g) l)) moved_operation ∙ moved_sum;
    }

  pub moved-work : (j o : ℕ) → j < g.jobs → g.Has j o → Gets g E (map move ps) j o
  moved-work j o l h =
      let inside : j < f.jobs = omega (arith, s.jobs) in
      let (n, a, e) = s.all j o inside h in
      subst (Gets g E (map move ps) j) e (moved_gets j n inside a)
