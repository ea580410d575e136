-- Conditions that are kept are not broken, and the first one that is broken is named.
use Rattle.std.proofs.Common.{◌≡◌, ℕ, zero, suc, ◌+◌, List, ◌<◌, ◌⊎◌, inl, inr, length, get_or, All, AllPairs, pos, ◌*ℤ◌, ◌≤ℤ◌, ◌<ℤ◌, refl, sym, ap, subst, subst₂, ◌∙◌, arith, Option, Some, None}
use Rattle.std.proofs.lemmas.Int.{ints}
use Rattle.std.proofs.lemmas.Bool.{cases_lt}
use Rattle.std.specs.Prelude.{IsNone, IfSome, ◌↔◌}
use Rattle.msp_class.specs.declared.environments.EnvKind.{EnvKind}
use Rattle.msp_class.specs.declared.environments.EnvKind.TheVariants.{FlowShop, JobShop}
use Rattle.msp_class.specs.Env.{kind_of}
use Rattle.msp_class.proofs.IntegerRing.{≤ℤ_of_same, <ℤ_weak}
use Rattle.msp_instance.specs.declared.Instance.{Instance}
use Rattle.msp_instance.specs.Instance.{job_at}
use Rattle.msp_pieces.specs.declared.Piece.{Piece}
use Rattle.msp_pieces.specs.declared.Schedule.{Schedule}
use Rattle.msp_schedule.specs.declared.breaks.Break.{Break}
use Rattle.msp_schedule.specs.declared.breaks.Break.TheVariants.{Span, Place, Machine, Job, Release, Arc, Route, Work}
use Rattle.msp_pieces.specs.Piece.{IsApart, piece_at, no_piece}
use Rattle.msp_pieces.specs.Feasible.{Feasible, FollowsRoute, HasOperation, HasPlace, GetsWork}
use Rattle.msp_pieces.specs.Within.{Within}
use Rattle.msp_schedule.specs.Breaks.{no_arc, IsLeast, IsLeastOperation, Overlaps, KeepsArc, KeepsRoute, HasRoutes, IsBroken, IsDecision, IsFirstBreak, turn_of}

-- the condition of a turn, and those before it
abbrev pub Kept : ℕ → Instance → Schedule → Type 0
Kept zero i s = All (λ p. p.from <ℤ p.to) s.pieces
Kept (suc zero) i s = All (HasPlace i) s.pieces
Kept (suc (suc zero)) i s = AllPairs (λ p q. p.machine ≡ q.machine → IsApart p q) s.pieces
Kept (suc (suc (suc zero))) i s = AllPairs (λ p q. p.job ≡ q.job → IsApart p q) s.pieces
Kept (suc (suc (suc (suc zero)))) i s = All (λ p. (s.unit *ℤ pos (job_at i p.job).release) ≤ℤ p.from) s.pieces
Kept (suc (suc (suc (suc (suc zero))))) i s = All (KeepsArc s.pieces) i.arcs
Kept (suc (suc (suc (suc (suc (suc zero)))))) i s = HasRoutes i → (j o : ℕ) → j < length i.jobs → KeepsRoute s.pieces j o
Kept (suc (suc (suc (suc (suc (suc (suc n))))))) i s = (j o : ℕ) → j < length i.jobs → HasOperation (kind_of i.class.env) i j o → GetsWork i s j o

pub record KeepsUpTo (n : ℕ) (i : Instance) (s : Schedule) : Type 0 where
  pub each : (k : ℕ) → k < n → Kept k i s

-- two pieces of a lane that overlap are not apart
overlap_is_not_apart : (a b : Piece) → a.from <ℤ a.to → b.from <ℤ b.to → (a.from ≤ℤ b.from) → b.from <ℤ a.to → ¬ IsApart a b
overlap_is_not_apart a b la lb order early (inl h) = omega (arith, ints, h, early)
overlap_is_not_apart a b la lb order early (inr h) = omega (arith, ints, h, lb, order)

module _ (lane : Piece → ℕ) (xs : List Piece) (lasts : All (λ p. p.from <ℤ p.to) xs) (apart : AllPairs (λ p q. lane p ≡ lane q → IsApart p q) xs) where
  pub no_overlap : (k l : ℕ) → ¬ Overlaps lane xs k l
  no_overlap k l o = overlap_is_not_apart (piece_at xs k) (piece_at xs l) (lasts k no_piece o.one) (lasts l no_piece o.other) weak o.early pair
    where
      weak : (piece_at xs k).from ≤ℤ (piece_at xs l).from
      weak = elim o.ahead [ inl h ↦ <ℤ_weak h | inr (e, h) ↦ ≤ℤ_of_same e ]

      swap : (a b : Piece) → IsApart a b → IsApart b a
      swap a b (inl h) = inr h
      swap a b (inr h) = inl h

      self : k ≡ l → ⊥
      self e = elim o.ahead [
        | inl h ↦ let same : (piece_at xs k).from ≡ (piece_at xs l).from = ap (λ x. (piece_at xs x).from) e in omega (arith, ints, h, same)
        | inr (f, h) ↦ omega (arith, h, e)
      ]

      pair : IsApart (piece_at xs k) (piece_at xs l)
      pair = elim (cases_lt k l) [
        | inl less ↦ apart k l no_piece less o.other o.same
        | inr more ↦ elim (cases_lt l k) [
          | inl less ↦ swap (piece_at xs l) (piece_at xs k) (apart l k no_piece less o.one (sym o.same))
          | inr back ↦ absurd (self (omega (arith, more, back)))
        ]
      ]

module _ (i : Instance) (s : Schedule) where
  pub not_broken : (n : ℕ) → KeepsUpTo n i s → (b : Break) → turn_of b < n → ¬ IsBroken i s b
  not_broken n h (Span k) t b = let lasts = h.each 0 t k no_piece b.inside in let empty = b.holds in omega (arith, ints)
  not_broken n h (Place k) t b = b.holds (h.each 1 t k no_piece b.inside)
  not_broken n h (Machine k l) t b = no_overlap (λ p. p.machine) s.pieces (h.each 0 (omega (arith, t))) (h.each 2 t) k l b.overlap
  not_broken n h (Job k l) t b = no_overlap (λ p. p.job) s.pieces (h.each 0 (omega (arith, t))) (h.each 3 t) k l b.overlap
  not_broken n h (Release k) t b = let late = h.each 4 t k no_piece b.inside in let early = b.holds in omega (arith, ints)
  not_broken n h (Arc k) t b = b.holds (h.each 5 t k no_arc b.inside)
  not_broken n h (Route j o) t b = b.1.holds (h.each 6 t b.0 j o b.1.inside)
  not_broken n h (Work j o) t b = b.holds.1 (h.each 7 t j o b.inside b.holds.0)

  pub first_of : (b : Break) → KeepsUpTo (turn_of b) i s → IsBroken i s b → IsFirstBreak i s b
  first_of b h broken = record { broken = broken; first = λ c t. not_broken (turn_of b) h c t }

  -- each condition is kept: the schedule is feasible
  routed_by : (k : EnvKind) → kind_of i.class.env ≡ k → All (HasPlace i) s.pieces → (HasRoutes i → (j o : ℕ) → j < length i.jobs → KeepsRoute s.pieces j o) → FollowsRoute k s.pieces
  routed_by FlowShop e place h = λ k d l m b n same less. h (inl e) (get_or s.pieces m b).job (get_or s.pieces m b).op (place m b n).job k d l m b n same refl less refl
  routed_by JobShop e place h = λ k d l m b n same less. h (inr e) (get_or s.pieces m b).job (get_or s.pieces m b).op (place m b n).job k d l m b n same refl less refl
  routed_by _ e place h = tt

  pub feasible_when_kept : pos 1 ≤ℤ s.unit → All (λ p. pos 0 ≤ℤ p.from) s.pieces → KeepsUpTo 8 i s → Feasible i s
  feasible_when_kept unit natural h = record {
    unit = unit;
    span = λ k d l. (natural k d l, h.each 0 (omega arith) k d l);
    place = h.each 1 (omega arith);
    machine = h.each 2 (omega arith);
    job = h.each 3 (omega arith);
    release = h.each 4 (omega arith);
    arc = h.each 5 (omega arith);
    route = routed_by (kind_of i.class.env) refl (h.each 1 (omega arith)) (h.each 6 (omega arith));
    work = h.each 7 (omega arith);
  }

  pub feasible_if_kept : Within i s → KeepsUpTo 8 i s → Feasible i s
  feasible_if_kept w h = feasible_when_kept w.unit.0 (λ k d l. (w.moments k d l).0.0) h

  -- a feasible schedule keeps them all
  routes_by : (k : EnvKind) → FollowsRoute k s.pieces → (k ≡ FlowShop) ⊎ (k ≡ JobShop) → (j o : ℕ) → KeepsRoute s.pieces j o
  routes_by FlowShop h routed j o = λ k d l m b n ej eq less eo. h k d l m b n (ej ∙ sym eq) (subst (λ x. (get_or s.pieces k d).op < x) (sym eo) less)
  routes_by JobShop h routed j o = λ k d l m b n ej eq less eo. h k d l m b n (ej ∙ sym eq) (subst (λ x. (get_or s.pieces k d).op < x) (sym eo) less)
  routes_by _ h (inl e) j o = absurd (cc)
  routes_by _ h (inr e) j o = absurd (cc)

  pub kept_if_feasible : (n : ℕ) → Feasible i s → KeepsUpTo n i s
  kept_if_feasible n f = record { each = λ k below. by k }
    where
      by : (k : ℕ) → Kept k i s
      by zero = λ k d l. (f.span k d l).1
      by (suc zero) = f.place
      by (suc (suc zero)) = f.machine
      by (suc (suc (suc zero))) = f.job
      by (suc (suc (suc (suc zero)))) = f.release
      by (suc (suc (suc (suc (suc zero))))) = f.arc
      by (suc (suc (suc (suc (suc (suc zero)))))) = λ routed j o l. routes_by (kind_of i.class.env) f.route routed j o
      by (suc (suc (suc (suc (suc (suc (suc m))))))) = f.work

  pub not_feasible : ((b : Break) × IsFirstBreak i s b) → ¬ Feasible i s
  not_feasible (b, h) f = not_broken (suc (turn_of b)) (kept_if_feasible (suc (turn_of b)) f) b (omega arith) h.broken

  pub decided : (result : Option Break) → IsDecision i s result → IsNone result ↔ Feasible i s
  decided None h = (λ e. h, λ f. refl)
  decided (Some b) h = (λ e. absurd (cc), λ f. absurd (not_feasible (b, h) f))

  pub named : (result : Option Break) → IsDecision i s result → IfSome result (IsFirstBreak i s)
  named None h = tt
  named (Some b) h = h

  -- one condition after another
  pub up_to_none : KeepsUpTo 0 i s
  up_to_none = record { each = λ k l. absurd (omega (arith, l)) }

  pub up_to_next : (n : ℕ) → KeepsUpTo n i s → Kept n i s → KeepsUpTo (n + 1) i s
  up_to_next n h x = record { each = λ k l. elim (cases_lt k n) [ inl less ↦ h.each k less | inr more ↦ subst (λ m. Kept m i s) (omega (arith, l, more)) x ] }

-- the jobs so far keep their routes, and the next one; and the first that does not
pub routes_next : (i : Instance) (xs : List Piece) (job ops : ℕ) → ops ≡ length (job_at i job).needs → All (λ p. p.op < length (job_at i p.job).needs) xs
    → ((o : ℕ) → o < ops → KeepsRoute xs job o) → ((j o : ℕ) → j < job → KeepsRoute xs j o) → (j o : ℕ) → j < job + 1 → KeepsRoute xs j o
routes_next i xs job ops es places own before j o below = elim (cases_lt j job) [
  | inl less ↦ before j o less
  | inr more ↦ subst (λ k. KeepsRoute xs k o) (omega (arith, below, more)) (elim (cases_lt o ops) [
    | inl less ↦ own o less
    | inr beyond ↦ λ k d l m b n ep eq less eo. let inside = subst₂ (λ x y. x < length (job_at i y).needs) eo eq (places m b n) in absurd (omega (arith, inside, beyond, es))
  ])
]

pub routes_least : (i : Instance) (xs : List Piece) (job ops o : ℕ) → job < length i.jobs → IsLeast ops (λ q. ¬ KeepsRoute xs job q) o
    → ((j q : ℕ) → j < job → KeepsRoute xs j q) → IsLeastOperation i (λ k q. ¬ KeepsRoute xs k q) job o
routes_least i xs job ops o inside least before = record { inside = inside; holds = least.holds; job = λ k q below n. n (before k q below); operation = least.least }

-- the schedule whose pieces are passed as a slice
abbrev pub with_pieces : Schedule → List Piece → Schedule
with_pieces s xs = record { unit = s.unit; pieces = xs }

pub same_schedule : (s : Schedule) (xs : List Piece) → xs ≡ s.pieces → with_pieces s xs ≡ s
same_schedule s xs e = ap (with_pieces s) e
