-- The law of two instances each of which is the other read from its end.
use Rattle.std.proofs.Common.{◌≡◌, ℕ, ◌<◌, true, length, get_or, map, All, Contains, inl, inr, ℤ, pos, ◌+ℤ◌, ◌-ℤ◌, ◌*ℤ◌, ◌≤ℤ◌, ◌<ℤ◌, refl, sym, ap, subst, subst₂, ◌∙◌, arith}
use Rattle.std.proofs.lemmas.Int.{ints, fold-int_max_bounds, fold-int_max_reached}
use Rattle.std.proofs.lemmas.List.Elements.{All-map, All-contains, Contains-get_or}
use Rattle.msp_class.specs.Env.{kind_of, is_mirror, is_mirror_kind}
use Rattle.msp_class.specs.Crit.{is_greatest}
use Rattle.msp_class.proofs.IntegerRing.{≤ℤ_trans, one-*ℤ, zero-*ℤ, *ℤ_comm, *ℤ-mono_nonneg, *ℤ-nonneg, pos-le, zero-le-pos}
use Rattle.msp_instance.specs.declared.Instance.{Instance}
use Rattle.msp_instance.specs.Instance.{job_at}
use Rattle.msp_instance.specs.Conditions.{Inner, inner_limits}
use Rattle.msp_pieces.specs.declared.Piece.{Piece}
use Rattle.msp_pieces.specs.declared.Schedule.{Schedule}
use Rattle.msp_pieces.specs.Feasible.{Feasible}
use Rattle.msp_pieces.specs.Cost.{end_of, job_cost, cost_of}
use Rattle.msp_pieces.proofs.feasible.Frames.{frame_of, Lasts, HasWork, IsShaped, IsShaped-from_conditions, HasWork-from_conditions, Fits-from_feasible, piece_of}
use Rattle.msp_pieces.proofs.changes.Moves.{Contains-map}
use Rattle.msp_pieces.proofs.feasible.LastEnds.{last_end-contains}
use Rattle.msp_pieces.proofs.costs.Charges.{charge_of, cost_of-bound, cost_of-least}
use Rattle.msp_pieces.proofs.changes.Serves.{SameNeeds, SameNeeds-sym}
use Rattle.msp_pieces.proofs.changes.Mirror.{Feasible-mirrored, end_of-mirrored}
use Rattle.msp_route.specs.Law.{IsPositive, IsForth, IsBack, cost_above, cost_below}
use Rattle.msp_turn.specs.Turned.{turned_arc}
use Rattle.msp_turn.specs.Reversal.{turning_moment, reversed_for}
use Rattle.msp_route.specs.Rates.{raised_costs}

-- the moment up to which a piece reaches with the release date of its job after it
abbrev pub reach : Instance → ℤ → Piece → ℤ
reach i unit p = p.to +ℤ (unit *ℤ pos (job_at i p.job).release)

-- all pieces reach up to the turning moment, and it is reached
pub within_turning : (i : Instance) (s : Schedule) → All (λ p. reach i s.unit p ≤ℤ turning_moment i s) s.pieces
within_turning i s k d l = All-contains (λ x. x ≤ℤ turning_moment i s) (map (reach i s.unit) s.pieces) (reach i s.unit (get_or s.pieces k d))
    (fold-int_max_bounds (pos 0) (map (reach i s.unit) s.pieces) (turning_moment i s) refl).1 (Contains-map (reach i s.unit) s.pieces (get_or s.pieces k d) (Contains-get_or s.pieces k d l))

pub turning-natural : (i : Instance) (s : Schedule) → pos 0 ≤ℤ turning_moment i s
turning-natural i s = (fold-int_max_bounds (pos 0) (map (reach i s.unit) s.pieces) (turning_moment i s) refl).0

-- the least bound
pub turning-least : (i : Instance) (s : Schedule) (b : ℤ) → pos 0 ≤ℤ b → All (λ p. reach i s.unit p ≤ℤ b) s.pieces → turning_moment i s ≤ℤ b
turning-least i s b h all = elim (fold-int_max_reached (pos 0) (map (reach i s.unit) s.pieces) (turning_moment i s) refl) [
  | inl e ↦ subst (λ x. x ≤ℤ b) (sym e) h
  | inr c ↦ All-contains (λ x. x ≤ℤ b) (map (reach i s.unit) s.pieces) (turning_moment i s) (All-map (λ x. x ≤ℤ b) (reach i s.unit) s.pieces all) c
]

-- each instance charges a job for its end and for what the other one asks before its begin, but for a number
pub record IsReverse (a b : ℤ) (i j : Instance) : Type 0 where
  pub needs : SameNeeds i j
  pub mirror : is_mirror j.class.env ≡ true
  pub arcs : All (λ x. Contains i.arcs (turned_arc x)) j.arcs
  pub arcs_back : All (λ x. Contains j.arcs (turned_arc x)) i.arcs
  pub greatest : is_greatest i.class.crit ≡ true
  pub greatest_below : is_greatest j.class.crit ≡ true
  pub charge : (k : ℕ) → k < length i.jobs → (unit x : ℤ) → (job_cost i.class.crit unit (job_at i k) x +ℤ (a *ℤ unit)) ≡ (x +ℤ (unit *ℤ pos (job_at j k).release))
  pub charge_below : (k : ℕ) → k < length i.jobs → (unit x : ℤ) → (job_cost j.class.crit unit (job_at j k) x +ℤ (b *ℤ unit)) ≡ (x +ℤ (unit *ℤ pos (job_at i k).release))

pub IsReverse-sym : (a b : ℤ) (i j : Instance) → IsReverse a b i j → IsReverse b a j i
IsReverse-sym a b i j r = record {
  needs = SameNeeds-sym i j r.needs;
  mirror = ap is_mirror_kind r.needs.kind ∙ r.mirror;
  arcs = r.arcs_back;
  arcs_back = r.arcs;
  greatest = r.greatest_below;
  greatest_below = r.greatest;
  charge = λ k l. r.charge_below k (omega (arith, r.needs.count));
  charge_below = λ k l. r.charge k (omega (arith, r.needs.count));
}

module _ {a b : ℤ} {i j : Instance} (r : IsReverse a b i j) (inner : Inner i) (s : Schedule) (f : Feasible i s) where
  shaped : IsShaped i
  shaped = IsShaped-from_conditions (inner_limits (kind_of i.class.env)) i inner.conditions

  works : HasWork (frame_of i)
  works = HasWork-from_conditions (inner_limits (kind_of i.class.env)) i inner.conditions

  pub Feasible-reversed : Feasible j (reversed_for j s)
  Feasible-reversed = Feasible-mirrored i j s (turning_moment j s) shaped r.needs r.mirror r.arcs (within_turning j s) f

  -- no piece reaches further than the cost
  pub reach-charged : All (λ p. reach j s.unit p ≤ℤ (cost_of i s +ℤ (a *ℤ s.unit))) s.pieces
  reach-charged k d l =
      let p = get_or s.pieces k d in
      charged p.to (end_of s p.job) (s.unit *ℤ pos (job_at j p.job).release) (charge_of i s p.job) (cost_of i s) (a *ℤ s.unit)
      (last_end-contains s.pieces p (Contains-get_or s.pieces k d l)) (r.charge p.job (f.place k d l).job s.unit (end_of s p.job)) (cost_of-bound i s r.greatest p.job (f.place k d l).job)
    where
      charged : (t e d c x z : ℤ) → t ≤ℤ e → (c +ℤ z) ≡ (e +ℤ d) → c ≤ℤ x → (t +ℤ d) ≤ℤ (x +ℤ z)
      charged t e d c x z h g k = omega (arith, ints)

  -- so the turning moment is no greater
  pub turning-charged : turning_moment j s ≤ℤ (cost_of i s +ℤ (a *ℤ s.unit))
  turning-charged = turning-least j s (cost_of i s +ℤ (a *ℤ s.unit)) some reach-charged
    where
      natural : (t u d z : ℤ) → pos 0 ≤ℤ t → t <ℤ u → pos 0 ≤ℤ d → (u +ℤ d) ≤ℤ z → pos 0 ≤ℤ z
      natural t u d z h k l m = omega (arith, ints)

      some : pos 0 ≤ℤ (cost_of i s +ℤ (a *ℤ s.unit))
      some =
          let (p, c, e) = piece_of (frame_of i) s.unit s.pieces (Fits-from_feasible i s shaped f) works 0 inner.conditions.some in
          let lasts = All-contains Lasts s.pieces p f.span c in
          natural p.from p.to (s.unit *ℤ pos (job_at j p.job).release) (cost_of i s +ℤ (a *ℤ s.unit)) lasts.0 lasts.1
          (*ℤ-nonneg (≤ℤ_trans (pos-le (omega arith)) f.unit) (zero-le-pos (job_at j p.job).release))
          (All-contains (λ q. reach j s.unit q ≤ℤ (cost_of i s +ℤ (a *ℤ s.unit))) s.pieces p reach-charged c)

  pub cost-reversed : (cost_of j (reversed_for j s) +ℤ (b *ℤ s.unit)) ≤ℤ (cost_of i s +ℤ (a *ℤ s.unit))
  cost-reversed = moved (cost_of j (reversed_for j s)) (b *ℤ s.unit) (cost_of i s +ℤ (a *ℤ s.unit))
      (cost_of-least j (reversed_for j s) ((cost_of i s +ℤ (a *ℤ s.unit)) -ℤ (b *ℤ s.unit)) r.greatest_below (omega (arith, r.needs.count, inner.conditions.some)) each)
    where
      moved : (x y z : ℤ) → x ≤ℤ (z -ℤ y) → (x +ℤ y) ≤ℤ z
      moved x y z h = omega (arith, ints)

      charged : (t d k c x z : ℤ) → t ≤ℤ (k -ℤ d) → (c +ℤ z) ≡ (t +ℤ d) → k ≤ℤ x → c ≤ℤ (x -ℤ z)
      charged t d k c x z h g l = omega (arith, ints)

      each : (k : ℕ) → k < length j.jobs → charge_of j (reversed_for j s) k ≤ℤ ((cost_of i s +ℤ (a *ℤ s.unit)) -ℤ (b *ℤ s.unit))
      each k l =
          let inside : k < length i.jobs = omega (arith, r.needs.count) in
          charged (end_of (reversed_for j s) k) (s.unit *ℤ pos (job_at i k).release) (turning_moment j s) (charge_of j (reversed_for j s) k) (cost_of i s +ℤ (a *ℤ s.unit)) (b *ℤ s.unit)
          (end_of-mirrored i j s (turning_moment j s) shaped works r.needs r.mirror r.arcs (within_turning j s) f k inside)
          (r.charge_below k inside s.unit (end_of (reversed_for j s) k)) turning-charged

-- ---- both halves of the law
pub IsPositive-raised : (a : ℤ) → IsPositive (raised_costs a)
IsPositive-raised a = record { factor = omega arith; scale = omega arith }

over_unit : (unit x y : ℤ) → pos 1 ≤ℤ unit → x ≤ℤ y → (x *ℤ unit) ≤ℤ (y *ℤ unit)
over_unit unit x y u h = subst₂ (λ p q. p ≤ℤ q) (*ℤ_comm unit x) (*ℤ_comm unit y) (*ℤ-mono_nonneg unit (≤ℤ_trans (pos-le (omega arith)) u) h)

pub IsForth-reversed : {a : ℤ} {i j : Instance} → IsReverse a (pos 0) i j → Inner i → (s : Schedule) → IsForth (raised_costs a) i j s (reversed_for j s)
IsForth-reversed {a} {i} {j} r inner s f = (
  Feasible-reversed r inner s f,
  over_unit s.unit (cost_below (raised_costs a) j (reversed_for j s)) (cost_above (raised_costs a) i s) f.unit (
      least (cost_of j (reversed_for j s)) (cost_of i s) (a *ℤ s.unit) (pos 0 *ℤ s.unit) (zero-*ℤ s.unit) (cost-reversed r inner s f)),
)
  where
    least : (y x z o : ℤ) → o ≡ pos 0 → (y +ℤ o) ≤ℤ (x +ℤ z) → (pos 1 *ℤ y) ≤ℤ ((pos 1 *ℤ x) +ℤ z)
    least y x z o e h = subst₂ (λ p q. p ≤ℤ (q +ℤ z)) (sym (one-*ℤ y)) (sym (one-*ℤ x)) (omega (arith, ints))

pub IsBack-reversed : {a : ℤ} {i j : Instance} → IsReverse a (pos 0) i j → Inner j → (s : Schedule) → IsBack (raised_costs a) i j s (reversed_for i s)
IsBack-reversed {a} {i} {j} r inner s f =
    let back = IsReverse-sym a (pos 0) i j r in (
      Feasible-reversed back inner s f,
      over_unit s.unit (cost_above (raised_costs a) i (reversed_for i s)) (cost_below (raised_costs a) j s) f.unit (
          least (cost_of i (reversed_for i s)) (cost_of j s) (a *ℤ s.unit) (pos 0 *ℤ s.unit) (zero-*ℤ s.unit) (cost-reversed back inner s f)),
    )
  where
    least : (y x z o : ℤ) → o ≡ pos 0 → (y +ℤ z) ≤ℤ (x +ℤ o) → ((pos 1 *ℤ y) +ℤ z) ≤ℤ (pos 1 *ℤ x)
    least y x z o e h = subst₂ (λ p q. (p +ℤ z) ≤ℤ q) (sym (one-*ℤ y)) (sym (one-*ℤ x)) (omega (arith, ints))
