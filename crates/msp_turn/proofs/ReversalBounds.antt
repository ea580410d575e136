-- What is read from its end stays within bounds.
use Rattle.std.proofs.Common.{◌≡◌, ℕ, ◌*◌, ◌<◌, ◌≤◌, Bool, true, false, length, get_or, inr, ℤ, pos, negsuc, ◌+ℤ◌, ◌-ℤ◌, ◌*ℤ◌, ◌≤ℤ◌, ◌<ℤ◌, refl, sym, ap, subst, ◌∙◌, arith}
use Rattle.std.specs.Prelude.{◌==◌}
use Rattle.std.proofs.lemmas.Bool.{false≢true, eqb-true}
use Rattle.std.proofs.lemmas.Int.{ints}
use Rattle.std.proofs.lemmas.Nat.{mul-le}
use Rattle.std.proofs.lemmas.List.{length-map}
use Rattle.std.proofs.lemmas.List.Elements.{All-map}
use Rattle.std.proofs.lemmas.List.Sorted.{IsPermutation-refl}
use Rattle.msp_class.specs.declared.environments.EnvKind.{EnvKind}
use Rattle.msp_class.specs.declared.environments.EnvKind.TheVariants.{Identical}
use Rattle.msp_class.specs.Env.{kind_of}
use Rattle.msp_class.proofs.IntegerRing.{≤ℤ_refl, ≤ℤ_trans, ≤ℤ_of_same, le-pos, natural_some, +ℤ_idr, zero-*ℤ, *ℤ-zero}
use Rattle.msp_class.specs.declared.sizes.TheConstants.{GREATEST}
use Rattle.msp_instance.specs.declared.Instance.{Instance}
use Rattle.msp_instance.specs.Instance.{no_job, job_at}
use Rattle.msp_instance.specs.Conditions.{HasRelease, Inner, inner_limits, inner_factor}
use Rattle.msp_pieces.specs.declared.Schedule.{Schedule}
use Rattle.msp_pieces.specs.declared.Solution.{Solution}
use Rattle.msp_pieces.specs.Feasible.{Feasible}
use Rattle.msp_pieces.specs.Cost.{cost_of, IsSolution}
use Rattle.msp_pieces.specs.Within.{IsMoment, IsUnit}
use Rattle.msp_route.specs.Law.{IsBack, IsReordered}
use Rattle.msp_route.specs.Bounds.{EndsBy, IsBounded, KeepsBounds, greatest_unit, keeps_schedule, moment_after}
use Rattle.msp_route.specs.declared.bounds.TheConstants.{GREATEST_BACK_MOMENT, GREATEST_RAISE}
use Rattle.msp_route.proofs.Kept.{raises, unraised}
use Rattle.msp_route.proofs.KindLimits.{greatest_unit-most}
use Rattle.msp_route.specs.Rates.{raised_costs}
use Rattle.msp_turn.specs.Reversal.{IsReversible, reversed_piece, turning_moment, reversed_for}
use Rattle.msp_turn.specs.laws.ReversalRows.{IsReversal}
use Rattle.msp_turn.specs.laws.ReversalLaw.{IsReverse, IsReverse-sym, turning-least, turning-charged, Feasible-reversed, IsBack-reversed}

-- ---- a release date over the unit
release_by : (k : EnvKind) (h : Bool) (x : ℕ) → HasRelease (inner_limits k) h x → x ≤ 2 * GREATEST * inner_factor k
release_by k true x r = r
release_by k false x r = omega (arith, r)

over_unit : (n x d : ℕ) (u : ℤ) → pos n ≤ℤ u → x ≤ d → (u *ℤ pos d) ≤ℤ GREATEST_RAISE → (pos n *ℤ pos x) ≤ℤ GREATEST_RAISE
over_unit n x d (negsuc m) h k l = absurd (omega (arith, ints))
over_unit n x d (pos m) h k l = let p = mul-le n x m d (le-pos h) k in omega (arith, ints)

greatest_tail : (k : EnvKind) → (greatest_unit k *ℤ pos (2 * GREATEST * inner_factor k)) ≤ℤ GREATEST_RAISE
greatest_tail Identical = omega (arith, ints)
greatest_tail _ = omega (arith, ints)

small_tail : (k : EnvKind) (n x : ℕ) → pos n ≤ℤ greatest_unit k → x ≤ 2 * GREATEST * inner_factor k → (pos n *ℤ pos x) ≤ℤ GREATEST_RAISE
small_tail k n x u h = over_unit n x (2 * GREATEST * inner_factor k) (greatest_unit k) u h (greatest_tail k)

-- a row that reads schedules from their end: row 47 alone has release dates above, and raises moments by them
pub record IsReversed (i : Instance) (row : ℕ) : Type 0 where
  pub changes : keeps_schedule row ≡ false
  pub moments : raises row ≡ (row == 47)
  pub none : (row == 47) ≡ false → (k : ℕ) → k < length i.jobs → (job_at i k).release ≡ 0

module _ {a : ℤ} {i j : Instance} (r : IsReverse a (pos 0) i j) (inner : Inner i) (low : Inner j) (t : Schedule) (f : Feasible j t) (b : IsBounded j t) where
  back : IsReverse (pos 0) a j i
  back = IsReverse-sym a (pos 0) i j r

  unit_small : t.unit ≤ℤ greatest_unit (kind_of i.class.env)
  unit_small = subst (λ k. t.unit ≤ℤ greatest_unit k) (sym r.needs.kind) b.sized.unit

  is_unit : IsUnit t.unit
  is_unit = (f.unit, ≤ℤ_trans unit_small (greatest_unit-most (kind_of i.class.env)))

  small_release : (k : ℕ) → k < length i.jobs → (t.unit *ℤ pos (job_at i k).release) ≤ℤ GREATEST_RAISE
  small_release k l =
      let (n, e) = natural_some t.unit (omega (arith, ints, f.unit)) in
      subst (λ u. (u *ℤ pos (job_at i k).release) ≤ℤ GREATEST_RAISE) (sym e)
      (small_tail (kind_of i.class.env) n (job_at i k).release (subst (λ u. u ≤ℤ greatest_unit (kind_of i.class.env)) e unit_small)
      (release_by (kind_of i.class.env) i.class.heads (job_at i k).release (inner.conditions.jobs k no_job l).release))

  -- moments are raised by no more than the release dates
  ends_by : (moment c : ℤ) → pos 0 ≤ℤ c → ((k : ℕ) → k < length i.jobs → (t.unit *ℤ pos (job_at i k).release) ≤ℤ c) → EndsBy moment t → EndsBy (moment +ℤ c) (reversed_for i t)
  ends_by moment c some small ends = All-map (λ p. p.to ≤ℤ (moment +ℤ c)) (reversed_piece (turning_moment i t)) t.pieces (λ k d l.
      let p = get_or t.pieces k d in
      let lasts = f.span k d l in
      earlier p.from (turning_moment i t) (moment +ℤ c) lasts.0
      (turning-least i t (moment +ℤ c) (natural p.from p.to moment c lasts.0 lasts.1 (ends k d l) some)
      (λ m e n. summed (get_or t.pieces m e).to (t.unit *ℤ pos (job_at i (get_or t.pieces m e).job).release)
      moment c (ends m e n) (small (get_or t.pieces m e).job (omega (arith, (f.place m e n).job, r.needs.count))))))
    where
      earlier : (x k z : ℤ) → pos 0 ≤ℤ x → k ≤ℤ z → (k -ℤ x) ≤ℤ z
      earlier x k z h l = omega (arith, ints)

      natural : (x y m c : ℤ) → pos 0 ≤ℤ x → x <ℤ y → y ≤ℤ m → pos 0 ≤ℤ c → pos 0 ≤ℤ (m +ℤ c)
      natural x y m c h k l n = omega (arith, ints)

      summed : (x y m c : ℤ) → x ≤ℤ m → y ≤ℤ c → (x +ℤ y) ≤ℤ (m +ℤ c)
      summed x y m c h k = omega (arith, ints)

  ends_raised : (moment : ℤ) → EndsBy moment t → EndsBy (moment +ℤ GREATEST_RAISE) (reversed_for i t)
  ends_raised moment e = ends_by moment GREATEST_RAISE (omega (arith, ints)) small_release e

  -- without release dates they stay
  ends_stay : ((k : ℕ) → k < length i.jobs → (job_at i k).release ≡ 0) → (moment : ℤ) → EndsBy moment t → EndsBy moment (reversed_for i t)
  ends_stay none moment e = subst (λ m. EndsBy m (reversed_for i t)) (+ℤ_idr moment)
      (ends_by moment (pos 0) (≤ℤ_refl _) (λ m n. ≤ℤ_of_same (ap (λ x. t.unit *ℤ pos x) (none m n) ∙ *ℤ-zero t.unit)) e)

  ends_kept : (row : ℕ) → IsReversed i row → (moment : ℤ) → EndsBy moment t → EndsBy (moment_after row moment) (reversed_for i t)
  ends_kept row h moment e = by (row == 47) refl
    where
      by : (dated : Bool) → (row == 47) ≡ dated → EndsBy (moment_after row moment) (reversed_for i t)
      by true q = subst (λ n. EndsBy (moment_after n moment) (reversed_for i t)) (sym (eqb-true row 47 q)) (ends_raised moment e)
      by false q = subst (λ m. EndsBy m (reversed_for i t)) (sym (unraised row moment (h.moments ∙ q))) (ends_stay (h.none q) moment e)

  -- no piece ends after the lower cost
  ends_charged : EndsBy (cost_of j t) (reversed_for i t)
  ends_charged = All-map (λ p. p.to ≤ℤ cost_of j t) (reversed_piece (turning_moment i t)) t.pieces
      (λ k d l. earlier (get_or t.pieces k d).from (turning_moment i t) (cost_of j t) (pos 0 *ℤ t.unit) (zero-*ℤ t.unit) (f.span k d l).0 (turning-charged back low t f))
    where
      earlier : (x k z o : ℤ) → o ≡ pos 0 → pos 0 ≤ℤ x → k ≤ℤ (z +ℤ o) → (k -ℤ x) ≤ℤ z
      earlier x k z o e h l = omega (arith, ints)

  pub KeepsBounds-reversed : (row : ℕ) → IsReversed i row → KeepsBounds row i j t (reversed_for i t)
  KeepsBounds-reversed row h = record {
    same = λ kept. absurd (false≢true (sym h.changes ∙ kept));
    few = omega (arith, length-map t.pieces (reversed_piece (turning_moment i t)));
    unit = λ w. refl;
    sized = record { few = omega (arith, b.sized.few, length-map t.pieces (reversed_piece (turning_moment i t))); unit = unit_small };
    ends = ends_kept row h;
    dates = λ trades k d l. (((Feasible-reversed back low t f).span k d l).0, ends_charged k d l);
  }

  pub IsReversible-back : IsReversible i t
  IsReversible-back = record {
    feasible = feasible;
    within = record {
      unit = is_unit;
      few = omega (arith, b.sized.few, length-map t.pieces (reversed_piece (turning_moment i t)));
      moments = λ k d l. both (get_or (reversed_for i t).pieces k d).from (get_or (reversed_for i t).pieces k d).to (feasible.span k d l) (ends_raised GREATEST_BACK_MOMENT b.ends k d l);
      scaled = λ e. inr (subst (λ k. t.unit ≤ℤ greatest_unit k) e unit_small);
    };
    unit = is_unit;
    jobs = λ k d l. omega (arith, (f.place k d l).job, r.needs.count);
    moments = λ k d l. both (get_or t.pieces k d).from (get_or t.pieces k d).to (f.span k d l) (≤ℤ_trans (b.ends k d l) (omega (arith, ints)));
  }
    where
      feasible : Feasible i (reversed_for i t)
      feasible = Feasible-reversed back low t f

      both : (x y : ℤ) → (pos 0 ≤ℤ x) × (x <ℤ y) → y ≤ℤ (GREATEST_BACK_MOMENT +ℤ GREATEST_RAISE) → IsMoment x × IsMoment y
      both x y h k = ((h.0, omega (arith, ints, h.1)), (omega (arith, ints, h.0, h.1), omega (arith, ints)))

-- ---- what is brought back
abbrev pub IsBroughtBack : ℕ → ℤ → Instance → Instance → Schedule → Solution → Type 0
IsBroughtBack row a i j t s = record {
  solution : IsSolution i s;
  law : IsBack (raised_costs a) i j t s.schedule;
  same : IsReordered (reversed_for i t) s.schedule;
  bounds : KeepsBounds row i j t s.schedule;
}

module _ {row : ℕ} {a : ℤ} {i j : Instance} (h : IsReversal row a i j) (inner : Inner i) (t : Solution) (given : IsSolution j t) (b : IsBounded j t.schedule) where
  pub reversible : IsReversible i t.schedule
  reversible = IsReversible-back h.reverse inner h.lower.inner t.schedule given.feasible b

  pub brought_back : keeps_schedule row ≡ false → raises row ≡ (row == 47) → (s : Solution) → s.schedule ≡ reversed_for i t.schedule → IsSolution i s
      → IsBroughtBack row a i j t.schedule s
  brought_back changes moments s e solution = record {
    solution = solution;
    law = subst (IsBack (raised_costs a) i j t.schedule) (sym e) (IsBack-reversed h.reverse h.lower.inner t.schedule);
    same = subst (IsReordered (reversed_for i t.schedule)) (sym e) (record { unit = refl; pieces = IsPermutation-refl (reversed_for i t.schedule).pieces });
    bounds = subst (KeepsBounds row i j t.schedule) (sym e)
        (KeepsBounds-reversed h.reverse inner h.lower.inner t.schedule given.feasible b row (record { changes = changes; moments = moments; none = h.none }));
  }
