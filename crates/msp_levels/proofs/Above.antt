-- Jobs above a job: whether so many are, along an arc and in any places that rise along arcs.
use Rattle.std.proofs.Common.{◌≡◌, ℕ, zero, suc, ◌<◌, ◌≤◌, true, false, List, All, Contains, refl, sym, ap, ◌∙◌, arith}
use Rattle.std.specs.Prelude.{◌==◌, ◌&&◌}
use Rattle.std.proofs.lemmas.Bool.{eqb-true, eq-eqb, false_from_ne_true, true≢false}
use Rattle.std.proofs.lemmas.List.Elements.{All-contains}
use Rattle.std.proofs.lemmas.List.Folds.{Any-from_list_any, list_any_at}
use Rattle.msp_instance.specs.declared.Arc.{Arc}
use Rattle.msp_pieces.proofs.feasible.OneMachine.{both_true}
use Rattle.msp_levels.specs.Sums.{has_above}

module _ (arcs : List Arc) where
  -- the last arc of a path that enters the job
  above-arc : (k j : ℕ) → has_above arcs (suc k) j ≡ true → (a : Arc) × Contains arcs a × (a.after ≡ j) × (has_above arcs k a.before ≡ true)
  above-arc k j h =
      let (m, a, b, e, p) = Any-from_list_any (λ a. a.after == j && has_above arcs k a.before) arcs h in
      let both = both_true (a.after == j) (has_above arcs k a.before) p in
      (a, (m, b, e), eqb-true a.after j both.0, both.1)

  above-next : (k j : ℕ) (a : Arc) → Contains arcs a → a.after ≡ j → has_above arcs k a.before ≡ true → has_above arcs (suc k) j ≡ true
  above-next k j a (m, l, e) to h =
      list_any_at (λ a. a.after == j && has_above arcs k a.before)
      arcs m a l (ap (λ b. b.after == j && has_above arcs k b.before) e ∙ ap (λ b. b && has_above arcs k a.before) (eq-eqb a.after j to) ∙ h)

  above-fewer : (k j : ℕ) → has_above arcs (suc k) j ≡ true → has_above arcs k j ≡ true
  above-fewer zero j h = refl
  above-fewer (suc k) j h = let (a, c, to, more) = above-arc (suc k) j h in above-next k j a c to (above-fewer k a.before more)

  -- fewer are above the job before than above the job after
  pub under-before : (k j : ℕ) (a : Arc) → Contains arcs a → a.after ≡ j → has_above arcs (suc k) j ≡ false → has_above arcs k a.before ≡ false
  under-before k j a c to under = false_from_ne_true (has_above arcs k a.before) (λ yes. true≢false (sym (above-next k j a c to yes) ∙ under))

  pub under-more : (k j : ℕ) → has_above arcs k j ≡ false → has_above arcs (suc k) j ≡ false
  under-more k j under = false_from_ne_true (has_above arcs (suc k) j) (λ yes. true≢false (sym (above-fewer k j yes) ∙ under))

  pub above-place : (place : ℕ → ℕ) → All (λ a. place a.before < place a.after) arcs → (k j : ℕ) → has_above arcs k j ≡ true → k ≤ place j
  above-place place rises zero j h = omega arith
  above-place place rises (suc k) j h =
      let (a, c, to, more) = above-arc k j h in
      omega (arith, above-place place rises k a.before more, All-contains (λ a. place a.before < place a.after) arcs a rises c, ap place to)
