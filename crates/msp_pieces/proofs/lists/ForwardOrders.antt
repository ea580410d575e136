-- An order of the jobs in which every arc goes forward: what holds at each place holds of each job, and arcs lead from earlier places to
-- later ones.
use Rattle.std.proofs.Common.{◌≡◌, ◌≢◌, ℕ, ◌<◌, inl, inr, List, length, get_or, set, All, AllPairs, sym, ◌∙◌, subst, arith}
use Rattle.std.proofs.lemmas.Bool.{cases_lt}
use Rattle.std.proofs.lemmas.List.{get_or_default, get_or-set_other}
use Rattle.std.proofs.lemmas.Option.{get_or_from_slice_get, slice_get_within}
use Rattle.msp_class.proofs.Sums.{OnceBelow-distinct}
use Rattle.msp_instance.specs.declared.Instance.{Instance}
use Rattle.msp_instance.specs.Conditions.{IsSequence, GoesForward}
use Rattle.msp_instance.proofs.CycleLemmas.{OnceBelow-from_sequence}

module _ (i : Instance) (order : List ℕ) (s : IsSequence i order) where
  apart : AllPairs (λ x y. x ≢ y) order
  apart = OnceBelow-distinct (OnceBelow-from_sequence i order s)

  pub at_inside : (k : ℕ) → k < length order → get_or order k 0 < length i.jobs
  at_inside k l = (OnceBelow-from_sequence i order s).within k 0 l

  same_place : (k p : ℕ) → k < length order → p < length order → get_or order k 0 ≡ get_or order p 0 → k ≡ p
  same_place k p l m e = elim (cases_lt k p) [
    | inl h ↦ absurd (apart k p 0 h m e)
    | inr h ↦ elim (cases_lt p k) [ inl g ↦ absurd (apart p k 0 g l (sym e)) | inr g ↦ omega (arith, g, h) ]
  ]

  pub each_at : (Q : ℕ → Type 0) → ((k : ℕ) → k < length order → Q (get_or order k 0)) → (j : ℕ) → j < length i.jobs → Q j
  each_at Q all j b = let (k, l, is) = s.each j b in subst Q (get_or_default order k 0 j l ∙ is) (all k l)

  -- a value for the job at one place leaves those of the others
  pub set_elsewhere : (xs : List ℕ) (p k value : ℕ) → p < length order → k < length order → k ≢ p → get_or (set xs (get_or order p 0) value) (get_or order k 0) 0 ≡ get_or xs (get_or order k 0) 0
  set_elsewhere xs p k value l m other = get_or-set_other xs (get_or order p 0) (get_or order k 0) value 0 (λ e. other (same_place k p m l e))

  module _ (forward : All (GoesForward order) i.arcs) where
    -- an arc into the job at a place comes from one at an earlier place
    pub comes_from : (k : ℕ) → k < length order → All (λ a. a.after ≡ get_or order k 0 → (p : ℕ) × (p < k) × (get_or order p 0 ≡ a.before)) i.arcs
    comes_from k l n d b e =
        let a = get_or i.arcs n d in
        let (p, q, less, x, y) = forward n d b in
        let is : q ≡ k = same_place q k (slice_get_within order q a.after y) l (get_or_from_slice_get order q a.after 0 y ∙ e) in
        (p, omega (arith, less, is), get_or_from_slice_get order p a.before 0 x)

    -- and an arc out of it leads to one at a later place
    pub leads_to : (k : ℕ) → k < length order → All (λ a. a.before ≡ get_or order k 0 → (q : ℕ) × (k < q) × (q < length order) × (get_or order q 0 ≡ a.after)) i.arcs
    leads_to k l n d b e =
        let a = get_or i.arcs n d in
        let (p, q, less, x, y) = forward n d b in
        let near : q < length order = slice_get_within order q a.after y in
        let is : p ≡ k = same_place p k (omega (arith, less, near)) l (get_or_from_slice_get order p a.before 0 x ∙ e) in
        (q, omega (arith, less, is), near, get_or_from_slice_get order q a.after 0 y)
