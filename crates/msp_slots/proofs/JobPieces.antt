-- Jobs with one piece each, by when and where they run, over the unit 1: the schedule is feasible and in bounds, and when its jobs end.
use Rattle.std.proofs.Common.{◌≡◌, ◌≢◌, ℕ, ◌<◌, ◌≤◌, ◌⊎◌, inl, inr, eqb, List, [], ◌∷◌, length, get_or, map, filter, fold, pos, ◌*ℤ◌, ◌≤ℤ◌, ◌<ℤ◌, All, Contains, refl, sym, ap, subst, subst₂, ◌∙◌, arith}
use Rattle.std.specs.Int.{int_max}
use Rattle.std.proofs.lemmas.Bool.{eqb-true}
use Rattle.std.proofs.lemmas.Int.{ints}
use Rattle.std.proofs.lemmas.List.Elements.{All-contains}
use Rattle.msp_class.specs.Env.{kind_of}
use Rattle.msp_class.proofs.IntegerRing.{pos-le, pos-lt, int_max-right, zero-le-pos}
use Rattle.msp_class.proofs.Sums.{OnceBelow, Contains-from_filter}
use Rattle.msp_instance.specs.declared.Instance.{Instance}
use Rattle.msp_instance.specs.Instance.{job_at}
use Rattle.msp_pieces.specs.declared.Piece.{Piece}
use Rattle.msp_pieces.specs.Piece.{IsApart, IsBefore}
use Rattle.msp_pieces.specs.Feasible.{Feasible, IsWholeWork}
use Rattle.msp_pieces.specs.Cost.{end_of}
use Rattle.msp_pieces.proofs.lists.OnceEach.{OnceBelow-one}
use Rattle.msp_pieces.proofs.feasible.OneEach.{early_end, IsUncut, AreOneEach, one_each_is_feasible}
use Rattle.msp_slots.proofs.PieceJobs.{job_inside, jobs_apart}

abbrev pub job_piece : (ℕ → ℕ) → (ℕ → ℕ) → (ℕ → ℕ) → ℕ → Piece
job_piece from to machine j = record { job = j; op = 0; machine = machine j; from = pos (from j); to = pos (to j) }

-- each job has the piece from one moment to another on a machine, and no two of them meet
pub record AreJobPieces (i : Instance) (from to machine : ℕ → ℕ) (pieces : List Piece) : Type 0 where
  pub jobs : OnceBelow (length i.jobs) (map (λ p. p.job) pieces)
  pub each : All (λ p. p ≡ job_piece from to machine p.job) pieces
  pub inside : (j : ℕ) → j < length i.jobs → machine j < i.machines
  pub lasts : (j : ℕ) → j < length i.jobs → from j < to j
  pub apart : (j k : ℕ) → j < length i.jobs → k < length i.jobs → j ≢ k → machine j ≡ machine k → (to j ≤ from k) ⊎ (to k ≤ from j)
  pub released : (j : ℕ) → j < length i.jobs → (job_at i j).release ≤ from j
  pub forward : All (λ a. to a.before ≤ from a.after) i.arcs
  pub whole : (j : ℕ) → j < length i.jobs → IsWholeWork (kind_of i.class.env) i (pos 1) (job_piece from to machine j)
  pub early : (j : ℕ) → j < length i.jobs → to j ≤ early_end

-- what the schedule of such pieces has
pub record RunsJobs (i : Instance) (to : ℕ → ℕ) (pieces : List Piece) : Type 0 where
  pub uncut : IsUncut i
  pub one_each : AreOneEach i 1 pieces
  pub feasible : Feasible i (record { unit = pos 1; pieces = pieces })
  pub ends : (j : ℕ) → j < length i.jobs → end_of (record { unit = pos 1; pieces = pieces }) j ≡ pos (to j)

module _ (i : Instance) (uncut : IsUncut i) (from to machine : ℕ → ℕ) (pieces : List Piece) (h : AreJobPieces i from to machine pieces) where
  abbrev n : ℕ
  n = length i.jobs

  all_pieces : (P : Piece → Type 0) → ((j : ℕ) → j < n → P (job_piece from to machine j)) → All P pieces
  all_pieces P f k d l = subst P (sym (h.each k d l)) (f (get_or pieces k d).job (job_inside pieces h.jobs k d l))

  abbrev Mine : Piece → Type 0
  Mine p = p ≡ job_piece from to machine p.job

  two_apart : (p q : Piece) → Mine p → Mine q → p.job < n → q.job < n → p.job ≢ q.job → p.machine ≡ q.machine → IsApart p q
  two_apart p q e f a b other m = subst₂ IsApart (sym e) (sym f) (elim (h.apart p.job q.job a b other (sym (ap (λ p. p.machine) e) ∙ m ∙ ap (λ p. p.machine) f)) [
    | inl before ↦ inl (pos-le before)
    | inr after ↦ inr (pos-le after)
  ])

  in_order : All (λ a. All (λ p. All (λ q. p.job ≡ a.before → q.job ≡ a.after → IsBefore p q) pieces) pieces) i.arcs
  in_order x c b k d l m g w e f = subst₂ IsBefore (sym (h.each k d l)) (sym (h.each m g w)) (pos-le (omega (arith, h.forward x c b, ap to e, ap from f)))

  one_each : AreOneEach i 1 pieces
  one_each = record {
    some = omega arith;
    jobs = h.jobs;
    ops = all_pieces (λ p. p.op ≡ 0) (λ j l. refl);
    inside = all_pieces (λ p. p.machine < i.machines) h.inside;
    span = all_pieces (λ p. (pos 0 ≤ℤ p.from) × (p.from <ℤ p.to)) (λ j l. (zero-le-pos (from j), pos-lt (h.lasts j l)));
    apart = λ a b d l k m.
        let la : a < length pieces = omega (arith, l, k) in
        two_apart (get_or pieces a d) (get_or pieces b d) (h.each a d la) (h.each b d k) (job_inside pieces h.jobs a d la) (job_inside pieces h.jobs b d k) (jobs_apart pieces h.jobs a b d l k) m;
    released = all_pieces (λ p. (pos 1 *ℤ pos (job_at i p.job).release) ≤ℤ p.from) (λ j l. omega (arith, ints, h.released j l));
    forward = in_order;
    whole = all_pieces (IsWholeWork (kind_of i.class.env) i (pos 1)) h.whole;
    ends = all_pieces (λ p. p.to ≤ℤ pos early_end) (λ j l. pos-le (h.early j l));
  }

  -- the one piece of a job
  mine : (j : ℕ) → j < n → filter (λ p. eqb p.job j) pieces ≡ job_piece from to machine j ∷ []
  mine j b =
      let (p, e) = OnceBelow-one (λ p. p.job) pieces h.jobs j b in
      let c : Contains (filter (λ p. eqb p.job j) pieces) p = subst (λ ps. Contains ps p) (sym e) (0, omega arith, refl) in
      let (inside, passes) = Contains-from_filter (λ p. eqb p.job j) pieces p c in
      e ∙ ap (λ q. q ∷ []) (All-contains Mine pieces p h.each inside ∙ ap (job_piece from to machine) (eqb-true p.job j passes))

  pub runs_jobs : RunsJobs i to pieces
  runs_jobs = record {
    uncut = uncut;
    one_each = one_each;
    feasible = one_each_is_feasible i uncut 1 pieces one_each;
    ends = λ j b. ap (λ ps. fold int_max (pos 0) (map (λ p. p.to) ps)) (mine j b) ∙ int_max-right (pos 0) (pos (to j)) (zero-le-pos (to j));
  }
