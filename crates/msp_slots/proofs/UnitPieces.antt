-- Jobs of one unit of time, each with one piece: what makes the schedule feasible and keeps it in bounds, and when its jobs end.
use Rattle.std.proofs.Common.{◌≡◌, ◌≢◌, ℕ, ◌+◌, ◌<◌, ◌≤◌, ◌⊎◌, inl, inr, Bool, false, List, [], ◌∷◌, length, map, pos, All}
use Rattle.std.proofs.Common.{refl, sym, ap, subst, ◌∙◌, arith}
use Rattle.std.specs.List.{range_with_len}
use Rattle.std.proofs.lemmas.Bool.{cases_lt}
use Rattle.std.proofs.lemmas.Int.{ints}
use Rattle.std.proofs.lemmas.List.Elements.{All-nil, All-map}
use Rattle.msp_class.specs.declared.sizes.TheConstants.{MOST_JOBS}
use Rattle.msp_class.specs.declared.class.Env.{Env}
use Rattle.msp_class.specs.declared.class.Order.{Order}
use Rattle.msp_class.specs.declared.class.Times.TheVariants.{Unit as UnitTimes}
use Rattle.msp_class.specs.declared.class.Crit.{Crit}
use Rattle.msp_class.specs.declared.environments.EnvKind.TheVariants.{Identical}
use Rattle.msp_class.specs.Env.{kind_of}
use Rattle.msp_class.proofs.Sums.{OnceBelow, OnceBelow-range}
use Rattle.msp_instance.specs.declared.Arc.{Arc}
use Rattle.msp_instance.specs.declared.Instance.{Instance}
use Rattle.msp_instance.specs.Instance.{no_job, no_need, job_at, need_at}
use Rattle.msp_instance.specs.Conditions.{HasShape}
use Rattle.msp_pieces.specs.declared.Piece.{Piece}
use Rattle.msp_pieces.specs.Feasible.{IsWholeWork}
use Rattle.msp_pieces.specs.Within.{Within}
use Rattle.msp_pieces.proofs.feasible.OfClass.{IsOfClass}
use Rattle.msp_pieces.proofs.feasible.OneEach.{early_end, IsUncut-identical, one_each_is_within}
use Rattle.msp_slots.specs.Pieces.{piece_at}
use Rattle.msp_slots.proofs.JobPieces.{RunsJobs, runs_jobs}

-- the instance has jobs of one unit of time on identical machines, which run whole
pub record HasUnitJobs (i : Instance) : Type 0 where
  pub kind : kind_of i.class.env ≡ Identical
  pub cut : i.class.cut ≡ false
  pub few : length i.jobs ≤ MOST_JOBS
  pub ones : (j : ℕ) → j < length i.jobs → (need_at i j 0).time ≡ 1

-- each job has the piece from `begin j` on, on `machine j`, and no two of them take one place
pub record AreUnitPieces (i : Instance) (begin machine : ℕ → ℕ) (pieces : List Piece) : Type 0 where
  pub jobs : OnceBelow (length i.jobs) (map (λ p. p.job) pieces)
  pub each : All (λ p. p ≡ piece_at (begin p.job) (machine p.job) p.job) pieces
  pub inside : (j : ℕ) → j < length i.jobs → machine j < i.machines
  pub apart : (j k : ℕ) → j < length i.jobs → k < length i.jobs → begin j ≡ begin k → machine j ≡ machine k → j ≡ k
  pub released : (j : ℕ) → j < length i.jobs → (job_at i j).release ≤ begin j
  pub forward : All (λ a. begin a.before < begin a.after) i.arcs
  pub early : (j : ℕ) → j < length i.jobs → begin j < early_end

pub HasUnitJobs-from : (i : Instance) (e : Env) (o : Order) (h : Bool) (k : Crit)
    → kind_of e ≡ Identical → IsOfClass i (record { env = e; cut = false; order = o; heads = h; times = UnitTimes; crit = k }) → HasUnitJobs i
HasUnitJobs-from i e o h k kind t = record {
  kind = t.kind ∙ kind;
  cut = t.cut;
  few = t.few;
  ones = λ j l. let job = t.jobs j no_job l in job.times 0 no_need (omega (arith, (subst (λ k. HasShape k e i.machines (job_at i j).needs) kind job.needs.shape).0));
}

-- what the schedule of such pieces has
pub record IsInUnits (i : Instance) (begin : ℕ → ℕ) (pieces : List Piece) : Type 0 where
  pub runs : RunsJobs i (λ j. begin j + 1) pieces
  pub within : Within i (record { unit = pos 1; pieces = pieces })

pub in_units : (i : Instance) → HasUnitJobs i → (begin machine : ℕ → ℕ) (pieces : List Piece) → AreUnitPieces i begin machine pieces → IsInUnits i begin pieces
in_units i u begin machine pieces h = record { runs = runs; within = one_each_is_within i runs.uncut 1 pieces runs.one_each (omega arith) (λ _. omega (arith, ints)) }
  where
    next : (x y : ℕ) → x ≢ y → (x + 1 ≤ y) ⊎ (y + 1 ≤ x)
    next x y ne = elim (cases_lt x y) [ inl less ↦ inl (omega (arith, less)) | inr more ↦ inr (omega (arith, more, ne)) ]

    runs : RunsJobs i (λ j. begin j + 1) pieces
    runs = runs_jobs i (IsUncut-identical i u.kind u.cut u.few) begin (λ j. begin j + 1) machine pieces (record {
      jobs = h.jobs;
      each = h.each;
      inside = h.inside;
      lasts = λ j l. omega arith;
      apart = λ j k l m ne e. next (begin j) (begin k) (λ same. ne (h.apart j k l m same e));
      released = h.released;
      forward = λ k d l. omega (arith, h.forward k d l);
      whole = λ j l. subst (λ k. IsWholeWork k i (pos 1) (piece_at (begin j) (machine j) j)) (sym u.kind) (omega (arith, ints, u.ones j l));
      early = λ j l. omega (arith, h.early j l);
    })

-- ---- pieces by when and where the jobs begin
abbrev pub pieces_at : (ℕ → ℕ) → (ℕ → ℕ) → List ℕ → List Piece
pieces_at begin machine js = map (λ j. piece_at (begin j) (machine j) j) js

jobs_at : (begin machine : ℕ → ℕ) (js : List ℕ) → map (λ p. p.job) (pieces_at begin machine js) ≡ js
jobs_at begin machine [] = refl
jobs_at begin machine (j ∷ js) = ap (λ l. j ∷ l) (jobs_at begin machine js)

pub AreUnitPieces-from : (i : Instance) (begin machine : ℕ → ℕ) → i.arcs ≡ [] → ((j : ℕ) → j < length i.jobs → machine j < i.machines)
    → ((j k : ℕ) → j < length i.jobs → k < length i.jobs → begin j ≡ begin k → machine j ≡ machine k → j ≡ k)
    → ((j : ℕ) → j < length i.jobs → (job_at i j).release ≤ begin j) → ((j : ℕ) → j < length i.jobs → begin j < early_end)
    → AreUnitPieces i begin machine (pieces_at begin machine (range_with_len 0 (length i.jobs)))
AreUnitPieces-from i begin machine none inside apart released early = record {
  jobs = subst (OnceBelow (length i.jobs)) (sym (jobs_at begin machine (range_with_len 0 (length i.jobs)))) (OnceBelow-range (length i.jobs));
  each = All-map (λ p. p ≡ piece_at (begin p.job) (machine p.job) p.job) (λ j. piece_at (begin j) (machine j) j) (range_with_len 0 (length i.jobs)) (λ k d l. refl);
  inside = inside;
  apart = apart;
  released = released;
  forward = subst (All (λ a. begin a.before < begin a.after)) (sym none) (All-nil (λ (a : Arc). begin a.before < begin a.after));
  early = early;
}
