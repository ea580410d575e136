-- The law of last ends, of a list of jobs, some of which have limits by which they end.
use Rattle.std.proofs.Common.{◌≡◌, ◌≢◌, ℕ, ◌+◌, ◌*◌, ◌-◌, ◌<◌, ◌≤◌, List, ◌++◌, length, All, AllPairs, nat_abs, sum_by, ap, arith}
use Rattle.std.proofs.lemmas.List.Sums.{sum_by-append}
use Rattle.msp_class.specs.declared.environments.EnvKind.TheVariants.{Identical}
use Rattle.msp_class.specs.Env.{kind_of}
use Rattle.msp_class.proofs.Sums.{sum_by-none, sum_by-mono, sum_by-same, sum_by-add, sum_by-constant}
use Rattle.msp_instance.specs.declared.Instance.{Instance}
use Rattle.msp_pieces.specs.declared.Schedule.{Schedule}
use Rattle.msp_pieces.specs.Feasible.{Feasible}
use Rattle.msp_pieces.specs.BackToBack.{time_at}
use Rattle.msp_pieces.proofs.bounds.LastEnds.{law_of_last_ends}
use Rattle.msp_pieces.proofs.bounds.Room.{end_at, room_in_list}

module _ (i : Instance) (kind : kind_of i.class.env ≡ Identical) (t : Schedule) (f : Feasible i t) where
  abbrev n : ℕ
  n = length i.jobs

  abbrev unit : ℕ
  unit = nat_abs t.unit

  pub room_for : (xs : List ℕ) → All (λ x. x < n) xs → AllPairs (λ a b. a ≢ b) xs → (moment : ℕ) → unit * sum_by (time_at i) xs ≤ i.machines * moment + sum_by (λ j. end_at t j - moment) xs
  room_for = room_in_list i t f (time_at i) (λ test moment. law_of_last_ends.machines i t test moment kind f)

  -- where each job ends by its limit, and as many as there are machines have limits from the moment on, the others up to it
  pub room_by_limits : (limit : ℕ → ℕ) (last others : List ℕ) (moment : ℕ) → length last ≡ i.machines → All (λ x. x < n) (last ++ others) → AllPairs (λ a b. a ≢ b) (last ++ others)
      → All (λ x. (end_at t x ≤ limit x) × (moment ≤ limit x)) last → All (λ x. end_at t x ≤ moment) others → unit * sum_by (time_at i) (last ++ others) ≤ sum_by limit last
  room_by_limits limit last others moment many within distinct late early = omega (
    arith,
    room_for (last ++ others) within distinct moment,
    sum_by-append (λ j. end_at t j - moment) last others,
    sum_by-none (λ j. end_at t j - moment) others (λ k d l. omega (arith, early k d l)),
    sum_by-mono (λ j. end_at t j - moment) (λ j. limit j - moment) last (λ k d l. omega (arith, (late k d l).0)),
    sum_by-same (λ j. moment + (limit j - moment)) limit last (λ k d l. omega (arith, (late k d l).1)),
    sum_by-add (λ _. moment) (λ j. limit j - moment) last,
    sum_by-constant moment last,
    ap (λ x. x * moment) many,
  )
