-- The law of last ends: up to any moment the machines have no more time together than there is, and behind it a job has none after its end.
use Rattle.std.specs.Prelude.{◌≡◌, ℕ, ◌+◌, ◌*◌, ◌-◌, ◌<◌, Bool, true, length, ℤ, pos, nat_abs, ◌*ℤ◌, ◌≤ℤ◌, All, sum_by, if◌then◌else◌}
use Rattle.std.specs.List.{range_with_len}
use Rattle.msp_class.specs.declared.environments.EnvKind.TheVariants.{Identical}
use Rattle.msp_class.specs.Env.{kind_of, is_shop}
use Rattle.msp_instance.specs.declared.Instance.{Instance}
use Rattle.msp_pieces.specs.declared.Schedule.{Schedule}
use Rattle.msp_pieces.specs.Feasible.{Feasible}
use Rattle.msp_pieces.specs.Cost.{end_of}
use Rattle.msp_pieces.specs.Laws.{time_together}
use Rattle.msp_pieces.specs.Loads.{job_length}

-- How long the jobs that pass a test are in shops, together.
abbrev pub length_together : Instance → (ℕ → Bool) → ℕ
length_together i test = sum_by (λ j. if test j then job_length i j else 0) (range_with_len 0 (length i.jobs))

-- How far after the moment the jobs that pass the test end, together: 0 for one that has ended by then.
abbrev pub ends_behind : Instance → Schedule → (ℕ → Bool) → ℕ → ℕ
ends_behind i s test moment = sum_by (λ j. if test j then nat_abs (end_of s j) - moment else 0) (range_with_len 0 (length i.jobs))

-- The time has its room: in all machines up to the moment, and behind it in the jobs that pass the test, each up to its end.
abbrev pub HasRoomAround : Instance → Schedule → (ℕ → Bool) → ℕ → ℕ → Type 0
HasRoomAround i s test moment time = (s.unit *ℤ pos time) ≤ℤ pos (i.machines * moment + ends_behind i s test moment)

-- Each operation is on a machine of the instance.
abbrev pub AreOnMachines : Instance → Type 0
AreOnMachines i = All (λ j. All (λ n. n.machine < i.machines) j.needs) i.jobs

-- The law of last ends: jobs, cut or not, have no more time than all machines up to a moment and, behind it, each job up to its end.
pub record LawOfLastEnds : Type 0 where
  -- on identical machines
  pub machines : (i : Instance) (s : Schedule) (test : ℕ → Bool) (moment : ℕ)
      → kind_of i.class.env ≡ Identical → Feasible i s → HasRoomAround i s test moment (time_together i test)
  -- in open, flow and job shops
  pub shops : (i : Instance) (s : Schedule) (test : ℕ → Bool) (moment : ℕ)
      → is_shop i.class.env ≡ true → AreOnMachines i → Feasible i s → HasRoomAround i s test moment (length_together i test)
