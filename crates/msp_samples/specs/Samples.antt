-- The jobs and instances that stand for data.
use Rattle.std.specs.Prelude.{ℕ, pos, List, [], ◌∷◌, map, Option, Some, None}
use Rattle.msp_class.specs.declared.class.Class.{Class}
use Rattle.msp_instance.specs.declared.Need.{Need}
use Rattle.msp_instance.specs.declared.Step.{Step}
use Rattle.msp_instance.specs.declared.Job.{Job}
use Rattle.msp_instance.specs.declared.Arc.{Arc}
use Rattle.msp_instance.specs.declared.Instance.{Instance}
use Rattle.msp_instance.specs.Instance.{no_curve}
use Rattle.msp_samples.specs.declared.job_data.JobData.{JobData}

abbrev pub steps_of : Option Step → List Step
steps_of None = []
steps_of (Some step) = step ∷ []

abbrev pub job_of : JobData → Job
job_of d = record {
  release = d.release;
  due = d.due;
  weight = d.weight;
  needs = record { machine = 0; time = d.time } ∷ [];
  curve = record { slope = d.slope; base = d.base; steps = steps_of d.step };
}

-- weight 1, and neither dates nor a cost curve
abbrev pub plain_job : List Need → Job
plain_job needs = record { release = 0; due = pos 0; weight = 1; needs = needs; curve = no_curve }

abbrev pub arc_of : ℕ × ℕ → Arc
arc_of pair = record { before = pair.0; after = pair.1 }

-- jobs of one operation, with arcs and without speeds
abbrev pub instance_of : Class → ℕ → List JobData → List (ℕ × ℕ) → Instance
instance_of c machines all before = record { class = c; machines = machines; speeds = []; jobs = map job_of all; arcs = map arc_of before }

-- jobs with needs alone, with speeds and without arcs
abbrev pub plain_instance : Class → ℕ → List ℕ → List (List Need) → Instance
plain_instance c machines speeds all = record { class = c; machines = machines; speeds = speeds; jobs = map plain_job all; arcs = [] }
