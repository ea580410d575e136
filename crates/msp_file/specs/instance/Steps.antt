-- What the functions that read the lines of jobs say. No public contract cites this file.
use Rattle.std.specs.Prelude.{◌≡◌, ℕ, Bool, List, length, slice_get, Some, Result, Ok, Err, bytes_eq, codes, if◌then◌else◌}
use Rattle.msp_grammar.specs.declared.lines.fault.FileFault.{FileFault}
use Rattle.msp_grammar.specs.declared.lines.fault.FileFault.TheVariants.{Class as ClassBroken, Cycle, Memory}
use Rattle.msp_grammar.specs.declared.filed.Filed.{Filed}
use Rattle.msp_instance.specs.Conditions.{MeetsConditions, text_limits}
use Rattle.msp_instance.specs.Faults.{IsFirstFault}
use Rattle.msp_instance.specs.Paths.{IsLeastOnCycle}
use Rattle.msp_file.specs.instance.Answers.{faulty_name}
use Rattle.msp_grammar.specs.lines.Answers.{Fails}
use Rattle.msp_file.specs.declared.instance.draft.Draft.{Draft}
use Rattle.msp_file.specs.declared.instance.draft.Next.{Next}
use Rattle.msp_file.specs.declared.instance.draft.Next.TheVariants.{Job, Arc, End}
use Rattle.msp_class.specs.declared.class.Class.{Class}
use Rattle.msp_grammar.specs.lines.Reading.{◌>>=◌, Place, LineRead, job_read, more_read, end_read, first_of, others_of}
use Rattle.msp_file.specs.instance.Reading.{job_step, job_at_line, arc_or_end}
use Rattle.msp_grammar.specs.Layout.{has_order}
use Rattle.msp_grammar.specs.lines.Steps.{AfterLine}

-- What a line was, by what is read there.
abbrev pub AfterNext : Result (LineRead Draft) FileFault → Result Next FileFault → Draft → Place → Type 0
AfterNext read (Ok Job) e q = read ≡ Ok (job_read e q)
AfterNext read (Ok Arc) e q = read ≡ Ok (more_read e q)
AfterNext read (Ok End) e q = read ≡ Ok (end_read e q)
AfterNext read (Err fault) e q = Fails fault read

abbrev pub AfterJob : Class → ℕ → ℕ → Result Next FileFault → Draft → Place → Draft → Place → Type 0
AfterJob c machines shared result d p e q = AfterNext (job_step c machines shared d p) result e q

-- What the fields of a line after the head or after a job say.
abbrev pub next_of : Class → ℕ → ℕ → ℕ → Draft → List (List ℕ) → Place → Result (LineRead Draft) FileFault
next_of class machines shared at draft fields place =
    if bytes_eq (first_of fields) (codes "job")
    then (job_at_line class machines shared draft at (others_of fields) place >>= λ more. Ok (job_read more.0 more.1))
    else arc_or_end (has_order class.order) at draft fields place

-- The same of an arc or the last line, wherever the lines after it begin.
abbrev pub AfterWords : Bool → ℕ → List (List ℕ) → Result Bool FileFault → Draft → Draft → Type 0
AfterWords may at fields result d e = (p : Place) → AfterLine (λ draft place. arc_or_end may at draft fields place) result d p e p

-- The fault is one of the instance that was read: the first broken condition of its class, or a cycle.
abbrev pub IsFaultOfFiled : Filed → FileFault → Type 0
IsFaultOfFiled filed (ClassBroken fault name) = IsFirstFault filed.instance fault × (name ≡ faulty_name filed.names fault)
IsFaultOfFiled filed (Cycle job name) = MeetsConditions text_limits filed.instance × IsLeastOnCycle (length filed.instance.jobs) filed.instance.arcs job × (slice_get filed.names job ≡ Some name)
IsFaultOfFiled filed Memory = Unit {0}
IsFaultOfFiled filed _ = ⊥
