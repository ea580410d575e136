-- What the readers of instance texts answer.
use Rattle.std.specs.Prelude.{◌≡◌, ℕ, ◌+◌, ◌==◌, List, ◌++◌, length, count_by, slice_get, Option, Some, None, Result, Ok, Err}
use Rattle.msp_text.specs.Bytes.{line_feed_byte}
use Rattle.msp_instance.specs.declared.Instance.{Instance}
use Rattle.msp_grammar.specs.InstanceText.{IsInstanceText}
use Rattle.msp_instance.specs.declared.membership.ClassFault.{ClassFault}
use Rattle.msp_instance.specs.declared.membership.ClassFault.TheVariants as class_fault
use Rattle.msp_instance.specs.Conditions.{MeetsConditions, text_limits}
use Rattle.msp_instance.specs.Faults.{IsFirstFault}
use Rattle.msp_instance.specs.Paths.{IsLeastOnCycle}
use Rattle.msp_grammar.specs.declared.lines.fault.FileFault.{FileFault}
use Rattle.msp_grammar.specs.declared.lines.fault.FileFault.TheVariants.{Class, Cycle, Memory, After}
use Rattle.msp_grammar.specs.declared.filed.Filed.{Filed}
use Rattle.msp_file.specs.instance.Reading.{Reads, ReadsFront}

-- The name of the job that a fault of the class names, if it names one.
abbrev pub faulty_name : List (List ℕ) → ClassFault → Option (List ℕ)
faulty_name names (class_fault.Need j) = slice_get names j
faulty_name names (class_fault.Unit j) = slice_get names j
faulty_name names (class_fault.Head j) = slice_get names j
faulty_name names (class_fault.Due j) = slice_get names j
faulty_name names (class_fault.Weight j) = slice_get names j
faulty_name names (class_fault.Curve j) = slice_get names j
faulty_name names (class_fault.Degree j) = slice_get names j
faulty_name names class_fault.Jobs = None
faulty_name names class_fault.Machines = None
faulty_name names class_fault.Speeds = None
faulty_name names class_fault.Multiple = None
faulty_name names class_fault.Arcs = None
faulty_name names (class_fault.Arc at) = None

-- What is read is an instance that breaks a condition of its class, this one first.
pub record IsClassFault (Reading : Result Filed FileFault → Type 0) (fault : ClassFault) (name : Option (List ℕ)) : Type 0 where
  pub filed : Filed
  pub reads : Reading (Ok filed)
  pub first : IsFirstFault filed.instance fault
  pub named : name ≡ faulty_name filed.names fault

-- What is read is an instance that meets the conditions of its class and has a cycle, on which this job is the least.
pub record IsCycleFault (Reading : Result Filed FileFault → Type 0) (job : ℕ) (name : List ℕ) : Type 0 where
  pub filed : Filed
  pub reads : Reading (Ok filed)
  pub conditions : MeetsConditions text_limits filed.instance
  pub least : IsLeastOnCycle (length filed.instance.jobs) filed.instance.arcs job
  pub named : slice_get filed.names job ≡ Some name

-- The fault is the first one of what is read. Out of memory says nothing.
abbrev pub IsFaultBy : (Result Filed FileFault → Type 0) → FileFault → Type 0
IsFaultBy Reading (Class fault name) = IsClassFault Reading fault name
IsFaultBy Reading (Cycle job name) = IsCycleFault Reading job name
IsFaultBy Reading Memory = Unit {0}
IsFaultBy Reading e = Reading (Err e)

-- The fault is the first one of the text.
abbrev pub IsFaultOf : List ℕ → FileFault → Type 0
IsFaultOf bytes e = IsFaultBy (Reads bytes) e

-- The fault is the first one of the instance text at the front.
abbrev pub IsFrontFaultOf : List ℕ → FileFault → Type 0
IsFrontFaultOf bytes e = IsFaultBy (ReadsFront bytes) e

-- Of the conditions of a class a text can break only these: that there is a job, and those of a job's needs and of the arcs at a job, which
-- come with the job's name. What can be read keeps all the others.
abbrev pub IsTextClassFault : ClassFault → Option (List ℕ) → Type 0
IsTextClassFault class_fault.Jobs None = Unit {0}
IsTextClassFault (class_fault.Need j) (Some name) = Unit {0}
IsTextClassFault (class_fault.Degree j) (Some name) = Unit {0}
IsTextClassFault _ _ = ⊥

-- If the fault is a broken condition of a class, it is one that a text can break.
abbrev pub IsTextFault : FileFault → Type 0
IsTextFault (Class fault name) = IsTextClassFault fault name
IsTextFault _ = Unit {0}

-- What follows an instance text at the front is no fault.
abbrev pub IsFrontFault : FileFault → Type 0
IsFrontFault (After at) = ⊥
IsFrontFault e = IsTextFault e

-- Each text is read in one way, so its first fault is one.
abbrev pub ReadsOneWay : Type 0
ReadsOneWay = (bytes : List ℕ) (read other : Result Filed FileFault) → Reads bytes read → Reads bytes other → read ≡ other

-- An instance text stands at the front of the bytes: it has so many of them, and the line after it has this number.
pub record IsFrontText (bytes : List ℕ) (i : Instance) (names : List (List ℕ)) (used line : ℕ) : Type 0 where
  pub text : List ℕ
  pub rest : List ℕ
  pub whole : bytes ≡ text ++ rest
  pub is : IsInstanceText text i names
  pub long : used ≡ length text
  pub counted : line ≡ count_by (λ byte. byte == line_feed_byte) text + 1
