-- What a clause reads of the adapters of std's readers and writers.
use Rattle.std.specs.Prelude.{◌≡◌, ℕ, Bool, true, List, Option, Some}
use Rattle.msp_io.specs.Faults.{one_more}
use Rattle.msp_io.specs.Sinks.{Takes, TakesAndFails}
use Rattle.msp_io.specs.Sources.{Gives, GivesAll, GivesAndFails}
use Rattle.msp_io.specs.Views.{SourceView, SinkView}
use Rattle.msp_io.specs.declared.std_io.StdSource.{StdSource}
use Rattle.msp_io.specs.declared.std_io.StdSink.{StdSink}

-- the reader inside
abbrev pub source_inner : {R : Type 0} → StdSource R → R
source_inner source = source.inner

-- its last read met the end
abbrev pub source_at_end : {R : Type 0} → StdSource R → Bool
source_at_end source = source.at_end

-- its last read failed
abbrev pub source_failed : {R : Type 0} → StdSource R → Bool
source_failed source = source.failed

-- how many of its reads met the end, at rest at 2 ^ 64 - 1
abbrev pub source_ends : {R : Type 0} → StdSource R → ℕ
source_ends source = source.ends

-- how many bytes it gave, at rest at 2 ^ 64 - 1
abbrev pub source_given : {R : Type 0} → StdSource R → ℕ
source_given source = source.given

-- how many of its reads failed, at rest at 2 ^ 64 - 1
abbrev pub source_faults : {R : Type 0} → StdSource R → ℕ
source_faults source = source.faults

-- what contracts see of it: what the reader inside tells, and the two counts
abbrev pub source_view : {R : Type 0} → (R → Option (List ℕ)) → StdSource R → SourceView
source_view remaining source = record { left = remaining (source_inner source); given = Some (source_given source); faults = source_faults source }

-- it gave these bytes, and no read met the end or failed
pub record SourceGave {R : Type 0} (remaining : R → Option (List ℕ)) (before after : StdSource R) (bytes : List ℕ) : Type 0 where
  pub gives : Gives (source_view remaining before) (source_view remaining after) bytes
  pub ends : source_ends after ≡ source_ends before

-- it gave these bytes, and the last read, and no other, met the end
pub record SourceFinished {R : Type 0} (remaining : R → Option (List ℕ)) (before after : StdSource R) (bytes : List ℕ) : Type 0 where
  pub gives_all : GivesAll (source_view remaining before) (source_view remaining after) bytes
  pub last : source_at_end after ≡ true
  pub ends : source_ends after ≡ one_more (source_ends before)

-- it gave these bytes, none met the end, and the last read, and no other, failed
pub record SourceBroke {R : Type 0} (remaining : R → Option (List ℕ)) (before after : StdSource R) (bytes : List ℕ) : Type 0 where
  pub breaks : GivesAndFails (source_view remaining before) (source_view remaining after) bytes
  pub last : source_failed after ≡ true
  pub faults : source_faults after ≡ one_more (source_faults before)
  pub ends : source_ends after ≡ source_ends before

-- the writer inside
abbrev pub sink_inner : {W : Type 0} → StdSink W → W
sink_inner sink = sink.inner

-- its last write failed
abbrev pub sink_failed : {W : Type 0} → StdSink W → Bool
sink_failed sink = sink.failed

-- how many bytes it took, at rest at 2 ^ 64 - 1
abbrev pub sink_taken : {W : Type 0} → StdSink W → ℕ
sink_taken sink = sink.taken

-- how many of its writes failed, at rest at 2 ^ 64 - 1
abbrev pub sink_faults : {W : Type 0} → StdSink W → ℕ
sink_faults sink = sink.faults

-- what contracts see of it: what the writer inside tells, and the two counts
abbrev pub sink_view : {W : Type 0} → (W → Option (List ℕ)) → StdSink W → SinkView
sink_view contents sink = record { held = contents (sink_inner sink); taken = Some (sink_taken sink); faults = sink_faults sink }

-- it took these bytes, and no write failed
abbrev pub SinkTook : {W : Type 0} → (W → Option (List ℕ)) → StdSink W → StdSink W → List ℕ → Type 0
SinkTook contents before after bytes = Takes (sink_view contents before) (sink_view contents after) bytes

-- it took these bytes, and the last write, and no other, failed
pub record SinkBroke {W : Type 0} (contents : W → Option (List ℕ)) (before after : StdSink W) (bytes : List ℕ) : Type 0 where
  pub breaks : TakesAndFails (sink_view contents before) (sink_view contents after) bytes
  pub last : sink_failed after ≡ true
  pub faults : sink_faults after ≡ one_more (sink_faults before)
