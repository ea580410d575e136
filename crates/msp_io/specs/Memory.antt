-- What the sources and the sink in memory are, as contracts see them.
use Rattle.std.specs.Prelude.{◌⊎◌, ℕ, ◌<◌, ◌≤◌, List, length, Contains, Some, None}
use Rattle.msp_io.specs.Faults.{one_more, in_64_bits}
use Rattle.msp_io.specs.Views.{SourceView, SinkView}

-- a source in memory that may fail
pub record SourceState : Type 0 where
  -- the bytes still to come
  pub bytes : List ℕ
  -- the most that one call gives
  pub step : ℕ
  -- the numbers of the calls that fail, counted from 1
  pub fails : List ℕ
  -- the number of the last call, 0 before the first
  pub calls : ℕ
  -- how many calls failed
  pub faults : ℕ

-- a source in memory that never fails
pub record SureState : Type 0 where
  -- the bytes still to come
  pub bytes : List ℕ
  -- the most that one call gives
  pub step : ℕ

-- a sink in memory
pub record SinkState : Type 0 where
  -- the bytes taken so far
  pub held : List ℕ
  -- the most bytes that it can hold
  pub room : ℕ
  -- the most that one call takes
  pub step : ℕ
  -- the numbers of the calls that fail, counted from 1
  pub fails : List ℕ
  -- the number of the last call, 0 before the first
  pub calls : ℕ
  -- how many calls failed
  pub faults : ℕ

-- the next call of a source is one of those that fail
abbrev pub FailsNext : List ℕ → ℕ → Type 0
FailsNext fails calls = Contains fails (one_more calls)

-- a sink refuses these bytes: the call is one of those that fail, or there are bytes and no room
abbrev pub Refuses : SinkState → List ℕ → Type 0
Refuses sink bytes = FailsNext sink.fails sink.calls ⊎ ((0 < length bytes) × (sink.room ≤ length sink.held))

-- What contracts see of them. None counts its bytes, since each tells them.
abbrev pub source_view : SourceState → SourceView
source_view source = record { left = Some source.bytes; given = None; faults = in_64_bits source.faults }

abbrev pub sure_view : SureState → SourceView
sure_view source = record { left = Some source.bytes; given = None; faults = 0 }

abbrev pub sink_view : SinkState → SinkView
sink_view sink = record { held = Some sink.held; taken = None; faults = in_64_bits sink.faults }

-- A sink that tells nothing of the bytes that it takes, and never fails.
abbrev pub sure_sink_view : SinkView
sure_sink_view = record { held = None; taken = None; faults = 0 }
