-- A sink in memory, as contracts see it.
use Rattle.std.specs.Prelude.{Bool, Some}
use Rattle.edge_memory.specs.declared.sink.MemSink.{MemSink}
use Rattle.edge_traits.specs.Sink.{SinkView}
use Rattle.edge_memory.specs.Calls.{Calls}
use Rattle.edge_memory.specs.CallCount.{calls_of}

-- what it has taken, and its faults
abbrev pub sink_view : MemSink → SinkView
sink_view sink = record { told = Some sink.taken.items; faults = sink.faults }

-- its writes
abbrev pub writes_of : MemSink → Calls
writes_of sink = calls_of sink.calls

-- a write has failed that wasn't told to
abbrev pub is_starved : MemSink → Bool
is_starved sink = sink.starved
