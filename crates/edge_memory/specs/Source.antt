-- A source in memory, as contracts see it.
use Rattle.std.specs.Prelude.{Some}
use Rattle.edge_memory.specs.declared.source.MemSource.{MemSource}
use Rattle.edge_traits.specs.Source.{SourceView}
use Rattle.edge_memory.specs.Calls.{Calls}
use Rattle.edge_memory.specs.CallCount.{calls_of}

-- its name, its content and its faults
abbrev pub source_view : MemSource → SourceView
source_view source = record { name = source.name; told = Some source.content; faults = source.faults }

-- its reads
abbrev pub reads_of : MemSource → Calls
reads_of source = calls_of source.calls
