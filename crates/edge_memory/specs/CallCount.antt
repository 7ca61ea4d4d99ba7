use Rattle.edge_memory.specs.declared.calls.CallCount.{CallCount}
use Rattle.edge_memory.specs.Calls.{Calls}

abbrev pub calls_of : CallCount → Calls
calls_of count = record { made = count.made; fail = count.fail }
