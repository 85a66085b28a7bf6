-- What a source and a sink in memory tell.
use Rattle.std.specs.Prelude.{ℕ, ◌-◌, List, drop, vec_len, vec_capacity}
use Rattle.disk_fakes.specs.declared.mem_stream.MemSource.{MemSource}
use Rattle.disk_fakes.specs.declared.mem_stream.MemSink.{MemSink}
use Rattle.disk_fakes.specs.declared.safe_stream.SafeSource.{SafeSource}
use Rattle.disk_fakes.specs.declared.safe_stream.SafeSink.{SafeSink}

abbrev pub source_left : MemSource → List ℕ
source_left source = drop source.read source.bytes.items

abbrev pub source_faults : MemSource → ℕ
source_faults source = source.plan.faults

abbrev pub sink_taken : MemSink → List ℕ
sink_taken sink = sink.taken.items

abbrev pub sink_faults : MemSink → ℕ
sink_faults sink = sink.plan.faults

abbrev pub safe_left : SafeSource → List ℕ
safe_left source = drop source.read source.bytes.items

abbrev pub safe_taken : SafeSink → List ℕ
safe_taken sink = sink.taken.items

abbrev pub safe_faults : SafeSink → ℕ
safe_faults sink = sink.faults

-- how many bytes still fit
abbrev pub safe_room : SafeSink → ℕ
safe_room sink = vec_capacity sink.taken - vec_len sink.taken
