-- What a trace holds.
use Rattle.trace_text.specs.declared.trace.Trace.{Trace}
use Rattle.text_words.specs.Values.{Contents}

abbrev pub contents : {A : Type 0} → Trace A → Contents
contents trace = record { known = record { version = trace.version; mems = trace.mems; reducers = trace.reducers }; lines = trace.lines }
