use Rattle.std.proofs.Common.{sym, ◌∙◌}
use Rattle.std.specs.Io.KnownBytes.{Appends}
use Rattle.command_streams.specs.Watched.{held, has_failed}
use Rattle.command_streams.specs.ElisionText.{memory_text, requests_line, elision_text}
use Rattle.command_streams.specs.Tellings.{telling}
use Rattle.command_streams.proofs.Buffering.{tells_given, tells_whole, tells_cut, tells_part, stops_by, holds_anyway}
use Rattle.tool_commands.proofs.elide.write_elision.Goals as goal

pub returns-then-failed-clause-fault : goal.returns-then-failed-clause-fault
returns-then-failed-clause-fault g c =
    tells_part (telling (g.W.Write.contents (held c.args.output.now)) (has_failed c.args.output.now) c.args.lines.text)
    (telling (g.W.Write.contents (held c.write_out.new.output)) (has_failed c.write_out.new.output) c.write_out.new.self.text)
    (elision_text c.args.mems.now c.args.values.now c.args.requests) c.requires.none
    (tells_given (telling (g.W.Write.contents (held c.args.output.now)) (has_failed c.args.output.now) c.args.lines.text)
    (telling (g.W.Write.contents (held c.tell_memory.new.output)) (has_failed c.tell_memory.new.output) c.tell_memory.new.lines.text)
    (telling (g.W.Write.contents (held c.tell_requests.new.output)) (has_failed c.tell_requests.new.output) c.tell_requests.new.self.text)
    (telling (g.W.Write.contents (held c.write_out.new.output)) (has_failed c.write_out.new.output) c.write_out.new.self.text)
    (memory_text c.args.mems.now c.args.values.now) (requests_line c.args.requests) c.tell_memory.ensures c.tell_requests.ensures c.write_out.ensures.told)

pub returns-clause-ok : goal.returns-clause-ok
returns-clause-ok g c =
    holds_anyway c.deliver.result (Appends (g.W.Write.contents (held c.args.output.now)) (g.W.Write.contents (held c.deliver.new.output))
    (elision_text c.args.mems.now c.args.values.now c.args.requests))
    (tells_whole (telling (g.W.Write.contents (held c.args.output.now)) (has_failed c.args.output.now) c.args.lines.text)
    (telling (g.W.Write.contents (held c.write_out.new.output)) (has_failed c.write_out.new.output) c.write_out.new.self.text)
    (g.W.Write.contents (held c.deliver.new.output)) (elision_text c.args.mems.now c.args.values.now c.args.requests)
    c.requires.none (sym c.failed.ensures ∙ c.if-failed.false) c.write_out.ensures.none c.deliver.ensures.bytes
    (tells_given (telling (g.W.Write.contents (held c.args.output.now)) (has_failed c.args.output.now) c.args.lines.text)
    (telling (g.W.Write.contents (held c.tell_memory.new.output)) (has_failed c.tell_memory.new.output) c.tell_memory.new.lines.text)
    (telling (g.W.Write.contents (held c.tell_requests.new.output)) (has_failed c.tell_requests.new.output) c.tell_requests.new.self.text)
    (telling (g.W.Write.contents (held c.write_out.new.output)) (has_failed c.write_out.new.output) c.write_out.new.self.text)
    (memory_text c.args.mems.now c.args.values.now) (requests_line c.args.requests) c.tell_memory.ensures c.tell_requests.ensures c.write_out.ensures.told))

pub returns-clause-fault : goal.returns-clause-fault
returns-clause-fault g c =
    stops_by c.deliver.result (g.W.Write.contents (held c.args.output.now)) (g.W.Write.contents (held c.deliver.new.output))
    (elision_text c.args.mems.now c.args.values.now c.args.requests) c.deliver.ensures.fault
    (tells_cut (telling (g.W.Write.contents (held c.args.output.now)) (has_failed c.args.output.now) c.args.lines.text)
    (telling (g.W.Write.contents (held c.write_out.new.output)) (has_failed c.write_out.new.output) c.write_out.new.self.text)
    (g.W.Write.contents (held c.deliver.new.output)) (elision_text c.args.mems.now c.args.values.now c.args.requests)
    c.requires.none c.deliver.ensures.bytes
    (tells_given (telling (g.W.Write.contents (held c.args.output.now)) (has_failed c.args.output.now) c.args.lines.text)
    (telling (g.W.Write.contents (held c.tell_memory.new.output)) (has_failed c.tell_memory.new.output) c.tell_memory.new.lines.text)
    (telling (g.W.Write.contents (held c.tell_requests.new.output)) (has_failed c.tell_requests.new.output) c.tell_requests.new.self.text)
    (telling (g.W.Write.contents (held c.write_out.new.output)) (has_failed c.write_out.new.output) c.write_out.new.self.text)
    (memory_text c.args.mems.now c.args.values.now) (requests_line c.args.requests) c.tell_memory.ensures c.tell_requests.ensures c.write_out.ensures.told))
