use Rattle.std.proofs.Common.{◌+◌, ◌++◌, arith, ap, ◌∙◌, sym, drop, map, get_or}
use Rattle.std.specs.Prelude.{string_bytes}
use Rattle.trace_text.specs.Printing.{known_of}
use Rattle.run_traces.specs.Texts.{line_of_request, requests_text}
use Rattle.run_traces.proofs.Printed.{line_fed, no_entry, drop_entry}
use Rattle.run_traces.proofs.trace.put_requests.Goals as goal

pub loop-entry-preserved : goal.loop-entry-preserved
loop-entry-preserved g c = λ version.
    let entries = c.args.entries.now in
    let i = c.loop-entry.entry-index in
    let known = known_of version c.args.mems.now c.args.reducers.now in
    line_fed known (line_of_request (get_or entries i no_entry).request) (map (λ entry. line_of_request entry.request) (drop (i + 1) entries))
    (string_bytes c.loop-entry.out) (string_bytes c.put_request.new.out) _ _
    (c.in_ok-put_request.ensures version) c.in_ok-push_str.ensures.bytes
    (ap (λ es. string_bytes c.loop-entry.out ++ requests_text known es) (sym (drop_entry entries i (omega arith))) ∙ c.loop-entry.invariant version)
