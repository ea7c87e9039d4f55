use Rattle.std.proofs.Common.{◌++◌, ◌∷◌, ap, ◌∙◌, List}
use Rattle.std.specs.Prelude.{string_bytes}
use Rattle.text_words.specs.declared.value.Mem.{Mem}
use Rattle.text_words.specs.declared.value.Reducer.{Reducer}
use Rattle.trace_text.specs.Printing.{known_of}
use Rattle.program_text.specs.Programs.{contents}
use Rattle.run_traces.specs.Traces.{known_in_trace}
use Rattle.run_traces.specs.Texts.{mems_text, reducers_text, requests_text}
use Rattle.run_traces.proofs.Printed.{text_is}
use Rattle.run_traces.proofs.trace.text_of.Goals as goal

pub returns : goal.returns
returns g c =
    let program = contents c.args.program.now in
    let printed = known_in_trace program.known in
    let version = program.known.version in
    let entries = c.args.entries.now in
    text_is program entries _ _ _ _ _ _ c.in_ok-out.ensures.ok
    (c.in_ok-put_word.ensures ∙ ap (λ word. string_bytes c.in_ok-out.out ++ 32 ∷ word) c.version_word.ensures) c.in_ok-push_str.ensures.bytes
    (c.in_ok-put_memories.ensures printed ∙ ap (λ (ms : List Mem). string_bytes c.push_str.new.self ++ mems_text printed ms) c.as_slice-mems.ensures)
    (c.in_ok-put_reducers.ensures printed ∙ ap (λ (rs : List Reducer). string_bytes c.put_memories.new.out ++ reducers_text printed rs) c.as_slice-reducers.ensures)
    (ap (λ v. v.items) c.into_bytes.ensures.value ∙ (c.in_ok-put_requests.ensures version
    ∙ (ap (λ (ms : List Mem). string_bytes c.put_reducers.new.out ++ requests_text (known_of version ms c.as_slice-reducers.result.now) entries) c.as_slice-mems.ensures
    ∙ ap (λ (rs : List Reducer). string_bytes c.put_reducers.new.out ++ requests_text (known_of version program.known.mems rs) entries) c.as_slice-reducers.ensures)))
