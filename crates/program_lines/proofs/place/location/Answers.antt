use Rattle.std.proofs.Common.{lit<}
use Rattle.std.specs.Prelude.{None, Some}
use Rattle.std.proofs.lemmas.Str.Pattern.{split_parts, strip_suffix_char}
use Rattle.trace_text.proofs.CellWords.{IsSplit, no_bracket_by_index, no_element}
use Rattle.program_lines.proofs.LocationWords.{single_reads, element_reads, no_closing}
use Rattle.program_lines.proofs.place.location.Goals as goal

pub returns-in-None : goal.returns-in-None
returns-in-None g c =
    let none = split_parts 91 c.args.word.now None c.in-None.ensures.cases (lit< tt) in
    single_reads c.args.scope.now c.args.word.now c.single.result
    (λ name index shape. no_element c.args.word.now name index (no_bracket_by_index c.args.word.now none) shape.0) c.single.ensures

pub returns-in-Some-strip_suffix : goal.returns-in-Some-strip_suffix
returns-in-Some-strip_suffix g c =
    let parts = split_parts 91 c.args.word.now (Some (c.in-Some.name, c.in-Some.rest)) c.in-Some.ensures.cases (lit< tt) in
    let closing = strip_suffix_char 93 c.in-Some.rest.now (Some c.in-Some-strip_suffix.index) c.in-Some-strip_suffix.ensures.cases (lit< tt) in
    let split : IsSplit c.args.word.now c.in-Some.name.now c.in-Some.rest.now = record { whole = parts.0; front = no_bracket_by_index _ parts.1 } in
    element_reads c.args.scope.now c.args.word.now c.in-Some.name.now c.in-Some-strip_suffix.index.now (rw closing at split) c.element.result c.element.ensures

pub returns-in-None-strip_suffix : goal.returns-in-None-strip_suffix
returns-in-None-strip_suffix g c =
    let parts = split_parts 91 c.args.word.now (Some (c.in-Some.name, c.in-Some.rest)) c.in-Some.ensures.cases (lit< tt) in
    let open_end = strip_suffix_char 93 c.in-Some.rest.now None c.in-None-strip_suffix.ensures.cases (lit< tt) in
    no_closing c.args.scope.now c.args.word.now c.in-Some.name.now c.in-Some.rest.now (record { whole = parts.0; front = no_bracket_by_index _ parts.1 }) open_end
