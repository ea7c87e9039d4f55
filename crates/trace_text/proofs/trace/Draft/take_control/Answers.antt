use Rattle.std.proofs.Common.{◌≡◌, ◌++◌, ◌∙◌, ℕ, List, ap}
use Rattle.trace_text.specs.Lines.{spelling, asks}
use Rattle.trace_text.proofs.PlainRequests.{begins_control}
use Rattle.trace_text.proofs.trace.Draft.take_control.Goals as goal

pub returns : goal.returns
returns g c =
    let known = c.args.self.now.names in
    let text = c.args.text.now in
    let behind = c.in-Some.rest.now in
    let by = c.in-Some-strand in
    let split : text ≡ spelling (asks c.args.act) ++ behind =
    c.in-Some.ensures ∙ ap (λ (w : List ℕ). w ++ behind) (c.as_bytes.ensures.value ∙ (c.keyword_word.ensures ∙ ap spelling c.keyword_for.ensures)) in
    c.ask_plain.ensures text (begins_control known c.args.act by.strand text behind by.rest.now c.requires split (by.ensures known))
