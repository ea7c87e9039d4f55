use Rattle.std.proofs.Common.{◌≡◌, ◌++◌, ◌∙◌, ℕ, List, ap, sym, subst}
use Rattle.model_accesses.specs.declared.request.Act.{Act}
use Rattle.model_accesses.specs.Table.{spelling}
use Rattle.trace_text.specs.Plain.{BeginsRequest}
use Rattle.trace_text.proofs.PlainRequests.{begins_access}
use Rattle.trace_text.proofs.trace.Draft.take_access.Goals as goal

pub returns : goal.returns
returns g c =
    let known = c.args.self.now.names in
    let text = c.args.text.now in
    let behind = c.in-Some.rest.now in
    let by = c.in-Some-strand in
    let of = c.in-Some-place in
    let with = c.in-Some-value_for in
    let split : text ≡ spelling c.args.kind ++ behind = c.in-Some.ensures ∙ ap (λ (w : List ℕ). w ++ behind) (c.as_bytes.ensures.value ∙ c.word.ensures) in
    c.ask_plain.ensures text
    (subst (λ (act : Act). BeginsRequest known text by.strand act with.rest.now) (sym c.act_of.ensures)
    (begins_access known by.strand of.place with.value text behind by.rest.now of.rest.now with.rest.now (by.ensures known) c.args.kind c.requires split
    of.ensures (with.ensures known)))
