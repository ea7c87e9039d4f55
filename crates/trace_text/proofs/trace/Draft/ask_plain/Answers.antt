use Rattle.std.proofs.Common.{subst}
use Rattle.trace_text.specs.Grammar.{Item}
use Rattle.trace_text.specs.Drafts.{so_far, AddsItem}
use Rattle.trace_text.proofs.PlainTaken.{plain_told}
use Rattle.trace_text.proofs.trace.Draft.ask_plain.Goals as goal

pub returns-in-Ok : goal.returns-in-Ok
returns-in-Ok g c text begins =
    let before = so_far c.args.self.now.names c.args.self.now.lines in
    let after = so_far c.ask.new.self.names c.ask.new.self.lines in
    let end = c.in-Some in
    plain_told c.args.at before after text end.rest.now c.args.strand c.args.act end.mark (begins end.mark end.rest.now (end.ensures before.known))
    (subst (λ (item : Item). AddsItem c.args.at before item after) c.request_on.ensures c.in-Ok.ensures.asked)
