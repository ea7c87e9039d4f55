use Rattle.std.proofs.Common.{◌≡◌, List, Some, None, ap, sym, ◌∙◌, set}
use Rattle.std.specs.Prelude.{Option, slice_get}
use Rattle.model_bodies.specs.declared.statement.Statement.{Statement}
use Rattle.text_words.proofs.Numbers.{copied_get}
use Rattle.program_text.specs.Drafts.{ended_at}
use Rattle.program_text.proofs.open_function.end_part.Goals as goal

pub returns-in-Some : goal.returns-in-Some
returns-in-Some g c =
    let body = c.args.body.now.items in
    let place = c.args.place in
    let lent = copied_get c.deref.result.now place c.get.result c.get.ensures.lookup in
    let found : slice_get body place ≡ Some c.in-Some.statement =
    ap (λ (b : List Statement). slice_get b place) (sym c.deref.ensures.value) ∙ (sym lent ∙ (sym c.copied.ensures ∙ c.in-Some.is)) in
    ap (λ (s : Statement). set body place s) c.ending.ensures ∙ ap (λ (o : Option Statement). ended_at o place c.args.to body) (sym found)

pub returns-in_default : goal.returns-in_default
returns-in_default g c =
    let body = c.args.body.now.items in
    let place = c.args.place in
    let lent = copied_get c.deref.result.now place c.get.result c.get.ensures.lookup in
    let none : slice_get body place ≡ None =
    ap (λ (b : List Statement). slice_get b place) (sym c.deref.ensures.value) ∙ (sym lent ∙ (sym c.copied.ensures ∙ c.in_default.is)) in
    ap (λ (o : Option Statement). ended_at o place c.args.to body) (sym none)
