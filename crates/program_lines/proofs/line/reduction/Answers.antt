use Rattle.std.proofs.Common.{[], ◌∷◌}
use Rattle.trace_text.specs.Lines as trace
use Rattle.program_lines.specs.declared.keyword.Keyword.TheVariants.{Reducer}
use Rattle.program_lines.specs.Places.{Common, FreshName, Plain}
use Rattle.program_lines.proofs.Outcomes.{two_words, said}
use Rattle.program_lines.proofs.line.reduction.Goals as goal

pub returns-in-Ok : goal.returns-in-Ok
returns-in-Ok g c =
    let scope = c.args.scope.now in
    λ at. said scope Reducer (c.args.name.now ∷ c.args.word.now ∷ []) _ tt
    (two_words scope FreshName (Common trace.MonoidWord) c.args.name.now c.args.word.now c.fresh_name.result c.monoid.result _ (λ name. Plain (trace.OfName name.now)) (λ monoid. Plain (trace.OfMonoid monoid))
    c.in-Ok.ensures c.fresh_name.ensures c.monoid.ensures)

pub returns-in-Err : goal.returns-in-Err
returns-in-Err g c =
    λ at. two_words c.args.scope.now FreshName (Common trace.MonoidWord) c.args.name.now c.args.word.now c.fresh_name.result c.monoid.result _ (λ name. Plain (trace.OfName name.now)) (λ monoid. Plain (trace.OfMonoid monoid))
    c.in-Err.ensures c.fresh_name.ensures c.monoid.ensures
