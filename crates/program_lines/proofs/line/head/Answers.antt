use Rattle.std.proofs.Common.{[], ◌∷◌}
use Rattle.trace_text.specs.Lines as trace
use Rattle.program_lines.specs.declared.keyword.Keyword.TheVariants.{Func}
use Rattle.program_lines.specs.Places.{FreshName, ParameterName, Plain}
use Rattle.program_lines.proofs.Outcomes.{two_words, said}
use Rattle.program_lines.proofs.line.head.Goals as goal

pub returns-in-Ok : goal.returns-in-Ok
returns-in-Ok g c =
    let scope = c.args.scope.now in
    λ at. said scope Func (c.args.name.now ∷ c.args.word.now ∷ []) _ tt
    (two_words scope FreshName ParameterName c.args.name.now c.args.word.now c.fresh_name.result c.parameter.result _ (λ name. Plain (trace.OfName name.now)) (λ name. Plain (trace.OfName name.now))
    c.in-Ok.ensures c.fresh_name.ensures (c.parameter.ensures scope))

pub returns-in-Err : goal.returns-in-Err
returns-in-Err g c =
    let scope = c.args.scope.now in
    λ at. two_words scope FreshName ParameterName c.args.name.now c.args.word.now c.fresh_name.result c.parameter.result _ (λ name. Plain (trace.OfName name.now)) (λ name. Plain (trace.OfName name.now))
    c.in-Err.ensures c.fresh_name.ensures (c.parameter.ensures scope)
