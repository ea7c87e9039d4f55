use Rattle.std.proofs.Common.{[], ◌∷◌}
use Rattle.model_accesses.specs.Limits.{most_cells}
use Rattle.trace_text.specs.Lines as trace
use Rattle.program_lines.specs.declared.keyword.Keyword.TheVariants.{Mem}
use Rattle.program_lines.specs.Places.{Common, FreshName, Plain}
use Rattle.program_lines.specs.Grammar.{number_if_there}
use Rattle.program_lines.proofs.Outcomes.{reads, fits_common, said}
use Rattle.program_lines.proofs.line.memory.Goals as goal

pub returns-in-Ok : goal.returns-in-Ok
returns-in-Ok g c =
    let scope = c.args.scope.now in
    λ at. rw c.in-Some.ensures (said scope Mem (c.in-Some.name.now ∷ c.take.new.self) _ tt
    (reads scope FreshName [] (Common (trace.Number 1 most_cells) ∷ []) c.in-Some.name.now c.take.new.self c.fresh_name.result c.length.result _ (λ name. Plain (trace.OfName name.now)) number_if_there
    c.in-Ok.ensures c.fresh_name.ensures (fits_common scope (trace.Number 1 most_cells) c.take.new.self c.length.result (c.length.ensures scope.known))))

pub returns-in-Err : goal.returns-in-Err
returns-in-Err g c =
    let scope = c.args.scope.now in
    λ at. rw c.in-Some.ensures
    (reads scope FreshName [] (Common (trace.Number 1 most_cells) ∷ []) c.in-Some.name.now c.take.new.self c.fresh_name.result c.length.result _ (λ name. Plain (trace.OfName name.now)) number_if_there
    c.in-Err.ensures c.fresh_name.ensures (fits_common scope (trace.Number 1 most_cells) c.take.new.self c.length.result (c.length.ensures scope.known)))
