use Rattle.std.proofs.Common.{[], ◌∷◌}
use Rattle.std.specs.Prelude.{Ok, Err}
use Rattle.program_lines.specs.declared.keyword.Keyword.TheVariants.{If}
use Rattle.program_lines.specs.Places.{KnownRegister, OfRegister}
use Rattle.program_lines.proofs.Outcomes.{one_word, said}
use Rattle.program_lines.proofs.line.decision.Goals as goal

pub returns-in-Ok : goal.returns-in-Ok
returns-in-Ok g c =
    let scope = c.args.scope.now in
    λ at. rw c.in-Some.ensures (said scope If (c.in-Some.word.now ∷ []) _ tt (one_word scope KnownRegister [] c.in-Some.word.now (Ok c.in-Ok.register) OfRegister c.in-Ok.ensures))

pub returns-in-Err : goal.returns-in-Err
returns-in-Err g c = λ at. rw c.in-Some.ensures (one_word c.args.scope.now KnownRegister [] c.in-Some.word.now (Err c.in-Err.why) OfRegister c.in-Err.ensures)
