use Rattle.std.proofs.Common.{◌≡◌, List, [], ◌∷◌, ap₂, refl, subst}
use Rattle.std.proofs.lemmas.Result.{IfOk-weaker}
use Rattle.clap.specs.Words.{Shape}
use Rattle.command_words.specs.Commands.{IsCommand, IsPart, cilkcheck, program, judge, elide, run, explain, replay, draw}
use Rattle.command_words.specs.Usages.{AreEach}
use Rattle.command_words.proofs.Building.{commands_added}
use Rattle.command_words.proofs.commands.commands.Goals as goal

both : {first second : Shape} {some others : List Shape} → first ≡ second → some ≡ others → first ∷ some ≡ second ∷ others
both is are = ap₂ (λ (shape : Shape) (shapes : List Shape). shape ∷ shapes) is are

pub returns : goal.returns
returns c =
    let shapes : List Shape = judge ∷ elide ∷ run ∷ explain ∷ replay ∷ draw ∷ [] in
    let each : AreEach IsPart shapes c.in_ok-parts.parts.items =
    subst (λ (some : List Shape). AreEach IsPart some c.in_ok-parts.parts.items)
    (both c.judge.ensures (both c.elide.ensures (both c.run.ensures (both c.explain.ensures (both c.replay.ensures (both {some = []} {others = []} c.draw.ensures refl))))))
    c.in_ok-parts.ensures in
    IfOk-weaker c.subcommands.result _ (IsCommand cilkcheck)
    (λ made adds. commands_added program shapes c.in_ok-parts.parts.items _ made c.in_ok-program.ensures each adds) c.subcommands.ensures
