use Rattle.std.proofs.Common.{ℕ, ◌++◌, codes, ap, ◌∙◌}
use Rattle.source_quotes.specs.Quotes.{place, marked}
use Rattle.race_explanations.specs.Illegal.{at_of, error_title}
use Rattle.text_buffers.proofs.Builders.{these, two_adds}
use Rattle.race_explanations.proofs.illegal.push_illegal.Goals as goal

pub returns : goal.returns
returns c =
    let look = c.args.look in
    let source = c.args.source.now in
    two_adds _ _ _ _ _
    (these _ _ _ _ c.push_head.ensures
    (ap (λ (line : ℕ). error_title look c.args.why ++ place look c.args.file.now line ++ marked look source line 94 ++ codes "\n")
    (c.at_of-line.ensures ∙ ap at_of c.request_line.ensures)))
    (two_adds _ _ _ _ _ c.push_note.ensures c.push_help.ensures)
