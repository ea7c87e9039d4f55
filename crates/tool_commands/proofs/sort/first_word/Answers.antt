use Rattle.std.proofs.Common.{sym, ap, ◌∙◌}
use Rattle.std.specs.Option.{option_map}
use Rattle.tool_commands.proofs.Sorted.{text_found, word_found}
use Rattle.tool_commands.proofs.sort.first_word.Goals as goal

pub returns-in-Some : goal.returns-in-Some
returns-in-Some c =
    text_found c.in-Some.word.now c.as_text.result c.as_text.ensures ∙
    word_found c.args.line.now _ (ap (option_map (λ piece. piece.now)) (sym c.in-Some.is) ∙ c.first_piece.ensures)

pub returns-in-None : goal.returns-in-None
returns-in-None c = word_found c.args.line.now _ (ap (option_map (λ piece. piece.now)) (sym c.in-None.is) ∙ c.first_piece.ensures)
