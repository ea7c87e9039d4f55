use Rattle.std.proofs.Common.{rules, tests, ◌∙◌}
use Rattle.std.proofs.lemmas.Iterator.Search.{find_from_yields_List}
use Rattle.std.proofs.lemmas.Iterator.Splits.{YieldsList-from_slice_split}
use Rattle.text_words.specs.Text.{is_blank, is_nonempty}
use Rattle.tool_commands.proofs.sort.first_piece.Goals as goal

pub returns : goal.returns
returns c =
    find_from_yields_List is_nonempty _ _ _ c.find.ensures.ran
    (YieldsList-from_slice_split _ is_blank _ (c.split.ensures.rest ∙ c.without_comment.ensures) c.split.ensures.done c.split.ensures.closure
    (λ x b q k. search (rules, tests)))
    (λ x b q k. search (rules, tests))
