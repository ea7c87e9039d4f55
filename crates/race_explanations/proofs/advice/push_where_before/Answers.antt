use Rattle.std.proofs.Common.{codes, sym, ◌∙◌, if◌then◌else◌}
use Rattle.text_buffers.proofs.Builders.{two_adds, five_adds}
use Rattle.race_explanations.specs.Scenes.{setting_of}
use Rattle.race_explanations.specs.Names.{are_in_one_function}
use Rattle.race_explanations.specs.Advice.{between_words}
use Rattle.race_explanations.proofs.advice.push_where_before.Goals.{then-are_in_one_function, else-are_in_one_function}
use Rattle.race_explanations.proofs.advice.push_where_before.Goals as goal

pub returns : goal.returns
returns c =
    let origin = (setting_of c.args.scene.now).origin in
    let line = c.args.line in
    let onward = c.args.onward in
    two_adds c.args.text.now _ _ (if are_in_one_function origin line onward then codes " before " else between_words origin line onward) _
    (elim c.if-are_in_one_function.branch [
      | then-are_in_one_function w ↦ rw w.text-is (rw (sym c.are_in_one_function.ensures ∙ w.if-are_in_one_function.true) w.push_words.ensures)
      | else-are_in_one_function w ↦ rw w.text-is (rw (sym c.are_in_one_function.ensures ∙ w.if-are_in_one_function.false)
          (five_adds _ _ _ _ _ _ _ _ _ _ _ w.push_words-else-are_in_one_function.ensures w.push_line.ensures w.push_words-else-are_in_one_function-2.ensures
          w.push_doing.ensures w.push_words-else-are_in_one_function-3.ensures))
    ])
    c.push_line-2.ensures
