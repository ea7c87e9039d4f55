use Rattle.std.proofs.Common.{rules, arith, ◌-◌, decimal, nat_lt, []}
use Rattle.std.proofs.lemmas.Grind.{common_steps}
use Rattle.text_buffers.proofs.Builders.{these, three_adds, then_adds}
use Rattle.race_explanations.proofs.paths.push_links_left_out.Goals as goal

pub returns : goal.returns
returns c =
    then_adds _ _ (nat_lt 8 c.args.count) _ [] (first_of (search rules, grind (arith, common_steps)))
    (three_adds _ _ _ _ _ _ _ c.push_note_sign.ensures (these _ _ _ (decimal (c.args.count - 8)) c.push_number.ensures (search rules)) c.push_words.ensures)
