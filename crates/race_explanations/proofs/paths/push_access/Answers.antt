use Rattle.std.proofs.Common.{ap}
use Rattle.race_explanations.specs.Scenes.{setting_of}
use Rattle.race_explanations.specs.Paths.{shown_line, within}
use Rattle.text_buffers.proofs.Builders.{these, none_adds, four_adds}
use Rattle.race_explanations.proofs.paths.push_access.Goals as goal

pub returns-in-Program : goal.returns-in-Program
returns-in-Program c =
    four_adds _ _ _ _ _ _ _ _ _
    (these _ _ _ _ c.push_shown.ensures (ap (λ line. shown_line (setting_of c.args.scene.now) line c.args.mark) c.line_of-line.ensures)) c.push_words.ensures
    (these _ _ _ _ c.push_words-2.ensures c.side_word.ensures)
    (rw c.in-Program.is (rw c.in-Program.is at
    (these _ _ _ _ c.push_within.ensures (ap (within (setting_of c.args.scene.now).origin) c.line_of-line.ensures))))

pub returns-in-Trace : goal.returns-in-Trace
returns-in-Trace c =
    four_adds _ _ _ _ _ _ _ _ _
    (these _ _ _ _ c.push_shown.ensures (ap (λ line. shown_line (setting_of c.args.scene.now) line c.args.mark) c.line_of-line.ensures)) c.push_words.ensures
    (these _ _ _ _ c.push_words-2.ensures c.side_word.ensures) (rw c.in-Trace.is (none_adds _))
