use Rattle.std.proofs.Common.{ap}
use Rattle.race_explanations.specs.Scenes.{setting_of}
use Rattle.race_explanations.specs.Paths.{shown_line}
use Rattle.text_buffers.proofs.Builders.{these, two_adds}
use Rattle.race_explanations.proofs.advice.push_spawn.Goals as goal

pub returns : goal.returns
returns c =
    two_adds _ _ _ _ _ c.push_between.ensures
    (these _ _ _ _ c.push_shown.ensures (ap (λ line. shown_line (setting_of c.args.scene.now) line 45) c.line_of-line.ensures))
