use Rattle.std.proofs.Common.{ap}
use Rattle.race_explanations.specs.Scenes.{setting_of}
use Rattle.race_explanations.specs.Advice.{sync_note}
use Rattle.text_buffers.proofs.Builders.{these}
use Rattle.race_explanations.proofs.group.push_sync_of.Goals as goal

pub returns-in-Some : goal.returns-in-Some
returns-in-Some c =
    rw c.in-Some.is (these _ _ _ _ c.push_sync.ensures
    (ap (sync_note (setting_of c.args.scene.now) c.args.line c.in-Some.first.line) c.is_sure-is_sure.ensures))
