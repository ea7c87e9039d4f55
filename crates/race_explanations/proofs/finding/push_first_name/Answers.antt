use Rattle.std.proofs.Common.{rules}
use Rattle.race_explanations.specs.Scenes.{setting_of}
use Rattle.race_explanations.specs.Findings.{name_text}
use Rattle.text_buffers.proofs.Builders.{these}
use Rattle.race_explanations.proofs.finding.push_first_name.Goals as goal

pub returns : goal.returns
returns c = these _ _ _ (name_text (setting_of c.args.scene.now) c.args.reason c.args.places.now) c.push_list.ensures (search rules)
