use Rattle.std.proofs.Common.{rules, false}
use Rattle.race_explanations.specs.Groups.{has_round}
use Rattle.text_buffers.proofs.Builders.{then_adds}
use Rattle.race_explanations.proofs.group.push_rounds_of.Goals as goal

pub returns-then-has_round : goal.returns-then-has_round
returns-then-has_round c = then_adds _ _ (has_round false c.args.courses.now) _ _ (search rules) c.push_rounds.ensures
