use Rattle.std.proofs.Common.{ap}
use Rattle.source_quotes.specs.declared.look.Paint.TheVariants.{Red}
use Rattle.source_quotes.specs.Quotes.{painted}
use Rattle.text_buffers.proofs.Builders.{these, three_adds}
use Rattle.race_explanations.proofs.title.push_kind.Goals as goal

pub returns : goal.returns
returns c =
    three_adds _ _ _ _ _ _ _ (these _ _ _ _ c.push_painted.ensures (ap (painted c.args.scene.now.look Red) c.sort_word.ensures)) c.push_words.ensures
    c.push_reason.ensures
