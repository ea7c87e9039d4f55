use Rattle.std.proofs.lemmas.List.{replicate_more}
use Rattle.text_buffers.proofs.Builders.{these, two_adds, none_adds}
use Rattle.source_quotes.proofs.look.push_repeated.Goals as goal

pub loop-init : goal.loop-init
loop-init c = none_adds c.args.text.now

pub loop-preserved : goal.loop-preserved
loop-preserved c =
    these _ _ _ _ (two_adds _ _ _ _ _ c.loop.invariant c.push_byte.ensures) (replicate_more c.loop.counter c.args.byte)
