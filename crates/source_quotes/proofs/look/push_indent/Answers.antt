use Rattle.std.proofs.Common.{rules, arith}
use Rattle.std.proofs.lemmas.Grind.{common_steps}
use Rattle.text_buffers.proofs.Builders.{these, two_adds, none_adds}
use Rattle.source_quotes.proofs.Indents.{indent_more}
use Rattle.source_quotes.proofs.look.push_indent.Goals as goal

pub loop-byte-init : goal.loop-byte-init
loop-byte-init c = none_adds c.args.text.now

pub loop-byte-preserved : goal.loop-byte-preserved
loop-byte-preserved c =
    these _ _ _ _ (two_adds _ _ _ _ _ c.loop-byte.invariant c.push_byte.ensures)
    (indent_more c.args.front.now c.loop-byte.byte-index 0 c.if-byte-eq9.push_byte c.loop-byte-test.true (first_of (search rules, grind (arith, common_steps))))
