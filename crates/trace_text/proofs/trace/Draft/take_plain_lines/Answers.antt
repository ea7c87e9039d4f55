use Rattle.std.proofs.Common.{sym, subst}
use Rattle.text_words.specs.Values.{Contents}
use Rattle.trace_text.specs.Pieces.{ReadsPlain}
use Rattle.trace_text.specs.Drafts.{so_far}
use Rattle.trace_text.proofs.PlainPieces.{reads_none, reads_more}
use Rattle.trace_text.proofs.trace.Draft.take_plain_lines.Goals as goal

pub loop-self-init : goal.loop-self-init
loop-self-init g c = reads_none _ _ _ c.requires

pub loop-self-preserved : goal.loop-self-preserved
loop-self-preserved g c = reads_more _ _ _ _ _ _ _ _ c.loop-self.invariant c.in-Some.ensures

pub returns-in-None : goal.returns-in-None
returns-in-None g c =
    let first = so_far c.args.self.now.names c.args.self.now.lines in
    subst (λ (after : Contents). ReadsPlain c.args.at first c.args.text.now c.loop-self.last c.loop-self.rest.now after) (sym c.in-None.ensures) c.loop-self.invariant
