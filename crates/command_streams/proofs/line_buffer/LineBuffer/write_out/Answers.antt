use Rattle.std.proofs.Common.{sym, ◌∙◌}
use Rattle.command_streams.proofs.Buffering.{tells_written, tells_failed}
use Rattle.command_streams.proofs.line_buffer.LineBuffer.write_out.Goals as goal
use Rattle.command_streams.proofs.line_buffer.LineBuffer.write_out.Goals.{then-not-failed+in-Err+in-Usage-1, then-not-failed+in-Err+in-Read-1, then-not-failed+in-Ok-1, else-not-failed}

pub returns-clause-told : goal.returns-clause-told
returns-clause-told g c =
    let written = tells_written g.W.Write.contents c.args.output.now c.if-not-failed.output c.args.self.now.text c.clear.new.self.text in
    elim c.if-not-failed.branch [
      | then-not-failed+in-Err+in-Usage-1 w ↦
          written w.write_bytes.new.output w.write_bytes.result w.as_slice.result.now w.output-is (sym c.failed.ensures ∙ w.if-not-failed.true)
          c.clear.ensures.none w.as_slice.ensures w.write_bytes.ensures.ok w.write_bytes.ensures.fault w.write_bytes.ensures.failed
      | then-not-failed+in-Err+in-Read-1 w ↦
          written w.write_bytes.new.output w.write_bytes.result w.as_slice.result.now w.output-is (sym c.failed.ensures ∙ w.if-not-failed.true)
          c.clear.ensures.none w.as_slice.ensures w.write_bytes.ensures.ok w.write_bytes.ensures.fault w.write_bytes.ensures.failed
      | then-not-failed+in-Ok-1 w ↦
          written w.write_bytes.new.output w.write_bytes.result w.as_slice.result.now w.output-is (sym c.failed.ensures ∙ w.if-not-failed.true)
          c.clear.ensures.none w.as_slice.ensures w.write_bytes.ensures.ok w.write_bytes.ensures.fault w.write_bytes.ensures.failed
      | else-not-failed w ↦
          tells_failed g.W.Write.contents c.args.output.now c.if-not-failed.output c.args.self.now.text c.clear.new.self.text w.output-is
          (sym c.failed.ensures ∙ w.if-not-failed.false)
    ]
