use Rattle.std.proofs.Common.{rules, ◌++◌, codes, decimal}
use Rattle.trace_text.specs.Traces.{contents}
use Rattle.race_explanations.specs.Illegal.{request_line, strand_of}
use Rattle.text_buffers.proofs.Builders.{these, five_adds}
use Rattle.race_explanations.proofs.illegal.push_note.Goals as goal

pub returns : goal.returns
returns c =
    five_adds _ _ _ _ _ _ _ _ _ _ _ c.push_note_sign.ensures (these _ _ _ (codes "request " ++ decimal c.args.number) c.push_number.ensures (search rules))
    (these _ _ _ (codes ": strand " ++ decimal (strand_of (request_line (contents c.args.trace.now).lines c.args.number))) c.push_number-2.ensures (search rules))
    c.push_reason.ensures c.push_words.ensures
