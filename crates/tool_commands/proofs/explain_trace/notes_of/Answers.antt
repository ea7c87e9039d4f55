use Rattle.std.proofs.Common.{rules, []}
use Rattle.tool_commands.proofs.Unnoted.{no_notes}
use Rattle.tool_commands.proofs.explain_trace.notes_of.Goals as goal

pub returns-then-is_none : goal.returns-then-is_none
returns-then-is_none c = no_notes c.args.text.now c.new-notes.result c.memchr.result c.memchr.ensures (search rules) c.new-notes.ensures

pub returns : goal.returns
returns c = c.in_ok-read.ensures [] c.new-notes.ensures
