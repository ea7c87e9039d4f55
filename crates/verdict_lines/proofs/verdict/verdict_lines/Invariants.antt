use Rattle.std.proofs.Common.{◌≡◌, ◌++◌, drop}
use Rattle.std.specs.Prelude.{flat_map}
use Rattle.verdict_lines.specs.VerdictText.{line_of_reply}
use Rattle.verdict_lines.proofs.verdict.verdict_lines.Given as goal

-- the lines so far and those of the replies that are left are all lines
abbrev pub invariant-loop-reply : goal.invariant-loop-reply
invariant-loop-reply g l = l.text.items ++ flat_map line_of_reply (drop l.reply-index l.replies) ≡ flat_map line_of_reply l.replies
