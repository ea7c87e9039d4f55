use Rattle.std.proofs.Common.{◌≡◌, true}
use Rattle.tool_commands.proofs.RunStatuses.{status_clean, status_refused}
use Rattle.tool_commands.proofs.outcome.whole_status.Goals as goal

pub returns-then-whole : goal.returns-then-whole
returns-then-whole g c = status_clean c.args.whole.now.entries.items (c.requires.0 c.if-whole.true)

pub returns-else-whole : goal.returns-else-whole
returns-else-whole g c =
    status_refused c.args.whole.now.entries.items (λ clean. let is : c.args.whole.now.clean ≡ true = c.requires.1 clean in let not = c.if-whole.false in cc)
