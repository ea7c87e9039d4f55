use Rattle.std.proofs.Common.{sym, arith}
use Rattle.tool_commands.proofs.DigestStatuses.{digest_clean, digest_raced}
use Rattle.tool_commands.proofs.explain_trace.status_of.Goals as goal

pub returns-then-digest-gt0 : goal.returns-then-digest-gt0
returns-then-digest-gt0 c = λ entries is. sym (digest_raced entries c.args.digest.now is c.if-digest-gt0.true)

pub returns-else-digest-gt0 : goal.returns-else-digest-gt0
returns-else-digest-gt0 c = λ entries is.
    sym (digest_clean entries c.args.digest.now is (let none = c.if-digest-gt0.false in omega arith))
