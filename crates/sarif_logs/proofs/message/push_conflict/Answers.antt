use Rattle.std.proofs.Common.{sym, ap, ◌∙◌, codes}
use Rattle.text_buffers.proofs.Builders.{these}
use Rattle.sarif_logs.specs.Accesses.{AccessParts}
use Rattle.sarif_logs.specs.Messages.{between_words}
use Rattle.sarif_logs.proofs.message.push_conflict.Goals as goal

pub returns-then-is_at : goal.returns-then-is_at
returns-then-is_at c =
    rw (sym c.is_at.ensures ∙ c.if-is_at.true) (these _ _ _ _ c.push_between.ensures
    (ap (λ (witness : AccessParts). between_words (codes " may run before or after the ") witness (codes ".")) c.access_at-witness.ensures))

pub returns-then-is_at-2 : goal.returns-then-is_at-2
returns-then-is_at-2 c =
    rw (sym c.is_at.ensures ∙ c.if-is_at.false) (rw (sym c.is_at-else-is_at.ensures ∙ c.if-is_at-2.true) (these _ _ _ _ c.push_between-then-is_at-2.ensures
    (ap (λ (witness : AccessParts).
    between_words (codes " has other peers than the ") witness (codes ", so what it finds may depend on the schedule."))
    c.access_at-witness.ensures)))

pub returns-else-is_at-2 : goal.returns-else-is_at-2
returns-else-is_at-2 c = rw (sym c.is_at.ensures ∙ c.if-is_at.false) (rw (sym c.is_at-else-is_at.ensures ∙ c.if-is_at-2.false) c.push.ensures)
