use Rattle.std.proofs.Common.{sym, ◌∙◌}
use Rattle.sarif_logs.proofs.Telling.{one_listed, none_listed}
use Rattle.sarif_logs.proofs.log.notes_value.Goals as goal

pub returns-then-is_at : goal.returns-then-is_at
returns-then-is_at c = rw (sym c.is_at.ensures ∙ c.if-is_at.true) (one_listed _ _ _ c.cut_note.ensures c.list_of_one.ensures)

pub returns-else-is_at : goal.returns-else-is_at
returns-else-is_at c = rw (sym c.is_at.ensures ∙ c.if-is_at.false) (none_listed _ c.finish.result c.new.ensures c.finish.ensures)
