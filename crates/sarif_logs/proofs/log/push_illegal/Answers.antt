use Rattle.std.proofs.Common.{sym, ◌∙◌}
use Rattle.serde_json.specs.View.{view}
use Rattle.sarif_logs.proofs.Listing.{illegal_told, legal_told}
use Rattle.sarif_logs.proofs.log.push_illegal.Goals as goal

pub returns-then-is_at : goal.returns-then-is_at
returns-then-is_at c = illegal_told (view c.args.document.now) _ _ _ (sym c.is_at.ensures ∙ c.if-is_at.true) c.illegal_result.ensures c.push.ensures

pub returns-else-is_at : goal.returns-else-is_at
returns-else-is_at c = legal_told (view c.args.document.now) _ (sym c.is_at.ensures ∙ c.if-is_at.false)
