use Rattle.std.proofs.Common.{rules, ◌++◌, map, ap, append-nil, arith}
use Rattle.std.proofs.lemmas.Grind.{common_steps}
use Rattle.serde_json.specs.View.{view}
use Rattle.sarif_logs.specs.Logs.{finding_result}
use Rattle.sarif_logs.proofs.Objects.{told_by}
use Rattle.sarif_logs.proofs.Telling.{turns_so, stays, item_more}
use Rattle.sarif_logs.proofs.Listing.{viewed_more}
use Rattle.sarif_logs.proofs.log.push_findings.Goals as goal

pub loop-told-init : goal.loop-told-init
loop-told-init c = stays _ _ (λ before. append-nil before)

pub loop-told-preserved : goal.loop-told-preserved
loop-told-preserved c =
    viewed_more (finding_result c.args.finding) c.args.all.now c.loop-told.told-index c.told-item.result _ _ _
    (first_of (search rules, grind (arith, common_steps))) c.loop-told.invariant
    (item_more _ _ _ _ (told_by _ (ap (λ value. finding_result c.args.finding (view value)) c.told-item.is) c.finding_result.ensures)
    c.push.ensures)

pub returns : goal.returns
returns c =
    turns_so _ _ _ _ (λ before. ap (λ some. before ++ map (finding_result c.args.finding) (map view some))
    (first_of (search rules, grind (arith, common_steps)))) c.loop-told.invariant
