use Rattle.std.proofs.Common.{codes}
use Rattle.sarif_logs.specs.Accesses.{AccessParts}
use Rattle.sarif_logs.specs.Related.{with_witness, with_parting, with_outstanding, with_links}
use Rattle.sarif_logs.proofs.Telling.{two_turns, turns_by, listed}
use Rattle.sarif_logs.proofs.related.related_list.Goals as goal

pub returns : goal.returns
returns c =
    let witness = turns_by with_witness _ _ _ _ c.object_at.ensures c.push_witness.ensures in
    let parting = turns_by with_parting _ _ _ _ c.object_at-2.ensures c.push_spawn.ensures in
    let outstanding = turns_by with_outstanding _ _ _ _ c.object_at-3.ensures c.push_spawn-2.ensures in
    let refused = turns_by (λ (access : AccessParts). with_links (codes "this ") access.word access.within) _ _ _ _
    c.access_at-refused.ensures c.push_links.ensures in
    let earlier = turns_by (λ (access : AccessParts). with_links (codes "the earlier ") access.word access.within) _ _ _ _
    c.access_at-witness.ensures c.push_links-2.ensures in
    listed _ _ _ c.finish.result c.new-related.ensures
    (two_turns _ _ _ _ _ (two_turns _ _ _ _ _ (two_turns _ _ _ _ _ (two_turns _ _ _ _ _ witness parting) outstanding) refused) earlier)
    c.finish.ensures
