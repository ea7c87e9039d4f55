use Rattle.std.proofs.Common.{rules, arith, drop, take, map, length, ◌-◌}
use Rattle.std.proofs.lemmas.Grind.{common_steps}
use Rattle.serde_json.specs.View.{view}
use Rattle.sarif_logs.proofs.Relating.{links_told}
use Rattle.sarif_logs.proofs.related.+push_links.Goals as goal

pub returns : goal.returns
returns t c =
    links_told c.args.which.now c.args.access.now _ _ _ _ _ _ _ _ (view c.link-item.result) (map view c.args.links.now)
    (map view (take (length c.args.links.now - 1) (drop 1 c.args.links.now)))
    c.new-words.ensures c.words_at.ensures c.push_three.ensures c.push.ensures c.place_at.ensures c.push_related.ensures c.push_links.ensures
    (first_of (search rules, grind (arith, common_steps)))
