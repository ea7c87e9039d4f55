use Rattle.std.proofs.Common.{rules, refl}
use Rattle.sarif_logs.specs.Related.{with_spawn}
use Rattle.sarif_logs.proofs.Relating.{spawn_told, none_told}
use Rattle.sarif_logs.proofs.related.push_spawn.Goals as goal

pub returns : goal.returns
returns c =
    spawn_told c.args.before.now c.args.first.now c.args.between.now c.args.second.now _ _ _ _ _ _ _ _ _ _ _ _ c.new-words.ensures c.push.ensures
    c.place_at.ensures c.push_place.ensures c.push-2.ensures c.place_at-2.ensures c.push_place-2.ensures c.place_at-3.ensures
    c.push_related.ensures (search rules)

pub returns-in_default : goal.returns-in_default
returns-in_default c =
    none_told (with_spawn c.args.before.now c.args.first.now c.args.between.now c.args.second.now) _ _ (λ related. refl) (search rules)
