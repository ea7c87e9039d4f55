use Rattle.std.proofs.Common.{rules, ◌≡◌, map, ◌∙◌}
use Rattle.std.specs.Map.Iter.{deref}
use Rattle.std.proofs.lemmas.Map.Iter.{iter_end}
use Rattle.serde_json.specs.View.{view}
use Rattle.race_records.proofs.Named.{names_listed}
use Rattle.race_records.proofs.race.names_value.Goals as goal

pub returns : goal.returns
returns c =
    let all : map deref c.loop-name.yielded ≡ c.args.names.now.keys = search (rules, iter_end) in
    c.from.ensures ∙ names_listed (map view c.loop-name.values.items) c.loop-name.yielded c.args.names.now.keys all c.loop-name.invariant
