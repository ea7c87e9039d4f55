use Rattle.std.proofs.Common.{◌≡◌, map}
use Rattle.std.specs.List.{AllZip}
use Rattle.std.proofs.lemmas.Result.{IfOk-weaker}
use Rattle.serde_json.specs.View.{view}
use Rattle.race_records.proofs.Together.{copied}
use Rattle.race_records.proofs.several.copy_of.Goals as goal

pub returns : goal.returns
returns c =
    IfOk-weaker c.from_clones.result (λ copy. AllZip (λ v w. view w ≡ view v) c.args.values.now copy.items)
    (λ copy. map view copy.items ≡ map view c.args.values.now) (λ copy. copied c.args.values.now copy.items) c.from_clones.ensures.items
