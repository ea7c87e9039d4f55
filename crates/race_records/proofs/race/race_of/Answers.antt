use Rattle.std.proofs.Common.{Some, ap, ◌∙◌}
use Rattle.race_explanations.specs.Scenes.{setting_of}
use Rattle.race_records.specs.Accesses.{access_told}
use Rattle.race_records.proofs.race.race_of.Goals as goal

pub returns : goal.returns
returns c =
    let refused = c.in_ok-refused.ensures ∙
    ap (access_told (setting_of c.args.scene.now) c.args.pair.now.first (Some c.args.encounter.now.refused)) c.as_slice.ensures.value in
    λ t. record {
      reason = c.args.pair.now.lines.reason;
      spawn = c.args.pair.now.spawn;
      advice = c.in_ok-advice.ensures t;
      refused = refused t;
      witness = c.in_ok-witness.ensures t;
    }
