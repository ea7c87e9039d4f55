use Rattle.std.proofs.Common.{rules, arith, ap, sym, subst, ◌∙◌}
use Rattle.std.proofs.lemmas.Grind.{common_steps}
use Rattle.race_pairs.specs.Digests.{IsDigest, most_of}
use Rattle.race_explanations.specs.Scenes.{setting_of}
use Rattle.race_records.specs.SeveralViews.{recorded_of}
use Rattle.race_records.proofs.Keeping.{trace_added}
use Rattle.race_records.proofs.several.Records.add.Goals as goal

pub add_pairs-requires-clause-digest : goal.add_pairs-requires-clause-digest
add_pairs-requires-clause-digest c = (c.requires.digest.0, subst (IsDigest c.requires.digest.0) (sym c.trace_scene-scene.ensures.digest) c.requires.digest.1)

pub returns : goal.returns
returns c = λ entries is.
    trace_added c.args.extent _ c.args.file.now (setting_of c.trace_scene-scene.result) _ entries c.args.digest.now (recorded_of c.args.self.now) (recorded_of c.add_pairs.new.self) _ _
    (c.trace_scene-scene.ensures.scene entries is) is (ap most_of c.trace_scene-scene.ensures.digest ∙ c.requires.most) (c.in_ok-count.ensures entries (subst (IsDigest entries) (sym c.trace_scene-scene.ensures.digest) is))
    (search rules) (search rules) (first_of (search rules, grind (arith, common_steps)))
    (first_of (search rules, grind (arith, common_steps))) (first_of (search rules, grind (arith, common_steps)))
