use Rattle.std.proofs.Common.{rules, arith, sym, ap, subst, ◌∙◌, ◌++◌}
use Rattle.std.proofs.lemmas.Grind.{common_steps}
use Rattle.race_pairs.specs.Digests.{IsDigest, most_of}
use Rattle.race_explanations.specs.Scenes.{setting_of}
use Rattle.race_explanations.specs.Findings.{found_of, untold_in}
use Rattle.race_explanations.proofs.TraceAdding.{trace_found}
use Rattle.race_explanations.proofs.findings.Findings.add.Goals as goal

pub returns : goal.returns
returns c = λ entries is.
    trace_found c.args.extent _ c.args.file.now (setting_of c.trace_scene-scene.result) _ entries c.args.digest.now (found_of c.args.self.now) _ _ _ _ _ c.in_ok-count.count
    (c.trace_scene-scene.ensures.scene entries is) is (ap most_of c.trace_scene-scene.ensures.digest ∙ c.requires.most)
    (c.in_ok-count.ensures entries (subst (IsDigest entries) (sym c.trace_scene-scene.ensures.digest) is))
    (c.in_ok-push_untold.ensures ∙ ap (λ most. c.args.self.now.untold.items ++ untold_in c.args.file.now most c.in_ok-count.count) c.most_pairs.ensures)
    (search rules) (first_of (search rules, grind (arith, common_steps))) (first_of (search rules, grind (arith, common_steps)))
