use Rattle.std.proofs.Common.{length, map, sym, ap, subst, ◌∙◌}
use Rattle.std.specs.List.{All}
use Rattle.race_pairs.specs.declared.race.Race.{Race}
use Rattle.race_pairs.specs.Kept.{IsRace}
use Rattle.race_pairs.specs.Digests.{most_of}
use Rattle.race_pairs.proofs.Knowing.{knows_count}
use Rattle.race_pairs.proofs.Digesting.{races_now}
use Rattle.race_explanations.specs.Scenes.{setting_of}
use Rattle.race_explanations.specs.Findings.{numbered_trace}
use Rattle.race_explanations.proofs.Merging.{pairs_added}
use Rattle.race_explanations.proofs.finding.add_pairs.Goals as goal

pub add_all-requires-clause-races : goal.add_all-requires-clause-races
add_all-requires-clause-races c =
    let entries = c.requires.digest.0 in (
      entries,
      (c.requires.digest.1, subst (All (IsRace entries (length entries))) (sym c.races.ensures) (races_now entries c.args.scene.now.digest.now c.requires.digest.1).are.each),
    )

pub returns : goal.returns
returns c = λ entries d.
    let kept = races_now entries c.args.scene.now.digest.now d in
    let r = kept.are in
    pairs_added (numbered_trace (setting_of c.args.scene.now) c.args.trace entries) (most_of c.args.scene.now.digest.now) kept.pairs
    (map (λ (race : Race). race.pair) c.races.result.now) _ _ _ r.are_pairs
    (ap (map (λ (race : Race). race.pair)) c.races.ensures ∙ r.first) (c.pair_count.ensures ∙ knows_count c.args.scene.now.digest.now.races.known kept.pairs kept.knows)
    (c.in_ok-add_all.ensures entries (d, subst (All (IsRace entries (length entries))) (sym c.races.ensures) r.each))
