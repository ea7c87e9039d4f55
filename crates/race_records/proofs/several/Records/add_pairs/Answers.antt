use Rattle.std.proofs.Common.{rules, length, map, sym, ap, subst, ◌∙◌}
use Rattle.std.specs.List.{All}
use Rattle.race_pairs.specs.declared.race.Race.{Race}
use Rattle.race_pairs.specs.Kept.{IsRace}
use Rattle.race_pairs.specs.Digests.{most_of}
use Rattle.race_pairs.proofs.Knowing.{knows_count}
use Rattle.race_pairs.proofs.Digesting.{races_now}
use Rattle.race_explanations.specs.Scenes.{setting_of}
use Rattle.race_records.specs.SeveralViews.{recorded_of}
use Rattle.race_records.proofs.Keeping.{pairs_added}
use Rattle.race_records.proofs.several.Records.add_pairs.Goals as goal

pub keep_all-requires-clause-found : goal.keep_all-requires-clause-found
keep_all-requires-clause-found c =
    let entries = c.requires.digest.0 in (
      entries,
      (c.requires.digest.1, subst (All (IsRace entries (length entries))) (sym c.races.ensures) (races_now entries c.args.scene.now.digest.now c.requires.digest.1).are.each),
    )

pub returns : goal.returns
returns c = λ entries d.
    let kept = races_now entries c.args.scene.now.digest.now d in
    let r = kept.are in
    pairs_added (setting_of c.args.scene.now) entries (most_of c.args.scene.now.digest.now) (recorded_of c.args.self.now) _ kept.pairs (map (λ (race : Race). race.pair) c.races.result.now) _ r.are_pairs
    (ap (map (λ (race : Race). race.pair)) c.races.ensures ∙ r.first) (c.pair_count.ensures ∙ knows_count c.args.scene.now.digest.now.races.known kept.pairs kept.knows)
    (c.in_ok-keep_all.ensures entries (d, subst (All (IsRace entries (length entries))) (sym c.races.ensures) r.each)) (search rules)
