use Rattle.std.proofs.Common.{List, ◌≡◌, ◌++◌, length, map, take, ap, ap₂, subst, ◌∙◌}
use Rattle.std.proofs.lemmas.Result.{IfOk-weaker}
use Rattle.model_histories.specs.declared.answer.Entry.{Entry}
use Rattle.race_pairs.specs.declared.race.Pair.{Pair}
use Rattle.race_pairs.specs.declared.race.Race.{Race}
use Rattle.race_pairs.specs.Known.{known_count}
use Rattle.race_pairs.specs.Digests.{IsDigest}
use Rattle.race_pairs.specs.Groups.{AreGroups}
use Rattle.race_pairs.proofs.Knowing.{knows_count}
use Rattle.race_pairs.proofs.Digesting.{races_now}
use Rattle.race_explanations.specs.Scenes.{setting_of}
use Rattle.race_explanations.specs.Extents.{most_pairs, most_shown}
use Rattle.race_explanations.specs.Cases.{AreCases}
use Rattle.race_explanations.specs.Groups.{groups_text}
use Rattle.race_explanations.specs.Explained.{pairs_left_out, summary, TellsEntries}
use Rattle.race_explanations.proofs.explanations.explain_entries.Goals as goal

pub returns : goal.returns
returns c =
    let setting = setting_of c.args.scene.now in
    let digest = c.args.scene.now.digest.now in
    let extent = c.args.extent in
    let cases = c.in_ok-cases.cases.items in
    let groups = c.in_ok-groups.groups.items in
    IfOk-weaker c.tell_entries.result _ (λ told. (entries : List Entry) → IsDigest entries digest → TellsEntries setting extent entries told.items)
    (λ told is entries d.
    let kept = races_now entries digest d in
    let r = kept.are in
    let first : map (λ (race : Race). race.pair) digest.races.list.items ≡ take (most_pairs extent) kept.pairs =
    r.first ∙ ap (λ most. take most kept.pairs) c.requires.most in
    let counted : known_count digest.races.known ≡ length kept.pairs = knows_count digest.races.known kept.pairs kept.knows in
    record {
      pairs = kept.pairs;
      are_pairs = r.are_pairs;
      races = digest.races.list.items;
      are_kept = first;
      cases = cases;
      are_cases = subst (λ (some : List Pair). AreCases entries some cases) first (c.in_ok-cases.ensures entries d);
      groups = groups;
      are_groups = subst (λ (some : List Race). AreGroups some groups) c.races.ensures c.in_ok-groups.ensures;
      text_is = is entries d ∙
          ap₂ (λ some these. groups_text setting (most_shown extent) some these ++ pairs_left_out setting.origin (most_pairs extent) (known_count digest.races.known) ++
          summary setting.origin entries (known_count digest.races.known)) c.as_slice.ensures.value c.as_slice-2.ensures.value ∙
          ap (λ count. groups_text setting (most_shown extent) cases groups ++ pairs_left_out setting.origin (most_pairs extent) count ++
          summary setting.origin entries count) counted;
    })
    c.tell_entries.ensures
