use Rattle.std.proofs.Common.{List, ◌≡◌, ◌++◌, ◌∙◌, codes, Some, ap, ap₂}
use Rattle.std.proofs.lemmas.Result.{IfOk-weaker}
use Rattle.model_histories.specs.declared.answer.Entry.{Entry}
use Rattle.race_pairs.specs.Digests.{IsDigest}
use Rattle.race_pairs.specs.Known.{known_count}
use Rattle.race_explanations.specs.Scenes.{setting_of}
use Rattle.race_explanations.specs.Extents.{most_pairs, most_shown, more_pairs}
use Rattle.race_explanations.specs.Groups.{groups_text}
use Rattle.race_explanations.specs.Explained.{pairs_left_out, summary}
use Rattle.text_buffers.proofs.Builders.{these, three_adds}
use Rattle.text_buffers.proofs.Builders.{whole_text}
use Rattle.race_explanations.proofs.explanations.tell_entries.Goals as goal

pub returns : goal.returns
returns c =
    let setting = setting_of c.args.scene.now in
    let digest = c.args.scene.now.digest.now in
    let count = known_count digest.races.known in
    IfOk-weaker c.end.result (λ told. c.push_summary.new.text ≡ Some told.items)
    (λ told. (entries : List Entry) → IsDigest entries digest →
    told.items ≡ groups_text setting (most_shown c.args.extent) c.args.cases.now c.args.groups.now ++
    pairs_left_out setting.origin (most_pairs c.args.extent) count ++ summary setting.origin entries count)
    (λ told is entries d. whole_text _ _ _ _ c.new-text.ensures
    (three_adds _ _ _ _ _ _ _
    (these _ _ _ _ c.push_groups.ensures (ap (λ most. groups_text setting most c.args.cases.now c.args.groups.now) c.most_shown-shown.ensures))
    (these _ _ _ (pairs_left_out setting.origin (most_pairs c.args.extent) count) c.push_more_pairs.ensures
    (ap₂ (λ most count. more_pairs most count c.pairs_words.result.now (codes "\n")) c.most_pairs.ensures c.pair_count.ensures ∙
    ap (λ words. more_pairs (most_pairs c.args.extent) count words (codes "\n")) c.pairs_words.ensures))
    (c.push_summary.ensures entries d)) is)
    c.end.ensures
