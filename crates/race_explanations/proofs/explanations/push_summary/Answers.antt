use Rattle.std.proofs.Common.{rules, ◌≡◌, ap, ◌∙◌, codes, length}
use Rattle.std.proofs.lemmas.List.{length-map}
use Rattle.model_histories.specs.declared.answer.Entry.{Entry}
use Rattle.source_quotes.specs.Quotes.{counted}
use Rattle.race_pairs.specs.Known.{known_count}
use Rattle.race_explanations.specs.Scenes.{setting_of}
use Rattle.race_explanations.specs.Explained.{among}
use Rattle.text_buffers.proofs.Builders.{these, two_adds, five_adds}
use Rattle.race_explanations.proofs.explanations.push_summary.Goals as goal

pub returns : goal.returns
returns c = λ entries is.
    let len_is : c.len.result ≡ length c.args.scene.now.digest.now.lines.items = search rules in
    two_adds _ _ _ _ _ (these _ _ _ _ c.push_count.ensures (ap (λ count. counted count (codes "refusal")) is.refusals))
    (these _ _ _ (among (setting_of c.args.scene.now).origin (known_count c.args.scene.now.digest.now.races.known) (length entries))
    (five_adds _ _ _ _ _ _ _ _ _ _ _ c.push_words.ensures c.push_count-2.ensures
    (two_adds _ _ _ _ _ (these _ _ _ _ c.push_words-2.ensures c.pairs_words.ensures) c.push_words-3.ensures) c.push_count-3.ensures c.push_words-4.ensures)
    (ap (λ count. among (setting_of c.args.scene.now).origin count c.len.result) c.pair_count.ensures ∙
    ap (among (setting_of c.args.scene.now).origin (known_count c.args.scene.now.digest.now.races.known))
    (len_is ∙ (ap length is.lines ∙ length-map entries (λ (entry : Entry). entry.request.line)))))
