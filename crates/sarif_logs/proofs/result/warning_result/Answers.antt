use Rattle.std.proofs.Common.{refl, ap, ◌∙◌}
use Rattle.serde_json.specs.View.{view}
use Rattle.text_buffers.proofs.Builders.{these, two_adds}
use Rattle.sarif_logs.specs.Places.{text_told}
use Rattle.sarif_logs.specs.Rules.{rule_named}
use Rattle.sarif_logs.specs.Results.{warning_words}
use Rattle.sarif_logs.proofs.Objects.{begins, puts, told_as, finishes}
use Rattle.sarif_logs.proofs.Telling.{said, none_listed, result_begun}
use Rattle.sarif_logs.proofs.result.warning_result.Goals as goal

pub returns : goal.returns
returns c =
    let begun = result_begun _ (c.named-rule.ensures ∙ ap rule_named c.words_at-2.ensures) c.place_at.ensures refl c.begin_result.ensures in
    let words = two_adds _ _ _ _ _ (these _ _ _ _ c.push.ensures c.words_at.ensures) c.push-2.ensures in
    let message = puts _ _ _ begun
    (told_as _ _ (said text_told _ _ (warning_words (view c.args.warning.now)) c.message_value.result c.new-message.ensures words c.message_value.ensures))
    c.with_made.ensures in
    let properties = puts _ _ _ message (told_as _ _ (finishes _ _ c.finish.result (begins _ _ c.new.ensures) c.finish.ensures))
    c.with_made-2.ensures in
    finishes _ _ c.finish-3.result
    (puts _ _ _ properties (told_as _ _ (none_listed _ c.finish-2.result c.new-2.ensures c.finish-2.ensures)) c.with_made-3.ensures)
    c.finish-3.ensures
