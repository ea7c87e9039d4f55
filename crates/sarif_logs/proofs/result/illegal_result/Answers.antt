use Rattle.std.proofs.Common.{refl, ap}
use Rattle.serde_json.specs.View.{view}
use Rattle.sarif_logs.specs.declared.rule.Rule.TheVariants.{IllegalRequest}
use Rattle.text_buffers.proofs.Builders.{these, three_adds}
use Rattle.sarif_logs.specs.Messages.{help_words}
use Rattle.sarif_logs.specs.Results.{told_twice, illegal_words}
use Rattle.sarif_logs.proofs.Objects.{puts, told_as, told_by, finishes}
use Rattle.sarif_logs.proofs.Telling.{said, none_listed, result_begun}
use Rattle.sarif_logs.proofs.result.illegal_result.Goals as goal

pub returns : goal.returns
returns c =
    let text = illegal_words (view c.args.request.now) in
    let begun = result_begun {one = IllegalRequest} {few = 1} _ refl c.place_of.ensures refl c.begin_result.ensures in
    let words = three_adds _ _ _ _ _ _ _ (these _ _ _ _ c.push.ensures c.words_at.ensures) c.push-2.ensures
    (these _ _ _ _ c.push_help.ensures (ap help_words c.text_at.ensures)) in
    let told = said (λ words. told_twice words c.words_at-rendered.result.now) _ _ text c.tell_twice.result c.new-message.ensures words
    c.tell_twice.ensures in
    let message = puts _ _ _ begun (told_by _ (ap (told_twice text) c.words_at-rendered.ensures) told) c.with_made.ensures in
    let properties = puts _ _ _ message (told_as _ _ c.illegal_properties.ensures) c.with_made-2.ensures in
    finishes _ _ c.finish-2.result
    (puts _ _ _ properties (told_as _ _ (none_listed _ c.finish.result c.new.ensures c.finish.ensures)) c.with_made-3.ensures)
    c.finish-2.ensures
