use Rattle.std.proofs.Common.{refl, ap, ◌∙◌, codes}
use Rattle.serde_json.specs.Data.{string}
use Rattle.serde_json.specs.View.{view}
use Rattle.sarif_logs.specs.declared.rule.Rule.TheVariants.{TextFault}
use Rattle.text_buffers.proofs.Builders.{these, two_adds}
use Rattle.sarif_logs.specs.Reading.{words_at}
use Rattle.sarif_logs.specs.Results.{first_line, behind_word, told_twice, fault_words}
use Rattle.sarif_logs.proofs.Objects.{begins, puts, told_as, told_by, finishes}
use Rattle.sarif_logs.proofs.Telling.{said, none_listed, result_begun}
use Rattle.sarif_logs.proofs.result.fault_result.Goals as goal

pub returns : goal.returns
returns c =
    let text = fault_words (words_at (codes "rendered") (view c.args.fault.now)) in
    let begun = result_begun {one = TextFault} {few = 1} _ refl c.place_of.ensures refl c.begin_result.ensures in
    let title = c.behind_word.ensures ∙ ap behind_word (c.first_line.ensures ∙ ap first_line c.words_at-rendered.ensures) in
    let words = two_adds _ _ _ _ _ (these _ _ _ _ c.push.ensures title) c.push-2.ensures in
    let told = said (λ words. told_twice words c.words_at-rendered.result.now) _ _ text c.tell_twice.result c.new-message.ensures words
    c.tell_twice.ensures in
    let message = puts _ _ _ begun (told_by _ (ap (told_twice text) c.words_at-rendered.ensures) told) c.with_made.ensures in
    let cause = finishes _ _ c.finish.result
    (puts _ _ _ (begins _ _ c.new.ensures) (ap string c.words_at.ensures) c.with_text-properties.ensures) c.finish.ensures in
    let properties = puts _ _ _ message (told_as _ _ cause) c.with_made-2.ensures in
    finishes _ _ c.finish-3.result
    (puts _ _ _ properties (told_as _ _ (none_listed _ c.finish-2.result c.new-2.ensures c.finish-2.ensures)) c.with_made-3.ensures)
    c.finish-3.ensures
