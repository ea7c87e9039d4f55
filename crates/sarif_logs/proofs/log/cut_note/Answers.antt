use Rattle.std.proofs.Common.{◌++◌, codes, decimal, refl, ap}
use Rattle.serde_json.specs.View.{view}
use Rattle.text_buffers.proofs.Builders.{these, two_adds}
use Rattle.sarif_logs.specs.Reading.{count_at}
use Rattle.sarif_logs.specs.Places.{text_told}
use Rattle.sarif_logs.specs.Logs.{cut_words}
use Rattle.sarif_logs.proofs.Objects.{begins, puts, told_as, finishes}
use Rattle.sarif_logs.proofs.Telling.{said}
use Rattle.sarif_logs.proofs.log.cut_note.Goals as goal

pub returns : goal.returns
returns c =
    let words = two_adds _ _ _ _ _
    (these _ _ _ _ c.push_number.ensures (ap (λ count. codes "The limit ended the run after " ++ decimal count) c.count_at.ensures)) c.push.ensures in
    let level = puts _ _ _ (begins _ _ c.new.ensures) refl c.with_text.ensures in
    let message = said text_told _ _ (cut_words (count_at (codes "requests") (view c.args.document.now))) c.message_value.result c.new-message.ensures words
    c.message_value.ensures in
    finishes _ _ c.finish.result (puts _ _ _ level (told_as _ _ message) c.with_made.ensures) c.finish.ensures
