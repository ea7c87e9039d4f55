use Rattle.std.proofs.Common.{refl, ap, ◌∙◌}
use Rattle.serde_json.specs.Data.{string}
use Rattle.sarif_logs.proofs.Objects.{begins, puts, told_as, finishes}
use Rattle.race_records.proofs.Optional.{number_told}
use Rattle.race_records.proofs.Copied.{copied}
use Rattle.race_records.proofs.PlainLists.{told_as_is}
use Rattle.race_records.proofs.document.document_value.Goals as goal

pub returns : goal.returns
returns c =
    let outcome = puts _ _ _ (begins _ _ c.new.ensures) (ap string c.outcome_word.ensures) c.with_text.ensures in
    let pairs = puts _ _ _ outcome (number_told _ c.from.ensures) c.with.ensures in
    let refusals = puts _ _ _ pairs c.from-2.ensures c.with-2.ensures in
    let requests = puts _ _ _ refusals c.from-3.ensures c.with-3.ensures in
    let traces = puts _ _ _ requests c.from-4.ensures c.with-4.ensures in
    let version = puts _ _ _ traces c.from-5.ensures c.with-5.ensures in
    let memory = puts _ _ _ version refl c.with-6.ensures in
    let races = puts _ _ _ memory (c.from-6.ensures ∙ told_as_is _) c.with-7.ensures in
    let untold = puts _ _ _ races (c.from-7.ensures ∙ told_as_is _) c.with-8.ensures in
    let recorded = puts _ _ _ untold (told_as _ _ c.texts_value.ensures) c.with_made.ensures in
    let warnings = puts _ _ _ recorded (copied _ c.clone.ensures.cases refl) c.with_made-2.ensures in
    finishes _ _ c.finish.result (puts _ _ _ warnings c.from-8.ensures c.with-9.ensures) c.finish.ensures
