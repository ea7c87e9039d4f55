use Rattle.std.proofs.Common.{codes, refl}
use Rattle.text_buffers.proofs.Builders.{three_adds}
use Rattle.sarif_logs.specs.Places.{text_told}
use Rattle.sarif_logs.proofs.Objects.{puts, told_as}
use Rattle.sarif_logs.proofs.Telling.{last_said, said_behind, said_so}
use Rattle.sarif_logs.proofs.place.related_value.Goals as goal

pub returns-in-Some : goal.returns-in-Some
returns-in-Some c =
    let begun = puts _ _ _ c.begin_location.ensures c.from.ensures c.with-location.ensures in
    let located = puts _ _ _ begun (told_as _ _ c.physical_value.ensures) c.with_made.ensures in
    said_so _ _ _ c.finish.result (λ text. rw c.in-Some.is refl)
    (last_said (codes "message") text_told _ _ _ _ _ c.finish.result located c.message_value.ensures c.with_made-in-Some.ensures
    c.finish.ensures)

pub returns-in-None : goal.returns-in-None
returns-in-None c =
    let begun = puts _ _ _ c.begin_location.ensures c.from.ensures c.with-location.ensures in
    let words = three_adds _ _ _ _ _ _ _ c.push.ensures c.push_place.ensures c.push-in-None.ensures in
    said_so _ _ _ c.finish-in-None.result (λ text. rw c.in-None.is refl)
    (last_said (codes "message") _ _ _ _ _ _ c.finish-in-None.result begun
    (said_behind text_told _ _ _ c.message_value-in-None.result words c.message_value-in-None.ensures) c.with_made-in-None.ensures c.finish-in-None.ensures)
