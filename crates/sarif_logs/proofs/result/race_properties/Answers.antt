use Rattle.std.proofs.Common.{ap, ◌∙◌}
use Rattle.serde_json.specs.Data.{string}
use Rattle.sarif_logs.specs.Places.{count_told}
use Rattle.sarif_logs.specs.Accesses.{AccessParts}
use Rattle.sarif_logs.proofs.Objects.{begins, puts, told_as, finishes}
use Rattle.sarif_logs.proofs.result.race_properties.Goals as goal

pub returns : goal.returns
returns c =
    let group = puts _ _ _ (begins _ _ c.new.ensures) (c.from.ensures ∙ ap count_told c.count_at.ensures) c.with.ensures in
    let kind = puts _ _ _ group (ap string c.words_at.ensures) c.with_text.ensures in
    let locations = puts _ _ _ kind (told_as _ _ c.member_at.ensures) c.with_made.ensures in
    let refused = puts _ _ _ locations (c.from-2.ensures ∙ ap (λ (access : AccessParts). count_told access.further) c.access_at-refused.ensures)
    c.with-2.ensures in
    let spawn = puts _ _ _ refused (told_as _ _ c.member_at-2.ensures) c.with_made-2.ensures in
    finishes _ _ c.finish.result
    (puts _ _ _ spawn (c.from-3.ensures ∙ ap (λ (access : AccessParts). count_told access.further) c.access_at-witness.ensures) c.with-3.ensures)
    c.finish.ensures
