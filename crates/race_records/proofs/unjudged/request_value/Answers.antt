use Rattle.std.proofs.Common.{ℕ, refl, ap, subst, ◌∙◌}
use Rattle.serde_json.specs.Data.{string}
use Rattle.sarif_logs.specs.Objects.{Makes}
use Rattle.sarif_logs.proofs.Objects.{puts, finishes}
use Rattle.race_records.specs.Values.{count_told}
use Rattle.race_records.specs.Unjudged.{line_members}
use Rattle.race_records.proofs.unjudged.request_value.Goals as goal

pub returns : goal.returns
returns c =
    let quoted = subst (λ (at : ℕ). Makes c.quote_line.result (line_members c.args.file.now c.args.source.now at c.args.rendered.now)) c.at_of-at.ensures
    c.quote_line.ensures in
    let help = puts _ _ _ quoted (ap string c.help_words.ensures) c.with_text.ensures in
    let message = puts _ _ _ help (ap string c.title_words.ensures) c.with_text-2.ensures in
    let outcome = puts _ _ _ message refl c.with_text-3.ensures in
    let request = puts _ _ _ outcome c.from.ensures c.with.ensures in
    let strand = puts _ _ _ request (c.from-2.ensures ∙ ap count_told c.strand_of.ensures) c.with-2.ensures in
    finishes _ _ c.finish.result (puts _ _ _ strand c.from-3.ensures c.with-3.ensures) c.finish.ensures
