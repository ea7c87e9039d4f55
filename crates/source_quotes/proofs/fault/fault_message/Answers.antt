use Rattle.std.proofs.Common.{◌≡◌, ◌++◌, ℕ, List, Some, ap, ap₂, ◌∙◌, subst}
use Rattle.std.proofs.lemmas.Result.{IfOk-weaker}
use Rattle.text_words.specs.Text.{lines}
use Rattle.text_buffers.proofs.Builders.{whole_text}
use Rattle.source_quotes.specs.Lines.{line_in}
use Rattle.source_quotes.specs.Quotes.{look_of}
use Rattle.source_quotes.specs.Parts.{IsWithin}
use Rattle.source_quotes.specs.FaultTexts.{fault_text, TellsFault}
use Rattle.source_quotes.proofs.fault.fault_message.Goals as goal

pub returns : goal.returns
returns c =
    let mistake = c.diagnose-found.result.mistake in
    let span = c.span_of-span.result in
    let help = c.in_ok-help.help.items in
    IfOk-weaker c.end.result (λ told. c.push_fault.new.text ≡ Some told.items)
    (λ told. TellsFault c.args.is_painted c.args.file.now (lines c.args.text.now) c.args.number c.args.why told.items)
    (λ told is. record {
      mistake = mistake;
      span = span;
      help = help;
      of_cause = c.diagnose-found.ensures;
      within = subst (IsWithin span) (c.line-3.ensures ∙ ap (λ (source : List (List ℕ)). line_in source c.args.number) c.in_ok-source.ensures) c.span_of-span.ensures;
      text_is = whole_text _ _ _ _ c.new-told.ensures c.push_fault.ensures is ∙
          ap (λ behind. fault_text c.of-look.result c.args.file.now c.in_ok-source.source c.args.number mistake span ++ behind) c.as_slice-3.ensures.value ∙
          ap₂ (λ look source. fault_text look c.args.file.now source c.args.number mistake span ++ help)
          (c.of-look.ensures ∙ ap (look_of c.args.is_painted) c.in_ok-source.ensures) c.in_ok-source.ensures;
    })
    c.end.ensures
