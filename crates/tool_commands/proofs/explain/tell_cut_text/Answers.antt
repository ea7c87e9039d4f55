use Rattle.std.proofs.Common.{rules, ◌≡◌, ◌++◌, length, decimal, subst, ap, ◌∙◌, append_assoc}
use Rattle.std.proofs.lemmas.List.{length-map}
use Rattle.program_text.specs.Programs.{contents}
use Rattle.model_histories.specs.declared.answer.Entry.{Entry}
use Rattle.race_explanations.specs.Explained.{IsExplanation}
use Rattle.tool_commands.specs.Explanations.{Manner, file_of, cut_words, cut_behind, cut_text}
use Rattle.tool_commands.proofs.explain.tell_cut_text.Goals as goal

pub returns : goal.returns
returns c = λ entries is.
    let told = c.in_ok-told.told.items in
    let counted : c.len-count.result ≡ length c.args.digest.now.lines.items = search rules in (
      told,
      subst (λ (manner : Manner). IsExplanation manner.is_painted manner.extent (file_of manner c.args.text.now (contents c.args.program.now)) entries told)
          c.manner.view_is (c.in_ok-told.ensures entries is),
      c.in_ok-push_words.ensures.added ∙ ap (λ t. t ++ cut_behind) (c.in_ok-push_number.ensures.added ∙ append_assoc told cut_words (decimal c.len-count.result)) ∙
          append_assoc told (cut_words ++ decimal c.len-count.result) cut_behind ∙
          ap (λ n. told ++ cut_text n) (counted ∙ (ap length is.lines ∙ length-map entries (λ (entry : Entry). entry.request.line))),
    )
