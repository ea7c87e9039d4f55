use Rattle.std.proofs.Common.{rules, ◌≡◌, ◌∷◌, ◌==◌, ◌∙◌, ap}
use Rattle.std.specs.List.{after_first}
use Rattle.trace_notes.specs.Notes.{noted_text}
use Rattle.race_explanations.specs.Titles.{noted_name}
use Rattle.text_buffers.proofs.Builders.{these, two_adds}
use Rattle.race_explanations.proofs.title.push_display_name.Goals as goal

pub returns-in-Trace-Some : goal.returns-in-Trace-Some
returns-in-Trace-Some c = λ name is.
    let behind : c.in-Trace-Some.name.now ≡ after_first (λ byte. byte == 32) c.args.spaced.now = search rules in
    let same : c.in-Trace-Some.name.now ≡ name = behind ∙ ap (after_first (λ byte. byte == 32)) is in
    rw c.in-Trace-Some.is-0 (these _ _ _ _ (two_adds _ _ _ _ _ c.push_words.ensures c.push_noted.ensures)
    (ap (λ one. 32 ∷ noted_name (noted_text c.in-Trace-Some.notes.now one) one) same))
