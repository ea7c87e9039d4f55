use Rattle.std.specs.Prelude.{codes}
use Rattle.std.proofs.Common.{false, refl, sym}
use Rattle.std.proofs.lemmas.Str.Pattern.{ends_text}
use Rattle.trace_notes.proofs.line.note_of_word.Goals as goal

pub returns-in-None : goal.returns-in-None
returns-in-None c = rw (sym (ends_text false (codes "[*]") c.args.word.now c.in-None.ensures.cases)) refl
