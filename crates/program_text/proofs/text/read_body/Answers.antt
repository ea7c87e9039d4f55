use Rattle.text_words.specs.Text.{lines}
use Rattle.program_text.proofs.Taken.{ends_here, main_here}
use Rattle.program_text.proofs.text.read_body.Goals as goal

pub returns-in-Ok-clause-means : goal.returns-in-Ok-clause-means
returns-in-Ok-clause-means g c =
    ends_here c.args.names.now c.args.draft.now (lines c.args.text.now) c.in-Ok.end c.read_lines.new.draft c.main_at_end.result c.in-Ok.ensures c.main_at_end.ensures

pub returns-in-Ok-clause-main : goal.returns-in-Ok-clause-main
returns-in-Ok-clause-main g c = main_here c.read_lines.new.draft c.in-Ok.end c.main_at_end.result c.main_at_end.ensures

pub returns-in-Err-clause-means : goal.returns-in-Err-clause-means
returns-in-Err-clause-means g c = c.in-Err.ensures

pub returns-in-Err-clause-main : goal.returns-in-Err-clause-main
returns-in-Err-clause-main g c = tt
