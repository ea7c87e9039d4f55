use Rattle.program_text.proofs.PrintedLaw.{plain_means}
use Rattle.program_text.proofs.Unique.{text_once}
use Rattle.program_text.specs.Printing.{plain_text}
use Rattle.program_text.proofs.plain_law.plain_meaning.Goals as goal

pub returns : goal.returns
returns c = record {
  means = plain_means;
  only = λ text contents other m again. text_once (plain_text contents) other contents again (plain_means text contents m);
}
