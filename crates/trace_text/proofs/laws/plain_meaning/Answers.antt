use Rattle.trace_text.proofs.PlainLines.{plain_means}
use Rattle.trace_text.proofs.Unique.{text_once}
use Rattle.trace_text.specs.Printing.{plain_text}
use Rattle.trace_text.proofs.laws.plain_meaning.Goals as goal

pub returns : goal.returns
returns c = record {
  means = plain_means;
  only = λ text contents other m again. text_once (plain_text contents) other contents again (plain_means text contents m);
}
