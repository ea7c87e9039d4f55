use Rattle.std.proofs.Common.{ap, ◌∙◌}
use Rattle.text_words.specs.Declarations.{cells_of}
use Rattle.text_words.specs.Values.{Known}
use Rattle.text_words.proofs.names.Names.cells.Goals as goal

pub returns-clause-cells : goal.returns-clause-cells
returns-clause-cells g c = c.self.invariant.counted ∙ ap (λ (k : Known). cells_of k.mems) c.self.view_is
