use Rattle.std.proofs.Math.Logic.{∥∥₁_elim}
use Rattle.program_text.specs.Programs.{contents}
use Rattle.program_text.proofs.PrintedLaw.{plain_means}
use Rattle.program_text.proofs.program.Program.print.Goals as goal

pub returns-in-Ok-clause-means : goal.returns-in-Ok-clause-means
returns-in-Ok-clause-means g c =
    rw c.into_bytes.ensures.value (rw c.in-Ok.ensures (∥∥₁_elim c.args.self.now.meant squash₁ (λ read. ∣ plain_means read.0 (contents c.args.self.now) read.1 ∣₁)))
