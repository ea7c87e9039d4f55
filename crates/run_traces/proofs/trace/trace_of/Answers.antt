use Rattle.std.proofs.Math.Logic.{∥∥₁_elim}
use Rattle.program_text.specs.Programs.{contents}
use Rattle.run_traces.proofs.Written.{meaning_law}
use Rattle.run_traces.proofs.trace.trace_of.Goals as goal

pub returns-clause-means : goal.returns-clause-means
returns-clause-means g c = λ run.
    rw c.in_ok-text.ensures (∥∥₁_elim c.args.program.now.meant squash₁ (λ read. ∣ meaning_law read.0 (contents c.args.program.now) read.1 c.args.entries.now run ∣₁))
