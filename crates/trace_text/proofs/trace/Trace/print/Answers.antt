use Rattle.std.proofs.Common.{◌≡◌, ℕ, List, rules, sym, subst}
use Rattle.std.proofs.Math.Logic.{∥∥₁_elim}
use Rattle.trace_text.specs.Grammar.{TextMeans}
use Rattle.trace_text.specs.Printing.{plain_text}
use Rattle.trace_text.specs.Traces.{contents}
use Rattle.trace_text.proofs.PlainLines.{plain_means}
use Rattle.trace_text.proofs.trace.Trace.print.Goals as goal

pub returns-in-Ok-clause-means : goal.returns-in-Ok-clause-means
returns-in-Ok-clause-means g c =
    let printed = contents c.args.self.now in
    let text : c.into_bytes.result.items ≡ plain_text printed = search rules in
    subst (λ (bytes : List ℕ). ∥ TextMeans bytes printed ∥₁) (sym text)
    (∥∥₁_elim c.args.self.now.meant squash₁ (λ read. ∣ plain_means read.0 printed read.1 ∣₁))
