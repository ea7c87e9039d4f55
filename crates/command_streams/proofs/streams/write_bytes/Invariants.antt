use Rattle.std.proofs.Common.{◌≡◌, ◌++◌, ℕ, List, false, length}
use Rattle.std.specs.Io.KnownBytes.{Appends}
use Rattle.command_streams.specs.Watched.{held, has_failed}
use Rattle.command_streams.proofs.streams.write_bytes.Given as goal

-- what is written so far and what is left are the text
abbrev pub invariant-loop-rest : goal.invariant-loop-rest
invariant-loop-rest g l = record {
  written : (part : List ℕ) × Appends (g.W.Write.contents (held l.initial.output)) (g.W.Write.contents (held l.output)) part × (part ++ l.rest ≡ l.text);
  fresh : has_failed l.output ≡ false;
}

abbrev pub decreases-loop-rest : goal.decreases-loop-rest
decreases-loop-rest g l = length l.rest
