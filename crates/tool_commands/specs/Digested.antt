-- What is kept of the entries of a trace.
use Rattle.std.specs.Prelude.{reverse}
use Rattle.text_words.specs.Values.{Contents as TraceContents}
use Rattle.model_histories.specs.States.{GateState}
use Rattle.race_pairs.specs.declared.digest.Digest.{Digest}
use Rattle.race_pairs.specs.Digests.{IsDigest}
use Rattle.tool_commands.specs.Replays.{AnswersAll}

-- A gate answered all requests of the trace, and the digest is that of its entries.
pub record IsDigested (trace : TraceContents) (digest : Digest) : Type 0 where
  pub gate : GateState
  pub answers : AnswersAll trace gate
  pub digest_is : IsDigest (reverse gate.history) digest
