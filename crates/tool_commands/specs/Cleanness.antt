-- Traces in which nothing is refused.
use Rattle.std.specs.Prelude.{ℕ, ◌≡◌, length}
use Rattle.text_words.specs.Values.{Contents as TraceContents}
use Rattle.model_histories.specs.declared.reply.Reply.{Reply}
use Rattle.model_histories.specs.declared.reply.Reply.TheVariants.{Done, Illegal}
use Rattle.model_histories.specs.Extensions.{IsCleanAnswer, IsClean}
use Rattle.model_histories.specs.States.{GateState}
use Rattle.tool_commands.specs.Replays.{AnswersAll}

-- the request was answered, and the answer is no refusal
abbrev pub IsCleanReply : Reply → Type 0
IsCleanReply (Done receipt) = IsCleanAnswer receipt.answer
IsCleanReply (Illegal fault) = ⊥

-- A gate answered all so many requests of the trace, and refused none.
pub record IsAllClean (trace : TraceContents) (count : ℕ) : Type 0 where
  pub gate : GateState
  pub answers : AnswersAll trace gate
  pub clean : IsClean gate.history
  pub count_is : count ≡ length gate.history
