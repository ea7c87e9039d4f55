-- What was made of the replies to requests while they were judged.
use Rattle.std.specs.Prelude.{◌≡◌, ℕ, Bool, List, Option}
use Rattle.std.specs.List.{list_any}
use Rattle.model_accesses.specs.declared.request.Request.{Request}
use Rattle.text_words.specs.Values.{Contents}
use Rattle.model_histories.specs.declared.reply.Reply.{Reply}
use Rattle.model_histories.specs.States.{GateState}
use Rattle.race_gate.specs.Cores.{CoreState, IsCoreOf}
use Rattle.model_histories.specs.Replies.{JudgesAll}
use Rattle.verdict_lines.specs.VerdictText.{verdict_text}
use Rattle.judge_command.specs.declared.status.StatusFlags.{StatusFlags}
use Rattle.judge_command.specs.declared.by_kind.Verdicts.{Verdicts}
use Rattle.command_streams.specs.Tellings.{IsTold}
use Rattle.judge_command.specs.Statuses.{is_memory, is_limit, is_illegal, is_refusal}
use Rattle.command_streams.specs.Streams.{AreReplies}

-- whether there is a want of memory, one beyond the limit, an illegal one, a refusal among the replies
pub record HasMet (replies : List Reply) (met : StatusFlags) : Type 0 where
  pub memory : met.memory ≡ list_any is_memory replies
  pub limit : met.limit ≡ list_any is_limit replies
  pub illegal : met.illegal ≡ list_any is_illegal replies
  pub refusal : met.refusal ≡ list_any is_refusal replies

module _ {A : Type 0} where
  -- the verdict lines of the replies were told, and what was met among them
  pub record Tells (replies : List Reply) (verdicts : Verdicts A) (wrote writes : Option (List ℕ)) (failed : Bool) : Type 0 where
    pub lines : IsTold wrote writes failed verdicts.lines.text (verdict_text replies)
    pub met : HasMet replies verdicts.met

  -- from this state on a core has judged the requests with these replies, which are told
  pub record HasJudged (start : GateState) (requests : List Request) (replies : List Reply) (core : CoreState)
      (verdicts : Verdicts A) (wrote writes : Option (List ℕ)) (failed : Bool) : Type 0 where
    pub last : GateState
    pub judges : JudgesAll start requests replies last
    pub fits : IsCoreOf core last
    pub tells : Tells replies verdicts wrote writes failed

  -- the replies to the requests of a trace are told
  abbrev pub TellsTrace : Contents → (limit : ℕ) → (wrote writes : Option (List ℕ)) → (failed : Bool) → Verdicts A → Type 0
  TellsTrace contents limit wrote writes failed verdicts =
      (replies : List Reply) × AreReplies contents limit replies × Tells replies verdicts wrote writes failed
