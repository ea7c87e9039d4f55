-- What the end of judging a text says of the whole.
use Rattle.std.proofs.Common.{◌≡◌, ℕ, List, Option}
use Rattle.std.specs.Prelude.{Bool, Result, Ok, Err, IfOk, IfErr}
use Rattle.std.specs.Io.KnownBytes.{Appends}
use Rattle.text_words.specs.Values.{Contents}
use Rattle.model_histories.specs.declared.reply.Reply.{Reply}
use Rattle.verdict_lines.specs.VerdictText.{verdict_text}
use Rattle.command_streams.specs.declared.fault.CliFault.{CliFault}
use Rattle.command_streams.specs.declared.fault.CliFault.TheVariants.{Read, Write, TooLong, Trace, Memory}
use Rattle.judge_command.specs.declared.by_kind.Verdicts.{Verdicts}
use Rattle.judge_command.specs.Statuses.{status_of_replies}
use Rattle.command_streams.specs.Streams.{AreReplies, AnswersText, IsMeant, IsAnswered, HasCause, StopsTrace, StopsWriting, StopsAnswer}
use Rattle.judge_command.specs.StatusFlags.{Tells, TellsTrace}

module _ {A : Type 0} (verdicts : Verdicts A) (limit : ℕ) (contents : Contents) (wrote between writes : Option (List ℕ)) (failed : Bool)
    (told : TellsTrace contents limit wrote between failed verdicts) where
  -- all was written
  pub told_answer : (result : Result ℕ CliFault) →
      IfOk result (λ status. (first : Option (List ℕ)) (replies : List Reply) → Tells replies verdicts first between failed →
      (status ≡ status_of_replies replies) × Appends first writes (verdict_text replies)) →
      IfOk result (λ status. (replies : List Reply) × (status ≡ status_of_replies replies) × AreReplies contents limit replies × Appends wrote writes (verdict_text replies))
  told_answer (Ok status) ends = let whole = ends wrote told.0 told.2 in (told.0, whole.0, told.1, whole.1)
  told_answer (Err fault) ends = tt

  -- a part was written
  pub told_stop : (result : Result ℕ CliFault) →
      IfErr result (λ fault. (first : Option (List ℕ)) (replies : List Reply) → Tells replies verdicts first between failed →
      StopsWriting first writes (verdict_text replies) fault) →
      IfErr result (StopsAnswer contents limit wrote writes)
  told_stop (Ok status) ends = tt
  told_stop (Err Write) ends = (told.0, told.1, ends wrote told.0 told.2)
  told_stop (Err fault) ends = absurd (ends wrote told.0 told.2)

module _ (before behind wrote writes : Option (List ℕ)) (limit : ℕ) where
  -- why no trace was read
  pub cause_read : (fault : CliFault) → StopsTrace before behind fault → HasCause before behind wrote writes limit fault
  cause_read Read stops = tt
  cause_read TooLong stops = stops
  cause_read Memory stops = tt
  cause_read (Trace fault) stops = stops
  cause_read fault stops = absurd stops

  module _ (contents : Contents) (meant : IsMeant before behind contents) where
    answers : (replies : List Reply) → AreReplies contents limit replies → AnswersText meant.text limit replies
    answers replies are = record { contents = contents; means = meant.means; replied = are }

    -- a trace was read, and its requests are answered
    pub stream_answered : (result : Result ℕ CliFault) →
        IfOk result (λ status. (replies : List Reply) × (status ≡ status_of_replies replies) × AreReplies contents limit replies × Appends wrote writes (verdict_text replies)) →
        IfOk result (λ status. (replies : List Reply) × (status ≡ status_of_replies replies) × IsAnswered before behind wrote writes limit replies)
    stream_answered (Ok status) told = (
      told.0,
      told.1,
      record { text = meant.text; read = meant.read; answers = answers told.0 told.2; written = told.3 },
    )
    stream_answered (Err fault) told = tt

    -- or not all of them are told
    pub stream_stops : (result : Result ℕ CliFault) → IfErr result (StopsAnswer contents limit wrote writes) → IfErr result (HasCause before behind wrote writes limit)
    stream_stops (Ok status) stops = tt
    stream_stops (Err Write) stops = record {
      text = meant.text;
      replies = stops.0;
      part = stops.2.0;
      rest = stops.2.1;
      read = meant.read;
      answers = answers stops.0 stops.1;
      written = stops.2.2;
      prefix = stops.2.3;
    }
    stream_stops (Err Memory) stops = tt
    stream_stops (Err fault) stops = absurd stops
