-- What a failed write says of an explanation.
use Rattle.std.proofs.Common.{◌≡◌, ◌≤◌, ◌⊎◌, ℕ, Bool, true, false, List, Option, inl, inr, refl, sym, subst, arith, if◌then◌else◌}
use Rattle.std.specs.List.{list_any}
use Rattle.model_histories.specs.declared.answer.Entry.{Entry}
use Rattle.command_streams.specs.declared.fault.CliFault.{CliFault}
use Rattle.command_streams.specs.declared.fault.CliFault.TheVariants.{Read, Write, TooLong, Memory}
use Rattle.model_histories.specs.declared.fault.GateFault.{GateFault}
use Rattle.model_histories.specs.declared.fault.GateFault.TheVariants.{Stopped as GateStopped, Limit as GateLimit, NotRunning, BadName, Unsynced, Memory as GateMemory}
use Rattle.verdict_lines.specs.VerdictText.{is_refused}
use Rattle.tool_commands.specs.Outcomes.{refusal_status}
use Rattle.command_streams.specs.Streams.{IsRead, StopsWriting}
use Rattle.command_streams.specs.Readings.{Reading, StopsReader}
use Rattle.tool_commands.specs.Replays.{fault_of_request}
use Rattle.tool_commands.specs.declared.explain.End.{End}
use Rattle.tool_commands.specs.declared.explain.End.TheVariants.{Clean, Raced, Cut, CutRaced}
use Rattle.tool_commands.specs.Sorts.{is_program_text}
use Rattle.tool_commands.specs.Explanations.{Manner, status_of_end, ExplainsAs, Explains, StopsTellingAs, StopsTelling, IsExplained, HasExplanationCause}

-- only a part of what is told could be written
pub explanation_cut : (manner : Manner) (reader : Reading) (wrote writes : Option (List ℕ)) (limit : ℕ) (text told : List ℕ) (status : ℕ) (fault : CliFault) →
    IsRead reader.before reader.behind text → Explains manner text limit told status → StopsWriting wrote writes told fault →
    HasExplanationCause manner reader wrote writes limit fault
explanation_cut manner reader wrote writes limit text told status Write read explains stops = record {
  text = text;
  told = told;
  status = status;
  part = stops.0;
  rest = stops.1;
  read = read;
  explains = explains;
  written = stops.2;
  prefix = stops.3;
}
explanation_cut manner reader wrote writes limit text told status fault read explains stops = absurd stops

-- no text is read
pub no_text : (manner : Manner) (reader : Reading) (wrote writes : Option (List ℕ)) (limit : ℕ) (fault : CliFault) → StopsReader reader fault →
    HasExplanationCause manner reader wrote writes limit fault
no_text manner reader wrote writes limit Read stops = tt
no_text manner reader wrote writes limit TooLong stops = stops
no_text manner reader wrote writes limit Memory stops = tt
no_text manner reader wrote writes limit fault stops = absurd stops

-- reading or writing has failed
abbrev IsOfDevice : CliFault → Type 0
IsOfDevice Read = Unit {0}
IsOfDevice Write = Unit {0}
IsOfDevice TooLong = Unit {0}
IsOfDevice fault = ⊥

request_apart : (number : ℕ) (cause : GateFault) → IsOfDevice (fault_of_request number cause) → ⊥
request_apart number GateStopped is = is
request_apart number GateLimit is = is
request_apart number NotRunning is = is
request_apart number BadName is = is
request_apart number Unsynced is = is
request_apart number GateMemory is = is

told_apart : (is_program : Bool) (text : List ℕ) (limit : ℕ) (fault : CliFault) → IsOfDevice fault → StopsTellingAs is_program text limit fault → ⊥
told_apart true text limit Read is stops = stops.stops
told_apart true text limit Write is stops = stops.stops
told_apart true text limit TooLong is stops = stops.stops
told_apart true text limit fault is stops = absurd is
told_apart false text limit fault is stops = request_apart stops.stops.stop.number stops.stops.stop.fault (subst IsOfDevice stops.stops.named is)

-- which is no reason why nothing is told of a text
pub read_well : (text : List ℕ) (limit : ℕ) → StopsTelling text limit Read → ⊥
read_well text limit stops = told_apart (is_program_text text) text limit Read tt stops

pub not_writing : (text : List ℕ) (limit : ℕ) → StopsTelling text limit Write → ⊥
not_writing text limit stops = told_apart (is_program_text text) text limit Write tt stops

-- nothing is told of a text that was read
pub untold_text : (manner : Manner) (reader : Reading) (wrote writes : Option (List ℕ)) (limit : ℕ) (text : List ℕ) (fault : CliFault) →
    IsRead reader.before reader.behind text → StopsTelling text limit fault → HasExplanationCause manner reader wrote writes limit fault
untold_text manner reader wrote writes limit text Read read stops = tt
untold_text manner reader wrote writes limit text Write read stops = absurd (not_writing text limit stops)
untold_text manner reader wrote writes limit text TooLong read stops = absurd (told_apart (is_program_text text) text limit TooLong tt stops)
untold_text manner reader wrote writes limit text Memory read stops = tt
untold_text manner reader wrote writes limit text fault read stops = record { text = text; read = read; untold = stops }

-- its status is at most 4
end_status : (end : End) → status_of_end end ≤ 4
end_status Clean = omega arith
end_status Raced = omega arith
end_status Cut = omega arith
end_status CutRaced = omega arith

refused_status : (is_racy : Bool) → (if is_racy then 1 else 0) ≤ 4
refused_status true = omega arith
refused_status false = omega arith

status_as : (is_program : Bool) (manner : Manner) (text : List ℕ) (limit : ℕ) (told : List ℕ) (status : ℕ) →
    ExplainsAs is_program manner text limit told status → status ≤ 4
status_as true manner text limit told status (inl run) = subst (λ n. n ≤ 4) (sym run.status_is) (end_status run.end)
status_as true manner text limit told status (inr fault) = subst (λ n. n ≤ 4) (sym fault.status_is) (omega arith)
status_as false manner text limit told status (inl trace) =
    subst (λ n. n ≤ 4) (sym trace.status_is) (refused_status (list_any (λ (entry : Entry). is_refused entry.answer) trace.entries))
status_as false manner text limit told status (inr (inl fault)) = subst (λ n. n ≤ 4) (sym fault.status_is) (omega arith)
status_as false manner text limit told status (inr (inr illegal)) = subst (λ n. n ≤ 4) (sym illegal.status_is) (omega arith)

told_status : (manner : Manner) (text : List ℕ) (limit : ℕ) (told : List ℕ) (status : ℕ) → Explains manner text limit told status → status ≤ 4
told_status manner text limit told status explains = status_as (is_program_text text) manner text limit told status explains

-- why nothing is told of a text that is to mean this
pub stops_as : (is_program : Bool) (text : List ℕ) (limit : ℕ) (fault : CliFault) → is_program_text text ≡ is_program →
    ((fault ≡ Memory) ⊎ StopsTellingAs is_program text limit fault) → StopsTelling text limit fault
stops_as is_program text limit Memory is stops = tt
stops_as is_program text limit fault is (inl memory) = absurd (cc)
stops_as is_program text limit fault is (inr stops) = subst (λ (one : Bool). StopsTellingAs one text limit fault) (sym is) stops

-- what is told of a text that is to mean this
pub explains_as : (is_program : Bool) (manner : Manner) (text : List ℕ) (limit : ℕ) (told : List ℕ) (status : ℕ) → is_program_text text ≡ is_program →
    ExplainsAs is_program manner text limit told status → Explains manner text limit told status
explains_as is_program manner text limit told status is explains =
    subst (λ (one : Bool). ExplainsAs one manner text limit told status) (sym is) explains

pub explained_status : (manner : Manner) (reader : Reading) (wrote writes : Option (List ℕ)) (limit status : ℕ) →
    IsExplained manner reader wrote writes limit status → status ≤ 4
explained_status manner reader wrote writes limit status explained = told_status manner explained.text limit explained.told status explained.explains

-- the status of entries of which one is refused
pub some_refused : (entries : List Entry) → (refusal_status entries ≡ 0 → ⊥) → 1 ≡ refusal_status entries
some_refused entries some = by (list_any (λ (entry : Entry). is_refused entry.answer) entries) refl
  where
    by : (any : Bool) → list_any (λ (entry : Entry). is_refused entry.answer) entries ≡ any → 1 ≡ refusal_status entries
    by true is = rw is refl
    by false is = absurd (some (rw is refl))
