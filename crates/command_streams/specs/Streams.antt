-- What is read, and what is written for it.
use Rattle.std.specs.Prelude.{ℕ, ◌≡◌, ◌<◌, ◌≤◌, ◌+◌, Bool, true, false, Option, List, ◌++◌, length, map}
use Rattle.std.specs.Io.KnownBytes.{Consumes, Appends, IsAtEnd}
use Rattle.model_accesses.specs.declared.request.Request.{Request}
use Rattle.text_words.specs.declared.fault.TextFault.TheVariants.{At}
use Rattle.text_words.specs.Values.{Contents}
use Rattle.text_words.specs.Declarations.{cells_of}
use Rattle.trace_text.specs.Grammar.{TextMeans}
use Rattle.trace_text.specs.Faults.{TextFaults}
use Rattle.model_histories.specs.declared.reply.Reply.{Reply}
use Rattle.model_histories.specs.Shapes.{Shape}
use Rattle.model_histories.specs.States.{GateState, opening}
use Rattle.model_races.specs.Judged.{IsJudged}
use Rattle.model_histories.specs.Replies.{JudgesAll}
use Rattle.command_streams.specs.declared.fault.CliFault.{CliFault}
use Rattle.command_streams.specs.declared.fault.CliFault.TheVariants.{Usage, Read, Write, TooLong, Trace, Memory}
use Rattle.verdict_lines.specs.VerdictText.{verdict_text}

-- the most bytes that are read, and how often a reader is asked for them
abbrev pub most_bytes : ℕ
most_bytes = 67_108_864

abbrev pub most_reads : ℕ
most_reads = 67_108_865

-- ---- a trace and the replies to it

-- what a trace declares
abbrev pub declared_shape : Contents → Shape
declared_shape contents = record { cells = cells_of contents.known.mems; monoids = map (λ reducer. reducer.monoid) contents.known.reducers }

abbrev pub requests_of : Contents → List Request
requests_of contents = map (λ line. line.request) contents.lines

-- A fresh gate judged the requests, in their order, with these replies, and the history that it then has is judged rightly.
pub record IsJudgedBy (shape : Shape) (limit : ℕ) (requests : List Request) (replies : List Reply) (gate : GateState) : Type 0 where
  pub judges : JudgesAll (opening shape limit) requests replies gate
  pub judged : IsJudged gate.shape gate.history

-- of a trace's requests
abbrev pub JudgesTrace : Contents → (limit : ℕ) → List Reply → GateState → Type 0
JudgesTrace contents limit replies gate = IsJudgedBy (declared_shape contents) limit (requests_of contents) replies gate

-- These are the replies of such a gate.
pub record AreReplies (contents : Contents) (limit : ℕ) (replies : List Reply) : Type 0 where
  pub last : GateState
  pub judges : JudgesTrace contents limit replies last

-- The text means a trace, and these are the replies to it.
pub record AnswersText (text : List ℕ) (limit : ℕ) (replies : List Reply) : Type 0 where
  pub contents : Contents
  pub means : TextMeans text contents
  pub replied : AreReplies contents limit replies

-- ---- reading and writing

-- The text is all that was left to read, where that is known, and is not too long.
pub record IsRead (old new : Option (List ℕ)) (text : List ℕ) : Type 0 where
  pub taken : Consumes old new text
  pub end : IsAtEnd new
  pub short : length text ≤ most_bytes

-- More than the most bytes were read.
pub record IsReadTooLong (old new : Option (List ℕ)) : Type 0 where
  pub text : List ℕ
  pub taken : Consumes old new text
  pub long : most_bytes < length text

-- A text was read and the verdict lines of the replies to it were written.
pub record IsAnswered (before behind wrote writes : Option (List ℕ)) (limit : ℕ) (replies : List Reply) : Type 0 where
  pub text : List ℕ
  pub read : IsRead before behind text
  pub answers : AnswersText text limit replies
  pub written : Appends wrote writes (verdict_text replies)

-- A text was read, and only a part of the verdict lines of the replies to it could be written.
pub record IsCutShort (before behind wrote writes : Option (List ℕ)) (limit : ℕ) : Type 0 where
  pub text : List ℕ
  pub replies : List Reply
  pub part : List ℕ
  pub rest : List ℕ
  pub read : IsRead before behind text
  pub answers : AnswersText text limit replies
  pub written : Appends wrote writes part
  pub prefix : part ++ rest ≡ verdict_text replies

-- The fault is that of the text.
abbrev pub IsFaultOf : List ℕ → CliFault → Type 0
IsFaultOf text (Trace (At line why)) = TextFaults text line why
IsFaultOf text Memory = Unit {0}
IsFaultOf text fault = ⊥

-- A text was read, and the fault is that of this text.
pub record IsFaulty (before behind : Option (List ℕ)) (fault : CliFault) : Type 0 where
  pub text : List ℕ
  pub read : IsRead before behind text
  pub faulty : IsFaultOf text fault

-- A text was read, and it means this.
pub record IsMeant (before behind : Option (List ℕ)) (contents : Contents) : Type 0 where
  pub text : List ℕ
  pub read : IsRead before behind text
  pub means : TextMeans text contents

-- Why no trace is read: reading stopped before the end, or the fault is that of the text.
abbrev pub StopsTrace : (before behind : Option (List ℕ)) → CliFault → Type 0
StopsTrace before behind Read = Unit {0}
StopsTrace before behind TooLong = IsReadTooLong before behind
StopsTrace before behind Memory = Unit {0}
StopsTrace before behind (Trace fault) = IsFaulty before behind (Trace fault)
StopsTrace before behind fault = ⊥

-- Why a stream is not answered, or not wholly: each fault has its cause.
abbrev pub HasCause : (before behind wrote writes : Option (List ℕ)) → (limit : ℕ) → CliFault → Type 0
HasCause before behind wrote writes limit (Usage text) = ⊥
HasCause before behind wrote writes limit Read = Unit {0}
HasCause before behind wrote writes limit Write = IsCutShort before behind wrote writes limit
HasCause before behind wrote writes limit TooLong = IsReadTooLong before behind
HasCause before behind wrote writes limit Memory = Unit {0}
HasCause before behind wrote writes limit fault = IsFaulty before behind fault

-- What is left to read, where that is known, and the bytes that wait behind those that were taken.
pub record Buffered : Type 0 where
  pub left : Option (List ℕ)
  pub bytes : List ℕ

abbrev pub buffered : (left : Option (List ℕ)) → (bytes : List ℕ) → Buffered
buffered left bytes = record { left = left; bytes = bytes }

-- One more piece was read and waits behind the others, where there was one; else the end was reached. So many bytes were taken before all
-- that wait.
pub record TakesPiece (done : ℕ) (old new : Buffered) (more : Bool) : Type 0 where
  pub piece : List ℕ
  pub taken : Consumes old.left new.left piece
  pub added : new.bytes ≡ old.bytes ++ piece
  pub short : done + length new.bytes ≤ most_bytes
  pub some : more ≡ true → 0 < length piece
  pub end : more ≡ false → IsAtEnd new.left

-- Pieces were read and wait behind the others, and at least `size` bytes wait then; else the end was reached.
pub record TakesPieces (done size : ℕ) (old new : Buffered) (more : Bool) : Type 0 where
  pub pieces : List ℕ
  pub taken : Consumes old.left new.left pieces
  pub added : new.bytes ≡ old.bytes ++ pieces
  pub short : done + length new.bytes ≤ most_bytes
  pub reached : more ≡ true → size ≤ length new.bytes
  pub end : more ≡ false → IsAtEnd new.left

-- Why a piece is not added: with it the text would be too long, or a device or memory failed.
abbrev pub StopsPiece : Option (List ℕ) → Option (List ℕ) → (done : ℕ) → List ℕ → CliFault → Type 0
StopsPiece before behind done old Read = Unit {0}
StopsPiece before behind done old TooLong = (piece : List ℕ) × Consumes before behind piece × (most_bytes < done + length (old ++ piece))
StopsPiece before behind done old Memory = Unit {0}
StopsPiece before behind done old fault = ⊥

-- Why reading stops before the end.
abbrev pub StopsReading : (before behind : Option (List ℕ)) → CliFault → Type 0
StopsReading before behind Read = Unit {0}
StopsReading before behind TooLong = IsReadTooLong before behind
StopsReading before behind Memory = Unit {0}
StopsReading before behind fault = ⊥

-- Why no trace is read behind these bytes.
abbrev pub StopsBehind : (bytes : List ℕ) → (before behind : Option (List ℕ)) → CliFault → Type 0
StopsBehind bytes before behind fault = (first : Option (List ℕ)) → Consumes first before bytes → StopsTrace first behind fault

-- A text that begins with these bytes was read, and it means this.
abbrev pub IsMeantBehind : (bytes : List ℕ) → (before behind : Option (List ℕ)) → Contents → Type 0
IsMeantBehind bytes before behind contents = (first : Option (List ℕ)) → Consumes first before bytes → IsMeant first behind contents

-- A part of the text was written, and a call failed.
abbrev pub StopsWriting : Option (List ℕ) → Option (List ℕ) → List ℕ → CliFault → Type 0
StopsWriting wrote writes text Write = (part : List ℕ) × (rest : List ℕ) × Appends wrote writes part × (part ++ rest ≡ text)
StopsWriting wrote writes text fault = ⊥

-- Why the replies to a trace are not told, or not wholly: a write or memory failed.
abbrev pub StopsAnswer : Contents → (limit : ℕ) → (wrote writes : Option (List ℕ)) → CliFault → Type 0
StopsAnswer contents limit wrote writes Write =
    (replies : List Reply) × AreReplies contents limit replies × StopsWriting wrote writes (verdict_text replies) Write
StopsAnswer contents limit wrote writes Memory = Unit {0}
StopsAnswer contents limit wrote writes fault = ⊥
