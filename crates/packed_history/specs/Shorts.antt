-- Receipts in small numbers.
use Rattle.std.specs.Prelude.{◌≡◌, ℕ, Bool, true, false, ◌+◌, ◌*◌, ◌%◌, ◌^◌}
use Rattle.model_accesses.specs.declared.request.Act.{Act}
use Rattle.model_accesses.specs.declared.request.Act.TheVariants as act
use Rattle.model_histories.specs.declared.answer.Answer.{Answer}
use Rattle.model_histories.specs.declared.answer.Answer.TheVariants as answer
use Rattle.model_histories.specs.declared.reply.Receipt.{Receipt}

-- What was asked and answered, in small numbers.
pub data Deed : Type 0 where
  -- a spawn that opened a block, and a further spawn of a block
  Open : (child join : ℕ) → Deed
  Spawn : (child join : ℕ) → Deed
  Call : Deed
  -- a sync with no open block
  Pass : Deed
  Join : (join : ℕ) → Deed
  Wait : Deed
  -- the return of a called function
  Resume : Deed
  End : Deed
  EndJoin : (join : ℕ) → Deed
  Finish : Deed
  Read : (cell value : ℕ) → Deed
  Write : (cell value : ℕ) → Deed
  Bump : (cell value : ℕ) → Deed
  Update : (reducer value : ℕ) → Deed
  Put : (reducer value : ℕ) → Deed
  Get : (reducer value : ℕ) → Deed
  -- a refused access of this tag; what else belongs to it is kept beside, at this place
  Refused : (tag first place : ℕ) → Deed
  -- the receipt is kept beside, at the place with these halves
  Long : (low high : ℕ) → Deed

-- A receipt in small numbers.
pub record Short : Type 0 where
  pub number : ℕ
  pub strand : ℕ
  pub line : ℕ
  pub deed : Deed

-- what was asked
abbrev pub deed_act : Deed → Act
deed_act (Open child join) = act.Spawn
deed_act (Spawn child join) = act.Spawn
deed_act Call = act.Call
deed_act Pass = act.Sync
deed_act (Join join) = act.Sync
deed_act Wait = act.Sync
deed_act Resume = act.Return
deed_act End = act.Return
deed_act (EndJoin join) = act.Return
deed_act Finish = act.Return
deed_act (Read cell value) = act.Read cell
deed_act (Write cell value) = act.Write cell value
deed_act (Bump cell value) = act.Bump cell value
deed_act (Update reducer value) = act.Update reducer value
deed_act (Put reducer value) = act.Put reducer value
deed_act (Get reducer value) = act.Get reducer
deed_act (Refused tag first place) = act.Call
deed_act (Long low high) = act.Call

-- what was answered; a spawner's next strand has the number behind its child's
abbrev pub answer_of : Deed → Answer
answer_of (Open child join) = answer.Split (record { child = child; next = (child + 1) % 2 ^ 32; join = join; first = true })
answer_of (Spawn child join) = answer.Split (record { child = child; next = (child + 1) % 2 ^ 32; join = join; first = false })
answer_of Call = answer.Same
answer_of Pass = answer.Same
answer_of (Join join) = answer.Joined join
answer_of Wait = answer.Waits
answer_of Resume = answer.Resumed
answer_of End = answer.Ended
answer_of (EndJoin join) = answer.EndedJoined join
answer_of Finish = answer.Finished
answer_of (Read cell value) = answer.Value value
answer_of (Write cell value) = answer.Granted
answer_of (Bump cell value) = answer.Granted
answer_of (Update reducer value) = answer.Granted
answer_of (Put reducer value) = answer.Granted
answer_of (Get reducer value) = answer.Value value
answer_of (Refused tag first place) = answer.Same
answer_of (Long low high) = answer.Same

-- whether the receipt is kept beside
abbrev pub is_long : Deed → Bool
is_long (Long low high) = true
is_long _ = false

-- whether it is that of a refused access, of which a part is kept beside
abbrev pub is_refused : Deed → Bool
is_refused (Refused tag first place) = true
is_refused _ = false

-- whether nothing of it is kept beside
abbrev pub is_short : Deed → Bool
is_short (Refused tag first place) = false
is_short (Long low high) = false
is_short _ = true

-- at which place it is kept beside
abbrev pub index_of : Deed → ℕ
index_of (Refused tag first place) = place
index_of (Long low high) = high * 2 ^ 32 + low
index_of _ = 0

-- the receipt of these small numbers
abbrev pub plain : Short → Receipt
plain short = record {
  number = short.number;
  request = record { strand = short.strand; line = short.line; act = deed_act short.deed };
  answer = answer_of short.deed;
}

-- the deed says what was asked and answered
abbrev pub IsShortOf : Act → Answer → Deed → Type 0
IsShortOf asked answered deed = (is_short deed ≡ true) × (deed_act deed ≡ asked) × (answer_of deed ≡ answered)
