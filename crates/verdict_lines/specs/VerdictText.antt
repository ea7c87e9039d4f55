-- The text of verdicts.
use Rattle.std.specs.Prelude.{ℕ, Bool, true, false, Option, List, [], ◌∷◌, ◌++◌, codes, decimal, flat_map, unwrap_or, option_and_then, option_map, IsSome}
use Rattle.model_accesses.specs.declared.kind.Kind.{Kind}
use Rattle.model_accesses.specs.Table.{rule_between, rule_spelling}
use Rattle.model_accesses.specs.declared.request.Act.{Act}
use Rattle.model_accesses.specs.Asking.{access_asked}
use Rattle.model_histories.specs.declared.answer.Answer.{Answer}
use Rattle.model_histories.specs.declared.answer.Answer.TheVariants.{Split, Same, Joined, Waits, Resumed, Ended}
use Rattle.model_histories.specs.declared.answer.Answer.TheVariants.{EndedJoined, Finished, Granted, Value, Refused, Unset}
use Rattle.model_histories.specs.declared.reply.Reply.{Reply}
use Rattle.model_histories.specs.declared.reply.Reply.TheVariants.{Done, Illegal}
use Rattle.model_histories.specs.declared.fault.GateFault.{GateFault}
use Rattle.model_histories.specs.declared.fault.GateFault.TheVariants.{Stopped, Limit, NotRunning, BadName, Unsynced, Memory}

-- the kind of access that an act is, where it is one
abbrev pub kind_asked : Act → Option Kind
kind_asked act = option_map (λ asked. asked.kind) (access_asked act)

-- the word of the rule that an act and an earlier access of this kind come under, where they conflict
abbrev pub refusal_word : Act → Kind → Option (List ℕ)
refusal_word act earlier = option_and_then (λ new. rule_spelling earlier new (rule_between earlier new)) (kind_asked act)

-- the word of an answer
abbrev pub answer_word : Act → Answer → List ℕ
answer_word act (Split spawned) = codes "split"
answer_word act Same = codes "same"
answer_word act (Joined join) = codes "joined"
answer_word act Waits = codes "waits"
answer_word act Resumed = codes "resumed"
answer_word act Ended = codes "ended"
answer_word act (EndedJoined join) = codes "ended-joined"
answer_word act Finished = codes "finished"
answer_word act Granted = codes "granted"
answer_word act (Value value) = codes "value"
answer_word act (Refused rule witness) = codes "refused " ++ unwrap_or (refusal_word act witness.kind) []
answer_word act Unset = codes "refused unset"

-- the answers whose word begins with `refused`
abbrev pub is_refused : Answer → Bool
is_refused (Refused rule witness) = true
is_refused Unset = true
is_refused answer = false

-- the numbers behind it
abbrev pub answer_numbers : Answer → List ℕ
answer_numbers (Split spawned) = spawned.child ∷ spawned.next ∷ spawned.join ∷ []
answer_numbers (Joined join) = join ∷ []
answer_numbers (EndedJoined join) = join ∷ []
answer_numbers (Value value) = value ∷ []
answer_numbers (Refused rule witness) = witness.entry ∷ []
answer_numbers answer = []

-- numbers, each behind a space
abbrev pub numbers_text : List ℕ → List ℕ
numbers_text [] = []
numbers_text (number ∷ numbers) = codes " " ++ decimal number ++ numbers_text numbers

abbrev pub answer_text : Act → Answer → List ℕ
answer_text act answer = answer_word act answer ++ numbers_text (answer_numbers answer)

-- the word of a fault
abbrev pub fault_word : GateFault → List ℕ
fault_word Stopped = codes "stopped"
fault_word Limit = codes "limit"
fault_word NotRunning = codes "not-running"
fault_word BadName = codes "bad-name"
fault_word Unsynced = codes "unsynced"
fault_word Memory = codes "memory"

-- the line of a reply: the entry's number and the answer, or `illegal` and the fault's word
abbrev pub line_of_reply : Reply → List ℕ
line_of_reply (Done receipt) = decimal receipt.number ++ codes " " ++ answer_text receipt.request.act receipt.answer ++ codes "\n"
line_of_reply (Illegal fault) = codes "illegal " ++ fault_word fault ++ codes "\n"

-- a line for each reply, in their order
abbrev pub verdict_text : List Reply → List ℕ
verdict_text replies = flat_map line_of_reply replies

-- a refused access conflicts with its witness, so that their rule has a word
abbrev pub HasWord : Act → Answer → Type 0
HasWord act (Refused rule witness) = IsSome (refusal_word act witness.kind)
HasWord act answer = Unit {0}

abbrev pub HasWords : Reply → Type 0
HasWords (Done receipt) = HasWord receipt.request.act receipt.answer
HasWords (Illegal fault) = Unit {0}
