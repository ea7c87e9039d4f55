-- The exit status of a judged trace.
use Rattle.std.specs.Prelude.{ℕ, Bool, true, false, List, if◌then◌else◌}
use Rattle.std.specs.List.{list_any}
use Rattle.model_histories.specs.declared.reply.Reply.{Reply}
use Rattle.model_histories.specs.declared.reply.Reply.TheVariants.{Done, Illegal}
use Rattle.model_histories.specs.declared.fault.GateFault.TheVariants.{Limit, Memory}
use Rattle.verdict_lines.specs.VerdictText.{is_refused}

-- a request that was not answered for want of memory
abbrev pub is_memory : Reply → Bool
is_memory (Illegal Memory) = true
is_memory reply = false

-- a request behind the last that the limit allows
abbrev pub is_limit : Reply → Bool
is_limit (Illegal Limit) = true
is_limit reply = false

-- a request that was not answered
abbrev pub is_illegal : Reply → Bool
is_illegal (Illegal fault) = true
is_illegal reply = false

-- an access that was not done
abbrev pub is_refusal : Reply → Bool
is_refusal (Done receipt) = is_refused receipt.answer
is_refusal reply = false

-- 3 where memory was wanting, else 4 where the limit was passed, else 2 where a request was illegal for another reason, else 1 where an
-- access was refused, else 0
abbrev pub status_of_replies : List Reply → ℕ
status_of_replies replies =
    if list_any is_illegal replies
    then (if list_any is_memory replies then 3 else if list_any is_limit replies then 4 else 2)
    else if list_any is_refusal replies then 1
    else 0
