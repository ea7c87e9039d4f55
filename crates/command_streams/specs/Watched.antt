-- What is known of a watched reader or writer.
use Rattle.std.specs.Prelude.{ℕ, zero, suc, ◌≡◌, ◌<◌, ◌≤◌, ◌+◌, ◌-◌, ◌^◌, ◌==◌, ◌&&◌, Bool, true, min, not, Result, Ok, Err}
use Rattle.command_streams.specs.declared.watched.Watched.{Watched}

-- the reader or writer itself
abbrev pub held : {T : Type 0} → Watched T → T
held watched = watched.inner

-- a call of it has answered an error, or a write of some bytes has taken none of them
abbrev pub has_failed : {T : Type 0} → Watched T → Bool
has_failed watched = watched.failed

-- all that was written has been delivered: a flush has gone well since the last write, or there was none
abbrev pub is_delivered : {T : Type 0} → Watched T → Bool
is_delivered watched = watched.delivered

-- how often it was called, where that is less than 2^64 - 1; else 2^64 - 1
abbrev pub calls_of : {T : Type 0} → Watched T → ℕ
calls_of watched = watched.calls

-- the count behind one more call
abbrev pub one_more : ℕ → ℕ
one_more count = min (count + 1) (2 ^ 64 - 1)

-- the count behind so many more calls
abbrev pub count_after : (count calls : ℕ) → ℕ
count_after count zero = count
count_after count (suc calls) = one_more (count_after count calls)

-- From one count to the other it was called at most so often.
pub record IsCalledAtMost (most before after : ℕ) : Type 0 where
  -- so many calls make the one count the other
  pub calls : ℕ
  pub few : calls ≤ most
  pub count : after ≡ count_after before calls
  -- and no other number does, where the count began with room for more than the most
  pub exact : before + most < 2 ^ 64 - 1 → (other : ℕ) → after ≡ count_after before other → other ≡ calls

-- a write of so many bytes answered an error, or took none of some bytes
abbrev pub took_none : {E : Type 0} → Result ℕ E → ℕ → Bool
took_none (Ok count) bytes = (count == 0) && not (bytes == 0)
took_none (Err error) bytes = true
