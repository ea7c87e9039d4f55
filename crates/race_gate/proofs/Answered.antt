-- Which events of control the answers are.
use Rattle.std.proofs.Common.{◌≡◌, inl, ◌<◌, ◌+◌, ℕ, Bool, Some, refl, subst, arith}
use Rattle.model_accesses.specs.declared.request.Act.{Act}
use Rattle.model_accesses.specs.declared.request.Act.TheVariants.{Spawn, Sync, Call, Return}
use Rattle.model_strands.specs.declared.spawned.Spawned.{Spawned}
use Rattle.model_strands.specs.History.{Event, split, same, joined, waits, call, resumed, ended, ended_joined, finished, History}
use Rattle.model_strands.specs.Strands.{Running, unused}
use Rattle.model_strands.specs.Legal.{Allowed, open_split, next_split, Legal}
use Rattle.law_strands.proofs.Finish.{running_of}
use Rattle.law_strands.proofs.Range.{ranges}
use Rattle.law_strands.proofs.Law.{begun_below}
use Rattle.branch_names.specs.Names.{BeginsNone}
use Rattle.reducer_views.specs.Held.{IsQuiet, split_of}
use Rattle.model_histories.specs.declared.answer.Answer.{Answer}
use Rattle.model_histories.specs.declared.answer.Answer.TheVariants.{Split, Same, Joined, Waits, Resumed, Ended, EndedJoined, Finished}
use Rattle.model_histories.specs.Entries.{event_between}

pub split-event : (strand : ℕ) (act : Act) (spawned : Spawned) (event : Event) → event_between strand act (Split spawned) ≡ Some event → split_of strand spawned ≡ event
split-event strand Spawn spawned event e = cc
split-event strand act spawned event e = absurd (cc)

-- an answer that begins a join is of one of two events
pub joined-event : (strand : ℕ) (act : Act) (join : ℕ) (event : Event) → event_between strand act (Joined join) ≡ Some event → joined strand join ≡ event
joined-event strand Sync join event e = cc
joined-event strand act join event e = absurd (cc)

pub ended_joined-event : (strand : ℕ) (act : Act) (join : ℕ) (event : Event) → event_between strand act (EndedJoined join) ≡ Some event →
    ended_joined strand join ≡ event
ended_joined-event strand Return join event e = cc
ended_joined-event strand act join event e = absurd (cc)

-- the event begins no strand
pub record IsCalm (event : Event) : Type 0 where
  pub none : BeginsNone event
  pub quiet : IsQuiet event

-- any other answer is of an event that begins no strand
pub calm-event : (strand : ℕ) (act : Act) (answer : Answer) (event : Event) → ((spawned : Spawned) → answer ≡ Split spawned → ⊥) →
    ((join : ℕ) → answer ≡ Joined join → ⊥) → ((join : ℕ) → answer ≡ EndedJoined join → ⊥) → event_between strand act answer ≡ Some event → IsCalm event
calm-event strand Spawn (Split spawned) event no_split no_join no_end e = absurd (no_split spawned refl)
calm-event strand Spawn answer event no_split no_join no_end e = absurd (cc)
calm-event strand Sync Same event no_split no_join no_end e = let is : same strand ≡ event = cc in subst IsCalm is (record { none = tt; quiet = tt })
calm-event strand Sync (Joined join) event no_split no_join no_end e = absurd (no_join join refl)
calm-event strand Sync Waits event no_split no_join no_end e = let is : waits strand ≡ event = cc in subst IsCalm is (record { none = tt; quiet = tt })
calm-event strand Sync answer event no_split no_join no_end e = absurd (cc)
calm-event strand Call Same event no_split no_join no_end e = let is : call strand ≡ event = cc in subst IsCalm is (record { none = tt; quiet = tt })
calm-event strand Call answer event no_split no_join no_end e = absurd (cc)
calm-event strand Return Resumed event no_split no_join no_end e = let is : resumed strand ≡ event = cc in subst IsCalm is (record { none = tt; quiet = tt })
calm-event strand Return Ended event no_split no_join no_end e = let is : ended strand ≡ event = cc in subst IsCalm is (record { none = tt; quiet = tt })
calm-event strand Return (EndedJoined join) event no_split no_join no_end e = absurd (no_end join refl)
calm-event strand Return Finished event no_split no_join no_end e = let is : finished strand ≡ event = cc in subst IsCalm is (record { none = tt; quiet = tt })
calm-event strand Return answer event no_split no_join no_end e = absurd (cc)
calm-event strand act answer event no_split no_join no_end e = absurd (cc)

-- a split takes the next numbers
pub next-number : {history : History} {strand child next join : ℕ} → {first : Bool} → Allowed history (split strand child next join first) → next ≡ unused history + 1
next-number (open_split runs synced child_is next_is join_is) = omega arith
next-number (next_split runs in_block child_is next_is) = omega arith

-- the strand that makes the event has a number
pub strand-known : {history : History} → Legal history → (strand : ℕ) → Running history strand → strand < unused history
strand-known {history} legal strand runs = begun_below history (ranges legal) strand (inl runs)

pub spawner-known : {history : History} {strand child next join : ℕ} → {first : Bool} → Legal history → Allowed history (split strand child next join first) → strand < unused history
spawner-known {history} {strand} legal allowed = strand-known legal strand (running_of allowed)
