-- A request without fault is one that the rules of legal histories admit, and the other way round.
use Rattle.std.proofs.Common.{◌≡◌, ℕ, ◌<◌, false, List, [], ◌∷◌, length, refl, sym, subst}
use Rattle.std.specs.Prelude.{MatchOption}
use Rattle.model_accesses.specs.declared.request.Act.{Act}
use Rattle.model_accesses.specs.declared.request.Act.TheVariants.{Spawn, Sync, Call, Return, Read, Write, Bump, Update, Put, Get}
use Rattle.model_accesses.specs.declared.request.Request.{Request}
use Rattle.model_strands.specs.History.{Event, split, same, joined, waits, call, resumed, ended, ended_joined, finished, History}
use Rattle.model_strands.specs.Strands.{Running}
use Rattle.model_strands.specs.Blocks.{stack, IsSynced}
use Rattle.model_strands.specs.Legal.{Allowed, called_return, child_return, last_return, root_return, Legal}
use Rattle.law_strands.specs.Acts.{Answers, spawns, syncs, calls, returns}
use Rattle.law_strands.proofs.Finish.{answer_law}
use Rattle.model_histories.specs.declared.answer.Answer.{Answer}
use Rattle.model_histories.specs.declared.answer.Answer.TheVariants.{Split, Same, Joined, Waits, Resumed, Ended, EndedJoined, Finished, Granted, Value}
use Rattle.model_histories.specs.declared.reply.Reply.{Reply}
use Rattle.model_histories.specs.declared.reply.Reply.TheVariants.{Done, Illegal}
use Rattle.model_histories.specs.declared.fault.GateFault.{GateFault}
use Rattle.model_histories.specs.declared.fault.GateFault.TheVariants.{Stopped, Limit, NotRunning, BadName, Unsynced, Memory}
use Rattle.model_histories.specs.Entries.{control_part, event_between}
use Rattle.model_histories.specs.Legal.{Belongs}
use Rattle.model_histories.specs.States.{GateState}
use Rattle.model_histories.specs.Faults.{IsFaultless, HasCause}
use Rattle.model_histories.specs.Replies.{JudgesAll}
use Rattle.model_histories.specs.Admission.{IsAdmitted, IsOfTheGate, AdmitsAll}
use Rattle.race_gate.specs.Admission.{AdmissionLaw, EntryLaw}
use Rattle.race_gate.proofs.Races.{legal-part}

-- the answer belongs to the act, and as an event of control it is allowed
abbrev MayAnswer : History → ℕ → Act → Answer → Type 0
MayAnswer history strand act answer = Belongs act answer × MatchOption (event_between strand act answer) (Unit {0}) (Allowed history)

module _ (history : History) (strand : ℕ) where
  spawn-answer : (event : Event) → Answers history strand spawns event → (answer : Answer) × MayAnswer history strand Spawn answer
  spawn-answer (split s child next join first) (is, act, allowed) =
      (Split (record { child = child; next = next; join = join; first = first }), (tt, subst (λ s. Allowed history (split s child next join first)) is allowed))
  spawn-answer event (is, act, allowed) = absurd (cc)

  sync-answer : (event : Event) → Answers history strand syncs event → (answer : Answer) × MayAnswer history strand Sync answer
  sync-answer (same s) (is, act, allowed) = (Same, (tt, subst (λ s. Allowed history (same s)) is allowed))
  sync-answer (joined s join) (is, act, allowed) = (Joined join, (tt, subst (λ s. Allowed history (joined s join)) is allowed))
  sync-answer (waits s) (is, act, allowed) = (Waits, (tt, subst (λ s. Allowed history (waits s)) is allowed))
  sync-answer event (is, act, allowed) = absurd (cc)

  call-answer : (event : Event) → Answers history strand calls event → (answer : Answer) × MayAnswer history strand Call answer
  call-answer (call s) (is, act, allowed) = (Same, (tt, subst (λ s. Allowed history (call s)) is allowed))
  call-answer event (is, act, allowed) = absurd (cc)

  return-answer : (event : Event) → Answers history strand returns event → (answer : Answer) × MayAnswer history strand Return answer
  return-answer (resumed s) (is, act, allowed) = (Resumed, (tt, subst (λ s. Allowed history (resumed s)) is allowed))
  return-answer (ended s) (is, act, allowed) = (Ended, (tt, subst (λ s. Allowed history (ended s)) is allowed))
  return-answer (ended_joined s join) (is, act, allowed) = (EndedJoined join, (tt, subst (λ s. Allowed history (ended_joined s join)) is allowed))
  return-answer (finished s) (is, act, allowed) = (Finished, (tt, subst (λ s. Allowed history (finished s)) is allowed))
  return-answer event (is, act, allowed) = absurd (cc)

  -- each act of a running strand has an answer that may follow
  some-answer : Legal history → Running history strand → (act : Act) → (act ≡ Return → IsSynced (stack history strand)) →
      (answer : Answer) × MayAnswer history strand act answer
  some-answer legal runs Spawn synced = let one = answer_law history legal strand runs spawns (λ e. absurd (cc)) in spawn-answer one.0 one.1
  some-answer legal runs Sync synced = let one = answer_law history legal strand runs syncs (λ e. absurd (cc)) in sync-answer one.0 one.1
  some-answer legal runs Call synced = let one = answer_law history legal strand runs calls (λ e. absurd (cc)) in call-answer one.0 one.1
  some-answer legal runs Return synced = let one = answer_law history legal strand runs returns (λ e. synced refl) in return-answer one.0 one.1
  some-answer legal runs (Read location) synced = (Value 0, (tt, tt))
  some-answer legal runs (Write location value) synced = (Granted, (tt, tt))
  some-answer legal runs (Bump location value) synced = (Granted, (tt, tt))
  some-answer legal runs (Update reducer value) synced = (Granted, (tt, tt))
  some-answer legal runs (Put reducer value) synced = (Granted, (tt, tt))
  some-answer legal runs (Get reducer) synced = (Value 0, (tt, tt))

  -- a return that has an answer leaves no open block
  returned-synced : (answer : Answer) → MayAnswer history strand Return answer → IsSynced (stack history strand)
  returned-synced Resumed (belongs, called_return runs stands) = subst IsSynced (sym stands) tt
  returned-synced Ended (belongs, child_return runs stands none) = subst IsSynced (sym stands) tt
  returned-synced (EndedJoined join) (belongs, last_return runs stands is_last) = subst IsSynced (sym stands) tt
  returned-synced Finished (belongs, root_return runs stands) = subst IsSynced (sym stands) tt
  returned-synced answer (belongs, allowed) = absurd belongs

  answered-synced : (act : Act) (answer : Answer) → MayAnswer history strand act answer → act ≡ Return → IsSynced (stack history strand)
  answered-synced act answer may is = returned-synced answer (subst (λ act. MayAnswer history strand act answer) is may)

pub admission_law : AdmissionLaw
admission_law state legal request = (forth, back)
  where
    forth : IsFaultless state request → (state.stopped ≡ false) × (length state.history < state.limit) × IsAdmitted state.shape state.history request
    forth faultless =
        let some = some-answer (control_part state.history) request.strand (legal-part state.shape state.history legal) faultless.runs request.act faultless.synced in (
          faultless.going,
          faultless.below,
          (some.0, (legal, record { runs = faultless.runs; in_range = faultless.in_range; belongs = some.1.0; allowed = some.1.1 })),
        )

    back : (state.stopped ≡ false) × (length state.history < state.limit) × IsAdmitted state.shape state.history request → IsFaultless state request
    back (going, below, (answer, (before, may))) = record {
      going = going;
      below = below;
      runs = may.runs;
      in_range = may.in_range;
      synced = answered-synced (control_part state.history) request.strand request.act answer (may.belongs, may.allowed);
    }

-- a cause that lies in an admitted request is not there
pub admitted-fault : (state : GateState) (request : Request) (fault : GateFault) → IsAdmitted state.shape state.history request → HasCause state request fault → IsOfTheGate fault
admitted-fault state request Stopped admitted has = tt
admitted-fault state request Limit admitted has = tt
admitted-fault state request Memory admitted has = tt
admitted-fault state request NotRunning (answer, (before, may)) has = has may.runs
admitted-fault state request BadName (answer, (before, may)) has = has may.in_range
admitted-fault state request Unsynced (answer, (before, may)) has =
    has.1 (answered-synced (control_part state.history) request.strand request.act answer (may.belongs, may.allowed) has.0)

pub entry_law : EntryLaw
entry_law old new request (Done receipt) judges admitted = tt
entry_law old new request (Illegal fault) judges admitted = admitted-fault old request fault admitted judges.1.0

pub admits-all : (old new : GateState) (requests : List Request) (replies : List Reply) → JudgesAll old requests replies new → AdmitsAll old requests replies new
admits-all old new [] [] is = is
admits-all old new [] (reply ∷ replies) is = absurd is
admits-all old new (request ∷ requests) [] is = absurd is
admits-all old new (request ∷ requests) (reply ∷ replies) (between, judges, rest) =
    (between, judges, (λ admitted. entry_law old between request reply judges admitted), admits-all between new requests replies rest)
