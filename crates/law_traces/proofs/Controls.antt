-- Two legal histories that ask the same of control have the same control part, whatever they ask of cells and reducers.
use Rattle.std.proofs.Common.{◌≡◌, ℕ, true, false, Option, Some, None, ◌∷◌, refl, sym, ap, ap₂, ◌∙◌, subst}
use Rattle.std.specs.Prelude.{MatchOption}
use Rattle.model_accesses.specs.declared.request.Act.{Act}
use Rattle.model_accesses.specs.declared.request.Act.TheVariants as act
use Rattle.model_strands.specs.History.{Event, split, same, joined, waits, call, resumed, ended, ended_joined, finished, History}
use Rattle.model_strands.specs.Strands.{Running}
use Rattle.model_strands.specs.Blocks.{stack, IsSynced}
use Rattle.model_strands.specs.Legal.{Allowed, open_split, next_split, sync_same, sync_joined, sync_waits, function_call, called_return, child_return, last_return, root_return, Legal}
use Rattle.law_strands.specs.Acts.{Act as ControlAct, spawns, syncs, calls, returns, control_act_of, strand_of, Answers}
use Rattle.law_strands.proofs.Finish.{answer_law}
use Rattle.model_histories.specs.declared.answer.Answer.{Answer}
use Rattle.model_histories.specs.declared.answer.Answer.TheVariants.{Split, Same, Joined, Waits, Resumed, Ended, EndedJoined, Finished}
use Rattle.model_histories.specs.declared.answer.Entry.{Entry}
use Rattle.model_histories.specs.Entries.{Entries, event_between, event_of, with_event, control_part}
use Rattle.model_histories.specs.Shapes.{Shape}
use Rattle.model_histories.specs.Legal.{Belongs, IsLegal}
use Rattle.law_traces.specs.Omissions.{IsAccess}
use Rattle.law_traces.proofs.Histories.{legal_part}

-- a return is of a function without an open block
returning_synced : (history : History) (event : Event) → Allowed history event → control_act_of event ≡ returns → IsSynced (stack history (strand_of event))
returning_synced h (split s c n j true) (open_split run sy a b d) e = absurd (cc)
returning_synced h (split s c n j false) (next_split run st a b) e = absurd (cc)
returning_synced h (same s) (sync_same run sy) e = absurd (cc)
returning_synced h (joined s j) (sync_joined run st none) e = absurd (cc)
returning_synced h (waits s) (sync_waits run st m o) e = absurd (cc)
returning_synced h (call s) (function_call run) e = absurd (cc)
returning_synced h (resumed s) (called_return run st) e = subst IsSynced (sym st) tt
returning_synced h (ended s) (child_return run st last) e = subst IsSynced (sym st) tt
returning_synced h (ended_joined s j) (last_return run st last) e = subst IsSynced (sym st) tt
returning_synced h (finished s) (root_return run st) e = subst IsSynced (sym st) tt

-- a strand's act of control has one event
one_event : (history : History) → Legal history → (strand : ℕ) → Running history strand → (asks : ControlAct) (event other : Event) →
    Answers history strand asks event → Answers history strand asks other → event ≡ other
one_event h l s run asks e f answers others =
    let synced : asks ≡ returns → IsSynced (stack h s) =
    λ is. subst (λ z. IsSynced (stack h z)) answers.0 (returning_synced h e answers.2 (answers.1 ∙ is)) in
    let one = answer_law h l s run asks synced in
    one.2 e answers ∙ sym (one.2 f others)

-- the act of control that an act is
abbrev pub control_act : Act → Option ControlAct
control_act act.Spawn = Some spawns
control_act act.Sync = Some syncs
control_act act.Call = Some calls
control_act act.Return = Some returns
control_act asked = None

-- the event of an act of control and its answer
record IsControl (strand : ℕ) (asked : Act) (answer : Answer) (asks : ControlAct) : Type 0 where
  event : Event
  is_event : event_between strand asked answer ≡ Some event
  by_strand : strand_of event ≡ strand
  by_act : control_act_of event ≡ asks

event_there : (strand : ℕ) (asked : Act) (answer : Answer) (asks : ControlAct) → Belongs asked answer → control_act asked ≡ Some asks → IsControl strand asked answer asks
event_there s act.Spawn (Split x) asks b e = record { event = split s x.child x.next x.join x.first; is_event = refl; by_strand = refl; by_act = cc }
event_there s act.Spawn answer asks b e = absurd b
event_there s act.Sync Same asks b e = record { event = same s; is_event = refl; by_strand = refl; by_act = cc }
event_there s act.Sync (Joined j) asks b e = record { event = joined s j; is_event = refl; by_strand = refl; by_act = cc }
event_there s act.Sync Waits asks b e = record { event = waits s; is_event = refl; by_strand = refl; by_act = cc }
event_there s act.Sync answer asks b e = absurd b
event_there s act.Call Same asks b e = record { event = call s; is_event = refl; by_strand = refl; by_act = cc }
event_there s act.Call answer asks b e = absurd b
event_there s act.Return Resumed asks b e = record { event = resumed s; is_event = refl; by_strand = refl; by_act = cc }
event_there s act.Return Ended asks b e = record { event = ended s; is_event = refl; by_strand = refl; by_act = cc }
event_there s act.Return (EndedJoined j) asks b e = record { event = ended_joined s j; is_event = refl; by_strand = refl; by_act = cc }
event_there s act.Return Finished asks b e = record { event = finished s; is_event = refl; by_strand = refl; by_act = cc }
event_there s act.Return answer asks b e = absurd b
event_there s asked answer asks b e = absurd (cc)

-- an access has no event
pub no_event : (strand : ℕ) (asked : Act) (answer : Answer) → control_act asked ≡ None → event_between strand asked answer ≡ None
no_event s act.Spawn answer e = absurd (cc)
no_event s act.Sync answer e = absurd (cc)
no_event s act.Call answer e = absurd (cc)
no_event s act.Return answer e = absurd (cc)
no_event s asked answer e = refl

pub access_no_control : (asked : Act) → IsAccess asked → control_act asked ≡ None
access_no_control act.Spawn (found, e) = absurd (cc)
access_no_control act.Sync (found, e) = absurd (cc)
access_no_control act.Call (found, e) = absurd (cc)
access_no_control act.Return (found, e) = absurd (cc)
access_no_control asked i = refl

pub access_no_event : (entry : Entry) → IsAccess entry.request.act → event_of entry ≡ None
access_no_event e i = no_event e.request.strand e.request.act e.answer (access_no_control e.request.act i)

-- one strand's acts have one event where they are the same act of control, or accesses both
pub same_event : (shape other_shape : Shape) (entries others : Entries) (entry other : Entry) → IsLegal shape (entry ∷ entries) → IsLegal other_shape (other ∷ others) →
    control_part entries ≡ control_part others → other.request.strand ≡ entry.request.strand →
    control_act other.request.act ≡ control_act entry.request.act → control_part (entry ∷ entries) ≡ control_part (other ∷ others)
same_event shape other_shape H G e f l i parts strands acts = go (control_act e.request.act) refl
  where
    alike : event_of e ≡ event_of f → control_part (e ∷ H) ≡ control_part (f ∷ G)
    alike events = ap₂ with_event events parts

    go : (sort : Option ControlAct) → control_act e.request.act ≡ sort → control_part (e ∷ H) ≡ control_part (f ∷ G)
    go None is = alike (no_event e.request.strand e.request.act e.answer is ∙ sym (no_event f.request.strand f.request.act f.answer (acts ∙ is)))
    go (Some asks) is =
        let one = event_there e.request.strand e.request.act e.answer asks l.1.belongs is in
        let two = event_there f.request.strand f.request.act f.answer asks i.1.belongs (acts ∙ is) in
        let allowed : Allowed (control_part H) one.event =
        subst (λ found. MatchOption found (Unit {0}) (Allowed (control_part H))) one.is_event l.1.allowed in
        let other_allowed : Allowed (control_part G) two.event =
        subst (λ found. MatchOption found (Unit {0}) (Allowed (control_part G))) two.is_event i.1.allowed in
        let answers : Answers (control_part H) e.request.strand asks one.event = (one.by_strand, one.by_act, allowed) in
        let others : Answers (control_part H) e.request.strand asks two.event =
        (two.by_strand ∙ strands, two.by_act, subst (λ h. Allowed h two.event) (sym parts) other_allowed) in
        alike (one.is_event ∙ ap (λ z. Some z) (one_event (control_part H) (legal_part shape H l.0) e.request.strand l.1.runs asks one.event two.event answers others) ∙ sym two.is_event)
