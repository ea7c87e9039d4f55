-- What an event leaves of the strands that do not make it.
use Rattle.std.proofs.Common.{◌≡◌, ◌≢◌, inl, ℕ, ◌<◌, true, false, ◌∷◌, refl, ◌∙◌, arith}
use Rattle.model_strands.specs.Updated.{updated}
use Rattle.model_strands.specs.History.{Event, split, same, joined, waits, call, resumed, ended, ended_joined, finished, History}
use Rattle.model_strands.specs.Strands.{running, over, status, Running, Begun, unused}
use Rattle.model_strands.specs.Blocks.{stack}
use Rattle.model_strands.specs.Legal.{Allowed, open_split, next_split, sync_same, sync_joined, sync_waits, function_call, called_return, child_return, last_return, root_return, Legal, then}
use Rattle.law_strands.proofs.Updates.{updated_off, updated_case}
use Rattle.law_strands.proofs.Places.{Seen, at_child, at_next, at_join, at_spawner, elsewhere}
use Rattle.law_strands.proofs.Range.{ranges, numbered}
use Rattle.law_strands.proofs.Law.{begun_below}
use Rattle.model_serial_runs.specs.Current.{strand_of}
use Rattle.law_serial_runs.specs.Laws.{StackLaw}

-- who makes an event runs
pub event_runs : {h : History} (event : Event) → Allowed h event → Running h (strand_of event)
event_runs (split s c n j true) (open_split run sy ce ne je) = run
event_runs (split s c n j false) (next_split run st ce ne) = run
event_runs (same s) (sync_same run sy) = run
event_runs (joined s j) (sync_joined run st none) = run
event_runs (waits s) (sync_waits run st m some) = run
event_runs (call s) (function_call run) = run
event_runs (resumed s) (called_return run st) = run
event_runs (ended s) (child_return run st last) = run
event_runs (ended_joined s j) (last_return run st last) = run
event_runs (finished s) (root_return run st) = run

pub stack_stays : {h : History} {e : Event} → Legal (e ∷ h) → (strand : ℕ) → Begun h strand → strand ≢ strand_of e → stack (e ∷ h) strand ≡ stack h strand
stack_stays (then {history = h} {event = split s c n j true} l (open_split run sy ce ne je)) x b ns =
    let lt : x < unused h = begun_below h (ranges l) x b in
    updated_off _ j _ x (λ e. omega arith) ∙ (updated_off _ n _ x (λ e. omega arith) ∙ updated_off _ c _ x (λ e. omega arith))
stack_stays (then {history = h} {event = split s c n j false} l (next_split run st ce ne)) x b ns =
    let lt : x < unused h = begun_below h (ranges l) x b in
    updated_off _ n _ x (λ e. omega arith) ∙ updated_off _ c _ x (λ e. omega arith)
stack_stays (then {history = h} {event = same s} l a) x b ns = refl
stack_stays (then {history = h} {event = joined s j} l a) x b ns = refl
stack_stays (then {history = h} {event = waits s} l a) x b ns = refl
stack_stays (then {history = h} {event = call s} l a) x b ns = updated_off (stack h) s _ x ns
stack_stays (then {history = h} {event = resumed s} l a) x b ns = updated_off (stack h) s _ x ns
stack_stays (then {history = h} {event = ended s} l a) x b ns = refl
stack_stays (then {history = h} {event = ended_joined s j} l a) x b ns = refl
stack_stays (then {history = h} {event = finished s} l a) x b ns = refl

still_running : (history : History) (strand one : ℕ) → one ≢ strand → Running history one → updated (status history) strand over one ≡ running
still_running h s x ne run = updated_off (status h) s over x ne ∙ run

still_running_join : (history : History) (strand its_join one : ℕ) → one ≢ strand → Running history one →
    updated (updated (status history) strand over) its_join running one ≡ running
still_running_join h s j x ne run = updated_case (λ t. t ≡ running) (updated (status h) s over) j running x (λ e. refl) (λ nj. still_running h s x ne run)

pub running_stays : {h : History} {e : Event} → Legal (e ∷ h) → (strand : ℕ) → strand ≢ strand_of e → Running h strand → Running (e ∷ h) strand
running_stays (then {history = h} {event = split s c n j first} l a) x ns run = go ((numbered h s c n j first (ranges l) a).see x)
  where
    lt : x < unused h
    lt = begun_below h (ranges l) x (inl run)

    go : Seen h s c n j first x → Running (split s c n j first ∷ h) x
    go (at_child e g p q) = g
    go (at_next e g p q) = g
    go (at_join e lo t g p q) = absurd (omega (arith, lt))
    go (at_spawner e g p q) = absurd (ns e)
    go (elsewhere ne k g p q) = g ∙ run
running_stays (then {history = h} {event = same s} l a) x ns run = run
running_stays (then {history = h} {event = joined s j} l a) x ns run = still_running_join h s j x ns run
running_stays (then {history = h} {event = waits s} l a) x ns run = still_running h s x ns run
running_stays (then {history = h} {event = call s} l a) x ns run = run
running_stays (then {history = h} {event = resumed s} l a) x ns run = run
running_stays (then {history = h} {event = ended s} l a) x ns run = still_running h s x ns run
running_stays (then {history = h} {event = ended_joined s j} l a) x ns run = still_running_join h s j x ns run
running_stays (then {history = h} {event = finished s} l a) x ns run = still_running h s x ns run

pub stack_law : StackLaw
stack_law h e l x b ns = stack_stays l x b ns
