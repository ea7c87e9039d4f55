-- The control part of a history of entries.
use Rattle.std.proofs.Common.{◌≡◌, ◌<◌, ℕ, Option, Some, None, [], ◌∷◌, ◌++◌, Contains, refl, ap, ◌∙◌, arith}
use Rattle.std.specs.Prelude.{MatchOption}
use Rattle.model_accesses.specs.declared.request.Act.{Act}
use Rattle.model_accesses.specs.declared.request.Act.TheVariants.{Update, Put}
use Rattle.model_strands.specs.History.{Event, History}
use Rattle.model_strands.specs.Legal.{Allowed, Legal, start, then as grown}
use Rattle.model_strands.specs.Extensions.{Extends}
use Rattle.model_reducers.specs.Steps.{Steps}
use Rattle.law_values.specs.Accesses.{control_steps}
use Rattle.model_histories.specs.declared.answer.Answer.{Answer}
use Rattle.model_histories.specs.declared.answer.Answer.TheVariants.{Granted}
use Rattle.model_histories.specs.Entries.{Entries, event_of, with_event, control_part}
use Rattle.model_histories.specs.Shapes.{Shape}
use Rattle.model_histories.specs.Legal.{IsLegal}
use Rattle.model_races.specs.Reducers.{step_with, steps_of}

-- the control part of a legal history is legal
legal_with : (event : Option Event) (h : History) → Legal h → MatchOption event (Unit {0}) (Allowed h) → Legal (with_event event h)
legal_with (Some event) h l allowed = grown l allowed
legal_with None h l allowed = l

pub legal_part : (shape : Shape) (H : Entries) → IsLegal shape H → Legal (control_part H)
legal_part shape [] l = start
legal_part shape (e ∷ H) l = legal_with (event_of e) (control_part H) (legal_part shape H l.0) l.1.allowed

-- and goes on as the history does
extends_with : (event : Option Event) (longer h : History) → Extends longer h → Extends (with_event event longer) h
extends_with (Some event) longer h (later, same) = (event ∷ later, ap (λ z. event ∷ z) same)
extends_with None longer h extends = extends

pub extends_part : (later H : Entries) → Extends (control_part (later ++ H)) (control_part H)
extends_part [] H = ([], refl)
extends_part (e ∷ later) H = extends_with (event_of e) (control_part (later ++ H)) (control_part H) (extends_part later H)

-- the events among the steps are those of the entries
access_steps : (strand : ℕ) (act : Act) (answer : Answer) (steps : Steps) → control_steps (step_with None strand act answer ∷ steps) ≡ control_steps steps
access_steps s (Update reducer value) Granted steps = refl
access_steps s (Put reducer value) Granted steps = refl
access_steps s act answer steps = refl

entry_steps : (event : Option Event) (strand : ℕ) (act : Act) (answer : Answer) (steps : Steps) →
    control_steps (step_with event strand act answer ∷ steps) ≡ with_event event (control_steps steps)
entry_steps (Some event) s act answer steps = refl
entry_steps None s act answer steps = access_steps s act answer steps

pub steps_control : (H : Entries) → control_steps (steps_of H) ≡ control_part H
steps_control [] = refl
steps_control (e ∷ H) =
    entry_steps (event_of e) e.request.strand e.request.act e.answer (steps_of H) ∙ ap (with_event (event_of e)) (steps_control H)

pub none_listed : {X : Type 0} (x : X) → Contains [] x → ⊥
none_listed x h = let below : h.0 < 0 = h.1 in absurd (omega arith)
