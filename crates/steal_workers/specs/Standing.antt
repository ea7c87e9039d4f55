-- A frame stands in a program in one way at most. It is said here since the field of a task that keeps the fact cites it.
use Rattle.std.specs.Prelude.{◌≡◌, ℕ, List, length, Option, Some, slice_get}
use Rattle.std.proofs.lemmas.Option.{same_Some}
use mathlib.Core.Path.{sym, ◌∙◌}
use mathlib.Core.HLevel.{Σ_prop_path, ×_prop, ×₃_prop, Π_prop, →_prop, Unit-prop}
use native.Mathlib.Bridge.{le_prop}
use Rattle.model_accesses.specs.declared.request.Act.{Act}
use Rattle.model_bodies.specs.declared.statement.Statement.{Statement}
use Rattle.model_bodies.specs.Codes.{Code}
use Rattle.frame_steps.specs.declared.activation.Turn.{Turn}
use Rattle.frame_steps.specs.declared.activation.Turn.TheVariants.{Plainly, Numbering, Spawning, Returning}
use Rattle.frame_steps.specs.declared.activation.Activation.{Activation}
use Rattle.frame_steps.specs.Activations.{statement_of, asked_act, IsTurn, StandsIn, IsInPlace}
use Rattle.frame_steps.specs.States.{FrameState}
use Rattle.frame_steps.specs.Frames.{Stands, IsAsking}

-- an option holds one thing at most
held_once : {T : Type 0} → IsSet (Option T) → (o : Option T) → (P : T → Type 0) → ((t : T) → IsProp (P t)) →
    IsProp ((t : T) × ((o ≡ Some t) × P t))
held_once {T} set o P once u v =
    Σ_prop_path {B = λ (t : T). (o ≡ Some t) × P t} (λ t. ×_prop (set o (Some t)) (once t))
    {u = u} {v = v} (same_Some u.0 v.0 (sym u.1.0 ∙ v.1.0))

turn_once : (functions : ℕ) (turn : Turn) → IsProp (IsTurn functions turn)
turn_once functions Plainly = Unit-prop
turn_once functions (Numbering line register function number count) = ×_prop le_prop le_prop
turn_once functions (Spawning line register function number count) = ×₃_prop le_prop le_prop le_prop
turn_once functions Returning = Unit-prop

stands_in_once : (functions : ℕ) (body : List Statement) (activation : Activation) → IsProp (StandsIn functions body activation)
stands_in_once functions body activation u v =
    λ i. record { within = le_prop u.within v.within i; turn = turn_once functions activation.turn u.turn v.turn i }

in_place_once : IsSet (Option Code) → (functions : List Code) (activation : Activation) → IsProp (IsInPlace functions activation)
in_place_once codes functions activation u v =
    let once = held_once codes (slice_get functions activation.function)
    (λ code. StandsIn (length functions) code.body activation)
    (λ code. stands_in_once (length functions) code.body activation) in
    let same = once (u.code, (u.known, u.stands)) (v.code, (v.known, v.stands)) in
    λ i. record { code = (same i).0; known = (same i).1.0; stands = (same i).1.1 }

asking_once : IsSet (Option Act) → (functions : List Code) (activation : Activation) → IsProp (IsAsking functions activation)
asking_once acts functions activation u v =
    Σ_prop_path {B = λ (act : Act). asked_act (statement_of functions activation) activation.registers ≡ Some act}
    (λ act. acts _ (Some act)) {u = u} {v = v} (same_Some u.0 v.0 (sym u.1 ∙ v.1))

pub stands_once : IsSet (Option Code) → IsSet (Option Act) → (functions : List Code) (frame : FrameState) → IsProp (Stands functions frame)
stands_once codes acts functions frame u v =
    let callers = Π_prop (λ index. Π_prop (λ caller. →_prop (in_place_once codes functions caller))) in
    let asking = →_prop (asking_once acts functions frame.top) in
    λ i. record {
      top = in_place_once codes functions frame.top u.top v.top i;
      callers = callers u.callers v.callers i;
      asking = asking u.asking v.asking i;
    }
