-- What is known of a statement of a sound program.
use Rattle.std.proofs.Common.{◌≡◌, ℕ, ◌+◌, ◌<◌, ◌≤◌, ◌^◌, List, Some, sym, subst, ap, ◌∙◌, arith, length}
use Rattle.std.specs.Prelude.{slice_get, slice_index_or, IsTrue, nat_lt}
use Rattle.std.proofs.lemmas.Bool.{ltb-true}
use Rattle.std.proofs.lemmas.List.{length-map}
use Rattle.text_words.specs.Declarations.{cells_of}
use Rattle.model_reducers.specs.declared.view.View.TheVariants.{Nothing}
use Rattle.reducer_views.specs.Products.{FitsMonoid}
use Rattle.model_reducers.specs.Products.{monoid_of}
use Rattle.program_text.specs.declared.program.Program.{Program}
use Rattle.serial_elision.specs.declared.activation.ElidedCall.{ElidedCall}
use Rattle.serial_elision.specs.States.{ElisionState, Stands, IsInPlace, length_in, monoids_in}
use Rattle.frame_steps.proofs.Places.{found}
use Rattle.std.proofs.lemmas.Option.{slice_get_within, get_or_from_slice_get}
use Rattle.model_bodies.specs.declared.statement.Statement.{Statement}
use Rattle.model_bodies.specs.Bodies.{EndsAt, part_end}
use Rattle.model_bodies.specs.Codes.{Code}
use Rattle.model_bodies.specs.Sound.{IsSoundBody, IsSound, is_within}

module _ (cells reducers : ℕ) (functions : List Code) (sound : IsSound cells reducers functions) (index : ℕ) (code : Code) (here : slice_get functions index ≡ Some code) where
  pub body_sound : IsSoundBody cells reducers (length functions) code.body
  body_sound = subst (λ c. IsSoundBody cells reducers (length functions) c.body) (get_or_from_slice_get functions index code code here) (sound index code (slice_get_within functions index code here))

  module _ (place : ℕ) (statement : Statement) (at : slice_get code.body place ≡ Some statement) where
    -- what the statement names is there
    pub within : IsTrue (is_within cells reducers (length functions) statement)
    within = subst (λ s. IsTrue (is_within cells reducers (length functions) s)) (get_or_from_slice_get code.body place statement statement at) (body_sound.within place statement (slice_get_within code.body place statement at))

    pub next_within : place + 1 ≤ length code.body
    next_within = let h = slice_get_within code.body place statement at in omega (arith, h)

    pub next_fits : place + 1 < 2 ^ 32
    next_fits = let h = next_within in let few = body_sound.few in omega (arith, h, few)

    -- where the part behind the statement ends
    pub part_ends : (to : ℕ) → part_end (Some statement) ≡ Some to → EndsAt code.body place to
    part_ends to e = body_sound.linked place to (ap part_end at ∙ e)

-- a reducer that a statement names has a view
pub reducer_known : {B : Type 0} (program : Program B) (state : ElisionState) → Stands program.functions (monoids_in program) (cells_of program.mems) state → (reducer : ℕ) → IsTrue (nat_lt reducer (length program.reducers)) → reducer < length state.views
reducer_known program state s reducer h =
    let a = ltb-true reducer (length program.reducers) h in
    let b = length-map program.reducers (λ reducer. reducer.monoid) in
    let c = s.views in
    omega (arith, a, b, c)

-- and that view fits its monoid
pub reducer_fits : {B : Type 0} (program : Program B) (state : ElisionState) → Stands program.functions (monoids_in program) (cells_of program.mems) state → (reducer : ℕ) → IsTrue (nat_lt reducer (length program.reducers)) → FitsMonoid (monoid_of state.monoids reducer) (slice_index_or state.views reducer Nothing)
reducer_fits program state s reducer h =
    let a = ltb-true reducer (length program.reducers) h in
    let b = length-map program.reducers (λ reducer. reducer.monoid) in
    subst (λ monoids. FitsMonoid (monoid_of monoids reducer) (slice_index_or state.views reducer Nothing)) (sym s.same_monoids) (s.fits reducer (omega (arith, a, b)))

-- a function stands at one of few places
pub few_places : (cells reducers : ℕ) (functions : List Code) → IsSound cells reducers functions → (activation : ElidedCall) → IsInPlace functions activation → activation.place < 100000
few_places cells reducers functions sound activation p =
    let f = found functions activation.function p.known in
    let few = (body_sound cells reducers functions sound activation.function f.0 f.1).few in
    let within = subst (λ o. activation.place ≤ length_in o) f.1 p.within in
    omega (arith, few, within)
