use Rattle.std.proofs.Common.{◌≡◌, ◌≤◌, ◌<◌, Some, ap, refl, sym, ◌∙◌, subst, length}
use Rattle.std.proofs.lemmas.Bool.{ltb-false, ltb-true}
use Rattle.std.proofs.lemmas.Option.{slice_get-get_or}
use Rattle.std.specs.Prelude.{slice_get}
use Rattle.text_words.specs.Declarations.{cells_of}
use Rattle.serial_elision.specs.States.{state_of, monoids_in}
use Rattle.serial_elision.proofs.Elisions.{left_stands, left_makes}
use Rattle.serial_elision.proofs.elision.Elision.step.Goals as goal

pub returns-in-None-clause-stands : goal.returns-in-None-clause-stands
returns-in-None-clause-stands g c = left_stands c.args.program.now.functions (monoids_in c.args.program.now) (cells_of c.args.program.now.mems) (state_of c.args.self.now) (state_of c.leave.new.self) c.requires.stands c.leave.ensures

pub returns-in-None-clause-makes : goal.returns-in-None-clause-makes
returns-in-None-clause-makes g c =
    let p = c.args.program.now in
    let code = c.function_at-function.result.now in
    let body : c.as_slice.result.now ≡ code.body = c.as_slice.ensures ∙ ap (λ f. f.body) c.function.view_is in
    let place = c.top-top.result.now.place in
    let here : place ≡ (state_of c.args.self.now).top.place = ap (λ t. t.place) c.top-top.ensures in
    let ends : length code.body ≤ place = subst (λ b. length b ≤ place) body (ltb-false _ _ (sym c.in-None.ensures.lookup.0)) in
    left_makes p.functions (monoids_in p) (state_of c.args.self.now) (state_of c.leave.new.self) code (subst (λ t. slice_get c.args.program.now.functions t.function ≡ Some c.function_at-function.result.now) c.top-top.ensures c.function_at-function.ensures) c.requires.going (ap (λ t. t.turns) (sym c.top-top.ensures) ∙ c.in_default.is) (subst (λ k. length code.body ≤ k) here ends) c.leave.ensures

pub perform-requires-clause-going : goal.perform-requires-clause-going
perform-requires-clause-going g c = record { stands = c.requires.stands; going = c.requires.going; quiet = ap (λ t. t.turns) (sym c.top-top.ensures) ∙ c.in_default.is; here = subst (λ t. slice_get c.args.program.now.functions t.function ≡ Some c.function_at-function.result.now) c.top-top.ensures c.function_at-function.ensures }

pub turn-requires-clause-stands : goal.turn-requires-clause-stands
turn-requires-clause-stands g c = c.requires.stands

pub turn-requires-clause-going : goal.turn-requires-clause-going
turn-requires-clause-going g c = c.requires.going

pub turn-requires-clause-turns : goal.turn-requires-clause-turns
turn-requires-clause-turns g c = ap (λ t. t.turns) (sym c.top-top.ensures) ∙ c.in-Some.is

pub returns-in-Some-clause-stands : goal.returns-in-Some-clause-stands
returns-in-Some-clause-stands g c = c.turn.ensures.stands

pub returns-in-Some-clause-makes : goal.returns-in-Some-clause-makes
returns-in-Some-clause-makes g c = c.turn.ensures.makes

pub function_at-function-requires : goal.function_at-function-requires
function_at-function-requires g c = subst (λ t. t.function < length c.args.program.now.functions) (sym c.top-top.ensures) c.requires.stands.top.known

pub get-requires : goal.get-requires
get-requires g c = λ k. (refl, tt)

pub perform-requires-clause-at : goal.perform-requires-clause-at
perform-requires-clause-at g c =
    let here = c.in-Some-get.ensures.lookup in
    let statement = c.in-Some-get.statement.now in
    let place = c.top-top.result.now.place in
    let body : c.as_slice.result.now ≡ c.function_at-function.result.now.body = c.as_slice.ensures ∙ ap (λ f. f.body) c.function.view_is in
    subst (λ t. slice_get c.function_at-function.result.now.body t.place ≡ Some statement) c.top-top.ensures (subst (λ b. slice_get b place ≡ Some statement) body (slice_get-get_or c.as_slice.result.now place statement (ltb-true _ _ (sym here.0)) ∙ ap Some (sym here.1)))

pub leave-requires : goal.leave-requires
leave-requires g c = c.requires.going

pub returns-in-Some-get-clause-stands : goal.returns-in-Some-get-clause-stands
returns-in-Some-get-clause-stands g c = c.perform.ensures.stands

pub returns-in-Some-get-clause-makes : goal.returns-in-Some-get-clause-makes
returns-in-Some-get-clause-makes g c = c.perform.ensures.makes

pub top-top-requires : goal.top-top-requires
top-top-requires g c = c.requires.going
