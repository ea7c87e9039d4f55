use Rattle.std.proofs.Common.{drop, ◌+◌, Some, refl, sym, ap, ◌∙◌, arith, length}
use Rattle.text_words.specs.Declarations.{cells_of}
use Rattle.serial_elision.specs.States.{state_of, store_of, monoids_in, callers_of, left_at}
use Rattle.serial_elision.proofs.Soundness.{next_fits, next_within, within, reducer_fits, reducer_known}
use Rattle.serial_elision.proofs.Reducing.{update_makes, put_makes}
use Rattle.serial_elision.proofs.Evaluations.{get_leads}
use Rattle.serial_elision.proofs.Elisions.{moved_stands, viewed_stands, line_makes}
use Rattle.serial_elision.proofs.elision.Elision.reduce.Goals as goal

pub returns-in-Update-clause-stands : goal.returns-in-Update-clause-stands
returns-in-Update-clause-stands g c =
    let p = c.args.program.now in
    let before = state_of c.args.self.now in
    let code = c.args.function.now in
    viewed_stands p.functions (monoids_in p) (cells_of p.mems) before code c.requires.going.here _ _ c.in-Update.reducer _ _ c.requires.going.stands (next_within (cells_of p.mems) (length p.reducers) p.functions p.sound before.top.function code c.requires.going.here before.top.place _ (c.requires.at ∙ ap Some c.in-Update.is)) (reducer_known p (state_of c.args.self.now) c.requires.going.stands c.in-Update.reducer (within (cells_of p.mems) (length p.reducers) p.functions p.sound before.top.function code c.requires.going.here before.top.place _ (c.requires.at ∙ ap Some c.in-Update.is))) c.update.ensures.fits c.update.ensures.state

pub returns-in-Update-clause-makes : goal.returns-in-Update-clause-makes
returns-in-Update-clause-makes g c =
    let p = c.args.program.now in
    update_makes p.functions (monoids_in p) (cells_of p.mems) (state_of c.args.self.now) c.args.function.now c.requires.going.here c.requires.going.going c.requires.going.quiet c.requires.going.stands.same_monoids c.in-Update.line c.in-Update.reducer c.in-Update.value _ (c.requires.at ∙ ap Some c.in-Update.is) c.update.ensures.state

pub returns-in-Put-clause-stands : goal.returns-in-Put-clause-stands
returns-in-Put-clause-stands g c =
    let p = c.args.program.now in
    let before = state_of c.args.self.now in
    let code = c.args.function.now in
    viewed_stands p.functions (monoids_in p) (cells_of p.mems) before code c.requires.going.here _ _ c.in-Put.reducer _ _ c.requires.going.stands (next_within (cells_of p.mems) (length p.reducers) p.functions p.sound before.top.function code c.requires.going.here before.top.place _ (c.requires.at ∙ ap Some c.in-Put.is)) (reducer_known p (state_of c.args.self.now) c.requires.going.stands c.in-Put.reducer (within (cells_of p.mems) (length p.reducers) p.functions p.sound before.top.function code c.requires.going.here before.top.place _ (c.requires.at ∙ ap Some c.in-Put.is))) c.put.ensures.fits c.put.ensures.state

pub returns-in-Put-clause-makes : goal.returns-in-Put-clause-makes
returns-in-Put-clause-makes g c =
    let p = c.args.program.now in
    put_makes p.functions (monoids_in p) (cells_of p.mems) (state_of c.args.self.now) c.args.function.now c.requires.going.here c.requires.going.going c.requires.going.quiet c.requires.going.stands.same_monoids c.in-Put.line c.in-Put.reducer c.in-Put.value _ (c.requires.at ∙ ap Some c.in-Put.is) c.put.ensures.state

pub returns-in-Get-clause-stands : goal.returns-in-Get-clause-stands
returns-in-Get-clause-stands g c =
    let p = c.args.program.now in
    let before = state_of c.args.self.now in
    let code = c.args.function.now in
    moved_stands p.functions (monoids_in p) (cells_of p.mems) before code c.requires.going.here _ _ _ c.requires.going.stands (next_within (cells_of p.mems) (length p.reducers) p.functions p.sound before.top.function code c.requires.going.here before.top.place _ (c.requires.at ∙ ap Some c.in-Get.is)) c.get.ensures

pub returns-in-Get-clause-makes : goal.returns-in-Get-clause-makes
returns-in-Get-clause-makes g c =
    let p = c.args.program.now in
    let before = state_of c.args.self.now in
    let code = c.args.function.now in
    line_makes p.functions (monoids_in p) (cells_of p.mems) before code c.requires.going.here c.requires.going.going c.requires.going.quiet _ (c.requires.at ∙ ap Some c.in-Get.is) 1 (before.top.place + 1) _ _ _ _ refl (λ z. absurd (omega (arith, z)))
    (get_leads p.functions (monoids_in p) code.end_line (callers_of p.functions before.callers) (left_at code.end_line (drop (before.top.place + 1) code.body)) before.top.registers (store_of before) c.in-Get.line c.in-Get.reducer c.in-Get.register)
    c.get.ensures

pub update-requires-clause-place : goal.update-requires-clause-place
update-requires-clause-place g c =
    let p = c.args.program.now in
    let before = state_of c.args.self.now in
    next_fits (cells_of p.mems) (length p.reducers) p.functions p.sound before.top.function c.args.function.now c.requires.going.here before.top.place _ (c.requires.at ∙ ap Some c.in-Update.is)

pub update-requires-clause-known : goal.update-requires-clause-known
update-requires-clause-known g c =
    let p = c.args.program.now in
    let before = state_of c.args.self.now in
    reducer_known p before c.requires.going.stands c.in-Update.reducer (within (cells_of p.mems) (length p.reducers) p.functions p.sound before.top.function c.args.function.now c.requires.going.here before.top.place _ (c.requires.at ∙ ap Some c.in-Update.is))

pub update-requires-clause-count : goal.update-requires-clause-count
update-requires-clause-count g c = c.requires.going.stands.views ∙ ap (λ monoids. length monoids) (sym c.requires.going.stands.same_monoids)

pub put-requires-clause-place : goal.put-requires-clause-place
put-requires-clause-place g c =
    let p = c.args.program.now in
    let before = state_of c.args.self.now in
    next_fits (cells_of p.mems) (length p.reducers) p.functions p.sound before.top.function c.args.function.now c.requires.going.here before.top.place _ (c.requires.at ∙ ap Some c.in-Put.is)

pub put-requires-clause-known : goal.put-requires-clause-known
put-requires-clause-known g c =
    let p = c.args.program.now in
    let before = state_of c.args.self.now in
    reducer_known p before c.requires.going.stands c.in-Put.reducer (within (cells_of p.mems) (length p.reducers) p.functions p.sound before.top.function c.args.function.now c.requires.going.here before.top.place _ (c.requires.at ∙ ap Some c.in-Put.is))

pub put-requires-clause-count : goal.put-requires-clause-count
put-requires-clause-count g c = c.requires.going.stands.views ∙ ap (λ monoids. length monoids) (sym c.requires.going.stands.same_monoids)

pub get-requires-clause-place : goal.get-requires-clause-place
get-requires-clause-place g c =
    let p = c.args.program.now in
    let before = state_of c.args.self.now in
    next_fits (cells_of p.mems) (length p.reducers) p.functions p.sound before.top.function c.args.function.now c.requires.going.here before.top.place _ (c.requires.at ∙ ap Some c.in-Get.is)

pub get-requires-clause-known : goal.get-requires-clause-known
get-requires-clause-known g c =
    let p = c.args.program.now in
    let before = state_of c.args.self.now in
    reducer_known p before c.requires.going.stands c.in-Get.reducer (within (cells_of p.mems) (length p.reducers) p.functions p.sound before.top.function c.args.function.now c.requires.going.here before.top.place _ (c.requires.at ∙ ap Some c.in-Get.is))

pub update-requires-clause-fits : goal.update-requires-clause-fits
update-requires-clause-fits g c =
    let p = c.args.program.now in
    let before = state_of c.args.self.now in
    reducer_fits p before c.requires.going.stands c.in-Update.reducer (within (cells_of p.mems) (length p.reducers) p.functions p.sound before.top.function c.args.function.now c.requires.going.here before.top.place _ (c.requires.at ∙ ap Some c.in-Update.is))

pub update-requires-clause-begun : goal.update-requires-clause-begun
update-requires-clause-begun g c = c.requires.going.going

pub put-requires-clause-begun : goal.put-requires-clause-begun
put-requires-clause-begun g c = c.requires.going.going

pub get-requires-clause-begun : goal.get-requires-clause-begun
get-requires-clause-begun g c = c.requires.going.going
