use Rattle.std.proofs.Common.{◌≡◌, ◌-◌, ◌<◌, suc, refl, ap, ◌∙◌, subst, arith}
use Rattle.text_words.specs.Declarations.{cells_of}
use Rattle.serial_elision.specs.States.{state_of, monoids_in, are_turns, with_begun}
use Rattle.frame_steps.proofs.Places.{found}
use Rattle.serial_elision.proofs.Elisions.{turns_over, stopped_stands, turned_stands, turn_makes, callee_known}
use Rattle.serial_elision.proofs.elision.Elision.turn.Goals as goal

pub set_turns-requires : goal.set_turns-requires
set_turns-requires g c = c.requires.going

pub count_turn-requires-clause-begun : goal.count_turn-requires-clause-begun
count_turn-requires-clause-begun g c = c.requires.going

pub count_turn-requires-clause-some : goal.count_turn-requires-clause-some
count_turn-requires-clause-some g c = let k = c.if-turns-eq0.false in omega (arith, k)

pub count_turn-requires-clause-fits : goal.count_turn-requires-clause-fits
count_turn-requires-clause-fits g c =
    let t = subst (λ o. are_turns c.args.program.now.functions o) c.requires.turns c.requires.stands.top.turning in
    let few = t.1 in
    let k = c.if-turns-eq0.false in
    omega (arith, few, k)

pub begin-requires : goal.begin-requires
begin-requires g c = ap (λ s. s.over) c.count_turn.ensures ∙ c.requires.going

pub returns-then-turns-eq0-clause-stands : goal.returns-then-turns-eq0-clause-stands
returns-then-turns-eq0-clause-stands g c =
    let p = c.args.program.now in
    stopped_stands p.functions (monoids_in p) (cells_of p.mems) (state_of c.args.self.now) _ c.requires.stands c.set_turns.ensures

pub returns-then-turns-eq0-clause-makes : goal.returns-then-turns-eq0-clause-makes
returns-then-turns-eq0-clause-makes g c =
    let p = c.args.program.now in
    let before = state_of c.args.self.now in
    let f = found p.functions before.top.function c.requires.stands.top.known in
    turns_over p.functions (monoids_in p) before f.0 c.args.turns f.1 c.requires.going c.requires.turns _ c.if-turns-eq0.true c.set_turns.ensures

pub returns-in_ok-begin-clause-stands : goal.returns-in_ok-begin-clause-stands
returns-in_ok-begin-clause-stands g c =
    let p = c.args.program.now in
    let before = state_of c.args.self.now in
    let turns = c.args.turns in
    let f = found p.functions before.top.function c.requires.stands.top.known in
    let some : 0 < turns.left = let k = c.if-turns-eq0.false in omega (arith, k) in
    turned_stands p.functions (monoids_in p) before f.0 turns f.1 c.requires.going c.requires.turns (cells_of p.mems) turns.register.index _ refl c.requires.stands some (c.in_ok-begin.ensures ∙ ap (λ s. with_begun s s.top turns.function turns.number) c.count_turn.ensures)

pub returns-in_ok-begin-clause-makes : goal.returns-in_ok-begin-clause-makes
returns-in_ok-begin-clause-makes g c =
    let p = c.args.program.now in
    let before = state_of c.args.self.now in
    let turns = c.args.turns in
    let f = found p.functions before.top.function c.requires.stands.top.known in
    let h = found p.functions turns.function (callee_known p.functions before turns c.requires.turns c.requires.stands.top.turning) in
    let some : turns.left ≡ suc (turns.left - 1) = let k = c.if-turns-eq0.false in omega (arith, k) in
    turn_makes p.functions (monoids_in p) before f.0 turns f.1 c.requires.going c.requires.turns (turns.left - 1) turns.register.index h.0 _ refl some h.1 (c.in_ok-begin.ensures ∙ ap (λ s. with_begun s s.top turns.function turns.number) c.count_turn.ensures)
