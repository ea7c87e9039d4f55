use Rattle.std.proofs.Common.{drop, ◌+◌, Some, refl, ap, ◌∙◌, arith, length}
use Rattle.text_words.specs.Declarations.{cells_of}
use Rattle.serial_elision.specs.States.{state_of, store_of, monoids_in, callers_of, left_at}
use Rattle.serial_elision.proofs.Soundness.{next_fits, next_within}
use Rattle.serial_elision.proofs.Evaluations.{sync_leads}
use Rattle.serial_elision.proofs.Elisions.{moved_stands, line_makes}
use Rattle.serial_elision.proofs.elision.Elision.perform.Goals as goal

pub returns-in-Sync-clause-stands : goal.returns-in-Sync-clause-stands
returns-in-Sync-clause-stands g c =
    let p = c.args.program.now in
    let before = state_of c.args.self.now in
    let code = c.args.function.now in
    moved_stands p.functions (monoids_in p) (cells_of p.mems) before code c.requires.going.here _ _ _ c.requires.going.stands (next_within (cells_of p.mems) (length p.reducers) p.functions p.sound before.top.function code c.requires.going.here before.top.place _ (c.requires.at ∙ ap Some c.in-Sync.is)) c.skip.ensures

pub returns-in-Sync-clause-makes : goal.returns-in-Sync-clause-makes
returns-in-Sync-clause-makes g c =
    let p = c.args.program.now in
    let before = state_of c.args.self.now in
    let code = c.args.function.now in
    line_makes p.functions (monoids_in p) (cells_of p.mems) before code c.requires.going.here c.requires.going.going c.requires.going.quiet _ (c.requires.at ∙ ap Some c.in-Sync.is) 1 (before.top.place + 1) _ _ _ _ refl (λ z. absurd (omega (arith, z)))
    (sync_leads p.functions (monoids_in p) code.end_line (callers_of p.functions before.callers) (left_at code.end_line (drop (before.top.place + 1) code.body)) before.top.registers (store_of before) c.in-Sync.line)
    c.skip.ensures

pub skip-requires-clause-place : goal.skip-requires-clause-place
skip-requires-clause-place g c =
    let p = c.args.program.now in
    let before = state_of c.args.self.now in
    next_fits (cells_of p.mems) (length p.reducers) p.functions p.sound before.top.function c.args.function.now c.requires.going.here before.top.place _ (c.requires.at ∙ ap Some c.in-Sync.is)

pub skip-requires-clause-begun : goal.skip-requires-clause-begun
skip-requires-clause-begun g c = c.requires.going.going
