use Rattle.std.proofs.Common.{◌<◌, drop, ◌+◌, Some, refl, sym, ap, ◌∙◌, subst, arith, length}
use Rattle.text_words.specs.Declarations.{cells_of}
use Rattle.model_accesses.specs.declared.request.Act.{Act}
use Rattle.model_programs.specs.Values.{cell_of, value_of}
use Rattle.frame_steps.proofs.Located.{placed, named}
use Rattle.model_bodies.specs.declared.statement.Statement.TheVariants.{Read, Write, Bump}
use Rattle.serial_elision.specs.States.{state_of, store_of, monoids_in, callers_of, left_at}
use Rattle.serial_elision.proofs.Soundness.{next_fits, next_within, within}
use Rattle.serial_elision.proofs.Evaluations.{read_leads, write_leads, bump_leads}
use Rattle.serial_elision.proofs.Elisions.{moved_stands, stored_stands, line_makes}
use Rattle.serial_elision.proofs.elision.Elision.access.Goals as goal

pub returns-in-Read-clause-stands : goal.returns-in-Read-clause-stands
returns-in-Read-clause-stands g c =
    let p = c.args.program.now in
    let before = state_of c.args.self.now in
    let code = c.args.function.now in
    moved_stands p.functions (monoids_in p) (cells_of p.mems) before code c.requires.going.here _ _ _ c.requires.going.stands (next_within (cells_of p.mems) (length p.reducers) p.functions p.sound before.top.function code c.requires.going.here before.top.place _ (c.requires.at ∙ ap Some c.in-Read.is)) c.read.ensures

pub returns-in-Read-clause-makes : goal.returns-in-Read-clause-makes
returns-in-Read-clause-makes g c =
    let p = c.args.program.now in
    let before = state_of c.args.self.now in
    let code = c.args.function.now in
    line_makes p.functions (monoids_in p) (cells_of p.mems) before code c.requires.going.here c.requires.going.going c.requires.going.quiet _ (c.requires.at ∙ ap Some c.in-Read.is) 1 (before.top.place + 1) _ _ _ _ refl (λ z. absurd (omega (arith, z)))
    (read_leads p.functions (monoids_in p) code.end_line (callers_of p.functions before.callers) (left_at code.end_line (drop (before.top.place + 1) code.body)) before.top.registers (store_of before) c.in-Read.line c.in-Read.register c.in-Read.location)
    c.read.ensures

pub returns-in-Write-clause-stands : goal.returns-in-Write-clause-stands
returns-in-Write-clause-stands g c =
    let p = c.args.program.now in
    let before = state_of c.args.self.now in
    let code = c.args.function.now in
    stored_stands p.functions (monoids_in p) (cells_of p.mems) before code c.requires.going.here _ _ _ _ _ c.requires.going.stands (next_within (cells_of p.mems) (length p.reducers) p.functions p.sound before.top.function code c.requires.going.here before.top.place _ (c.requires.at ∙ ap Some c.in-Write.is)) c.write.ensures

pub returns-in-Write-clause-makes : goal.returns-in-Write-clause-makes
returns-in-Write-clause-makes g c =
    let p = c.args.program.now in
    let before = state_of c.args.self.now in
    let code = c.args.function.now in
    line_makes p.functions (monoids_in p) (cells_of p.mems) before code c.requires.going.here c.requires.going.going c.requires.going.quiet _ (c.requires.at ∙ ap Some c.in-Write.is) 1 (before.top.place + 1) _ _ _ _ refl (λ z. absurd (omega (arith, z)))
    (write_leads p.functions (monoids_in p) code.end_line (callers_of p.functions before.callers) (left_at code.end_line (drop (before.top.place + 1) code.body)) before.top.registers (store_of before) c.in-Write.line c.in-Write.location c.in-Write.value)
    c.write.ensures

pub returns-in-Bump-clause-stands : goal.returns-in-Bump-clause-stands
returns-in-Bump-clause-stands g c =
    let p = c.args.program.now in
    let before = state_of c.args.self.now in
    let code = c.args.function.now in
    stored_stands p.functions (monoids_in p) (cells_of p.mems) before code c.requires.going.here _ _ _ _ _ c.requires.going.stands (next_within (cells_of p.mems) (length p.reducers) p.functions p.sound before.top.function code c.requires.going.here before.top.place _ (c.requires.at ∙ ap Some c.in-Bump.is)) c.bump.ensures

pub returns-in-Bump-clause-makes : goal.returns-in-Bump-clause-makes
returns-in-Bump-clause-makes g c =
    let p = c.args.program.now in
    let before = state_of c.args.self.now in
    let code = c.args.function.now in
    line_makes p.functions (monoids_in p) (cells_of p.mems) before code c.requires.going.here c.requires.going.going c.requires.going.quiet _ (c.requires.at ∙ ap Some c.in-Bump.is) 1 (before.top.place + 1) _ _ _ _ refl (λ z. absurd (omega (arith, z)))
    (bump_leads p.functions (monoids_in p) code.end_line (callers_of p.functions before.callers) (left_at code.end_line (drop (before.top.place + 1) code.body)) before.top.registers (store_of before) c.in-Bump.line c.in-Bump.location c.in-Bump.value)
    c.bump.ensures

pub read-requires-clause-located : goal.read-requires-clause-located
read-requires-clause-located g c =
    let p = c.args.program.now in
    let before = state_of c.args.self.now in
    let code = c.args.function.now in
    placed (cells_of p.mems) (length p.reducers) (length p.functions) (Read c.in-Read.line c.in-Read.register c.in-Read.location) p.few_cells (within (cells_of p.mems) (length p.reducers) p.functions p.sound before.top.function code c.requires.going.here before.top.place _ (c.requires.at ∙ ap Some c.in-Read.is))

pub read-requires-clause-known : goal.read-requires-clause-known
read-requires-clause-known g c =
    let p = c.args.program.now in
    let before = state_of c.args.self.now in
    let code = c.args.function.now in
    subst (λ n. cell_of c.in-Read.location before.top.registers < n) (sym c.requires.going.stands.memory) (named (cells_of p.mems) (length p.reducers) (length p.functions) (Read c.in-Read.line c.in-Read.register c.in-Read.location) before.top.registers (Act.Read (cell_of c.in-Read.location before.top.registers)) (within (cells_of p.mems) (length p.reducers) p.functions p.sound before.top.function code c.requires.going.here before.top.place _ (c.requires.at ∙ ap Some c.in-Read.is)) refl)

pub write-requires-clause-located : goal.write-requires-clause-located
write-requires-clause-located g c =
    let p = c.args.program.now in
    let before = state_of c.args.self.now in
    let code = c.args.function.now in
    placed (cells_of p.mems) (length p.reducers) (length p.functions) (Write c.in-Write.line c.in-Write.location c.in-Write.value) p.few_cells (within (cells_of p.mems) (length p.reducers) p.functions p.sound before.top.function code c.requires.going.here before.top.place _ (c.requires.at ∙ ap Some c.in-Write.is))

pub write-requires-clause-known : goal.write-requires-clause-known
write-requires-clause-known g c =
    let p = c.args.program.now in
    let before = state_of c.args.self.now in
    let code = c.args.function.now in
    subst (λ n. cell_of c.in-Write.location before.top.registers < n) (sym c.requires.going.stands.memory) (named (cells_of p.mems) (length p.reducers) (length p.functions) (Write c.in-Write.line c.in-Write.location c.in-Write.value) before.top.registers (Act.Write (cell_of c.in-Write.location before.top.registers) (value_of c.in-Write.value before.top.registers)) (within (cells_of p.mems) (length p.reducers) p.functions p.sound before.top.function code c.requires.going.here before.top.place _ (c.requires.at ∙ ap Some c.in-Write.is)) refl)

pub bump-requires-clause-located : goal.bump-requires-clause-located
bump-requires-clause-located g c =
    let p = c.args.program.now in
    let before = state_of c.args.self.now in
    let code = c.args.function.now in
    placed (cells_of p.mems) (length p.reducers) (length p.functions) (Bump c.in-Bump.line c.in-Bump.location c.in-Bump.value) p.few_cells (within (cells_of p.mems) (length p.reducers) p.functions p.sound before.top.function code c.requires.going.here before.top.place _ (c.requires.at ∙ ap Some c.in-Bump.is))

pub bump-requires-clause-known : goal.bump-requires-clause-known
bump-requires-clause-known g c =
    let p = c.args.program.now in
    let before = state_of c.args.self.now in
    let code = c.args.function.now in
    subst (λ n. cell_of c.in-Bump.location before.top.registers < n) (sym c.requires.going.stands.memory) (named (cells_of p.mems) (length p.reducers) (length p.functions) (Bump c.in-Bump.line c.in-Bump.location c.in-Bump.value) before.top.registers (Act.Bump (cell_of c.in-Bump.location before.top.registers) (value_of c.in-Bump.value before.top.registers)) (within (cells_of p.mems) (length p.reducers) p.functions p.sound before.top.function code c.requires.going.here before.top.place _ (c.requires.at ∙ ap Some c.in-Bump.is)) refl)

pub read-requires-clause-place : goal.read-requires-clause-place
read-requires-clause-place g c =
    let p = c.args.program.now in
    let before = state_of c.args.self.now in
    next_fits (cells_of p.mems) (length p.reducers) p.functions p.sound before.top.function c.args.function.now c.requires.going.here before.top.place _ (c.requires.at ∙ ap Some c.in-Read.is)

pub write-requires-clause-place : goal.write-requires-clause-place
write-requires-clause-place g c =
    let p = c.args.program.now in
    let before = state_of c.args.self.now in
    next_fits (cells_of p.mems) (length p.reducers) p.functions p.sound before.top.function c.args.function.now c.requires.going.here before.top.place _ (c.requires.at ∙ ap Some c.in-Write.is)

pub bump-requires-clause-place : goal.bump-requires-clause-place
bump-requires-clause-place g c =
    let p = c.args.program.now in
    let before = state_of c.args.self.now in
    next_fits (cells_of p.mems) (length p.reducers) p.functions p.sound before.top.function c.args.function.now c.requires.going.here before.top.place _ (c.requires.at ∙ ap Some c.in-Bump.is)

pub read-requires-clause-begun : goal.read-requires-clause-begun
read-requires-clause-begun g c = c.requires.going.going

pub write-requires-clause-begun : goal.write-requires-clause-begun
write-requires-clause-begun g c = c.requires.going.going

pub bump-requires-clause-begun : goal.bump-requires-clause-begun
bump-requires-clause-begun g c = c.requires.going.going
