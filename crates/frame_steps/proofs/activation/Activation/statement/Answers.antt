use Rattle.std.proofs.Common.{◌≡◌, ℕ, Option, Some, None, length, refl, sym, ◌∙◌}
use Rattle.std.specs.Prelude.{IsTrue, IfSome}
use Rattle.std.proofs.lemmas.Bool.{ltb-true}
use Rattle.text_words.specs.Declarations.{cells_of}
use Rattle.model_bodies.specs.declared.statement.Statement.{Statement}
use Rattle.model_bodies.specs.declared.statement.Statement.TheVariants.{Let, Read, Write, Bump, Update, Put, Get, Spawn, Call, Sync, ParallelFor, If, Else, End}
use Rattle.model_bodies.specs.Sound.{is_within}
use Rattle.frame_steps.specs.Requests.{IsTargeted}
use Rattle.frame_steps.proofs.Located.{stands_in, statement_is, sound_of, statement_within}
use Rattle.frame_steps.proofs.activation.Activation.statement.Goals as goal

-- the function that a statement of a sound program begins is there
targeted : (cells reducers functions : ℕ) (statement : Statement) → IsTrue (is_within cells reducers functions statement) → IsTargeted functions statement
targeted cells reducers functions (Let line register value) t = tt
targeted cells reducers functions (Read line register location) t = tt
targeted cells reducers functions (Write line location value) t = tt
targeted cells reducers functions (Bump line location value) t = tt
targeted cells reducers functions (Update line reducer value) t = tt
targeted cells reducers functions (Put line reducer value) t = tt
targeted cells reducers functions (Get line register reducer) t = tt
targeted cells reducers functions (Spawn line function argument) t = ltb-true function functions t
targeted cells reducers functions (Call line function argument) t = ltb-true function functions t
targeted cells reducers functions (Sync line) t = tt
targeted cells reducers functions (ParallelFor line register count function) t = tt
targeted cells reducers functions (If line register otherwise) t = tt
targeted cells reducers functions (Else line after) t = tt
targeted cells reducers functions (End line) t = tt

if_found : (functions : ℕ) (found : Option Statement) → ((statement : Statement) → found ≡ Some statement → IsTargeted functions statement) → IfSome found (λ statement. IsTargeted functions statement)
if_found functions (Some statement) each = each statement refl
if_found functions None each = tt

pub returns-clause-at : goal.returns-clause-at
returns-clause-at g c =
    let functions = c.args.program.now.functions in
    let h = c.function_in.ensures in
    c.statement_in.ensures ∙ sym (statement_is functions c.function_in.result.now c.args.self.now h)

pub returns-clause-targets : goal.returns-clause-targets
returns-clause-targets g c =
    let functions = c.args.program.now.functions in
    let code = c.function_in.result.now in
    let now = c.args.self.now in
    let cells = cells_of c.args.program.now.mems in
    let reducers = length c.args.program.now.reducers in
    let h = c.function_in.ensures in
    let sound = sound_of cells reducers functions now.function code c.args.program.now.sound h in
    let stands = stands_in functions code now h c.requires.place in
    if_found (length functions) c.statement_in.result (λ statement is.
    targeted cells reducers (length functions) statement
    (statement_within cells reducers (length functions) code now.place now.turn statement sound stands.turn (sym c.statement_in.ensures ∙ is)))
