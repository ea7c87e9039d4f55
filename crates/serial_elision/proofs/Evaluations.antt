-- Evaluations statement by statement.
use Rattle.std.proofs.Common.{◌≡◌, ◌≢◌, ℕ, suc, ◌+◌, ◌%◌, ◌^◌, List, [], ◌∷◌, ◌++◌, Some, refl, sym, ap, ◌∙◌, subst, append_assoc}
use Rattle.std.specs.Prelude.{slice_get, slice_index}
use Rattle.model_accesses.specs.declared.request.Act.{Act}
use Rattle.model_reducers.specs.declared.monoid.Monoid.{Monoid}
use Rattle.model_reducers.specs.Products.{update_view, put_view, product_of, monoid_of}
use Rattle.model_bodies.specs.declared.statement.Register.{Register}
use Rattle.model_bodies.specs.declared.statement.Operand.{Operand}
use Rattle.model_bodies.specs.declared.statement.Operand.TheVariants.{Number}
use Rattle.model_bodies.specs.declared.statement.Expression.{Expression}
use Rattle.model_bodies.specs.declared.statement.Location.{Location}
use Rattle.model_bodies.specs.declared.statement.Statement.{Statement}
use Rattle.model_bodies.specs.declared.statement.Statement.TheVariants.{Let, Read, Write, Bump, Update, Put, Get, Spawn, Call, Sync, ParallelFor}
use Rattle.model_bodies.specs.Codes.{Code}
use Rattle.model_bodies.specs.Trees.{Tree, Done, Step, Choice, and_then}
use Rattle.model_programs.specs.Values.{Registers, first_registers, with_ok, value_of, result_of, cell_of}
use Rattle.model_programs.specs.Scripts.{closing, script, numbers}
use Rattle.model_programs.specs.Evaluation.{Store, with_cell, view_at, with_view, got, with_register, Effect, effect, valued, Evaluates, let_evaluated, read_evaluated, write_evaluated, bump_evaluated, update_evaluated, put_evaluated, get_evaluated, spawn_evaluated, call_evaluated, sync_evaluated, first_evaluated, second_evaluated, pfor_evaluated, return_evaluated}
use Rattle.serial_elision.specs.Evaluation.{Standing, StackEvaluates, Configuration, configuration, Leads}

module _ (functions : List Code) (monoids : List Monoid) where
  -- nothing leads nowhere else, and one stretch leads on to the next
  pub leads_nowhere : (here : Configuration) → Leads functions monoids [] here here
  leads_nowhere here = record { on = λ effects last e. (effects, refl, e); back = λ left last e. e }

  pub leads_on : (done more : List Effect) (first second third : Configuration) → Leads functions monoids done first second → Leads functions monoids more second third → Leads functions monoids (done ++ more) first third
  leads_on done more first second third a b =
      record {
        on = λ effects last e.
            let x = a.on effects last e in
            let y = b.on x.0 last x.2 in
            (y.0, x.1 ∙ ap (λ l. done ++ l) y.1 ∙ sym (append_assoc done more y.0), y.2);
        back = λ left last e. subst (λ l. StackEvaluates functions monoids first.stack first.store l last) (sym (append_assoc done more left)) (a.back (more ++ left) last (b.back left last e));
      }

  module _ (end_line : ℕ) (callers : List Standing) where
    -- nothing is asked, and the function goes on
    silent : (rest later : Tree) (registers changed : Registers) (store : Store) → ((effects : List Effect) (last : Store) → Evaluates functions monoids end_line rest registers store effects last → Evaluates functions monoids end_line later changed store effects last) → ((effects : List Effect) (last : Store) → Evaluates functions monoids end_line later changed store effects last → Evaluates functions monoids end_line rest registers store effects last) → Leads functions monoids [] (configuration (record { end_line = end_line; rest = rest; registers = registers } ∷ callers) store) (configuration (record { end_line = end_line; rest = later; registers = changed } ∷ callers) store)
    silent rest later registers changed store on back =
        record {
          on = λ effects last e. (effects, refl, (e.0, e.1, e.2, on e.0 e.2 e.3, e.4, e.5));
          back = λ left last e. (e.0, e.1, e.2, back e.0 e.2 e.3, e.4, e.5);
        }

    -- one request after which the function goes on
    single : (rest later : Tree) (registers changed : Registers) (store after : Store) (did : Effect) → ((effects : List Effect) (last : Store) → Evaluates functions monoids end_line rest registers store effects last → (left : List Effect) × (effects ≡ did ∷ left) × Evaluates functions monoids end_line later changed after left last) → ((left : List Effect) (last : Store) → Evaluates functions monoids end_line later changed after left last → Evaluates functions monoids end_line rest registers store (did ∷ left) last) → Leads functions monoids (did ∷ []) (configuration (record { end_line = end_line; rest = rest; registers = registers } ∷ callers) store) (configuration (record { end_line = end_line; rest = later; registers = changed } ∷ callers) after)
    single rest later registers changed store after did on back =
        record {
          on = λ effects last e.
              let x = on e.0 e.2 e.3 in
              (x.0 ++ e.1, e.5 ∙ ap (λ l. l ++ e.1) x.1, (x.0, e.1, e.2, x.2, e.4, refl));
          back = λ left last e. (did ∷ e.0, e.1, e.2, back e.0 e.2 e.3, e.4, ap (λ l. did ∷ l) e.5);
        }

    let_on : (rest : Tree) (registers : Registers) (store last : Store) (effects : List Effect) (line : ℕ) (register : Register) (value : Expression) → Evaluates functions monoids end_line (Step (Let line register value) rest) registers store effects last → Evaluates functions monoids end_line rest (with_register registers register (result_of value registers)) store effects last
    let_on rest registers store last effects line register value (let_evaluated d) = d

    pub let_leads : (rest : Tree) (registers : Registers) (store : Store) (line : ℕ) (register : Register) (value : Expression) → Leads functions monoids [] (configuration (record { end_line = end_line; rest = Step (Let line register value) rest; registers = registers } ∷ callers) store) (configuration (record { end_line = end_line; rest = rest; registers = with_register registers register (result_of value registers) } ∷ callers) store)
    let_leads rest registers store line register value = silent _ _ _ _ store (λ effects last e. let_on rest registers store last effects line register value e) (λ effects last e. let_evaluated e)

    read_on : (rest : Tree) (registers : Registers) (store last : Store) (effects : List Effect) (line : ℕ) (register : Register) (location : Location) → Evaluates functions monoids end_line (Step (Read line register location) rest) registers store effects last → (left : List Effect) × (effects ≡ valued (Act.Read (cell_of location registers)) line (slice_index store.memory (cell_of location registers)) ∷ left) × Evaluates functions monoids end_line rest (with_register (with_ok 1 registers) register (slice_index store.memory (cell_of location registers))) store left last
    read_on rest registers store last effects line register location (read_evaluated {effects = left} d) = (left, refl, d)

    pub read_leads : (rest : Tree) (registers : Registers) (store : Store) (line : ℕ) (register : Register) (location : Location) → Leads functions monoids (valued (Act.Read (cell_of location registers)) line (slice_index store.memory (cell_of location registers)) ∷ []) (configuration (record { end_line = end_line; rest = Step (Read line register location) rest; registers = registers } ∷ callers) store) (configuration (record { end_line = end_line; rest = rest; registers = with_register (with_ok 1 registers) register (slice_index store.memory (cell_of location registers)) } ∷ callers) store)
    read_leads rest registers store line register location = single _ _ _ _ store store _ (λ effects last e. read_on rest registers store last effects line register location e) (λ left last e. read_evaluated e)

    write_on : (rest : Tree) (registers : Registers) (store last : Store) (effects : List Effect) (line : ℕ) (location : Location) (value : Operand) → Evaluates functions monoids end_line (Step (Write line location value) rest) registers store effects last → (left : List Effect) × (effects ≡ effect (Act.Write (cell_of location registers) (value_of value registers)) line ∷ left) × Evaluates functions monoids end_line rest (with_ok 1 registers) (with_cell store (cell_of location registers) (value_of value registers)) left last
    write_on rest registers store last effects line location value (write_evaluated {effects = left} d) = (left, refl, d)

    pub write_leads : (rest : Tree) (registers : Registers) (store : Store) (line : ℕ) (location : Location) (value : Operand) → Leads functions monoids (effect (Act.Write (cell_of location registers) (value_of value registers)) line ∷ []) (configuration (record { end_line = end_line; rest = Step (Write line location value) rest; registers = registers } ∷ callers) store) (configuration (record { end_line = end_line; rest = rest; registers = with_ok 1 registers } ∷ callers) (with_cell store (cell_of location registers) (value_of value registers)))
    write_leads rest registers store line location value = single _ _ _ _ store _ _ (λ effects last e. write_on rest registers store last effects line location value e) (λ left last e. write_evaluated e)

    bump_on : (rest : Tree) (registers : Registers) (store last : Store) (effects : List Effect) (line : ℕ) (location : Location) (value : Operand) → Evaluates functions monoids end_line (Step (Bump line location value) rest) registers store effects last → (left : List Effect) × (effects ≡ effect (Act.Bump (cell_of location registers) (value_of value registers)) line ∷ left) × Evaluates functions monoids end_line rest (with_ok 1 registers) (with_cell store (cell_of location registers) ((slice_index store.memory (cell_of location registers) + value_of value registers) % 2 ^ 64)) left last
    bump_on rest registers store last effects line location value (bump_evaluated {effects = left} d) = (left, refl, d)

    pub bump_leads : (rest : Tree) (registers : Registers) (store : Store) (line : ℕ) (location : Location) (value : Operand) → Leads functions monoids (effect (Act.Bump (cell_of location registers) (value_of value registers)) line ∷ []) (configuration (record { end_line = end_line; rest = Step (Bump line location value) rest; registers = registers } ∷ callers) store) (configuration (record { end_line = end_line; rest = rest; registers = with_ok 1 registers } ∷ callers) (with_cell store (cell_of location registers) ((slice_index store.memory (cell_of location registers) + value_of value registers) % 2 ^ 64)))
    bump_leads rest registers store line location value = single _ _ _ _ store _ _ (λ effects last e. bump_on rest registers store last effects line location value e) (λ left last e. bump_evaluated e)

    update_on : (rest : Tree) (registers : Registers) (store last : Store) (effects : List Effect) (line reducer : ℕ) (value : Operand) → Evaluates functions monoids end_line (Step (Update line reducer value) rest) registers store effects last → (left : List Effect) × (effects ≡ effect (Act.Update reducer (value_of value registers)) line ∷ left) × Evaluates functions monoids end_line rest (with_ok 1 registers) (with_view store reducer (product_of (monoid_of monoids reducer) (view_at store reducer) (update_view (monoid_of monoids reducer) (value_of value registers)))) left last
    update_on rest registers store last effects line reducer value (update_evaluated {effects = left} d) = (left, refl, d)

    pub update_leads : (rest : Tree) (registers : Registers) (store : Store) (line reducer : ℕ) (value : Operand) → Leads functions monoids (effect (Act.Update reducer (value_of value registers)) line ∷ []) (configuration (record { end_line = end_line; rest = Step (Update line reducer value) rest; registers = registers } ∷ callers) store) (configuration (record { end_line = end_line; rest = rest; registers = with_ok 1 registers } ∷ callers) (with_view store reducer (product_of (monoid_of monoids reducer) (view_at store reducer) (update_view (monoid_of monoids reducer) (value_of value registers)))))
    update_leads rest registers store line reducer value = single _ _ _ _ store _ _ (λ effects last e. update_on rest registers store last effects line reducer value e) (λ left last e. update_evaluated e)

    put_on : (rest : Tree) (registers : Registers) (store last : Store) (effects : List Effect) (line reducer : ℕ) (value : Operand) → Evaluates functions monoids end_line (Step (Put line reducer value) rest) registers store effects last → (left : List Effect) × (effects ≡ effect (Act.Put reducer (value_of value registers)) line ∷ left) × Evaluates functions monoids end_line rest (with_ok 1 registers) (with_view store reducer (put_view (monoid_of monoids reducer) (value_of value registers))) left last
    put_on rest registers store last effects line reducer value (put_evaluated {effects = left} d) = (left, refl, d)

    pub put_leads : (rest : Tree) (registers : Registers) (store : Store) (line reducer : ℕ) (value : Operand) → Leads functions monoids (effect (Act.Put reducer (value_of value registers)) line ∷ []) (configuration (record { end_line = end_line; rest = Step (Put line reducer value) rest; registers = registers } ∷ callers) store) (configuration (record { end_line = end_line; rest = rest; registers = with_ok 1 registers } ∷ callers) (with_view store reducer (put_view (monoid_of monoids reducer) (value_of value registers))))
    put_leads rest registers store line reducer value = single _ _ _ _ store _ _ (λ effects last e. put_on rest registers store last effects line reducer value e) (λ left last e. put_evaluated e)

    get_on : (rest : Tree) (registers : Registers) (store last : Store) (effects : List Effect) (line reducer : ℕ) (register : Register) → Evaluates functions monoids end_line (Step (Get line register reducer) rest) registers store effects last → (left : List Effect) × (effects ≡ valued (Act.Get reducer) line (got store reducer) ∷ left) × Evaluates functions monoids end_line rest (with_register (with_ok 1 registers) register (got store reducer)) store left last
    get_on rest registers store last effects line reducer register (get_evaluated {effects = left} d) = (left, refl, d)

    pub get_leads : (rest : Tree) (registers : Registers) (store : Store) (line reducer : ℕ) (register : Register) → Leads functions monoids (valued (Act.Get reducer) line (got store reducer) ∷ []) (configuration (record { end_line = end_line; rest = Step (Get line register reducer) rest; registers = registers } ∷ callers) store) (configuration (record { end_line = end_line; rest = rest; registers = with_register (with_ok 1 registers) register (got store reducer) } ∷ callers) store)
    get_leads rest registers store line reducer register = single _ _ _ _ store store _ (λ effects last e. get_on rest registers store last effects line reducer register e) (λ left last e. get_evaluated e)

    sync_on : (rest : Tree) (registers : Registers) (store last : Store) (effects : List Effect) (line : ℕ) → Evaluates functions monoids end_line (Step (Sync line) rest) registers store effects last → (left : List Effect) × (effects ≡ effect Act.Sync line ∷ left) × Evaluates functions monoids end_line rest registers store left last
    sync_on rest registers store last effects line (sync_evaluated {effects = left} d) = (left, refl, d)

    pub sync_leads : (rest : Tree) (registers : Registers) (store : Store) (line : ℕ) → Leads functions monoids (effect Act.Sync line ∷ []) (configuration (record { end_line = end_line; rest = Step (Sync line) rest; registers = registers } ∷ callers) store) (configuration (record { end_line = end_line; rest = rest; registers = registers } ∷ callers) store)
    sync_leads rest registers store line = single _ _ _ _ store store _ (λ effects last e. sync_on rest registers store last effects line e) (λ left last e. sync_evaluated e)

    first_on : (first second rest : Tree) (registers : Registers) (store last : Store) (effects : List Effect) (line : ℕ) (register : Register) → slice_index registers register.index ≢ 0 → Evaluates functions monoids end_line (Choice line register first second rest) registers store effects last → Evaluates functions monoids end_line (and_then first rest) registers store effects last
    first_on first second rest registers store last effects line register h (first_evaluated n d) = d
    first_on first second rest registers store last effects line register h (second_evaluated z d) = absurd (h z)

    pub first_leads : (first second rest : Tree) (registers : Registers) (store : Store) (line : ℕ) (register : Register) → slice_index registers register.index ≢ 0 → Leads functions monoids [] (configuration (record { end_line = end_line; rest = Choice line register first second rest; registers = registers } ∷ callers) store) (configuration (record { end_line = end_line; rest = and_then first rest; registers = registers } ∷ callers) store)
    first_leads first second rest registers store line register h = silent _ _ _ _ store (λ effects last e. first_on first second rest registers store last effects line register h e) (λ effects last e. first_evaluated h e)

    second_on : (first second rest : Tree) (registers : Registers) (store last : Store) (effects : List Effect) (line : ℕ) (register : Register) → slice_index registers register.index ≡ 0 → Evaluates functions monoids end_line (Choice line register first second rest) registers store effects last → Evaluates functions monoids end_line (and_then second rest) registers store effects last
    second_on first second rest registers store last effects line register h (first_evaluated n d) = absurd (n h)
    second_on first second rest registers store last effects line register h (second_evaluated z d) = d

    pub second_leads : (first second rest : Tree) (registers : Registers) (store : Store) (line : ℕ) (register : Register) → slice_index registers register.index ≡ 0 → Leads functions monoids [] (configuration (record { end_line = end_line; rest = Choice line register first second rest; registers = registers } ∷ callers) store) (configuration (record { end_line = end_line; rest = and_then second rest; registers = registers } ∷ callers) store)
    second_leads first second rest registers store line register h = silent _ _ _ _ store (λ effects last e. second_on first second rest registers store last effects line register h e) (λ effects last e. second_evaluated h e)

    pfor_on : (rest : Tree) (registers : Registers) (store last : Store) (effects : List Effect) (line function : ℕ) (register : Register) (count : Operand) → Evaluates functions monoids end_line (Step (ParallelFor line register count function) rest) registers store effects last → Evaluates functions monoids end_line (numbers line register function 0 (value_of count registers) rest) registers store effects last
    pfor_on rest registers store last effects line function register count (pfor_evaluated d) = d

    pub pfor_leads : (rest : Tree) (registers : Registers) (store : Store) (line function : ℕ) (register : Register) (count : Operand) → Leads functions monoids [] (configuration (record { end_line = end_line; rest = Step (ParallelFor line register count function) rest; registers = registers } ∷ callers) store) (configuration (record { end_line = end_line; rest = numbers line register function 0 (value_of count registers) rest; registers = registers } ∷ callers) store)
    pfor_leads rest registers store line function register count = silent _ _ _ _ store (λ effects last e. pfor_on rest registers store last effects line function register count e) (λ effects last e. pfor_evaluated e)

    return_on : (registers : Registers) (store last : Store) (effects : List Effect) → Evaluates functions monoids end_line Done registers store effects last → (effects ≡ effect Act.Return end_line ∷ []) × (store ≡ last)
    return_on registers store last effects return_evaluated = (refl, refl)

    return_leads : (registers : Registers) (store : Store) → Leads functions monoids (effect Act.Return end_line ∷ []) (configuration (record { end_line = end_line; rest = Done; registers = registers } ∷ callers) store) (configuration callers store)
    return_leads registers store =
        record {
          on = λ effects last e.
              let x = return_on registers store e.2 e.0 e.3 in
              (e.1, e.5 ∙ ap (λ l. l ++ e.1) x.0, subst (λ m. StackEvaluates functions monoids callers m e.1 last) (sym x.1) e.4);
          back = λ left last e. (effect Act.Return end_line ∷ [], left, store, return_evaluated, e, refl);
        }

    -- the end of a function
    pub end_leads : (registers : Registers) (store : Store) → Leads functions monoids (effect Act.Sync end_line ∷ effect Act.Return end_line ∷ []) (configuration (record { end_line = end_line; rest = closing end_line; registers = registers } ∷ callers) store) (configuration callers store)
    end_leads registers store = leads_on (effect Act.Sync end_line ∷ []) (effect Act.Return end_line ∷ []) _ _ _ (sync_leads Done registers store end_line) (return_leads registers store)

    -- a function that is begun runs whole, and then the rest
    Begins : Act → ℕ → Code → ℕ → Tree → Registers → Store → List Effect → Store → Type 0
    Begins act line callee argument rest registers store effects last =
        (inner : List Effect) × (outer : List Effect) × (between : Store) × (effects ≡ effect act line ∷ (inner ++ outer)) × Evaluates functions monoids callee.end_line (script callee) (first_registers argument) store inner between × Evaluates functions monoids end_line rest registers between outer last

    spawn_on : (rest : Tree) (registers : Registers) (store last : Store) (effects : List Effect) (line function : ℕ) (argument : Operand) (callee : Code) → slice_get functions function ≡ Some callee → Evaluates functions monoids end_line (Step (Spawn line function argument) rest) registers store effects last → Begins Act.Spawn line callee (value_of argument registers) rest registers store effects last
    unfolding Begins
    spawn_on rest registers store last effects line function argument callee h (spawn_evaluated {between = between} {inner = inner} {outer = outer} {callee = found} f i o j) =
        let e : found ≡ callee = cc in
        (inner, outer, between, ap (λ l. effect Act.Spawn line ∷ l) j, subst (λ g. Evaluates functions monoids g.end_line (script g) (first_registers (value_of argument registers)) store inner between) e i, o)

    call_on : (rest : Tree) (registers : Registers) (store last : Store) (effects : List Effect) (line function : ℕ) (argument : Operand) (callee : Code) → slice_get functions function ≡ Some callee → Evaluates functions monoids end_line (Step (Call line function argument) rest) registers store effects last → Begins Act.Call line callee (value_of argument registers) rest registers store effects last
    unfolding Begins
    call_on rest registers store last effects line function argument callee h (call_evaluated {between = between} {inner = inner} {outer = outer} {callee = found} f i o j) =
        let e : found ≡ callee = cc in
        (inner, outer, between, ap (λ l. effect Act.Call line ∷ l) j, subst (λ g. Evaluates functions monoids g.end_line (script g) (first_registers (value_of argument registers)) store inner between) e i, o)

    begin_leads : (statement : Statement) (rest : Tree) (registers : Registers) (store : Store) (act : Act) (line argument : ℕ) (callee : Code) → ((effects : List Effect) (last : Store) → Evaluates functions monoids end_line (Step statement rest) registers store effects last → Begins act line callee argument rest registers store effects last) → ((inner outer : List Effect) (between last : Store) → Evaluates functions monoids callee.end_line (script callee) (first_registers argument) store inner between → Evaluates functions monoids end_line rest registers between outer last → Evaluates functions monoids end_line (Step statement rest) registers store (effect act line ∷ (inner ++ outer)) last) → Leads functions monoids (effect act line ∷ []) (configuration (record { end_line = end_line; rest = Step statement rest; registers = registers } ∷ callers) store) (configuration (record { end_line = callee.end_line; rest = script callee; registers = first_registers argument } ∷ record { end_line = end_line; rest = rest; registers = registers } ∷ callers) store)
    unfolding Begins
    begin_leads statement rest registers store act line argument callee on back =
        record {
          on = λ effects last e.
              let x = on e.0 e.2 e.3 in
              (x.0 ++ (x.1 ++ e.1), e.5 ∙ ap (λ l. l ++ e.1) x.3 ∙ ap (λ l. effect act line ∷ l) (append_assoc x.0 x.1 e.1), (x.0, x.1 ++ e.1, x.2, x.4, (x.1, e.1, e.2, x.5, e.4, refl), refl));
          back = λ left last e.
              let f = e.4 in
              (effect act line ∷ (e.0 ++ f.0), f.1, f.2, back e.0 f.0 e.2 f.2 e.3 f.3, f.4, ap (λ l. effect act line ∷ l) (e.5 ∙ ap (λ l. e.0 ++ l) f.5 ∙ sym (append_assoc e.0 f.0 f.1)));
        }

    pub spawn_leads : (rest : Tree) (registers : Registers) (store : Store) (line function : ℕ) (argument : Operand) (callee : Code) → slice_get functions function ≡ Some callee → Leads functions monoids (effect Act.Spawn line ∷ []) (configuration (record { end_line = end_line; rest = Step (Spawn line function argument) rest; registers = registers } ∷ callers) store) (configuration (record { end_line = callee.end_line; rest = script callee; registers = first_registers (value_of argument registers) } ∷ record { end_line = end_line; rest = rest; registers = registers } ∷ callers) store)
    spawn_leads rest registers store line function argument callee h = begin_leads _ rest registers store Act.Spawn line (value_of argument registers) callee (λ effects last e. spawn_on rest registers store last effects line function argument callee h e) (λ inner outer between last i o. spawn_evaluated h i o refl)

    pub call_leads : (rest : Tree) (registers : Registers) (store : Store) (line function : ℕ) (argument : Operand) (callee : Code) → slice_get functions function ≡ Some callee → Leads functions monoids (effect Act.Call line ∷ []) (configuration (record { end_line = end_line; rest = Step (Call line function argument) rest; registers = registers } ∷ callers) store) (configuration (record { end_line = callee.end_line; rest = script callee; registers = first_registers (value_of argument registers) } ∷ record { end_line = end_line; rest = rest; registers = registers } ∷ callers) store)
    call_leads rest registers store line function argument callee h = begin_leads _ rest registers store Act.Call line (value_of argument registers) callee (λ effects last e. call_on rest registers store last effects line function argument callee h e) (λ inner outer between last i o. call_evaluated h i o refl)

    -- a turn of a `pfor`
    pub turn_leads : (rest : Tree) (registers : Registers) (store : Store) (line function number left : ℕ) (register : Register) (callee : Code) → slice_get functions function ≡ Some callee → Leads functions monoids (effect Act.Spawn line ∷ []) (configuration (record { end_line = end_line; rest = numbers line register function number (suc left) rest; registers = registers } ∷ callers) store) (configuration (record { end_line = callee.end_line; rest = script callee; registers = first_registers number } ∷ record { end_line = end_line; rest = numbers line register function (suc number) left rest; registers = with_register registers register number } ∷ callers) store)
    turn_leads rest registers store line function number left register callee h =
        leads_on [] _ _ _ _
        (let_leads (Step (Spawn line function (Number number)) (numbers line register function (suc number) left rest)) registers store line register (Expression.Plain (Number number)))
        (spawn_leads (numbers line register function (suc number) left rest) (with_register registers register number) store line function (Number number) callee h)
