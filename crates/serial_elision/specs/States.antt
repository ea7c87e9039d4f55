-- The evaluator's stack and store.
use Rattle.std.specs.Prelude.{◌≡◌, ℕ, ◌+◌, ◌-◌, ◌<◌, ◌≤◌, ◌^◌, Bool, true, false, List, [], ◌∷◌, ◌++◌, map, reverse}
use Rattle.std.specs.Prelude.{Option, Some, None, length, take, drop, replicate, slice_get, slice_index_or, slice_set}
use Rattle.model_reducers.specs.declared.monoid.Monoid.{Monoid}
use Rattle.model_reducers.specs.declared.view.View.{View}
use Rattle.model_reducers.specs.declared.view.View.TheVariants.{Nothing}
use Rattle.reducer_views.specs.Products.{FitsMonoid}
use Rattle.model_reducers.specs.Products.{identity_of, monoid_of}
use Rattle.model_bodies.specs.declared.statement.Statement.{Statement}
use Rattle.program_text.specs.declared.program.Program.{Program}
use Rattle.model_bodies.specs.Codes.{Code}
use Rattle.model_bodies.specs.Sound.{IsMain}
use Rattle.model_bodies.specs.Trees.{Tree, Done, and_then, left_of}
use Rattle.serial_elision.specs.declared.activation.Turns.{Turns}
use Rattle.serial_elision.specs.declared.activation.ElidedCall.{ElidedCall}
use Rattle.serial_elision.specs.declared.elision.Elision.{Elision}
use Rattle.model_programs.specs.Values.{Registers, first_registers}
use Rattle.model_programs.specs.Scripts.{closing, numbers}
use Rattle.model_programs.specs.Evaluation.{Effect, Store}
use Rattle.serial_elision.specs.Evaluation.{Standing, Configuration, Leads}

-- what an evaluator holds
pub record ElisionState : Type 0 where
  pub top : ElidedCall
  pub callers : List ElidedCall
  pub memory : List ℕ
  pub views : List View
  pub monoids : List Monoid
  pub over : Bool

-- a function at its begin
abbrev pub begun : ℕ → ℕ → ElidedCall
begun function argument = record { function = function; place = 0; registers = first_registers argument; turns = None }

-- the last of the functions that are begun, which is the topmost one, and those below it
abbrev pub topmost : List ElidedCall → ElidedCall
topmost [] = begun 0 0
topmost (first ∷ more) = slice_index_or (first ∷ more) (length more) (begun 0 0)

abbrev pub waiting : List ElidedCall → List ElidedCall
waiting [] = []
waiting (first ∷ more) = take (length more) (first ∷ more)

-- no function is begun
abbrev pub is_idle : List ElidedCall → Bool
is_idle [] = true
is_idle (first ∷ more) = false

abbrev pub state_in : List ElidedCall → List ℕ → List View → List Monoid → ElisionState
state_in stack memory views monoids =
    record { top = topmost stack; callers = waiting stack; memory = memory; views = views; monoids = monoids; over = is_idle stack }

abbrev pub state_of : {A : Type 0} → Elision A → ElisionState
state_of elision = state_in elision.stack.items elision.memory.items elision.views.items elision.monoids

abbrev pub top_of : {A : Type 0} → Elision A → ElidedCall
top_of elision = topmost elision.stack.items

abbrev pub store_of : ElisionState → Store
store_of state = record { memory = state.memory; views = state.views }

-- the same with this store
abbrev pub with_store : ElisionState → Store → ElisionState
with_store state store = record {
  top = state.top;
  callers = state.callers;
  memory = store.memory;
  views = store.views;
  monoids = state.monoids;
  over = state.over;
}

-- the same with this topmost function
abbrev pub with_top : ElisionState → ElidedCall → ElisionState
with_top state top = record {
  top = top;
  callers = state.callers;
  memory = state.memory;
  views = state.views;
  monoids = state.monoids;
  over = state.over;
}

-- a function at this place with these registers
abbrev pub moved : ElidedCall → ℕ → Registers → ElidedCall
moved top place registers = record { function = top.function; place = place; registers = registers; turns = top.turns }

-- a function with these turns
abbrev pub turning : ElidedCall → Option Turns → ElidedCall
turning top turns = record { function = top.function; place = top.place; registers = top.registers; turns = turns }

-- a function that waits for this turn's function, its number in the register
abbrev pub counted : Turns → ElidedCall → ElidedCall
counted turns top = record {
  function = top.function;
  place = top.place;
  registers = slice_set top.registers turns.register.index turns.number;
  turns =
      Some (record {
        line = turns.line;
        register = turns.register;
        function = turns.function;
        number = turns.number + 1;
        left = turns.left - 1;
      });
}

-- the same with a function begun above the topmost one
abbrev pub with_begun : ElisionState → ElidedCall → ℕ → ℕ → ElisionState
with_begun state caller function argument =
    record {
      top = begun function argument;
      callers = state.callers ++ caller ∷ [];
      memory = state.memory;
      views = state.views;
      monoids = state.monoids;
      over = state.over;
    }

-- what is left of a function where these statements of its body are left
abbrev pub left_at : (end_line : ℕ) → List Statement → Tree
left_at end_line statements = and_then (left_of statements) (closing end_line)

-- the same where these turns come first
abbrev pub left_in : (end_line : ℕ) → Option Turns → List Statement → Tree
left_in end_line None statements = left_at end_line statements
left_in end_line (Some turns) statements =
    numbers turns.line turns.register turns.function turns.number turns.left (left_at end_line statements)

abbrev pub standing_in : Option Code → ElidedCall → Standing
standing_in None activation = record { end_line = 0; rest = Done; registers = activation.registers }
standing_in (Some code) activation = record {
  end_line = code.end_line;
  rest = left_in code.end_line activation.turns (drop activation.place code.body);
  registers = activation.registers;
}

-- where a function stands
abbrev pub standing : List Code → ElidedCall → Standing
standing functions activation = standing_in (slice_get functions activation.function) activation

abbrev pub callers_of : List Code → List ElidedCall → List Standing
callers_of functions callers = map (standing functions) (reverse callers)

abbrev pub stack_in : List Code → Bool → ElidedCall → List ElidedCall → List Standing
stack_in functions true top callers = []
stack_in functions false top callers = standing functions top ∷ callers_of functions callers

-- the functions that the evaluator is in, the topmost first
abbrev pub stack_of : List Code → ElisionState → List Standing
stack_of functions state = stack_in functions state.over state.top state.callers

-- these functions and its store
abbrev pub configuration_of : List Code → ElisionState → Configuration
configuration_of functions state = record { stack = stack_of functions state; store = store_of state }

abbrev pub are_turns : List Code → Option Turns → Type 0
are_turns functions None = Unit {0}
are_turns functions (Some turns) = (turns.function < length functions) × (turns.number + turns.left < 2 ^ 64)

abbrev pub length_in : Option Code → ℕ
length_in None = 0
length_in (Some code) = length code.body

-- the function is there, it stands in its body or at its end, and its turns begin a function that is there
pub record IsInPlace (functions : List Code) (activation : ElidedCall) : Type 0 where
  pub known : activation.function < length functions
  pub within : activation.place ≤ length_in (slice_get functions activation.function)
  pub turning : are_turns functions activation.turns

-- the evaluator is in functions of this program, and its store has this size and fits the monoids
pub record Stands (functions : List Code) (monoids : List Monoid) (cells : ℕ) (state : ElisionState) : Type 0 where
  pub top : IsInPlace functions state.top
  pub callers : (index : ℕ) (caller : ElidedCall) → slice_get state.callers index ≡ Some caller → IsInPlace functions caller
  pub memory : length state.memory ≡ cells
  pub views : length state.views ≡ length monoids
  pub same_monoids : state.monoids ≡ monoids
  pub fits : (reducer : ℕ) → reducer < length monoids → FitsMonoid (monoid_of monoids reducer) (slice_index_or state.views reducer Nothing)

-- the evaluator goes on by a line of this function
pub record IsGoing (functions : List Code) (monoids : List Monoid) (cells : ℕ) (state : ElisionState) (code : Code) : Type 0 where
  pub stands : Stands functions monoids cells state
  pub going : state.over ≡ false
  pub quiet : state.top.turns ≡ None
  pub here : slice_get functions state.top.function ≡ Some code

-- so many requests lead from the one to the other; where there are none, the topmost function has come further
pub record Makes (functions : List Code) (monoids : List Monoid) (asked : ℕ) (before after : ElisionState) : Type 0 where
  pub done : List Effect
  pub count : length done ≡ asked
  pub leads : Leads functions monoids done (configuration_of functions before) (configuration_of functions after)
  pub further : asked ≡ 0 → before.top.place < after.top.place

abbrev pub is_left : Bool → ElisionState → ElisionState → Type 0
is_left true before after = (before.callers ≡ []) × (after.callers ≡ []) × (after.top ≡ begun 0 0)
is_left false before after = before.callers ≡ after.callers ++ after.top ∷ []

-- an evaluator before and after its topmost function returned
pub record IsLeft (before after : ElisionState) : Type 0 where
  pub stack : is_left after.over before after
  pub memory : after.memory ≡ before.memory
  pub views : after.views ≡ before.views
  pub monoids : after.monoids ≡ before.monoids

-- the monoids of the program's reducers
abbrev pub monoids_in : {B : Type 0} → Program B → List Monoid
monoids_in program = map (λ reducer. reducer.monoid) program.reducers

-- a function at its begin with argument 0, in the first store
abbrev pub first_state : (function : ℕ) → List Monoid → (cells : ℕ) → ElisionState
first_state function monoids cells =
    record {
      top = begun function 0;
      callers = [];
      memory = replicate cells 0;
      views = map identity_of monoids;
      monoids = monoids;
      over = false;
    }

-- nothing has been done yet
pub record IsOpening (functions : List Code) (monoids : List Monoid) (cells : ℕ) (state : ElisionState) : Type 0 where
  pub main : ℕ
  pub is_main : IsMain functions main
  pub is : state ≡ first_state main monoids cells
