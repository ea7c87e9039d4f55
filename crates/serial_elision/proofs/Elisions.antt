-- The evaluator before and after a step.
use Rattle.std.proofs.Common.{◌≡◌, ◌≢◌, ℕ, zero, suc, ◌+◌, ◌-◌, ◌*◌, ◌<◌, ◌≤◌, ◌⊎◌, inl, inr, Bool, true, false, List, [], ◌∷◌, ◌++◌, Some, None, Result, Ok, Err, refl, sym, ap, ◌∙◌, subst, arith, length, drop, map, append-nil, length-append}
use Rattle.std.specs.Prelude.{slice_get, slice_index, slice_index_or, slice_set, OnOk}
use Rattle.std.proofs.lemmas.List.{reverse-append, length-set, length-map, length-replicate, get_or-map, get_or-set_same, get_or-set_other}
use Rattle.model_accesses.specs.declared.request.Act.{Act}
use Rattle.model_reducers.specs.declared.monoid.Monoid.{Monoid}
use Rattle.model_reducers.specs.declared.monoid.Monoid.TheVariants.{Sum, Min, Max, Last, Digits}
use Rattle.model_reducers.specs.declared.view.View.{View}
use Rattle.model_reducers.specs.declared.view.View.TheVariants.{Nothing}
use Rattle.reducer_views.specs.Products.{FitsMonoid}
use Rattle.model_reducers.specs.Products.{identity_of, monoid_of}
use Rattle.model_bodies.specs.declared.statement.Register.{Register}
use Rattle.model_bodies.specs.declared.statement.Statement.{Statement}
use Rattle.model_bodies.specs.declared.statement.Statement.TheVariants.{If}
use Rattle.model_bodies.specs.Codes.{Code}
use Rattle.model_bodies.specs.Bodies.{EndsAt}
use Rattle.model_bodies.specs.Trees.{and_then, left_of}
use Rattle.serial_elision.specs.declared.activation.Turns.{Turns}
use Rattle.serial_elision.specs.declared.activation.ElidedCall.{ElidedCall}
use Rattle.model_programs.specs.Values.{Registers, first_registers}
use Rattle.model_programs.specs.Scripts.{closing, script, numbers}
use Rattle.model_programs.specs.Evaluation.{Effect, effect, Store, Evaluates}
use Rattle.serial_elision.specs.Evaluation.{Standing, StackEvaluates, configuration, Leads}
use Rattle.model_programs.specs.Elisions.{first_store, HasMain, Elides, NeedsMore}
use Rattle.serial_elision.specs.States.{ElisionState, store_of, with_store, with_top, moved, turning, begun, with_begun, left_at, left_in, standing_in, standing, callers_of, stack_in, stack_of, configuration_of, are_turns, length_in, IsInPlace, Stands, Makes, IsOpening, IsLeft, is_left, first_state}
use Rattle.program_text.proofs.Taken.{main_below}
use Rattle.frame_steps.proofs.Trees.{and_then_assoc, if_left}
use Rattle.frame_steps.proofs.Places.{drop_at, found}
use Rattle.serial_elision.proofs.Evaluations.{leads_nowhere, leads_on, sync_leads, first_leads, second_leads, end_leads, turn_leads}

-- ---- lists of callers

no_item : {A : Type 0} (k : ℕ) (x : A) → slice_get [] k ≡ Some x → ⊥
no_item zero x h = cc
no_item (suc k) x h = cc

item_of_pushed : {A : Type 0} (xs : List A) (y : A) (k : ℕ) (x : A) → slice_get (xs ++ y ∷ []) k ≡ Some x → (slice_get xs k ≡ Some x) ⊎ (y ≡ x)
item_of_pushed [] y zero x h = inr cc
item_of_pushed [] y (suc k) x h = cc
item_of_pushed (z ∷ xs) y zero x h = inl h
item_of_pushed (z ∷ xs) y (suc k) x h = item_of_pushed xs y k x h

item_kept : {A : Type 0} (xs : List A) (y : A) (k : ℕ) (x : A) → slice_get xs k ≡ Some x → slice_get (xs ++ y ∷ []) k ≡ Some x
item_kept [] y zero x h = cc
item_kept [] y (suc k) x h = cc
item_kept (z ∷ xs) y zero x h = h
item_kept (z ∷ xs) y (suc k) x h = item_kept xs y k x h

item_pushed : {A : Type 0} (xs : List A) (y : A) → slice_get (xs ++ y ∷ []) (length xs) ≡ Some y
item_pushed [] y = refl
item_pushed (z ∷ xs) y = item_pushed xs y

pub on_ok : {T E : Type 0} (r : Result T E) (P Q : Type 0) → (P → Q) → OnOk r P → OnOk r Q
on_ok (Ok v) P Q f p = f p
on_ok (Err e) P Q f p = tt

-- a turn's function is there
pub callee_known : (functions : List Code) (before : ElisionState) (turns : Turns) → before.top.turns ≡ Some turns → are_turns functions before.top.turns → turns.function < length functions
callee_known functions before turns on known = (subst (λ o. are_turns functions o) on known).0

-- the measure: a request uses up one of those that are left, and between requests the topmost function comes further
pub nearer : (limit requests asked place later : ℕ) → place < 100000 → later < 100000 → asked ≤ limit - requests → (asked ≡ 0 → place < later) → (limit - (requests + asked)) * 100001 + (100000 - later) < (limit - requests) * 100001 + (100000 - place)
nearer limit requests zero place later before after few further = let h = further refl in omega (arith, h, before, after)
nearer limit requests (suc asked) place later before after few further = omega (arith, few, before, after)

identity_fits : (monoid : Monoid) → FitsMonoid monoid (identity_of monoid)
identity_fits Sum = omega arith
identity_fits Min = omega arith
identity_fits Max = omega arith
identity_fits Last = tt
identity_fits Digits = (omega arith, omega arith)

-- the stack at the program's begin
abbrev pub main_stack : Code → List Standing
main_stack main = record { end_line = main.end_line; rest = script main; registers = first_registers 0 } ∷ []

module _ (functions : List Code) (monoids : List Monoid) where
  -- ---- stacks

  quiet_standing : (activation : ElidedCall) (code : Code) → slice_get functions activation.function ≡ Some code → activation.turns ≡ None → standing functions activation ≡ record { end_line = code.end_line; rest = left_at code.end_line (drop activation.place code.body); registers = activation.registers }
  quiet_standing activation code here quiet =
      ap (λ o. standing_in o activation) here ∙ ap (λ t. record { end_line = code.end_line; rest = left_in code.end_line t (drop activation.place code.body); registers = activation.registers }) quiet

  turning_standing : (activation : ElidedCall) (code : Code) (turns : Turns) → slice_get functions activation.function ≡ Some code → activation.turns ≡ Some turns → standing functions activation ≡ record { end_line = code.end_line; rest = left_in code.end_line (Some turns) (drop activation.place code.body); registers = activation.registers }
  turning_standing activation code turns here on =
      ap (λ o. standing_in o activation) here ∙ ap (λ t. record { end_line = code.end_line; rest = left_in code.end_line t (drop activation.place code.body); registers = activation.registers }) on

  going_stack : (state : ElisionState) → state.over ≡ false → stack_of functions state ≡ standing functions state.top ∷ callers_of functions state.callers
  going_stack state going = ap (λ b. stack_in functions b state.top state.callers) going

  callers_pushed : (callers : List ElidedCall) (caller : ElidedCall) → callers_of functions (callers ++ caller ∷ []) ≡ standing functions caller ∷ callers_of functions callers
  callers_pushed callers caller = ap (λ l. map (standing functions) l) (reverse-append callers (caller ∷ []))

  leads_between : (done : List Effect) (first first' second second' : List Standing) (one two : Store) → first ≡ first' → second ≡ second' → Leads functions monoids done (configuration first' one) (configuration second' two) → Leads functions monoids done (configuration first one) (configuration second two)
  leads_between done first first' second second' one two e f l =
      subst (λ s. Leads functions monoids done (configuration s one) (configuration second two)) (sym e) (subst (λ s. Leads functions monoids done (configuration first' one) (configuration s two)) (sym f) l)

  -- ---- a line of the topmost function

  module _ (cells : ℕ) (before : ElisionState) (code : Code) (here : slice_get functions before.top.function ≡ Some code) where
    -- the evaluator stands after it
    pub moved_stands : (place : ℕ) (registers : Registers) (after : ElisionState) → Stands functions monoids cells before → place ≤ length code.body → after ≡ with_top before (moved before.top place registers) → Stands functions monoids cells after
    moved_stands place registers after s within e =
        subst (λ t. Stands functions monoids cells t) (sym e) (record {
          top = record { known = s.top.known; within = subst (λ o. place ≤ length_in o) (sym here) within; turning = s.top.turning };
          callers = s.callers;
          memory = s.memory;
          views = s.views;
          same_monoids = s.same_monoids;
          fits = s.fits;
        })

    pub stored_stands : (place : ℕ) (registers : Registers) (cell value : ℕ) (after : ElisionState) → Stands functions monoids cells before → place ≤ length code.body → after ≡ with_store (with_top before (moved before.top place registers)) (record { memory = slice_set before.memory cell value; views = before.views }) → Stands functions monoids cells after
    stored_stands place registers cell value after s within e =
        subst (λ t. Stands functions monoids cells t) (sym e) (record {
          top = record { known = s.top.known; within = subst (λ o. place ≤ length_in o) (sym here) within; turning = s.top.turning };
          callers = s.callers;
          memory = length-set before.memory cell value ∙ s.memory;
          views = s.views;
          same_monoids = s.same_monoids;
          fits = s.fits;
        })

    set_fits : (reducer : ℕ) (view : View) → Stands functions monoids cells before → reducer < length before.views → FitsMonoid (monoid_of monoids reducer) view → (other : ℕ) → other < length monoids → FitsMonoid (monoid_of monoids other) (slice_index_or (slice_set before.views reducer view) other Nothing)
    set_fits reducer view s known fits other below =
        elim (same_or_not other reducer) [
          | inl e ↦ subst (λ k. FitsMonoid (monoid_of monoids k) (slice_index_or (slice_set before.views reducer view) k Nothing)) (sym e) (subst (λ v. FitsMonoid (monoid_of monoids reducer) v) (sym (get_or-set_same before.views reducer view Nothing known)) fits)
          | inr n ↦ subst (λ v. FitsMonoid (monoid_of monoids other) v) (sym (get_or-set_other before.views reducer other view Nothing n)) (s.fits other below)
        ]
      where
        same_or_not : (one two : ℕ) → (one ≡ two) ⊎ (one ≢ two)
        same_or_not zero zero = inl refl
        same_or_not zero (suc two) = inr (λ e. omega arith)
        same_or_not (suc one) zero = inr (λ e. omega arith)
        same_or_not (suc one) (suc two) = elim (same_or_not one two) [ inl e ↦ inl (ap suc e) | inr n ↦ inr (λ e. n (omega arith)) ]

    pub viewed_stands : (place : ℕ) (registers : Registers) (reducer : ℕ) (view : View) (after : ElisionState) → Stands functions monoids cells before → place ≤ length code.body → reducer < length before.views → FitsMonoid (monoid_of before.monoids reducer) view → after ≡ with_store (with_top before (moved before.top place registers)) (record { memory = before.memory; views = slice_set before.views reducer view }) → Stands functions monoids cells after
    viewed_stands place registers reducer view after s within known fits e =
        subst (λ t. Stands functions monoids cells t) (sym e) (record {
          top = record { known = s.top.known; within = subst (λ o. place ≤ length_in o) (sym here) within; turning = s.top.turning };
          callers = s.callers;
          memory = s.memory;
          views = length-set before.views reducer view ∙ s.views;
          same_monoids = s.same_monoids;
          fits = set_fits reducer view s known (subst (λ m. FitsMonoid (monoid_of m reducer) view) s.same_monoids fits);
        })

    pub counted_stands : (turns : Turns) (after : ElisionState) → Stands functions monoids cells before → before.top.place + 1 ≤ length code.body → are_turns functions (Some turns) → after ≡ with_top before (turning (moved before.top (before.top.place + 1) before.top.registers) (Some turns)) → Stands functions monoids cells after
    counted_stands turns after s within known e =
        subst (λ t. Stands functions monoids cells t) (sym e) (record {
          top = record { known = s.top.known; within = subst (λ o. before.top.place + 1 ≤ length_in o) (sym here) within; turning = known };
          callers = s.callers;
          memory = s.memory;
          views = s.views;
          same_monoids = s.same_monoids;
          fits = s.fits;
        })

    module _ (going : before.over ≡ false) (quiet : before.top.turns ≡ None) (statement : Statement) (at : slice_get code.body before.top.place ≡ Some statement) where
      stack_before : stack_of functions before ≡ record { end_line = code.end_line; rest = left_at code.end_line (statement ∷ drop (before.top.place + 1) code.body); registers = before.top.registers } ∷ callers_of functions before.callers
      stack_before =
          going_stack before going ∙ ap (λ t. t ∷ callers_of functions before.callers) (quiet_standing before.top code here quiet ∙ ap (λ l. record { end_line = code.end_line; rest = left_at code.end_line l; registers = before.top.registers }) (drop_at code.body before.top.place statement at))

      -- what the line does, and what is left then
      pub line_makes : (asked place : ℕ) (registers : Registers) (store : Store) (done : List Effect) (after : ElisionState) → length done ≡ asked → (asked ≡ 0 → before.top.place < place) → Leads functions monoids done (configuration (record { end_line = code.end_line; rest = left_at code.end_line (statement ∷ drop (before.top.place + 1) code.body); registers = before.top.registers } ∷ callers_of functions before.callers) (store_of before)) (configuration (record { end_line = code.end_line; rest = left_at code.end_line (drop place code.body); registers = registers } ∷ callers_of functions before.callers) store) → after ≡ with_store (with_top before (moved before.top place registers)) store → Makes functions monoids asked before after
      line_makes asked place registers store done after count further leads e =
          let last = with_store (with_top before (moved before.top place registers)) store in
          subst (λ t. Makes functions monoids asked before t) (sym e) (record {
            done = done;
            count = count;
            leads = leads_between done _ _ _ _ (store_of before) store stack_before (going_stack last going ∙ ap (λ t. t ∷ callers_of functions before.callers) (quiet_standing (moved before.top place registers) code here quiet)) leads;
            further = further;
          })

      -- a line at which the function only goes on elsewhere
      pub same_makes : (place : ℕ) (after : ElisionState) → before.top.place < place → left_of (drop place code.body) ≡ left_of (statement ∷ drop (before.top.place + 1) code.body) → after ≡ with_top before (moved before.top place before.top.registers) → Makes functions monoids 0 before after
      same_makes place after further same e =
          line_makes 0 place before.top.registers (store_of before) [] after refl (λ _. further)
          (leads_between [] _ _ _ _ (store_of before) (store_of before) (ap (λ t. record { end_line = code.end_line; rest = and_then t (closing code.end_line); registers = before.top.registers } ∷ callers_of functions before.callers) (sym same)) refl (leads_nowhere functions monoids (configuration (record { end_line = code.end_line; rest = left_at code.end_line (drop place code.body); registers = before.top.registers } ∷ callers_of functions before.callers) (store_of before))))
          e

      -- a `pfor`, whose turns are left then
      pub counts_makes : (turns : Turns) (after : ElisionState) → Leads functions monoids [] (configuration (record { end_line = code.end_line; rest = left_at code.end_line (statement ∷ drop (before.top.place + 1) code.body); registers = before.top.registers } ∷ callers_of functions before.callers) (store_of before)) (configuration (record { end_line = code.end_line; rest = left_in code.end_line (Some turns) (drop (before.top.place + 1) code.body); registers = before.top.registers } ∷ callers_of functions before.callers) (store_of before)) → after ≡ with_top before (turning (moved before.top (before.top.place + 1) before.top.registers) (Some turns)) → Makes functions monoids 0 before after
      counts_makes turns after leads e =
          let last = with_top before (turning (moved before.top (before.top.place + 1) before.top.registers) (Some turns)) in
          subst (λ t. Makes functions monoids 0 before t) (sym e) (record {
            done = [];
            count = refl;
            leads = leads_between [] _ _ _ _ (store_of before) (store_of before) stack_before (going_stack last going ∙ ap (λ t. t ∷ callers_of functions before.callers) (turning_standing (turning (moved before.top (before.top.place + 1) before.top.registers) (Some turns)) code turns here refl)) leads;
            further = λ _. omega arith;
          })

    -- a function that is begun
    pub begun_stands : (caller : ElidedCall) (function argument : ℕ) (after : ElisionState) → Stands functions monoids cells before → IsInPlace functions caller → function < length functions → after ≡ with_begun before caller function argument → Stands functions monoids cells after
    begun_stands caller function argument after s placed known e =
        subst (λ t. Stands functions monoids cells t) (sym e) (record {
          top = record { known = known; within = omega arith; turning = tt };
          callers = λ k other h. elim (item_of_pushed before.callers caller k other h) [ inl a ↦ s.callers k other a | inr a ↦ subst (λ b. IsInPlace functions b) a placed ];
          memory = s.memory;
          views = s.views;
          same_monoids = s.same_monoids;
          fits = s.fits;
        })

  -- a function whose turns are over
  pub stopped_stands : (cells : ℕ) (before after : ElisionState) → Stands functions monoids cells before → after ≡ with_top before (turning before.top None) → Stands functions monoids cells after
  stopped_stands cells before after s e =
      subst (λ t. Stands functions monoids cells t) (sym e) (record {
        top = record { known = s.top.known; within = s.top.within; turning = tt };
        callers = s.callers;
        memory = s.memory;
        views = s.views;
        same_monoids = s.same_monoids;
        fits = s.fits;
      })

  begun_standing : (function argument : ℕ) (callee : Code) → slice_get functions function ≡ Some callee → standing functions (begun function argument) ≡ record { end_line = callee.end_line; rest = script callee; registers = first_registers argument }
  begun_standing function argument callee h = ap (λ o. standing_in o (begun function argument)) h

  begun_stack : (before : ElisionState) (caller : ElidedCall) (function argument : ℕ) (callee : Code) → slice_get functions function ≡ Some callee → before.over ≡ false → stack_of functions (with_begun before caller function argument) ≡ record { end_line = callee.end_line; rest = script callee; registers = first_registers argument } ∷ standing functions caller ∷ callers_of functions before.callers
  begun_stack before caller function argument callee h going =
      going_stack (with_begun before caller function argument) going ∙ ap (λ t. t ∷ callers_of functions (before.callers ++ caller ∷ [])) (begun_standing function argument callee h) ∙ ap (λ l. record { end_line = callee.end_line; rest = script callee; registers = first_registers argument } ∷ l) (callers_pushed before.callers caller)

  -- a spawn or a call
  pub enter_makes : (before : ElisionState) (code : Code) (statement : Statement) (function argument : ℕ) (callee : Code) (did : Effect) (after : ElisionState) → slice_get functions before.top.function ≡ Some code → before.over ≡ false → before.top.turns ≡ None → slice_get code.body before.top.place ≡ Some statement → slice_get functions function ≡ Some callee → Leads functions monoids (did ∷ []) (configuration (record { end_line = code.end_line; rest = left_at code.end_line (statement ∷ drop (before.top.place + 1) code.body); registers = before.top.registers } ∷ callers_of functions before.callers) (store_of before)) (configuration (record { end_line = callee.end_line; rest = script callee; registers = first_registers argument } ∷ record { end_line = code.end_line; rest = left_at code.end_line (drop (before.top.place + 1) code.body); registers = before.top.registers } ∷ callers_of functions before.callers) (store_of before)) → after ≡ with_begun before (moved before.top (before.top.place + 1) before.top.registers) function argument → Makes functions monoids 1 before after
  enter_makes before code statement function argument callee did after here going quiet at h leads e =
      let caller = moved before.top (before.top.place + 1) before.top.registers in
      subst (λ t. Makes functions monoids 1 before t) (sym e) (record {
        done = did ∷ [];
        count = refl;
        leads = leads_between (did ∷ []) _ _ _ _ (store_of before) (store_of before) (stack_before 0 before code here going quiet statement at) (begun_stack before caller function argument callee h going ∙ ap (λ t. record { end_line = callee.end_line; rest = script callee; registers = first_registers argument } ∷ t ∷ callers_of functions before.callers) (quiet_standing caller code here quiet)) leads;
        further = λ z. absurd (omega arith);
      })

  -- ---- turns of a `pfor`

  module _ (before : ElisionState) (code : Code) (turns : Turns) (here : slice_get functions before.top.function ≡ Some code) (going : before.over ≡ false) (on : before.top.turns ≡ Some turns) where
    turning_stack : (left : ℕ) → turns.left ≡ left → stack_of functions before ≡ record { end_line = code.end_line; rest = numbers turns.line turns.register turns.function turns.number left (left_at code.end_line (drop before.top.place code.body)); registers = before.top.registers } ∷ callers_of functions before.callers
    turning_stack left e =
        going_stack before going ∙ ap (λ t. t ∷ callers_of functions before.callers) (turning_standing before.top code turns here on) ∙ ap (λ n. record { end_line = code.end_line; rest = numbers turns.line turns.register turns.function turns.number n (left_at code.end_line (drop before.top.place code.body)); registers = before.top.registers } ∷ callers_of functions before.callers) e

    -- the sync behind the last turn
    pub turns_over : (after : ElisionState) → turns.left ≡ 0 → after ≡ with_top before (turning before.top None) → Makes functions monoids 1 before after
    turns_over after left e =
        let last = with_top before (turning before.top None) in
        subst (λ t. Makes functions monoids 1 before t) (sym e) (record {
          done = _;
          count = refl;
          leads = leads_between _ _ _ _ _ (store_of before) (store_of before) (turning_stack 0 left) (going_stack last going ∙ ap (λ t. t ∷ callers_of functions before.callers) (quiet_standing (turning before.top None) code here refl))
              (sync_leads functions monoids code.end_line (callers_of functions before.callers) (left_at code.end_line (drop before.top.place code.body)) before.top.registers (store_of before) turns.line);
          further = λ z. absurd (omega arith);
        })

    -- the function as it waits for a turn's function, its number in this register
    abbrev pub turned_in : ℕ → ElidedCall
    turned_in index = turning (moved before.top before.top.place (slice_set before.top.registers index turns.number)) (Some (record { line = turns.line; register = turns.register; function = turns.function; number = turns.number + 1; left = turns.left - 1 }))

    abbrev turned : ElidedCall
    turned = turned_in turns.register.index

    pub turned_stands : (cells index : ℕ) (after : ElisionState) → index ≡ turns.register.index → Stands functions monoids cells before → 0 < turns.left → after ≡ with_begun before (turned_in index) turns.function turns.number → Stands functions monoids cells after
    turned_stands cells index after i s some e =
        let is : after ≡ with_begun before turned turns.function turns.number = e ∙ ap (λ k. with_begun before (turned_in k) turns.function turns.number) i in
        let t = subst (λ o. are_turns functions o) on s.top.turning in
        begun_stands cells before code here turned turns.function turns.number after s (record { known = s.top.known; within = s.top.within; turning = (t.0, let b = t.1 in omega (arith, b, some)) }) t.0 is

    pub turn_makes : (left index : ℕ) (callee : Code) (after : ElisionState) → index ≡ turns.register.index → turns.left ≡ suc left → slice_get functions turns.function ≡ Some callee → after ≡ with_begun before (turned_in index) turns.function turns.number → Makes functions monoids 1 before after
    turn_makes left index callee after i e h f =
        let is : after ≡ with_begun before turned turns.function turns.number = f ∙ ap (λ k. with_begun before (turned_in k) turns.function turns.number) i in
        let rest = left_at code.end_line (drop before.top.place code.body) in
        let registers = slice_set before.top.registers turns.register.index turns.number in
        let one : turns.number + 1 ≡ suc turns.number = omega arith in
        let two : turns.left - 1 ≡ left = omega (arith, e) in
        subst (λ t. Makes functions monoids 1 before t) (sym is) (record {
          done = _;
          count = refl;
          leads = leads_between _ _ _ _ _ (store_of before) (store_of before) (turning_stack (suc left) e)
              (begun_stack before turned turns.function turns.number callee h going ∙
              ap (λ t. record { end_line = callee.end_line; rest = script callee; registers = first_registers turns.number } ∷ t ∷ callers_of functions before.callers)
              (turning_standing turned code _ here refl ∙ ap (λ n. record { end_line = code.end_line; rest = numbers turns.line turns.register turns.function n (turns.left - 1) rest; registers = registers }) one ∙ ap (λ n. record { end_line = code.end_line; rest = numbers turns.line turns.register turns.function (suc turns.number) n rest; registers = registers }) two))
              (turn_leads functions monoids code.end_line (callers_of functions before.callers) rest before.top.registers (store_of before) turns.line turns.function turns.number left turns.register callee h);
          further = λ z. absurd (omega arith);
        })

  -- ---- the end of a function

  left_stack : (before after : ElisionState) (over : Bool) → after.over ≡ over → is_left over before after → stack_of functions after ≡ callers_of functions before.callers
  left_stack before after true e l = ap (λ b. stack_in functions b after.top after.callers) e ∙ ap (λ c. callers_of functions c) (sym l.0)
  left_stack before after false e l = going_stack after e ∙ sym (callers_pushed after.callers after.top) ∙ ap (λ c. callers_of functions c) (sym l)

  left_places : (before after : ElisionState) (over : Bool) → IsInPlace functions before.top → ((index : ℕ) (caller : ElidedCall) → slice_get before.callers index ≡ Some caller → IsInPlace functions caller) → is_left over before after → IsInPlace functions after.top × ((index : ℕ) (caller : ElidedCall) → slice_get after.callers index ≡ Some caller → IsInPlace functions caller)
  left_places before after true top callers l = (subst (λ a. IsInPlace functions a) (sym l.2) (record { known = let k = top.known in omega (arith, k); within = omega arith; turning = tt }), λ k caller h. absurd (no_item k caller (ap (λ xs. slice_get xs k) (sym l.1) ∙ h)))
  left_places before after false top callers l =
      (callers (length after.callers) after.top (ap (λ xs. slice_get xs (length after.callers)) l ∙ item_pushed after.callers after.top), λ k caller h. callers k caller (ap (λ xs. slice_get xs k) l ∙ item_kept after.callers after.top k caller h))

  pub left_stands : (cells : ℕ) (before after : ElisionState) → Stands functions monoids cells before → IsLeft before after → Stands functions monoids cells after
  left_stands cells before after s l =
      let p = left_places before after after.over s.top s.callers l.stack in
      record {
        top = p.0;
        callers = p.1;
        memory = ap (λ m. length m) l.memory ∙ s.memory;
        views = ap (λ v. length v) l.views ∙ s.views;
        same_monoids = l.monoids ∙ s.same_monoids;
        fits = λ reducer h. subst (λ v. FitsMonoid (monoid_of monoids reducer) (slice_index_or v reducer Nothing)) (sym l.views) (s.fits reducer h);
      }

  drop_all : (place : ℕ) (body : List Statement) → length body ≤ place → drop place body ≡ []
  drop_all zero [] h = refl
  drop_all zero (x ∷ body) h = absurd (omega (arith, h))
  drop_all (suc place) [] h = refl
  drop_all (suc place) (x ∷ body) h = drop_all place body (omega (arith, h))

  pub left_makes : (before after : ElisionState) (code : Code) → slice_get functions before.top.function ≡ Some code → before.over ≡ false → before.top.turns ≡ None → length code.body ≤ before.top.place → IsLeft before after → Makes functions monoids 2 before after
  left_makes before after code here going quiet ends l =
      let store : store_of before ≡ store_of after = λ i. record { memory = sym l.memory i; views = sym l.views i } in
      record {
        done = effect Act.Sync code.end_line ∷ effect Act.Return code.end_line ∷ [];
        count = refl;
        leads = subst (λ s. Leads functions monoids (effect Act.Sync code.end_line ∷ effect Act.Return code.end_line ∷ []) (configuration_of functions before) (configuration (stack_of functions after) s)) store
            (leads_between _ _ _ _ _ (store_of before) (store_of before)
            (going_stack before going ∙ ap (λ t. t ∷ callers_of functions before.callers) (quiet_standing before.top code here quiet ∙ ap (λ s. record { end_line = code.end_line; rest = left_at code.end_line s; registers = before.top.registers }) (drop_all before.top.place code.body ends)))
            (left_stack before after after.over refl l.stack)
            (end_leads functions monoids code.end_line (callers_of functions before.callers) before.top.registers (store_of before)));
        further = λ z. absurd (omega arith);
      }

  -- ---- `if`

  module _ (cells : ℕ) (before : ElisionState) (code : Code) (here : slice_get functions before.top.function ≡ Some code) (line : ℕ) (register : Register) (otherwise : ℕ) (ends : EndsAt code.body before.top.place otherwise) (after : ElisionState) where
    pub if_stands : Stands functions monoids cells before → before.top.place + 1 ≤ length code.body → (held : ℕ) → slice_index before.top.registers register.index ≡ held → (slice_index before.top.registers register.index ≢ 0 → after ≡ with_top before (moved before.top (before.top.place + 1) before.top.registers)) → (slice_index before.top.registers register.index ≡ 0 → after ≡ with_top before (moved before.top otherwise before.top.registers)) → Stands functions monoids cells after
    if_stands s within zero e first second = moved_stands cells before code here otherwise before.top.registers after s ends.1 (second e)
    if_stands s within (suc held) e first second = moved_stands cells before code here (before.top.place + 1) before.top.registers after s within (first (λ z. omega (arith, e, z)))

    pub if_makes : before.over ≡ false → before.top.turns ≡ None → slice_get code.body before.top.place ≡ Some (If line register otherwise) → (held : ℕ) → slice_index before.top.registers register.index ≡ held → (slice_index before.top.registers register.index ≢ 0 → after ≡ with_top before (moved before.top (before.top.place + 1) before.top.registers)) → (slice_index before.top.registers register.index ≡ 0 → after ≡ with_top before (moved before.top otherwise before.top.registers)) → Makes functions monoids 0 before after
    if_makes going quiet at zero e first second =
        let i = if_left line register otherwise (drop (before.top.place + 1) code.body) in
        let close = closing code.end_line in
        let there : and_then i.second (and_then i.later close) ≡ left_at code.end_line (drop otherwise code.body) = sym (and_then_assoc i.second i.later close) ∙ ap (λ t. and_then t close) (sym i.there) ∙ ap (λ l. left_at code.end_line l) (sym ends.2) in
        line_makes cells before code here going quiet (If line register otherwise) at 0 otherwise before.top.registers (store_of before) [] after refl (λ _. ends.0)
        (leads_between [] _ _ _ _ (store_of before) (store_of before) (ap (λ t. record { end_line = code.end_line; rest = and_then t close; registers = before.top.registers } ∷ callers_of functions before.callers) i.whole) (ap (λ t. record { end_line = code.end_line; rest = t; registers = before.top.registers } ∷ callers_of functions before.callers) (sym there))
        (second_leads functions monoids code.end_line (callers_of functions before.callers) i.first i.second (and_then i.later close) before.top.registers (store_of before) line register e))
        (second e)
    if_makes going quiet at (suc held) e first second =
        let i = if_left line register otherwise (drop (before.top.place + 1) code.body) in
        let close = closing code.end_line in
        let some : slice_index before.top.registers register.index ≢ 0 = λ z. omega (arith, e, z) in
        let there : and_then i.first (and_then i.later close) ≡ left_at code.end_line (drop (before.top.place + 1) code.body) = sym (and_then_assoc i.first i.later close) ∙ ap (λ t. and_then t close) (sym i.here) in
        line_makes cells before code here going quiet (If line register otherwise) at 0 (before.top.place + 1) before.top.registers (store_of before) [] after refl (λ _. omega arith)
        (leads_between [] _ _ _ _ (store_of before) (store_of before) (ap (λ t. record { end_line = code.end_line; rest = and_then t close; registers = before.top.registers } ∷ callers_of functions before.callers) i.whole) (ap (λ t. record { end_line = code.end_line; rest = t; registers = before.top.registers } ∷ callers_of functions before.callers) (sym there))
        (first_leads functions monoids code.end_line (callers_of functions before.callers) i.first i.second (and_then i.later close) before.top.registers (store_of before) line register some))
        (first some)

  -- ---- whole programs

  stack_main : (main : Code) (store last : Store) (effects : List Effect) → Evaluates functions monoids main.end_line (script main) (first_registers 0) store effects last → StackEvaluates functions monoids (main_stack main) store effects last
  stack_main main store last effects e = (effects, [], last, e, (refl, refl), sym (append-nil effects))

  main_of_stack : (main : Code) (store last : Store) (effects : List Effect) → StackEvaluates functions monoids (main_stack main) store effects last → Evaluates functions monoids main.end_line (script main) (first_registers 0) store effects last
  main_of_stack main store last effects s =
      let e : s.0 ≡ effects = sym (s.5 ∙ ap (λ l. s.0 ++ l) s.4.0 ∙ append-nil s.0) in
      subst (λ m. Evaluates functions monoids main.end_line (script main) (first_registers 0) store effects m) s.4.1 (subst (λ l. Evaluates functions monoids main.end_line (script main) (first_registers 0) store l s.2) e s.3)

  -- what opens the program stands in it
  opening_placed : (main cells : ℕ) → main < length functions → Stands functions monoids cells (first_state main monoids cells)
  opening_placed main cells known = record {
    top = record { known = known; within = omega arith; turning = tt };
    callers = λ k caller h. absurd (no_item k caller h);
    memory = length-replicate cells 0;
    views = length-map monoids identity_of;
    same_monoids = refl;
    fits = λ reducer h. subst (λ v. FitsMonoid (monoid_of monoids reducer) v) (sym (get_or-map identity_of monoids reducer Sum Nothing h)) (identity_fits (monoid_of monoids reducer));
  }

  pub opening_stands : (cells : ℕ) (state : ElisionState) → IsOpening functions monoids cells state → Stands functions monoids cells state
  opening_stands cells state o = subst (λ s. Stands functions monoids cells s) (sym o.is) (opening_placed o.main cells (main_below functions o.main o.is_main))

  -- and leads on from its begin
  pub opening_leads : (cells : ℕ) (state : ElisionState) → IsOpening functions monoids cells state → (main : Code) × HasMain functions main × Leads functions monoids [] (configuration (main_stack main) (first_store monoids cells)) (configuration_of functions state)
  opening_leads cells state o =
      let f = found functions o.main (main_below functions o.main o.is_main) in
      let first = first_state o.main monoids cells in
      let e : stack_of functions first ≡ main_stack f.0 = ap (λ t. t ∷ []) (begun_standing o.main 0 f.0 f.1) in
      (f.0, (o.main, o.is_main, f.1), subst (λ s. Leads functions monoids [] (configuration (main_stack f.0) (first_store monoids cells)) (configuration_of functions s)) (sym o.is) (leads_between [] _ _ _ _ (first_store monoids cells) (first_store monoids cells) refl e (leads_nowhere functions monoids (configuration (main_stack f.0) (first_store monoids cells)))))

  -- some requests more
  pub more_leads : (cells asked requests : ℕ) (main : Code) (done : List Effect) (before after : ElisionState) → length done ≡ requests → Leads functions monoids done (configuration (main_stack main) (first_store monoids cells)) (configuration_of functions before) → Makes functions monoids asked before after → (more : List Effect) × (length more ≡ requests + asked) × Leads functions monoids more (configuration (main_stack main) (first_store monoids cells)) (configuration_of functions after)
  more_leads cells asked requests main done before after count leads m =
      (done ++ m.done, (let c = length-append done m.done in let d = m.count in omega (arith, c, d, count)), leads_on functions monoids done m.done _ _ _ leads m.leads)

  -- an evaluator that is over has found the program's memory
  pub over_elides : (cells requests : ℕ) (main : Code) (done : List Effect) (state : ElisionState) → HasMain functions main → state.over ≡ true → length done ≡ requests → Leads functions monoids done (configuration (main_stack main) (first_store monoids cells)) (configuration_of functions state) → Elides functions monoids cells state.memory requests
  over_elides cells requests main done state is_main over count leads =
      let l = subst (λ s. Leads functions monoids done (configuration (main_stack main) (first_store monoids cells)) (configuration s (store_of state))) (ap (λ b. stack_in functions b state.top state.callers) over) leads in
      record {
        main = main;
        is_main = is_main;
        effects = done;
        views = state.views;
        evaluates = main_of_stack main (first_store monoids cells) (store_of state) done (subst (λ d. StackEvaluates functions monoids (main_stack main) (first_store monoids cells) d (store_of state)) (append-nil done) (l.back [] (store_of state) (refl, refl)));
        count = count;
        only = λ others last e.
            let x = l.on others last (stack_main main (first_store monoids cells) last others e) in
            (x.1 ∙ ap (λ r. done ++ r) x.2.0 ∙ append-nil done, sym x.2.1);
      }

  -- where so many requests lead on, the program needs as many
  pub leads_needs : (cells limit : ℕ) (main : Code) (done : List Effect) (stack : List Standing) (store : Store) → HasMain functions main → limit < length done → Leads functions monoids done (configuration (main_stack main) (first_store monoids cells)) (configuration stack store) → NeedsMore functions monoids cells limit
  leads_needs cells limit main done stack store is_main more leads =
      record {
        main = main;
        is_main = is_main;
        more = λ effects last e.
            let x = leads.on effects last (stack_main main (first_store monoids cells) last effects e) in
            let a : length effects ≡ length (done ++ x.0) = ap (λ l. length l) x.1 in
            let b = length-append done x.0 in
            omega (arith, a, b, more);
      }
