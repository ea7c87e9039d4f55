-- What a gate keeps is right after one more entry.
use Rattle.std.proofs.Common.{◌≡◌, ℕ, suc, ◌<◌, Option, Some, None, List, [], ◌∷◌, ◌++◌, length, take, drop, true, false, Bool, cond, refl, sym, ◌∙◌, ap, subst, arith}
use Rattle.std.specs.Prelude.{MatchOption, slice_index}
use Rattle.std.specs.Option.{option_to_list}
use Rattle.std.proofs.lemmas.List.{append-nil}
use Rattle.std.proofs.lemmas.Grind.{common_steps}
use Rattle.model_accesses.specs.declared.request.Act.{Act}
use Rattle.model_accesses.specs.declared.request.Act.TheVariants.{Spawn, Sync, Call, Return, Read, Write, Bump, Update, Put, Get}
use Rattle.model_strands.specs.History.{Event, History}
use Rattle.model_strands.specs.Strands.{Running}
use Rattle.model_strands.specs.Legal.{Allowed, Legal, then}
use Rattle.model_reducers.specs.Steps.{other, Steps}
use Rattle.law_values.specs.Accesses.{control_steps}
use Rattle.sp_labels.specs.Roster.{Roster, Follows}
use Rattle.shadow_history.specs.declared.cell.Cell.{Cell}
use Rattle.shadow_history.specs.Shadow.{Remembers}
use Rattle.shadow_history.proofs.Later.{later_law}
use Rattle.model_races.specs.declared.access.CellAccess.{CellAccess}
use Rattle.race_gate.specs.declared.access.ControlAct.{ControlAct}
use Rattle.race_gate.specs.declared.access.ControlAct.TheVariants as control
use Rattle.race_gate.specs.declared.access.CellAct.{CellAct}
use Rattle.race_gate.specs.declared.access.CellAct.TheVariants as cell
use Rattle.race_gate.specs.declared.access.ReducerAct.{ReducerAct}
use Rattle.race_gate.specs.declared.access.ReducerAct.TheVariants as reducer
use Rattle.model_histories.specs.declared.answer.Answer.{Answer}
use Rattle.model_histories.specs.declared.answer.Answer.TheVariants.{Granted}
use Rattle.model_histories.specs.declared.answer.Entry.{Entry}
use Rattle.model_histories.specs.Entries.{Entries, event_between, event_of, with_event, control_part}
use Rattle.model_histories.specs.Shapes.{Shape, IsInRange}
use Rattle.model_histories.specs.Legal.{Belongs}
use Rattle.model_races.specs.Accesses.{cell_access, is_granted, access_at, granted}
use Rattle.race_gate.specs.Accesses.{act_of_control, act_of_cell, act_of_reducer, access_of, reducer_of}
use Rattle.model_races.specs.Memory.{leaves, effect_on_cell}
use Rattle.model_races.specs.Verdicts.{IfValue, IsRightVerdict}
use Rattle.model_races.specs.Reducers.{step_with, steps_of, read_at, granted_reads}
use Rattle.model_races.specs.ReducerVerdicts.{IsRightFor, ReadsBefore, reads_before}
use Rattle.race_gate.specs.Books.{Books, Keeps, OptionKeepsStill, OptionKeepsOn, OptionKeepsSome, OptionKeepsRunning, OptionHasReducer, answered_act, OptionAnswersAccess}
use Rattle.model_histories.specs.States.{GateState}
use Rattle.race_gate.specs.Kept.{TracksState, AreBooksOf, IsKept}
use Rattle.model_histories.specs.Faults.{IsFaultless}
use Rattle.race_gate.specs.Steps.{FollowsWith, GoesOn, if_granted, numbered_access, IsJudgedBy, TakesPlace}
use Rattle.race_gate.proofs.Effects.{memory-after}
use Rattle.race_gate.proofs.Keeping.{keeps-other}

-- ---- acts of control and accesses

at_location : {made access : CellAccess} {cells : ℕ} → Some made ≡ Some access → made.location < cells → access.location < cells
at_location {made} {access} {cells} is below = let same : made.location ≡ access.location = cc in omega arith

-- the cell of an access is there
pub in-cells : (shape : Shape) (act : Act) (access : CellAccess) → cell_access act ≡ Some access → IsInRange shape act → access.location < shape.cells
in-cells shape Spawn access is in_range = absurd (cc)
in-cells shape Sync access is in_range = absurd (cc)
in-cells shape Call access is in_range = absurd (cc)
in-cells shape Return access is in_range = absurd (cc)
in-cells shape (Read location) access is in_range = at_location is in_range
in-cells shape (Write location value) access is in_range = at_location is in_range
in-cells shape (Bump location value) access is in_range = at_location is in_range
in-cells shape (Update reducer value) access is in_range = absurd (cc)
in-cells shape (Put reducer value) access is in_range = absurd (cc)
in-cells shape (Get reducer) access is in_range = absurd (cc)

-- what an access of a cell is to the strands and to the reducers: no event, no update or put, and no read
record IsCellStep (number strand : ℕ) (act : Act) (answer : Answer) : Type 0 where
  no_event : event_between strand act answer ≡ None
  step : step_with None strand act answer ≡ other strand
  no_read : read_at number strand act answer ≡ None
  right : (before : ReadsBefore) → IsRightFor before strand act answer

cell-step : (number strand : ℕ) (act : Act) (access : CellAccess) (answer : Answer) → cell_access act ≡ Some access → IsCellStep number strand act answer
cell-step number strand (Read location) access answer is = record { no_event = refl; step = refl; no_read = refl; right = λ before. tt }
cell-step number strand (Write location value) access answer is = record { no_event = refl; step = refl; no_read = refl; right = λ before. tt }
cell-step number strand (Bump location value) access answer is = record { no_event = refl; step = refl; no_read = refl; right = λ before. tt }
cell-step number strand act access answer is = absurd (cc)

-- what an event of control is to the reducers: no read
record IsControlStep (number strand : ℕ) (act : Act) (answer : Answer) : Type 0 where
  no_read : read_at number strand act answer ≡ None
  right : (before : ReadsBefore) → IsRightFor before strand act answer

control-step : (number strand : ℕ) (asked : Act) (act : ControlAct) (answer : Answer) → asked ≡ act_of_control act → IsControlStep number strand asked answer
control-step number strand asked act answer is = subst (λ a. IsControlStep number strand a answer) (sym is) (of_control act)
  where
    of_control : (act : ControlAct) → IsControlStep number strand (act_of_control act) answer
    of_control control.Spawn = record { no_read = refl; right = λ before. tt }
    of_control control.Sync = record { no_read = refl; right = λ before. tt }
    of_control control.Call = record { no_read = refl; right = λ before. tt }
    of_control control.Return = record { no_read = refl; right = λ before. tt }

-- an access of a reducer is no event
reducer-no_event : (strand : ℕ) (asked : Act) (act : ReducerAct) (answer : Answer) → asked ≡ act_of_reducer act → event_between strand asked answer ≡ None
reducer-no_event strand asked act answer is = ap (λ a. event_between strand a answer) is ∙ of_reducer act
  where
    of_reducer : (act : ReducerAct) → event_between strand (act_of_reducer act) answer ≡ None
    of_reducer (reducer.Update place value) = refl
    of_reducer (reducer.Put place value) = refl
    of_reducer (reducer.Get place) = refl

-- ---- what an act asks for

pub cell-asked : (asked : Act) (act : CellAct) → asked ≡ act_of_cell act → cell_access asked ≡ Some (access_of act)
cell-asked asked act is = ap cell_access is ∙ of_cell act
  where
    of_cell : (act : CellAct) → cell_access (act_of_cell act) ≡ Some (access_of act)
    of_cell (cell.Read location) = refl
    of_cell (cell.Write location value) = refl
    of_cell (cell.Bump location value) = refl

control-asked : (asked : Act) (act : ControlAct) → asked ≡ act_of_control act → cell_access asked ≡ None
control-asked asked act is = ap cell_access is ∙ of_control act
  where
    of_control : (act : ControlAct) → cell_access (act_of_control act) ≡ None
    of_control control.Spawn = refl
    of_control control.Sync = refl
    of_control control.Call = refl
    of_control control.Return = refl

reducer-asked : (asked : Act) (act : ReducerAct) → asked ≡ act_of_reducer act → cell_access asked ≡ None
reducer-asked asked act is = ap cell_access is ∙ of_reducer act
  where
    of_reducer : (act : ReducerAct) → cell_access (act_of_reducer act) ≡ None
    of_reducer (reducer.Update place value) = refl
    of_reducer (reducer.Put place value) = refl
    of_reducer (reducer.Get place) = refl

-- the reducer of an access is there
pub in-reducers : (shape : Shape) (asked : Act) (act : ReducerAct) → asked ≡ act_of_reducer act → IsInRange shape asked → reducer_of act < length shape.monoids
in-reducers shape asked act is in_range = of_reducer act (subst (IsInRange shape) is in_range)
  where
    of_reducer : (act : ReducerAct) → IsInRange shape (act_of_reducer act) → reducer_of act < length shape.monoids
    of_reducer (reducer.Update place value) in_range = in_range
    of_reducer (reducer.Put place value) in_range = in_range
    of_reducer (reducer.Get place) in_range = in_range

-- what is no access of a cell leaves memory as it is
no_access-leaves : (act : Act) (answer : Answer) → cell_access act ≡ None → effect_on_cell act answer ≡ leaves
no_access-leaves Spawn answer no_access = refl
no_access-leaves Sync answer no_access = refl
no_access-leaves Call answer no_access = refl
no_access-leaves Return answer no_access = refl
no_access-leaves (Read location) answer no_access = refl
no_access-leaves (Write location value) answer no_access = absurd (cc)
no_access-leaves (Bump location value) answer no_access = absurd (cc)
no_access-leaves (Update reducer value) answer no_access = refl
no_access-leaves (Put reducer value) answer no_access = refl
no_access-leaves (Get reducer) answer no_access = refl

either_way : {X : Type 0} (b : Bool) (x : X) → cond b x x ≡ x
either_way true x = refl
either_way false x = refl

-- the list of granted accesses after an entry
no_access-granted : (entry : Entry) (entries : Entries) → cell_access entry.request.act ≡ None → granted (entry ∷ entries) ≡ granted entries
no_access-granted entry entries no_access =
    let none : access_at (suc (length entries)) entry ≡ None = rw no_access (either_way (is_granted entry.answer) None) in
    ap (λ more. granted entries ++ option_to_list more) none ∙ append-nil (granted entries)

access-granted : (entry : Entry) (entries : Entries) (access : CellAccess) → cell_access entry.request.act ≡ Some access →
    granted (entry ∷ entries) ≡
    granted entries ++ option_to_list (if_granted entry.answer (numbered_access (suc (length entries)) entry.request.strand access))
access-granted entry entries access is = rw is refl

-- a value that a cell held is that of the definition
value-held : (answer : Answer) (held defined : ℕ) → held ≡ defined → IfValue answer (λ value. value ≡ held) → IfValue answer (λ value. value ≡ defined)
value-held answer held defined same value = subst (λ n. IfValue answer (λ value. value ≡ n)) same value

-- ---- steps

access-control : (strand : ℕ) (act : Act) (answer : Answer) (steps : Steps) → control_steps (step_with None strand act answer ∷ steps) ≡ control_steps steps
access-control strand (Update reducer value) Granted steps = refl
access-control strand (Put reducer value) Granted steps = refl
access-control strand act answer steps = refl

entry-control : (event : Option Event) (strand : ℕ) (act : Act) (answer : Answer) (steps : Steps) →
    control_steps (step_with event strand act answer ∷ steps) ≡ with_event event (control_steps steps)
entry-control (Some event) strand act answer steps = refl
entry-control None strand act answer steps = access-control strand act answer steps

-- the events among the steps are those of the entries
pub steps-control : (entries : Entries) → control_steps (steps_of entries) ≡ control_part entries
steps-control [] = refl
steps-control (entry ∷ entries) =
    entry-control (event_of entry) entry.request.strand entry.request.act entry.answer (steps_of entries) ∙
    ap (with_event (event_of entry)) (steps-control entries)

-- ---- books after one more entry

pub last_allowed : {history : History} {event : Event} → Legal (event ∷ history) → Allowed history event
last_allowed (then legal allowed) = allowed

module _ (shape : Shape) (entry : Entry) (entries : Entries) where
  books-event : (old new : Option Books) (event : Event) → event_of entry ≡ Some event → Allowed (control_part entries) event →
      read_at (suc (length entries)) entry.request.strand entry.request.act entry.answer ≡ None → OptionKeepsOn old new event →
      AreBooksOf shape entries old → AreBooksOf shape (entry ∷ entries) new
  books-event None None event is allowed no_read on none = none
  books-event None (Some new) event is allowed no_read on none = absurd on
  books-event (Some old) None event is allowed no_read on books = absurd on
  books-event (Some old) (Some new) event is allowed no_read on books = (
    on.monoids ∙ books.0,
    rw (is, no_read, append-nil) (on.keeps (steps_of entries) (granted_reads entries) books.1 (subst (λ h. Allowed h event) (sym (steps-control entries)) allowed)),
  )

  books-cell : (books : Option Books) → event_of entry ≡ None → step_with None entry.request.strand entry.request.act entry.answer ≡ other entry.request.strand →
      read_at (suc (length entries)) entry.request.strand entry.request.act entry.answer ≡ None → Running (control_part entries) entry.request.strand →
      AreBooksOf shape entries books → AreBooksOf shape (entry ∷ entries) books
  books-cell None none step no_read runs books = books
  books-cell (Some kept) none step no_read runs books = (
    books.0,
    rw (none, step, no_read, append-nil)
        (keeps-other kept (steps_of entries) (granted_reads entries) entry.request.strand books.1
        (subst (λ h. Running h entry.request.strand) (sym (steps-control entries)) runs)),
  )

  -- what an access of a reducer makes of them, and that its answer is right
  record IsDone (new : Option Books) : Type 0 where
    belongs : Belongs entry.request.act entry.answer
    right : IsRightFor (reads_before shape.monoids entries) entry.request.strand entry.request.act entry.answer
    books : AreBooksOf shape (entry ∷ entries) new

  books-reducer : (old new : Option Books) (number : ℕ) → number ≡ suc (length entries) → event_of entry ≡ None → Running (control_part entries) entry.request.strand →
      OptionAnswersAccess old new (answered_act number entry.request.strand entry.request.act entry.answer) → AreBooksOf shape entries old → IsDone new
  books-reducer None new number numbered none runs answers books = absurd answers
  books-reducer (Some old) None number numbered none runs answers books = absurd answers
  books-reducer (Some old) (Some new) number numbered none runs answers books =
      let done = answers.answered (steps_of entries) (granted_reads entries) books.1 (subst (λ h. Running h entry.request.strand) (sym (steps-control entries)) runs) in
      let monoids = answers.monoids ∙ books.0 in
      record {
        belongs = done.belongs;
        right = subst (λ h. IsRightFor (record (reads_before shape.monoids entries) { history = h }) entry.request.strand entry.request.act entry.answer) (steps-control entries)
            (subst (λ list. IsRightFor (record (reads_before list entries) { history = control_steps (steps_of entries) }) entry.request.strand entry.request.act entry.answer)
            monoids done.right);
        books = (
          monoids,
          rw none (subst (λ n. Keeps new (step_with None entry.request.strand entry.request.act entry.answer ∷ steps_of entries)
              (granted_reads entries ++ option_to_list (read_at n entry.request.strand entry.request.act entry.answer))) numbered done.keeps),
        );
      }

-- ---- what the gate's steps ask for

module _ (shape : Shape) (entries : Entries) where
  pub books-known : (books : Option Books) (reducer : ℕ) → AreBooksOf shape entries books → reducer < length shape.monoids → OptionHasReducer books reducer
  books-known None reducer none in_range = absurd (omega (arith, ap length none))
  books-known (Some books) reducer kept in_range = omega (arith, ap length kept.0)

  pub books-running : (books : Option Books) (reducer strand : ℕ) → AreBooksOf shape entries books → reducer < length shape.monoids →
      Running (control_part entries) strand → OptionKeepsRunning books strand
  books-running None reducer strand kept in_range runs = books-known None reducer kept in_range
  books-running (Some books) reducer strand kept in_range runs =
      (steps_of entries, granted_reads entries, kept.1, subst (λ h. Running h strand) (sym (steps-control entries)) runs)

books-some : (shape : Shape) (entries : Entries) (books : Option Books) → AreBooksOf shape entries books → OptionKeepsSome books (control_part entries)
books-some shape entries None kept = tt
books-some shape entries (Some books) kept = (steps_of entries, granted_reads entries, kept.1, steps-control entries)

-- the strands and the books are of one history
pub kept-follows : (state : GateState) (tracks : TracksState) → IsKept state tracks → FollowsWith tracks.strands tracks.reducers
kept-follows state tracks kept = (control_part state.history, kept.follows, books-some state.shape state.history tracks.reducers kept.reducers)

books-still : (shape : Shape) (entries : Entries) (old new : Option Books) → OptionKeepsStill old new → AreBooksOf shape entries old → AreBooksOf shape entries new
books-still shape entries None None still kept = kept
books-still shape entries None (Some new) still kept = absurd still
books-still shape entries (Some old) None still kept = absurd still
books-still shape entries (Some old) (Some new) still kept = (still.monoids ∙ kept.0, still.keeps (steps_of entries) (granted_reads entries) kept.1)

-- a refusal of memory changes nothing
pub kept-still : (state : GateState) (tracks : TracksState) (after : Roster) (others : Option Books) → IsKept state tracks →
    after ≡ tracks.strands → OptionKeepsStill tracks.reducers others → IsKept state (record tracks { strands = after; reducers = others })
kept-still state tracks after others kept same still = record {
  right = kept.right;
  follows = subst (λ strands. Follows strands (control_part state.history)) (sym same) kept.follows;
  remembers = kept.remembers;
  locations = kept.locations;
  within = kept.within;
  limited = kept.limited;
  reducers = books-still state.shape state.history tracks.reducers others still kept.reducers;
}

-- ---- one more entry

module _ (state : GateState) (tracks : TracksState) (kept : IsKept state tracks) (entry : Entry) (faultless : IsFaultless state entry.request) where
  entered : (after : TracksState) (memory : List ℕ) → Belongs entry.request.act entry.answer →
      MatchOption (event_of entry) (Unit {0}) (Allowed (control_part state.history)) →
      MatchOption (cell_access entry.request.act) (Unit {0}) (λ access. IsRightVerdict state.history entry.request.strand access entry.answer) →
      IsRightFor (reads_before state.shape.monoids state.history) entry.request.strand entry.request.act
      entry.answer →
      TakesPlace (effect_on_cell entry.request.act entry.answer) state.memory memory → Follows after.strands (control_part (entry ∷ state.history)) →
      Remembers after.shadow (control_part (entry ∷ state.history)) (granted (entry ∷ state.history)) → length after.shadow ≡ length tracks.shadow →
      AreBooksOf state.shape (entry ∷ state.history) after.reducers → IsKept (record state { history = entry ∷ state.history; memory = memory }) after
  entered after memory belongs allowed verdict right takes follows remembers len reducers = record {
    right = record {
      judged = record {
        legal = (kept.right.judged.legal, record { runs = faultless.runs; in_range = faultless.in_range; belongs = belongs; allowed = allowed });
        memory = (kept.right.judged.memory, verdict);
        reducers = (kept.right.judged.reducers, right);
      };
      memory = memory-after state.shape.cells entry state.history state.memory memory kept.right.memory takes;
    };
    follows = follows;
    remembers = remembers;
    locations = len ∙ kept.locations;
    within = let below = faultless.below in omega arith;
    limited = kept.limited;
    reducers = reducers;
  }

  -- an event of control
  pub entered-control : (act : ControlAct) (after : Roster) (others : Option Books) → entry.request.act ≡ act_of_control act →
      GoesOn (control_part state.history) entry.request.strand entry.request.act entry.answer after →
      ((event : Event) → event_of entry ≡ Some event → OptionKeepsOn tracks.reducers others event) →
      IsKept (record state { history = entry ∷ state.history }) (record tracks { strands = after; reducers = others })
  entered-control act after others is goes on =
      let no_access = control-asked entry.request.act act is in
      let part : control_part (entry ∷ state.history) ≡ goes.event ∷ control_part state.history = rw goes.is refl in
      let legal : Legal (goes.event ∷ control_part state.history) = goes.follows.legal in
      let remembers : Remembers tracks.shadow (goes.event ∷ control_part state.history) (granted state.history) =
      later_law tracks.shadow (granted state.history) (control_part state.history) (goes.event ∷ control_part state.history) (goes.event ∷ [], refl) legal kept.remembers in
      let step = control-step (suc (length state.history)) entry.request.strand entry.request.act act entry.answer is in
      entered (record tracks { strands = after; reducers = others }) state.memory goes.belongs (rw goes.is (last_allowed legal)) (rw no_access tt) (step.right (reads_before state.shape.monoids state.history))
      (rw (no_access-leaves entry.request.act entry.answer no_access) (record { len = refl; each = λ cell below. refl }))
      (subst (λ h. Follows after h) (sym part) goes.follows)
      (subst (λ h. Remembers tracks.shadow h (granted (entry ∷ state.history))) (sym part)
      (subst (λ xs. Remembers tracks.shadow (goes.event ∷ control_part state.history) xs) (sym (no_access-granted entry state.history no_access)) remembers)) refl
      (books-event state.shape entry state.history tracks.reducers others goes.event goes.is (last_allowed legal) step.no_read (on goes.event goes.is) kept.reducers)

  -- an access of a cell
  pub entered-access : (access : CellAccess) (marks : List Cell) (memory : List ℕ) (number : ℕ) → number ≡ suc (length state.history) →
      cell_access entry.request.act ≡ Some access → access.location < state.shape.cells → Belongs entry.request.act entry.answer →
      IsJudgedBy (control_part state.history) (granted state.history) (numbered_access number entry.request.strand access) entry.answer marks →
      IfValue entry.answer (λ value. value ≡ slice_index state.memory access.location) → TakesPlace (effect_on_cell entry.request.act entry.answer) state.memory memory →
      length marks ≡ length tracks.shadow → IsKept (record state { history = entry ∷ state.history; memory = memory }) (record tracks { shadow = marks })
  entered-access access marks memory number numbered is in_range belongs judged value takes len =
      let step = cell-step (suc (length state.history)) entry.request.strand entry.request.act access entry.answer is in
      let part : control_part (entry ∷ state.history) ≡ control_part state.history = rw step.no_event refl in
      let verdict : IsRightVerdict state.history entry.request.strand access entry.answer = record {
        refused = judged.refused;
        witness = judged.witness;
        value = value-held entry.answer _ _ (kept.right.memory.each access.location in_range) value;
      } in
      entered (record tracks { shadow = marks }) memory belongs (rw step.no_event tt) (rw is verdict) (step.right (reads_before state.shape.monoids state.history)) takes
      (subst (λ h. Follows tracks.strands h) (sym part) kept.follows)
      (subst (λ h. Remembers marks h (granted (entry ∷ state.history))) (sym part)
      (subst (λ xs. Remembers marks (control_part state.history) xs) (sym (access-granted entry state.history access is))
      (subst (λ n. Remembers marks (control_part state.history)
      (granted state.history ++ option_to_list (if_granted entry.answer (numbered_access n entry.request.strand access))))
      numbered judged.remembers))) len
      (books-cell state.shape entry state.history tracks.reducers step.no_event step.step step.no_read faultless.runs kept.reducers)

  -- an access of a reducer
  pub entered-reducer : (act : ReducerAct) (others : Option Books) (number : ℕ) → number ≡ suc (length state.history) → entry.request.act ≡ act_of_reducer act →
      OptionAnswersAccess tracks.reducers others (answered_act number entry.request.strand entry.request.act entry.answer) →
      IsKept (record state { history = entry ∷ state.history }) (record tracks { reducers = others })
  entered-reducer act others number numbered is answers =
      let none = reducer-no_event entry.request.strand entry.request.act act entry.answer is in
      let no_access = reducer-asked entry.request.act act is in
      let part : control_part (entry ∷ state.history) ≡ control_part state.history = rw none refl in
      let done = books-reducer state.shape entry state.history tracks.reducers others number numbered none faultless.runs answers kept.reducers in
      entered (record tracks { reducers = others }) state.memory done.belongs (rw none tt) (rw no_access tt) done.right
      (rw (no_access-leaves entry.request.act entry.answer no_access) (record { len = refl; each = λ cell below. refl }))
      (subst (λ h. Follows tracks.strands h) (sym part) kept.follows)
      (subst (λ h. Remembers tracks.shadow h (granted (entry ∷ state.history))) (sym part)
      (subst (λ xs. Remembers tracks.shadow (control_part state.history) xs) (sym (no_access-granted entry state.history no_access)) kept.remembers)) refl done.books

-- a whole slice that is written back
pub written_back : (old new : List ℕ) (len : ℕ) → length old ≡ len → length new ≡ length old → take len (new ++ drop (length new) old) ≡ new
written_back old new len is same = grind (arith, common_steps)
