-- Acts by their sort: control, accesses of cells, and accesses of reducers.
use Rattle.std.specs.Prelude.{ℕ}
use Rattle.model_accesses.specs.declared.kind.Kind.TheVariants as kind
use Rattle.model_accesses.specs.declared.request.Act.{Act}
use Rattle.model_accesses.specs.declared.request.Act.TheVariants as act
use Rattle.model_races.specs.declared.access.CellAccess.{CellAccess}
use Rattle.race_gate.specs.declared.access.ControlAct.{ControlAct}
use Rattle.race_gate.specs.declared.access.ControlAct.TheVariants.{Spawn, Sync, Call, Return}
use Rattle.race_gate.specs.declared.access.CellAct.{CellAct}
use Rattle.race_gate.specs.declared.access.CellAct.TheVariants.{Read, Write, Bump}
use Rattle.race_gate.specs.declared.access.ReducerAct.{ReducerAct}
use Rattle.race_gate.specs.declared.access.ReducerAct.TheVariants.{Update, Put, Get}
use Rattle.race_gate.specs.declared.access.Sort.{Sort}
use Rattle.race_gate.specs.declared.access.Sort.TheVariants.{Control, Cell, Reducer}

abbrev pub act_of_control : ControlAct → Act
act_of_control Spawn = act.Spawn
act_of_control Sync = act.Sync
act_of_control Call = act.Call
act_of_control Return = act.Return

abbrev pub act_of_cell : CellAct → Act
act_of_cell (Read location) = act.Read location
act_of_cell (Write location value) = act.Write location value
act_of_cell (Bump location value) = act.Bump location value

abbrev pub act_of_reducer : ReducerAct → Act
act_of_reducer (Update reducer value) = act.Update reducer value
act_of_reducer (Put reducer value) = act.Put reducer value
act_of_reducer (Get reducer) = act.Get reducer

-- the act of a sort
abbrev pub act_of_sort : Sort → Act
act_of_sort (Control control) = act_of_control control
act_of_sort (Cell access) = act_of_cell access
act_of_sort (Reducer access) = act_of_reducer access

-- the kind and the cell of an access
abbrev pub access_of : CellAct → CellAccess
access_of (Read location) = record { kind = kind.Read; location = location }
access_of (Write location value) = record { kind = kind.Write; location = location }
access_of (Bump location value) = record { kind = kind.Bump; location = location }

-- the reducer of an access
abbrev pub reducer_of : ReducerAct → ℕ
reducer_of (Update reducer value) = reducer
reducer_of (Put reducer value) = reducer
reducer_of (Get reducer) = reducer
