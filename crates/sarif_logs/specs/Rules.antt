-- The rules of a log.
use Rattle.std.specs.Prelude.{ℕ, Bool, List, [], ◌∷◌, codes, map, unwrap_or}
use Rattle.std.specs.List.{find}
use Rattle.std.specs.Str.{bytes_eq}
use Rattle.serde_json.specs.Data.{Data, string, array, object, member, no_members}
use Rattle.serde_json.specs.View.{items_of}
use Rattle.sarif_logs.specs.declared.rule.Rule.{Rule}
use Rattle.sarif_logs.specs.declared.rule.Rule.TheVariants.{DeterminacyRace, ViewReadRace, UnsetGet, TextFault, IllegalRequest}
use Rattle.sarif_logs.specs.declared.rule.Rule.TheVariants.{DeclaredRegister, UnreachedFunction, UnputReducer, WrappedIndex}
use Rattle.sarif_logs.specs.Places.{text_told}

-- what the log says of a rule
pub record RuleTexts : Type 0 where
  -- the name by which results, and the records of races and warnings, call it
  pub id : List ℕ
  -- the name that people read
  pub name : List ℕ
  -- what is wrong, in a few words
  pub summary : List ℕ
  -- what is wrong, in full
  pub description : List ℕ
  -- what to do
  pub help : List ℕ

abbrev pub texts : Rule → RuleTexts
texts DeterminacyRace = record {
  id = codes "determinacy-race";
  name = codes "DeterminacyRace";
  summary = codes "Two accesses of one cell may run in either order.";
  description = codes "Two strands that may run at the same time access one cell, and the order of the two accesses matters. So two runs of the program may differ.";
  help = codes "Order the two by a sync, give each strand a cell of its own, or use a reducer.";
}
texts ViewReadRace = record {
  id = codes "view-read-race";
  name = codes "ViewReadRace";
  summary = codes "A reducer is read with other peers than before.";
  description = codes "Two reads of one reducer are of strands with different peers: other strands may run at the same time as one than as the other. What a read finds may depend on the schedule.";
  help = codes "Move the read behind the sync that waits for the spawn.";
}
texts UnsetGet = record {
  id = codes "unset-get";
  name = codes "UnsetGet";
  summary = codes "A reducer is read before it is put.";
  description = codes "A get of a reducer comes before any granted put or get of it.";
  help = codes "Put a value into the reducer first, in the serial order.";
}
texts TextFault = record {
  id = codes "text-fault";
  name = codes "TextFault";
  summary = codes "The text means no program and no trace.";
  description = codes "A line of the text breaks the rules of programs or of traces. So nothing was run or judged.";
  help = codes "Write the line as the message says.";
}
texts IllegalRequest = record {
  id = codes "illegal-request";
  name = codes "IllegalRequest";
  summary = codes "A request of the trace is illegal.";
  description = codes "No history allows the request at its place. So the requests behind it were not judged.";
  help = codes "Record the trace again, or mend the request.";
}
texts DeclaredRegister = record {
  id = codes "declared-register";
  name = codes "DeclaredRegister";
  summary = codes "A register bears the name of a memory or a reducer.";
  description = codes "A register is another thing than the memory or reducer of the same name: assigning it writes no cell.";
  help = codes "Access the memory or reducer by a request, or give the register another name.";
}
texts UnreachedFunction = record {
  id = codes "unreached-function";
  name = codes "UnreachedFunction";
  summary = codes "A function is never reached.";
  description = codes "No spawn or call leads from main to the function.";
  help = codes "Spawn the function, call it, or leave it out.";
}
texts UnputReducer = record {
  id = codes "unput-reducer";
  name = codes "UnputReducer";
  summary = codes "A reducer is read and never put.";
  description = codes "No function that main reaches puts the reducer, so each get of it is refused as unset.";
  help = codes "Put a value into the reducer first.";
}
texts WrappedIndex = record {
  id = codes "wrapped-index";
  name = codes "WrappedIndex";
  summary = codes "An index wraps at the length of its array.";
  description = codes "The index is not below the length of the array, and means its remainder by the length.";
  help = codes "Write an index below the length.";
}

-- how bad it is
abbrev pub level : Rule → List ℕ
level DeterminacyRace = codes "error"
level ViewReadRace = codes "error"
level UnsetGet = codes "error"
level TextFault = codes "error"
level IllegalRequest = codes "error"
level DeclaredRegister = codes "warning"
level UnreachedFunction = codes "warning"
level UnputReducer = codes "warning"
level WrappedIndex = codes "warning"

-- its place among all rules, from 0 on
abbrev pub number : Rule → ℕ
number DeterminacyRace = 0
number ViewReadRace = 1
number UnsetGet = 2
number TextFault = 3
number IllegalRequest = 4
number DeclaredRegister = 5
number UnreachedFunction = 6
number UnputReducer = 7
number WrappedIndex = 8

-- all rules, in the order of the log
abbrev pub all_rules : List Rule
all_rules =
    DeterminacyRace ∷ ViewReadRace ∷ UnsetGet ∷ TextFault ∷ IllegalRequest ∷
    DeclaredRegister ∷ UnreachedFunction ∷ UnputReducer ∷ WrappedIndex ∷ []

-- whether a rule has this id
abbrev pub is_named : (name : List ℕ) → Rule → Bool
is_named name rule = bytes_eq name (texts rule).id

-- the rule with this id; that of a race, where there is none
abbrev pub rule_named : (name : List ℕ) → Rule
rule_named name = unwrap_or (find (is_named name) all_rules) DeterminacyRace

abbrev pub level_told : Rule → Data
level_told rule = object (member (codes "level") (string (level rule)) no_members)

-- a rule as the log describes it
abbrev pub rule_told : Rule → Data
rule_told rule =
    object (member (codes "defaultConfiguration") (level_told rule)
    (member (codes "fullDescription") (text_told (texts rule).description)
    (member (codes "help") (text_told (texts rule).help)
    (member (codes "id") (string (texts rule).id)
    (member (codes "name") (string (texts rule).name)
    (member (codes "shortDescription") (text_told (texts rule).summary) no_members))))))

abbrev pub rules_told : Data
rules_told = array (items_of (map rule_told all_rules))
