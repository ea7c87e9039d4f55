use Rattle.std.proofs.Common.{Result, Ok, Err}
use Rattle.std.specs.Prelude.{OnOk, List, ℕ, ◌++◌}
use Rattle.trace_notes.specs.declared.notes.Notes.{Notes}
use Rattle.trace_notes.specs.Notes.{AreNotes, Adds}
use Rattle.trace_notes.proofs.Kept.{are_more}
use Rattle.trace_notes.proofs.notes.Notes.read.Goals as goal

-- what was added to the notes of some lines
read_more : {E : Type 0} (result : Result (Unit {0}) E) (before more : List (List ℕ)) (old new : Notes)
    → OnOk result (Adds more old new) → AreNotes before old → OnOk result (AreNotes (before ++ more) new)
read_more (Ok u) before more old new adds are = are_more before more old new are adds
read_more (Err e) before more old new adds are = tt

pub returns : goal.returns
returns c = λ before are. read_more c.add_lines.result before _ c.args.self.now c.add_lines.new.self c.add_lines.ensures are
