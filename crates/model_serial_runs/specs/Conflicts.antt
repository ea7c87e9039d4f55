-- Which kinds of access conflict.
use Rattle.std.specs.Prelude.{Bool, true, false, List, [], ◌∷◌}
use Rattle.model_serial_runs.specs.declared.access_kind.AccessKind.{AccessKind}
use Rattle.model_serial_runs.specs.declared.access_kind.AccessKind.TheVariants.{Read, Load, Update, Write}

-- The conflicts as a set: an earlier kind and a new kind. A write conflicts with each kind, and an update with a read.
abbrev pub conflicts : List (AccessKind × AccessKind)
conflicts =
    (Read, Update) ∷ (Read, Write) ∷ (Load, Write) ∷ (Update, Read) ∷ (Update, Write) ∷
    (Write, Read) ∷ (Write, Load) ∷ (Write, Update) ∷ (Write, Write) ∷ []

-- The same by cases, so that it computes.
abbrev pub conflict : AccessKind → AccessKind → Bool
conflict Read Update = true
conflict Read Write = true
conflict Load Write = true
conflict Update Read = true
conflict Update Write = true
conflict Write new = true
conflict old new = false
