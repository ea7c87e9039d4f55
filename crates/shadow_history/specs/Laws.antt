-- What holds of all shadow histories.
use Rattle.std.specs.Prelude.{◌≡◌, List, slice_index_or}
use Rattle.model_accesses.specs.declared.kind.Kind.{Kind}
use Rattle.model_accesses.specs.declared.kind.Kind.TheVariants.{Write}
use Rattle.model_accesses.specs.Table.{kinds}
use Rattle.model_strands.specs.History.{History}
use Rattle.model_strands.specs.Legal.{Legal}
use Rattle.model_strands.specs.Extensions.{Extends}
use Rattle.shadow_history.specs.declared.cell.Cell.{Cell}
use Rattle.model_accesses.specs.Accesses.{Access}
use Rattle.shadow_history.specs.Witnesses.{place}
use Rattle.shadow_history.specs.Shadow.{Remembers}

-- legal events that follow change nothing of what is remembered
abbrev pub LaterLaw : Type 0
LaterLaw =
    (cells : List Cell) (accesses : List Access) (history longer : History) → Extends longer history → Legal longer →
    Remembers cells history accesses → Remembers cells longer accesses

-- the place of a kind is where it stands in the access table
abbrev pub PlaceLaw : Type 0
PlaceLaw = (kind : Kind) → slice_index_or kinds (place kind) Write ≡ kind
