-- What a history asks of one location, whether it was granted or not, and when the location has a race.
use Rattle.std.specs.Prelude.{◌≡◌, ◌≢◌, ◌⊎◌, ℕ, Some, Contains}
use Rattle.model_accesses.specs.declared.kind.Kind.{Kind}
use Rattle.model_accesses.specs.declared.kind.Rule.TheVariants.{Race}
use Rattle.model_accesses.specs.Table.{rule_between}
use Rattle.model_accesses.specs.declared.request.Act.{Act}
use Rattle.model_accesses.specs.declared.request.Act.TheVariants.{Put, Get}
use Rattle.model_strands.specs.History.{History}
use Rattle.model_strands.specs.Dag.{IsParallel}
use Rattle.model_strands.specs.Peers.{HaveSamePeers}
use Rattle.model_histories.specs.declared.answer.Answer.TheVariants.{Unset}
use Rattle.model_histories.specs.declared.answer.Entry.{Entry}
use Rattle.model_histories.specs.Entries.{Entries}
use Rattle.model_races.specs.declared.access.CellAccess.{CellAccess}
use Rattle.model_races.specs.Accesses.{cell_access}
use Rattle.model_races.specs.Verdicts.{IsRefused}

-- the access of this kind of this cell
abbrev pub access_of : Kind → ℕ → CellAccess
access_of kind cell = record { kind = kind; location = cell }

-- the strand asks for an access of this kind of the cell
abbrev pub Accesses : Entries → ℕ → Kind → ℕ → Type 0
Accesses entries strand kind cell =
    (entry : Entry) × Contains entries entry × (entry.request.strand ≡ strand) × (cell_access entry.request.act ≡ Some (access_of kind cell))

-- some access of the cell is refused
abbrev pub HasRefusal : Entries → ℕ → Type 0
HasRefusal entries cell =
    (entry : Entry) × (kind : Kind) × Contains entries entry × (cell_access entry.request.act ≡ Some (access_of kind cell)) ×
    IsRefused entry.answer

-- in this dag two accesses of the cell conflict and are of parallel strands
abbrev pub HasRaceAt : History → Entries → ℕ → Type 0
HasRaceAt dag entries cell =
    (strand other : ℕ) × (kind other_kind : Kind) × Accesses entries strand kind cell × Accesses entries other other_kind cell ×
    (rule_between kind other_kind ≡ Race) × IsParallel dag strand other

-- the act is a put or a get of the reducer
abbrev pub IsReadOf : Act → ℕ → Type 0
IsReadOf act reducer = ((value : ℕ) × (act ≡ Put reducer value)) ⊎ (act ≡ Get reducer)

-- the strand asks for a put or a get of the reducer, and it is not unset
abbrev pub Reads : Entries → ℕ → ℕ → Type 0
Reads entries strand reducer =
    (entry : Entry) × Contains entries entry × (entry.request.strand ≡ strand) × IsReadOf entry.request.act reducer × (entry.answer ≢ Unset)

-- some put or get of the reducer is refused
abbrev pub HasReadRefusal : Entries → ℕ → Type 0
HasReadRefusal entries reducer =
    (entry : Entry) × Contains entries entry × IsReadOf entry.request.act reducer × IsRefused entry.answer

-- in this dag two puts or gets of the reducer are of strands with other peers
abbrev pub HasViewRaceAt : History → Entries → ℕ → Type 0
HasViewRaceAt dag entries reducer =
    (strand other : ℕ) × Reads entries strand reducer × Reads entries other reducer × (HaveSamePeers dag strand other → ⊥)
