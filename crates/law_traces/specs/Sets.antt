-- What is asked of a cell as a set of pairs: at which address an access was asked for, and of which kind.
use Rattle.std.specs.Prelude.{◌≡◌, ◌↔◌, ℕ, IsTrue}
use Rattle.model_accesses.specs.declared.kind.Kind.{Kind}
use Rattle.model_accesses.specs.declared.kind.Rule.TheVariants.{Race}
use Rattle.model_accesses.specs.Table.{rule_between}
use Rattle.model_strands.specs.Address.{Address}
use Rattle.model_strands.specs.Addresses.{address}
use Rattle.law_addresses.specs.Address.{parallel}
use Rattle.model_histories.specs.Entries.{Entries, control_part}
use Rattle.law_traces.specs.Locations.{Accesses}

-- a strand at the address asks for an access of this kind of the cell
abbrev pub AccessesAt : Entries → Address → Kind → ℕ → Type 0
AccessesAt entries at kind cell = (strand : ℕ) × (address (control_part entries) strand ≡ at) × Accesses entries strand kind cell

-- two accesses of the cell conflict, and their addresses are parallel
abbrev pub HasRaceBetween : Entries → ℕ → Type 0
HasRaceBetween entries cell =
    (at other : Address) × (kind other_kind : Kind) × AccessesAt entries at kind cell × AccessesAt entries other other_kind cell ×
    (rule_between kind other_kind ≡ Race) × IsTrue (parallel at other)

-- whatever races with the other kind races with this one
abbrev pub Covers : Kind → Kind → Type 0
Covers kind other = (third : Kind) → rule_between other third ≡ Race → rule_between kind third ≡ Race

-- for each access of the one history's cell the other has one of its cell, at the same address, which covers it
abbrev pub AreCovered : Entries → ℕ → Entries → ℕ → Type 0
AreCovered entries cell others other_cell =
    (at : Address) (kind : Kind) → AccessesAt entries at kind cell → (covering : Kind) × Covers covering kind × AccessesAt others at covering other_cell

-- the same strands do the same to both cells
abbrev pub HaveSameAccesses : Entries → ℕ → ℕ → Type 0
HaveSameAccesses entries cell other = (strand : ℕ) (kind : Kind) → Accesses entries strand kind cell ↔ Accesses entries strand kind other
