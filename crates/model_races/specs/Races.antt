-- When an access of memory races with an earlier one (Feng and Leiserson 1997).
use Rattle.std.specs.Prelude.{◌≡◌, ℕ, List}
use Rattle.model_accesses.specs.declared.kind.Rule.{Rule}
use Rattle.model_accesses.specs.Table.{rule_between}
use Rattle.model_strands.specs.History.{History}
use Rattle.model_accesses.specs.declared.witness.Witness.{Witness}
use Rattle.model_accesses.specs.Accesses.{Access, Races, access_of_witness}
use Rattle.model_races.specs.declared.access.CellAccess.{CellAccess}

-- In this dag, one of the earlier granted accesses of the same cell, which conflicts with the strand's new one under the rule of races, is
-- of a strand that is parallel to it.
abbrev pub HasRace : History → List Access → ℕ → CellAccess → Type 0
HasRace dag earlier strand new = (access : Access) × Races dag earlier new.location new.kind strand access

-- The witness is such an access, by its entry, its strand and its kind, and the rule is that of the two kinds.
abbrev pub IsTrueWitness : History → List Access → ℕ → CellAccess → Rule → Witness → Type 0
IsTrueWitness dag earlier strand new rule witness =
    Races dag earlier new.location new.kind strand (access_of_witness new.location witness) × (rule ≡ rule_between witness.kind new.kind)
