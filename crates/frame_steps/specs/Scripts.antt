-- Statements that ask nothing, one after another.
use Rattle.model_programs.specs.Scripts.{Passes}
use Rattle.model_bodies.specs.Trees.{Tree}
use Rattle.model_programs.specs.Values.{Registers}

-- Any number of them.
pub data PassesAll : Tree → Registers → Tree → Registers → Type 0 where
  none_passed : {rest : Tree} {registers : Registers} → PassesAll rest registers rest registers
  one_more : {first second third : Tree} {before between after : Registers} →
      PassesAll first before second between → Passes second between third after → PassesAll first before third after
