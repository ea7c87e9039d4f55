-- The judge of a serial run as a value.
use Rattle.std.specs.Prelude.{ℕ, List}
use Rattle.serial_judge.specs.declared.scope.Scope.{Scope}
use Rattle.serial_judge.specs.declared.spans.Span.{Span}
use Rattle.serial_judge.specs.declared.records.Record.{Record}
use Rattle.serial_judge.specs.declared.reads.Reads.{Reads}

pub record Judge : Type 0 where
  -- the functions that the run is in, the innermost first
  pub scopes : List Scope
  -- the children that have returned and that no sync has followed
  pub spans : List Span
  pub records : List Record
  -- the number of the running strand's first record
  pub first : ℕ
  -- how many events there were
  pub events : ℕ
  -- what is kept of the reads of each reducer
  pub reads : List Reads
