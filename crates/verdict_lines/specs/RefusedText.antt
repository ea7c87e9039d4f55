-- What a verdict line tells of a refusal before its witness, in two parts, one for each of the two kinds.
use Rattle.std.specs.Prelude.{ℕ, List, ◌++◌, codes, if◌then◌else◌}
use Rattle.model_accesses.specs.declared.kind.Kind.{Kind}
use Rattle.model_accesses.specs.Table.{spelling, is_memory_kind}

-- of the earlier access: its kind where it is one of a memory cell, and else that a view was read
abbrev pub earlier_told : Kind → List ℕ
earlier_told earlier = codes " refused " ++ (if is_memory_kind earlier then spelling earlier else codes "view") ++ codes "-"

-- of the new one
abbrev pub new_told : Kind → List ℕ
new_told new = (if is_memory_kind new then spelling new else codes "read") ++ codes " "
