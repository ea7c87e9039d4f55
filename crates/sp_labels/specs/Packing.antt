-- What the packed records stand for.
use Rattle.std.specs.Prelude.{ℕ, List, map}
use Rattle.sp_labels.specs.declared.record.Scope.{Scope}
use Rattle.sp_labels.specs.declared.record.Scope.TheVariants.{Root, Child, Call, Block}
use Rattle.sp_labels.specs.declared.record.ScopeKind.{ScopeKind}
use Rattle.sp_labels.specs.declared.record.ScopeKind.TheVariants.{Root as RootKind, Child as ChildKind, Call as CallKind, Block as BlockKind}
use Rattle.sp_labels.specs.declared.record.Record.{Record}
use Rattle.sp_labels.specs.declared.record.PackedRecord.{PackedRecord}

-- the number of the root function's scope tells nothing
abbrev pub scope_of : ScopeKind → ℕ → Scope
scope_of RootKind number = Root
scope_of ChildKind number = Child number
scope_of CallKind number = Call number
scope_of BlockKind number = Block number

abbrev pub unpacked : PackedRecord → Record
unpacked kept = record { scope = scope_of kept.kind kept.number; children_left = kept.children_left; standing = kept.standing }

abbrev pub all_unpacked : List PackedRecord → List Record
all_unpacked items = map unpacked items
