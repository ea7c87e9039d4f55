use Rattle.std.proofs.Common.{inl, refl}
use Rattle.model_accesses.specs.declared.kind.Kind.TheVariants.{Write, Bump, Read, Update, Put, Get}
use Rattle.shadow_history.proofs.SameKinds.{no-memory}
use Rattle.shadow_history.proofs.Remembers.{begun-there, kept-there, remembers-added}
use Rattle.shadow_history.proofs.shadow.Shadow.add.Goals.{in-Write, in-Bump, in-Read, in-Update, in-Put, in-Get}
use Rattle.shadow_history.proofs.shadow.Shadow.add.Goals as goal

pub add-requires-clause-begun : goal.add-requires-clause-begun
add-requires-clause-begun g c = begun-there _ _ c.self.view_is _ c.requires.in_range _ c.index_mut-cell.ensures.value _ c.requires.stands Write refl

pub add-requires-in-Bump-clause-begun : goal.add-requires-in-Bump-clause-begun
add-requires-in-Bump-clause-begun g c = begun-there _ _ c.self.view_is _ c.requires.in_range _ c.index_mut-cell.ensures.value _ c.requires.stands Bump refl

pub add-requires-in-Read-clause-begun : goal.add-requires-in-Read-clause-begun
add-requires-in-Read-clause-begun g c = begun-there _ _ c.self.view_is _ c.requires.in_range _ c.index_mut-cell.ensures.value _ c.requires.stands Read refl

pub returns-clause-added : goal.returns-clause-added
returns-clause-added g c history accesses follows remembers = elim c.match-kind.branch [
  | in-Write w ↦ rw (w.self-inside-is, w.in-Write.is) (remembers-added _ _ c.self.view_is _ c.requires.in_range _ c.index_mut-cell.ensures.value history accesses
      w.add.new.self _ refl (inl (c.requires.runs history follows))
      (w.add.ensures.added history accesses c.args.location follows
      (kept-there _ _ c.self.view_is _ c.requires.in_range _ c.index_mut-cell.ensures.value history accesses remembers Write refl))
      w.add.ensures.others remembers)
  | in-Bump w ↦ rw (w.self-inside-is, w.in-Bump.is) (remembers-added _ _ c.self.view_is _ c.requires.in_range _ c.index_mut-cell.ensures.value history accesses
      w.add-in-Bump.new.self _ refl (inl (c.requires.runs history follows))
      (w.add-in-Bump.ensures.added history accesses c.args.location follows
      (kept-there _ _ c.self.view_is _ c.requires.in_range _ c.index_mut-cell.ensures.value history accesses remembers Bump refl))
      w.add-in-Bump.ensures.others remembers)
  | in-Read w ↦ rw (w.self-inside-is, w.in-Read.is) (remembers-added _ _ c.self.view_is _ c.requires.in_range _ c.index_mut-cell.ensures.value history accesses
      w.add-in-Read.new.self _ refl (inl (c.requires.runs history follows))
      (w.add-in-Read.ensures.added history accesses c.args.location follows
      (kept-there _ _ c.self.view_is _ c.requires.in_range _ c.index_mut-cell.ensures.value history accesses remembers Read refl))
      w.add-in-Read.ensures.others remembers)
  | in-Update w ↦ no-memory Update refl w.in-Update.is c.requires.memory
  | in-Put w ↦ no-memory Put refl w.in-Put.is c.requires.memory
  | in-Get w ↦ no-memory Get refl w.in-Get.is c.requires.memory
]
