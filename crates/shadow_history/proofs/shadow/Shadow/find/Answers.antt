use Rattle.std.proofs.Common.{inl, refl, arith}
use Rattle.model_accesses.specs.declared.kind.Kind.TheVariants.{Write, Bump, Read}
use Rattle.shadow_history.proofs.SameKinds.{from-second, from-third, of-memory, free-bumps, free-reads}
use Rattle.shadow_history.proofs.Remembers.{kept-there, begun-there}
use Rattle.shadow_history.proofs.Witnesses.{witness-found, exact-found, exact-none}
use Rattle.shadow_history.proofs.shadow.Shadow.find.Goals as goal

pub find-requires-clause-begun : goal.find-requires-clause-begun
find-requires-clause-begun g c = begun-there _ _ c.self.view_is _ c.requires.in_range _ c.index-cell.ensures _ c.requires.stands Write refl

pub returns-in-Some-clause-witness : goal.returns-in-Some-clause-witness
returns-in-Some-clause-witness g c history accesses follows remembers =
    witness-found history accesses c.args.location c.args.kind c.args.strand Write _ (rw c.in-Write.is refl)
    (λ other. inl (omega arith))
    (c.in-Some.ensures history accesses c.args.location follows remembers.begun (kept-there _ _ c.self.view_is _ c.requires.in_range _ c.index-cell.ensures history accesses remembers Write refl))

pub returns-in-Some-clause-exact : goal.returns-in-Some-clause-exact
returns-in-Some-clause-exact g c history accesses follows remembers =
    exact-found history accesses c.args.location c.args.kind c.args.strand _ (returns-in-Some-clause-witness g c history accesses follows remembers)

pub find-requires-in-Write-clause-begun : goal.find-requires-in-Write-clause-begun
find-requires-in-Write-clause-begun g c = begun-there _ _ c.self.view_is _ c.requires.in_range _ c.index-cell.ensures _ c.requires.stands Bump refl

pub returns-in-Some-find-clause-witness : goal.returns-in-Some-find-clause-witness
returns-in-Some-find-clause-witness g c history accesses follows remembers =
    witness-found history accesses c.args.location c.args.kind c.args.strand Bump _ (rw c.in-Write.is refl)
    (from-second _ (λ e. c.in_default.ensures history accesses c.args.location follows remembers.begun (kept-there _ _ c.self.view_is _ c.requires.in_range _ c.index-cell.ensures history accesses remembers Write refl)))
    (c.in-Some-find.ensures history accesses c.args.location follows remembers.begun (kept-there _ _ c.self.view_is _ c.requires.in_range _ c.index-cell.ensures history accesses remembers Bump refl))

pub returns-in-Some-find-clause-exact : goal.returns-in-Some-find-clause-exact
returns-in-Some-find-clause-exact g c history accesses follows remembers =
    exact-found history accesses c.args.location c.args.kind c.args.strand _ (returns-in-Some-find-clause-witness g c history accesses follows remembers)

pub find-requires-in-Write-2-clause-begun : goal.find-requires-in-Write-2-clause-begun
find-requires-in-Write-2-clause-begun g c = begun-there _ _ c.self.view_is _ c.requires.in_range _ c.index-cell.ensures _ c.requires.stands Read refl

pub returns-in-Some-find-2-clause-witness : goal.returns-in-Some-find-2-clause-witness
returns-in-Some-find-2-clause-witness g c history accesses follows remembers =
    witness-found history accesses c.args.location c.args.kind c.args.strand Read _ (rw c.in-Write.is refl)
    (from-third _ (λ e. c.in_default.ensures history accesses c.args.location follows remembers.begun (kept-there _ _ c.self.view_is _ c.requires.in_range _ c.index-cell.ensures history accesses remembers Write refl))
    (λ e. c.in_default-find.ensures history accesses c.args.location follows remembers.begun (kept-there _ _ c.self.view_is _ c.requires.in_range _ c.index-cell.ensures history accesses remembers Bump refl)))
    (c.in-Some-find-2.ensures history accesses c.args.location follows remembers.begun (kept-there _ _ c.self.view_is _ c.requires.in_range _ c.index-cell.ensures history accesses remembers Read refl))

pub returns-in-Some-find-2-clause-exact : goal.returns-in-Some-find-2-clause-exact
returns-in-Some-find-2-clause-exact g c history accesses follows remembers =
    exact-found history accesses c.args.location c.args.kind c.args.strand _ (returns-in-Some-find-2-clause-witness g c history accesses follows remembers)

pub returns-in_default-find-2-clause-exact : goal.returns-in_default-find-2-clause-exact
returns-in_default-find-2-clause-exact g c history accesses follows remembers =
    exact-none history accesses c.args.location c.args.kind c.args.strand _ refl (of-memory _ c.args.kind
    (λ e. c.in_default.ensures history accesses c.args.location follows remembers.begun (kept-there _ _ c.self.view_is _ c.requires.in_range _ c.index-cell.ensures history accesses remembers Write refl))
    (λ e. c.in_default-find.ensures history accesses c.args.location follows remembers.begun (kept-there _ _ c.self.view_is _ c.requires.in_range _ c.index-cell.ensures history accesses remembers Bump refl))
    (λ e. c.in_default-find-2.ensures history accesses c.args.location follows remembers.begun (kept-there _ _ c.self.view_is _ c.requires.in_range _ c.index-cell.ensures history accesses remembers Read refl)))

pub find-requires-in-Bump-clause-begun : goal.find-requires-in-Bump-clause-begun
find-requires-in-Bump-clause-begun g c = begun-there _ _ c.self.view_is _ c.requires.in_range _ c.index-cell.ensures _ c.requires.stands Write refl

pub returns-in-Some-find-3-clause-witness : goal.returns-in-Some-find-3-clause-witness
returns-in-Some-find-3-clause-witness g c history accesses follows remembers =
    witness-found history accesses c.args.location c.args.kind c.args.strand Write _ (rw c.in-Bump.is refl)
    (λ other. inl (omega arith))
    (c.in-Some-find-3.ensures history accesses c.args.location follows remembers.begun (kept-there _ _ c.self.view_is _ c.requires.in_range _ c.index-cell.ensures history accesses remembers Write refl))

pub returns-in-Some-find-3-clause-exact : goal.returns-in-Some-find-3-clause-exact
returns-in-Some-find-3-clause-exact g c history accesses follows remembers =
    exact-found history accesses c.args.location c.args.kind c.args.strand _ (returns-in-Some-find-3-clause-witness g c history accesses follows remembers)

pub find-requires-in-Bump-2-clause-begun : goal.find-requires-in-Bump-2-clause-begun
find-requires-in-Bump-2-clause-begun g c = begun-there _ _ c.self.view_is _ c.requires.in_range _ c.index-cell.ensures _ c.requires.stands Read refl

pub returns-in-Some-find-4-clause-witness : goal.returns-in-Some-find-4-clause-witness
returns-in-Some-find-4-clause-witness g c history accesses follows remembers =
    witness-found history accesses c.args.location c.args.kind c.args.strand Read _ (rw c.in-Bump.is refl)
    (from-third _ (λ e. c.in_default-find-3.ensures history accesses c.args.location follows remembers.begun (kept-there _ _ c.self.view_is _ c.requires.in_range _ c.index-cell.ensures history accesses remembers Write refl))
    (free-bumps c.in-Bump.is))
    (c.in-Some-find-4.ensures history accesses c.args.location follows remembers.begun (kept-there _ _ c.self.view_is _ c.requires.in_range _ c.index-cell.ensures history accesses remembers Read refl))

pub returns-in-Some-find-4-clause-exact : goal.returns-in-Some-find-4-clause-exact
returns-in-Some-find-4-clause-exact g c history accesses follows remembers =
    exact-found history accesses c.args.location c.args.kind c.args.strand _ (returns-in-Some-find-4-clause-witness g c history accesses follows remembers)

pub returns-in_default-find-4-clause-exact : goal.returns-in_default-find-4-clause-exact
returns-in_default-find-4-clause-exact g c history accesses follows remembers =
    exact-none history accesses c.args.location c.args.kind c.args.strand _ refl (of-memory _ c.args.kind
    (λ e. c.in_default-find-3.ensures history accesses c.args.location follows remembers.begun (kept-there _ _ c.self.view_is _ c.requires.in_range _ c.index-cell.ensures history accesses remembers Write refl))
    (free-bumps c.in-Bump.is)
    (λ e. c.in_default-find-4.ensures history accesses c.args.location follows remembers.begun (kept-there _ _ c.self.view_is _ c.requires.in_range _ c.index-cell.ensures history accesses remembers Read refl)))

pub find-requires-in-Read-clause-begun : goal.find-requires-in-Read-clause-begun
find-requires-in-Read-clause-begun g c = begun-there _ _ c.self.view_is _ c.requires.in_range _ c.index-cell.ensures _ c.requires.stands Write refl

pub returns-in-Some-find-5-clause-witness : goal.returns-in-Some-find-5-clause-witness
returns-in-Some-find-5-clause-witness g c history accesses follows remembers =
    witness-found history accesses c.args.location c.args.kind c.args.strand Write _ (rw c.in-Read.is refl)
    (λ other. inl (omega arith))
    (c.in-Some-find-5.ensures history accesses c.args.location follows remembers.begun (kept-there _ _ c.self.view_is _ c.requires.in_range _ c.index-cell.ensures history accesses remembers Write refl))

pub returns-in-Some-find-5-clause-exact : goal.returns-in-Some-find-5-clause-exact
returns-in-Some-find-5-clause-exact g c history accesses follows remembers =
    exact-found history accesses c.args.location c.args.kind c.args.strand _ (returns-in-Some-find-5-clause-witness g c history accesses follows remembers)

pub find-requires-in-Read-2-clause-begun : goal.find-requires-in-Read-2-clause-begun
find-requires-in-Read-2-clause-begun g c = begun-there _ _ c.self.view_is _ c.requires.in_range _ c.index-cell.ensures _ c.requires.stands Bump refl

pub returns-in-Some-find-6-clause-witness : goal.returns-in-Some-find-6-clause-witness
returns-in-Some-find-6-clause-witness g c history accesses follows remembers =
    witness-found history accesses c.args.location c.args.kind c.args.strand Bump _ (rw c.in-Read.is refl)
    (from-second _ (λ e. c.in_default-find-5.ensures history accesses c.args.location follows remembers.begun (kept-there _ _ c.self.view_is _ c.requires.in_range _ c.index-cell.ensures history accesses remembers Write refl)))
    (c.in-Some-find-6.ensures history accesses c.args.location follows remembers.begun (kept-there _ _ c.self.view_is _ c.requires.in_range _ c.index-cell.ensures history accesses remembers Bump refl))

pub returns-in-Some-find-6-clause-exact : goal.returns-in-Some-find-6-clause-exact
returns-in-Some-find-6-clause-exact g c history accesses follows remembers =
    exact-found history accesses c.args.location c.args.kind c.args.strand _ (returns-in-Some-find-6-clause-witness g c history accesses follows remembers)

pub returns-in_default-find-6-clause-exact : goal.returns-in_default-find-6-clause-exact
returns-in_default-find-6-clause-exact g c history accesses follows remembers =
    exact-none history accesses c.args.location c.args.kind c.args.strand _ refl (of-memory _ c.args.kind
    (λ e. c.in_default-find-5.ensures history accesses c.args.location follows remembers.begun (kept-there _ _ c.self.view_is _ c.requires.in_range _ c.index-cell.ensures history accesses remembers Write refl))
    (λ e. c.in_default-find-6.ensures history accesses c.args.location follows remembers.begun (kept-there _ _ c.self.view_is _ c.requires.in_range _ c.index-cell.ensures history accesses remembers Bump refl))
    (free-reads c.in-Read.is))
