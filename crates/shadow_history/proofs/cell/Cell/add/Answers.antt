use Rattle.std.proofs.Common.{sym, ◌∙◌, subst}
use Rattle.law_addresses.specs.Address.{english, hebrew}
use Rattle.shadow_history.specs.Shadow.{AreKept}
use Rattle.shadow_history.proofs.Added.{extreme-first}
use Rattle.shadow_history.proofs.cell.Cell.add.Goals.{in-Some, in-None}
use Rattle.shadow_history.proofs.cell.Cell.add.Goals as goal

pub returns-clause-added : goal.returns-clause-added
returns-clause-added g c history accesses location follows kept = rw c.keep.ensures.kept (elim c.match-extremes.branch [
  | in-Some w ↦ (
      let are = subst (AreKept history accesses location c.args.kind) (sym c.extremes.ensures ∙ w.in-Some.is) kept in
      rw w.extremes-is (w.with-extremes.ensures history accesses location c.args.kind follows are)
      )
  | in-None w ↦ (
      let none = subst (AreKept history accesses location c.args.kind) (sym c.extremes.ensures ∙ w.in-None.is) kept in
      rw w.extremes-is (record { english = extreme-first english history accesses _ none; hebrew = extreme-first hebrew history accesses _ none })
      )
])
