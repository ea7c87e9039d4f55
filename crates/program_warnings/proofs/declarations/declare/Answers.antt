use Rattle.std.proofs.Common.{◌≡◌, sym, ◌∙◌, ap, Some, true, false}
use Rattle.std.specs.Prelude.{is_some}
use Rattle.std.proofs.lemmas.Map.Text.{btree_map_updates_str}
use Rattle.program_warnings.specs.Declarations.{stored_at}
use Rattle.program_warnings.proofs.Declaring.{declared_before, declared_first}
use Rattle.program_warnings.proofs.declarations.declare.Goals as goal

pub returns-then-is_some : goal.returns-then-is_some
returns-then-is_some c = λ other.
    let some : is_some (stored_at c.args.names.now c.args.name.now) ≡ true = ap is_some (sym c.declared_at.ensures) ∙ sym c.is_some.ensures ∙ c.if-is_some.true in
    declared_before (stored_at c.args.names.now) c.args.name.now other c.args.declared some

pub returns : goal.returns
returns c = λ other.
    let none : is_some (stored_at c.args.names.now c.args.name.now) ≡ false = ap is_some (sym c.declared_at.ensures) ∙ sym c.is_some.ensures ∙ c.if-is_some.false in
    declared_first (stored_at c.args.names.now) c.args.name.now other c.args.declared (stored_at c.insert.new.self other) none
    (btree_map_updates_str c.args.name.now c.args.names.now c.insert.new.self (Some c.args.declared) c.in_ok-insert.ensures.updates other)
