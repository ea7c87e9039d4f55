use Rattle.std.proofs.Common.{◌≡◌, ◌∙◌, false, true, refl, sym}
use Rattle.std.specs.Prelude.{Some, None}
use Rattle.std.specs.Str.{bytes_eq}
use Rattle.program_lines.specs.Scopes.{ok_word}
use Rattle.program_lines.proofs.NameLists.{register_found}
use Rattle.program_lines.proofs.scope.NameScope.register.Goals as goal

pub returns-then-eq : goal.returns-then-eq
returns-then-eq g c =
    let is_ok : bytes_eq c.args.name.now ok_word ≡ true = sym c.eq.ensures ∙ c.if-eq.true in
    rw is_ok refl

pub returns-in-Some : goal.returns-in-Some
returns-in-Some g c =
    let other : bytes_eq c.args.name.now ok_word ≡ false = sym c.eq.ensures ∙ c.if-eq.false in
    rw (← c.self.view_is) (register_found c.self.inside.registers.now c.args.name.now (Some c.in-Some.place) other c.in-Some.ensures)

pub returns-in-None : goal.returns-in-None
returns-in-None g c =
    let other : bytes_eq c.args.name.now ok_word ≡ false = sym c.eq.ensures ∙ c.if-eq.false in
    rw (← c.self.view_is) (register_found c.self.inside.registers.now c.args.name.now None other c.in-None.ensures)
