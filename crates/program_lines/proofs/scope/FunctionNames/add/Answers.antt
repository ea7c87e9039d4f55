use Rattle.std.proofs.Common.{◌≡◌, ◌∷◌, ◌++◌, [], List, ℕ, None, sym, ap, ◌∙◌}
use Rattle.program_lines.specs.Scopes.{function_named, with_name}
use Rattle.program_lines.proofs.NameLists.{name_there, name_new, on_ok}
use Rattle.program_lines.proofs.scope.FunctionNames.add.Goals as goal

pub returns-in-Some-clause-ok : goal.returns-in-Some-clause-ok
returns-in-Some-clause-ok g c =
    let names = c.self.inside.names in
    rw (← c.self.view_is) (name_there names c.args.name.now c.in-Some.field-0 (ap (function_named names) (sym c.as_bytes.ensures.value) ∙ sym c.in-Some.ensures))

pub returns-in-None-clause-ok : goal.returns-in-None-clause-ok
returns-in-None-clause-ok g c =
    let names = c.self.inside.names in
    let fresh : function_named names c.args.name.now ≡ None = ap (function_named names) (sym c.as_bytes.ensures.value) ∙ sym c.in-None.ensures in
    let added : c.add.new.self ≡ names ++ c.as_bytes-in-None.result.now ∷ [] → c.add.new.self ≡ with_name names c.args.name.now =
    λ grown. grown ∙ (ap (λ (name : List ℕ). names ++ name ∷ []) c.as_bytes-in-None.ensures.value ∙ name_new names c.args.name.now fresh) in
    rw (← c.self.view_is) (on_ok c.add.result (c.add.new.self ≡ names ++ c.as_bytes-in-None.result.now ∷ []) (c.add.new.self ≡ with_name names c.args.name.now) added c.add.ensures.ok)
