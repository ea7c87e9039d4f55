use Rattle.std.proofs.Common.{◌≡◌, [], ◌∷◌, List, true, nat_eq, length, refl, sym, ◌∙◌, arith}
use Rattle.model_reducers.specs.declared.monoid.Monoid.{Monoid}
use Rattle.race_gate.proofs.reducers.opening_reducers.Goals as goal

none-counted : (monoids : List Monoid) → nat_eq (length monoids) 0 ≡ true → monoids ≡ []
none-counted [] is = refl
none-counted (monoid ∷ monoids) is = grind (arith, is)

pub returns-then-is_empty : goal.returns-then-is_empty
returns-then-is_empty g c = none-counted c.args.monoids.now (sym c.is_empty.ensures ∙ c.if-is_empty.true)
