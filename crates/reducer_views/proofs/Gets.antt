-- The value of a granted get is the strand's view.
use Rattle.std.proofs.Common.{ℕ, ◌<◌, ◌^◌, [], ◌∷◌, inl, inr, sym, subst}
use Rattle.model_reducers.specs.declared.monoid.Monoid.{Monoid}
use Rattle.model_reducers.specs.Items as one
use Rattle.model_reducers.specs.Steps.{Steps, control, update, put, other, items_of}
use Rattle.model_reducers.specs.Entries.{Entry, entry_value, HasUpdate, HasPut}
use Rattle.law_values.specs.Views.{EntriesFit}
use Rattle.law_values.proofs.Accesses.{item_cases}
use Rattle.law_values.proofs.Values.{value_law}
use Rattle.reducer_views.specs.Products.{FitsMonoid}
use Rattle.model_reducers.specs.Products.{reducer_of, monoid_of}
use Rattle.reducer_views.specs.Held.{AreNumbers, GetLaw}
use Rattle.reducer_views.proofs.Associative.{monoid_law}

small_update : (reducer : ℕ) (steps : Steps) → AreNumbers steps → (u : Entry) → HasUpdate (items_of reducer steps) u → entry_value u < 2 ^ 64
small_update reducer [] k u t = absurd t
small_update reducer (control e ∷ steps) k u t = small_update reducer steps k u t
small_update reducer (update s q v ∷ steps) k u t =
    item_cases (λ i. HasUpdate (i ∷ items_of reducer steps) u → entry_value u < 2 ^ 64) q reducer (one.update s v) (one.other s)
    (λ e i. elim i [ inl g ↦ subst (λ w. entry_value w < 2 ^ 64) (sym g) k.0 | inr r ↦ small_update reducer steps k.1 u r ])
    (λ ne i. small_update reducer steps k.1 u i) t
small_update reducer (put s q v ∷ steps) k u t =
    item_cases (λ i. HasUpdate (i ∷ items_of reducer steps) u → entry_value u < 2 ^ 64) q reducer (one.put s v) (one.other s)
    (λ e i. small_update reducer steps k.1 u i) (λ ne i. small_update reducer steps k.1 u i) t
small_update reducer (other s ∷ steps) k u t = small_update reducer steps k u t

small_put : (reducer : ℕ) (steps : Steps) → AreNumbers steps → (u : Entry) → HasPut (items_of reducer steps) u → entry_value u < 2 ^ 64
small_put reducer [] k u t = absurd t
small_put reducer (control e ∷ steps) k u t = small_put reducer steps k u t
small_put reducer (update s q v ∷ steps) k u t =
    item_cases (λ i. HasPut (i ∷ items_of reducer steps) u → entry_value u < 2 ^ 64) q reducer (one.update s v) (one.other s)
    (λ e i. small_put reducer steps k.1 u i) (λ ne i. small_put reducer steps k.1 u i) t
small_put reducer (put s q v ∷ steps) k u t =
    item_cases (λ i. HasPut (i ∷ items_of reducer steps) u → entry_value u < 2 ^ 64) q reducer (one.put s v) (one.other s)
    (λ e i. elim i [ inl g ↦ subst (λ w. entry_value w < 2 ^ 64) (sym g) k.0 | inr r ↦ small_put reducer steps k.1 u r ])
    (λ ne i. small_put reducer steps k.1 u i) t
small_put reducer (other s ∷ steps) k u t = small_put reducer steps k u t

entries_fit : (monoid : Monoid) (reducer : ℕ) (steps : Steps) → AreNumbers steps → EntriesFit (FitsMonoid monoid) (reducer_of monoid) (items_of reducer steps)
entries_fit monoid reducer steps k = record {
  updates = λ u t. ((monoid_law monoid).1 (entry_value u) (small_update reducer steps k u t)).0;
  puts = λ u t. ((monoid_law monoid).1 (entry_value u) (small_put reducer steps k u t)).1;
}

pub get_law : GetLaw
get_law monoids reducer steps k strand last granted =
    value_law (FitsMonoid (monoid_of monoids reducer)) (reducer_of (monoid_of monoids reducer)) (monoid_law (monoid_of monoids reducer)).0 (items_of reducer steps)
    (entries_fit (monoid_of monoids reducer) reducer steps k) strand last granted
