-- A store cell by cell and reducer by reducer.
use Rattle.std.proofs.Common.{◌≡◌, inl, inr, ℕ, ◌+◌, ◌%◌, ◌^◌, ◌<◌, Option, Some, List, [], ◌∷◌, length, refl, sym, ap, ◌∙◌, subst, arith}
use Rattle.std.specs.Prelude.{◌==◌, if◌then◌else◌, unwrap_or, slice_index, slice_index_or, slice_set}
use Rattle.std.proofs.lemmas.List.{get_or-set_same, get_or-set_other, length-set}
use Rattle.model_accesses.specs.declared.request.Act.{Act}
use Rattle.model_reducers.specs.declared.monoid.Monoid.{Monoid}
use Rattle.law_strands.proofs.Updates.{same_or_not}
use Rattle.model_histories.specs.Shapes.{Shape, IsInRange}
use Rattle.model_reducers.specs.declared.view.View.{View}
use Rattle.model_reducers.specs.declared.view.View.TheVariants.{Nothing}
use Rattle.model_reducers.specs.Products.{update_view, put_view, product_of, view_number, monoid_of}
use Rattle.model_programs.specs.Evaluation.{Effect, Store, view_at}
use Rattle.law_elision.specs.Expansions.{after_act, after_all, IsRightAt, AreRight}
use Rattle.law_elision.proofs.Cells.{cell_after, held_after, IsReadRight, AreReadsRight, this_cell, other_cell}

-- what an act makes of the elision's view of one reducer
abbrev pub view_after : Monoid → Act → ℕ → View → View
view_after monoid (Act.Update updated value) reducer view = if updated == reducer then product_of monoid view (update_view monoid value) else view
view_after monoid (Act.Put put value) reducer view = if put == reducer then put_view monoid value else view
view_after monoid act reducer view = view

abbrev pub view_after_all : Monoid → List Effect → ℕ → View → View
view_after_all monoid [] reducer view = view
view_after_all monoid (one ∷ effects) reducer view = view_after_all monoid effects reducer (view_after monoid one.act reducer view)

-- a get of the reducer is given the number of its view
abbrev pub IsGetRight : ℕ → View → Act → Option ℕ → Type 0
IsGetRight reducer view (Act.Get asked) value = asked ≡ reducer → value ≡ Some (unwrap_or (view_number view) 0)
IsGetRight reducer view act value = Unit {0}

abbrev pub AreGetsRight : Monoid → ℕ → View → List Effect → Type 0
AreGetsRight monoid reducer view [] = Unit {0}
AreGetsRight monoid reducer view (one ∷ effects) =
    IsGetRight reducer view one.act one.value × AreGetsRight monoid reducer (view_after monoid one.act reducer view) effects

-- the acts name cells and reducers that are there
abbrev pub AreInRange : Shape → List Effect → Type 0
AreInRange shape [] = Unit {0}
AreInRange shape (one ∷ effects) = IsInRange shape one.act × AreInRange shape effects

pub record IsSized (shape : Shape) (store : Store) : Type 0 where
  pub cells : length store.memory ≡ shape.cells
  pub reducers : length store.views ≡ length shape.monoids

sized_after : (shape : Shape) (act : Act) (store : Store) → IsSized shape store → IsSized shape (after_act shape.monoids act store)
sized_after shape (Act.Write location value) store s = record { cells = length-set store.memory location value ∙ s.cells; reducers = s.reducers }
sized_after shape (Act.Bump location value) store s =
    record { cells = length-set store.memory location ((slice_index store.memory location + value) % 2 ^ 64) ∙ s.cells; reducers = s.reducers }
sized_after shape (Act.Update reducer value) store s =
    record { cells = s.cells; reducers = length-set store.views reducer (product_of (monoid_of shape.monoids reducer) (view_at store reducer) (update_view (monoid_of shape.monoids reducer) value)) ∙ s.reducers }
sized_after shape (Act.Put reducer value) store s =
    record { cells = s.cells; reducers = length-set store.views reducer (put_view (monoid_of shape.monoids reducer) value) ∙ s.reducers }
sized_after shape (Act.Read location) store s = s
sized_after shape (Act.Get reducer) store s = s
sized_after shape Act.Spawn store s = s
sized_after shape Act.Sync store s = s
sized_after shape Act.Call store s = s
sized_after shape Act.Return store s = s

-- one cell, and one reducer, after an act

set_cell : (memory : List ℕ) (location cell value : ℕ) → location < length memory →
    slice_index (slice_set memory location value) cell ≡ (if location == cell then value else slice_index memory cell)
set_cell memory location cell value lt =
    elim (same_or_not location cell) [
      | inl e ↦ subst (λ c. slice_index (slice_set memory location value) c ≡ (if location == c then value else slice_index memory c)) e
          (get_or-set_same memory location value 0 lt ∙ sym (this_cell location location value (slice_index memory location) refl))
      | inr ne ↦ get_or-set_other memory location cell value 0 (λ e. ne (sym e)) ∙ sym (other_cell location cell value (slice_index memory cell) ne)
    ]

set_view : (views : List View) (asked reducer : ℕ) (view : View) → asked < length views →
    slice_index_or (slice_set views asked view) reducer Nothing ≡ (if asked == reducer then view else slice_index_or views reducer Nothing)
set_view views asked reducer view lt =
    elim (same_or_not asked reducer) [
      | inl e ↦ subst (λ c. slice_index_or (slice_set views asked view) c Nothing ≡ (if asked == c then view else slice_index_or views c Nothing)) e
          (get_or-set_same views asked view Nothing lt ∙ sym (this_cell asked asked view (slice_index_or views asked Nothing) refl))
      | inr ne ↦ get_or-set_other views asked reducer view Nothing (λ e. ne (sym e)) ∙ sym (other_cell asked reducer view (slice_index_or views reducer Nothing) ne)
    ]

at_same : {A : Type 0} (f : ℕ → A) (asked reducer : ℕ) (there : A) → (if asked == reducer then f asked else there) ≡ (if asked == reducer then f reducer else there)
at_same f asked reducer there =
    elim (same_or_not asked reducer) [
      | inl e ↦ ap (λ n. if asked == reducer then f n else there) e
      | inr ne ↦ other_cell asked reducer (f asked) there ne ∙ sym (other_cell asked reducer (f reducer) there ne)
    ]

pub cell_is : (shape : Shape) (act : Act) (store : Store) (cell : ℕ) → IsSized shape store → IsInRange shape act →
    slice_index (after_act shape.monoids act store).memory cell ≡ cell_after act cell (slice_index store.memory cell)
cell_is shape (Act.Write location value) store cell s k = let e = s.cells in set_cell store.memory location cell value (omega (arith, k, e))
cell_is shape (Act.Bump location value) store cell s k =
    let e = s.cells in
    set_cell store.memory location cell ((slice_index store.memory location + value) % 2 ^ 64) (omega (arith, k, e)) ∙
    at_same (λ n. (slice_index store.memory n + value) % 2 ^ 64) location cell (slice_index store.memory cell)
cell_is shape (Act.Read location) store cell s k = refl
cell_is shape (Act.Update reducer value) store cell s k = refl
cell_is shape (Act.Put reducer value) store cell s k = refl
cell_is shape (Act.Get reducer) store cell s k = refl
cell_is shape Act.Spawn store cell s k = refl
cell_is shape Act.Sync store cell s k = refl
cell_is shape Act.Call store cell s k = refl
cell_is shape Act.Return store cell s k = refl

pub view_is : (shape : Shape) (act : Act) (store : Store) (reducer : ℕ) → IsSized shape store → IsInRange shape act →
    view_at (after_act shape.monoids act store) reducer ≡ view_after (monoid_of shape.monoids reducer) act reducer (view_at store reducer)
view_is shape (Act.Update asked value) store reducer s k =
    let e = s.reducers in
    set_view store.views asked reducer (product_of (monoid_of shape.monoids asked) (view_at store asked) (update_view (monoid_of shape.monoids asked) value)) (omega (arith, k, e)) ∙
    at_same (λ n. product_of (monoid_of shape.monoids n) (view_at store n) (update_view (monoid_of shape.monoids n) value)) asked reducer (view_at store reducer)
view_is shape (Act.Put asked value) store reducer s k =
    let e = s.reducers in
    set_view store.views asked reducer (put_view (monoid_of shape.monoids asked) value) (omega (arith, k, e)) ∙
    at_same (λ n. put_view (monoid_of shape.monoids n) value) asked reducer (view_at store reducer)
view_is shape (Act.Write location value) store reducer s k = refl
view_is shape (Act.Bump location value) store reducer s k = refl
view_is shape (Act.Read location) store reducer s k = refl
view_is shape (Act.Get asked) store reducer s k = refl
view_is shape Act.Spawn store reducer s k = refl
view_is shape Act.Sync store reducer s k = refl
view_is shape Act.Call store reducer s k = refl
view_is shape Act.Return store reducer s k = refl

-- the whole store

pub sized_all : (shape : Shape) (effects : List Effect) (store : Store) → IsSized shape store → IsSized shape (after_all shape.monoids effects store)
sized_all shape [] store s = s
sized_all shape (one ∷ effects) store s = sized_all shape effects (after_act shape.monoids one.act store) (sized_after shape one.act store s)

pub cell_is_all : (shape : Shape) (effects : List Effect) (store : Store) (cell : ℕ) → IsSized shape store → AreInRange shape effects →
    slice_index (after_all shape.monoids effects store).memory cell ≡ held_after effects cell (slice_index store.memory cell)
cell_is_all shape [] store cell s k = refl
cell_is_all shape (one ∷ effects) store cell s k =
    cell_is_all shape effects (after_act shape.monoids one.act store) cell (sized_after shape one.act store s) k.1 ∙
    ap (held_after effects cell) (cell_is shape one.act store cell s k.0)

right_here : (shape : Shape) (act : Act) (value : Option ℕ) (store : Store) → IsInRange shape act →
    ((cell : ℕ) → cell < shape.cells → IsReadRight cell (slice_index store.memory cell) act value) →
    ((reducer : ℕ) → reducer < length shape.monoids → IsGetRight reducer (view_at store reducer) act value) → IsRightAt store act value
right_here shape (Act.Read location) value store k f g = f location k refl
right_here shape (Act.Get reducer) value store k f g = g reducer k refl
right_here shape (Act.Write location written) value store k f g = tt
right_here shape (Act.Bump location added) value store k f g = tt
right_here shape (Act.Update reducer updated) value store k f g = tt
right_here shape (Act.Put reducer put) value store k f g = tt
right_here shape Act.Spawn value store k f g = tt
right_here shape Act.Sync value store k f g = tt
right_here shape Act.Call value store k f g = tt
right_here shape Act.Return value store k f g = tt

-- each value is right where those of each cell and of each reducer are
pub all_right : (shape : Shape) (effects : List Effect) (store : Store) → IsSized shape store → AreInRange shape effects →
    ((cell : ℕ) → cell < shape.cells → AreReadsRight cell (slice_index store.memory cell) effects) →
    ((reducer : ℕ) → reducer < length shape.monoids → AreGetsRight (monoid_of shape.monoids reducer) reducer (view_at store reducer) effects) →
    AreRight shape.monoids store effects
all_right shape [] store s k f g = tt
all_right shape (one ∷ effects) store s k f g = (
  right_here shape one.act one.value store k.0 (λ cell lt. (f cell lt).0) (λ reducer lt. (g reducer lt).0),
  all_right shape effects (after_act shape.monoids one.act store) (sized_after shape one.act store s) k.1
      (λ cell lt. subst (λ h. AreReadsRight cell h effects) (sym (cell_is shape one.act store cell s k.0)) (f cell lt).1)
      (λ reducer lt. subst (λ v. AreGetsRight (monoid_of shape.monoids reducer) reducer v effects) (sym (view_is shape one.act store reducer s k.0)) (g reducer lt).1),
)
