-- The value of a cell by its last granted write.
use Rattle.std.proofs.Common.{◌≡◌, ℕ, ◌+◌, ◌%◌, ◌^◌, Bool, true, false, cond, List, [], ◌∷◌, ◌++◌, refl, sym, ◌∙◌, ap, add-zero, zero-add, arith}
use Rattle.std.specs.Prelude.{◌==◌}
use Rattle.std.proofs.lemmas.List.{append-nil}
use Rattle.std.proofs.lemmas.Bool.{eqb-true, eq-eqb}
use Rattle.model_histories.specs.Entries.{Entries}
use Rattle.model_races.specs.Memory.{CellEffect, sets, adds, leaves, effect_on_cell, effects, last_written, bumped_since}
use Rattle.race_gate.specs.Memory.{IsWriteOf, HasNoWrite, bump_of, bumps_of}
use Rattle.race_gate.specs.Laws.{ValueLaw}

-- one effect_on_cell that is no write of the cell
last-one : (one : CellEffect) (before : List CellEffect) (cell : ℕ) → (IsWriteOf cell one → ⊥) → last_written (one ∷ before) cell ≡ last_written before cell
last-one (sets location value) before cell none = at_test (location == cell) refl
  where
    at_test : (b : Bool) → (location == cell) ≡ b → cond (location == cell) value (last_written before cell) ≡ last_written before cell
    at_test true e = absurd (none (eqb-true location cell e))
    at_test false e = rw e refl
last-one (adds location value) before cell none = refl
last-one leaves before cell none = refl

bumped-one : (one : CellEffect) (before : List CellEffect) (cell : ℕ) → (IsWriteOf cell one → ⊥) →
    bumped_since (one ∷ before) cell ≡ bump_of cell one + bumped_since before cell
bumped-one (sets location value) before cell none = at_test (location == cell) refl
  where
    at_test : (b : Bool) → (location == cell) ≡ b → cond (location == cell) 0 (bumped_since before cell) ≡ 0 + bumped_since before cell
    at_test true e = absurd (none (eqb-true location cell e))
    at_test false e = rw e (omega arith)
bumped-one (adds location value) before cell none =
    let since = bumped_since before cell in
    elim (location == cell) as (λ b. cond b (value + since) since ≡ cond b value 0 + since) [ true ↦ refl | false ↦ omega arith ]
bumped-one leaves before cell none = omega arith

last-behind : (later before : Entries) (cell : ℕ) → HasNoWrite cell later → last_written (effects (later ++ before)) cell ≡ last_written (effects before) cell
last-behind [] before cell none = refl
last-behind (entry ∷ later) before cell none =
    last-one (effect_on_cell entry.request.act entry.answer) (effects (later ++ before)) cell none.0 ∙ last-behind later before cell none.1

bumped-behind : (later before : Entries) (cell : ℕ) → HasNoWrite cell later →
    bumped_since (effects (later ++ before)) cell ≡ bumps_of cell later + bumped_since (effects before) cell
bumped-behind [] before cell none = omega arith
bumped-behind (entry ∷ later) before cell none =
    let one = bumped-one (effect_on_cell entry.request.act entry.answer) (effects (later ++ before)) cell none.0 in
    let rest = bumped-behind later before cell none.1 in
    omega (arith, one, rest)

-- the cell after its write
at_write : (before : List CellEffect) (cell value : ℕ) → (last_written (sets cell value ∷ before) cell ≡ value) × (bumped_since (sets cell value ∷ before) cell ≡ 0)
at_write before cell value = (rw (eq-eqb cell cell refl) refl, rw (eq-eqb cell cell refl) refl)

pub value_law : ValueLaw
value_law = record {
  written = λ later before write cell value is none.
      let last : last_written (effects (later ++ write ∷ before)) cell ≡ value =
      last-behind later (write ∷ before) cell none ∙ ap (λ one. last_written (one ∷ effects before) cell) is ∙ (at_write (effects before) cell value).0 in
      let since : bumped_since (effects (later ++ write ∷ before)) cell ≡ bumps_of cell later =
      bumped-behind later (write ∷ before) cell none ∙
      (let zero_there : bumped_since (effects (write ∷ before)) cell ≡ 0 = ap (λ one. bumped_since (one ∷ effects before) cell) is ∙ (at_write (effects before) cell value).1 in
      omega (arith, zero_there)) in
      rw (last, since) refl;
  unwritten = λ entries cell none.
      let last : last_written (effects entries) cell ≡ 0 =
      ap (λ all. last_written (effects all) cell) (sym (append-nil entries)) ∙ last-behind entries [] cell none in
      let since : bumped_since (effects entries) cell ≡ bumps_of cell entries =
      ap (λ all. bumped_since (effects all) cell) (sym (append-nil entries)) ∙ bumped-behind entries [] cell none ∙ add-zero (bumps_of cell entries) in
      rw (last, since) (ap (λ n. n % 2 ^ 64) (zero-add (bumps_of cell entries)));
}
