-- The memory that has a cell.
use Rattle.std.proofs.Common.{◌≡◌, ℕ, ◌<◌, ◌≤◌, ◌+◌, ◌∷◌, [], List, Bool, true, false, cond, arith, refl, sym, ap, ◌∙◌}
use Rattle.std.specs.Prelude.{Option, Some, None, ◌==◌, IsTrue}
use Rattle.std.specs.List.{find}
use Rattle.std.proofs.lemmas.Bool.Decides.{nat_tests}
use Rattle.text_words.specs.declared.value.Mem.{Mem}
use Rattle.text_words.specs.Declarations.{cells_of}
use Rattle.trace_text.specs.Shapes.{is_numbered, has_cell}
use Rattle.trace_text.proofs.Kept.{both_true, first_is, cells_cons}

passes_by : {X : Type 0} (b : Bool) (test : X → Bool) (y x : X) (xs : List X) → (find test xs ≡ Some x → test x ≡ true) → test y ≡ b
    → cond b (Some y) (find test xs) ≡ Some x → test x ≡ true
passes_by true test y x xs h e f = let same : y ≡ x = cc in ap test (sym same) ∙ e
passes_by false test y x xs h e f = h f

-- what is found passes
found_passes : {X : Type 0} (test : X → Bool) (xs : List X) (x : X) → find test xs ≡ Some x → test x ≡ true
found_passes test [] x e = cc
found_passes test (y ∷ xs) x e = passes_by (test y) test y x xs (found_passes test xs x) refl e

first_le : (cell : ℕ) (mem : Mem) → has_cell cell mem ≡ true → mem.first ≤ cell
first_le cell mem h = grind (arith, nat_tests)

pub found_first_le : (cell : ℕ) (mems : List Mem) (mem : Mem) → find (has_cell cell) mems ≡ Some mem → mem.first ≤ cell
found_first_le cell mems mem e = first_le cell mem (found_passes (has_cell cell) mems mem e)

past : (cell from : ℕ) (mem : Mem) → mem.first ≡ from → from ≤ cell → has_cell cell mem ≡ false → from + mem.cells ≤ cell
past cell from mem e l h = grind (arith, nat_tests)

found_by : (here : Bool) (mem : Mem) (rest : Option Mem) → cond here (Some mem) rest ≡ None → (here ≡ false) × (rest ≡ None)
found_by true mem rest e = cc
found_by false mem rest e = (refl, e)

-- some memory has each cell
pub cell_found : (cell from : ℕ) (mems : List Mem) → IsTrue (is_numbered from mems) → from ≤ cell → cell < from + cells_of mems → find (has_cell cell) mems ≡ None → ⊥
cell_found cell from [] h l k e = absurd (omega arith)
cell_found cell from (mem ∷ mems) h l k e =
    let parts = both_true (mem.first == from) (is_numbered (from + mem.cells) mems) h in
    let none = found_by (has_cell cell mem) mem (find (has_cell cell) mems) e in
    cell_found cell (from + mem.cells) mems parts.1 (past cell from mem (first_is mem from parts.0) l none.0) (omega (arith, cells_cons mem mems)) none.1
