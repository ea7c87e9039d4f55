-- Updates and puts of a reducer.
use Rattle.std.proofs.Common.{◌≡◌, ℕ, ◌+◌, false, List, Some, None, refl, ap, ◌∙◌, arith, drop}
use Rattle.std.specs.Prelude.{slice_get}
use Rattle.model_reducers.specs.declared.monoid.Monoid.{Monoid}
use Rattle.model_reducers.specs.Products.{update_view, put_view, product_of, monoid_of}
use Rattle.model_bodies.specs.declared.statement.Operand.{Operand}
use Rattle.model_bodies.specs.declared.statement.Statement.TheVariants.{Update, Put}
use Rattle.model_bodies.specs.Codes.{Code}
use Rattle.model_programs.specs.Values.{with_ok, value_of}
use Rattle.model_programs.specs.Evaluation.{view_at, with_view}
use Rattle.serial_elision.specs.States.{ElisionState, store_of, with_store, with_top, moved, callers_of, left_at, Makes}
use Rattle.serial_elision.proofs.Evaluations.{update_leads, put_leads}
use Rattle.serial_elision.proofs.Elisions.{line_makes}

module _ (functions : List Code) (monoids : List Monoid) (cells : ℕ) (before : ElisionState) (code : Code) (here : slice_get functions before.top.function ≡ Some code) (going : before.over ≡ false) (quiet : before.top.turns ≡ None) (same : before.monoids ≡ monoids) (line reducer : ℕ) (value : Operand) (after : ElisionState) where
  pub update_makes : slice_get code.body before.top.place ≡ Some (Update line reducer value) → after ≡ with_store (with_top before (moved before.top (before.top.place + 1) (with_ok 1 before.top.registers))) (with_view (store_of before) reducer (product_of (monoid_of before.monoids reducer) (view_at (store_of before) reducer) (update_view (monoid_of before.monoids reducer) (value_of value before.top.registers)))) → Makes functions monoids 1 before after
  update_makes at e =
      line_makes functions monoids cells before code here going quiet _ at 1 (before.top.place + 1) _ _ _ after refl (λ z. absurd (omega (arith, z)))
      (update_leads functions monoids code.end_line (callers_of functions before.callers) (left_at code.end_line (drop (before.top.place + 1) code.body)) before.top.registers (store_of before) line reducer value)
      (e ∙ ap (λ m. with_store (with_top before (moved before.top (before.top.place + 1) (with_ok 1 before.top.registers))) (with_view (store_of before) reducer (product_of (monoid_of m reducer) (view_at (store_of before) reducer) (update_view (monoid_of m reducer) (value_of value before.top.registers))))) same)

  pub put_makes : slice_get code.body before.top.place ≡ Some (Put line reducer value) → after ≡ with_store (with_top before (moved before.top (before.top.place + 1) (with_ok 1 before.top.registers))) (with_view (store_of before) reducer (put_view (monoid_of before.monoids reducer) (value_of value before.top.registers))) → Makes functions monoids 1 before after
  put_makes at e =
      line_makes functions monoids cells before code here going quiet _ at 1 (before.top.place + 1) _ _ _ after refl (λ z. absurd (omega (arith, z)))
      (put_leads functions monoids code.end_line (callers_of functions before.callers) (left_at code.end_line (drop (before.top.place + 1) code.body)) before.top.registers (store_of before) line reducer value)
      (e ∙ ap (λ m. with_store (with_top before (moved before.top (before.top.place + 1) (with_ok 1 before.top.registers))) (with_view (store_of before) reducer (put_view (monoid_of m reducer) (value_of value before.top.registers)))) same)
