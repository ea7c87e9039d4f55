-- Answers that belong to a statement, and others; and what does not look at registers.
use Rattle.std.proofs.Common.{◌≡◌, ◌∙◌, sym, ap, refl, Bool, true, false, List, Option, Some, None}
use Rattle.std.specs.Prelude.{slice_get}
use Rattle.model_bodies.specs.Codes.{Code}
use Rattle.frame_steps.specs.declared.activation.Activation.{Activation}
use Rattle.model_programs.specs.Values.{Registers}
use Rattle.frame_steps.specs.Answers.{IsTaken}
use Rattle.frame_steps.specs.Activations.{left, left_by, statement_of, statement_by}

pub taken : (made : Option Registers) (belongs : Bool) (before after : Registers) → IsTaken made belongs before after → belongs ≡ true → made ≡ Some after
taken None belongs before after is e = (let no : false ≡ true = sym is.0 ∙ e in cc)
taken (Some registers) belongs before after is e = ap Some (sym is.1)

pub not_taken : (made : Option Registers) (belongs : Bool) (before after : Registers) → IsTaken made belongs before after → belongs ≡ false → (made ≡ None) × (after ≡ before)
not_taken None belongs before after is e = (refl, is.1)
not_taken (Some registers) belongs before after is e = (let no : true ≡ false = sym is.0 ∙ e in cc)

-- other registers: the same is left, and asked
pub left_same : (functions : List Code) (activation : Activation) (registers : Registers) → left functions (record activation { registers = registers }) ≡ left functions activation
left_same functions activation registers = by (slice_get functions activation.function)
  where
    by : (code : Option Code) → left_by code (record activation { registers = registers }) ≡ left_by code activation
    by None = refl
    by (Some code) = refl

pub statement_same : (functions : List Code) (activation : Activation) (registers : Registers) → statement_of functions (record activation { registers = registers }) ≡ statement_of functions activation
statement_same functions activation registers = by (slice_get functions activation.function)
  where
    by : (code : Option Code) → statement_by code (record activation { registers = registers }) ≡ statement_by code activation
    by None = refl
    by (Some code) = refl
