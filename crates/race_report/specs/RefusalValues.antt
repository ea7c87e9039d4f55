-- The values that the refusals of a report are printed from, as JSON.
use Rattle.std.specs.Prelude.{ℕ, Option, Some, None, List, ◌++◌, map}
use Rattle.serde_json.specs.Data.{Data, null}
use Rattle.serde_json.specs.View.{items_of}
use Rattle.serde_json.specs.Written.{items_text}
use Rattle.trace_text.specs.Shapes.{name_in}
use Rattle.race_report.specs.declared.refusal.AskedName.{AskedName}
use Rattle.race_report.specs.declared.refusal.AskedName.TheVariants.{Whole, Element}
use Rattle.race_report.specs.declared.printer.Printer.{Printer}
use Rattle.race_report.specs.declared.refusal.LinedWitness.{LinedWitness}
use Rattle.race_report.specs.declared.refusal.Refusal.{Refusal}
use Rattle.race_report.specs.Refusals.{witness_told, refusal_told}

-- a witness, where there is one
abbrev pub witness_in : Option LinedWitness → Data
witness_in None = null
witness_in (Some lined) = witness_told lined.line lined.witness

-- the name of what a request asks for
abbrev pub name_text : AskedName → List ℕ
name_text (Whole name) = name.now
name_text (Element alloc array index) = name_in array.now index

abbrev pub refusal_in : Refusal → Data
refusal_in refusal = refusal_told refusal.number refusal.request (name_text refusal.name) refusal.rule.now (witness_in refusal.witness)

-- the text of a printer with the refusals that are its next items, these items behind them, and the bracket
abbrev pub text_with : Printer → List Data → List ℕ
text_with printer rest = printer.text.items ++ items_text printer.later (items_of (map refusal_in printer.next.items ++ rest))
