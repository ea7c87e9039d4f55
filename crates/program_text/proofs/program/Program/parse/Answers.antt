use Rattle.std.proofs.Common.{sym, ◌∙◌, ap}
use Rattle.model_bodies.specs.Codes.{main_of}
use Rattle.program_text.proofs.Whole.{assembled, whole_of_text}
use Rattle.program_text.proofs.program.Program.parse.Goals as goal

pub invariant_of-result : goal.invariant_of-result
invariant_of-result g c =
    let parts = c.into_parts-version.result in
    let text = c.args.bytes.now in
    let means = assembled text c.in-Ok.draft parts.0 parts.1.items c.new.result parts.2.items c.new-in-Ok.result parts.3.items c.new-in-Ok-2.result
    c.into_parts-version.ensures.known c.into_parts-version.ensures.functions c.new.ensures c.new-in-Ok.ensures c.new-in-Ok-2.ensures c.in-Ok.ensures.means in
    let whole = whole_of_text text _ means in
    record {
      meant = ∣ (text, means) ∣₁;
      numbered = whole.numbered;
      few_cells = whole.few_cells;
      few_reducers = whole.few_reducers;
      few_functions = whole.few_functions;
      sound = whole.sound;
      main_is = ap main_of (c.new-in-Ok-2.ensures ∙ sym c.into_parts-version.ensures.functions) ∙ c.in-Ok.ensures.main;
    }
