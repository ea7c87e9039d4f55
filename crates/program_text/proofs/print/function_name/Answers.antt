use Rattle.std.proofs.Common.{[], ap, sym, ◌∙◌, map, arith}
use Rattle.std.proofs.lemmas.Bool.{ltb-true, ltb-false}
use Rattle.std.proofs.lemmas.List.{get_or-map, get_or_past, length-map}
use Rattle.model_bodies.specs.Codes.{Code}
use Rattle.program_text.proofs.print.function_name.Goals as goal

pub returns-in-Some : goal.returns-in-Some
returns-in-Some g c =
    let found = c.in-Some.ensures.lookup in
    let name : Code → _ = λ (code : Code). code.name in
    c.as_str.ensures ∙ (ap name c.function.view_is ∙ (ap name found.1 ∙ sym (get_or-map name c.args.functions.now c.args.number _ [] (ltb-true _ _ (sym found.0)))))

pub returns-in-None : goal.returns-in-None
returns-in-None g c =
    let functions = c.args.functions.now in
    let name : Code → _ = λ (code : Code). code.name in
    let past = ltb-false _ _ (sym c.in-None.ensures.lookup.0) in
    let long = length-map functions name in
    sym (get_or_past (map name functions) c.args.number [] (omega (arith, past, long)))
