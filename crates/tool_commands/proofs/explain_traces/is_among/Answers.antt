use Rattle.std.proofs.Common.{rules, arith, refl, sym, ◌≡◌, ◌∙◌, get_or}
use Rattle.std.proofs.lemmas.Grind.{common_steps}
use Rattle.std.specs.Str.{bytes_eq}
use Rattle.std.specs.String.{string_bytes}
use Rattle.tool_commands.proofs.KeptRuns.{some_has, none_has}
use Rattle.tool_commands.proofs.explain_traces.is_among.Goals as goal

pub loop-one-init : goal.loop-one-init
loop-one-init c = refl

pub loop-one-preserved : goal.loop-one-preserved
loop-one-preserved c =
    let same : c.one-item.result ≡ get_or c.args.runs.now c.loop-one.one-index c.one-item.result =
    first_of (search rules, grind (arith, common_steps)) in
    none_has string_bytes (bytes_eq c.args.run.now) c.args.runs.now c.loop-one.one-index c.one-item.result
    (first_of (search rules, grind (arith, common_steps))) same c.loop-one.invariant (sym c.is_run.ensures ∙ c.if-is_run.false)

pub returns-then-is_run : goal.returns-then-is_run
returns-then-is_run c =
    let same : c.one-item.result ≡ get_or c.args.runs.now c.loop-one.one-index c.one-item.result =
    first_of (search rules, grind (arith, common_steps)) in
    sym (some_has string_bytes (bytes_eq c.args.run.now) c.args.runs.now c.loop-one.one-index c.one-item.result
    (first_of (search rules, grind (arith, common_steps))) same (sym c.is_run.ensures ∙ c.if-is_run.true))
