use Rattle.std.proofs.Common.{◌≡◌, ◌<◌, ◌≤◌, ◌∙◌, List, length, get_or, ap, subst}
use Rattle.model_bodies.specs.Codes.{Code}
use Rattle.race_explanations.proofs.Functions.{name_on, name_here}
use Rattle.race_explanations.proofs.words.function_in.Goals as goal

pub loop-function-preserved : goal.loop-function-preserved
loop-function-preserved g c =
    let functions = c.args.program.now.functions in
    let index = c.loop-function.function-index in
    let one = c.function-item.result in
    let below : index < length functions = subst (λ (all : List Code). index < length all) c.as_slice-function-items.ensures c.loop-function-test.true in
    let is : one ≡ get_or functions index one = subst (λ (all : List Code). one ≡ get_or all index one) c.as_slice-function-items.ensures c.function-item.is in
    let named : c.as_str-name.result.now ≡ one.name = c.as_str-name.ensures ∙ ap (λ (code : Code). code.name) c.function.view_is in
    let before : one.line < c.args.line = subst (λ line. line < c.args.line) (ap (λ (code : Code). code.line) c.function.view_is) c.if-function-line.false in (
      c.as_str-name.utf8,
      name_on functions index one c.loop-function.name.now c.as_str-name.result.now c.args.line below is before named c.loop-function.invariant.1,
    )

pub returns-then-function-line : goal.returns-then-function-line
returns-then-function-line g c =
    let functions = c.args.program.now.functions in
    let index = c.loop-function.function-index in
    let one = c.function-item.result in
    let below : index < length functions = subst (λ (all : List Code). index < length all) c.as_slice-function-items.ensures c.loop-function-test.true in
    let is : one ≡ get_or functions index one = subst (λ (all : List Code). one ≡ get_or all index one) c.as_slice-function-items.ensures c.function-item.is in
    let behind : c.args.line ≤ one.line = subst (λ line. c.args.line ≤ line) (ap (λ (code : Code). code.line) c.function.view_is) c.if-function-line.true in
    name_here functions index one c.loop-function.name.now c.args.line below is behind c.loop-function.invariant.1
