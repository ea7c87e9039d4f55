use Rattle.std.proofs.Common.{◌≤◌, length, sym, arith}
use Rattle.text_words.proofs.Numbers.{number_at}
use Rattle.program_lines.proofs.scope.FunctionNames.find.Goals as goal

pub overflow_cast-result : goal.overflow_cast-result
overflow_cast-result g c =
    let names = c.self.inside.names in
    let at = number_at names c.as_bytes.result.now c.in-Some.number (sym c.in-Some.ensures) in
    let few : length names ≤ 4294967295 = c.self.invariant in
    omega (arith, at.0, few)
