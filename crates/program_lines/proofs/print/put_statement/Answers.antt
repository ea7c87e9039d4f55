use Rattle.std.proofs.Common.{rules, ◌≡◌, ◌++◌, string_bytes}
use Rattle.std.proofs.lemmas.Result.{on_ok_weaker}
use Rattle.program_lines.specs.Arguments.{words_of_argument}
use Rattle.program_lines.specs.Table.{spelling}
use Rattle.program_lines.specs.Grammar.{keyword_of_statement}
use Rattle.program_lines.specs.Printing.{argument_words, printed_scope}
use Rattle.program_lines.proofs.Pieces.{all_put}
use Rattle.program_lines.proofs.print.put_statement.Goals as goal

pub returns : goal.returns
returns g c =
    let old = string_bytes c.args.out.now in
    let word = spelling (keyword_of_statement c.args.statement.now) in
    let mems = c.args.mems.now in
    let registers = c.args.registers.now in
    let first : string_bytes c.push_str.new.self ≡ old ++ word = search rules in
    λ version functions named.
    let reducers = c.args.reducers.now in
    let scope = printed_scope version mems reducers functions registers in
    on_ok_weaker c.put_argument-3.result
    (λ e. all_put old word _ _ _ _ (words_of_argument scope c.arguments.result.0) (words_of_argument scope c.arguments.result.1) (words_of_argument scope c.arguments.result.2)
    (argument_words scope c.args.statement.now)
    first (c.in_ok-put_argument.ensures version reducers functions) (c.in_ok-put_argument-2.ensures version reducers functions) (c.arguments.ensures version mems functions named) e)
    (c.put_argument-3.ensures version reducers functions)
