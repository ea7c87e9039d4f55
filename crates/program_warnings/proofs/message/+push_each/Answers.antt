use Rattle.std.proofs.Common.{rules, arith}
use Rattle.std.proofs.lemmas.Grind.{common_steps}
use Rattle.program_text.specs.Programs.{contents}
use Rattle.program_warnings.proofs.Telling.{none_told, each_more}
use Rattle.program_warnings.proofs.message.+push_each.Goals as goal

pub returns : goal.returns
returns t c =
    each_more c.args.look c.args.file.now c.args.source.now (contents c.args.program.now) c.args.warnings.now _ _ c.args.text.now
    c.push_warning.new.text _ _ _ c.push_warning.ensures.1 c.push_warning.ensures.2 c.push_each.ensures.1
    c.push_each.ensures.2 (first_of (search rules, grind (arith, common_steps)))

pub returns-in_default : goal.returns-in_default
returns-in_default t c = none_told _ _ _ _ c.args.warnings.now c.args.text.now (first_of (search rules, grind (arith, common_steps)))
