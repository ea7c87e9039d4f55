use Rattle.program_text.proofs.Knowing.{name_decides}
use Rattle.program_text.proofs.text.is_function_name.Goals as goal

pub returns : goal.returns
returns c = name_decides c.is_name.result c.args.word.now c.is_name.ensures
