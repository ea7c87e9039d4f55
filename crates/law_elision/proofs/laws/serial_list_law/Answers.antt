use Rattle.law_elision.proofs.Trees.{expanded}
use Rattle.law_elision.proofs.Runs.{serial_list}
use Rattle.law_elision.proofs.laws.serial_list_law.Goals as goal

pub returns : goal.returns
returns c = λ shape entries legal.
    let tree = expanded shape entries legal in (tree.all, tree.expands, serial_list shape entries legal tree.all tree.expands)
