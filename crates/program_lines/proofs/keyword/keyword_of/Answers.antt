use Rattle.std.proofs.Common.{rules}
use Rattle.program_lines.specs.declared.keyword.Keyword.TheVariants.{Mem, Reducer, Func, Let, Spawn, Call, Sync, If, Else, End}
use Rattle.program_lines.proofs.Keywords.{only_keyword}
use Rattle.program_lines.proofs.keyword.keyword_of.Goals as goal

pub returns-in-Some : goal.returns-in-Some
returns-in-Some c = search rules

pub returns-in-mem : goal.returns-in-mem
returns-in-mem c = only_keyword c.args.version c.args.word.now Mem tt c.in-mem.is

pub returns-in-reducer : goal.returns-in-reducer
returns-in-reducer c = only_keyword c.args.version c.args.word.now Reducer tt c.in-reducer.is

pub returns-in-func : goal.returns-in-func
returns-in-func c = only_keyword c.args.version c.args.word.now Func tt c.in-func.is

pub returns-in-let : goal.returns-in-let
returns-in-let c = only_keyword c.args.version c.args.word.now Let tt c.in-let.is

pub returns-in-spawn : goal.returns-in-spawn
returns-in-spawn c = only_keyword c.args.version c.args.word.now Spawn tt c.in-spawn.is

pub returns-in-call : goal.returns-in-call
returns-in-call c = only_keyword c.args.version c.args.word.now Call tt c.in-call.is

pub returns-in-sync : goal.returns-in-sync
returns-in-sync c = only_keyword c.args.version c.args.word.now Sync tt c.in-sync.is

pub returns-in-if : goal.returns-in-if
returns-in-if c = only_keyword c.args.version c.args.word.now If tt c.in-if.is

pub returns-in-else : goal.returns-in-else
returns-in-else c = only_keyword c.args.version c.args.word.now Else tt c.in-else.is

pub returns-in-end : goal.returns-in-end
returns-in-end c = only_keyword c.args.version c.args.word.now End tt c.in-end.is
