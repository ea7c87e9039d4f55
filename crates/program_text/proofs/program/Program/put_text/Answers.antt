use Rattle.program_text.specs.Programs.{contents}
use Rattle.program_text.proofs.Printed.{rows_printed}
use Rattle.program_text.proofs.program.Program.put_text.Goals as goal

pub returns : goal.returns
returns g c =
    rows_printed (contents c.args.self.now) c.as_slice-mems.result.now c.as_slice-reducers.result.now c.as_slice.result.now _ _ _ _ _ _
    c.as_slice-mems.ensures c.as_slice-reducers.ensures c.as_slice.ensures c.version_word-version.ensures (rw c.requires at c.in_ok-writeln.ensures.bytes)
    (c.in_ok-at.ensures c.args.self.now.version) (λ more. c.in_ok-put_functions.ensures c.args.self.now.version more)
