use Rattle.std.proofs.Common.{ap, ◌++◌, ◌∙◌, codes, slice_get}
use Rattle.text_buffers.proofs.Builders.{these}
use Rattle.program_warnings.specs.Messages.{name_in, reducer_in}
use Rattle.program_warnings.proofs.message.push_title.Goals as goal

pub returns-in-Unreached : goal.returns-in-Unreached
returns-in-Unreached c =
    rw c.in-Unreached.is (these _ _ _ _ c.push_three.ensures
    (ap (λ name. codes "no spawn or call leads from `main` to `" ++ name ++ codes "`")
    (c.function_name.ensures ∙ ap (λ some. name_in (slice_get some c.in-Unreached.function)) c.as_slice-functions.ensures)))

pub returns-in-Unput : goal.returns-in-Unput
returns-in-Unput c =
    rw c.in-Unput.is (these _ _ _ _ c.push_three-in-Unput.ensures
    (ap (λ name. codes "`" ++ name ++ codes "` is read here, and no function that `main` reaches has a `put` of it")
    (c.reducer_name.ensures ∙ ap (λ some. reducer_in (slice_get some c.in-Unput.reducer)) c.as_slice.ensures)))
