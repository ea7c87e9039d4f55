-- What a handle owns.
use Rattle.std.specs.Prelude.{Bool, true, false}
use base.Fml.{Fml, ftrue}
use mir.Syntax.{Ty}
use denote.RawPtr.{Ptr}
use Rattle.std.specs.contracts.impls.GlobalAllocator.TheImpl.{ghosts}
use Rattle.std_alloc.specs.Box.Ownership.{box_owns}
use Rattle.judge_library.specs.declared.held.Held.{Held}
use Rattle.judge_library.specs.contracts.held.Held.{the_row as held}

-- the right to free a block
abbrev pub token : Ty → Ptr → Fml
token = ghosts.dealloc_token (record { memory = record { seal = tt } })

-- a handle owns what it holds once its judge has begun
abbrev pub judge_owns : Ptr → Bool → Held → Fml
judge_owns at false it = ftrue
judge_owns at true it = box_owns token held at it
