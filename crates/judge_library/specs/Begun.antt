-- What C finds in a handle.
use Rattle.std.specs.Prelude.{◌≡◌, IsTrue}
use Rattle.judge_library.specs.declared.handle.Handle.{Handle}

-- its judge has begun, and C reads the number of the running strand's first record
pub record IsHeld (handle : Handle) : Type 0 where
  pub begun : IsTrue handle.is_begun
  pub first : handle.first ≡ handle.held.judge.first
