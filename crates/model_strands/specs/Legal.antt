-- Which control histories are legal.
use Rattle.std.specs.Prelude.{◌≡◌, ℕ, ◌+◌, true, false, [], ◌∷◌}
use Rattle.model_strands.specs.History.{Event, split, same, joined, waits, call, resumed, ended, ended_joined, finished, History}
use Rattle.model_strands.specs.Strands.{Running, unused}
use Rattle.model_strands.specs.Blocks.{Stack, root, spawned, called, block, stack, IsSynced, Outstanding, IsLast}

-- the event may come next
pub data Allowed (history : History) : Event → Type 0 where
  -- a spawn with no open block opens one
  open_split : {strand : ℕ} → Running history strand → IsSynced (stack history strand) → {child next join : ℕ} →
      child ≡ unused history → next ≡ 1 + unused history → join ≡ 2 + unused history → Allowed history (split strand child next join true)
  -- a later spawn belongs to the open block
  next_split : {strand join : ℕ} {below : Stack} → Running history strand → stack history strand ≡ block join below →
      {child next : ℕ} → child ≡ unused history → next ≡ 1 + unused history → Allowed history (split strand child next join false)
  -- a sync with no open block
  sync_same : {strand : ℕ} → Running history strand → IsSynced (stack history strand) → Allowed history (same strand)
  -- a sync of a block with no child outstanding
  sync_joined : {strand join : ℕ} {below : Stack} → Running history strand → stack history strand ≡ block join below →
      ((number : ℕ) → Outstanding history number join → ⊥) → Allowed history (joined strand join)
  -- a sync of a block with a child outstanding
  sync_waits : {strand join : ℕ} {below : Stack} → Running history strand → stack history strand ≡ block join below → (number : ℕ) →
      Outstanding history number join → Allowed history (waits strand)
  function_call : {strand : ℕ} → Running history strand → Allowed history (call strand)
  -- a return with no open block, from a called function
  called_return : {strand number : ℕ} {below : Stack} → Running history strand → stack history strand ≡ called number below →
      Allowed history (resumed strand)
  -- from a spawned function that no sync waits for, or not as the last one
  child_return : {strand number join : ℕ} → Running history strand → stack history strand ≡ spawned number join →
      (IsLast history number join → ⊥) → Allowed history (ended strand)
  -- from the last one that a sync waits for
  last_return : {strand number join : ℕ} → Running history strand → stack history strand ≡ spawned number join →
      IsLast history number join → Allowed history (ended_joined strand join)
  -- from the root function
  root_return : {strand : ℕ} → Running history strand → stack history strand ≡ root → Allowed history (finished strand)

-- each event was allowed when it came
pub data Legal : History → Type 0 where
  start : Legal []
  then : {history : History} {event : Event} → Legal history → Allowed history event → Legal (event ∷ history)
