-- The functions that a serial run is in, and where the current strand stands to each.
-- f: a frame; fs: frames; o: a spawn; os: spawns; b: an open block or none; st: a stack
use Rattle.std.proofs.Common.{◌≡◌, ◌⊎◌, inl, inr, ℕ, suc, Bool, true, false, List, [], ◌∷◌, length, Option, Some, None, Contains, refl, sym, ap, ◌∙◌, subst, subst₂, arith}
use Rattle.std.proofs.lemmas.Option.{none-some}
use Rattle.model_strands.specs.Updated.{updated}
use Rattle.model_strands.specs.Addresses.{address}
use Rattle.model_strands.specs.History.{Event, split, same, joined, waits, call, resumed, ended, ended_joined, finished, History}
use Rattle.model_strands.specs.Strands.{Running}
use Rattle.model_strands.specs.Blocks.{Stack, root, spawned, called, block, caller, stack, IsSynced}
use Rattle.model_strands.specs.Extensions.{IsFinished}
use Rattle.model_strands.specs.Legal.{Allowed, open_split, next_split, sync_joined, called_return, child_return, Legal, start, then}
use Rattle.law_addresses.specs.Address.{reaches, parallel}
use Rattle.law_addresses.proofs.Extremes.{contains-head, contains-tail}
use Rattle.law_strands.proofs.Places.{some_same}
use Rattle.law_strands.proofs.Updates.{updated_at, updated_off}
use Rattle.law_strands.proofs.Range.{ranges}
use Rattle.law_strands.proofs.Kept.{join_law}
use Rattle.law_strands.proofs.Law.{begun_below}
use Rattle.law_strands.proofs.Orders.{parallel_iff}
use Rattle.model_serial_runs.specs.Current.{strand_of, next_of, current, IsSerial}
use Rattle.law_serial_runs.specs.Turns.{IsDirect}
use Rattle.law_serial_runs.specs.Spawns.{Spawn, new_spawn, without_first, open_spawns, IsInBlock, IsOpenBlock}
use Rattle.law_serial_runs.specs.Frames.{Entry, at_root, by_call, by_spawn, Frame, with_block, without_first as without_first_frame, frames, IsInFrame, LeadsTo, IsBeside, IsWithin}
use Rattle.law_serial_runs.specs.Laws.{FramesLaw}
use Rattle.law_serial_runs.proofs.Stays.{stack_stays}
use Rattle.law_serial_runs.proofs.Runs.{function_of, Runs, Waits, nested, nested_elsewhere}
use Rattle.law_serial_runs.proofs.Steps.{child_stack, runs_of, not_at_end, returning, direct_law}
use Rattle.law_serial_runs.proofs.Earlier.{current_begun}
use Rattle.law_serial_runs.proofs.Children.{open_law}
use Rattle.law_serial_runs.proofs.Blocks.{blocks_law}

abbrev framed : Entry → Option ℕ → Frame
framed entry its_block = record { entry = entry; block = its_block }

-- the frames of a strand that stands there, where above it the innermost function has this open block, and the open spawns that lead there
data Ladder (history : History) : Option ℕ → Stack → List Frame → List Spawn → Type 0 where
  at_bottom : {open_block : Option ℕ} → Ladder history open_block root (framed at_root open_block ∷ []) []
  over_call : {open_block : Option ℕ} {number : ℕ} {below : Stack} {outer : List Frame} {spawns : List Spawn} → Ladder history None below outer spawns →
      Ladder history open_block (called number below) (framed by_call open_block ∷ outer) spawns
  over_block : {its_join : ℕ} {below : Stack} {all : List Frame} {spawns : List Spawn} → Ladder history (Some its_join) below all spawns →
      Ladder history None (block its_join below) all spawns
  over_spawn : {open_block : Option ℕ} {outer : List Frame} {spawns : List Spawn} → (spawn : Spawn) →
      Ladder history None (stack history spawn.next_strand) outer spawns →
      Ladder history open_block (spawned spawn.number spawn.block_join) (framed (by_spawn spawn.next_strand) open_block ∷ outer) (spawn ∷ spawns)

ladder_stays : (history later : History) → {open_block : Option ℕ} {st : Stack} {all : List Frame} {spawns : List Spawn} →
    ((spawn : Spawn) → Contains spawns spawn → stack later spawn.next_strand ≡ stack history spawn.next_strand) →
    Ladder history open_block st all spawns → Ladder later open_block st all spawns
ladder_stays h h' still at_bottom = at_bottom
ladder_stays h h' still (over_call t) = over_call (ladder_stays h h' still t)
ladder_stays h h' still (over_block t) = over_block (ladder_stays h h' still t)
ladder_stays h h' still (over_spawn {outer = fs} {spawns = os} o t) = over_spawn o
    (subst (λ z. Ladder h' None z fs os) (sym (still o (contains-head o os)))
    (ladder_stays h h' (λ p m. still p (contains-tail o p os m)) t))

-- The block of the innermost function opens, stays open, and ends.

opened : {history : History} {st : Stack} {all : List Frame} {spawns : List Spawn} → (its_join : ℕ) → IsSynced st → Ladder history None st all spawns →
    Ladder history (Some its_join) st (with_block (Some its_join) all) spawns
opened j sy at_bottom = at_bottom
opened j sy (over_call t) = over_call t
opened j sy (over_block t) = absurd sy
opened j sy (over_spawn o t) = over_spawn o t

stays_open : {history : History} {its_join : ℕ} {st : Stack} {all : List Frame} {spawns : List Spawn} → Ladder history (Some its_join) st all spawns →
    Ladder history (Some its_join) st (with_block (Some its_join) all) spawns
stays_open at_bottom = at_bottom
stays_open (over_call t) = over_call t
stays_open (over_spawn o t) = over_spawn o t

spawned_again : {history : History} {its_join : ℕ} {below : Stack} {all : List Frame} {spawns : List Spawn} →
    Ladder history None (block its_join below) all spawns → Ladder history None (block its_join below) (with_block (Some its_join) all) spawns
spawned_again (over_block t) = over_block (stays_open t)

closed : {history : History} {its_join : ℕ} {st : Stack} {all : List Frame} {spawns : List Spawn} → Ladder history (Some its_join) st all spawns →
    Ladder history None st (with_block None all) spawns
closed at_bottom = at_bottom
closed (over_call t) = over_call t
closed (over_spawn o t) = over_spawn o t

synced : {history : History} {its_join : ℕ} {below : Stack} {all : List Frame} {spawns : List Spawn} →
    Ladder history None (block its_join below) all spawns → Ladder history None below (with_block None all) spawns
synced (over_block t) = closed t

resumes : {history : History} {number : ℕ} {below : Stack} {all : List Frame} {spawns : List Spawn} → Ladder history None (called number below) all spawns →
    Ladder history None below (without_first_frame all) spawns
resumes (over_call t) = t

returned : {history : History} {open_block : Option ℕ} {number its_join : ℕ} {all : List Frame} {spawn : Spawn} {spawns : List Spawn} →
    Ladder history open_block (spawned number its_join) all (spawn ∷ spawns) →
    Ladder history None (stack history spawn.next_strand) (without_first_frame all) spawns
returned (over_spawn o t) = t

-- the functions that the run is in are those in which the current strand stands
abbrev IsOnLadder : History → Type 0
IsOnLadder history = Ladder history None (stack history (current history)) (frames history) (open_spawns history)

module _ {h : History} (l : Legal h) (r : Runs h) (here : IsOnLadder h) where
  still : {e : Event} → Legal (e ∷ h) → strand_of e ≡ current h → (spawn : Spawn) → Contains (open_spawns h) spawn →
      stack (e ∷ h) spawn.next_strand ≡ stack h spawn.next_strand
  still l' at o m =
      stack_stays l' o.next_strand (inl (nested h (function_of (stack h (current h))) (open_spawns h) r.nests o m).runs)
      (λ e. nested_elsewhere l (current h) (open_spawns h) r.nests o m (e ∙ at))

  kept : {e : Event} → Legal (e ∷ h) → strand_of e ≡ current h → Ladder (e ∷ h) None (stack h (strand_of e)) (frames h) (open_spawns h)
  kept {e} l' at =
      ladder_stays h (e ∷ h) (still l' at) (subst (λ z. Ladder h None (stack h z) (frames h) (open_spawns h)) (sym at) here)

  ladder_split : (strand the_child the_next the_join : ℕ) (first : Bool) → strand ≡ current h → Allowed h (split strand the_child the_next the_join first) →
      IsOnLadder (split strand the_child the_next the_join first ∷ h)
  ladder_split s c n j true at (open_split run sy ce ne je) =
      let h' : History = split s c n j true ∷ h in
      let stands : stack h' n ≡ block j (stack h s) =
      updated_off (updated (updated (stack h) c (spawned (suc (length h)) j)) n (block j (stack h s))) j (stack h s) n (λ e. omega arith) ∙
      updated_at (updated (stack h) c (spawned (suc (length h)) j)) n (block j (stack h s)) n refl in
      let from : Ladder h' None (stack h' n) (with_block (Some j) (frames h)) (open_spawns h) =
      subst (λ z. Ladder h' None z (with_block (Some j) (frames h)) (open_spawns h)) (sym stands)
      (over_block (opened j sy (kept (then l (open_split run sy ce ne je)) at))) in
      subst (λ z. Ladder h' None z (framed (by_spawn n) None ∷ with_block (Some j) (frames h)) (open_spawns h'))
      (sym (child_stack s c n j true (open_split run sy ce ne je))) (over_spawn (new_spawn h s c n j) from)
  ladder_split s c n j false at (next_split {below = below} run st ce ne) =
      let h' : History = split s c n j false ∷ h in
      let stands : stack h' n ≡ block j below = updated_at (updated (stack h) c (spawned (suc (length h)) j)) n (stack h s) n refl ∙ st in
      let from : Ladder h' None (stack h' n) (with_block (Some j) (frames h)) (open_spawns h) =
      subst (λ z. Ladder h' None z (with_block (Some j) (frames h)) (open_spawns h)) (sym stands)
      (spawned_again (subst (λ z. Ladder h' None z (frames h) (open_spawns h)) st (kept (then l (next_split run st ce ne)) at))) in
      subst (λ z. Ladder h' None z (framed (by_spawn n) None ∷ with_block (Some j) (frames h)) (open_spawns h'))
      (sym (child_stack s c n j false (next_split run st ce ne))) (over_spawn (new_spawn h s c n j) from)

  ladder_joined : (strand its_join : ℕ) (below : Stack) → strand ≡ current h → Running h strand → stack h strand ≡ block its_join below →
      Allowed h (joined strand its_join) → IsOnLadder (joined strand its_join ∷ h)
  ladder_joined s j below at run st a =
      subst (λ z. Ladder (joined s j ∷ h) None z (with_block None (frames h)) (open_spawns h)) (sym (join_law h l s j below run st))
      (synced (subst (λ z. Ladder (joined s j ∷ h) None z (frames h) (open_spawns h)) st (kept (then l a) at)))

  ladder_call : (strand : ℕ) → strand ≡ current h → Allowed h (call strand) → IsOnLadder (call strand ∷ h)
  ladder_call s at a =
      subst (λ z. Ladder (call s ∷ h) None z (framed by_call None ∷ frames h) (open_spawns h))
      (sym (updated_at (stack h) s (called (suc (length h)) (stack h s)) (current h) (sym at))) (over_call (kept (then l a) at))

  ladder_resumed : (strand number : ℕ) (below : Stack) → strand ≡ current h → stack h strand ≡ called number below → Allowed h (resumed strand) →
      IsOnLadder (resumed strand ∷ h)
  ladder_resumed s m below at st a =
      subst (λ z. Ladder (resumed s ∷ h) None z (without_first_frame (frames h)) (open_spawns h))
      (sym (updated_at (stack h) s (caller (stack h s)) (current h) (sym at) ∙ ap caller st))
      (resumes (subst (λ z. Ladder (resumed s ∷ h) None z (frames h) (open_spawns h)) st (kept (then l a) at)))

  ladder_ended : (strand number its_join : ℕ) → strand ≡ current h → stack h strand ≡ spawned number its_join → Allowed h (ended strand) →
      IsOnLadder (ended strand ∷ h)
  ladder_ended s m j at st a =
      let back = returning l r s at m j st in
      let here : Ladder (ended s ∷ h) None (spawned m j) (frames h) (back.spawn ∷ back.others) =
      subst₂ (λ y z. Ladder (ended s ∷ h) None y (frames h) z) st back.newest (kept (then l a) at) in
      subst₂ (λ y z. Ladder (ended s ∷ h) None (stack h y) (without_first_frame (frames h)) z) (sym back.goes_on)
      (sym (ap without_first back.newest)) (returned here)

  ladder_step : (event : Event) → Allowed h event → strand_of event ≡ current h → IsDirect event → (IsFinished (event ∷ h) → ⊥) → IsOnLadder (event ∷ h)
  ladder_step (split s c n j first) a at d nf = ladder_split s c n j first at a
  ladder_step (same s) a at d nf =
      subst (λ z. Ladder (same s ∷ h) None (stack h z) (frames h) (open_spawns h)) at (kept (then l a) at)
  ladder_step (joined s j) (sync_joined {below = below} run st none) at d nf = ladder_joined s j below at run st (sync_joined run st none)
  ladder_step (waits s) a at d nf = absurd d
  ladder_step (call s) a at d nf = ladder_call s at a
  ladder_step (resumed s) (called_return {number = m} {below = below} run st) at d nf = ladder_resumed s m below at st (called_return run st)
  ladder_step (ended s) (child_return {number = m} {join = j} run st last) at d nf = ladder_ended s m j at st (child_return run st last)
  ladder_step (ended_joined s j) a at d nf = absurd d
  ladder_step (finished s) a at d nf = absurd (nf tt)

on_ladder : {h : History} → Legal h → IsSerial h → (IsFinished h → ⊥) → IsOnLadder h
on_ladder start r nf = at_bottom
on_ladder (then {history = h} {event = e} l a) r nf =
    let nf' = not_at_end l a r.0 r.1 in
    ladder_step l (runs_of l r.1 nf') (on_ladder l r.1 nf') e a r.0 (direct_law h e (then l a) r) nf

-- What the ladder says of the frames

-- the blocks that are open
abbrev IsAmong : History → Option ℕ → Stack → List Spawn → ℕ → Type 0
IsAmong history open_block st spawns its_join =
    (open_block ≡ Some its_join) ⊎ IsInBlock st its_join ⊎
    ((spawn : Spawn) × Contains spawns spawn × IsInBlock (stack history spawn.next_strand) its_join)

leads_to : (history : History) (strand : ℕ) (open_block : Option ℕ) → ((its_join : ℕ) → open_block ≡ Some its_join → LeadsTo history strand (Some its_join)) →
    LeadsTo history strand open_block
leads_to h x None f = tt
leads_to h x (Some j) f = f j refl

is_within : (history : History) (strand : ℕ) → {open_block : Option ℕ} {st : Stack} {all : List Frame} {spawns : List Spawn} →
    Ladder history open_block st all spawns →
    ((its_join : ℕ) → IsAmong history open_block st spawns its_join → LeadsTo history strand (Some its_join)) →
    ((spawn : Spawn) → Contains spawns spawn → IsBeside history strand (by_spawn spawn.next_strand)) → IsWithin history strand all
is_within h x (at_bottom {open_block = b}) f g = (leads_to h x b (λ j e. f j (inl e)), tt, tt)
is_within h x (over_call {open_block = b} t) f g = (
  leads_to h x b (λ j e. f j (inl e)),
  tt,
  is_within h x t (λ j i. elim i [ inl e ↦ absurd (none-some _ e) | inr k ↦ f j (inr k) ]) g,
)
is_within h x (over_block t) f g =
    is_within h x t (λ j i. elim i [ inl e ↦ f j (inr (inl (inl (sym (some_same e))))) | inr (inl k) ↦ f j (inr (inl (inr k))) | inr (inr k) ↦ f j (inr (inr k)) ]) g
is_within h x (over_spawn {open_block = b} {spawns = os} o t) f g = (
  leads_to h x b (λ j e. f j (inl e)),
  g o (contains-head o os),
  is_within h x t (λ j i. elim i [
    | inl e ↦ absurd (none-some _ e)
    | inr (inl k) ↦ f j (inr (inr (o, contains-head o os, k)))
    | inr (inr k) ↦ f j (inr (inr (k.0, contains-tail o k.0 os k.1, k.2)))
  ]) (λ p m. g p (contains-tail o p os m)),
)

-- the innermost function has the open block
record HasBlock (all : List Frame) (its_block : Option ℕ) : Type 0 where
  frame : Frame
  others : List Frame
  are : all ≡ frame ∷ others
  block_is : frame.block ≡ its_block

top_block : {history : History} {its_join : ℕ} {st : Stack} {all : List Frame} {spawns : List Spawn} → Ladder history (Some its_join) st all spawns →
    HasBlock all (Some its_join)
top_block at_bottom = record { frame = framed at_root (Some _); others = []; are = refl; block_is = refl }
top_block (over_call {outer = fs} t) = record { frame = framed by_call (Some _); others = fs; are = refl; block_is = refl }
top_block (over_spawn {outer = fs} o t) = record { frame = framed (by_spawn o.next_strand) (Some _); others = fs; are = refl; block_is = refl }

-- who stands on the ladder is in the innermost function
record IsOnTop (history : History) (st : Stack) (all : List Frame) : Type 0 where
  frame : Frame
  others : List Frame
  are : all ≡ frame ∷ others
  innermost : IsInFrame history frame.entry frame.block st

on_top : (history : History) → {st : Stack} {all : List Frame} {spawns : List Spawn} →
    ((spawn : Spawn) → Contains spawns spawn → next_of history spawn.number ≡ spawn.next_strand) → Ladder history None st all spawns → IsOnTop history st all
on_top h f at_bottom = record { frame = framed at_root None; others = []; are = refl; innermost = refl }
on_top h f (over_call {number = m} {below = below} {outer = fs} t) =
    record { frame = framed by_call None; others = fs; are = refl; innermost = (m, below, refl) }
on_top h f (over_block {its_join = j} {below = below} t) =
    let top = top_block t in
    record {
      frame = top.frame;
      others = top.others;
      are = top.are;
      innermost = subst (λ z. IsInFrame h top.frame.entry z (block j below)) (sym top.block_is) (below, refl);
    }
on_top h f (over_spawn {outer = fs} {spawns = os} o t) = record {
  frame = framed (by_spawn o.next_strand) None;
  others = fs;
  are = refl;
  innermost = (o.number, o.block_join, refl, f o (contains-head o os));
}

not_parallel : (history : History) (strand other : ℕ) → reaches (address history strand) (address history other) ≡ true →
    parallel (address history strand) (address history other) ≡ false
not_parallel h x y e = rw e refl

pub frames_law : FramesLaw
frames_law h l r nf =
    let ladder = on_ladder l r nf in
    let runs = runs_of l r nf in
    let waiting : (spawn : Spawn) → Contains (open_spawns h) spawn → Waits h spawn =
    nested h (function_of (stack h (current h))) (open_spawns h) runs.nests in
    let top = on_top h (λ o m. (waiting o m).next_is) ladder in (
      top.frame,
      top.others,
      record {
        are = top.are;
        innermost = top.innermost;
        within = subst (IsWithin h (current h)) top.are
            (is_within h (current h) ladder leads beside);
      },
    )
  where
    at : (its_join : ℕ) → IsOpenBlock h its_join → LeadsTo h (current h) (Some its_join)
    at j i = let t = blocks_law h l r j i in (t.0, not_parallel h (current h) j t.1)

    leads : (its_join : ℕ) → IsAmong h None (stack h (current h)) (open_spawns h) its_join → LeadsTo h (current h) (Some its_join)
    leads j (inl e) = absurd (none-some _ e)
    leads j (inr i) = at j i

    beside : (spawn : Spawn) → Contains (open_spawns h) spawn → IsBeside h (current h) (by_spawn spawn.next_strand)
    beside o m =
        let waiting = open_law h l r o m in (
          begun_below h (ranges l) o.next_strand (inl waiting.waits),
          (parallel_iff h l (current h) o.next_strand (current_begun l r) (inl waiting.waits)).0 waiting.parallel,
        )
