-- A judge that is told of an event.
use Rattle.std.proofs.Common.{◌≡◌, inr, ℕ, zero, suc, ◌+◌, ◌-◌, ◌<◌, ◌≤◌, Bool, true, false, ◌&&◌, ◌||◌, leb, ltb, List, [], ◌∷◌, ◌++◌, length, take, reverse, Option, Some, None, is_some, refl, sym, ap, ◌∙◌, subst, lt-ltb, arith}
use Rattle.std.proofs.lemmas.Option.{none-some, same_Some, slice_get_within}
use Rattle.std.specs.List.{slice_get}
use Rattle.std.proofs.lemmas.Bool.{false≢true}
use Rattle.std.proofs.lemmas.List.{take_all, length-take-le, reverse-append}
use Rattle.model_strands.specs.Strands.{Running}
use Rattle.model_strands.specs.Blocks.{Stack, root, spawned, called, block, stack, IsSynced}
use Rattle.model_strands.specs.Addresses.{address}
use Rattle.model_strands.specs.History.{History, same, joined, resumed, ended}
use Rattle.model_strands.specs.Legal.{then, sync_same, sync_joined, function_call, called_return, child_return}
use Rattle.law_addresses.specs.Address.{parallel}
use Rattle.law_strands.specs.Branches.{branch}
use Rattle.model_serial_runs.specs.Accesses.{Access}
use Rattle.model_serial_runs.specs.Current.{current, next_of, beside}
use Rattle.law_serial_runs.specs.Frames.{Entry, at_root, by_call, by_spawn, Frame, frames, with_block, without_first, IsInFrame, AreFrames}
use Rattle.law_serial_runs.proofs.Frames.{frames_law}
use Rattle.law_serial_runs.proofs.Runs.{no_child_left}
use Rattle.law_serial_runs.proofs.Steps.{runs_of, current_law}
use Rattle.serial_judge.specs.declared.scope.Scope.{Scope}
use Rattle.serial_judge.specs.declared.scope.Spawn.{Spawn}
use Rattle.serial_judge.specs.declared.spans.Span.{Span}
use Rattle.serial_judge.specs.declared.records.Record.{Record}
use Rattle.serial_judge.specs.declared.reads.Reads.{Reads}
use Rattle.serial_judge.specs.Branches.{number_of}
use Rattle.serial_judge.specs.Numbers.{numbered}
use Rattle.serial_judge.specs.Runs.{Run, and_then}
use Rattle.serial_judge.specs.Scopes.{Sight, IsSpawned, IsEntered, IsOpen, IsBlock, AreScopes, AreNested, running_branch}
use Rattle.serial_judge.specs.Spans.{is_held, IsAscending, IsAdded}
use Rattle.serial_judge.specs.Follows.{sight_of, IsRecordOf, Follows}
use Rattle.serial_judge.specs.Control.{FollowsCall}
use Rattle.serial_judge.proofs.Ascending.{ascending-take, ascending-wider}
use Rattle.serial_judge.proofs.Kept.{numbered-within}
use Rattle.serial_judge.proofs.Recorded.{zip-length, slice-some}

and-true : (b : Bool) → (b && true) ≡ b
and-true true = refl
and-true false = refl

pub take-shorter : {X : Type 0} (n m : ℕ) (xs : List X) → n ≤ m → take n (take m xs) ≡ take n xs
take-shorter zero zero xs h = refl
take-shorter zero (suc m) [] h = refl
take-shorter zero (suc m) (x ∷ xs) h = refl
take-shorter (suc n) zero xs h = absurd (omega arith)
take-shorter (suc n) (suc m) [] h = refl
take-shorter (suc n) (suc m) (x ∷ xs) h = ap (λ z. x ∷ z) (take-shorter n m xs (omega arith))

-- Where the spans change, and the first ones stay as they were at the entries of the functions.
module _ (sight : Sight) (old new : List Span) (fixed : ℕ) (as_before : (count : ℕ) → count ≤ fixed → take count new ≡ take count old) where
  block-over : (scope : Scope) (own join : Option ℕ) → scope.spans ≤ fixed → IsBlock sight old scope own join → IsBlock sight new scope own join
  block-over scope None None le b = tt
  block-over scope None (Some j) le b = absurd b
  block-over scope (Some k) None le b = absurd b
  block-over scope (Some k) (Some j) le b = record {
    below = b.below;
    parallel = λ n a e. b.parallel n a e ∙ ap (λ z. is_held z n) (sym (as_before scope.spans le));
    branch = b.branch;
  }

  entry-over : (scope : Scope) (spawn : Option Spawn) (entry : Entry) (outer : List Scope) → scope.spans ≤ fixed →
      IsEntered sight old scope spawn entry outer → IsEntered sight new scope spawn entry outer
  entry-over scope None at_root outer le b = b
  entry-over scope None by_call outer le b = b
  entry-over scope None (by_spawn n) outer le b = absurd b
  entry-over scope (Some k) at_root outer le b = absurd b
  entry-over scope (Some k) by_call outer le b = absurd b
  entry-over scope (Some k) (by_spawn n) outer le b = record {
    below = b.below;
    parallel = λ m a e. b.parallel m a e ∙ ap (λ z. is_held z m || leb k.begin m) (sym (as_before scope.spans le));
    ascending = subst (λ z. IsAscending 1 z k.begin) (sym (as_before scope.spans le)) b.ascending;
    begin = b.begin;
    branch = b.branch;
  }

  pub scopes-over : (count : ℕ) (scopes : List Scope) (all : List Frame) → count ≤ fixed → AreNested count scopes → AreScopes sight old scopes all →
      AreScopes sight new scopes all
  scopes-over count [] [] le k s = tt
  scopes-over count [] (frame ∷ all) le k s = absurd s
  scopes-over count (scope ∷ scopes) [] le k s = absurd s
  scopes-over count (scope ∷ scopes) (frame ∷ all) le k s =
      let here : scope.spans ≤ fixed = omega (arith, k.0) in (
        block-over scope scope.block frame.block here s.0,
        entry-over scope scope.spawn frame.entry scopes here s.1,
        scopes-over scope.spans scopes all here k.2 s.2,
      )

-- What is known of the innermost function.

-- without an open block the judge's scope is that of a function without one
none_open : (sight : Sight) (spans : List Span) (scope : Scope) (own join : Option ℕ) → own ≡ None → IsBlock sight spans scope own join → join ≡ None
none_open sight spans scope None None e b = refl
none_open sight spans scope None (Some j) e b = absurd b
none_open sight spans scope (Some k) join e b = absurd (none-some k (sym e))

-- and with one it is that of a function with one
some_open : (sight : Sight) (spans : List Span) (scope : Scope) (own join : Option ℕ) (number : ℕ) → own ≡ Some number → IsBlock sight spans scope own join →
    (its_join : ℕ) × (join ≡ Some its_join) × IsOpen sight spans scope its_join
some_open sight spans scope None join number e b = absurd (none-some number e)
some_open sight spans scope (Some k) None number e b = absurd b
some_open sight spans scope (Some k) (Some j) number e b = (j, refl, b)

synced : (history : History) (entry : Entry) (here : Stack) → IsInFrame history entry None here → IsSynced here
synced h at_root here i = subst IsSynced (sym i) tt
synced h by_call here (m, below, e) = subst IsSynced (sym e) tt
synced h (by_spawn n) here (m, j, e, k) = subst IsSynced (sym e) tt

-- the innermost function, without an open block
pub record IsInnermost (run : Run) (spans : List Span) (top : Scope) (outer : List Scope) : Type 0 where
  pub entry : Entry
  pub others : List Frame
  pub are : frames run.history ≡ record { entry = entry; block = None } ∷ others
  pub here : IsInFrame run.history entry None (stack run.history (current run.history))
  pub entered : IsEntered (sight_of run) spans top top.spawn entry outer
  pub left : AreScopes (sight_of run) spans outer others

-- with an open block
pub record IsInnermostOpen (run : Run) (spans : List Span) (top : Scope) (outer : List Scope) : Type 0 where
  pub entry : Entry
  pub join : ℕ
  pub others : List Frame
  pub are : frames run.history ≡ record { entry = entry; block = Some join } ∷ others
  pub below : Stack
  pub here : stack run.history (current run.history) ≡ block join below
  pub opened : IsOpen (sight_of run) spans top join
  pub entered : IsEntered (sight_of run) spans top top.spawn entry outer
  pub left : AreScopes (sight_of run) spans outer others

innermost_of : (run : Run) (spans : List Span) (top : Scope) (outer : List Scope) (frame : Frame) (others : List Frame) → top.block ≡ None →
    AreFrames run.history frame others → AreScopes (sight_of run) spans (top ∷ outer) (frame ∷ others) → IsInnermost run spans top outer
innermost_of run spans top outer frame others closed w s =
    let is : frame.block ≡ None = none_open (sight_of run) spans top top.block frame.block closed s.0 in
    record {
      entry = frame.entry;
      others = others;
      are = w.are ∙ ap (λ z. record { entry = frame.entry; block = z } ∷ others) is;
      here = subst (λ z. IsInFrame run.history frame.entry z (stack run.history (current run.history))) is w.innermost;
      entered = s.1;
      left = s.2;
    }

innermost_open_of : (run : Run) (spans : List Span) (top : Scope) (outer : List Scope) (frame : Frame) (others : List Frame) (number : ℕ) →
    top.block ≡ Some number → AreFrames run.history frame others → AreScopes (sight_of run) spans (top ∷ outer) (frame ∷ others) →
    IsInnermostOpen run spans top outer
innermost_open_of run spans top outer frame others number opened w s =
    let t = some_open (sight_of run) spans top top.block frame.block number opened s.0 in
    let here = subst (λ z. IsInFrame run.history frame.entry z (stack run.history (current run.history))) t.1 w.innermost in
    record {
      entry = frame.entry;
      join = t.0;
      others = others;
      are = w.are ∙ ap (λ z. record { entry = frame.entry; block = z } ∷ others) t.1;
      below = here.0;
      here = here.1;
      opened = t.2;
      entered = s.1;
      left = s.2;
    }

-- a function that was called, and that has returned
called_entry : (run : Run) (spans : List Span) (top : Scope) (spawn : Option Spawn) (around : Scope) (outer : List Scope) (entry : Entry) → spawn ≡ None →
    IsEntered (sight_of run) spans top spawn entry (around ∷ outer) →
    (entry ≡ by_call) × (top.branch ≡ running_branch around.block around.branch)
called_entry run spans top None around outer at_root e b = cc
called_entry run spans top None around outer by_call e b = (refl, b)
called_entry run spans top None around outer (by_spawn n) e b = absurd b
called_entry run spans top (Some k) around outer entry e b = absurd (none-some k (sym e))

-- one that was spawned
spawned_entry : (run : Run) (spans : List Span) (top : Scope) (own : Option Spawn) (spawn : Spawn) (outer : List Scope) (entry : Entry) → own ≡ Some spawn →
    IsEntered (sight_of run) spans top own entry outer →
    (next : ℕ) × (entry ≡ by_spawn next) × IsSpawned (sight_of run) spans top spawn next outer
spawned_entry run spans top None spawn outer entry e b = absurd (none-some spawn e)
spawned_entry run spans top (Some k) spawn outer at_root e b = absurd b
spawned_entry run spans top (Some k) spawn outer by_call e b = absurd b
spawned_entry run spans top (Some k) spawn outer (by_spawn n) e b =
    (n, refl, subst (λ z. IsSpawned (sight_of run) spans top z n outer) (same_Some k spawn e) b)

-- A judge's scopes, and what is left where the innermost goes.
module _ (run : Run) (spans : List Span) (records : List Record) (first events : ℕ) (reads : List Reads) (top : Scope) (outer : List Scope)
    (f : Follows (record { scopes = top ∷ outer; spans = spans; records = records; first = first; events = events; reads = reads }) run) where
  runs : Running run.history (current run.history)
  runs = current_law run.history f.legal f.serial f.unfinished

  pub follows_call : FollowsCall (record {
    scopes = record { spawn = None; spans = length spans; branch = running_branch top.block top.branch; block = None } ∷ (top ∷ outer);
    spans = spans;
    records = records;
    first = first;
    events = events + 1;
    reads = reads;
  }) run
  follows_call = record {
    legal = then f.legal (function_call runs);
    serial = (refl, f.serial);
    unfinished = λ k. k;
    events = omega (arith, f.events);
    recorded = f.recorded;
    has_run = λ n a e. inr (f.has_run n a e);
    own = f.own;
    first = f.first;
    parallel = f.parallel;
    ascending = f.ascending;
    scopes = (tt, refl, f.scopes);
    nested = (omega arith, (λ e. refl), f.nested);
    branch_is = f.branch_is;
    readers = λ r c. inr (f.readers r c);
    reads = f.reads;
  }

  module _ (closed : top.block ≡ None) where
    all_spans : top.spans ≡ length spans
    all_spans = f.nested.1 closed

    pub innermost : IsInnermost run spans top outer
    innermost =
        let t = frames_law run.history f.legal f.serial f.unfinished in
        innermost_of run spans top outer t.0 t.1 closed t.2
        (subst (AreScopes (sight_of run) spans (top ∷ outer)) t.2.are f.scopes)

    pub is_synced : IsSynced (stack run.history (current run.history))
    is_synced = synced run.history innermost.entry (stack run.history (current run.history)) innermost.here

    pub follows_same : Follows (record { scopes = top ∷ outer; spans = spans; records = records; first = first; events = events + 1; reads = reads })
        (and_then (same (current run.history)) run)
    follows_same = record {
      legal = then f.legal (sync_same runs is_synced);
      serial = (refl, f.serial);
      unfinished = λ k. k;
      events = omega (arith, f.events);
      recorded = f.recorded;
      has_run = λ n a e. inr (f.has_run n a e);
      own = f.own;
      first = f.first;
      parallel = f.parallel;
      ascending = f.ascending;
      scopes = f.scopes;
      nested = f.nested;
      branch_is = f.branch_is;
      readers = λ r c. inr (f.readers r c);
      reads = f.reads;
    }

  module _ (number : ℕ) (opened : top.block ≡ Some number) where
    pub innermost_open : IsInnermostOpen run spans top outer
    innermost_open =
        let t = frames_law run.history f.legal f.serial f.unfinished in
        innermost_open_of run spans top outer t.0 t.1 number opened t.2
        (subst (AreScopes (sight_of run) spans (top ∷ outer)) t.2.are f.scopes)

    pub not_synced : IsSynced (stack run.history (current run.history)) → ⊥
    not_synced k = subst IsSynced innermost_open.here k

    cut_spans : List Span
    cut_spans = take top.spans spans

    pub follows_joined : (join : ℕ) × Follows (record {
      scopes = record { spawn = top.spawn; spans = top.spans; branch = top.branch; block = None } ∷ outer;
      spans = take top.spans spans;
      records = records;
      first = length records + 1;
      events = events + 1;
      reads = reads;
    }) (and_then (joined (current run.history) join) run)
    follows_joined = (
      t.join,
      record {
        legal = then f.legal (sync_joined runs t.here (λ m o. no_child_left f.legal (runs_of f.legal f.serial f.unfinished) t.join t.below t.here m o));
        serial = (refl, f.serial);
        unfinished = λ k. k;
        events = omega (arith, f.events);
        recorded = f.recorded;
        has_run = λ n a e. inr (f.has_run n a e);
        own = λ n a e le. absurd (too_high n a e le);
        first = (omega arith, omega (arith, len));
        parallel = t.opened.parallel;
        ascending = ascending-take 1 spans (suc (length run.records)) top.spans f.ascending;
        scopes = subst (λ z. AreScopes (sight_of run) (take top.spans spans) (record { spawn = top.spawn; spans = top.spans; branch = top.branch; block = None } ∷ outer) (with_block None z)) (sym t.are)
            (tt, entry_again top.spawn t.entry t.entered, scopes-over (sight_of run) spans (take top.spans spans) top.spans cut top.spans outer t.others (omega arith) f.nested.2 t.left);
        nested = (omega (arith, cut_length), (λ e. sym cut_length), f.nested.2);
        branch_is = t.opened.branch;
        readers = λ r c. inr (f.readers r c);
        reads = f.reads;
      },
    )
      where
        t : IsInnermostOpen run spans top outer
        t = innermost_open

        len : length records ≡ length run.records
        len = zip-length IsRecordOf records run.records f.recorded

        too_high : (n : ℕ) (a : Access) → numbered run.records n ≡ Some a → length records + 1 ≤ n → ⊥
        too_high n a e le = omega (arith, (numbered-within run.records n a e).1, len)

        cut : (count : ℕ) → count ≤ top.spans → take count (take top.spans spans) ≡ take count spans
        cut count le = take-shorter count top.spans spans le

        cut_length : length (take top.spans spans) ≡ top.spans
        cut_length = length-take-le top.spans spans f.nested.0

        entry_again : (spawn : Option Spawn) (entry : Entry) → IsEntered (sight_of run) spans top spawn entry outer →
            IsEntered (sight_of run) (take top.spans spans) (record { spawn = top.spawn; spans = top.spans; branch = top.branch; block = None }) spawn entry outer
        entry_again None at_root b = b
        entry_again None by_call b = b
        entry_again None (by_spawn n) b = absurd b
        entry_again (Some k) at_root b = absurd b
        entry_again (Some k) by_call b = absurd b
        entry_again (Some k) (by_spawn n) b = record {
          below = b.below;
          parallel = λ m a e. b.parallel m a e ∙ ap (λ z. is_held z m || leb k.begin m) (sym (cut top.spans (omega arith)));
          ascending = subst (λ z. IsAscending 1 z k.begin) (sym (cut top.spans (omega arith))) b.ascending;
          begin = b.begin;
          branch = b.branch;
        }

-- The innermost function returns to one round it.
module _ (run : Run) (spans : List Span) (records : List Record) (first events : ℕ) (reads : List Reads) (top around : Scope) (outer : List Scope)
    (f : Follows (record { scopes = top ∷ (around ∷ outer); spans = spans; records = records; first = first; events = events; reads = reads }) run)
    (closed : top.block ≡ None) where
  inner : IsInnermost run spans top (around ∷ outer)
  inner = innermost run spans records first events reads top (around ∷ outer) f closed

  as_many : top.spans ≡ length spans
  as_many = f.nested.1 closed

  pub not_root : stack run.history (current run.history) ≡ root → ⊥
  not_root e = go inner.entry top.spawn (subst (IsInFrame run.history inner.entry None) e inner.here) inner.entered
    where
      go : (entry : Entry) (spawn : Option Spawn) → IsInFrame run.history entry None root → IsEntered (sight_of run) spans top spawn entry (around ∷ outer) → ⊥
      go at_root None i b = cc
      go at_root (Some k) i b = b
      go by_call spawn i b = cc (i.2)
      go (by_spawn n) spawn i b = cc (i.2)

  module _ (by_a_call : top.spawn ≡ None) where
    pub follows_resumed : Follows (record { scopes = around ∷ outer; spans = spans; records = records; first = first; events = events + 1; reads = reads })
        (and_then (resumed (current run.history)) run)
    follows_resumed = record {
      legal = then f.legal (called_return (current_law run.history f.legal f.serial f.unfinished) here.2);
      serial = (refl, f.serial);
      unfinished = λ k. k;
      events = omega (arith, f.events);
      recorded = f.recorded;
      has_run = λ n a e. inr (f.has_run n a e);
      own = f.own;
      first = f.first;
      parallel = f.parallel;
      ascending = f.ascending;
      scopes = subst (λ z. AreScopes (sight_of run) spans (around ∷ outer) (without_first z)) (sym inner.are) inner.left;
      nested = subst (λ z. AreNested z (around ∷ outer)) as_many f.nested.2;
      branch_is = sym entry.1 ∙ (ap (λ z. running_branch z top.branch) (sym closed) ∙ f.branch_is);
      readers = λ r c. inr (f.readers r c);
      reads = f.reads;
    }
      where
        entry : (inner.entry ≡ by_call) × (top.branch ≡ running_branch around.block around.branch)
        entry = called_entry run spans top top.spawn around outer inner.entry by_a_call inner.entered

        here : (number : ℕ) × (below : Stack) × (stack run.history (current run.history) ≡ called number below)
        here = subst (λ z. IsInFrame run.history z None (stack run.history (current run.history))) entry.0 inner.here

  module _ (spawn : Spawn) (by_a_spawn : top.spawn ≡ Some spawn) where
    entered : (next : ℕ) × (inner.entry ≡ by_spawn next) × IsSpawned (sight_of run) spans top spawn next (around ∷ outer)
    entered = spawned_entry run spans top top.spawn spawn (around ∷ outer) inner.entry by_a_spawn inner.entered

    whole : take top.spans spans ≡ spans
    whole = take_all top.spans spans (omega (arith, as_many))

    pub add_ascending : IsAscending 1 spans spawn.begin
    add_ascending = subst (λ z. IsAscending 1 z spawn.begin) whole entered.2.ascending

    same_length : length records ≡ length run.records
    same_length = zip-length IsRecordOf records run.records f.recorded

    pub add_order : spawn.begin ≤ length records + 1
    add_order = omega (arith, entered.2.begin, same_length)

    pub add_fixed : around.spans ≤ length spans
    add_fixed = omega (arith, f.nested.2.0, as_many)

    module _ (new : List Span) (site : ℕ)
        (added : IsAdded spans new around.spans (record { begin = spawn.begin; end = length records + 1; site = site })) where
      pub follows_ended : Follows (record {
        scopes = around ∷ outer;
        spans = new;
        records = records;
        first = length records + 1;
        events = events + 1;
        reads = reads;
      }) (and_then (ended (current run.history)) run)
      follows_ended = record {
        legal = then f.legal (child_return (current_law run.history f.legal f.serial f.unfinished) here.2
            (λ last. (runs_of f.legal f.serial f.unfinished).direct here.1 last.0));
        serial = (refl, f.serial);
        unfinished = λ k. k;
        events = omega (arith, f.events);
        recorded = f.recorded;
        has_run = λ n a e. inr (f.has_run n a e);
        own = λ n a e le. absurd (too_high n a e le);
        first = (omega arith, omega (arith, same_length));
        parallel = λ n a e. ap (λ z. parallel (address run.history a.strand) (address run.history z)) goes_on ∙
            (entered.2.parallel n a e ∙ (ap (λ z. is_held z n || leb spawn.begin n) whole ∙ (new_numbers n a e ∙ sym (added.held n))));
        ascending = ascending-wider 1 new (length records + 1) (suc (length run.records)) added.ascending (omega (arith, same_length));
        scopes = subst (λ z. AreScopes (sight_of run) new (around ∷ outer) (without_first z)) (sym inner.are)
            (scopes-over (sight_of run) spans new around.spans added.as_before around.spans (around ∷ outer) inner.others (omega arith)
            (omega arith, (λ e. refl), f.nested.2.2) inner.left);
        nested = (added.no_fewer, (λ e. absurd (open_around e)), f.nested.2.2);
        branch_is = entered.2.branch.1 ∙ ap (λ z. number_of (branch run.history z)) (sym goes_on);
        readers = λ r c. inr (f.readers r c);
        reads = f.reads;
      }
        where
          here : (number join : ℕ) × (stack run.history (current run.history) ≡ spawned number join) × (next_of run.history number ≡ entered.0)
          here = subst (λ z. IsInFrame run.history z None (stack run.history (current run.history))) entered.1 inner.here

          goes_on : current (ended (current run.history) ∷ run.history) ≡ entered.0
          goes_on = ap (beside run.history) here.2 ∙ here.3

          too_high : (n : ℕ) (a : Access) → numbered run.records n ≡ Some a → length records + 1 ≤ n → ⊥
          too_high n a e le = omega (arith, (numbered-within run.records n a e).1, same_length)

          new_numbers : (n : ℕ) (a : Access) → numbered run.records n ≡ Some a →
              (is_held spans n || leb spawn.begin n) ≡ (is_held spans n || (leb spawn.begin n && ltb n (length records + 1)))
          new_numbers n a e =
              let within : n ≤ length run.records = (numbered-within run.records n a e).1 in
              let below : ltb n (length records + 1) ≡ true = lt-ltb n (length records + 1) (omega (arith, same_length)) in
              ap (λ z. is_held spans n || z) (sym (ap (λ z. leb spawn.begin n && z) below ∙ and-true (leb spawn.begin n)))

          open_around : around.block ≡ None → ⊥
          open_around e = false≢true (ap is_some (sym e) ∙ entered.2.branch.0)

pub reverse-push : {X : Type 0} (xs : List X) (x : X) → reverse (xs ++ x ∷ []) ≡ x ∷ reverse xs
reverse-push xs x = reverse-append xs (x ∷ [])

-- the root function has none round it
pub alone_at_root : (run : Run) (spans : List Span) (top : Scope) → IsInnermost run spans top [] → stack run.history (current run.history) ≡ root
alone_at_root run spans top t = go t.entry top.spawn t.here t.entered
  where
    go : (entry : Entry) (spawn : Option Spawn) → IsInFrame run.history entry None (stack run.history (current run.history)) →
        IsEntered (sight_of run) spans top spawn entry [] → stack run.history (current run.history) ≡ root
    go at_root None i b = i
    go at_root (Some k) i b = absurd b
    go by_call None i b = absurd b
    go by_call (Some k) i b = absurd b
    go (by_spawn n) None i b = absurd b
    go (by_spawn n) (Some k) i b = absurd b.branch

split_last : {X : Type 0} (xs : List X) (at : ℕ) (x : X) → suc at ≡ length xs → slice_get xs at ≡ Some x → xs ≡ take at xs ++ x ∷ []
split_last [] at x e g = absurd (none-some x g)
split_last (y ∷ []) zero x e g = ap (λ z. z ∷ []) (same_Some y x g)
split_last (y ∷ []) (suc at) x e g = absurd (none-some x g)
split_last (y ∷ z ∷ xs) zero x e g = absurd (omega arith)
split_last (y ∷ z ∷ xs) (suc at) x e g = ap (λ v. y ∷ v) (split_last (z ∷ xs) at x (omega arith) g)

-- the last of a list is the first of its reverse
pub reverse-pop : {X : Type 0} (items rest : List X) (x : X) → Some x ≡ slice_get items (length items - 1) → rest ≡ take (length items - 1) items →
    reverse items ≡ x ∷ reverse rest
reverse-pop items rest x g e =
    let k : length items - 1 < length items = slice_get_within items (length items - 1) x (sym g) in
    let whole : items ≡ take (length items - 1) items ++ x ∷ [] = split_last items (length items - 1) x (omega arith) (sym g) in
    ap reverse (whole ∙ ap (λ z. z ++ x ∷ []) (sym e)) ∙ reverse-push rest x

pub reverse-none : {X : Type 0} (items : List X) → None ≡ slice_get items (length items - 1) → reverse items ≡ []
reverse-none [] e = refl
reverse-none (x ∷ xs) e = absurd (slice-some (x ∷ xs) (length (x ∷ xs) - 1) (omega arith) (sym e))

pub reverse-popped : {X : Type 0} (items view rest : List X) (x : X) (n : ℕ) → Some x ≡ slice_get view (length view - 1) → view ≡ items → length view ≡ n →
    rest ≡ take (n - 1) items → reverse items ≡ x ∷ reverse rest
reverse-popped items view rest x n g e l t =
    reverse-pop items rest x (g ∙ ap (λ z. slice_get z (length z - 1)) e) (t ∙ ap (λ z. take (z - 1) items) (sym l ∙ ap length e))

-- the functions round the innermost one, as they are
pub turned : (run : Run) (spans : List Span) (records : List Record) (first events : ℕ) (reads : List Reads) (top : Scope) (old new : List Scope) → old ≡ new →
    Follows (record { scopes = top ∷ old; spans = spans; records = records; first = first; events = events; reads = reads }) run →
    Follows (record { scopes = top ∷ new; spans = spans; records = records; first = first; events = events; reads = reads }) run
turned run spans records first events reads top old new e f =
    subst (λ (z : List Scope). Follows (record { scopes = top ∷ z; spans = spans; records = records; first = first; events = events; reads = reads }) run) e f
