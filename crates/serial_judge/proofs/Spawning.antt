-- A judge that is told of a spawn.
use Rattle.std.proofs.Common.{◌≡◌, inr, ℕ, suc, ◌+◌, ◌*◌, ◌<◌, ◌≤◌, Bool, true, false, ◌||◌, leb, List, [], ◌∷◌, length, take, Option, Some, None, IsSome, Contains, refl, sym, ap, ap₂, ◌∙◌, subst, arith}
use Rattle.std.proofs.lemmas.Bool.{false≢true}
use Rattle.std.proofs.lemmas.Option.{none-some}
use Rattle.std.proofs.lemmas.Bool.Decides.{nat_tests}
use Rattle.std.proofs.lemmas.List.{take_all}
use Rattle.model_strands.specs.Address.{Address}
use Rattle.model_strands.specs.Strands.{Running, Begun, unused}
use Rattle.model_strands.specs.Addresses.{address}
use Rattle.model_strands.specs.History.{History, split}
use Rattle.model_strands.specs.Legal.{Legal, then, open_split, next_split}
use Rattle.law_addresses.specs.Address.{parallel}
use Rattle.law_strands.specs.Branches.{Branch, branch, left, right}
use Rattle.law_strands.proofs.Updates.{updated_at, updated_off}
use Rattle.law_strands.proofs.Range.{ranges}
use Rattle.law_strands.proofs.Law.{begun_below}
use Rattle.law_strands.proofs.Kept.{address_stays}
use Rattle.model_serial_runs.specs.Accesses.{Access}
use Rattle.model_serial_runs.specs.ReducerReads.{ReducerRead}
use Rattle.model_serial_runs.specs.Current.{current}
use Rattle.law_serial_runs.specs.Turns.{HasRun}
use Rattle.law_serial_runs.specs.Frames.{Entry, at_root, by_call, by_spawn, Frame, frames, with_block}
use Rattle.law_serial_runs.proofs.Blocks.{spawn_law}
use Rattle.law_serial_runs.proofs.Earlier.{behind}
use Rattle.law_serial_runs.proofs.Steps.{current_law}
use Rattle.serial_judge.specs.declared.scope.Scope.{Scope}
use Rattle.serial_judge.specs.declared.scope.Spawn.{Spawn}
use Rattle.serial_judge.specs.declared.spans.Span.{Span}
use Rattle.serial_judge.specs.declared.records.Record.{Record}
use Rattle.serial_judge.specs.declared.reads.Reads.{Reads}
use Rattle.serial_judge.specs.declared.reads.Reads.TheVariants as reads
use Rattle.serial_judge.specs.declared.reads.Read.{Read}
use Rattle.serial_judge.specs.Branches.{number_of}
use Rattle.serial_judge.specs.Numbers.{numbered}
use Rattle.serial_judge.specs.Reads.{reads_at, IsKeptRead, AreKeptReads}
use Rattle.serial_judge.specs.Runs.{Run}
use Rattle.serial_judge.specs.Scopes.{Sight, AreParallel, IsSpawned, IsEntered, IsOpen, IsBlock, AreScopes, running_branch, OfOuter}
use Rattle.serial_judge.specs.Spans.{is_held, IsAscending}
use Rattle.serial_judge.specs.Control.{with_spawn, FollowsSpawn}
use Rattle.serial_judge.specs.Follows.{sight_of, IsRecordOf, Follows, FollowsSome}
use Rattle.serial_judge.proofs.Ascending.{or-false, ascending-wider}
use Rattle.serial_judge.proofs.Kept.{numbered-within}
use Rattle.serial_judge.proofs.Recorded.{zip-length}
use Rattle.serial_judge.proofs.Events.{IsInnermost, IsInnermostOpen, innermost, innermost_open, is_synced}

-- Where the addresses and the branches of earlier strands stay.
module _ (at at' : ℕ → Address) (on on' : ℕ → Branch) (low high : ℕ) (records : List Access) (wider : low ≤ high)
    (same_address : (x : ℕ) → x < low → at' x ≡ at x) (same_branch : (x : ℕ) → x < low → on' x ≡ on x)
    (below : (number : ℕ) (access : Access) → numbered records number ≡ Some access → access.strand < low) where
  pub parallel-stays : (strand : ℕ) (test : ℕ → Bool) → strand < low →
      AreParallel (record { address = at; branch = on; unused = low; records = records }) strand test →
      AreParallel (record { address = at'; branch = on'; unused = high; records = records }) strand test
  parallel-stays x test lt p n a e = ap₂ parallel (same_address a.strand (below n a e)) (same_address x lt) ∙ p n a e

  outer-stays : (next : ℕ) → next < low → (outer : List Scope) → OfOuter outer (λ around. IsSome around.block × (running_branch around.block around.branch ≡ number_of (on next))) →
      OfOuter outer (λ around. IsSome around.block × (running_branch around.block around.branch ≡ number_of (on' next)))
  outer-stays n lt [] b = b
  outer-stays n lt (around ∷ outer) b = (b.0, b.1 ∙ ap number_of (sym (same_branch n lt)))

  pub open-stays : (spans : List Span) (scope : Scope) (join : ℕ) → IsOpen (record { address = at; branch = on; unused = low; records = records }) spans scope join →
      IsOpen (record { address = at'; branch = on'; unused = high; records = records }) spans scope join
  open-stays spans scope j b = record {
    below = omega (arith, b.below);
    parallel = parallel-stays j (is_held (take scope.spans spans)) b.below b.parallel;
    branch = b.branch ∙ ap number_of (sym (same_branch j b.below));
  }

  block-stays : (spans : List Span) (scope : Scope) (own join : Option ℕ) →
      IsBlock (record { address = at; branch = on; unused = low; records = records }) spans scope own join →
      IsBlock (record { address = at'; branch = on'; unused = high; records = records }) spans scope own join
  block-stays spans scope None None b = tt
  block-stays spans scope None (Some j) b = absurd b
  block-stays spans scope (Some k) None b = absurd b
  block-stays spans scope (Some k) (Some j) b = open-stays spans scope j b

  pub entry-stays : (spans : List Span) (scope : Scope) (spawn : Option Spawn) (entry : Entry) (outer : List Scope) →
      IsEntered (record { address = at; branch = on; unused = low; records = records }) spans scope spawn entry outer →
      IsEntered (record { address = at'; branch = on'; unused = high; records = records }) spans scope spawn entry outer
  entry-stays spans scope None at_root outer b = b
  entry-stays spans scope None by_call outer b = b
  entry-stays spans scope None (by_spawn n) outer b = absurd b
  entry-stays spans scope (Some k) at_root outer b = absurd b
  entry-stays spans scope (Some k) by_call outer b = absurd b
  entry-stays spans scope (Some k) (by_spawn n) outer b = record {
    below = omega (arith, b.below);
    parallel = parallel-stays n (λ z. is_held (take scope.spans spans) z || leb k.begin z) b.below b.parallel;
    ascending = b.ascending;
    begin = b.begin;
    branch = outer-stays n b.below outer b.branch;
  }

  pub scopes-stay : (spans : List Span) (scopes : List Scope) (all : List Frame) →
      AreScopes (record { address = at; branch = on; unused = low; records = records }) spans scopes all →
      AreScopes (record { address = at'; branch = on'; unused = high; records = records }) spans scopes all
  scopes-stay spans [] [] s = tt
  scopes-stay spans [] (frame ∷ all) s = absurd s
  scopes-stay spans (scope ∷ scopes) [] s = absurd s
  scopes-stay spans (scope ∷ scopes) (frame ∷ all) s =
      (block-stays spans scope scope.block frame.block s.0, entry-stays spans scope scope.spawn frame.entry scopes s.1, scopes-stay spans scopes all s.2)

-- a scope with another block
abbrev pub reblocked : Scope → Option ℕ → Scope
reblocked scope own = record { spawn = scope.spawn; spans = scope.spans; branch = scope.branch; block = own }

entry-reblocked : (sight : Sight) (spans : List Span) (scope : Scope) (own : Option ℕ) (spawn : Option Spawn) (entry : Entry) (outer : List Scope) →
    IsEntered sight spans scope spawn entry outer → IsEntered sight spans (reblocked scope own) spawn entry outer
entry-reblocked sight spans scope own None at_root outer b = b
entry-reblocked sight spans scope own None by_call outer b = b
entry-reblocked sight spans scope own None (by_spawn n) outer b = absurd b
entry-reblocked sight spans scope own (Some k) at_root outer b = absurd b
entry-reblocked sight spans scope own (Some k) by_call outer b = absurd b
entry-reblocked sight spans scope own (Some k) (by_spawn n) outer b =
    record { below = b.below; parallel = b.parallel; ascending = b.ascending; begin = b.begin; branch = b.branch }

open-reblocked : (sight : Sight) (spans : List Span) (scope : Scope) (own : Option ℕ) (join : ℕ) → IsOpen sight spans scope join →
    IsOpen sight spans (reblocked scope own) join
open-reblocked sight spans scope own j b = record { below = b.below; parallel = b.parallel; branch = b.branch }

-- the reads of reducers
module _ (on on' : ℕ → Branch) (all : List ReducerRead) (same : (read : ReducerRead) → Contains all read → on' read.strand ≡ on read.strand) where
  kept-stays : (reducer : ℕ) (kept : Read) → IsKeptRead on all reducer kept → IsKeptRead on' all reducer kept
  kept-stays r kept k = record {
    read = k.read;
    listed = k.listed;
    reducer_is = k.reducer_is;
    site_is = k.site_is;
    branch_is = ap number_of (same k.read k.listed) ∙ k.branch_is;
  }

  pub reads-stay : (reducer : ℕ) (kept : Reads) → AreKeptReads on all reducer kept → AreKeptReads on' all reducer kept
  reads-stay r reads.None k = k
  reads-stay r (reads.OneBranch first) k =
      (kept-stays r first k.0, (λ read c is. ap number_of (same read c) ∙ k.1 read c is))
  reads-stay r (reads.TwoBranches first second) k = (kept-stays r first k.0, kept-stays r second k.1, k.2)

-- the branches that a spawn begins
pub record NewBranches (history : History) (strand the_child the_next the_join : ℕ) (first : Bool) : Type 0 where
  pub at_child : branch (split strand the_child the_next the_join first ∷ history) the_child ≡ left (suc (length history))
  pub at_next : branch (split strand the_child the_next the_join first ∷ history) the_next ≡ right (suc (length history))
  pub at_join : first ≡ true → branch (split strand the_child the_next the_join first ∷ history) the_join ≡ branch history strand
  pub before : (one : ℕ) → one < unused history → branch (split strand the_child the_next the_join first ∷ history) one ≡ branch history one

new_branches_first : (history : History) (strand : ℕ) → NewBranches history strand (unused history) (1 + unused history) (2 + unused history) true
new_branches_first h s = record {
  at_child = updated_off _ (2 + unused h) _ (unused h) (λ e. omega arith) ∙
      (updated_off _ (1 + unused h) _ (unused h) (λ e. omega arith) ∙ updated_at (branch h) (unused h) (left (suc (length h))) (unused h) refl);
  at_next = updated_off _ (2 + unused h) _ (1 + unused h) (λ e. omega arith) ∙ updated_at _ (1 + unused h) (right (suc (length h))) (1 + unused h) refl;
  at_join = λ e. updated_at _ (2 + unused h) (branch h s) (2 + unused h) refl;
  before = λ x lt. updated_off _ (2 + unused h) _ x (λ e. omega arith) ∙
      (updated_off _ (1 + unused h) _ x (λ e. omega arith) ∙ updated_off (branch h) (unused h) _ x (λ e. omega arith));
}

new_branches_later : (history : History) (strand join : ℕ) → NewBranches history strand (unused history) (1 + unused history) join false
new_branches_later h s j = record {
  at_child = updated_off _ (1 + unused h) _ (unused h) (λ e. omega arith) ∙ updated_at (branch h) (unused h) (left (suc (length h))) (unused h) refl;
  at_next = updated_at _ (1 + unused h) (right (suc (length h))) (1 + unused h) refl;
  at_join = λ e. absurd (false≢true e);
  before = λ x lt. updated_off _ (1 + unused h) _ x (λ e. omega arith) ∙ updated_off (branch h) (unused h) _ x (λ e. omega arith);
}

-- What a spawn leaves of the rest.
module _ (run : Run) (spans : List Span) (records : List Record) (first events : ℕ) (reads : List Reads) (top : Scope) (outer : List Scope) (site : ℕ)
    (f : Follows (record { scopes = top ∷ outer; spans = spans; records = records; first = first; events = events; reads = reads }) run)
    (join : ℕ) (opens : Bool)
    (legal : Legal (split (current run.history) (unused run.history) (1 + unused run.history) join opens ∷ run.history))
    (branches : NewBranches run.history (current run.history) (unused run.history) (1 + unused run.history) join opens)
    (grows : 2 + unused run.history ≤ unused (split (current run.history) (unused run.history) (1 + unused run.history) join opens ∷ run.history))
  where
    after : History
    after = split (current run.history) (unused run.history) (1 + unused run.history) join opens ∷ run.history

    low : ℕ
    low = unused run.history

    begun : (strand : ℕ) → HasRun run.history strand → Begun run.history strand
    begun x k = (behind f.legal f.serial x k).0

    under : (strand : ℕ) → HasRun run.history strand → strand < unused run.history
    under x k = begun_below run.history (ranges f.legal) x (begun x k)

    len : length records ≡ length run.records
    len = zip-length IsRecordOf records run.records f.recorded

    whole : take (length spans) spans ≡ spans
    whole = take_all (length spans) spans (omega arith)

    sight : Sight
    sight = sight_of (with_spawn site join opens run)

    stays : (spans' : List Span) (scopes : List Scope) (all : List Frame) → AreScopes (sight_of run) spans' scopes all →
        AreScopes (sight_of (with_spawn site join opens run)) spans' scopes all
    stays spans' scopes all s =
        scopes-stay (address run.history) (address (split (current run.history) (unused run.history) (1 + unused run.history) join opens ∷ run.history))
        (branch run.history) (branch (split (current run.history) (unused run.history) (1 + unused run.history) join opens ∷ run.history))
        (unused run.history) (unused (split (current run.history) (unused run.history) (1 + unused run.history) join opens ∷ run.history))
        run.records (omega (arith, grows)) (λ x lt. address_stays legal x lt) (λ x lt. branches.before x lt) (λ n a e. under a.strand (f.has_run n a e))
        spans' scopes all s

    entry-after : (spawn : Option Spawn) (entry : Entry) → IsEntered (sight_of run) spans top spawn entry outer →
        IsEntered (sight_of (with_spawn site join opens run)) spans (reblocked top (Some (2 * (events + 1) + 2))) spawn entry outer
    entry-after spawn entry b =
        entry-reblocked (sight_of (with_spawn site join opens run)) spans top (Some (2 * (events + 1) + 2)) spawn entry outer
        (entry-stays (address run.history) (address (split (current run.history) (unused run.history) (1 + unused run.history) join opens ∷ run.history))
        (branch run.history) (branch (split (current run.history) (unused run.history) (1 + unused run.history) join opens ∷ run.history))
        (unused run.history) (unused (split (current run.history) (unused run.history) (1 + unused run.history) join opens ∷ run.history))
        run.records (omega (arith, grows)) (λ x lt. address_stays legal x lt) (λ x lt. branches.before x lt) (λ n a e. under a.strand (f.has_run n a e))
        spans top spawn entry outer b)

    child_scope : Scope
    child_scope = record { spawn = Some (record { begin = length records + 1; site = site }); spans = length spans; branch = 2 * (events + 1) + 1; block = None }

    -- behind the spawn is parallel what is before it, as yet
    none_yet : (n : ℕ) (a : Access) → numbered run.records n ≡ Some a →
        is_held spans n ≡ (is_held (take (length spans) spans) n || leb (length records + 1) n)
    none_yet n a e =
        let within : n ≤ length run.records = (numbered-within run.records n a e).1 in
        let above : leb (length records + 1) n ≡ false = grind (arith, nat_tests, len) in
        sym (ap (λ z. is_held (take (length spans) spans) n || z) above ∙ (or-false (is_held (take (length spans) spans) n) ∙ ap (λ z. is_held z n) whole))

    spawned_now : IsSpawned (sight_of (with_spawn site join opens run)) spans
        (record { spawn = Some (record { begin = length records + 1; site = site }); spans = length spans; branch = 2 * (events + 1) + 1; block = None })
        (record { begin = length records + 1; site = site }) (1 + unused run.history) (reblocked top (Some (2 * (events + 1) + 2)) ∷ outer)
    spawned_now = record {
      below = omega (arith, grows);
      parallel = λ n a e.
          (spawn_law run.history (current run.history) (unused run.history) (1 + unused run.history) join opens legal a.strand (begun a.strand (f.has_run n a e))).at_next ∙
          (f.parallel n a e ∙ none_yet n a e);
      ascending = subst (λ z. IsAscending 1 z (length records + 1)) (sym whole)
          (ascending-wider 1 spans (suc (length run.records)) (length records + 1) f.ascending (omega (arith, len)));
      begin = omega (arith, len);
      branch = (refl, twice ∙ ap number_of (sym branches.at_next));
    }
      where
        twice : 2 * (events + 1) + 2 ≡ 2 * suc (length run.history) + 2
        twice = omega (arith, f.events)

    -- the judge follows the run with the spawn, if its functions are these
    pub follows_split : AreScopes (sight_of (with_spawn site join opens run)) spans (reblocked top (Some (2 * (events + 1) + 2)) ∷ outer)
        (with_block (Some join) (frames run.history)) →
        Follows (record {
          scopes = record { spawn = Some (record { begin = length records + 1; site = site }); spans = length spans; branch = 2 * (events + 1) + 1; block = None } ∷
              (reblocked top (Some (2 * (events + 1) + 2)) ∷ outer);
          spans = spans;
          records = records;
          first = length records + 1;
          events = events + 1;
          reads = reads;
        }) (with_spawn site join opens run)
    follows_split scopes = record {
      legal = legal;
      serial = (refl, f.serial);
      unfinished = λ k. k;
      events = omega (arith, f.events);
      recorded = f.recorded;
      has_run = λ n a e. inr (f.has_run n a e);
      own = λ n a e le. absurd (too_high n a e le);
      first = (omega arith, omega (arith, len));
      parallel = λ n a e.
          (spawn_law run.history (current run.history) (unused run.history) (1 + unused run.history) join opens legal a.strand (begun a.strand (f.has_run n a e))).at_child ∙
          f.parallel n a e;
      ascending = f.ascending;
      scopes = (tt, spawned_now, scopes);
      nested = (omega arith, (λ e. refl), (f.nested.0, (λ e. absurd (none-some (2 * (events + 1) + 2) (sym e))), f.nested.2));
      branch_is = twice ∙ ap number_of (sym branches.at_child);
      readers = λ r c. inr (f.readers r c);
      reads = λ r. reads-stay (branch run.history) (branch (split (current run.history) (unused run.history) (1 + unused run.history) join opens ∷ run.history))
          run.reads (λ read c. branches.before read.strand (under read.strand (f.readers read c))) r (reads_at reads r) (f.reads r);
    }
      where
        too_high : (n : ℕ) (a : Access) → numbered run.records n ≡ Some a → length records + 1 ≤ n → ⊥
        too_high n a e le = omega (arith, (numbered-within run.records n a e).1, len)

        twice : 2 * (events + 1) + 1 ≡ 2 * suc (length run.history) + 1
        twice = omega (arith, f.events)

module _ (run : Run) (spans : List Span) (records : List Record) (first events : ℕ) (reads : List Reads) (top : Scope) (outer : List Scope) (site : ℕ)
    (f : Follows (record { scopes = top ∷ outer; spans = spans; records = records; first = first; events = events; reads = reads }) run) where
  runs : Running run.history (current run.history)
  runs = current_law run.history f.legal f.serial f.unfinished

  -- a spawn that opens a block
  module _ (closed : top.block ≡ None) where
    opening : Legal (split (current run.history) (unused run.history) (1 + unused run.history) (2 + unused run.history) true ∷ run.history)
    opening = then f.legal (open_split runs (is_synced run spans records first events reads top outer f closed) refl refl refl)

    pub follows_opening : Follows (record {
      scopes = record { spawn = Some (record { begin = length records + 1; site = site }); spans = length spans; branch = 2 * (events + 1) + 1; block = None } ∷
          (reblocked top (Some (2 * (events + 1) + 2)) ∷ outer);
      spans = spans;
      records = records;
      first = length records + 1;
      events = events + 1;
      reads = reads;
    }) (with_spawn site (2 + unused run.history) true run)
    follows_opening =
        follows_split run spans records first events reads top outer site f (2 + unused run.history) true opening branches (omega arith)
        (subst (λ z. AreScopes (sight_of (with_spawn site (2 + unused run.history) true run)) spans (reblocked top (Some (2 * (events + 1) + 2)) ∷ outer)
        (with_block (Some (2 + unused run.history)) z)) (sym t.are) (
          opened,
          entry-after run spans records first events reads top outer site f (2 + unused run.history) true opening branches (omega arith) top.spawn t.entry t.entered,
          stays run spans records first events reads top outer site f (2 + unused run.history) true opening branches (omega arith) spans outer t.others t.left,
        ))
      where
        t : IsInnermost run spans top outer
        t = innermost run spans records first events reads top outer f closed

        branches : NewBranches run.history (current run.history) (unused run.history) (1 + unused run.history) (2 + unused run.history) true
        branches = new_branches_first run.history (current run.history)

        all_taken : take top.spans spans ≡ spans
        all_taken = take_all top.spans spans (omega (arith, f.nested.1 closed))

        opened : IsOpen (sight_of (with_spawn site (2 + unused run.history) true run)) spans (reblocked top (Some (2 * (events + 1) + 2))) (2 + unused run.history)
        opened = record {
          below = omega arith;
          parallel = λ n a e.
              (spawn_law run.history (current run.history) (unused run.history) (1 + unused run.history) (2 + unused run.history) true opening a.strand
              (behind f.legal f.serial a.strand (f.has_run n a e)).0).at_join refl ∙
              (f.parallel n a e ∙ ap (λ z. is_held z n) (sym all_taken));
          branch = ap (λ z. running_branch z top.branch) (sym closed) ∙ (f.branch_is ∙ ap number_of (sym (branches.at_join refl)));
        }

  -- a later one
  module _ (number : ℕ) (has_block : top.block ≡ Some number) where
    inner : IsInnermostOpen run spans top outer
    inner = innermost_open run spans records first events reads top outer f number has_block

    spawning : Legal (split (current run.history) (unused run.history) (1 + unused run.history) inner.join false ∷ run.history)
    spawning = then f.legal (next_split runs inner.here refl refl)

    pub follows_spawning : (join : ℕ) × Follows (record {
      scopes = record { spawn = Some (record { begin = length records + 1; site = site }); spans = length spans; branch = 2 * (events + 1) + 1; block = None } ∷
          (reblocked top (Some (2 * (events + 1) + 2)) ∷ outer);
      spans = spans;
      records = records;
      first = length records + 1;
      events = events + 1;
      reads = reads;
    }) (with_spawn site join false run)
    follows_spawning = (
      inner.join,
      follows_split run spans records first events reads top outer site f inner.join false spawning branches (omega arith)
          (subst (λ z. AreScopes (sight_of (with_spawn site inner.join false run)) spans (reblocked top (Some (2 * (events + 1) + 2)) ∷ outer)
          (with_block (Some inner.join) z)) (sym inner.are) (
            open-reblocked (sight_of (with_spawn site inner.join false run)) spans top (Some (2 * (events + 1) + 2)) inner.join opened,
            entry-after run spans records first events reads top outer site f inner.join false spawning branches (omega arith) top.spawn inner.entry inner.entered,
            stays run spans records first events reads top outer site f inner.join false spawning branches (omega arith) spans outer inner.others inner.left,
          )),
    )
      where
        branches : NewBranches run.history (current run.history) (unused run.history) (1 + unused run.history) inner.join false
        branches = new_branches_later run.history (current run.history) inner.join

        opened : IsOpen (sight_of (with_spawn site inner.join false run)) spans top inner.join
        opened =
            open-stays (address run.history) (address (split (current run.history) (unused run.history) (1 + unused run.history) inner.join false ∷ run.history))
            (branch run.history) (branch (split (current run.history) (unused run.history) (1 + unused run.history) inner.join false ∷ run.history))
            (unused run.history) (2 + unused run.history) run.records (omega arith) (λ x lt. address_stays spawning x lt) (λ x lt. branches.before x lt)
            (λ n a e. begun_below run.history (ranges f.legal) a.strand (behind f.legal f.serial a.strand (f.has_run n a e)).0) spans top inner.join inner.opened

module _ (run : Run) (spans : List Span) (records : List Record) (first events : ℕ) (reads : List Reads) (top : Scope) (outer : List Scope) (site : ℕ)
    (f : Follows (record { scopes = top ∷ outer; spans = spans; records = records; first = first; events = events; reads = reads }) run) where
  pub follows_spawn : FollowsSpawn (record {
    scopes = record { spawn = Some (record { begin = length records + 1; site = site }); spans = length spans; branch = 2 * (events + 1) + 1; block = None } ∷
        (reblocked top (Some (2 * (events + 1) + 2)) ∷ outer);
    spans = spans;
    records = records;
    first = length records + 1;
    events = events + 1;
    reads = reads;
  }) site run
  follows_spawn = go top.block refl
    where
      go : (own : Option ℕ) → top.block ≡ own → FollowsSpawn (record {
        scopes = record { spawn = Some (record { begin = length records + 1; site = site }); spans = length spans; branch = 2 * (events + 1) + 1; block = None } ∷
            (reblocked top (Some (2 * (events + 1) + 2)) ∷ outer);
        spans = spans;
        records = records;
        first = length records + 1;
        events = events + 1;
        reads = reads;
      }) site run
      go None e = (2 + unused run.history, true, follows_opening run spans records first events reads top outer site f e)
      go (Some k) e = let t = follows_spawning run spans records first events reads top outer site f k e in (t.0, false, t.1)

  pub spawned_some : FollowsSome (record {
    scopes = record { spawn = Some (record { begin = length records + 1; site = site }); spans = length spans; branch = 2 * (events + 1) + 1; block = None } ∷
        (reblocked top (Some (2 * (events + 1) + 2)) ∷ outer);
    spans = spans;
    records = records;
    first = length records + 1;
    events = events + 1;
    reads = reads;
  })
  spawned_some = (with_spawn site follows_spawn.0 follows_spawn.1 run, follows_spawn.2)
