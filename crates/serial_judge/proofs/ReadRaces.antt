-- Reads of reducers are answered rightly.
use Rattle.std.proofs.Common.{◌≡◌, ◌≢◌, ◌⊎◌, ◌↔◌, inl, inr, ℕ, List, [], ◌∷◌, ◌++◌, Option, Some, None, Contains, refl, sym, ap, ◌∙◌, subst, arith}
use Rattle.std.specs.Option.{option_map}
use Rattle.std.proofs.lemmas.Bool.{false≢true}
use Rattle.std.proofs.lemmas.List.Elements.{Contains-push_cases}
use Rattle.model_strands.specs.History.{History}
use Rattle.model_strands.specs.Legal.{Legal}
use Rattle.model_strands.specs.Extensions.{Extends, IsFinished}
use Rattle.model_strands.specs.Peers.{HaveSamePeers}
use Rattle.law_strands.specs.Branches.{Branch, branch, trunk, left, right}
use Rattle.law_strands.proofs.Branches.{finished_branch_law}
use Rattle.model_serial_runs.specs.ReducerReads.{ReducerRead, ViewRaces}
use Rattle.model_serial_runs.specs.Current.{current}
use Rattle.law_serial_runs.specs.Turns.{HasRun}
use Rattle.law_serial_runs.proofs.Earlier.{behind, current_begun}
use Rattle.law_serial_runs.proofs.Keeping.{current_has_run}
use Rattle.serial_judge.specs.declared.reads.Read.{Read}
use Rattle.serial_judge.specs.declared.reads.Reads.{Reads}
use Rattle.serial_judge.specs.Branches.{number_of}
use Rattle.serial_judge.specs.Judge.{Judge}
use Rattle.serial_judge.specs.Reads.{reads_at, AreKeptReads, IsOtherBranch}
use Rattle.serial_judge.specs.ReducerRaces.{new_read, IsRacingRead, IsReadRightly}
use Rattle.serial_judge.specs.Runs.{Run, with_read}
use Rattle.serial_judge.specs.Follows.{Follows}

-- different branches have different numbers
number_of-same : (one other : Branch) → number_of one ≡ number_of other → one ≡ other
number_of-same trunk trunk e = refl
number_of-same trunk (left m) e = absurd (omega arith)
number_of-same trunk (right m) e = absurd (omega arith)
number_of-same (left n) trunk e = absurd (omega arith)
number_of-same (left n) (left m) e = let k : n ≡ m = omega arith in ap left k
number_of-same (left n) (right m) e = absurd (omega arith)
number_of-same (right n) trunk e = absurd (omega arith)
number_of-same (right n) (left m) e = absurd (omega arith)
number_of-same (right n) (right m) e = let k : n ≡ m = omega arith in ap right k

module _ (judge : Judge) (run : Run) (f : Follows judge run) where
  -- a read races exactly where its branch is another
  differs : (read : ReducerRead) → Contains run.reads read →
      (branch run.history read.strand ≢ branch run.history (current run.history)) ↔ ViewRaces run.history (current run.history) read
  differs read c = (
    (λ ne whole w same. both.0 ne whole w.extends w.legal w.finished same),
    (λ races. both.1 (λ whole ext l fin same. races whole (record { extends = ext; legal = l; finished = fin }) same)),
  )
    where
      both : (branch run.history read.strand ≢ branch run.history (current run.history)) ↔
          ((longer : History) → Extends longer run.history → Legal longer → IsFinished longer → HaveSamePeers longer read.strand (current run.history) → ⊥)
      both =
          let law = finished_branch_law run.history f.legal read.strand (current run.history) (behind f.legal f.serial read.strand (f.readers read c)).0
          (current_begun f.legal f.serial) in
          law.1

  pub read_rightly : (reducer : ℕ) (other : Option Read) →
      IsOtherBranch (branch run.history) run.reads reducer (number_of (branch run.history (current run.history))) other →
      IsReadRightly run reducer (option_map (λ (one : Read). one.site) other)
  read_rightly reducer None all = record {
    exact = (
      (λ e. absurd (false≢true e)),
      (λ (read, t). absurd ((differs read t.listed).1 t.races (number_of-same (branch run.history read.strand) (branch run.history (current run.history)) (all read t.listed t.reducer_is)))),
    );
    witness = tt;
  }
  read_rightly reducer (Some kept) (k, ne) = record {
    exact = ((λ e. (k.read, racing)), (λ t. refl));
    witness = (k.read, racing, k.site_is);
  }
    where
      racing : IsRacingRead run reducer k.read
      racing = record {
        listed = k.listed;
        reducer_is = k.reducer_is;
        races = (differs k.read k.listed).0 (λ e. ne (sym k.branch_is ∙ ap number_of e));
      }

pub follows_read : (judge : Judge) (run : Run) (reducer site : ℕ) (new : List Reads) → Follows judge run →
    ((one : ℕ) → AreKeptReads (branch run.history) (run.reads ++ new_read run reducer site ∷ []) one (reads_at new one)) →
    Follows (record {
      scopes = judge.scopes;
      spans = judge.spans;
      records = judge.records;
      first = judge.first;
      events = judge.events;
      reads = new;
    }) (with_read (new_read run reducer site) run)
follows_read judge run reducer site new f kept = record {
  legal = f.legal;
  serial = f.serial;
  unfinished = f.unfinished;
  events = f.events;
  recorded = f.recorded;
  has_run = f.has_run;
  own = f.own;
  first = f.first;
  parallel = f.parallel;
  ascending = f.ascending;
  scopes = f.scopes;
  nested = f.nested;
  branch_is = f.branch_is;
  readers = λ read c. ran read (Contains-push_cases run.reads (new_read run reducer site) read c);
  reads = kept;
}
  where
    ran : (read : ReducerRead) → Contains run.reads read ⊎ (new_read run reducer site ≡ read) → HasRun run.history read.strand
    ran read (inl c) = f.readers read c
    ran read (inr e) = subst (λ (z : ReducerRead). HasRun run.history z.strand) e (current_has_run run.history)
