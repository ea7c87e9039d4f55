-- Granted reads have one branch, so the first speaks for all.
use Rattle.std.proofs.Common.{◌≡◌, ◌≢◌, ◌↔◌, ℕ, List, sym, ◌∙◌}
use Rattle.model_strands.specs.History.{History}
use Rattle.model_strands.specs.Strands.{Begun}
use Rattle.model_strands.specs.Legal.{Legal}
use Rattle.model_strands.specs.Extensions.{Extends}
use Rattle.law_strands.specs.Branches.{branch}
use Rattle.model_strands.specs.Peers.{HaveSamePeers}
use Rattle.law_strands.proofs.Branches.{branch_law, stability_law}
use Rattle.model_accesses.specs.Reads.{ReducerRead, IsReadOf}
use Rattle.view_read_rule.specs.Reads.{AreOfOneBranch}
use Rattle.view_read_rule.specs.Laws.{LaterLaw}

pub later : LaterLaw
later history longer extends legal reads reducer granted = record {
  begun = λ read is. (stability_law history longer extends legal read.strand (granted.begun read is)).0.begun;
  one_branch = λ first second is_first is_second.
      (stability_law history longer extends legal first.strand (granted.begun first is_first)).0.same_branch ∙
      (granted.one_branch first second is_first is_second ∙ sym (stability_law history longer extends legal second.strand (granted.begun second is_second)).0.same_branch);
}

-- Where the first has the branch, all have.
pub all-same : (history : History) (reads : List ReducerRead) (reducer strand : ℕ) (first : ReducerRead) → AreOfOneBranch history reads reducer → IsReadOf reads reducer first →
    branch history first.strand ≡ branch history strand → (read : ReducerRead) → IsReadOf reads reducer read → branch history read.strand ≡ branch history strand
all-same history reads reducer strand first granted is_first same read is = granted.one_branch read first is is_first ∙ same

-- Some read has another branch just where some read has other peers in a longer history.
pub other-peers : (history : History) → Legal history → (reads : List ReducerRead) (reducer strand : ℕ) → AreOfOneBranch history reads reducer → Begun history strand →
    (longer : History) → Extends longer history → Legal longer →
    ((read : ReducerRead) × IsReadOf reads reducer read × (branch history read.strand ≢ branch history strand)) ↔
    ((read : ReducerRead) × IsReadOf reads reducer read × (HaveSamePeers longer read.strand strand → ⊥))
other-peers history legal reads reducer strand granted begun longer extends legal_longer = (
  (λ (read, is, differs). (read, is, (λ peers. differs ((branch_law history legal read.strand strand (granted.begun read is) begun longer extends legal_longer).1 peers)))),
  (λ (read, is, differs). (read, is, (λ same. differs ((branch_law history legal read.strand strand (granted.begun read is) begun longer extends legal_longer).0 same)))),
)
