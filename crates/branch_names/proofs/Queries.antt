-- What the names answer.
use Rattle.std.proofs.Common.{◌≡◌, ◌↔◌, ℕ, ◌<◌, Bool, IsTrue, length, sym, subst, arith}
use Rattle.model_strands.specs.History.{History}
use Rattle.model_strands.specs.Strands.{Begun}
use Rattle.model_strands.specs.Legal.{Legal}
use Rattle.model_strands.specs.Extensions.{Extends}
use Rattle.law_strands.specs.Branches.{branch}
use Rattle.model_strands.specs.Peers.{HaveSamePeers}
use Rattle.law_strands.proofs.Range.{ranges}
use Rattle.law_strands.proofs.Law.{begun_below}
use Rattle.law_strands.proofs.Branches.{branch_law}
use Rattle.branch_names.specs.Names.{Names, BranchName, Follows, IsNamed, IsGiven, branch_number, name_at}

-- A begun strand has a name.
pub named-known : (branches : Names) (strand : ℕ) → IsNamed branches strand → strand < length branches.names
named-known branches strand (history, follows, begun) = omega (arith, follows.count, begun_below history (ranges follows.legal) strand begun)

-- So its name is given.
pub named-given : (branches : Names) (strand : ℕ) → IsNamed branches strand → IsGiven (name_at branches.names strand)
named-given branches strand (history, follows, begun) = (follows.given strand (named-known branches strand (history, follows, begun))).1 begun

-- A named strand has begun in each history that is followed.
pub named-begun : (branches : Names) (history : History) → Follows branches history → (strand : ℕ) → IsNamed branches strand → Begun history strand
named-begun branches history follows strand named =
    let lt = named-known branches strand named in
    let (other, follows_other, begun) = named in
    (follows.given strand lt).0 ((follows_other.given strand lt).1 begun)

-- Whether the name of a number is given tells whether its strand has begun.
pub given-begun : (branches : Names) (history : History) → Follows branches history → (strand : ℕ) → strand < length branches.names → (answer : Bool) (name : BranchName) →
    name ≡ name_at branches.names strand → IsTrue answer ↔ IsGiven name → IsTrue answer ↔ Begun history strand
given-begun branches history follows strand lt answer name is tells =
    let given = follows.given strand lt in
    ((λ t. given.0 (subst IsGiven is (tells.0 t))), (λ begun. tells.1 (subst IsGiven (sym is) (given.1 begun))))

-- Two named strands have one number just where they have one branch.
pub same-branches : (branches : Names) (history : History) → Follows branches history → (first second : ℕ) → IsNamed branches first → IsNamed branches second →
    (branch_number (name_at branches.names first) ≡ branch_number (name_at branches.names second)) ↔ (branch history first ≡ branch history second)
same-branches branches history follows first second first_named second_named = follows.agree first second (named-known branches first first_named) (named-known branches second second_named)

-- So they have one number just where they have the same peers.
pub same-peers : (branches : Names) (history : History) → Follows branches history → (longer : History) → Extends longer history → Legal longer →
    (first second : ℕ) → IsNamed branches first → IsNamed branches second →
    (branch_number (name_at branches.names first) ≡ branch_number (name_at branches.names second)) ↔ HaveSamePeers longer first second
same-peers branches history follows longer extends legal first second first_named second_named =
    let agrees = same-branches branches history follows first second first_named second_named in
    let law = branch_law history follows.legal first second (named-begun branches history follows first first_named) (named-begun branches history follows second second_named) longer extends legal in
    ((λ e. law.0 (agrees.0 e)), (λ peers. agrees.1 (law.1 peers)))
