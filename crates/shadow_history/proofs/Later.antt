-- What is remembered stays as the history grows.
use Rattle.std.proofs.Common.{◌≡◌, ℕ, Option, Some, None, Result, Ok, Err, IfOk, OnErr, List, [], ◌∷◌, Contains, refl, sym, subst}
use Rattle.model_accesses.specs.declared.kind.Kind.{Kind}
use Rattle.model_strands.specs.Address.{Word}
use Rattle.law_addresses.specs.Address.{english, hebrew}
use Rattle.model_strands.specs.History.{Event, History}
use Rattle.model_strands.specs.Legal.{Legal}
use Rattle.model_strands.specs.Extensions.{Extends}
use Rattle.model_strands.specs.Addresses.{address}
use Rattle.law_strands.proofs.Branches.{stability_law}
use Rattle.sp_labels.specs.Roster.{Roster, Follows}
use Rattle.shadow_history.specs.declared.cell.Extremes.{Extremes}
use Rattle.shadow_history.specs.declared.cell.Cell.{Cell}
use Rattle.model_accesses.specs.Accesses.{Access}
use Rattle.shadow_history.specs.Accesses.{HaveAllBegun, IsExtreme}
use Rattle.shadow_history.specs.Shadow.{AreKept, StandsOn}
use Rattle.shadow_history.specs.Laws.{LaterLaw}

module _ (accesses : List Access) (history longer : History) (extends : Extends longer history) (legal : Legal longer) (begun : HaveAllBegun history accesses) where
  same_address : (access : Access) → Contains accesses access → address longer access.strand ≡ address history access.strand
  same_address access h = (stability_law history longer extends legal access.strand (begun access h)).0.same_address

  extreme-later : (rank : Word → ℕ) (access : Access) → IsExtreme rank history accesses access → IsExtreme rank longer accesses access
  extreme-later rank access extreme = record {
    last = record {
      is_member = extreme.last.is_member;
      none_after = λ other h.
          rw (same_address access extreme.last.is_member.0, same_address other h.0) (extreme.last.none_after other h);
    };
    earliest = extreme.earliest;
  }

  kept-later : (location : ℕ) (kind : Kind) (kept : Option Extremes) → AreKept history accesses location kind kept → AreKept longer accesses location kind kept
  kept-later location kind None none = none
  kept-later location kind (Some extremes) are = record {
    english = extreme-later english _ are.english;
    hebrew = extreme-later hebrew _ are.hebrew;
  }

pub later_law : LaterLaw
later_law cells accesses history longer extends legal remembers = record {
  begun = λ access h. (stability_law history longer extends legal access.strand (remembers.begun access h)).0.begun;
  kept = λ location below kind memory. kept-later accesses history longer extends legal remembers.begun location kind _ (remembers.kept location below kind memory);
}

-- the strands after one more event, or after a refusal, are those of the same accesses
pub stands-later : {Answer Fault : Type 0} (cells : List Cell) (old new : Roster) → StandsOn cells old → (event_of : Answer → Event) →
    (result : Result Answer Fault) → IfOk result (λ answer. (history : History) → Follows old history → Follows new (event_of answer ∷ history)) →
    OnErr result (new ≡ old) → StandsOn cells new
stands-later cells old new (history, accesses, follows, remembers) event_of (Ok answer) ok err =
    let then = ok history follows in
    let longer = event_of answer ∷ history in
    (longer, accesses, then, later_law cells accesses history longer (event_of answer ∷ [], refl) then.legal remembers)
stands-later cells old new stands event_of (Err fault) ok err = subst (StandsOn cells) (sym err) stands
