-- The opening roster: strand 0 in the root function.
use Rattle.std.proofs.Common.{◌≡◌, ℕ, Bool, List, [], ◌∷◌, Option, refl, arith}
use Rattle.sp_labels.specs.declared.record.Standing.TheVariants.{Running as Runs}
use Rattle.sp_labels.specs.declared.record.Scope.{Scope}
use Rattle.sp_labels.specs.declared.record.Scope.TheVariants.{Root}
use Rattle.sp_labels.specs.declared.record.Record.{Record}
use Rattle.model_strands.specs.Strands.{absent, running}
use Rattle.model_strands.specs.Blocks.{root}
use Rattle.model_strands.specs.Legal.{start}
use Rattle.law_strands.proofs.Updates.{updated_at}
use Rattle.order_list.specs.Order.{place_of, IsListing, IsNumbered}
use Rattle.sp_labels.specs.Roster.{Follows}

one-listing : IsListing (0 ∷ [])
unfolding place_of
one-listing item lt = let e : item ≡ 0 = omega arith in rw e (let at : place_of 0 (0 ∷ []) ≡ 0 = refl in omega arith)

one-numbered : IsNumbered (0 ∷ [])
one-numbered k lt = let e : k ≡ 0 = omega arith in rw e (omega arith)

opening : (callers : List (Option Scope)) (has_room : Bool) →
    Follows (record { records = record { standing = Runs; scope = Root; children_left = 0 } ∷ []; callers = callers; english = 0 ∷ []; hebrew = 0 ∷ []; has_room = has_room }) []
opening callers has_room = record {
  legal = start;
  count = refl;
  below_call = λ key. root;
  each = λ x lt. let e : x ≡ 0 = omega arith in rw e (record { standing = updated_at (λ y. absent) 0 running 0 refl; scope = λ o. refl; children = refl });
  english = record { same = refl; len = refl; numbered = one-numbered; listing = one-listing };
  hebrew = record { same = refl; len = refl; numbered = one-numbered; listing = one-listing };
}

pub opening-at : (callers : List (Option Scope)) (has_room : Bool) (records : List Record) (english hebrew : List ℕ) →
    records ≡ record { standing = Runs; scope = Root; children_left = 0 } ∷ [] → english ≡ 0 ∷ [] → hebrew ≡ 0 ∷ [] →
    Follows (record { records = records; callers = callers; english = english; hebrew = hebrew; has_room = has_room }) []
opening-at callers has_room records english hebrew se ee he = rw (se, ee, he) (opening callers has_room)
