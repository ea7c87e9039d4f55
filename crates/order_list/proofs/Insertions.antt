-- For callers: what an insertion directly behind an item, as `insert_reserved` makes it, does to the positions of all items.
-- Old items keep their positions or move up by one, and so no two of them change their order.
use Rattle.std.proofs.Common.{◌≡◌, ◌↔◌, ℕ, ◌+◌, ◌-◌, ◌<◌, ◌≤◌, List, length, insert, refl, ap, arith}
use Rattle.std.proofs.lemmas.List.Edits.{length-insert, get_or-insert_at}
use Rattle.order_list.specs.Order.{place_of, insert_behind, IsNumbered, IsListing}
use Rattle.order_list.proofs.Places.{place_of-le, place-below, place-above, place-new, inserted-read}

-- the item stays
pub item-stays : (items : List ℕ) (item : ℕ) → IsListing items → item < length items → place_of item (insert items (place_of item items + 1) (length items)) ≡ place_of item items
item-stays items item listing known = place-below items (place_of item items + 1) (length items) item (omega (arith, listing item known)) (omega arith)

-- the new one stands at the next position
pub new-behind : (items : List ℕ) (item : ℕ) → IsNumbered items → IsListing items → item < length items → place_of (length items) (insert items (place_of item items + 1) (length items)) ≡ place_of item items + 1
new-behind items item numbered listing known =
    place-new items (place_of item items + 1) (length items) (omega (arith, listing item known)) (λ place within e. omega (arith, numbered place within, e))

-- no two old ones change their order
pub order-kept : (items : List ℕ) (item a b : ℕ) → IsListing items → item < length items → a < length items → b < length items → (place_of a (insert items (place_of item items + 1) (length items)) < place_of b (insert items (place_of item items + 1) (length items))) ↔ (place_of a items < place_of b items)
order-kept items item a b listing known known_a known_b =
    let at_place = place_of item items + 1 in
    let new = length items in
    grind (arith, listing item known, listing a known_a, listing b known_b, place-below items at_place new a, place-below items at_place new b, place-above items at_place new a, place-above items at_place new b)

-- the list stays one of all numbers below its length
pub insert-numbered : (items : List ℕ) (item : ℕ) → IsNumbered items → IsListing items → item < length items → IsNumbered (insert items (place_of item items + 1) (length items))
insert-numbered items item numbered listing known place within =
    let at_place = place_of item items + 1 in
    let new = length items in
    grind (arith, listing item known, length-insert items at_place new, inserted-read items at_place new place, numbered place, numbered (place - 1))

pub insert-listing : (items : List ℕ) (item : ℕ) → IsListing items → item < length items → IsListing (insert items (place_of item items + 1) (length items))
insert-listing items item listing known other within =
    let at_place = place_of item items + 1 in
    let new = length items in
    grind (arith, listing item known, listing other, length-insert items at_place new, place-below items at_place new other, place-above items at_place new other, place_of-le other (insert items at_place new) at_place, get_or-insert_at items at_place new 0)

-- there is one item more
pub inserted-len : (items : List ℕ) (after item : ℕ) → IsListing items → after < length items → length (insert_behind after item items) ≡ length items + 1
inserted-len items after item listing known = length-insert items (place_of after items + 1) item (omega (arith, listing after known))

pub grown-len : (old : List ℕ) {new : List ℕ} (after item : ℕ) → IsListing old → after < length old → new ≡ insert_behind after item old → length new ≡ length old + 1
grown-len old after item listing known is = rw is (inserted-len old after item listing known)

-- an item that was put in is known
pub inserted-known : {old begun one : List ℕ} {after first : ℕ} → IsListing begun → after < length old → begun ≡ old → first ≡ length begun → one ≡ insert_behind after first begun → first < length one
inserted-known {old} {begun} {one} {after} {first} listing known same first_is one_is =
    omega (arith, first_is, ap length one_is, inserted-len begun after first listing (rw same known))

-- two items are put in, one after the other
pub two-inserted : {old begun one two : List ℕ} {after first second : ℕ} (behind : ℕ) → IsListing begun → after < length old → begun ≡ old → first ≡ length begun → one ≡ insert_behind after first begun → second ≡ length one → two ≡ insert_behind behind second one → two ≡ insert_behind behind (first + 1) (insert_behind after first old)
two-inserted {old} {begun} {one} {two} {after} {first} {second} behind listing known same first_is one_is second_is two_is =
    let next : second ≡ first + 1 = omega (arith, second_is, first_is, ap length one_is, inserted-len begun after first listing (rw same known)) in
    rw (two_is, next, one_is, same) refl

-- there are two items more then
pub two-len : (old : List ℕ) {two : List ℕ} {after first : ℕ} (behind : ℕ) → IsListing old → after < length old → first ≡ length old → behind ≤ length old → two ≡ insert_behind behind (first + 1) (insert_behind after first old) → length two ≡ length old + 2
two-len old {two} {after} {first} behind listing known first_is inside two_is =
    let new = length old in
    let one = insert_behind after new old in
    let len = inserted-len old after new listing known in
    omega (arith, ap length (rw first_is at two_is), len, inserted-len one behind (new + 1) (insert-listing old after listing known) (omega (arith, len, inside)))

-- one more is put in behind those
pub next-inserted : {old new : List ℕ} {item : ℕ} (wanted : List ℕ) (behind number : ℕ) → old ≡ wanted → item ≡ number → new ≡ insert_behind behind item old → new ≡ insert_behind behind number wanted
next-inserted wanted behind number old_is item_is new_is = rw (new_is, item_is, old_is) refl
