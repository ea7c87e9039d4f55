-- What comes first behind a spawn, on the way from its next to an access, stands in the spawn's block: a sync there orders what the child
-- leads to.
-- es: the entries; x: a strand; p: where two strands part; o: the number of an entry that led out of the block
use Rattle.std.proofs.Common.{◌≡◌, ◌⊎◌, inl, inr, ℕ, zero, suc, ◌+◌, ◌-◌, ◌<◌, ◌≤◌, List, [], ◌∷◌, ◌++◌, length, get_or, take, drop, reverse, Option, Some, None, refl, sym, ap, ◌∙◌, subst, subst₂, append-nil, append_assoc, arith}
use Rattle.std.specs.Prelude.{◌↔◌, MatchOption, IfSome, IsSome, unwrap_or}
use Rattle.std.specs.Option.{option_map}
use Rattle.std.specs.List.{Contains}
use Rattle.std.proofs.lemmas.List.{length-append, length-reverse, length-take-le, reverse-append, take-append-drop}
use Rattle.std.proofs.lemmas.List.Elements.{All-contains}
use Rattle.std.proofs.lemmas.Option.{slice_get_within, get_or_from_slice_get}
use Rattle.model_strands.specs.History.{History}
use Rattle.law_addresses.specs.Address.{IsPrefix}
use Rattle.law_addresses.proofs.Blocks.{prefix-reaches}
use Rattle.model_strands.specs.Strands.{over, status, Running, Begun, unused}
use Rattle.model_strands.specs.Blocks.{Stack, block, stack}
use Rattle.model_strands.specs.Legal.{Legal}
use Rattle.model_strands.specs.Dag.{IsParallel}
use Rattle.model_strands.specs.Extensions.{Extends}
use Rattle.model_strands.specs.Addresses.{address}
use Rattle.law_strands.proofs.Law.{precedes_reach}
use Rattle.law_strands.proofs.Places.{below_or_beyond, running_below}
use Rattle.law_strands.proofs.Range.{ranges}
use Rattle.model_histories.specs.declared.answer.Entry.{Entry}
use Rattle.model_histories.specs.Entries.{Entries, event_of, control_part}
use Rattle.model_histories.specs.Shapes.{Shape}
use Rattle.model_histories.specs.Legal.{IsLegal}
use Rattle.race_gate.proofs.Races.{extends-part, legal-part}
use Rattle.race_pairs.specs.declared.lineage.Parting.{Parting}
use Rattle.race_pairs.specs.declared.race.Pair.{Pair}
use Rattle.race_pairs.specs.Frames.{frames}
use Rattle.race_pairs.specs.Makers.{HasNumber, IsSpawn}
use Rattle.race_pairs.specs.Partings.{IsParting}
use Rattle.race_pairs.specs.Refusals.{entry_at, strand_at}
use Rattle.race_pairs.specs.Onward.{IsLeast, IsToward}
use Rattle.race_pairs.specs.Encounters.{chain_at, PartAt, GoesOn, strands_of}
use Rattle.race_pairs.specs.Syncs.{IsPlaceToSync, OrdersOnward}
use Rattle.race_pairs.proofs.Made.{legal_rest}
use Rattle.race_pairs.proofs.Asked.{asked_begun}
use Rattle.race_pairs.proofs.Numbers.{legal_before, so_far}
use Rattle.race_pairs.proofs.Forking.{of_spawn, next_begins}
use Rattle.race_pairs.proofs.BlockJoins.{address_lasts, sync_orders}
use Rattle.race_pairs.proofs.Straight.{GoesOnTo, goes_prefix}
use Rattle.race_pairs.proofs.Ways.{Way, at_home, away, least_deep}
use Rattle.race_pairs.proofs.Homes.{Left, Known, known, over_stands, none_before_spawn}

-- Entries by their numbers.

pub runs_there : (shape : Shape) (later earlier : Entries) (entry : Entry) → IsLegal shape (later ++ entry ∷ earlier) →
    Running (control_part earlier) entry.request.strand
runs_there shape [] earlier entry l = l.1.runs
runs_there shape (newer ∷ later) earlier entry l = runs_there shape later earlier entry l.0

pub number_there : (later earlier : Entries) (entry : Entry) → HasNumber (later ++ entry ∷ earlier) (suc (length earlier)) entry
number_there [] earlier entry = inl (refl, refl)
number_there (newer ∷ later) earlier entry = inr (number_there later earlier entry)

number_back : (later earlier : Entries) (number : ℕ) (one : Entry) → HasNumber (later ++ earlier) number one → number ≤ length earlier →
    HasNumber earlier number one
number_back [] earlier number one k le = k
number_back (newer ∷ later) earlier number one (inl t) le = absurd (omega (arith, t.0, length-append later earlier))
number_back (newer ∷ later) earlier number one (inr k) le = number_back later earlier number one k le

-- the spawn is there before an entry that comes behind it
spawn_back : (later earlier : Entries) (entry : Entry) (p : Parting) → IsSpawn (later ++ entry ∷ earlier) p.entry p.spawner p.spawned →
    p.entry ≤ length earlier → IsSpawn earlier p.entry p.spawner p.spawned
spawn_back later earlier entry p (one, k, own, began) le =
    let there : HasNumber (entry ∷ earlier) p.entry one = number_back later (entry ∷ earlier) p.entry one k (omega (arith, le)) in
    (one, number_back (entry ∷ []) earlier p.entry one there le, own, began)

frames_stand : (later earlier : Entries) (x : ℕ) → Legal (control_part (later ++ earlier)) → status (control_part earlier) x ≡ over →
    (frames (later ++ earlier) x ≡ frames earlier x) × (status (control_part (later ++ earlier)) x ≡ over)
frames_stand [] earlier x l e = (refl, e)
frames_stand (entry ∷ later) earlier x l e =
    let t = frames_stand later earlier x (legal_rest (event_of entry) (control_part (later ++ earlier)) l) e in
    let s = over_stands (control_part (later ++ earlier)) (event_of entry) (suc (length (later ++ earlier))) (frames (later ++ earlier)) x l t.1 in
    (s.0 ∙ t.0, s.1)

-- so it is from before an entry on
frames_stand_there : (later earlier : Entries) (entry : Entry) (x : ℕ) → Legal (control_part (later ++ entry ∷ earlier)) →
    status (control_part earlier) x ≡ over → frames (later ++ entry ∷ earlier) x ≡ frames earlier x
frames_stand_there later earlier entry x l e =
    let s = over_stands (control_part earlier) (event_of entry) (suc (length earlier)) (frames earlier) x (legal_before later (entry ∷ earlier) l) e in
    (frames_stand later (entry ∷ earlier) x l s.1).0 ∙ s.0

legal_there : (later earlier : Entries) (entry : Entry) → Legal (control_part (later ++ entry ∷ earlier)) → Legal (control_part earlier)
legal_there later earlier entry l = legal_rest (event_of entry) (control_part earlier) (legal_before later (entry ∷ earlier) l)

pub split_off : (later earlier : Entries) (entry : Entry) → (later ++ (entry ∷ [])) ++ earlier ≡ later ++ entry ∷ earlier
split_off later earlier entry = append_assoc later (entry ∷ []) earlier

address_there : (later earlier : Entries) (entry : Entry) → Legal (control_part (later ++ entry ∷ earlier)) → (x : ℕ) → x < unused (control_part earlier) →
    address (control_part (later ++ entry ∷ earlier)) x ≡ address (control_part earlier) x
address_there later earlier entry l x lt =
    let extends : Extends (control_part (later ++ entry ∷ earlier)) (control_part earlier) =
    subst (λ (z : Entries). Extends (control_part z) (control_part earlier)) (split_off later earlier entry) (extends-part (later ++ (entry ∷ [])) earlier) in
    address_lasts (control_part earlier) (control_part (later ++ entry ∷ earlier)) extends l x lt

-- A place on the way.

-- the strand is on the way from the next of the spawn to the strand on that side
pub record Between (es : Entries) (p : Parting) (x : ℕ) (base : List ℕ) : Type 0 where
  pub legal : (shape : Shape) × IsLegal shape es
  pub spawn : IsSpawn es p.entry p.spawner p.spawned
  pub base_is : base ≡ frames es p.spawner
  pub access_begun : Begun (control_part es) p.by_next
  pub from_next : GoesOnTo (address (control_part es) p.spawned.next) (address (control_part es) x)
  pub to_access : IsPrefix (address (control_part es) x) (address (control_part es) p.by_next)

-- it is such a place, to which no child leads from the next of the spawn
pub record OnWay (es : Entries) (p : Parting) (number : ℕ) : Type 0 where
  pub spawn : IsSpawn es p.entry p.spawner p.spawned
  pub place : IsPlaceToSync es p number
  pub straight : GoesOnTo (address (control_part es) p.spawned.next) (address (control_part es) place.entry.request.strand)

place : (later earlier : Entries) (entry : Entry) (p : Parting) (base : List ℕ) → Between (later ++ entry ∷ earlier) p entry.request.strand base →
    p.entry ≤ length earlier → frames earlier entry.request.strand ≡ base → (below : Stack) →
    stack (control_part earlier) entry.request.strand ≡ block p.spawned.join below → OnWay (later ++ entry ∷ earlier) p (suc (length earlier))
place later earlier entry p base w le at_base below in_block = record { spawn = w.spawn; place = here; straight = w.from_next }
  where
    l : Legal (control_part (later ++ entry ∷ earlier))
    l = legal-part w.legal.0 (later ++ entry ∷ earlier) w.legal.1

    l_there : Legal (control_part earlier)
    l_there = legal_there later earlier entry l

    begun : Begun (control_part (later ++ entry ∷ earlier)) entry.request.strand
    begun = asked_begun w.legal.0 (later ++ entry ∷ earlier) w.legal.1 (suc (length earlier)) entry (number_there later earlier entry)

    there : Known (control_part earlier) (frames earlier) (length earlier) (Left earlier) p.entry p.spawner p.spawned
    there = known earlier l_there p.entry p.spawner p.spawned (spawn_back later earlier entry p w.spawn le)

    here : IsPlaceToSync (later ++ entry ∷ earlier) p (suc (length earlier))
    here = record {
      entry = entry;
      earlier = earlier;
      later = later;
      whole = refl;
      number_is = refl;
      is_behind = omega (arith, le);
      from_next = precedes_reach (control_part (later ++ entry ∷ earlier)) l p.spawned.next entry.request.strand
          (of_spawn (later ++ entry ∷ earlier) l p.entry p.spawner p.spawned w.spawn).next_begun begun
          (prefix-reaches (address (control_part (later ++ entry ∷ earlier)) p.spawned.next)
          (address (control_part (later ++ entry ∷ earlier)) entry.request.strand)
          (goes_prefix (address (control_part (later ++ entry ∷ earlier)) p.spawned.next)
          (address (control_part (later ++ entry ∷ earlier)) entry.request.strand) w.from_next));
      to_access = precedes_reach (control_part (later ++ entry ∷ earlier)) l entry.request.strand p.by_next begun w.access_begun
          (prefix-reaches (address (control_part (later ++ entry ∷ earlier)) entry.request.strand)
          (address (control_part (later ++ entry ∷ earlier)) p.by_next) w.to_access);
      in_function = at_base ∙ (w.base_is ∙ frames_stand_there later earlier entry p.spawner l there.ended);
      orders = sync_orders (control_part earlier) l_there entry.request.strand p.spawned.child p.spawned.join below
          (runs_there w.legal.0 later earlier entry w.legal.1) in_block there.child_known there.join_known there.turns;
    }

-- The first entry on the way.

-- there is one least number above a bound
one_least : (bound : ℕ) (numbers : List ℕ) (o found : ℕ) → IsLeast bound numbers (Some o) → IsLeast bound numbers (Some found) → found ≡ o
one_least bound numbers o found one other =
    let le = All-contains (λ (n : ℕ). bound < n → found ≤ n) numbers o other.2 one.0 one.1 in
    let ge = All-contains (λ (n : ℕ). bound < n → o ≤ n) numbers found one.2 other.0 other.1 in
    omega arith

module _ (shape : Shape) (later earlier : Entries) (access : Entry) (legal : IsLegal shape (later ++ access ∷ earlier)) (s o : ℕ) (p : Parting)
    (is : IsParting (later ++ access ∷ earlier) s o p) (own : access.request.strand ≡ p.by_next) where
  es : Entries
  es = later ++ access ∷ earlier

  l : Legal (control_part (later ++ access ∷ earlier))
  l = legal-part shape (later ++ access ∷ earlier) legal

  l_earlier : Legal (control_part earlier)
  l_earlier = legal_there later earlier access l

  known_here : access.request.strand < unused (control_part earlier)
  known_here = running_below (control_part earlier) (ranges l_earlier) access.request.strand (runs_there shape later earlier access legal)

  access_begun : Begun (control_part (later ++ access ∷ earlier)) p.by_next
  access_begun =
      subst (Begun (control_part (later ++ access ∷ earlier))) own
      (asked_begun shape (later ++ access ∷ earlier) legal (suc (length earlier)) access (number_there later earlier access))

  begins : IsPrefix (address (control_part (later ++ access ∷ earlier)) p.spawned.next) (address (control_part (later ++ access ∷ earlier)) access.request.strand)
  begins =
      subst₂ IsPrefix (sym (of_spawn (later ++ access ∷ earlier) l p.entry p.spawner p.spawned is.spawn).next_address)
      (ap (address (control_part (later ++ access ∷ earlier))) (sym own)) (next_begins (later ++ access ∷ earlier) l s o p is access_begun)

  -- the spawn comes before the access
  spawn_first : p.entry ≤ length earlier
  spawn_first = go (below_or_beyond (length earlier) p.entry)
    where
      go : (length earlier < p.entry) ⊎ (p.entry ≤ length earlier) → p.entry ≤ length earlier
      go (inl lt) = absurd (subst (λ (z : Entries). Legal (control_part z) → IsSpawn z p.entry p.spawner p.spawned →
          IsPrefix (address (control_part z) p.spawned.next) (address (control_part z) access.request.strand) → ⊥) (split_off later earlier access)
          (λ legal_z spawn_z begins_z. none_before_spawn (later ++ (access ∷ [])) earlier legal_z p.entry p.spawner p.spawned spawn_z lt access.request.strand known_here begins_z)
          l is.spawn begins)
      go (inr le) = le

  spawn_here : IsSpawn earlier p.entry p.spawner p.spawned
  spawn_here = spawn_back later earlier access p is.spawn spawn_first

  there : Known (control_part earlier) (frames earlier) (length earlier) (Left earlier) p.entry p.spawner p.spawned
  there = known earlier l_earlier p.entry p.spawner p.spawned spawn_here

  base_es : there.g.base ≡ frames (later ++ access ∷ earlier) p.spawner
  base_es = there.base_is ∙ sym (frames_stand_there later earlier access p.spawner l there.ended)

  start_es : address (control_part (later ++ access ∷ earlier)) p.spawned.next ≡ there.g.start
  start_es = address_there later earlier access l p.spawned.next there.next_known ∙ there.next_at

  joined_in : (x : ℕ) (h : History) → stack h x ≡ block there.g.join there.g.below → stack h x ≡ block p.spawned.join there.g.below
  joined_in x h e = e ∙ ap (λ (j : ℕ). block j there.g.below) there.join_is

  way_here : Way there.g (control_part earlier) (frames earlier) (Left earlier there.g) access.request.strand
  way_here =
      there.ways access.request.strand known_here (subst₂ IsPrefix start_es (address_there later earlier access l access.request.strand known_here) begins)

  at_access : frames earlier access.request.strand ≡ there.g.base → stack (control_part earlier) access.request.strand ≡ block there.g.join there.g.below →
      GoesOnTo there.g.start (address (control_part earlier) access.request.strand) → (found : ℕ) →
      IsToward p.entry (suc (length earlier)) (frames earlier access.request.strand) found → OnWay (later ++ access ∷ earlier) p found
  at_access a b straight found (inl t) =
      subst (OnWay (later ++ access ∷ earlier) p) (sym t.1)
      (place later earlier access p there.g.base (record {
        legal = (shape, legal);
        spawn = is.spawn;
        base_is = base_es;
        access_begun = access_begun;
        from_next = subst₂ GoesOnTo (sym start_es) (sym (address_there later earlier access l access.request.strand known_here)) straight;
        to_access = ([], ap (address (control_part (later ++ access ∷ earlier))) (sym own) ∙ sym (append-nil (address (control_part (later ++ access ∷ earlier)) access.request.strand)));
      }) spawn_first a there.g.below (joined_in access.request.strand (control_part earlier) b))
  at_access a b straight found (inr t) =
      let within : Contains there.g.base found = subst (λ (z : List ℕ). Contains z found) a t.0 in
      let low = All-contains (λ (n : ℕ). n ≤ there.g.number) there.g.base found there.low within in
      absurd (omega (arith, there.number_is, low, t.1))

  at_exit : (e : ℕ) → Left earlier there.g e access.request.strand → IsLeast p.entry (frames earlier access.request.strand) (Some e) →
      (found : ℕ) → IsToward p.entry (suc (length earlier)) (frames earlier access.request.strand) found → OnWay (later ++ access ∷ earlier) p found
  at_exit e left least found (inl t) =
      let low = All-contains (λ (n : ℕ). n ≤ p.entry) (frames earlier access.request.strand) e t.0 least.0 in
      absurd (omega (arith, least.1))
  at_exit e left least found (inr t) =
      subst (OnWay (later ++ access ∷ earlier) p) (sym (one_least p.entry (frames earlier access.request.strand) e found least t ∙ left.number_is))
      (subst (λ (z : Entries). OnWay z p (suc (length left.earlier))) whole
      (place (later ++ access ∷ left.later) left.earlier left.entry p there.g.base
      (subst (λ (z : Entries). Between z p left.entry.request.strand there.g.base) (sym whole) (record {
        legal = (shape, legal);
        spawn = is.spawn;
        base_is = base_es;
        access_begun = access_begun;
        from_next = subst₂ GoesOnTo (sym start_es) (sym at_left) left.from_start;
        to_access = subst₂ IsPrefix (sym at_left)
            (sym (address_there later earlier access l access.request.strand known_here) ∙ ap (address (control_part (later ++ access ∷ earlier))) own) left.leads;
      })) (omega (arith, there.number_is, left.number_is, left.is_behind)) left.at_base there.g.below
      (joined_in left.entry.request.strand (control_part left.earlier) left.in_block)))
    where
      whole : (later ++ access ∷ left.later) ++ left.entry ∷ left.earlier ≡ later ++ access ∷ earlier
      whole = append_assoc later (access ∷ left.later) (left.entry ∷ left.earlier) ∙ ap (λ (z : Entries). later ++ access ∷ z) left.whole

      at_left : address (control_part (later ++ access ∷ earlier)) left.entry.request.strand ≡ address (control_part earlier) left.entry.request.strand
      at_left = address_there later earlier access l left.entry.request.strand left.known

  pub place_to_sync : (found : ℕ) → IsToward p.entry (suc (length earlier)) (frames earlier access.request.strand) found →
      OnWay (later ++ access ∷ earlier) p found
  place_to_sync found toward = go way_here
    where
      go : Way there.g (control_part earlier) (frames earlier) (Left earlier there.g) access.request.strand → OnWay (later ++ access ∷ earlier) p found
      go (at_home a b straight) = at_access a b straight found toward
      go (away e left d) =
          at_exit e left (subst (λ (n : ℕ). IsLeast n (frames earlier access.request.strand) (Some e)) there.number_is
          (least_deep there.g there.low e left.is_behind (address (control_part earlier) access.request.strand) (frames earlier access.request.strand)
          (stack (control_part earlier) access.request.strand) d)) found toward

-- Entries in a slice, the oldest first.

place_told : (told : List Entry) (shape : Shape) → IsLegal shape (reverse told) → (s o : ℕ) (p : Parting) → IsParting (reverse told) s o p →
    (number found : ℕ) → strand_at told number ≡ Some p.by_next → IsToward p.entry number (chain_at told number) found → OnWay (reverse told) p found
place_told told shape legal s o p is zero found at toward = absurd (let none : strand_at told zero ≡ None = refl in cc)
place_told told shape legal s o p is (suc before) found at toward = by (entry_at told (suc before)) refl at
  where
    by : (here : Option Entry) → entry_at told (suc before) ≡ here → option_map (λ (entry : Entry). entry.request.strand) here ≡ Some p.by_next →
        OnWay (reverse told) p found
    by None e f = absurd (cc)
    by (Some one) e f =
        let within = slice_get_within told before one e in
        let own : one.request.strand ≡ p.by_next = cc in
        let is_here : get_or told before one ≡ one = get_or_from_slice_get told before one one e in
        let part : reverse (take (before + 1) told) ≡ one ∷ reverse (take before told) =
        so_far told before one within ∙ ap (λ (z : Entry). z ∷ reverse (take before told)) is_here in
        let whole : reverse (drop (before + 1) told) ++ one ∷ reverse (take before told) ≡ reverse told =
        ap (λ (z : Entries). reverse (drop (before + 1) told) ++ z) (sym part) ∙
        (sym (reverse-append (take (before + 1) told) (drop (before + 1) told)) ∙ ap reverse (take-append-drop (before + 1) told)) in
        let long : length (reverse (take before told)) ≡ before = length-reverse (take before told) ∙ length-take-le before told (omega (arith, within)) in
        let back : suc before - 1 ≡ before = omega arith in
        let chain : chain_at told (suc before) ≡ frames (reverse (take before told)) one.request.strand =
        ap (λ (z : Option Entry). unwrap_or (option_map (λ entry. frames (reverse (take (suc before - 1) told)) entry.request.strand) z) []) e ∙
        ap (λ (n : ℕ). frames (reverse (take n told)) one.request.strand) back in
        subst (λ (z : Entries). OnWay z p found) whole
        (place_to_sync shape (reverse (drop (before + 1) told)) (reverse (take before told)) one (subst (IsLegal shape) (sym whole) legal) s o p
        (subst (λ (z : Entries). IsParting z s o p) (sym whole) is) own found
        (subst₂ (λ (n : ℕ) (numbers : List ℕ). IsToward p.entry n numbers found) (ap suc (sym long)) chain toward))

-- where two strands part, what comes next there is on the way
pub on_way : (told : List Entry) → (shape : Shape) × IsLegal shape (reverse told) → (pair : Pair) (p : Parting) (onward : Option ℕ) →
    PartAt told pair (Some p) → GoesOn told pair (Some p) onward → (found : ℕ) × (onward ≡ Some found) × OnWay (reverse told) p found
on_way told legal pair p onward parts goes = by (strands_of told pair) parts
  where
    placed : (s o : ℕ) → IsParting (reverse told) s o p → (found : ℕ) × (onward ≡ Some found) × OnWay (reverse told) p found
    placed s o is = (goes.0, goes.2, place_told told legal.0 legal.1 s o p is goes.1 goes.0 goes.4 goes.5)

    none_parts : Some p ≡ None → ⊥
    none_parts e = cc

    by : (strands : Option (ℕ × ℕ)) → MatchOption strands (Some p ≡ None)
        (λ both. IsParting (reverse told) both.0 both.1 p × (IsSome (Some p) ↔ IsParallel (control_part (reverse told)) both.0 both.1)) →
        (found : ℕ) × (onward ≡ Some found) × OnWay (reverse told) p found
    by None e = absurd (none_parts e)
    by (Some both) parted = placed both.0 both.1 parted.0

-- and such a place
pub orders_onward : (told : List Entry) → (shape : Shape) × IsLegal shape (reverse told) → (pair : Pair) (parting : Option Parting) (onward : Option ℕ) →
    PartAt told pair parting → GoesOn told pair parting onward → OrdersOnward told parting onward
orders_onward told legal pair None onward parts goes = tt
orders_onward told legal pair (Some p) onward parts goes =
    let on = on_way told legal pair p onward parts goes in
    subst (λ (z : Option ℕ). IfSome z (IsPlaceToSync (reverse told) p)) (sym on.1) on.2.place
