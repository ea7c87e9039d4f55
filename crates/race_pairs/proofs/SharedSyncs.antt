-- A sync in place of where the spawner goes on for one pair orders another pair too, whose strands part at the same spawn and for which the
-- spawner goes on no earlier.
-- es: the entries; p, q: where the strands of two pairs part; o, n: numbers of entries
use Rattle.std.proofs.Common.{◌≡◌, ◌⊎◌, inl, inr, ℕ, suc, ◌<◌, ◌≤◌, List, [], ◌∷◌, ◌++◌, length, map, reverse, Option, Some, refl, sym, ap, ◌∙◌, subst, subst₂, arith}
use Rattle.std.specs.Prelude.{unwrap_or}
use Rattle.std.specs.Option.{option_map}
use Rattle.std.proofs.lemmas.List.{length-append, length-reverse, reverse-reverse}
use Rattle.model_strands.specs.declared.spawned.Spawned.{Spawned}
use Rattle.model_strands.specs.Address.{Address}
use Rattle.model_strands.specs.Strands.{Running, Begun}
use Rattle.model_strands.specs.Dag.{Reaches, stay}
use Rattle.model_strands.specs.Legal.{Legal}
use Rattle.model_strands.specs.Extensions.{Extends}
use Rattle.model_strands.specs.Addresses.{address}
use Rattle.law_strands.proofs.Words.{Precedes}
use Rattle.law_strands.proofs.Law.{precedes_reach}
use Rattle.law_strands.proofs.Leads.{path_then}
use Rattle.law_strands.proofs.Sinks.{running_law}
use Rattle.law_strands.proofs.Branches.{stability_law}
use Rattle.model_histories.specs.declared.answer.Entry.{Entry}
use Rattle.model_histories.specs.Entries.{Entries, control_part}
use Rattle.model_histories.specs.Shapes.{Shape}
use Rattle.model_histories.specs.Legal.{IsLegal}
use Rattle.race_gate.proofs.Races.{extends-part, legal-part}
use Rattle.race_pairs.specs.declared.lineage.Parting.{Parting}
use Rattle.race_pairs.specs.declared.race.Pair.{Pair}
use Rattle.race_pairs.specs.Frames.{frames}
use Rattle.race_pairs.specs.Makers.{HasNumber, IsSpawn}
use Rattle.race_pairs.specs.Refusals.{entry_at, line_in}
use Rattle.race_pairs.specs.Encounters.{PartAt, GoesOn}
use Rattle.race_pairs.specs.Syncs.{SyncOrders, IsPlaceToSync}
use Rattle.race_pairs.proofs.Climbing.{number_within, same_entry}
use Rattle.race_pairs.proofs.Straight.{GoesOnTo, either_precedes}
use Rattle.race_pairs.proofs.SyncPlaces.{OnWay, on_way, runs_there, number_there, split_off}
use Rattle.race_pairs.proofs.Witnesses.{numbered, line_same}

-- what an entry began is known by its number
one_spawn : (es : Entries) (number s r : ℕ) (b c : Spawned) → IsSpawn es number s b → IsSpawn es number r c → (s ≡ r) × (b ≡ c)
one_spawn es number s r b c (one, k, own, began) (other, m, own_other, began_other) =
    let same : one ≡ other = same_entry es number one other k m in
    (sym own ∙ (ap (λ (e : Entry). e.request.strand) same ∙ own_other), let is = began.1 in let is_other = began_other.1 in cc)

-- of two parts of a list the shorter one is a part of the longer one
part_of : (front other : Entries) (short long : Entries) → front ++ short ≡ other ++ long → length short ≤ length long →
    (between : Entries) × (between ++ short ≡ long)
part_of [] [] short long e le = ([], e)
part_of [] (entry ∷ other) short long e le =
    let longer : length short ≡ suc (length (other ++ long)) = ap length e in absurd (omega (arith, longer, length-append other long))
part_of (entry ∷ front) [] short long e le = (entry ∷ front, e)
part_of (entry ∷ front) (newer ∷ other) short long e le = let rest : front ++ short ≡ other ++ long = cc in part_of front other short long rest le

-- the strand of the entry reaches that of a later one, where no child leads to either
reaches_later : (shape : Shape) (es : Entries) → IsLegal shape es → (start : Address) (one : Entry) (later earlier : Entries) →
    later ++ one ∷ earlier ≡ es → (other : Entry) (later' earlier' : Entries) → later' ++ other ∷ earlier' ≡ es → length earlier ≤ length earlier' →
    GoesOnTo start (address (control_part es) one.request.strand) → GoesOnTo start (address (control_part es) other.request.strand) →
    Reaches (control_part es) one.request.strand other.request.strand
reaches_later shape es legal start one later earlier whole other later' earlier' whole' le straight straight' =
    go (either_precedes start (address (control_part es) one.request.strand) (address (control_part es) other.request.strand) straight straight')
  where
    l : Legal (control_part es)
    l = legal-part shape es legal

    runs : Running (control_part earlier) one.request.strand
    runs = runs_there shape later earlier one (subst (IsLegal shape) (sym whole) legal)

    runs' : Running (control_part earlier') other.request.strand
    runs' = runs_there shape later' earlier' other (subst (IsLegal shape) (sym whole') legal)

    between : (between : Entries) × (between ++ earlier ≡ earlier')
    between =
        part_of (later ++ one ∷ []) (later' ++ other ∷ []) earlier earlier'
        (split_off later earlier one ∙ (whole ∙ (sym whole' ∙ sym (split_off later' earlier' other)))) le

    whole_there : (later' ++ other ∷ []) ++ earlier' ≡ es
    whole_there = split_off later' earlier' other ∙ whole'

    extends : (front long short : Entries) → front ++ short ≡ long → Extends (control_part long) (control_part short)
    extends front long short e = subst (λ (z : Entries). Extends (control_part z) (control_part short)) e (extends-part front short)

    part_legal : (front long short : Entries) → front ++ short ≡ long → IsLegal shape long → IsLegal shape short
    part_legal [] long short e legal = subst (IsLegal shape) (sym e) legal
    part_legal (entry ∷ front) long short e legal =
        part_legal front (front ++ short) short refl (subst (IsLegal shape) (sym e) legal).0

    l' : Legal (control_part earlier')
    l' = legal-part shape earlier' (part_legal (later' ++ other ∷ []) es earlier' whole_there legal)

    begun_there : Begun (control_part earlier') one.request.strand
    begun_there =
        (stability_law (control_part earlier) (control_part earlier') (extends between.0 earlier' earlier between.1) l' one.request.strand (inl runs)).0.begun

    begun : Begun (control_part es) one.request.strand
    begun =
        (stability_law (control_part earlier') (control_part es) (extends (later' ++ other ∷ []) es earlier' whole_there) l one.request.strand
        begun_there).0.begun

    begun' : Begun (control_part es) other.request.strand
    begun' =
        (stability_law (control_part earlier') (control_part es) (extends (later' ++ other ∷ []) es earlier' whole_there) l other.request.strand
        (inl runs')).0.begun

    -- while the later one runs it reaches no other one
    no_other : Reaches (control_part es) other.request.strand one.request.strand → other.request.strand ≡ one.request.strand
    no_other r =
        running_law (control_part earlier') l' other.request.strand one.request.strand runs'
        (((stability_law (control_part earlier') (control_part es) (extends (later' ++ other ∷ []) es earlier' whole_there) l other.request.strand
        (inl runs')).1 one.request.strand begun_there).reach.0 r)

    go : Precedes (address (control_part es) one.request.strand) (address (control_part es) other.request.strand) ⊎
        Precedes (address (control_part es) other.request.strand) (address (control_part es) one.request.strand) →
        Reaches (control_part es) one.request.strand other.request.strand
    go (inl k) = precedes_reach (control_part es) l one.request.strand other.request.strand begun begun' k
    go (inr k) =
        subst (λ (z : ℕ). Reaches (control_part es) one.request.strand z)
        (sym (no_other (precedes_reach (control_part es) l other.request.strand one.request.strand begun' begun k))) stay

-- a place on the way for one pair is a place to sync for the other
pub place_for_both : (shape : Shape) (es : Entries) → IsLegal shape es → (p q : Parting) (o n : ℕ) → p.entry ≡ q.entry → o ≤ n → OnWay es p o →
    OnWay es q n → IsPlaceToSync es q o
place_for_both shape es legal p q o n same le one other = record {
  entry = here.entry;
  earlier = here.earlier;
  later = here.later;
  whole = here.whole;
  number_is = here.number_is;
  is_behind = let behind = here.is_behind in omega arith;
  from_next = subst (λ (b : Spawned). Reaches (control_part es) b.next here.entry.request.strand) spawned_same here.from_next;
  to_access = path_then
      (reaches_later shape es legal (address (control_part es) p.spawned.next) here.entry here.later here.earlier here.whole there.entry there.later
      there.earlier there.whole (let early = here.number_is in let late = there.number_is in omega arith) one.straight
      (subst (λ (b : Spawned). GoesOnTo (address (control_part es) b.next) (address (control_part es) there.entry.request.strand)) (sym spawned_same)
      other.straight)) there.to_access;
  in_function = here.in_function ∙ ap (frames here.earlier) spawner_same;
  orders = subst (λ (b : Spawned). SyncOrders (control_part here.earlier) here.entry.request.strand b.child b.join) spawned_same here.orders;
}
  where
    here : IsPlaceToSync es p o
    here = one.place

    there : IsPlaceToSync es q n
    there = other.place

    both : (p.spawner ≡ q.spawner) × (p.spawned ≡ q.spawned)
    both =
        one_spawn es q.entry p.spawner q.spawner p.spawned q.spawned (subst (λ (k : ℕ). IsSpawn es k p.spawner p.spawned) same one.spawn) other.spawn

    spawner_same : p.spawner ≡ q.spawner
    spawner_same = both.0

    spawned_same : p.spawned ≡ q.spawned
    spawned_same = both.1

-- Of two pairs whose strands part at the same spawn, where the spawner goes on for the one is a place to sync for the other too, if it comes
-- no later than where the spawner goes on for that.
pub orders_both : (told : List Entry) → (shape : Shape) × IsLegal shape (reverse told) → (pair other : Pair) (p q : Parting) (o n : ℕ) →
    PartAt told pair (Some p) → GoesOn told pair (Some p) (Some o) → PartAt told other (Some q) → GoesOn told other (Some q) (Some n) →
    p.entry ≡ q.entry → o ≤ n → IsPlaceToSync (reverse told) q o
orders_both told legal pair other p q o n parts goes other_parts other_goes same le =
    let one = on_way told legal pair p (Some o) parts goes in
    let two = on_way told legal other q (Some n) other_parts other_goes in
    let here : one.0 ≡ o = let e = one.1 in cc in
    let there : two.0 ≡ n = let e = two.1 in cc in
    place_for_both legal.0 (reverse told) legal.1 p q o n same le (subst (OnWay (reverse told) p) here one.2) (subst (OnWay (reverse told) q) there two.2)

-- the line of the entry in whose place the sync stands is known by its number
pub line_of_place : (told : List Entry) (p : Parting) (number : ℕ) (place : IsPlaceToSync (reverse told) p number) →
    line_in (map (λ (entry : Entry). entry.request.line) told) number ≡ place.entry.request.line
line_of_place told p number place =
    let here : HasNumber (reverse told) number place.entry =
    subst₂ (λ (es : Entries) (n : ℕ). HasNumber es n place.entry) place.whole (sym place.number_is) (number_there place.later place.earlier place.entry) in
    let there = numbered (reverse told) [] number place.entry here in
    let within = there.1 in
    let whole : reverse (reverse told) ++ [] ≡ told ++ [] = ap (λ (xs : List Entry). xs ++ []) (reverse-reverse told) in
    let entry_is : entry_at (told ++ []) number ≡ Some place.entry = ap (λ (xs : List Entry). entry_at xs number) (sym whole) ∙ there.0 in
    line_same told [] number (omega (arith, length-reverse told)) ∙
    ap (λ (entry : Option Entry). unwrap_or (option_map (λ (one : Entry). one.request.line) entry) 0) entry_is

-- the spawn has a number, from 1 on
pub spawn_numbered : (told : List Entry) → (shape : Shape) × IsLegal shape (reverse told) → (pair : Pair) (p : Parting) (onward : Option ℕ) →
    PartAt told pair (Some p) → GoesOn told pair (Some p) onward → 0 < p.entry
spawn_numbered told legal pair p onward parts goes =
    let on = on_way told legal pair p onward parts goes in (number_within (reverse told) p.entry on.2.spawn.0 on.2.spawn.1).0
