-- The worked histories of near pairs are judged, and pairs with the first access alone lose a race.
use Rattle.std.proofs.Common.{◌≡◌, ◌⊎◌, inl, inr, ℕ, true, [], ◌∷◌, ◌++◌, Some, Contains, refl, sym, ap, subst, subst₂, lit<}
use Rattle.model_accesses.specs.declared.kind.Kind.{Kind}
use Rattle.model_accesses.specs.declared.kind.Kind.TheVariants as kinds
use Rattle.model_accesses.specs.declared.kind.Rule.TheVariants.{Free, Race}
use Rattle.model_accesses.specs.Table.{rule_between}
use Rattle.model_accesses.specs.declared.request.Act.TheVariants.{Spawn, Read, Write}
use Rattle.model_strands.specs.Updated.{updated}
use Rattle.model_strands.specs.Address.{Address, child, next}
use Rattle.model_strands.specs.Legal.{open_split}
use Rattle.model_strands.specs.Dag.{stay, step}
use Rattle.model_strands.specs.Addresses.{address}
use Rattle.model_histories.specs.declared.answer.Answer.TheVariants.{Split, Granted, Value}
use Rattle.model_histories.specs.declared.answer.Entry.{Entry}
use Rattle.model_histories.specs.Entries.{Entries, control_part}
use Rattle.model_races.specs.Accesses.{cell_access}
use Rattle.model_races.specs.Judged.{IsJudged}
use Rattle.law_addresses.proofs.Extremes.{contains-head, contains-cases}
use Rattle.law_traces.specs.Locations.{access_of, HasRefusal}
use Rattle.law_traces.specs.Pairs.{IsNear, StandsForPair, HasItsPairs, deed, deed_of}
use Rattle.law_traces.specs.Examples.{two_cells, asked, refused_by, called_again, second_call, both_calls_write, spawned, write_then_reads, neighbours_as_cells, write_read_write, near_as_cells, with_first_as_cells, first_write, the_read, last_write}
use Rattle.law_traces.proofs.Histories.{none_in}
use Rattle.law_traces.proofs.Judging.{write_granted, write_refused, read_granted, read_refused, spawns, parallel_in, none_refused, each_access, another_cell, nothing_judged, cell_of, kind_of, no_access_of_spawn}
use Rattle.law_traces.proofs.Calls.{each_of_first}
use Rattle.law_traces.proofs.Pairs.{kept_pairs_law}

-- ---- they are judged

one_not_two : ◌≡◌ {A = ℕ} 1 2 → ⊥
one_not_two e = absurd (cc)

free_no_race : Free ≡ Race → ⊥
free_no_race e = absurd (cc)

abbrev the_split : Entry
the_split = asked 0 Spawn (Split (record { child = 1; next = 2; join = 3; first = true }))

-- what comes before the last write
abbrev until_read : Entries
until_read = the_read ∷ the_split ∷ first_write ∷ []

write_judged : IsJudged two_cells (first_write ∷ [])
unfolding updated
write_judged = write_granted [] nothing_judged 0 refl 0 1 (lit< tt) tt

split_judged : IsJudged two_cells (the_split ∷ first_write ∷ [])
unfolding updated
split_judged = spawns (first_write ∷ []) write_judged 0 refl (record { child = 1; next = 2; join = 3; first = true }) (open_split refl tt refl refl refl)

read_judged : IsJudged two_cells until_read
unfolding updated
read_judged =
    read_granted (the_split ∷ first_write ∷ []) split_judged 1 refl 0 1 (lit< tt) ((λ at rule p. p.0 (step (inl (inl (refl, inl refl))) stay)), tt) refl

pub write_read_write_judged : IsJudged two_cells write_read_write
unfolding updated
write_read_write_judged =
    write_refused until_read read_judged 2 refl 0 2 (record { entry = 3; strand = 1; kind = kinds.Read }) (lit< tt)
    ((1, lit< tt, refl), refl, refl, parallel_in until_read read_judged 1 2 (inl refl) (inl refl) refl)

pub write_read_write_refused : HasRefusal write_read_write 0
write_read_write_refused = (last_write, kinds.Write, (0, lit< tt, refl), refl, tt)

pub near_as_cells_judged : IsJudged two_cells near_as_cells
unfolding updated
near_as_cells_judged =
    let both = asked 1 (Read 1) (Value 0) ∷ until_read in
    let second = read_granted until_read read_judged 1 refl 1 0 (lit< tt) ((λ at rule p. another_cell (sym at)), ((λ at rule p. another_cell (sym at)), tt)) refl in
    write_refused both second 2 refl 1 2 (record { entry = 4; strand = 1; kind = kinds.Read }) (lit< tt)
    ((2, lit< tt, refl), refl, refl, parallel_in both second 1 2 (inl refl) (inl refl) refl)

pub near_as_cells_clean : HasRefusal near_as_cells 0 → ⊥
near_as_cells_clean = none_refused 0 near_as_cells ((λ k q r. another_cell (cell_of q)), ((λ k q r. r), ((λ k q r. r), ((λ k q r. r), ((λ k q r. r), tt)))))

pub near_as_cells_refused : HasRefusal near_as_cells 1
near_as_cells_refused = (asked 2 (Write 1 2) (refused_by 4 1 kinds.Read), kinds.Write, (0, lit< tt, refl), refl, tt)

pub with_first_judged : IsJudged two_cells with_first_as_cells
unfolding updated
with_first_judged =
    let h2 = asked 0 (Write 1 1) Granted ∷ first_write ∷ [] in
    let j2 = write_granted (first_write ∷ []) write_judged 0 refl 1 1 (lit< tt) ((λ at rule p. another_cell (sym at)), tt) in
    let h3 = the_split ∷ h2 in
    let j3 = spawns h2 j2 0 refl (record { child = 1; next = 2; join = 3; first = true }) (open_split refl tt refl refl refl) in
    let h4 = the_read ∷ h3 in
    let j4 = read_granted h3 j3 1 refl 0 1 (lit< tt) ((λ at rule p. p.0 (step (inl (inl (refl, inl refl))) stay)), ((λ at rule p. another_cell at), tt)) refl in
    write_granted h4 j4 2 refl 1 2 (lit< tt)
    ((λ at rule p. another_cell (sym at)), ((λ at rule p. p.0 (step (inl (inl (refl, inr refl))) stay)), ((λ at rule p. another_cell (sym at)), tt)))

pub with_first_clean : (cell : ℕ) → HasRefusal with_first_as_cells cell → ⊥
with_first_clean c = none_refused c with_first_as_cells ((λ k q r. r), ((λ k q r. r), ((λ k q r. r), ((λ k q r. r), ((λ k q r. r), tt)))))

-- ---- which pairs are near

pub first_near : IsNear write_read_write 0 first_write kinds.Write the_read kinds.Read
first_near = record {
  later = last_write ∷ [];
  between = the_split ∷ [];
  earlier = [];
  stand = refl;
  first_is = refl;
  second_is = refl;
  conflict = refl;
  none_between = λ entry third h q a b. elim (contains-cases the_split entry [] h) [
    | inl is ↦ no_access_of_spawn (subst (λ (x : Entry). cell_access x.request.act ≡ Some (access_of third 0)) is q)
    | inr none ↦ none_in entry none
  ];
}

pub last_near : IsNear write_read_write 0 the_read kinds.Read last_write kinds.Write
last_near = record {
  later = [];
  between = [];
  earlier = the_split ∷ first_write ∷ [];
  stand = refl;
  first_is = refl;
  second_is = refl;
  conflict = refl;
  none_between = λ entry third h q a b. none_in entry h;
}

-- what holds wherever the list is taken apart at an entry
abbrev pub EachSplit : (Entries → Entry → Entries → Type 0) → Entries → Type 0
EachSplit Has [] = Unit {0}
EachSplit Has (entry ∷ entries) = Has [] entry entries × EachSplit (λ after. Has (entry ∷ after)) entries

head_is : {entry other : Entry} {entries others : Entries} → entry ∷ entries ≡ other ∷ others → entry ≡ other
head_is e = cc

tail_is : {entry other : Entry} {entries others : Entries} → entry ∷ entries ≡ other ∷ others → entries ≡ others
tail_is e = cc

not_empty : {entry : Entry} {entries : Entries} → [] ≡ entry ∷ entries → ⊥
not_empty e = cc

pub each_split : (Has : Entries → Entry → Entries → Type 0) (entries : Entries) → EachSplit Has entries → (after : Entries) (entry : Entry) (before : Entries) →
    entries ≡ after ++ (entry ∷ before) → Has after entry before
each_split Has [] each [] one before is = absurd (not_empty is)
each_split Has [] each (x ∷ after) one before is = absurd (not_empty is)
each_split Has (e ∷ H) each [] one before is = subst (λ z. Has [] z before) (head_is is) (subst (λ z. Has [] e z) (tail_is is) each.0)
each_split Has (e ∷ H) each (x ∷ after) one before is =
    subst (λ z. Has (z ∷ after) one before) (head_is is) (each_split (λ rest. Has (e ∷ rest)) H each.1 after one before (tail_is is))

-- what holds of each two accesses of cell 0, given the entries between them
abbrev OfPair : (Entry → Kind → Entries → Entry → Kind → Type 0) → Entry → Entries → Entry → Type 0
OfPair Has second between first =
    (kind other_kind : Kind) → cell_access first.request.act ≡ Some (access_of kind 0) → cell_access second.request.act ≡ Some (access_of other_kind 0) →
    Has first kind between second other_kind

each_pair : (Has : Entry → Kind → Entries → Entry → Kind → Type 0) →
    OfPair Has last_write [] the_read → OfPair Has last_write (the_read ∷ the_split ∷ []) first_write →
    OfPair Has the_read (the_split ∷ []) first_write →
    (later : Entries) (second : Entry) (between : Entries) (first : Entry) (earlier : Entries) →
    write_read_write ≡ later ++ (second ∷ (between ++ (first ∷ earlier))) → OfPair Has second between first
each_pair Has last_two both_writes first_two later two between one earlier is =
    each_split (λ later second before. (between : Entries) (first : Entry) (earlier : Entries) → before ≡ between ++ (first ∷ earlier) → OfPair Has second between first)
    write_read_write (after_write, (after_read, (after_split, (after_first, tt)))) later two (between ++ (one ∷ earlier)) is between one earlier refl
  where
    after_write : (between : Entries) (first : Entry) (earlier : Entries) → until_read ≡ between ++ (first ∷ earlier) → OfPair Has last_write between first
    after_write = each_split (λ between first earlier. OfPair Has last_write between first) until_read
        (last_two, ((λ k m q p. absurd (no_access_of_spawn q)), (both_writes, tt)))

    after_read : (between : Entries) (first : Entry) (earlier : Entries) → the_split ∷ first_write ∷ [] ≡ between ++ (first ∷ earlier) → OfPair Has the_read between first
    after_read = each_split (λ between first earlier. OfPair Has the_read between first) (the_split ∷ first_write ∷ [])
        ((λ k m q p. absurd (no_access_of_spawn q)), (first_two, tt))

    after_split : (between : Entries) (first : Entry) (earlier : Entries) → first_write ∷ [] ≡ between ++ (first ∷ earlier) → OfPair Has the_split between first
    after_split between first earlier e k m q p = absurd (no_access_of_spawn p)

    after_first : (between : Entries) (first : Entry) (earlier : Entries) → [] ≡ between ++ (first ∷ earlier) → OfPair Has first_write between first
    after_first [] first earlier e k m q p = absurd (not_empty e)
    after_first (x ∷ between) first earlier e k m q p = absurd (not_empty e)

pub writes_not_near : IsNear write_read_write 0 first_write kinds.Write last_write kinds.Write → ⊥
writes_not_near near =
    blocks (each_pair (λ first kind between second other_kind. first ≡ first_write → second ≡ last_write → Contains between the_read)
    (λ k m q p e g. absurd (read_not_write e)) (λ k m q p e g. contains-head the_read (the_split ∷ [])) (λ k m q p e g. absurd (read_not_last g))
    near.later last_write near.between first_write near.earlier near.stand kinds.Write kinds.Write refl refl refl refl)
  where
    read_not_write : the_read ≡ first_write → ⊥
    read_not_write e = another_cell (ap (λ (x : Entry). x.request.strand) e)

    read_not_last : the_read ≡ last_write → ⊥
    read_not_last e = one_not_two (ap (λ (x : Entry). x.request.strand) e)

    blocks : Contains near.between the_read → ⊥
    blocks h = near.none_between the_read kinds.Read h refl refl refl

-- ---- cells that stand for pairs

-- the access is one of these two
abbrev IsOneOf : Address → Kind → Address → Kind → Address → Kind → Type 0
IsOneOf place kind other other_kind at third = ((at ≡ place) × (third ≡ kind)) ⊎ ((at ≡ other) × (third ≡ other_kind))

pub first_as_cell : StandsForPair (control_part write_read_write) (deed_of first_write kinds.Write) (deed_of the_read kinds.Read) near_as_cells 0
unfolding updated
first_as_cell = record {
  front = [];
  kept_front = [];
  rest = [];
  other_rest = child ∷ [];
  strand_at = refl;
  other_at = refl;
  done = (0, refl, (first_write, (4, lit< tt, refl), refl, refl));
  other_done = (1, refl, (the_read, (2, lit< tt, refl), refl, refl));
  only = λ at third x.
      each_access (λ strand kind. address (control_part near_as_cells) strand ≡ at → IsOneOf [] kinds.Write (child ∷ []) kinds.Read at kind) 0 near_as_cells (
        (λ k q e. absurd (another_cell (cell_of q))),
        (
          (λ k q e. absurd (another_cell (cell_of q))),
          ((λ k q e. inr (sym e, kind_of q)), ((λ k q e. absurd (no_access_of_spawn q)), ((λ k q e. inl (sym e, kind_of q)), tt))),
        ),
      ) x.0 third x.2 x.1;
}

pub last_as_cell : StandsForPair (control_part write_read_write) (deed_of the_read kinds.Read) (deed_of last_write kinds.Write) near_as_cells 1
unfolding updated
last_as_cell = record {
  front = [];
  kept_front = [];
  rest = child ∷ [];
  other_rest = next ∷ [];
  strand_at = refl;
  other_at = refl;
  done = (1, refl, (asked 1 (Read 1) (Value 0), (1, lit< tt, refl), refl, refl));
  other_done = (2, refl, (asked 2 (Write 1 2) (refused_by 4 1 kinds.Read), (0, lit< tt, refl), refl, refl));
  only = λ at third x.
      each_access (λ strand kind. address (control_part near_as_cells) strand ≡ at → IsOneOf (child ∷ []) kinds.Read (next ∷ []) kinds.Write at kind) 1 near_as_cells (
        (λ k q e. inr (sym e, kind_of q)),
        (
          (λ k q e. inl (sym e, kind_of q)),
          (
            (λ k q e. absurd (another_cell (sym (cell_of q)))),
            ((λ k q e. absurd (no_access_of_spawn q)), ((λ k q e. absurd (another_cell (sym (cell_of q)))), tt)),
          ),
        ),
      ) x.0 third x.2 x.1;
}

pub its_pairs : HasItsPairs write_read_write 0 near_as_cells
its_pairs one two k m near parallel =
    each_pair (λ first kind between second other_kind.
    ((entry : Entry) (third : Kind) → Contains between entry → cell_access entry.request.act ≡ Some (access_of third 0) →
    rule_between kind third ≡ Race → rule_between third other_kind ≡ Race → ⊥) →
    (pair_cell : ℕ) × StandsForPair (control_part write_read_write) (deed_of first kind) (deed_of second other_kind) near_as_cells pair_cell)
    (λ k m q p none.
    (1, subst₂ (λ v w. StandsForPair (control_part write_read_write) (deed_of the_read v) (deed_of last_write w) near_as_cells 1) (sym (kind_of q)) (sym (kind_of p)) last_as_cell))
    (λ k m q p none. absurd (none the_read kinds.Read (contains-head the_read (the_split ∷ [])) refl
    (subst (λ z. rule_between z kinds.Read ≡ Race) (sym (kind_of q)) refl) (subst (λ z. rule_between kinds.Read z ≡ Race) (sym (kind_of p)) refl)))
    (λ k m q p none.
    (0, subst₂ (λ v w. StandsForPair (control_part write_read_write) (deed_of first_write v) (deed_of the_read w) near_as_cells 0) (sym (kind_of q)) (sym (kind_of p)) first_as_cell))
    near.later two near.between one near.earlier near.stand k m near.first_is near.second_is near.none_between

pub with_first_read : StandsForPair (control_part write_read_write) (deed_of first_write kinds.Write) (deed_of the_read kinds.Read) with_first_as_cells 0
unfolding updated
with_first_read = record {
  front = [];
  kept_front = [];
  rest = [];
  other_rest = child ∷ [];
  strand_at = refl;
  other_at = refl;
  done = (0, refl, (first_write, (4, lit< tt, refl), refl, refl));
  other_done = (1, refl, (the_read, (1, lit< tt, refl), refl, refl));
  only = λ at third x.
      each_access (λ strand kind. address (control_part with_first_as_cells) strand ≡ at → IsOneOf [] kinds.Write (child ∷ []) kinds.Read at kind) 0
      with_first_as_cells (
        (λ k q e. absurd (another_cell (cell_of q))),
        (
          (λ k q e. inr (sym e, kind_of q)),
          (
            (λ k q e. absurd (no_access_of_spawn q)),
            ((λ k q e. absurd (another_cell (cell_of q))), ((λ k q e. inl (sym e, kind_of q)), tt)),
          ),
        ),
      ) x.0 third x.2 x.1;
}

pub with_first_last : StandsForPair (control_part write_read_write) (deed_of first_write kinds.Write) (deed_of last_write kinds.Write) with_first_as_cells 1
unfolding updated
with_first_last = record {
  front = [];
  kept_front = [];
  rest = [];
  other_rest = next ∷ [];
  strand_at = refl;
  other_at = refl;
  done = (0, refl, (asked 0 (Write 1 1) Granted, (3, lit< tt, refl), refl, refl));
  other_done = (2, refl, (asked 2 (Write 1 2) Granted, (0, lit< tt, refl), refl, refl));
  only = λ at third x.
      each_access (λ strand kind. address (control_part with_first_as_cells) strand ≡ at → IsOneOf [] kinds.Write (next ∷ []) kinds.Write at kind) 1
      with_first_as_cells (
        (λ k q e. inr (sym e, kind_of q)),
        (
          (λ k q e. absurd (another_cell (sym (cell_of q)))),
          (
            (λ k q e. absurd (no_access_of_spawn q)),
            ((λ k q e. inl (sym e, kind_of q)), ((λ k q e. absurd (another_cell (sym (cell_of q)))), tt)),
          ),
        ),
      ) x.0 third x.2 x.1;
}

-- else the law would say that some access is refused there
pub not_its_pairs : HasItsPairs write_read_write 0 with_first_as_cells → ⊥
not_its_pairs pairs =
    let (one, two, k, m, cell, near, stands, refused) =
    (kept_pairs_law two_cells two_cells write_read_write with_first_as_cells write_read_write_judged with_first_judged 0 pairs).0 write_read_write_refused in
    with_first_clean cell refused

-- ---- pairs with no access between them

child_judged : IsJudged two_cells (asked 1 (Read 0) (Value 1) ∷ asked 1 (Write 0 1) Granted ∷ spawned)
unfolding updated
child_judged =
    let j1 = spawns [] nothing_judged 0 refl (record { child = 1; next = 2; join = 3; first = true }) (open_split refl tt refl refl refl) in
    let j2 = write_granted spawned j1 1 refl 0 1 (lit< tt) tt in
    read_granted (asked 1 (Write 0 1) Granted ∷ spawned) j2 1 refl 0 1 (lit< tt) ((λ at rule p. p.0 stay), tt) refl

pub write_then_reads_judged : IsJudged two_cells write_then_reads
unfolding updated
write_then_reads_judged =
    let before = asked 1 (Read 0) (Value 1) ∷ asked 1 (Write 0 1) Granted ∷ spawned in
    read_refused before child_judged 2 refl 0 (record { entry = 2; strand = 1; kind = kinds.Write }) (lit< tt)
    ((0, lit< tt, refl), refl, refl, parallel_in before child_judged 1 2 (inl refl) (inl refl) refl)

pub write_then_reads_refused : HasRefusal write_then_reads 0
write_then_reads_refused = (asked 2 (Read 0) (refused_by 2 1 kinds.Write), kinds.Read, (0, lit< tt, refl), refl, tt)

pub across_near : IsNear write_then_reads 0 (asked 1 (Write 0 1) Granted) kinds.Write (asked 2 (Read 0) (refused_by 2 1 kinds.Write)) kinds.Read
across_near = record {
  later = [];
  between = asked 1 (Read 0) (Value 1) ∷ [];
  earlier = spawned;
  stand = refl;
  first_is = refl;
  second_is = refl;
  conflict = refl;
  none_between = λ entry third h q a b. elim (contains-cases (asked 1 (Read 0) (Value 1)) entry [] h) [
    | inl is ↦ (
        let it : cell_access (Read 0) ≡ Some (access_of third 0) = subst (λ (x : Entry). cell_access x.request.act ≡ Some (access_of third 0)) is q in
        free_no_race (subst (λ z. rule_between z kinds.Read ≡ Race) (kind_of it) b))
    | inr none ↦ none_in entry none
  ];
}

pub neighbours_judged : IsJudged two_cells neighbours_as_cells
unfolding updated
neighbours_judged =
    let h3 = asked 1 (Read 0) (Value 1) ∷ asked 1 (Write 0 1) Granted ∷ spawned in
    let h4 = asked 1 (Read 1) (Value 0) ∷ h3 in
    let j4 = read_granted h3 child_judged 1 refl 1 0 (lit< tt) ((λ at rule p. another_cell (sym at)), ((λ at rule p. another_cell (sym at)), tt)) refl in
    read_granted h4 j4 2 refl 1 0 (lit< tt)
    ((λ at rule p. another_cell (sym at)), ((λ at rule p. another_cell (sym at)), ((λ at rule p. free_no_race rule), tt))) refl

pub neighbours_clean : (cell : ℕ) → HasRefusal neighbours_as_cells cell → ⊥
neighbours_clean c = none_refused c neighbours_as_cells ((λ k q r. r), ((λ k q r. r), ((λ k q r. r), ((λ k q r. r), ((λ k q r. r), tt)))))

pub not_by_neighbours : HasItsPairs write_then_reads 0 neighbours_as_cells → ⊥
not_by_neighbours pairs =
    let (one, two, k, m, cell, near, stands, refused) =
    (kept_pairs_law two_cells two_cells write_then_reads neighbours_as_cells write_then_reads_judged neighbours_judged 0 pairs).0 write_then_reads_refused in
    neighbours_clean cell refused

-- ---- behind another address

pub second_as_first : StandsForPair (control_part both_calls_write) (deed 7 kinds.Write) (deed 8 kinds.Write) called_again 0
unfolding updated
second_as_first = record {
  front = second_call;
  kept_front = [];
  rest = child ∷ [];
  other_rest = next ∷ [];
  strand_at = refl;
  other_at = refl;
  done = (1, refl, (asked 1 (Write 0 1) Granted, (7, lit< tt, refl), refl, refl));
  other_done = (2, refl, (asked 2 (Write 0 2) (refused_by 3 1 kinds.Write), (6, lit< tt, refl), refl, refl));
  only = λ at third x.
      each_access (λ strand kind. address (control_part called_again) strand ≡ at → IsOneOf (child ∷ []) kinds.Write (next ∷ []) kinds.Write at kind) 0
      called_again (
      each_of_first (λ strand kind. address (control_part called_again) strand ≡ at → IsOneOf (child ∷ []) kinds.Write (next ∷ []) kinds.Write at kind) 0
      (λ q e. inl (sym e, refl)) (λ q e. inr (sym e, refl))
      ) x.0 third x.2 x.1;
}
