-- The worked histories are judged, and ask what is said of them.
use Rattle.std.proofs.Common.{◌≡◌, inl, inr, ℕ, true, List, Contains, [], ◌∷◌, refl, sym, ap, subst, lit<, arith}
use Rattle.std.proofs.lemmas.List.Elements.{All-from_recursion}
use Rattle.law_addresses.proofs.Extremes.{contains-cases}
use Rattle.model_accesses.specs.declared.kind.Kind.TheVariants as kind
use Rattle.model_accesses.specs.declared.request.Act.{Act}
use Rattle.model_accesses.specs.Accesses.{Access, Races}
use Rattle.model_strands.specs.Address.{child, next, join}
use Rattle.model_strands.specs.Updated.{updated}
use Rattle.model_strands.specs.History.{split, joined, waits, ended, ended_joined, finished, History}
use Rattle.model_strands.specs.Strands.{Running}
use Rattle.model_strands.specs.Blocks.{root, spawned as spawned_in}
use Rattle.model_strands.specs.Legal.{Allowed, open_split, sync_joined, sync_waits, child_return, last_return, root_return}
use Rattle.model_strands.specs.Dag.{Reaches, stay, step}
use Rattle.law_strands.specs.Examples.{first_spawn, waiting, waiting_sync}
use Rattle.law_strands.proofs.Examples.{examples_law as control_examples}
use Rattle.model_histories.specs.declared.answer.Answer.{Answer}
use Rattle.model_histories.specs.declared.answer.Answer.TheVariants.{Granted, Value}
use Rattle.model_histories.specs.declared.answer.Entry.{Entry}
use Rattle.model_histories.specs.Entries.{Entries, control_part}
use Rattle.model_histories.specs.Extensions.{IsClean, IsCleanAnswer}
use Rattle.model_races.specs.declared.access.CellAccess.{CellAccess}
use Rattle.model_races.specs.Accesses.{granted}
use Rattle.model_races.specs.Races.{HasRace}
use Rattle.model_races.specs.Memory.{cell_value}
use Rattle.model_races.specs.Verdicts.{IsRightVerdict}
use Rattle.model_races.specs.Judged.{IsJudged}
use Rattle.law_interleavings.specs.Asked.{AsksNoMore}
use Rattle.law_interleavings.specs.Examples.{one_cell, asked, spawned, child_wrote, child_first, sync_first, write_first, read_first, AskTheSame, WorkedHistories}
use Rattle.law_interleavings.proofs.Control.{none_listed}
use Rattle.law_interleavings.proofs.Interleavings.{same_strands_law}

-- ---- accesses

abbrev reading : CellAccess
reading = record { kind = kind.Read; location = 0 }

abbrev writing : CellAccess
writing = record { kind = kind.Write; location = 0 }

-- an access behind at most one that is not parallel is granted
module _ (entries : Entries) (strand : ℕ) (new : CellAccess) where
  behind_none : granted entries ≡ [] → HasRace (control_part entries) (granted entries) strand new → ⊥
  behind_none e race = none_listed race.0 (subst (λ list. Contains list race.0) e race.1.0)

  behind_one : (one : Access) → granted entries ≡ one ∷ [] → Reaches (control_part entries) one.strand strand →
      HasRace (control_part entries) (granted entries) strand new → ⊥
  behind_one one e path (access, (listed, at, rule, parallel)) = elim (contains-cases one access [] (subst (λ list. Contains list access) e listed)) [
    | inl q ↦ parallel.0 (subst (λ (a : Access). Reaches (control_part entries) a.strand strand) (sym q) path)
    | inr none ↦ none_listed access none
  ]

  module _ (free : HasRace (control_part entries) (granted entries) strand new → ⊥) where
    write_granted : IsRightVerdict entries strand new Granted
    write_granted = record { refused = ((λ t. absurd t), (λ race. absurd (free race))); witness = tt; value = tt }

    read_granted : (value : ℕ) → value ≡ cell_value entries new.location → IsRightVerdict entries strand new (Value value)
    read_granted value is = record { refused = ((λ t. absurd t), (λ race. absurd (free race))); witness = tt; value = is }

-- ---- what may come

root_runs : Running [] 0
unfolding updated
root_runs = refl

split_allowed : Allowed [] (split 0 1 2 3 true)
unfolding updated
split_allowed = open_split refl tt refl refl refl

child_runs : Running first_spawn 1
unfolding updated
child_runs = refl

next_runs : Running first_spawn 2
unfolding updated
next_runs = refl

abbrev child_returned : History
child_returned = ended 1 ∷ first_spawn

abbrev after_join : History
after_join = joined 2 3 ∷ child_returned

ended_allowed : Allowed first_spawn (ended 1)
unfolding updated
ended_allowed = child_return {number = 1} {join = 3} refl refl (λ last. absurd last.0)

next_runs_on : Running child_returned 2
unfolding updated
next_runs_on = refl

joined_allowed : Allowed child_returned (joined 2 3)
unfolding updated
joined_allowed =
    sync_joined {join = 3} {below = root} refl refl
    (λ number out. elim out.1 [ inl t ↦ out.0 (ap (λ n. spawned_in n 3) (sym t.0)) | inr none ↦ absurd none ])

join_runs : Running after_join 3
unfolding updated
join_runs = refl

finished_allowed : Allowed after_join (finished 3)
unfolding updated
finished_allowed = root_return refl refl

child_reaches : Reaches after_join 1 3
unfolding updated
child_reaches = step (inr (inr (inl (refl, refl)), inl refl)) stay

waits_allowed : Allowed first_spawn (waits 2)
unfolding updated
waits_allowed = sync_waits {join = 3} {below = root} refl refl 1 (inl (refl, refl))

waited_for_runs : Running waiting 1
unfolding updated
waited_for_runs = refl

last_allowed : Allowed waiting (ended_joined 1 3)
unfolding updated
last_allowed = last_return {number = 1} refl refl (inl refl, (λ m o. elim o [ inl t ↦ t.0 | inr t ↦ absurd t ]))

waited_finished : Allowed waiting_sync (finished 3)
unfolding updated
waited_finished = root_return refl refl

-- ---- judged

spawned_judged : IsJudged one_cell spawned
spawned_judged = record {
  legal = (tt, record { runs = root_runs; in_range = tt; belongs = tt; allowed = split_allowed });
  memory = (tt, tt);
  reducers = (tt, tt);
}

child_judged : (value : ℕ) → IsJudged one_cell (child_wrote value)
child_judged value =
    let before = spawned_judged in
    record {
      legal = (before.legal, record { runs = child_runs; in_range = lit< tt; belongs = tt; allowed = tt });
      memory = (before.memory, write_granted spawned 1 writing (behind_none spawned 1 writing refl));
      reducers = (before.reducers, tt);
    }

abbrev child_access : (number : ℕ) → Access
child_access number = record { strand = 1; kind = kind.Write; location = 0; entry = number }

child_first_judged : IsJudged one_cell child_first
child_first_judged =
    let before = child_judged 7 in
    let synced : Entries = asked 2 Act.Sync (Answer.Joined 3) ∷ asked 1 Act.Return Answer.Ended ∷ child_wrote 7 in
    record {
      legal = (
        (
          (
            (before.legal, record { runs = child_runs; in_range = tt; belongs = tt; allowed = ended_allowed }),
            record { runs = next_runs_on; in_range = tt; belongs = tt; allowed = joined_allowed },
          ),
          record { runs = join_runs; in_range = lit< tt; belongs = tt; allowed = tt },
        ),
        record { runs = join_runs; in_range = tt; belongs = tt; allowed = finished_allowed },
      );
      memory = ((((before.memory, tt), tt), read_granted synced 3 reading (behind_one synced 3 reading (child_access 2) refl child_reaches) 7 refl), tt);
      reducers = ((((before.reducers, tt), tt), tt), tt);
    }

sync_first_judged : IsJudged one_cell sync_first
sync_first_judged =
    let before = spawned_judged in
    let paused : Entries = asked 2 Act.Sync Answer.Waits ∷ spawned in
    let synced : Entries = asked 1 Act.Return (Answer.EndedJoined 3) ∷ asked 1 (Act.Write 0 7) Granted ∷ paused in
    record {
      legal = (
        (
          (
            (
              (before.legal, record { runs = next_runs; in_range = tt; belongs = tt; allowed = waits_allowed }),
              record { runs = waited_for_runs; in_range = lit< tt; belongs = tt; allowed = tt },
            ),
            record { runs = waited_for_runs; in_range = tt; belongs = tt; allowed = last_allowed },
          ),
          record { runs = control_examples.join_runs; in_range = lit< tt; belongs = tt; allowed = tt },
        ),
        record { runs = control_examples.join_runs; in_range = tt; belongs = tt; allowed = waited_finished },
      );
      memory = (
        (
          (
            ((before.memory, tt), write_granted paused 1 writing (behind_none paused 1 writing refl)),
            tt,
          ),
          read_granted synced 3 reading (behind_one synced 3 reading (child_access 3) refl control_examples.child_reaches_join) 7 refl,
        ),
        tt,
      );
      reducers = (((((before.reducers, tt), tt), tt), tt), tt);
    }

write_races : Races first_spawn (granted (child_wrote 7)) 0 kind.Read 2 (child_access 2)
write_races = ((0, lit< tt, refl), refl, refl, control_examples.sides_parallel)

write_first_judged : IsJudged one_cell write_first
write_first_judged =
    let before = child_judged 7 in
    record {
      legal = (before.legal, record { runs = next_runs; in_range = lit< tt; belongs = tt; allowed = tt });
      memory = (before.memory, record { refused = ((λ t. (_, write_races)), (λ race. tt)); witness = (write_races, refl); value = tt });
      reducers = (before.reducers, tt);
    }

abbrev read_before : Entries
read_before = asked 2 (Act.Read 0) (Value 0) ∷ spawned

abbrev next_access : Access
next_access = record { strand = 2; kind = kind.Read; location = 0; entry = 2 }

read_races : Races first_spawn (granted read_before) 0 kind.Write 1 next_access
read_races = ((0, lit< tt, refl), refl, refl, (control_examples.sides_parallel.1, control_examples.sides_parallel.0))

read_first_judged : IsJudged one_cell read_first
read_first_judged =
    let before = spawned_judged in
    record {
      legal = (
        (before.legal, record { runs = next_runs; in_range = lit< tt; belongs = tt; allowed = tt }),
        record { runs = child_runs; in_range = lit< tt; belongs = tt; allowed = tt },
      );
      memory = (
        (before.memory, read_granted spawned 2 reading (behind_none spawned 2 reading refl) 0 refl),
        record { refused = ((λ t. (_, read_races)), (λ race. tt)); witness = (read_races, refl); value = tt },
      );
      reducers = ((before.reducers, tt), tt);
    }

-- ---- what they ask

sync_first_asks : AskTheSame sync_first child_first
unfolding updated
sync_first_asks [] = refl
sync_first_asks (child ∷ []) = refl
sync_first_asks (child ∷ word ∷ place) = refl
sync_first_asks (next ∷ []) = refl
sync_first_asks (next ∷ word ∷ place) = refl
sync_first_asks (join ∷ []) = refl
sync_first_asks (join ∷ word ∷ place) = refl

races_ask : AskTheSame read_first write_first
unfolding updated
races_ask [] = refl
races_ask (child ∷ []) = refl
races_ask (child ∷ word ∷ place) = refl
races_ask (next ∷ []) = refl
races_ask (next ∷ word ∷ place) = refl
races_ask (join ∷ place) = refl

other_act : (later : List Act) → Act.Write 0 8 ∷ later ≡ Act.Write 0 7 ∷ Act.Return ∷ [] → ⊥
other_act later e = let f : ◌≡◌ {A = ℕ} 8 7 = cc in absurd (omega (arith, f))

other_value_asks : AsksNoMore (child_wrote 8) child_first → ⊥
unfolding updated
other_value_asks asks = let there = asks (child ∷ []) in other_act there.0 there.1

child_first_clean : IsClean child_first
child_first_clean = All-from_recursion (λ (entry : Entry). IsCleanAnswer entry.answer) child_first (tt, (tt, (tt, (tt, (tt, (tt, tt))))))

pub examples_law : WorkedHistories
examples_law =
    let alike = same_strands_law one_cell child_first child_first_judged child_first_clean sync_first sync_first_judged sync_first_asks in
    record {
      child_first_judged = child_first_judged;
      child_first_clean = child_first_clean;
      child_first_finished = tt;
      sync_first_judged = sync_first_judged;
      sync_first_asks = sync_first_asks;
      sync_first_clean = alike.0;
      sync_first_holds = alike.2 0 (lit< tt);
      other_value_judged = child_judged 8;
      other_value_asks = other_value_asks;
      other_value_holds = refl;
      write_first_judged = write_first_judged;
      read_first_judged = read_first_judged;
      races_ask = races_ask;
      write_first_refuses = λ clean. clean 0 (asked 0 Act.Sync Answer.Same) (lit< tt);
      read_first_refuses = λ clean. clean 0 (asked 0 Act.Sync Answer.Same) (lit< tt);
      write_first_holds = refl;
      read_first_holds = refl;
    }
