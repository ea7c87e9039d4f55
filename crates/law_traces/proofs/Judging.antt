-- Steps by which worked histories are judged.
use Rattle.std.proofs.Common.{◌≡◌, inl, inr, ℕ, ◌<◌, true, List, [], ◌∷◌, Some, sym, ap, ◌∙◌, subst}
use Rattle.model_accesses.specs.declared.kind.Kind.{Kind}
use Rattle.model_accesses.specs.declared.kind.Kind.TheVariants as kinds
use Rattle.model_accesses.specs.declared.kind.Rule.TheVariants.{Race}
use Rattle.model_accesses.specs.Table.{rule_between}
use Rattle.model_accesses.specs.Accesses.{Access, Races, access_of_witness}
use Rattle.model_accesses.specs.declared.witness.Witness.{Witness}
use Rattle.model_accesses.specs.declared.request.Act.TheVariants.{Spawn, Sync, Call, Return, Read, Write}
use Rattle.model_strands.specs.History.{History, split, joined, resumed, ended}
use Rattle.model_strands.specs.declared.spawned.Spawned.{Spawned}
use Rattle.model_strands.specs.Strands.{Begun, Running}
use Rattle.model_strands.specs.Legal.{Allowed, function_call}
use Rattle.model_strands.specs.Dag.{IsParallel}
use Rattle.model_strands.specs.Addresses.{address}
use Rattle.law_addresses.specs.Address.{parallel}
use Rattle.law_addresses.proofs.Extremes.{contains-cases}
use Rattle.law_strands.proofs.Orders.{parallel_iff}
use Rattle.model_histories.specs.declared.answer.Answer.TheVariants.{Split, Same, Joined, Resumed, Ended, Granted, Value, Refused}
use Rattle.model_histories.specs.declared.answer.Entry.{Entry}
use Rattle.model_histories.specs.Entries.{Entries, control_part}
use Rattle.model_races.specs.Accesses.{cell_access, granted}
use Rattle.model_races.specs.Memory.{cell_value}
use Rattle.model_races.specs.Races.{HasRace}
use Rattle.model_races.specs.Verdicts.{IsRefused}
use Rattle.model_races.specs.Judged.{IsJudged}
use Rattle.law_traces.specs.Locations.{access_of, Accesses, HasRefusal}
use Rattle.law_traces.specs.Examples.{two_cells, asked}
use Rattle.law_traces.proofs.Histories.{none_in, legal_part}
use Rattle.law_traces.proofs.Locations.{accesses_same}
use Rattle.model_races.specs.declared.access.CellAccess.{CellAccess}

-- none of the accesses races with the new one
abbrev pub AllFree : History → ℕ → Kind → ℕ → List Access → Type 0
AllFree dag strand kind cell [] = Unit {0}
AllFree dag strand kind cell (one ∷ accesses) =
    (one.location ≡ cell → rule_between one.kind kind ≡ Race → IsParallel dag one.strand strand → ⊥) × AllFree dag strand kind cell accesses

pub all_free : (dag : History) (strand : ℕ) (kind : Kind) (cell : ℕ) (accesses : List Access) → AllFree dag strand kind cell accesses →
    HasRace dag accesses strand (access_of kind cell) → ⊥
all_free dag s k c [] free (one, race) = none_in one race.0
all_free dag s k c (a ∷ accesses) free (one, race) = elim (contains-cases a one accesses race.0) [
  | inl is ↦ free.0 (subst (λ (x : Access). x.location ≡ c) is race.1) (subst (λ (x : Access). rule_between x.kind k ≡ Race) is race.2)
      (subst (λ (x : Access). IsParallel dag x.strand s) is race.3)
  | inr t ↦ all_free dag s k c accesses free.1 (one, (t, race.1, race.2, race.3))
]

module _ (entries : Entries) (judged : IsJudged two_cells entries) (strand : ℕ) (runs : Running (control_part entries) strand) where
  pub write_granted : (cell value : ℕ) → cell < 2 → AllFree (control_part entries) strand kinds.Write cell (granted entries) →
      IsJudged two_cells (asked strand (Write cell value) Granted ∷ entries)
  write_granted c v below free = record {
    legal = (judged.legal, record { runs = runs; in_range = below; belongs = tt; allowed = tt });
    memory = (
      judged.memory,
      record {
        refused = ((λ t. absurd t), (λ race. absurd (all_free (control_part entries) strand kinds.Write c (granted entries) free race)));
        witness = tt;
        value = tt;
      },
    );
    reducers = (judged.reducers, tt);
  }

  pub write_refused : (cell value : ℕ) (witness : Witness) → cell < 2 → Races (control_part entries) (granted entries) cell kinds.Write strand (access_of_witness cell witness) →
      IsJudged two_cells (asked strand (Write cell value) (Refused Race witness) ∷ entries)
  write_refused c v w below race = record {
    legal = (judged.legal, record { runs = runs; in_range = below; belongs = tt; allowed = tt });
    memory = (judged.memory, record { refused = ((λ t. (_, race)), (λ r. tt)); witness = (race, sym race.2); value = tt });
    reducers = (judged.reducers, tt);
  }

  pub read_granted : (cell value : ℕ) → cell < 2 → AllFree (control_part entries) strand kinds.Read cell (granted entries) → value ≡ cell_value entries cell →
      IsJudged two_cells (asked strand (Read cell) (Value value) ∷ entries)
  read_granted c v below free is = record {
    legal = (judged.legal, record { runs = runs; in_range = below; belongs = tt; allowed = tt });
    memory = (
      judged.memory,
      record {
        refused = ((λ t. absurd t), (λ race. absurd (all_free (control_part entries) strand kinds.Read c (granted entries) free race)));
        witness = tt;
        value = is;
      },
    );
    reducers = (judged.reducers, tt);
  }

  pub read_refused : (cell : ℕ) (witness : Witness) → cell < 2 → Races (control_part entries) (granted entries) cell kinds.Read strand (access_of_witness cell witness) →
      IsJudged two_cells (asked strand (Read cell) (Refused Race witness) ∷ entries)
  read_refused c w below race = record {
    legal = (judged.legal, record { runs = runs; in_range = below; belongs = tt; allowed = tt });
    memory = (judged.memory, record { refused = ((λ t. (_, race)), (λ r. tt)); witness = (race, sym race.2); value = tt });
    reducers = (judged.reducers, tt);
  }

  pub spawns : (spawned : Spawned) → Allowed (control_part entries) (split strand spawned.child spawned.next spawned.join spawned.first) →
      IsJudged two_cells (asked strand Spawn (Split spawned) ∷ entries)
  spawns x allowed = record {
    legal = (judged.legal, record { runs = runs; in_range = tt; belongs = tt; allowed = allowed });
    memory = (judged.memory, tt);
    reducers = (judged.reducers, tt);
  }

  pub returns : Allowed (control_part entries) (ended strand) → IsJudged two_cells (asked strand Return Ended ∷ entries)
  returns allowed = record {
    legal = (judged.legal, record { runs = runs; in_range = tt; belongs = tt; allowed = allowed });
    memory = (judged.memory, tt);
    reducers = (judged.reducers, tt);
  }

  pub syncs : (join : ℕ) → Allowed (control_part entries) (joined strand join) → IsJudged two_cells (asked strand Sync (Joined join) ∷ entries)
  syncs j allowed = record {
    legal = (judged.legal, record { runs = runs; in_range = tt; belongs = tt; allowed = allowed });
    memory = (judged.memory, tt);
    reducers = (judged.reducers, tt);
  }

  pub calls : IsJudged two_cells (asked strand Call Same ∷ entries)
  calls = record {
    legal = (judged.legal, record { runs = runs; in_range = tt; belongs = tt; allowed = function_call runs });
    memory = (judged.memory, tt);
    reducers = (judged.reducers, tt);
  }

  pub resumes : Allowed (control_part entries) (resumed strand) → IsJudged two_cells (asked strand Return Resumed ∷ entries)
  resumes allowed = record {
    legal = (judged.legal, record { runs = runs; in_range = tt; belongs = tt; allowed = allowed });
    memory = (judged.memory, tt);
    reducers = (judged.reducers, tt);
  }

-- strands are parallel where their addresses are
pub parallel_in : (entries : Entries) → IsJudged two_cells entries → (strand other : ℕ) → Begun (control_part entries) strand → Begun (control_part entries) other →
    parallel (address (control_part entries) strand) (address (control_part entries) other) ≡ true → IsParallel (control_part entries) strand other
parallel_in H j s u bs bu = (parallel_iff (control_part H) (legal_part two_cells H j.legal) s u bs bu).1

-- no entry is a refused access of the cell
abbrev pub NoneRefused : ℕ → Entries → Type 0
NoneRefused cell [] = Unit {0}
NoneRefused cell (entry ∷ entries) =
    ((kind : Kind) → cell_access entry.request.act ≡ Some (access_of kind cell) → IsRefused entry.answer → ⊥) × NoneRefused cell entries

pub none_refused : (cell : ℕ) (entries : Entries) → NoneRefused cell entries → HasRefusal entries cell → ⊥
none_refused c [] none (one, k, h, q, r) = none_in one h
none_refused c (e ∷ H) none (one, k, h, q, r) = elim (contains-cases e one H h) [
  | inl is ↦ none.0 k (subst (λ (x : Entry). cell_access x.request.act ≡ Some (access_of k c)) is q) (subst (λ (x : Entry). IsRefused x.answer) is r)
  | inr t ↦ none_refused c H none.1 (one, k, t, q, r)
]

-- each access of the cell has what the relation says
abbrev pub EachAccess : (ℕ → Kind → Type 0) → ℕ → Entries → Type 0
EachAccess Has cell [] = Unit {0}
EachAccess Has cell (entry ∷ entries) =
    ((kind : Kind) → cell_access entry.request.act ≡ Some (access_of kind cell) → Has entry.request.strand kind) × EachAccess Has cell entries

pub each_access : (Has : ℕ → Kind → Type 0) (cell : ℕ) (entries : Entries) → EachAccess Has cell entries → (strand : ℕ) (kind : Kind) → Accesses entries strand kind cell → Has strand kind
each_access Has c [] each s k (one, h, at, q) = absurd (none_in one h)
each_access Has c (e ∷ H) each s k (one, h, at, q) = elim (contains-cases e one H h) [
  | inl is ↦ subst (λ z. Has z k) (sym (ap (λ (x : Entry). x.request.strand) is) ∙ at)
      (each.0 k (subst (λ (x : Entry). cell_access x.request.act ≡ Some (access_of k c)) is q))
  | inr t ↦ each_access Has c H each.1 s k (one, t, at, q)
]

-- ---- what is the same in each worked history

pub another_cell : ◌≡◌ {A = ℕ} 1 0 → ⊥
another_cell e = absurd (cc)

pub nothing_judged : IsJudged two_cells []
nothing_judged = record { legal = tt; memory = tt; reducers = tt }

pub cell_of : {kind its_kind : Kind} {cell other : ℕ} → Some (access_of its_kind cell) ≡ Some (access_of kind other) → cell ≡ other
cell_of q = ap (λ (z : CellAccess). z.location) (accesses_same q)

pub kind_of : {kind its_kind : Kind} {cell other : ℕ} → Some (access_of its_kind cell) ≡ Some (access_of kind other) → kind ≡ its_kind
kind_of q = sym (ap (λ (z : CellAccess). z.kind) (accesses_same q))

pub no_access_of_spawn : {kind : Kind} {cell : ℕ} → cell_access Spawn ≡ Some (access_of kind cell) → ⊥
no_access_of_spawn q = absurd (cc)

pub no_access_of_sync : {kind : Kind} {cell : ℕ} → cell_access Sync ≡ Some (access_of kind cell) → ⊥
no_access_of_sync q = absurd (cc)

pub no_access_of_return : {kind : Kind} {cell : ℕ} → cell_access Return ≡ Some (access_of kind cell) → ⊥
no_access_of_return q = absurd (cc)

pub no_access_of_call : {kind : Kind} {cell : ℕ} → cell_access Call ≡ Some (access_of kind cell) → ⊥
no_access_of_call q = absurd (cc)
