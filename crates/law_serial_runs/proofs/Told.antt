-- The gate has an answer to each access of each run.
-- E: entries; j: that they are judged; s: a strand; l, L: locations; n: how many locations there are; d: what is answered so far
use Rattle.std.proofs.Common.{◌≡◌, ◌≢◌, ◌⊎◌, inl, inr, ℕ, ◌*◌, ◌<◌, eqb, List, [], ◌∷◌, Some, Contains, refl, sym, ap, ◌∙◌, subst, arith}
use Rattle.std.specs.Prelude.{if◌then◌else◌}
use Rattle.std.proofs.lemmas.Bool.{cases_Bool}
use Rattle.std.proofs.lemmas.Option.{none-some}
use Rattle.std.proofs.lemmas.Bool.Decides.{eqb_tells}
use Rattle.model_strands.specs.History.{Event, split, same, joined, waits, call, resumed, ended, ended_joined, finished, History}
use Rattle.model_strands.specs.Strands.{Running, Begun}
use Rattle.model_strands.specs.Legal.{Allowed}
use Rattle.model_strands.specs.Dag.{IsParallel}
use Rattle.model_strands.specs.Addresses.{address}
use Rattle.law_addresses.specs.Address.{parallel}
use Rattle.law_addresses.proofs.Extremes.{contains-head, contains-tail, contains-cases}
use Rattle.law_strands.proofs.Decisions.{both}
use Rattle.law_strands.proofs.Orders.{parallel_iff}
use Rattle.law_strands.proofs.Updates.{same_or_not}
use Rattle.model_accesses.specs.declared.kind.Kind.{Kind}
use Rattle.model_accesses.specs.declared.kind.Kind.TheVariants as kind
use Rattle.model_accesses.specs.declared.kind.Rule.{Rule}
use Rattle.model_accesses.specs.declared.kind.Rule.TheVariants.{Free, Race, View}
use Rattle.model_accesses.specs.Table.{rule_between}
use Rattle.model_accesses.specs.Accesses.{Access}
use Rattle.model_accesses.specs.declared.witness.Witness.{Witness}
use Rattle.model_accesses.specs.declared.request.Act.{Act}
use Rattle.model_accesses.specs.declared.request.Act.TheVariants as act
use Rattle.model_histories.specs.declared.answer.Answer.{Answer}
use Rattle.model_histories.specs.declared.answer.Answer.TheVariants as answer
use Rattle.model_histories.specs.declared.answer.Entry.{Entry}
use Rattle.model_histories.specs.Entries.{Entries, event_of, with_event, control_part}
use Rattle.model_histories.specs.Shapes.{Shape}
use Rattle.model_races.specs.declared.access.CellAccess.{CellAccess}
use Rattle.model_races.specs.Accesses.{cell_access, granted}
use Rattle.model_races.specs.Memory.{cell_value}
use Rattle.model_races.specs.Races.{HasRace, IsTrueWitness}
use Rattle.model_races.specs.Judged.{IsJudged}
use Rattle.law_traces.specs.Locations.{access_of}
use Rattle.law_traces.proofs.Histories.{none_in, legal_part, begun_by}
use Rattle.law_traces.proofs.Locations.{asked_access}
use Rattle.model_serial_runs.specs.declared.access_kind.AccessKind.{AccessKind}
use Rattle.model_serial_runs.specs.declared.access_kind.AccessKind.TheVariants.{Read, Load, Update, Write}
use Rattle.law_serial_runs.specs.Accesses.{first_cell, second_cell, Moment, IsElsewhere, Tells, told_nothing, told_elsewhere, told_read, told_load, told_update, told_write}
use Rattle.law_serial_runs.specs.Told.{Step, controls, accesses, history_of, IsRun, moments_of}
use Rattle.law_serial_runs.specs.Laws.{AnswersLaw}
use Rattle.law_serial_runs.proofs.Stays.{event_runs}
use Rattle.law_serial_runs.proofs.Gate.{not_there, gate_law}

abbrev entry_with : ℕ → Act → Answer → Entry
entry_with strand what said = record { request = record { strand = strand; line = 1; act = what }; answer = said }

-- Control events

abbrev entry_of : Event → Entry
entry_of (split s c n j first) = entry_with s act.Spawn (answer.Split (record { child = c; next = n; join = j; first = first }))
entry_of (same s) = entry_with s act.Sync answer.Same
entry_of (joined s j) = entry_with s act.Sync (answer.Joined j)
entry_of (waits s) = entry_with s act.Sync answer.Waits
entry_of (call s) = entry_with s act.Call answer.Same
entry_of (resumed s) = entry_with s act.Return answer.Resumed
entry_of (ended s) = entry_with s act.Return answer.Ended
entry_of (ended_joined s j) = entry_with s act.Return (answer.EndedJoined j)
entry_of (finished s) = entry_with s act.Return answer.Finished

event_is : (event : Event) → event_of (entry_of event) ≡ Some event
event_is (split s c n j first) = refl
event_is (same s) = refl
event_is (joined s j) = refl
event_is (waits s) = refl
event_is (call s) = refl
event_is (resumed s) = refl
event_is (ended s) = refl
event_is (ended_joined s j) = refl
event_is (finished s) = refl

no_cell : (event : Event) (cell : ℕ) → IsElsewhere (entry_of event) cell
no_cell (split s c n j first) cell k e = none-some _ e
no_cell (same s) cell k e = none-some _ e
no_cell (joined s j) cell k e = none-some _ e
no_cell (waits s) cell k e = none-some _ e
no_cell (call s) cell k e = none-some _ e
no_cell (resumed s) cell k e = none-some _ e
no_cell (ended s) cell k e = none-some _ e
no_cell (ended_joined s j) cell k e = none-some _ e
no_cell (finished s) cell k e = none-some _ e

abbrev shape_of : ℕ → Shape
shape_of locations = record { cells = 2 * locations; monoids = [] }

-- what is answered to an access
record IsSaid (locations : ℕ) (entries : Entries) (strand : ℕ) (what : Act) : Type 0 where
  said : Answer
  judged : IsJudged (shape_of locations) (entry_with strand what said ∷ entries)

module _ (locations : ℕ) (entries : Entries) (judged : IsJudged (shape_of locations) entries) where
  event_judged : (event : Event) → Allowed (control_part entries) event → IsJudged (shape_of locations) (entry_of event ∷ entries)
  event_judged (split s c n j first) a = record {
    legal = (judged.legal, record { runs = event_runs (split s c n j first) a; in_range = tt; belongs = tt; allowed = a });
    memory = (judged.memory, tt);
    reducers = (judged.reducers, tt);
  }
  event_judged (same s) a = record {
    legal = (judged.legal, record { runs = event_runs (same s) a; in_range = tt; belongs = tt; allowed = a });
    memory = (judged.memory, tt);
    reducers = (judged.reducers, tt);
  }
  event_judged (joined s j) a = record {
    legal = (judged.legal, record { runs = event_runs (joined s j) a; in_range = tt; belongs = tt; allowed = a });
    memory = (judged.memory, tt);
    reducers = (judged.reducers, tt);
  }
  event_judged (waits s) a = record {
    legal = (judged.legal, record { runs = event_runs (waits s) a; in_range = tt; belongs = tt; allowed = a });
    memory = (judged.memory, tt);
    reducers = (judged.reducers, tt);
  }
  event_judged (call s) a = record {
    legal = (judged.legal, record { runs = event_runs (call s) a; in_range = tt; belongs = tt; allowed = a });
    memory = (judged.memory, tt);
    reducers = (judged.reducers, tt);
  }
  event_judged (resumed s) a = record {
    legal = (judged.legal, record { runs = event_runs (resumed s) a; in_range = tt; belongs = tt; allowed = a });
    memory = (judged.memory, tt);
    reducers = (judged.reducers, tt);
  }
  event_judged (ended s) a = record {
    legal = (judged.legal, record { runs = event_runs (ended s) a; in_range = tt; belongs = tt; allowed = a });
    memory = (judged.memory, tt);
    reducers = (judged.reducers, tt);
  }
  event_judged (ended_joined s j) a = record {
    legal = (judged.legal, record { runs = event_runs (ended_joined s j) a; in_range = tt; belongs = tt; allowed = a });
    memory = (judged.memory, tt);
    reducers = (judged.reducers, tt);
  }
  event_judged (finished s) a = record {
    legal = (judged.legal, record { runs = event_runs (finished s) a; in_range = tt; belongs = tt; allowed = a });
    memory = (judged.memory, tt);
    reducers = (judged.reducers, tt);
  }

  -- the accesses that were granted are of strands that have begun
  granted_begun : (access : Access) → Contains (granted entries) access → Begun (control_part entries) access.strand
  granted_begun a h = let asks = asked_access entries a h in subst (Begun (control_part entries)) asks.2 (begun_by (shape_of locations) entries judged.legal asks.0 asks.1)

  race_or_not : (strand : ℕ) → Begun (control_part entries) strand → (new : CellAccess) → (list : List Access) →
      ((access : Access) → Contains list access → Begun (control_part entries) access.strand) →
      HasRace (control_part entries) list strand new ⊎ (HasRace (control_part entries) list strand new → ⊥)
  race_or_not s b new [] begun = inr (λ t. none_in t.0 t.1.0)
  race_or_not s b new (a ∷ list) begun =
      go (both (same_or_not a.location new.location) (both (race_rule (rule_between a.kind new.kind)) (apart a (begun a (contains-head a list)))))
      (race_or_not s b new list (λ x m. begun x (contains-tail a x list m)))
    where
      race_rule : (rule : Rule) → (rule ≡ Race) ⊎ (rule ≡ Race → ⊥)
      race_rule Free = inr (λ e. cc)
      race_rule Race = inl refl
      race_rule View = inr (λ e. cc)

      apart : (access : Access) → Begun (control_part entries) access.strand →
          IsParallel (control_part entries) access.strand s ⊎ (IsParallel (control_part entries) access.strand s → ⊥)
      apart x bx =
          let tests = parallel_iff (control_part entries) (legal_part (shape_of locations) entries judged.legal) x.strand s bx b in
          elim (cases_Bool (parallel (address (control_part entries) x.strand) (address (control_part entries) s))) [
            | inl t ↦ inl (tests.1 t)
            | inr f ↦ inr (λ p. let t = tests.0 p in cc)
          ]

      go : ((a.location ≡ new.location) × ((rule_between a.kind new.kind ≡ Race) × IsParallel (control_part entries) a.strand s)) ⊎
          ((a.location ≡ new.location) × ((rule_between a.kind new.kind ≡ Race) × IsParallel (control_part entries) a.strand s) → ⊥) →
          HasRace (control_part entries) list s new ⊎ (HasRace (control_part entries) list s new → ⊥) →
          HasRace (control_part entries) (a ∷ list) s new ⊎ (HasRace (control_part entries) (a ∷ list) s new → ⊥)
      go (inl t) older = inl (a, (contains-head a list, t.0, t.1.0, t.1.1))
      go (inr no_new) (inl t) = inl (t.0, (contains-tail a t.0 list t.1.0, t.1.1, t.1.2, t.1.3))
      go (inr no_new) (inr no_old) = inr (λ t. elim (contains-cases a t.0 list t.1.0) [
        | inl e ↦ no_new (subst (λ (x : Access). (x.location ≡ new.location) × ((rule_between x.kind new.kind ≡ Race) × IsParallel (control_part entries) x.strand s)) e
            (t.1.1, (t.1.2, t.1.3)))
        | inr k ↦ no_old (t.0, (k, t.1.1, t.1.2, t.1.3))
      ])

  -- it names the access with which the new one races
  abbrev named : Access → Witness
  named access = record { entry = access.entry; strand = access.strand; kind = access.kind }

  true_witness : (strand : ℕ) (new : CellAccess) → (race : HasRace (control_part entries) (granted entries) strand new) →
      IsTrueWitness (control_part entries) (granted entries) strand new Race (named race.0)
  true_witness s new (a, (h, at, rule, p)) = (
    (
      subst (Contains (granted entries)) (ap (λ z. record { strand = a.strand; kind = a.kind; location = z; entry = a.entry }) at) h,
      refl,
      rule,
      p,
    ),
    sym rule,
  )

  read_said : (strand cell : ℕ) → Running (control_part entries) strand → cell < 2 * locations → IsSaid locations entries strand (act.Read cell)
  read_said s c run below = go (race_or_not s (inl run) (access_of kind.Read c) (granted entries) granted_begun)
    where
      go : HasRace (control_part entries) (granted entries) s (access_of kind.Read c) ⊎ (HasRace (control_part entries) (granted entries) s (access_of kind.Read c) → ⊥) →
          IsSaid locations entries s (act.Read c)
      go (inl race) = record {
        said = answer.Refused Race (named race.0);
        judged = record {
          legal = (judged.legal, record { runs = run; in_range = below; belongs = tt; allowed = tt });
          memory = (
            judged.memory,
            record { refused = ((λ t. race), (λ r. tt)); witness = true_witness s (access_of kind.Read c) race; value = tt },
          );
          reducers = (judged.reducers, tt);
        };
      }
      go (inr none) = record {
        said = answer.Value (cell_value entries c);
        judged = record {
          legal = (judged.legal, record { runs = run; in_range = below; belongs = tt; allowed = tt });
          memory = (judged.memory, record { refused = ((λ t. absurd t), (λ race. absurd (none race))); witness = tt; value = refl });
          reducers = (judged.reducers, tt);
        };
      }

  write_said : (strand cell value : ℕ) → Running (control_part entries) strand → cell < 2 * locations → IsSaid locations entries strand (act.Write cell value)
  write_said s c v run below = go (race_or_not s (inl run) (access_of kind.Write c) (granted entries) granted_begun)
    where
      go : HasRace (control_part entries) (granted entries) s (access_of kind.Write c) ⊎ (HasRace (control_part entries) (granted entries) s (access_of kind.Write c) → ⊥) →
          IsSaid locations entries s (act.Write c v)
      go (inl race) = record {
        said = answer.Refused Race (named race.0);
        judged = record {
          legal = (judged.legal, record { runs = run; in_range = below; belongs = tt; allowed = tt });
          memory = (
            judged.memory,
            record { refused = ((λ t. race), (λ r. tt)); witness = true_witness s (access_of kind.Write c) race; value = tt },
          );
          reducers = (judged.reducers, tt);
        };
      }
      go (inr none) = record {
        said = answer.Granted;
        judged = record {
          legal = (judged.legal, record { runs = run; in_range = below; belongs = tt; allowed = tt });
          memory = (judged.memory, record { refused = ((λ t. absurd t), (λ race. absurd (none race))); witness = tt; value = tt });
          reducers = (judged.reducers, tt);
        };
      }

  bump_said : (strand cell value : ℕ) → Running (control_part entries) strand → cell < 2 * locations → IsSaid locations entries strand (act.Bump cell value)
  bump_said s c v run below = go (race_or_not s (inl run) (access_of kind.Bump c) (granted entries) granted_begun)
    where
      go : HasRace (control_part entries) (granted entries) s (access_of kind.Bump c) ⊎ (HasRace (control_part entries) (granted entries) s (access_of kind.Bump c) → ⊥) →
          IsSaid locations entries s (act.Bump c v)
      go (inl race) = record {
        said = answer.Refused Race (named race.0);
        judged = record {
          legal = (judged.legal, record { runs = run; in_range = below; belongs = tt; allowed = tt });
          memory = (
            judged.memory,
            record { refused = ((λ t. race), (λ r. tt)); witness = true_witness s (access_of kind.Bump c) race; value = tt },
          );
          reducers = (judged.reducers, tt);
        };
      }
      go (inr none) = record {
        said = answer.Granted;
        judged = record {
          legal = (judged.legal, record { runs = run; in_range = below; belongs = tt; allowed = tt });
          memory = (judged.memory, record { refused = ((λ t. absurd t), (λ race. absurd (none race))); witness = tt; value = tt });
          reducers = (judged.reducers, tt);
        };
      }

-- The whole run

record IsTold (locations : ℕ) (steps : List Step) : Type 0 where
  entries : Entries
  judged : IsJudged (shape_of locations) entries
  control : control_part entries ≡ history_of steps
  told : (location : ℕ) → Tells location entries (moments_of steps location)

-- the accesses of one location with one more of this or of another location
told_at : (own location : ℕ) {entries : Entries} (new : Moment) (moments : List Moment) → (own ≡ location → Tells location entries (new ∷ moments)) →
    (own ≢ location → Tells location entries moments) → Tells location entries (if eqb own location then new ∷ moments else moments)
told_at l L m ms here there = elim (eqb_tells l L) [ inl t ↦ rw t.0 (here t.1) | inr t ↦ rw t.0 (there t.1) ]

first_apart : (own location : ℕ) → own ≢ location → first_cell own ≢ first_cell location
first_apart l L ne e = ne (omega arith)

second_apart : (own location : ℕ) → own ≢ location → second_cell own ≢ second_cell location
second_apart l L ne e = ne (omega arith)

cells_apart : (own location : ℕ) → first_cell own ≢ second_cell location
cells_apart l L e = omega arith

abbrev moment_at : History → (strand site : ℕ) → AccessKind → Moment
moment_at history strand site kind = record { history = history; access = record { strand = strand; site = site; kind = kind } }

-- an entry on the first cell of another location, and on the second
off_first : (own location : ℕ) (entry : Entry) {kind : Kind} → cell_access entry.request.act ≡ Some (access_of kind (first_cell own)) → own ≢ location →
    IsElsewhere entry (first_cell location) × IsElsewhere entry (second_cell location)
off_first l L e q ne = (not_there e q (first_apart l L ne), not_there e q (cells_apart l L))

off_second : (own location : ℕ) (entry : Entry) {kind : Kind} → cell_access entry.request.act ≡ Some (access_of kind (second_cell own)) → own ≢ location →
    IsElsewhere entry (first_cell location) × IsElsewhere entry (second_cell location)
off_second l L e q ne = (not_there e q (λ t. cells_apart L l (sym t)), not_there e q (second_apart l L ne))

module _ (n : ℕ) (steps : List Step) (d : IsTold n steps) (own strand site : ℕ) (below : own < n) (runs : Running (history_of steps) strand) where
  here : Running (control_part d.entries) strand
  here = subst (λ z. Running z strand) (sym d.control) runs

  one_more : (kind : AccessKind) (entries : Entries) → Tells own entries (moment_at (control_part d.entries) strand site kind ∷ moments_of steps own) →
      ((location : ℕ) → own ≢ location → Tells location entries (moments_of steps location)) → (location : ℕ) →
      Tells location entries (moments_of (accesses own strand site kind ∷ steps) location)
  one_more k E new others L =
      told_at own L (moment_at (history_of steps) strand site k) (moments_of steps L)
      (λ e. subst (λ z. Tells z E (moment_at (history_of steps) strand site k ∷ moments_of steps z)) e
      (subst (λ z. Tells own E (moment_at z strand site k ∷ moments_of steps own)) d.control new))
      (others L)

  told_more : (kind : AccessKind) → IsTold n (accesses own strand site kind ∷ steps)
  told_more Read =
      let x = read_said n d.entries d.judged strand (first_cell own) here (omega arith) in
      let e : Entry = entry_with strand (act.Read (first_cell own)) x.said in
      record {
        entries = e ∷ d.entries;
        judged = x.judged;
        control = d.control;
        told = one_more Read (e ∷ d.entries) (told_read (d.told own) refl)
            (λ L ne. let off = off_first own L e refl ne in told_elsewhere (d.told L) off.0 off.1);
      }
  told_more Load =
      let x = read_said n d.entries d.judged strand (second_cell own) here (omega arith) in
      let e : Entry = entry_with strand (act.Read (second_cell own)) x.said in
      record {
        entries = e ∷ d.entries;
        judged = x.judged;
        control = d.control;
        told = one_more Load (e ∷ d.entries) (told_load (d.told own) refl)
            (λ L ne. let off = off_second own L e refl ne in told_elsewhere (d.told L) off.0 off.1);
      }
  told_more Update =
      let x = bump_said n d.entries d.judged strand (first_cell own) 0 here (omega arith) in
      let e : Entry = entry_with strand (act.Bump (first_cell own) 0) x.said in
      record {
        entries = e ∷ d.entries;
        judged = x.judged;
        control = d.control;
        told = one_more Update (e ∷ d.entries) (told_update (d.told own) refl)
            (λ L ne. let off = off_first own L e refl ne in told_elsewhere (d.told L) off.0 off.1);
      }
  told_more Write =
      let x = write_said n d.entries d.judged strand (first_cell own) 0 here (omega arith) in
      let e : Entry = entry_with strand (act.Write (first_cell own) 0) x.said in
      let y = write_said n (e ∷ d.entries) x.judged strand (second_cell own) 0 here (omega arith) in
      let f : Entry = entry_with strand (act.Write (second_cell own) 0) y.said in
      record {
        entries = f ∷ e ∷ d.entries;
        judged = y.judged;
        control = d.control;
        told = one_more Write (f ∷ e ∷ d.entries) (told_write (d.told own) refl refl refl)
            (λ L ne.
            let off_e = off_first own L e refl ne in
            let off_f = off_second own L f refl ne in
            told_elsewhere (told_elsewhere (d.told L) off_e.0 off_e.1) off_f.0 off_f.1);
      }

told_event : (n : ℕ) (steps : List Step) (event : Event) → IsTold n steps → Allowed (history_of steps) event → IsTold n (controls event ∷ steps)
told_event n steps e d a = record {
  entries = entry_of e ∷ d.entries;
  judged = event_judged n d.entries d.judged e (subst (λ z. Allowed z e) (sym d.control) a);
  control = ap (λ z. with_event z (control_part d.entries)) (event_is e) ∙ ap (λ z. e ∷ z) d.control;
  told = λ L. told_elsewhere (d.told L) (no_cell e (first_cell L)) (no_cell e (second_cell L));
}

all_told : (n : ℕ) (steps : List Step) → IsRun n steps → IsTold n steps
all_told n [] r = record { entries = []; judged = record { legal = tt; memory = tt; reducers = tt }; control = refl; told = λ L. told_nothing }
all_told n (controls e ∷ steps) r = told_event n steps e (all_told n steps r.0) r.1
all_told n (accesses l s site k ∷ steps) r = told_more n steps (all_told n steps r.0) l s site r.1 r.2 k

pub answers_law : AnswersLaw
answers_law n steps r =
    let d = all_told n steps r in
    record {
      shape = shape_of n;
      entries = d.entries;
      judged = d.judged;
      control = d.control;
      told = d.told;
      races = λ L. gate_law (shape_of n) d.entries d.judged L (moments_of steps L) (d.told L);
    }
