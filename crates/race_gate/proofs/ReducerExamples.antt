-- The worked histories of a reducer are judged, and the wrong answers in them are not.
use Rattle.std.proofs.Common.{◌≡◌, inl, inr, ℕ, true, false, [], ◌∷◌, refl, sym, ap, ◌∙◌, subst, lit<}
use Rattle.model_accesses.specs.declared.kind.Kind.TheVariants as kind
use Rattle.model_accesses.specs.declared.kind.Rule.{Rule}
use Rattle.model_accesses.specs.declared.kind.Rule.TheVariants.{View}
use Rattle.model_accesses.specs.Table.{is_reducer_read}
use Rattle.model_reducers.specs.declared.monoid.Monoid.TheVariants.{Sum}
use Rattle.model_accesses.specs.declared.request.Act.TheVariants.{Sync, Return, Get}
use Rattle.law_addresses.proofs.Extremes.{contains-head, contains-cases}
use Rattle.model_strands.specs.Updated.{updated}
use Rattle.model_strands.specs.History.{History, split, joined, ended}
use Rattle.model_strands.specs.Strands.{Running, Begun}
use Rattle.model_strands.specs.Blocks.{root, spawned as spawned_in}
use Rattle.model_strands.specs.Legal.{Allowed, Legal, next_split, sync_joined, child_return, start, then}
use Rattle.law_strands.specs.Branches.{trunk, right, branch}
use Rattle.model_strands.specs.Peers.{HaveSamePeers}
use Rattle.law_strands.specs.Examples.{first_spawn}
use Rattle.law_strands.proofs.Branches.{branch_law}
use Rattle.law_strands.proofs.Finish.{finish_law}
use Rattle.model_accesses.specs.declared.witness.Witness.{Witness}
use Rattle.model_accesses.specs.Reads.{ReducerRead, IsReadOf}
use Rattle.view_read_rule.specs.Reads.{AreOfOneBranch}
use Rattle.model_reducers.specs.Entries.{put_entry, strand_of}
use Rattle.model_reducers.specs.Steps.{Steps, control, update, put, other}
use Rattle.law_values.specs.Accesses.{AreLegal}
use Rattle.reducer_views.specs.Held.{AreNumbers}
use Rattle.model_histories.specs.declared.answer.Answer.TheVariants.{Joined, Ended, Granted, Value, Refused}
use Rattle.model_histories.specs.Entries.{Entries}
use Rattle.model_races.specs.ViewReads.{Completes, IsRightRead}
use Rattle.model_races.specs.ReducerVerdicts.{IsGetValue}
use Rattle.race_gate.specs.Books.{PutsAreRead}
use Rattle.model_races.specs.Judged.{IsJudged}
use Rattle.race_gate.specs.Examples.{asked}
use Rattle.race_gate.specs.ReducerExamples.{one_sum, added_by_child, refused_by_put, early_get, grown_peers, WorkedReducers}
use Rattle.race_gate.proofs.Races.{none-listed}
use Rattle.race_gate.proofs.WorkedSteps.{root_runs, split_allowed, first_spawn_legal, child_runs, next_runs}
use Rattle.race_gate.proofs.Reading.{granted-right, refused-read}
use Rattle.race_gate.proofs.Getting.{get-value}

-- ---- one read that was granted

put_is_no_get : kind.Put ≡ kind.Get → ⊥
put_is_no_get e = absurd (cc)

-- the first put of a reducer is granted
first_put : (history : History) (strand : ℕ) → Legal history → Begun history strand → IsRightRead history [] strand 0 kind.Put Granted
first_put history strand legal begun =
    granted-right history [] strand 0 kind.Put legal
    (record { begun = λ read is. absurd (none-listed read is.0); one_branch = λ first second is also. absurd (none-listed first is.0) })
    begun Granted (record { same_branch = λ read is. absurd (none-listed read is.0); found = λ e. absurd (put_is_no_get e) }) refl

only : (one read : ReducerRead) → IsReadOf (one ∷ []) 0 read → read ≡ one
only one read is = elim (contains-cases one read [] is.0) [ inl e ↦ e | inr none ↦ absurd (none-listed read none) ]

module _ (history : History) (legal : Legal history) (one : ReducerRead) (begun : Begun history one.strand) where
  of_one_branch : AreOfOneBranch history (one ∷ []) 0
  of_one_branch = record {
    begun = λ read is. subst (λ (r : ReducerRead). Begun history r.strand) (sym (only one read is)) begun;
    one_branch = λ first second is also. ap (λ (r : ReducerRead). branch history r.strand) (only one first is ∙ sym (only one second also));
  }

  -- a get by a strand of its branch is granted
  granted_get : (strand value : ℕ) → Begun history strand → branch history one.strand ≡ branch history strand → one.reducer ≡ 0 →
      IsRightRead history (one ∷ []) strand 0 kind.Get (Value value)
  granted_get strand value there alike is =
      granted-right history (one ∷ []) strand 0 kind.Get legal of_one_branch there (Value value)
      (record { same_branch = λ read listed. ap (λ (r : ReducerRead). branch history r.strand) (only one read listed) ∙ alike; found = λ e. (one, (contains-head one [], is)) })
      refl

-- some finished extension
completed : (history : History) → Legal history → (whole : History) × Completes whole history
completed history legal =
    let (whole, extends, legal_whole, finished) = finish_law history legal in
    (whole, record { extends = extends; legal = legal_whole; finished = finished })

-- ---- a get before the sync

abbrev first_put_read : ReducerRead
first_put_read = record { reducer = 0; kind = kind.Put; strand = 0; entry = 1 }

abbrev after_join : History
after_join = joined 2 3 ∷ ended 1 ∷ first_spawn

abbrev before_join : Entries
before_join = asked 1 Return Ended ∷ asked 2 (Get 0) refused_by_put ∷ added_by_child

abbrev before_last : Entries
before_last = asked 2 Sync (Joined 3) ∷ before_join

abbrev added_steps : Steps
added_steps = control (joined 2 3) ∷ control (ended 1) ∷ other 2 ∷ update 1 0 5 ∷ control (split 0 1 2 3 true) ∷ put 0 0 0 ∷ []

ended_allowed : Allowed first_spawn (ended 1)
unfolding updated
ended_allowed = child_return {number = 1} {join = 3} refl refl (λ last. absurd last.0)

next_runs_on : Running (ended 1 ∷ first_spawn) 2
unfolding updated
next_runs_on = refl

joined_allowed : Allowed (ended 1 ∷ first_spawn) (joined 2 3)
unfolding updated
joined_allowed =
    sync_joined {join = 3} {below = root} refl refl
    (λ number out. elim out.1 [ inl t ↦ out.0 (ap (λ n. spawned_in n 3) (sym t.0)) | inr none ↦ absurd none ])

join_runs : Running after_join 3
unfolding updated
join_runs = refl

root_begun : Begun first_spawn 0
unfolding updated
root_begun = inr refl

root_begun_on : Begun after_join 0
unfolding updated
root_begun_on = inr refl

-- the root's branch is not that of the next, and is that of the join
branch_of_next : branch first_spawn 0 ≡ branch first_spawn 2 → ⊥
unfolding updated
branch_of_next e = let clash : trunk ≡ right 1 = e in absurd (cc)

branch_of_join : branch after_join 0 ≡ branch after_join 3
unfolding updated
branch_of_join = refl

after_join_legal : Legal after_join
after_join_legal = then (then first_spawn_legal ended_allowed) joined_allowed

added_legal : AreLegal added_steps
added_legal = (((((((tt, root_runs), split_allowed), child_runs), next_runs), ended_allowed), joined_allowed))

added_numbers : AreNumbers added_steps
added_numbers = (lit< tt, (lit< tt, tt))

added_puts : PutsAreRead added_steps (first_put_read ∷ []) 0
added_puts = record {
  read_of = λ last has. elim has [
    | inl e ↦ (first_put_read, (contains-head first_put_read [], refl), ap strand_of (sym e))
    | inr none ↦ absurd none
  ];
  put_of = λ read is. (put_entry 1 0 0, inl refl);
}

sum_got : IsGetValue (Sum ∷ []) added_steps 3 0 5
unfolding updated
sum_got =
    get-value (Sum ∷ []) added_steps (first_put_read ∷ []) 3 0 added_legal added_numbers added_puts join_runs
    (λ read listed. ap (λ (r : ReducerRead). branch after_join r.strand) (only first_put_read read listed) ∙ branch_of_join)
    (first_put_read, (contains-head first_put_read [], refl)) 5 refl

refused_get : IsRightRead first_spawn (first_put_read ∷ []) 2 0 kind.Get refused_by_put
refused_get =
    (refused-read first_spawn (first_put_read ∷ []) 2 0 kind.Get first_spawn_legal (of_one_branch first_spawn first_spawn_legal first_put_read root_begun) (inl next_runs)
    View (record { entry = 1; strand = 0; kind = kind.Put }) first_put_read refl refl branch_of_next refl refl
    (λ read is. ap (λ (r : ReducerRead). is_reducer_read r.kind) (only first_put_read read is))).right

early_get_judged : IsJudged one_sum (early_get refused_by_put)
early_get_judged = record {
  legal = (
    ((
      (
        (
          (
            (
              (
                tt,
                record { runs = root_runs; in_range = lit< tt; belongs = tt; allowed = tt },
              ),
              record { runs = root_runs; in_range = tt; belongs = tt; allowed = split_allowed },
            ),
            record { runs = child_runs; in_range = lit< tt; belongs = tt; allowed = tt },
          ),
          record { runs = next_runs; in_range = lit< tt; belongs = tt; allowed = tt },
        ),
        record { runs = child_runs; in_range = tt; belongs = tt; allowed = ended_allowed },
      ),
      record { runs = next_runs_on; in_range = tt; belongs = tt; allowed = joined_allowed },
    )),
    record { runs = join_runs; in_range = lit< tt; belongs = tt; allowed = tt },
  );
  memory = (((((((tt, tt), tt), tt), tt), tt), tt), tt);
  reducers = (
    ((((((tt, first_put [] 0 start (inl root_runs)), tt), tt), (refused_get, tt)), tt), tt),
    (granted_get after_join after_join_legal first_put_read root_begun_on 3 5 (inl join_runs) branch_of_join refl, sum_got),
  );
}

-- with a value in place of the refusal the root and the next had the same peers, and so one branch
early_get_not_granted : (value : ℕ) → IsJudged one_sum (early_get (Value value)) → ⊥
early_get_not_granted value judged =
    let (whole, completes) = completed first_spawn first_spawn_legal in
    branch_of_next
    ((branch_law first_spawn first_spawn_legal 0 2 root_begun (inl next_runs) whole completes.extends completes.legal).1
    (judged.reducers.0.0.0.1.0.granted refl first_put_read (contains-head first_put_read [], refl) whole completes))

-- ---- more peers after the put

abbrev child_put : ReducerRead
child_put = record { reducer = 0; kind = kind.Put; strand = 1; entry = 2 }

abbrev grown : History
grown = split 2 4 5 3 false ∷ first_spawn

abbrev grown_steps : Steps
grown_steps = control (split 2 4 5 3 false) ∷ put 1 0 5 ∷ control (split 0 1 2 3 true) ∷ []

second_allowed : Allowed first_spawn (split 2 4 5 3 false)
unfolding updated
second_allowed = next_split {join = 3} {below = root} refl refl refl refl

child_runs_on : Running grown 1
unfolding updated
child_runs_on = refl

grown_legal : Legal grown
grown_legal = then first_spawn_legal second_allowed

grown_puts : PutsAreRead grown_steps (child_put ∷ []) 0
grown_puts = record {
  read_of = λ last has. elim has [
    | inl e ↦ (child_put, (contains-head child_put [], refl), ap strand_of (sym e))
    | inr none ↦ absurd none
  ];
  put_of = λ read is. (put_entry 2 1 5, inl refl);
}

own_got : IsGetValue (Sum ∷ []) grown_steps 1 0 5
unfolding updated
own_got =
    get-value (Sum ∷ []) grown_steps (child_put ∷ []) 1 0 (((tt, split_allowed), child_runs), second_allowed) (lit< tt, tt) grown_puts child_runs_on
    (λ read listed. ap (λ (r : ReducerRead). branch grown r.strand) (only child_put read listed)) (child_put, (contains-head child_put [], refl)) 5 refl

grown_peers_judged : IsJudged one_sum (grown_peers (Value 5))
grown_peers_judged = record {
  legal = (
    (
      (
        (
          tt,
          record { runs = root_runs; in_range = tt; belongs = tt; allowed = split_allowed },
        ),
        record { runs = child_runs; in_range = lit< tt; belongs = tt; allowed = tt },
      ),
      record { runs = next_runs; in_range = tt; belongs = tt; allowed = second_allowed },
    ),
    record { runs = child_runs_on; in_range = lit< tt; belongs = tt; allowed = tt },
  );
  memory = ((((tt, tt), tt), tt), tt);
  reducers = (
    (((tt, tt), first_put first_spawn 1 first_spawn_legal (inl child_runs)), tt),
    (granted_get grown grown_legal child_put (inl child_runs_on) 1 5 (inl child_runs_on) refl refl, own_got),
  );
}

-- no strand has other peers than it has itself
grown_peers_not_refused : (rule : Rule) (witness : Witness) → IsJudged one_sum (grown_peers (Refused rule witness)) → ⊥
grown_peers_not_refused rule witness judged =
    let (whole, completes) = completed grown grown_legal in
    let (read, listed, differs) = (judged.reducers.1.0.refused whole completes).0 tt in
    differs (subst (λ (r : ReducerRead). HaveSamePeers whole r.strand 1) (sym (only child_put read listed)) (λ peer. ((λ has. has), (λ has. has))))

pub worked_reducers : WorkedReducers
worked_reducers = record {
  early_get_judged = early_get_judged;
  early_get_not_granted = early_get_not_granted;
  grown_peers_judged = grown_peers_judged;
  grown_peers_not_refused = grown_peers_not_refused;
}
