-- What the books make of an event of control, and of an access of a reducer.
use Rattle.std.proofs.Common.{◌≡◌, ◌⊎◌, inl, inr, ℕ, ◌+◌, ◌<◌, ◌^◌, List, [], ◌∷◌, ◌++◌, length, Option, Some, None, refl, sym, ◌∙◌, ap, subst, arith}
use Rattle.std.proofs.lemmas.List.{append-nil}
use Rattle.model_accesses.specs.declared.kind.Kind.{Kind}
use Rattle.model_accesses.specs.declared.kind.Kind.TheVariants as kind
use Rattle.model_accesses.specs.declared.request.Act.TheVariants.{Update, Put, Get}
use Rattle.model_strands.specs.declared.spawned.Spawned.{Spawned}
use Rattle.model_strands.specs.History.{Event, joined, ended_joined}
use Rattle.model_strands.specs.Strands.{Running}
use Rattle.model_strands.specs.Legal.{Allowed, then}
use Rattle.branch_names.specs.Names.{Names, Follows, FollowsOn, IsNamed, Takes, TakesJoin}
use Rattle.branch_names.proofs.Events.{other-events, joined-known}
use Rattle.model_accesses.specs.declared.witness.Witness.{Witness}
use Rattle.model_accesses.specs.Reads.{ReducerRead}
use Rattle.view_read_rule.specs.Reads.{Remembers, StandsOn}
use Rattle.model_reducers.specs.Steps.{Steps, control, update, put}
use Rattle.law_values.specs.Accesses.{control_steps, AreLegal}
use Rattle.reducer_views.specs.Held.{Holding, Holds, split_of}
use Rattle.reducer_views.proofs.Following.{quiet_law}
use Rattle.reducer_views.specs.Held.{view_of}
use Rattle.model_reducers.specs.Products.{view_number}
use Rattle.model_histories.specs.declared.answer.Answer.{Answer}
use Rattle.model_histories.specs.declared.answer.Answer.TheVariants.{Split, Joined, EndedJoined, Granted, Value, Unset}
use Rattle.race_gate.specs.Books.{Books, Keeps, KeepsRunning, KeepsOn, TakesEvent, MayRead, IsRefusal, answered_act, AnswersAccess}
use Rattle.race_gate.proofs.Keeping.{keeps-event, keeps-other, keeps-update, keeps-put, keeps-get}
use Rattle.race_gate.proofs.Reading.{granted-right, refusal-cases}
use Rattle.race_gate.proofs.Getting.{get-value, get-some}
use Rattle.race_gate.proofs.Answered.{IsCalm, split-event, joined-event, ended_joined-event, next-number, strand-known, spawner-known}

-- a strand that runs has a place among the views
pub running-there : (old : Books) (strand : ℕ) → KeepsRunning old strand → strand < length old.views.strands
running-there old strand (steps, earlier, kept, runs) = omega (arith, kept.views.count, strand-known kept.branches.legal strand runs)

-- the strands of the reads have names
pub reads-named : (old : Books) (strand : ℕ) → KeepsRunning old strand → StandsOn old.reads old.branches
reads-named old strand (steps, earlier, kept, runs) =
    (earlier, kept.remembers, (λ read listed. (control_steps steps, kept.branches, (kept.one_branch read.reducer).begun read (listed, refl))))

pub strand-named : (old : Books) (strand : ℕ) → KeepsRunning old strand → IsNamed old.branches strand
strand-named old strand (steps, earlier, kept, runs) = (control_steps steps, kept.branches, inl runs)

-- ---- events of control

-- the event comes next after some steps that are kept
abbrev pub IsNext : Books → Event → Type 0
IsNext old event = (steps : Steps) × (earlier : List ReducerRead) × Keeps old steps earlier × Allowed (control_steps steps) event

pub split-next : (old : Books) (strand : ℕ) (answer : Answer) (spawned : Spawned) → answer ≡ Split spawned → TakesEvent old strand answer → IsNext old (split_of strand spawned)
split-next old strand answer spawned is (act, event, between, (steps, earlier, kept, allowed)) =
    let same = split-event strand act spawned event (rw (← is) between) in
    (steps, earlier, kept, subst (λ e. Allowed (control_steps steps) e) (sym same) allowed)

pub next-takes : (old : Books) (event : Event) → IsNext old event → Takes old.branches event
next-takes old event (steps, earlier, kept, allowed) = (control_steps steps, kept.branches, then kept.branches.legal allowed)

pub split-there : (old : Books) (strand : ℕ) (spawned : Spawned) → IsNext old (split_of strand spawned) →
    (strand < length old.views.strands) × (spawned.next ≡ length old.views.strands + 1)
split-there old strand spawned (steps, earlier, kept, allowed) =
    (omega (arith, kept.views.count, spawner-known kept.branches.legal allowed), let next = next-number allowed in omega (arith, kept.views.count, next))

-- the join begins by one of two events
abbrev JoinNext : Books → ℕ → ℕ → Type 0
JoinNext old strand join = IsNext old (joined strand join) ⊎ IsNext old (ended_joined strand join)

join-next : (old : Books) (strand : ℕ) (answer : Answer) (join : ℕ) → (answer ≡ Joined join) ⊎ (answer ≡ EndedJoined join) → TakesEvent old strand answer →
    JoinNext old strand join
join-next old strand answer join (inl is) (act, event, between, (steps, earlier, kept, allowed)) =
    let same = joined-event strand act join event (rw (← is) between) in
    inl (steps, earlier, kept, subst (λ e. Allowed (control_steps steps) e) (sym same) allowed)
join-next old strand answer join (inr is) (act, event, between, (steps, earlier, kept, allowed)) =
    let same = ended_joined-event strand act join event (rw (← is) between) in
    inr (steps, earlier, kept, subst (λ e. Allowed (control_steps steps) e) (sym same) allowed)

pub join-takes : (old : Books) (strand : ℕ) (answer : Answer) (join : ℕ) → (answer ≡ Joined join) ⊎ (answer ≡ EndedJoined join) → TakesEvent old strand answer →
    TakesJoin old.branches join
join-takes old strand answer join is takes = elim (join-next old strand answer join is takes) [
  | inl next ↦ (joined strand join, refl, next-takes old (joined strand join) next)
  | inr next ↦ (ended_joined strand join, refl, next-takes old (ended_joined strand join) next)
]

pub join-there : (old : Books) (strand : ℕ) (answer : Answer) (join : ℕ) → (answer ≡ Joined join) ⊎ (answer ≡ EndedJoined join) → TakesEvent old strand answer →
    join < length old.views.strands
join-there old strand answer join is takes =
    let known = joined-known old.branches join (join-takes old strand answer join is takes) in
    let (act, event, between, (steps, earlier, kept, allowed)) = takes in
    omega (arith, kept.branches.count, kept.views.count)

-- an event that begins no strand changes nothing
pub keeps_on-calm : (old : Books) (event : Event) → IsCalm event → KeepsOn old old event
keeps_on-calm old event calm = record {
  monoids = refl;
  keeps = λ steps earlier kept allowed.
      keeps-event old old steps earlier event kept allowed
      (other-events old.branches (control_steps steps) event kept.branches calm.none (then kept.branches.legal allowed)) refl refl
      ((quiet_law old.views steps kept.legal kept.views).0 event calm.quiet allowed);
}

module _ (branches : Names) (reads : List (Option Witness)) (views : Holding) (old : Books) (view_is : record { branches = branches; reads = reads; views = views } ≡ old) where
  same_branches : branches ≡ old.branches
  same_branches = ap (λ (books : Books). books.branches) view_is

  same_reads : reads ≡ old.reads
  same_reads = ap (λ (books : Books). books.reads) view_is

  same_views : views ≡ old.views
  same_views = ap (λ (books : Books). books.views) view_is

  -- names and views go on with the event
  pub keeps_on-event : (names : Names) (after : Holding) (event is : Event) → event ≡ is → FollowsOn branches names event → after.monoids ≡ views.monoids →
      ((steps : Steps) → AreLegal steps → Holds views steps → Allowed (control_steps steps) event → Holds after (control event ∷ steps)) →
      KeepsOn old (record { branches = names; reads = reads; views = after }) is
  keeps_on-event names after event is same follows monoids holds =
      let keeps : KeepsOn old (record { branches = names; reads = reads; views = after }) event = record {
        monoids = monoids ∙ ap (λ (held : Holding). held.monoids) same_views;
        keeps = λ steps earlier kept allowed.
            keeps-event old (record { branches = names; reads = reads; views = after }) steps earlier event kept allowed
            (follows (control_steps steps) (subst (λ found. Follows found (control_steps steps)) (sym same_branches) kept.branches) (then kept.branches.legal allowed))
            same_reads (monoids ∙ ap (λ (held : Holding). held.monoids) same_views)
            (holds steps kept.legal (subst (λ held. Holds held steps) (sym same_views) kept.views) allowed);
      } in
      subst (λ e. KeepsOn old (record { branches = names; reads = reads; views = after }) e) same keeps

  -- ---- accesses

  pub answers-update : (after : Holding) (number strand reducer value : ℕ) → value < 2 ^ 64 → after.monoids ≡ views.monoids →
      ((steps : Steps) → AreLegal steps → Holds views steps → Running (control_steps steps) strand → Holds after (update strand reducer value ∷ steps)) →
      AnswersAccess old (record { branches = branches; reads = reads; views = after }) (answered_act number strand (Update reducer value) Granted)
  answers-update after number strand reducer value small monoids holds = record {
    monoids = monoids ∙ ap (λ (held : Holding). held.monoids) same_views;
    answered = λ steps earlier kept runs. record {
      belongs = tt;
      right = tt;
      keeps = keeps-update old (record { branches = branches; reads = reads; views = after }) steps earlier strand reducer value kept runs small same_branches same_reads
          (monoids ∙ ap (λ (held : Holding). held.monoids) same_views)
          (holds steps kept.legal (subst (λ held. Holds held steps) (sym same_views) kept.views) runs);
    };
  }

  module _ (number strand reducer : ℕ) (new : Kind) (firsts : List (Option Witness)) (counted : length firsts ≡ length reads)
      (added : (earlier : List ReducerRead) → Remembers reads earlier → Remembers firsts (earlier ++ record { reducer = reducer; kind = new; strand = strand; entry = number } ∷ []))
      (may : (steps : Steps) (earlier : List ReducerRead) → Keeps old steps earlier → Running (control_steps steps) strand → MayRead (control_steps steps) earlier strand reducer new) where
    pub answers-put : (after : Holding) (value : ℕ) → new ≡ kind.Put → value < 2 ^ 64 → after.monoids ≡ views.monoids →
        ((steps : Steps) → AreLegal steps → Holds views steps → Running (control_steps steps) strand → Holds after (put strand reducer value ∷ steps)) →
        AnswersAccess old (record { branches = branches; reads = firsts; views = after }) (answered_act number strand (Put reducer value) Granted)
    answers-put after value is small monoids holds = record {
      monoids = monoids ∙ ap (λ (held : Holding). held.monoids) same_views;
      answered = λ steps earlier kept runs.
          let right = granted-right (control_steps steps) earlier strand reducer new kept.branches.legal (kept.one_branch reducer) (inl runs) Granted
          (may steps earlier kept runs) refl in
          let keeps = keeps-put old (record { branches = branches; reads = firsts; views = after }) steps earlier
          (record { reducer = reducer; kind = new; strand = strand; entry = number }) kept runs (may steps earlier kept runs).same_branch (rw is refl) same_branches
          (counted ∙ ap length same_reads) (monoids ∙ ap (λ (held : Holding). held.monoids) same_views)
          (added earlier (subst (λ found. Remembers found earlier) (sym same_reads) kept.remembers)) value small
          (holds steps kept.legal (subst (λ held. Holds held steps) (sym same_views) kept.views) runs) in
          record { belongs = tt; right = rw is at right; keeps = rw is at keeps };
    }

    pub answers-get : (value : ℕ) → new ≡ kind.Get →
        ((steps : Steps) → AreLegal steps → Holds views steps → Running (control_steps steps) strand → Some value ≡ view_number (view_of views.monoids reducer steps strand)) →
        AnswersAccess old (record { branches = branches; reads = firsts; views = views }) (answered_act number strand (Get reducer) (Value value))
    answers-get value is gives = record {
      monoids = ap (λ (held : Holding). held.monoids) same_views;
      answered = λ steps earlier kept runs.
          let seen = may steps earlier kept runs in
          let found = seen.found is in
          let right = granted-right (control_steps steps) earlier strand reducer new kept.branches.legal (kept.one_branch reducer) (inl runs) (Value value) seen refl in
          let keeps = keeps-get old (record { branches = branches; reads = firsts; views = views }) steps earlier
          (record { reducer = reducer; kind = new; strand = strand; entry = number }) kept runs seen.same_branch (rw is refl) same_branches
          (counted ∙ ap length same_reads) (ap (λ (held : Holding). held.monoids) same_views)
          (added earlier (subst (λ found. Remembers found earlier) (sym same_reads) kept.remembers)) found same_views in
          record {
            belongs = tt;
            right = (
              rw is at right,
              get-value views.monoids steps earlier strand reducer kept.legal kept.numbers (kept.puts reducer) runs seen.same_branch found value
                  (gives steps kept.legal (subst (λ held. Holds held steps) (sym same_views) kept.views) runs),
            );
            keeps = rw is at keeps;
          };
    }

    -- there is a value
    pub gets-some : new ≡ kind.Get → KeepsRunning old strand →
        ((steps : Steps) → AreLegal steps → Holds views steps → Running (control_steps steps) strand → None ≡ view_number (view_of views.monoids reducer steps strand)) → ⊥
    gets-some is (steps, earlier, kept, runs) none =
        let seen = may steps earlier kept runs in
        get-some views.monoids steps earlier strand reducer kept.legal kept.numbers (kept.puts reducer) runs seen.same_branch (seen.found is)
        (none steps kept.legal (subst (λ held. Holds held steps) (sym same_views) kept.views) runs)

-- an access that is not granted
pub answers-refused_put : (old : Books) (number strand reducer value : ℕ) (answer : Answer) →
    ((steps : Steps) (earlier : List ReducerRead) → Keeps old steps earlier → Running (control_steps steps) strand →
    IsRefusal (control_steps steps) earlier strand reducer kind.Put answer) → KeepsRunning old strand → AnswersAccess old old (answered_act number strand (Put reducer value) answer)
answers-refused_put old number strand reducer value answer refusal (some, reads, holds, runs) =
    let first = refusal some reads holds runs in
    let is_put : answer ≡ Unset → ⊥ = λ e. let clash = (first.right.unset.0 e).0 in absurd (cc) in
    refusal-cases (λ one. (one ≡ Unset → ⊥) → ((steps : Steps) (earlier : List ReducerRead) → Keeps old steps earlier → Running (control_steps steps) strand →
    IsRefusal (control_steps steps) earlier strand reducer kind.Put one) → AnswersAccess old old (answered_act number strand (Put reducer value) one))
    (λ rule witness none refused. record {
      monoids = refl;
      answered = λ steps earlier kept runs. record {
        belongs = tt;
        right = (refused steps earlier kept runs).right;
        keeps = rw append-nil (keeps-other old steps earlier strand kept runs);
      };
    }) (λ none refused. absurd (none refl)) answer first.none is_put refusal

pub answers-refused_get : (old : Books) (number strand reducer : ℕ) (answer : Answer) →
    ((steps : Steps) (earlier : List ReducerRead) → Keeps old steps earlier → Running (control_steps steps) strand →
    IsRefusal (control_steps steps) earlier strand reducer kind.Get answer) → KeepsRunning old strand → AnswersAccess old old (answered_act number strand (Get reducer) answer)
answers-refused_get old number strand reducer answer refusal (some, reads, holds, runs) =
    refusal-cases (λ one. ((steps : Steps) (earlier : List ReducerRead) → Keeps old steps earlier → Running (control_steps steps) strand →
    IsRefusal (control_steps steps) earlier strand reducer kind.Get one) → AnswersAccess old old (answered_act number strand (Get reducer) one))
    (λ rule witness refused. record {
      monoids = refl;
      answered = λ steps earlier kept runs. record {
        belongs = tt;
        right = ((refused steps earlier kept runs).right, tt);
        keeps = rw append-nil (keeps-other old steps earlier strand kept runs);
      };
    })
    (λ refused. record {
      monoids = refl;
      answered = λ steps earlier kept runs. record {
        belongs = tt;
        right = ((refused steps earlier kept runs).right, tt);
        keeps = rw append-nil (keeps-other old steps earlier strand kept runs);
      };
    }) answer (refusal some reads holds runs).none refusal
