-- The values that the entries of a run ask with, and those that they are given, are numbers of 64 bits.
use Rattle.std.proofs.Common.{◌≡◌, ◌⊎◌, inl, inr, ℕ, suc, ◌+◌, ◌%◌, ◌<◌, ◌^◌, true, false, List, [], ◌∷◌, ◌++◌, Option, Some, None, length, map, refl, sym, ap, ◌∙◌, subst, arith}
use Rattle.std.specs.Prelude.{MatchOption}
use Rattle.std.specs.List.{All}
use Rattle.std.proofs.lemmas.List.Elements.{All-nil, All-cons, All-head, All-tail}
use Rattle.model_accesses.specs.declared.request.Act.{Act}
use Rattle.model_reducers.specs.declared.monoid.Monoid.{Monoid}
use Rattle.model_reducers.specs.declared.monoid.Monoid.TheVariants.{Sum, Min, Max, Last, Digits}
use Rattle.model_strands.specs.Updated.{updated}
use Rattle.model_strands.specs.History.{Event, split, same, joined, waits, call, resumed, ended, ended_joined, finished, History}
use Rattle.model_strands.specs.Blocks.{Stack, spawned, called, block, caller, stack}
use Rattle.law_strands.proofs.Members.{contains_present, all_present, present_map}
use Rattle.law_strands.proofs.Updates.{updated_case}
use Rattle.model_reducers.specs.Items as one
use Rattle.model_reducers.specs.Steps.{control, update, put, other, Steps, items_of}
use Rattle.model_reducers.specs.Entries as value
use Rattle.model_reducers.specs.Entries.{HasUpdate, HasPut}
use Rattle.law_values.proofs.Accesses.{item_cases}
use Rattle.law_values.proofs.Products.{product_fits}
use Rattle.model_reducers.specs.declared.view.View.{View}
use Rattle.model_reducers.specs.declared.view.View.TheVariants.{Nothing, One, Pair}
use Rattle.reducer_views.specs.Products.{FitsMonoid}
use Rattle.model_reducers.specs.Products.{reducer_of, update_view, put_view, view_number, monoid_of}
use Rattle.reducer_views.specs.Held.{AreNumbers}
use Rattle.reducer_views.proofs.Associative.{monoid_law}
use Rattle.model_histories.specs.declared.answer.Answer.{Answer}
use Rattle.model_histories.specs.declared.answer.Answer.TheVariants.{Split, Granted, Value}
use Rattle.model_histories.specs.declared.answer.Entry.{Entry}
use Rattle.model_histories.specs.Entries.{Entries, event_between, event_of, with_event, control_part}
use Rattle.model_histories.specs.Shapes.{Shape}
use Rattle.model_histories.specs.Legal.{Belongs, IsLegal}
use Rattle.model_races.specs.Accesses.{cell_access}
use Rattle.model_races.specs.Memory.{last_written, bumped_since, effects}
use Rattle.model_races.specs.Verdicts.{IsRightVerdict}
use Rattle.model_races.specs.Reducers.{step_with, steps_of, granted_reads}
use Rattle.model_races.specs.ReducerVerdicts.{IsGetValue, IsRightFor, reads_before}
use Rattle.model_bodies.specs.Codes.{Code}
use Rattle.model_bodies.specs.Sound.{IsSound}
use Rattle.model_programs.specs.declared.target.Target.{Target}
use Rattle.model_programs.specs.Exchanges.{Exchange}
use Rattle.model_runs.specs.Frames.{Targets, IsSplit, HasFrame, frame_of, frame_in, next_frame, target_of, exchange_of, said_by}
use Rattle.model_runs.specs.Runs.{IsRunWith}
use Rattle.model_runs.specs.Serial.{value_given}
use Rattle.law_runs.specs.Numbers.{IsNumbered, AreNumbered}
use Rattle.law_runs.specs.Laws.{NumbersLaw}
use Rattle.law_runs.proofs.Strands.{caller_frame}
use Rattle.law_runs.proofs.Histories.{same_case, said_here, split_spawns, run_shorter}
use Rattle.law_runs.proofs.Numbered.{IsGiven, IsTarget, AreAsked, spawned_asked}

-- ---- the frame of each strand has begun

abbrev IsSplitEvent : Event → Type 0
IsSplitEvent (split s c n j first) = Unit {0}
IsSplitEvent event = ⊥

-- a strand's frame is one that there was, or the one that a split begins
abbrev IsOld : Event → History → ℕ → Type 0
IsOld event history frame = ((strand : ℕ) × (frame ≡ frame_of (stack history strand))) ⊎ ((frame ≡ suc (length history)) × IsSplitEvent event)

frame_after : (event : Event) (history : History) (strand : ℕ) → IsOld event history (frame_of (stack (event ∷ history) strand))
frame_after (split s c n j true) h x =
    let P : Stack → Type 0 = λ st. IsOld (split s c n j true) h (frame_of st) in
    let old : (y : ℕ) → P (stack h y) = λ y. inl (y, refl) in
    updated_case P (updated (updated (stack h) c (spawned (suc (length h)) j)) n (block j (stack h s))) j (stack h s) x (λ e. old s)
    (λ no_join. updated_case P (updated (stack h) c (spawned (suc (length h)) j)) n (block j (stack h s)) x (λ e. inl (s, refl))
    (λ no_next. updated_case P (stack h) c (spawned (suc (length h)) j) x (λ e. inr (refl, tt)) (λ no_child. old x)))
frame_after (split s c n j false) h x =
    let P : Stack → Type 0 = λ st. IsOld (split s c n j false) h (frame_of st) in
    let old : (y : ℕ) → P (stack h y) = λ y. inl (y, refl) in
    updated_case P (updated (stack h) c (spawned (suc (length h)) j)) n (stack h s) x (λ e. old s)
    (λ no_next. updated_case P (stack h) c (spawned (suc (length h)) j) x (λ e. inr (refl, tt)) (λ no_child. old x))
frame_after (call s) h x =
    let P : Stack → Type 0 = λ st. IsOld (call s) h (frame_of st) in
    updated_case P (stack h) s (called (suc (length h)) (stack h s)) x (λ e. inl (s, refl)) (λ off. inl (x, refl))
frame_after (resumed s) h x =
    let P : Stack → Type 0 = λ st. IsOld (resumed s) h (frame_of st) in
    updated_case P (stack h) s (caller (stack h s)) x (λ e. inl (s, caller_frame (stack h s))) (λ off. inl (x, refl))
frame_after (same s) h x = inl (x, refl)
frame_after (joined s j) h x = inl (x, refl)
frame_after (waits s) h x = inl (x, refl)
frame_after (ended s) h x = inl (x, refl)
frame_after (ended_joined s j) h x = inl (x, refl)
frame_after (finished s) h x = inl (x, refl)

abbrev BeginsSplit : Option Event → Type 0
BeginsSplit None = ⊥
BeginsSplit (Some event) = IsSplitEvent event

frame_with : (event : Option Event) (history : History) (strand : ℕ) →
    ((before : ℕ) × (frame_of (stack (with_event event history) strand) ≡ frame_of (stack history before))) ⊎
    ((frame_of (stack (with_event event history) strand) ≡ suc (length history)) × BeginsSplit event)
frame_with (Some event) history strand = frame_after event history strand
frame_with None history strand = inl (strand, refl)

splits : (strand : ℕ) (act : Act) (answer : Answer) → Belongs act answer → BeginsSplit (event_between strand act answer) → IsSplit answer
splits strand act (Split strands) belongs b = tt
splits strand Act.Spawn answer belongs b = absurd belongs
splits strand Act.Sync answer belongs b = absurd (no_split strand answer b)
  where
    no_split : (s : ℕ) (a : Answer) → BeginsSplit (event_between s Act.Sync a) → ⊥
    no_split s Answer.Same b = b
    no_split s (Answer.Joined join) b = b
    no_split s Answer.Waits b = b
    no_split s a b = b
splits strand Act.Call answer belongs b = absurd (no_split strand answer b)
  where
    no_split : (s : ℕ) (a : Answer) → BeginsSplit (event_between s Act.Call a) → ⊥
    no_split s Answer.Same b = b
    no_split s a b = b
splits strand Act.Return answer belongs b = absurd (no_split strand answer b)
  where
    no_split : (s : ℕ) (a : Answer) → BeginsSplit (event_between s Act.Return a) → ⊥
    no_split s Answer.Resumed b = b
    no_split s Answer.Ended b = b
    no_split s (Answer.EndedJoined join) b = b
    no_split s Answer.Finished b = b
    no_split s a b = b
splits strand act answer belongs b = absurd b

-- the frame of each strand has begun
pub frame_there : (shape : Shape) (entries : Entries) → IsLegal shape entries → (strand : ℕ) → HasFrame entries (frame_in entries strand)
frame_there shape [] legal strand = inl refl
frame_there shape (entry ∷ entries) legal strand =
    elim (frame_with (event_of entry) (control_part entries) strand) [
      | inl t ↦ subst (HasFrame (entry ∷ entries)) (sym t.1) (older (frame_in entries t.0) (frame_there shape entries legal.0 t.0))
      | inr t ↦ inr (inl (t.0, splits entry.request.strand entry.request.act entry.answer legal.1.belongs t.1))
    ]
  where
    older : (frame : ℕ) → HasFrame entries frame → HasFrame (entry ∷ entries) frame
    older frame (inl e) = inl e
    older frame (inr s) = inr (inr s)

-- ---- the values that are given

abbrev AreGiven : List Exchange → Type 0
AreGiven [] = Unit {0}
AreGiven (x ∷ said) = IsGiven (value_given x.answer) × AreGiven said

given_append : (xs ys : List Exchange) → AreGiven xs → AreGiven ys → AreGiven (xs ++ ys)
given_append [] ys a b = b
given_append (x ∷ xs) ys a b = (a.0, given_append xs ys a.1 b)

-- what is asked last
asked_last : (said : List Exchange) (x : Exchange) → AreAsked (said ++ x ∷ []) → AreGiven said → IsNumbered x.act × IsTarget x.target
asked_last [] x a g = (a.0, a.1)
asked_last (y ∷ said) x a g = asked_last said x (a.2 g.0) g.1

abbrev AllGiven : Entries → Type 0
AllGiven [] = Unit {0}
AllGiven (entry ∷ entries) = IsGiven (value_given entry.answer) × AllGiven entries

given_said : (targets : Targets) (entries : Entries) (frame : ℕ) → AllGiven entries → AreGiven (said_by targets entries frame)
given_said targets [] frame g = tt
given_said targets (entry ∷ entries) frame g =
    given_append (said_by targets entries frame) _ (given_said targets entries frame g.1)
    (same_case AreGiven (frame_in entries entry.request.strand) frame (exchange_of targets (next_frame entries) entry ∷ []) [] (λ e. (g.0, tt)) (λ ne. tt))

remainder : (n : ℕ) → n % 2 ^ 64 < 2 ^ 64
remainder n = omega arith

-- a view's number
fits_number : (monoid : Monoid) (view : View) (number : ℕ) → FitsMonoid monoid view → view_number view ≡ Some number → number < 2 ^ 64
fits_number monoid Nothing number f e = absurd (cc)
fits_number Sum (One n) number f e = let k : n ≡ number = cc in subst (λ m. m < 2 ^ 64) k f
fits_number Min (One n) number f e = let k : n ≡ number = cc in subst (λ m. m < 2 ^ 64) k f
fits_number Max (One n) number f e = let k : n ≡ number = cc in subst (λ m. m < 2 ^ 64) k f
fits_number Last (One n) number f e = let k : n ≡ number = cc in subst (λ m. m < 2 ^ 64) k f
fits_number Digits (One n) number f e = absurd f
fits_number Digits (Pair multiplier n) number f e = let k : n ≡ number = cc in subst (λ m. m < 2 ^ 64) k f.1
fits_number Sum (Pair multiplier n) number f e = absurd f
fits_number Min (Pair multiplier n) number f e = absurd f
fits_number Max (Pair multiplier n) number f e = absurd f
fits_number Last (Pair multiplier n) number f e = absurd f

-- the updates and puts among steps that are numbers
access_number : (reducer : ℕ) (steps : Steps) → AreNumbers steps → (u : value.Entry) → HasUpdate (items_of reducer steps) u ⊎ HasPut (items_of reducer steps) u →
    value.entry_value u < 2 ^ 64
access_number reducer [] k u (inl t) = absurd t
access_number reducer [] k u (inr t) = absurd t
access_number reducer (control e ∷ steps) k u t = access_number reducer steps k u t
access_number reducer (update s q v ∷ steps) k u t =
    item_cases (λ i. HasUpdate (i ∷ items_of reducer steps) u ⊎ HasPut (i ∷ items_of reducer steps) u → value.entry_value u < 2 ^ 64) q reducer (one.update s v) (one.other s)
    (λ e i. elim i [
      | inl g ↦ elim g [ inl is ↦ subst (λ w. value.entry_value w < 2 ^ 64) (sym is) k.0 | inr r ↦ access_number reducer steps k.1 u (inl r) ]
      | inr g ↦ access_number reducer steps k.1 u (inr g)
    ])
    (λ ne i. access_number reducer steps k.1 u i) t
access_number reducer (put s q v ∷ steps) k u t =
    item_cases (λ i. HasUpdate (i ∷ items_of reducer steps) u ⊎ HasPut (i ∷ items_of reducer steps) u → value.entry_value u < 2 ^ 64) q reducer (one.put s v) (one.other s)
    (λ e i. elim i [
      | inl g ↦ access_number reducer steps k.1 u (inl g)
      | inr g ↦ elim g [ inl is ↦ subst (λ w. value.entry_value w < 2 ^ 64) (sym is) k.0 | inr r ↦ access_number reducer steps k.1 u (inr r) ]
    ])
    (λ ne i. access_number reducer steps k.1 u i) t
access_number reducer (other s ∷ steps) k u t = access_number reducer steps k u t

-- the updates and puts among entries that are numbers
step_numbered : (event : Option Event) (strand : ℕ) (act : Act) (answer : Answer) (steps : Steps) → IsNumbered act → AreNumbers steps →
    AreNumbers (step_with event strand act answer ∷ steps)
step_numbered (Some event) strand act answer steps n k = k
step_numbered None strand (Act.Update reducer v) Granted steps n k = (n, k)
step_numbered None strand (Act.Put reducer v) Granted steps n k = (n, k)
step_numbered None strand act answer steps n k = k

steps_numbered : (entries : Entries) → AreNumbered entries → AreNumbers (steps_of entries)
steps_numbered [] n = tt
steps_numbered (entry ∷ entries) n =
    step_numbered (event_of entry) entry.request.strand entry.request.act entry.answer (steps_of entries) (All-head (λ e. IsNumbered e.request.act) entry entries n)
    (steps_numbered entries (All-tail (λ e. IsNumbered e.request.act) entry entries n))

-- the value of a get
get_number : (monoids : List Monoid) (steps : Steps) → AreNumbers steps → (strand reducer number : ℕ) → IsGetValue monoids steps strand reducer number → number < 2 ^ 64
get_number monoids steps k strand reducer number is =
    let m = monoid_of monoids reducer in
    let got = is.1 in
    let put_fits = ((monoid_law m).1 (value.entry_value got.put) (access_number reducer steps k got.put (inr got.last.0))).1 in
    let updates_fit : All (FitsMonoid m) (map (λ entry. update_view m (value.entry_value entry)) got.counted) =
    all_present (FitsMonoid m) (map (λ entry. update_view m (value.entry_value entry)) got.counted)
    (λ v p. let t = present_map (λ entry. update_view m (value.entry_value entry)) v got.counted p in
    let has = (got.counts.1 t.0).0 ((contains_present t.0 got.counted).1 t.1) in
    subst (FitsMonoid m) t.2 ((monoid_law m).1 (value.entry_value t.0) (access_number reducer steps k t.0 (inl has.0))).0) in
    let all_fits = product_fits (FitsMonoid m) (reducer_of m) (monoid_law m).0 (map (λ entry. update_view m (value.entry_value entry)) got.counted) updates_fit in
    fits_number m is.0 number (subst (FitsMonoid m) (sym got.combined) ((monoid_law m).0.closed (put_view m (value.entry_value got.put)) _ put_fits all_fits)) is.2

given_by : (shape : Shape) (entries : Entries) (strand : ℕ) (act : Act) (answer : Answer) → Belongs act answer →
    MatchOption (cell_access act) (Unit {0}) (λ access. IsRightVerdict entries strand access answer) →
    IsRightFor (reads_before shape.monoids entries) strand act answer → AreNumbered entries → IsGiven (value_given answer)
given_by shape entries strand (Act.Read cell) (Value v) b m r n =
    subst (λ w. w < 2 ^ 64) (sym m.value) (remainder (last_written (effects entries) cell + bumped_since (effects entries) cell))
given_by shape entries strand (Act.Get reducer) (Value v) b m r n = get_number shape.monoids (steps_of entries) (steps_numbered entries n) strand reducer v r.1
given_by shape entries strand act (Value v) b m r n = absurd b
given_by shape entries strand act answer b m r n = tt

-- ---- runs

-- the arguments of the frames too
record IsNumberedRun (targets : Targets) (entries : Entries) : Type 0 where
  acts : AreNumbered entries
  given : AllGiven entries
  arguments : (frame : ℕ) → HasFrame entries frame → (targets frame).argument < 2 ^ 64

module _ (functions : List Code) (shape : Shape) (sound : IsSound shape.cells (length shape.monoids) functions) (main : ℕ) (targets : Targets) where
  root_number : (entries : Entries) → IsRunWith functions shape main targets entries → (frame : ℕ) → frame ≡ 0 → (targets frame).argument < 2 ^ 64
  root_number entries run frame e =
      let is : (targets frame).argument ≡ 0 = ap (λ f. (targets f).argument) e ∙ ap (λ (t : Target). t.argument) run.root in
      omega (arith, is)

  more_numbers : (entry : Entry) (entries : Entries) → IsRunWith functions shape main targets (entry ∷ entries) → IsNumberedRun targets entries →
      IsNumberedRun targets (entry ∷ entries)
  more_numbers entry entries run earlier =
      record {
        acts = All-cons (λ e. IsNumbered e.request.act) entry entries last.0 earlier.acts;
        given = (
          given_by shape entries entry.request.strand entry.request.act entry.answer run.judged.legal.1.belongs run.judged.memory.1 run.judged.reducers.1 earlier.acts,
          earlier.given,
        );
        arguments = λ frame has. elim has [
          | inl e ↦ root_number (entry ∷ entries) run frame e
          | inr s ↦ elim s [ inl now ↦ child frame now.0 now.1 | inr old ↦ earlier.arguments frame (inr old) ]
        ];
      }
    where
      frame : ℕ
      frame = frame_in entries entry.request.strand

      has : HasFrame entries (frame_in entries entry.request.strand)
      has = frame_there shape entries run.judged.legal.0 entry.request.strand

      later : (number : ℕ) → HasFrame entries number → HasFrame (entry ∷ entries) number
      later number (inl e) = inl e
      later number (inr s) = inr (inr s)

      x : Exchange
      x = exchange_of targets (next_frame entries) entry

      last : IsNumbered entry.request.act × IsTarget (target_of entry.request.act (targets (next_frame entries)))
      last =
          asked_last (said_by targets entries frame) x
          (subst AreAsked (said_here targets entry entries frame refl)
          (spawned_asked shape.cells (length shape.monoids) functions sound (targets frame).function (targets frame).argument _ _ (earlier.arguments frame has)
          (run.says frame (later frame has))))
          (given_said targets entries frame earlier.given)

      child : (number : ℕ) → number ≡ next_frame entries → IsSplit entry.answer → (targets number).argument < 2 ^ 64
      child number e is =
          let spawns = split_spawns entry.request.act entry.answer run.judged.legal.1.belongs is in
          subst (λ n. (targets n).argument < 2 ^ 64) (sym e)
          (subst (λ a. IsTarget (target_of a (targets (next_frame entries)))) spawns last.1)

  run_numbers : (entries : Entries) → IsRunWith functions shape main targets entries → IsNumberedRun targets entries
  run_numbers [] run = record {
    acts = All-nil (λ e. IsNumbered e.request.act);
    given = tt;
    arguments = λ frame has. elim has [ inl e ↦ root_number [] run frame e | inr none ↦ absurd none ];
  }
  run_numbers (entry ∷ entries) run =
      more_numbers entry entries run (run_numbers entries (run_shorter functions shape main targets entry entries run))

pub numbers_law : NumbersLaw
numbers_law functions shape sound entries run = (run_numbers functions shape sound run.main run.targets entries run.run).acts
