-- What a run asks, a line of a trace can say.
use Rattle.std.proofs.Common.{ℕ, ◌+◌, ◌*◌, ◌≤◌, inl, inr, true, false, List, [], ◌∷◌, ◌++◌, Option, Some, None, length, reverse, refl, sym, subst, arith}
use Rattle.std.specs.List.{AllByRecursion}
use Rattle.std.proofs.lemmas.List.{length-map, length-reverse, reverse-reverse}
use Rattle.std.proofs.lemmas.Grind.{reverse_onto}
use Rattle.std.proofs.lemmas.List.Elements.{All-head, All-tail, All-from_recursion}
use Rattle.model_accesses.specs.declared.request.Act.{Act}
use Rattle.text_words.specs.declared.value.Reducer.{Reducer}
use Rattle.text_words.specs.Declarations.{cells_of}
use Rattle.text_words.specs.Limits.{most_lines}
use Rattle.text_words.specs.Values.{Known}
use Rattle.model_strands.specs.History.{Event, split, same, joined, waits, call, resumed, ended, ended_joined, finished, History}
use Rattle.model_strands.specs.Strands.{unused}
use Rattle.law_strands.proofs.Law.{begun_below}
use Rattle.law_strands.proofs.Range.{ranges}
use Rattle.model_histories.specs.declared.answer.Entry.{Entry}
use Rattle.model_histories.specs.Entries.{Entries, event_of, with_event, control_part}
use Rattle.model_histories.specs.Shapes.{Shape, IsInRange, most_entries}
use Rattle.race_gate.proofs.Races.{legal-part}
use Rattle.model_bodies.specs.Codes.{Code}
use Rattle.model_bodies.specs.Sound.{IsSound}
use Rattle.program_text.proofs.Whole.{whole_of_text}
use Rattle.model_programs.specs.Exchanges.{Exchange}
use Rattle.model_runs.specs.Frames.{Targets, HasFrame, frame_in, next_frame, exchange_of, said_by}
use Rattle.model_runs.specs.Runs.{IsRun, IsRunWith}
use Rattle.law_runs.specs.Numbers.{IsNumbered, AreNumbered}
use Rattle.law_runs.proofs.Histories.{said_here, run_shorter}
use Rattle.law_runs.proofs.Numbering.{frame_there, numbers_law}
use Rattle.run_traces.specs.Fitting.{IsSayable, IsFitting}
use Rattle.run_traces.specs.Laws.{shape_known, FittingLaw}
use Rattle.run_traces.proofs.Elements.{append_all}
use Rattle.run_traces.proofs.Marked.{IsMarkedCode, marked_of_text}
use Rattle.run_traces.proofs.Asking.{HasAct, IsAsked, spawned_asked}

-- ---- numbers of strands

unused_event : (event : Event) (history : History) → unused (event ∷ history) ≤ unused history + 3
unused_event (split strand child next join true) history = omega arith
unused_event (split strand child next join false) history = omega arith
unused_event (same strand) history = omega arith
unused_event (joined strand join) history = omega arith
unused_event (waits strand) history = omega arith
unused_event (call strand) history = omega arith
unused_event (resumed strand) history = omega arith
unused_event (ended strand) history = omega arith
unused_event (ended_joined strand join) history = omega arith
unused_event (finished strand) history = omega arith

unused_with : (event : Option Event) (history : History) → unused (with_event event history) ≤ unused history + 3
unused_with (Some event) history = unused_event event history
unused_with None history = omega arith

-- an entry takes three numbers at most
unused_entries : (entries : Entries) → unused (control_part entries) ≤ 1 + 3 * length entries
unused_entries [] = omega arith
unused_entries (entry ∷ entries) = omega (arith, unused_with (event_of entry) (control_part entries), unused_entries entries)

-- ---- acts

sayable : (known : Known) (act : Act) → IsInRange (shape_known known) act → IsNumbered act → HasAct known.version act → IsSayable known act
sayable known (Act.Read cell) r n b = r
sayable known (Act.Write cell value) r n b = (r, omega (arith, n))
sayable known (Act.Bump cell value) r n b = (r, omega (arith, n), b)
sayable known (Act.Update reducer value) r n b = (omega (arith, r, length-map known.reducers (λ (x : Reducer). x.monoid)), omega (arith, n))
sayable known (Act.Put reducer value) r n b = (omega (arith, r, length-map known.reducers (λ (x : Reducer). x.monoid)), omega (arith, n))
sayable known (Act.Get reducer) r n b = omega (arith, r, length-map known.reducers (λ (x : Reducer). x.monoid))
sayable known act r n b = tt

asked_last : (P : Exchange → Type 0) (said : List Exchange) (x : Exchange) → AllByRecursion P (said ++ x ∷ []) → P x
asked_last P [] x a = a.0
asked_last P (y ∷ said) x a = asked_last P said x a.1

-- ---- entries

abbrev FitEntry : Known → Entry → Type 0
FitEntry known entry = IsFitting known entry.request

module _ (known : Known) (functions : List Code) (marked : AllByRecursion (IsMarkedCode known.version) functions) (main : ℕ) (targets : Targets) where
  asked_here : (entry : Entry) (entries : Entries) → IsRunWith functions (shape_known known) main targets (entry ∷ entries) →
      IsAsked known.version (exchange_of targets (next_frame entries) entry)
  asked_here entry entries run =
      asked_last (IsAsked known.version) (said_by targets entries (frame_in entries entry.request.strand)) (exchange_of targets (next_frame entries) entry)
      (subst (λ (said : List Exchange). AllByRecursion (IsAsked known.version) said) (said_here targets entry entries (frame_in entries entry.request.strand) refl)
      (spawned_asked known.version functions marked (targets frame).function (targets frame).argument _ _ (run.says frame (later frame has))))
    where
      frame : ℕ
      frame = frame_in entries entry.request.strand

      has : HasFrame entries (frame_in entries entry.request.strand)
      has = frame_there (shape_known known) entries run.judged.legal.0 entry.request.strand

      later : (number : ℕ) → HasFrame entries number → HasFrame (entry ∷ entries) number
      later number (inl e) = inl e
      later number (inr s) = inr (inr s)

  fitted : (entries : Entries) → IsRunWith functions (shape_known known) main targets entries → AreNumbered entries → length entries ≤ most_entries →
      AllByRecursion (FitEntry known) entries
  fitted [] run n few = tt
  fitted (entry ∷ entries) run n few =
      let asked = asked_here entry entries run in
      let follows = run.judged.legal.1 in
      let known_strand = begun_below (control_part entries) (ranges (legal-part (shape_known known) entries run.judged.legal.0)) entry.request.strand (inl follows.runs) in
      let line : 1 ≤ entry.request.line = asked.0.0 in
      let mark : entry.request.line ≤ most_lines = asked.0.1 in (
        record {
          strand = omega (arith, known_strand, unused_entries entries, few);
          marked = line;
          mark = omega (arith, mark);
          act = sayable known entry.request.act follows.in_range (All-head (λ e. IsNumbered e.request.act) entry entries n) asked.1;
        },
        fitted entries (run_shorter functions (shape_known known) main targets entry entries run) (All-tail (λ e. IsNumbered e.request.act) entry entries n) (omega (arith, few)),
      )

-- ---- either order

turned_all : {X : Type 0} (P : X → Type 0) (xs : List X) → AllByRecursion P xs → AllByRecursion P (reverse xs)
turned_all P [] h = tt
turned_all P (x ∷ xs) h = subst (λ ys. AllByRecursion P ys) (sym (reverse_onto xs x [])) (append_all P (reverse xs) (x ∷ []) (turned_all P xs h.1) (h.0, tt))

pub fitting_law : FittingLaw
fitting_law text program means entries run =
    let shape : Shape = shape_known program.known in
    let is : IsRun program.functions shape (reverse entries) = run.run in
    let sound : IsSound shape.cells (length shape.monoids) program.functions =
    subst (λ (n : ℕ). IsSound (cells_of program.known.mems) n program.functions) (sym (length-map program.known.reducers (λ (x : Reducer). x.monoid))) (whole_of_text text program means).sound in
    let all = fitted program.known program.functions (marked_of_text text program means) is.main is.targets (reverse entries) is.run
    (numbers_law program.functions shape sound (reverse entries) is) (omega (arith, length-reverse entries, run.few)) in
    All-from_recursion (FitEntry program.known) entries
    (subst (λ (es : List Entry). AllByRecursion (FitEntry program.known) es) (reverse-reverse entries) (turned_all (FitEntry program.known) (reverse entries) all))
