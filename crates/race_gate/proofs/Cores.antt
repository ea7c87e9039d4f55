-- A core, the states that fit it, and the gate that has it with a list of entries.
use Rattle.std.proofs.Common.{◌≡◌, ◌↔◌, ℕ, ◌+◌, Bool, true, IsTrue, List, [], ◌∷◌, ◌++◌, length, reverse, take, drop, Result, Ok, Err, refl, sym, ap, ◌∙◌, subst, arith}
use Rattle.std.specs.Prelude.{MatchResult}
use Rattle.std.proofs.lemmas.List.{reverse-append}
use Rattle.model_accesses.specs.declared.request.Request.{Request}
use Rattle.model_histories.specs.declared.answer.Answer.{Answer}
use Rattle.model_histories.specs.declared.answer.Entry.{Entry}
use Rattle.model_histories.specs.declared.fault.GateFault.{GateFault}
use Rattle.model_histories.specs.declared.fault.GateFault.TheVariants.{Memory}
use Rattle.model_histories.specs.declared.reply.Reply.TheVariants.{Illegal}
use Rattle.model_histories.specs.Extensions.{IsEnd}
use Rattle.model_histories.specs.States.{GateState}
use Rattle.race_gate.specs.Kept.{TracksState, IsKept, IsReady, with_entry}
use Rattle.model_histories.specs.Faults.{IsFaultless}
use Rattle.model_histories.specs.Replies.{Judges, IsEntered}
use Rattle.race_gate.specs.Cores.{CoreState, with_history, IsCoreOf, reply_with}
use Rattle.race_gate.proofs.Checking.{only-memory}
use Rattle.race_gate.proofs.Entering.{written_back}

-- ---- what a core shows of the states that fit it

module _ (core : CoreState) (state : GateState) (fits : IsCoreOf core state) where
  pub its-shape : core.shape ≡ state.shape
  its-shape = ap (λ (s : GateState). s.shape) fits.shown

  pub its-limit : core.limit ≡ state.limit
  its-limit = ap (λ (s : GateState). s.limit) fits.shown

  pub its-stopped : core.stopped ≡ state.stopped
  its-stopped = ap (λ (s : GateState). s.stopped) fits.shown

  pub its-memory : core.memory ≡ state.memory
  its-memory = ap (λ (s : GateState). s.memory) fits.shown

  pub stopped-fits : IsCoreOf (record core { stopped = true }) (record state { stopped = true })
  stopped-fits = record {
    shown = ap (λ (s : GateState). record s { stopped = true }) fits.shown;
    counted = fits.counted;
    finished = fits.finished;
    kept = record {
      right = record { judged = fits.kept.right.judged; memory = fits.kept.right.memory };
      follows = fits.kept.follows;
      remembers = fits.kept.remembers;
      locations = fits.kept.locations;
      within = fits.kept.within;
      limited = fits.kept.limited;
      reducers = fits.kept.reducers;
    };
  }

  -- the request is handed on with the number of its entry
  pub is-ready : (request : Request) (memory : List ℕ) (number : ℕ) → IsFaultless state request → memory ≡ core.memory → number ≡ core.entries + 1 →
      IsReady state core.tracks memory request number
  is-ready request memory number faultless same numbered =
      record { kept = fits.kept; cells = same ∙ its-memory; faultless = faultless; numbered = omega (arith, fits.counted, numbered) }

  -- the core with other cells and tracks
  abbrev the_core : ℕ → Bool → List ℕ → TracksState → CoreState
  the_core number finished cells after = record {
    shape = core.shape;
    limit = core.limit;
    stopped = core.stopped;
    entries = number;
    finished = finished;
    memory = cells;
    tracks = after;
  }

  -- the answer was counted, and the cells are written back
  pub fits-answered : (request : Request) (answer : Answer) (number : ℕ) (finished : Bool) (memory : List ℕ) (len : ℕ) (after : TracksState) → number ≡ core.entries + 1 → IsTrue finished ↔ IsEnd answer → len ≡ length core.memory →
      IsKept (with_entry state request answer memory) after →
      IsCoreOf (the_core number finished (take len (memory ++ drop (length memory) core.memory)) after)
      (with_entry state request answer (take len (memory ++ drop (length memory) core.memory)))
  fits-answered request answer number finished memory len after numbered ends counted kept =
      let same_length : length memory ≡ length core.memory = omega (arith, kept.right.memory.len, fits.kept.right.memory.len, ap length its-memory) in
      let written : take len (memory ++ drop (length memory) core.memory) ≡ memory = written_back core.memory memory len (sym counted) same_length in
      record {
        shown = ap (λ (s : GateState). with_entry s request answer (take len (memory ++ drop (length memory) core.memory))) fits.shown;
        counted = omega (arith, fits.counted, numbered);
        finished = ends;
        kept = subst (λ (cells : List ℕ). IsKept (with_entry state request answer cells) after) (sym written) kept;
      }

  -- nothing changed
  pub fits-still : (memory : List ℕ) (len : ℕ) (after : TracksState) → len ≡ length core.memory → memory ≡ core.memory →
      IsKept state after →
      IsCoreOf (the_core core.entries core.finished (take len (memory ++ drop (length memory) core.memory)) after) state
  fits-still memory len after counted same kept =
      let written : take len (memory ++ drop (length memory) core.memory) ≡ memory = written_back core.memory memory len (sym counted) (ap length same) in
      record {
        shown = ap (λ (cells : List ℕ). let s : GateState = record { shape = core.shape; limit = core.limit; stopped = core.stopped; history = state.history; memory = cells } in s)
            (written ∙ same) ∙ fits.shown;
        counted = fits.counted;
        finished = fits.finished;
        kept = kept;
      }

  -- the same where no cell was handed on
  pub fits-entered : (request : Request) (answer : Answer) (number : ℕ) (finished : Bool) (after : TracksState) →
      number ≡ core.entries + 1 → IsTrue finished ↔ IsEnd answer → IsKept (with_entry state request answer core.memory) after →
      IsCoreOf (the_core number finished core.memory after) (with_entry state request answer core.memory)
  fits-entered request answer number finished after numbered ends kept = record {
    shown = ap (λ (s : GateState). with_entry s request answer core.memory) fits.shown;
    counted = omega (arith, fits.counted, numbered);
    finished = ends;
    kept = kept;
  }

  pub fits-kept : (after : TracksState) → IsKept state after →
      IsCoreOf (the_core core.entries core.finished core.memory after) state
  fits-kept after kept = record { shown = fits.shown; counted = fits.counted; finished = fits.finished; kept = kept }

-- what a judged request leaves
pub judges-next : (old new : CoreState) (state : GateState) (request : Request) (result : Result Answer GateFault) → IsCoreOf old state → IsFaultless state request →
    MatchResult result (λ answer. IsCoreOf new (with_entry state request answer new.memory)) (λ fault. (fault ≡ Memory) × IsCoreOf new state) →
    (next : GateState) × Judges state request (reply_with (old.entries + 1) request result) next × IsCoreOf new next
judges-next old new state request (Ok answer) fits faultless done = (
  with_entry state request answer new.memory,
  record { faultless = faultless; asked = refl; number = omega (arith, fits.counted); after = refl },
  done,
)
judges-next old new state request (Err fault) fits faultless done = (state, rw done.0 (refl, only-memory state request faultless), done.1)

-- ---- a gate: its core, and the list of its entries

pub gate-shown : (core : CoreState) (items : List Entry) (state : GateState) → IsCoreOf core state → reverse items ≡ state.history →
    with_history core (reverse items) ≡ state
gate-shown core items state fits same = ap (with_history core) same ∙ fits.shown

pub gate-fits : (core : CoreState) (items : List Entry) (state : GateState) → IsCoreOf core state → reverse items ≡ state.history →
    IsCoreOf core (with_history core (reverse items))
gate-fits core items state fits same = subst (IsCoreOf core) (sym (gate-shown core items state fits same)) fits

module _ (core : CoreState) (items : List Entry) (now : GateState) (shown : with_history core (reverse items) ≡ now) (fits : IsCoreOf core (with_history core (reverse items)))
  where
    pub now-fits : IsCoreOf core now
    now-fits = subst (IsCoreOf core) shown fits

    pub now-history : (others : List Entry) → others ≡ items → reverse others ≡ now.history
    now-history others same = ap reverse same ∙ ap (λ (s : GateState). s.history) shown

    -- the entry stands behind the others
    pub now-pushed : (pushed : List Entry) (entry : Entry) → pushed ≡ items ++ entry ∷ [] → reverse pushed ≡ entry ∷ now.history
    now-pushed pushed entry is = ap reverse is ∙ reverse-append items (entry ∷ []) ∙ ap (λ (s : GateState). entry ∷ s.history) shown

-- the entry was made
pub is-entered : (core : CoreState) (pushed : List Entry) (now : GateState) (request : Request) (answer : Answer) (number : ℕ) → IsFaultless now request →
    IsCoreOf core (with_entry now request answer core.memory) → reverse pushed ≡ record { request = request; answer = answer } ∷ now.history → number ≡ core.entries →
    IsEntered now request (record { number = number; request = request; answer = answer }) (with_history core (reverse pushed))
is-entered core pushed now request answer number faultless fits turned numbered = record {
  faultless = faultless;
  asked = refl;
  number = numbered ∙ fits.counted ∙ sym (ap length turned);
  after = gate-shown core pushed (with_entry now request answer core.memory) fits turned;
}

-- there was no memory for it
pub is-out_of_memory : (core : CoreState) (items : List Entry) (now : GateState) (request : Request) (fault : GateFault) → IsFaultless now request →
    IsCoreOf core now → reverse items ≡ now.history → fault ≡ Memory → Judges now request (Illegal fault) (with_history core (reverse items))
is-out_of_memory core items now request fault faultless fits turned is = rw is (gate-shown core items now fits turned, only-memory now request faultless)
