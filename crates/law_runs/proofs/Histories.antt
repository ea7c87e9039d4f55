-- Frames of histories of entries, and what they said.
use Rattle.std.proofs.Common.{◌≡◌, ◌≢◌, ◌⊎◌, inl, inr, ℕ, suc, ◌<◌, ◌≤◌, ◌==◌, true, false, eqb, List, Some, [], ◌∷◌, ◌++◌, length, refl, ◌∙◌, ap, arith}
use Rattle.std.specs.Prelude.{if◌then◌else◌}
use Rattle.std.proofs.lemmas.Bool.Decides.{eqb_tells}
use Rattle.std.proofs.lemmas.List.{append-nil}
use Rattle.model_accesses.specs.declared.request.Act.{Act}
use Rattle.model_histories.specs.declared.answer.Answer.{Answer}
use Rattle.model_histories.specs.declared.answer.Answer.TheVariants.{Split}
use Rattle.model_histories.specs.declared.answer.Entry.{Entry}
use Rattle.model_histories.specs.Entries.{Entries, event_of, control_part}
use Rattle.model_histories.specs.Shapes.{Shape}
use Rattle.model_histories.specs.Legal.{Belongs, IsLegal}
use Rattle.model_bodies.specs.Codes.{Code}
use Rattle.model_programs.specs.Exchanges.{Exchange}
use Rattle.law_runs.specs.Laws.{PrefixLaw}
use Rattle.model_runs.specs.Frames.{Targets, IsSplit, HasFrame, frame_in, next_frame, target_of, exchange_of, said_by}
use Rattle.model_runs.specs.Runs.{IsRunWith, IsRun}
use Rattle.law_runs.proofs.Shorter.{begins}
use Rattle.law_runs.proofs.Strands.{frame_below, longer_with}

-- a choice by whether two numbers are the same
pub same_case : {A : Type 0} (P : A → Type 0) (one other : ℕ) (x y : A) → (one ≡ other → P x) → (one ≢ other → P y) → P (if one == other then x else y)
same_case P one other x y here there = go (eqb_tells one other)
  where
    go : ((eqb one other ≡ true) × (one ≡ other)) ⊎ ((eqb one other ≡ false) × (one ≢ other)) → P (if one == other then x else y)
    go (inl t) = rw t.0 (here t.1)
    go (inr t) = rw t.0 (there t.1)

-- what one more entry adds to what a frame said
pub said_here : (targets : Targets) (entry : Entry) (entries : Entries) (frame : ℕ) → frame_in entries entry.request.strand ≡ frame →
    said_by targets (entry ∷ entries) frame ≡ said_by targets entries frame ++ exchange_of targets (next_frame entries) entry ∷ []
said_here targets entry entries frame is =
    let x = exchange_of targets (next_frame entries) entry in
    let P : List Exchange → Type 0 = λ l. said_by targets entries frame ++ l ≡ said_by targets entries frame ++ x ∷ [] in
    same_case P (frame_in entries entry.request.strand) frame (x ∷ []) [] (λ e. refl) (λ ne. absurd (ne is))

pub said_elsewhere : (targets : Targets) (entry : Entry) (entries : Entries) (frame : ℕ) → frame_in entries entry.request.strand ≢ frame →
    said_by targets (entry ∷ entries) frame ≡ said_by targets entries frame
said_elsewhere targets entry entries frame other =
    let x = exchange_of targets (next_frame entries) entry in
    let P : List Exchange → Type 0 = λ l. said_by targets entries frame ++ l ≡ said_by targets entries frame in
    same_case P (frame_in entries entry.request.strand) frame (x ∷ []) [] (λ e. absurd (other e)) (λ ne. append-nil (said_by targets entries frame))

-- the frame of a strand is below the next one
pub frame_before : (entries : Entries) (strand : ℕ) → frame_in entries strand < next_frame entries
frame_before entries strand = let b = frame_below (control_part entries) strand in omega arith

pub next_grows : (entry : Entry) (entries : Entries) → next_frame entries ≤ next_frame (entry ∷ entries)
next_grows entry entries = let b = longer_with (event_of entry) (control_part entries) in omega arith

-- a frame that is not begun said nothing
pub said_before : (targets : Targets) (entries : Entries) (frame : ℕ) → next_frame entries ≤ frame → said_by targets entries frame ≡ []
said_before targets [] frame le = refl
said_before targets (entry ∷ entries) frame le =
    let grows = next_grows entry entries in
    let below = frame_before entries entry.request.strand in
    let other : frame_in entries entry.request.strand ≢ frame = λ e. absurd (omega arith) in
    said_elsewhere targets entry entries frame other ∙ said_before targets entries frame (omega arith)

-- a split is of a spawn, and a spawn is split
pub split_spawns : (act : Act) (answer : Answer) → Belongs act answer → IsSplit answer → act ≡ Act.Spawn
split_spawns Act.Spawn answer belongs is = refl
split_spawns act (Split strands) belongs is = absurd belongs
split_spawns act answer belongs is = absurd is

pub spawn_splits : (answer : Answer) → Belongs Act.Spawn answer → IsSplit answer
spawn_splits (Split strands) belongs = tt
spawn_splits answer belongs = absurd belongs

-- frames that have begun are below the next one
pub begun_before : (shape : Shape) (entries : Entries) → IsLegal shape entries → (frame : ℕ) → HasFrame entries frame → frame < next_frame entries
begun_before shape entries legal frame (inl e) = omega arith
begun_before shape [] legal frame (inr none) = elim none [ ]
begun_before shape (entry ∷ entries) legal frame (inr (inl s)) = new entry.request.act entry.answer legal.1.belongs s.1
  where
    new : (act : Act) (answer : Answer) → Belongs act answer → IsSplit answer → frame < suc (length (control_part (record { request = record { strand = entry.request.strand; act = act; line = entry.request.line }; answer = answer } ∷ entries)))
    new Act.Spawn (Split strands) belongs is = let e = s.0 in omega arith
    new act (Split strands) belongs is = absurd belongs
    new act answer belongs is = absurd is
begun_before shape (entry ∷ entries) legal frame (inr (inr before)) =
    let b = begun_before shape entries legal.0 frame (inr before) in
    let g = next_grows entry entries in
    omega arith

-- targets that agree on the frames make them say the same
pub said_same : (shape : Shape) (one other : Targets) (entries : Entries) → IsLegal shape entries → ((frame : ℕ) → HasFrame entries frame → one frame ≡ other frame) →
    (frame : ℕ) → said_by one entries frame ≡ said_by other entries frame
said_same shape one other [] legal agree frame = refl
said_same shape one other (entry ∷ entries) legal agree frame =
    let before = said_same shape one other entries legal.0 older frame in
    let x = exchange_of one (next_frame entries) entry in
    let y = exchange_of other (next_frame entries) entry in
    ap (λ l. l ++ (if frame_in entries entry.request.strand == frame then x ∷ [] else [])) before ∙
    ap (λ z. said_by other entries frame ++ (if frame_in entries entry.request.strand == frame then z ∷ [] else [])) now
  where
    older : (number : ℕ) → HasFrame entries number → one number ≡ other number
    older number (inl e) = agree number (inl e)
    older number (inr s) = agree number (inr (inr s))

    fits : (act : Act) → Belongs act entry.answer → target_of act (one (next_frame entries)) ≡ target_of act (other (next_frame entries))
    fits Act.Spawn belongs = ap Some (agree (next_frame entries) (inr (inl (refl, spawn_splits entry.answer belongs))))
    fits act belongs = refl

    now : exchange_of one (next_frame entries) entry ≡ exchange_of other (next_frame entries) entry
    now =
        let f = fits entry.request.act legal.1.belongs in
        λ i. record { act = entry.request.act; line = entry.request.line; target = f i; answer = entry.answer }

-- what a run began with is a run
pub run_shorter : (functions : List Code) (shape : Shape) (main : ℕ) (targets : Targets) (entry : Entry) (entries : Entries) →
    IsRunWith functions shape main targets (entry ∷ entries) → IsRunWith functions shape main targets entries
run_shorter functions shape main targets entry entries run =
    record {
      judged = record { legal = run.judged.legal.0; memory = run.judged.memory.0; reducers = run.judged.reducers.0 };
      root = run.root;
      says = λ frame has.
          let d = run.says frame (later frame has) in
          record { code = d.code; there = d.there; says = begins functions (said_by targets entries frame) _ d.says refl };
    }
  where
    later : (frame : ℕ) → HasFrame entries frame → HasFrame (entry ∷ entries) frame
    later frame (inl e) = inl e
    later frame (inr s) = inr (inr s)

pub shorter_run : (functions : List Code) (shape : Shape) (entry : Entry) (entries : Entries) → IsRun functions shape (entry ∷ entries) → IsRun functions shape entries
shorter_run functions shape entry entries run =
    record { main = run.main; is_main = run.is_main; targets = run.targets; run = run_shorter functions shape run.main run.targets entry entries run.run }

pub prefix_run : PrefixLaw
prefix_run functions shape [] entries run = run
prefix_run functions shape (entry ∷ later) entries run = prefix_run functions shape later entries (shorter_run functions shape entry (later ++ entries) run)
