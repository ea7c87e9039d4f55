-- A finished run, expanded, is an evaluation where each value is the serial one.
use Rattle.std.proofs.Common.{◌≡◌, inl, inr, ℕ, ◌<◌, Some, None, List, [], ◌∷◌, length, map, refl, sym, ap, ◌∙◌, subst}
use Rattle.std.specs.Prelude.{slice_get}
use Rattle.std.proofs.lemmas.List.{map-append}
use Rattle.std.proofs.lemmas.List.Elements.{All-head, All-tail}
use Rattle.model_accesses.specs.declared.request.Act.{Act}
use Rattle.law_strands.proofs.Orders.{serial_law}
use Rattle.law_strands.proofs.Members.{Present, contains_present, present_map, map_present, pairs_map}
use Rattle.model_histories.specs.declared.answer.Answer.{Answer}
use Rattle.model_histories.specs.declared.answer.Answer.TheVariants.{Split}
use Rattle.model_histories.specs.Entries.{Entries, control_part}
use Rattle.model_histories.specs.Shapes.{Shape}
use Rattle.model_histories.specs.Legal.{IsLegal, Belongs}
use Rattle.model_histories.specs.Extensions.{IsFinished, IsCleanAnswer, IsClean}
use Rattle.race_gate.proofs.Races.{legal-part}
use Rattle.model_bodies.specs.Codes.{Code}
use Rattle.model_bodies.specs.Sound.{IsSound}
use Rattle.model_programs.specs.declared.target.Target.{Target}
use Rattle.model_programs.specs.Values.{first_registers}
use Rattle.model_programs.specs.Scripts.{script}
use Rattle.model_programs.specs.Answers.{FromSpawn}
use Rattle.model_programs.specs.Exchanges.{Exchange}
use Rattle.model_programs.specs.Dialogue.{Whole, DialogueOf}
use Rattle.frame_steps.proofs.Places.{found}
use Rattle.frame_steps.proofs.Histories.{dialogue_with}
use Rattle.model_programs.specs.Evaluation.{Effect}
use Rattle.model_runs.specs.Frames.{IsSplit, HasSplit, HasFrame, Targets, target_of, said_by}
use Rattle.model_runs.specs.Runs.{IsRunWith}
use Rattle.model_runs.specs.Serial.{Numbered, HasEntry, AreInSerialOrder, IsSerialList, effect_of, effects_of}
use Rattle.law_elision.specs.Expansions.{IsDoneBy, Inserts, nothing, kept, inserted}
use Rattle.law_elision.specs.Placed.{Placed, placed_at, IsPlaced, own, Expands, none, alone, began, numbered}
use Rattle.law_elision.proofs.Expansions.{dialogue_evaluates}
use Rattle.law_elision.proofs.Placements.{own_placed, placed_own, said_own, exchange_at, strand_begun}
use Rattle.law_elision.proofs.Trees.{IsEarlier, framed_own, expanded_below, expanded_sorted, all_there}
use Rattle.law_elision.proofs.Wholes.{Ending, ending, root_ending, ended_whole}
use Rattle.law_elision.proofs.Begun.{script_within, targets_within}

-- entries and their numbers

pub placed_entry : (entries : Entries) (x : Placed) → IsPlaced entries x → HasEntry entries (numbered x)
placed_entry [] x p = absurd p
placed_entry (entry ∷ entries) x (inl e) = inl (ap numbered e)
placed_entry (entry ∷ entries) x (inr p) = inr (placed_entry entries x p)

pub entry_placed : (entries : Entries) (one : Numbered) → HasEntry entries one → (x : Placed) × IsPlaced entries x × (numbered x ≡ one)
entry_placed [] one h = absurd h
entry_placed (entry ∷ entries) one (inl e) = (placed_at entries entry, inl refl, sym e)
entry_placed (entry ∷ entries) one (inr h) = let t = entry_placed entries one h in (t.0, inr t.1, t.2)

-- the expansion of the root's frame is the list of all entries in serial order
pub serial_list : (shape : Shape) (entries : Entries) → IsLegal shape entries → (all : List Placed) → Expands entries (own entries 0) all →
    IsSerialList entries (map numbered all)
serial_list shape entries legal all e = (
  pairs_map (IsEarlier entries) (AreInSerialOrder (control_part entries)) numbered all ordered (expanded_sorted shape entries legal (own entries 0) all 0 (framed_own shape entries legal 0) e),
  (λ one. (
    (λ c. let t = present_map numbered one all ((contains_present one (map numbered all)).0 c) in subst (HasEntry entries) t.2 (placed_entry entries t.0 (known t.0 t.1))),
    (λ h. let t = entry_placed entries one h in
        (contains_present one (map numbered all)).1 (subst (λ z. Present z (map numbered all)) t.2 (map_present numbered t.0 all (all_there shape entries legal all e t.0 t.1)))),
  )),
)
  where
    known : (x : Placed) → Present x all → IsPlaced entries x
    known x p = (expanded_below shape entries legal (own entries 0) all (framed_own shape entries legal 0).known e x p).0

    ordered : (x y : Placed) → Present x all → Present y all → IsEarlier entries x y → AreInSerialOrder (control_part entries) (numbered x) (numbered y)
    ordered x y p q (inl b) =
        inl ((serial_law (control_part entries) (legal-part shape entries legal) x.entry.request.strand y.entry.request.strand
        (strand_begun shape entries legal x (known x p)) (strand_begun shape entries legal y (known y q))).1 b)
    ordered x y p q (inr t) = inr t

-- what an entry says

pub placed_clean : (entries : Entries) → IsClean entries → (x : Placed) → IsPlaced entries x → IsCleanAnswer x.entry.answer
placed_clean [] k x p = absurd p
placed_clean (entry ∷ entries) k x (inl e) = subst (λ y. IsCleanAnswer y.entry.answer) (sym e) (All-head (λ one. IsCleanAnswer one.answer) entry entries k)
placed_clean (entry ∷ entries) k x (inr p) = placed_clean entries (All-tail (λ one. IsCleanAnswer one.answer) entry entries k) x p

pub placed_belongs : (shape : Shape) (entries : Entries) → IsLegal shape entries → (x : Placed) → IsPlaced entries x → Belongs x.entry.request.act x.entry.answer
placed_belongs shape [] l x p = absurd p
placed_belongs shape (entry ∷ entries) l x (inl e) = subst (λ y. Belongs y.entry.request.act y.entry.answer) (sym e) l.1.belongs
placed_belongs shape (entry ∷ entries) l x (inr p) = placed_belongs shape entries l.0 x p

split_targets : (act : Act) (answer : Answer) (target : Target) → Belongs act answer → IsSplit answer → target_of act target ≡ Some target
split_targets Act.Spawn (Split t) target b k = refl
split_targets Act.Sync (Split t) target b k = absurd b
split_targets Act.Call (Split t) target b k = absurd b
split_targets Act.Return (Split t) target b k = absurd b
split_targets (Act.Read x) (Split t) target b k = absurd b
split_targets (Act.Write x v) (Split t) target b k = absurd b
split_targets (Act.Bump x v) (Split t) target b k = absurd b
split_targets (Act.Update x v) (Split t) target b k = absurd b
split_targets (Act.Put x v) (Split t) target b k = absurd b
split_targets (Act.Get x) (Split t) target b k = absurd b
split_targets act _ target b k = absurd k

no_target : (act : Act) (answer : Answer) (target : Target) → Belongs act answer → (IsSplit answer → ⊥) → target_of act target ≡ None
no_target Act.Spawn (Split t) target b k = absurd (k tt)
no_target Act.Spawn _ target b k = absurd b
no_target Act.Sync answer target b k = refl
no_target Act.Call answer target b k = refl
no_target Act.Return answer target b k = refl
no_target (Act.Read x) answer target b k = refl
no_target (Act.Write x v) answer target b k = refl
no_target (Act.Bump x v) answer target b k = refl
no_target (Act.Update x v) answer target b k = refl
no_target (Act.Put x v) answer target b k = refl
no_target (Act.Get x) answer target b k = refl

split_frame : (entries : Entries) (x : Placed) → IsPlaced entries x → IsSplit x.entry.answer → HasSplit entries x.begins
split_frame [] x p k = absurd p
split_frame (entry ∷ entries) x (inl e) k = inl (ap (λ y. y.begins) e, subst (λ y. IsSplit y.entry.answer) e k)
split_frame (entry ∷ entries) x (inr p) k = inr (split_frame entries x p k)

abbrev pub placed_effects : List Placed → List Effect
placed_effects all = map (λ x. effect_of x.entry) all

pub placed_effects_of : (all : List Placed) → placed_effects all ≡ effects_of (map numbered all)
placed_effects_of [] = refl
placed_effects_of (x ∷ all) = ap (λ l. effect_of x.entry ∷ l) (placed_effects_of all)

module _ (functions : List Code) (shape : Shape) (sound : IsSound shape.cells (length shape.monoids) functions) (main : ℕ) (targets : Targets) (entries : Entries)
    (run : IsRunWith functions shape main targets entries) (finish : IsFinished entries) (clean : IsClean entries) where
  legal : IsLegal shape entries
  legal = run.judged.legal

  whole : (number : ℕ) → HasFrame entries number → Ending entries number →
      DialogueOf functions (targets number).function (targets number).argument Whole (said_by targets entries number)
  whole number has e =
      let d = run.says number has in
      record {
        code = d.code;
        there = d.there;
        says = ended_whole shape functions targets entries number d.code.end_line (script d.code) (first_registers (targets number).argument) e d.says;
      }

  -- the function of a frame that is begun is there
  child_code : (x : Placed) → IsPlaced entries x → IsSplit x.entry.answer → HasFrame entries x.frame → (child : Code) × (slice_get functions (targets x.begins).function ≡ Some child)
  child_code x p k has = found functions (targets x.begins).function below
    where
      said : List Exchange
      said = said_by targets entries x.frame

      there : Present (exchange_at targets x) said
      there = subst (Present (exchange_at targets x)) (sym (said_own targets entries x.frame)) (map_present (exchange_at targets) x (own entries x.frame) (placed_own entries x p))

      below : (targets x.begins).function < length functions
      below =
          let d = run.says x.frame has in
          targets_within shape.cells (length shape.monoids) functions sound d.code.end_line (script d.code) (first_registers (targets x.frame).argument) said d.says
          (script_within shape.cells (length shape.monoids) functions sound (targets x.frame).function d.code d.there)
          (exchange_at targets x) there (targets x.begins) (split_targets x.entry.request.act x.entry.answer (targets x.begins) (placed_belongs shape entries legal x p) k)

  child_done : (x : Placed) (inner : List Placed) → IsPlaced entries x → IsSplit x.entry.answer → (child : Code) →
      slice_get functions (targets x.begins).function ≡ Some child →
      Inserts functions shape.monoids (map (exchange_at targets) (own entries x.begins)) (placed_effects inner) →
      IsDoneBy functions shape.monoids child (targets x.begins).argument (placed_effects inner)
  child_done x inner p k child is inside store right =
      dialogue_evaluates functions shape.monoids FromSpawn child.end_line (script child) (first_registers (targets x.begins).argument) (said_by targets entries x.begins)
      (placed_effects inner)
      (dialogue_with functions (targets x.begins).function (targets x.begins).argument Whole (said_by targets entries x.begins)
      (whole x.begins (inr (split_frame entries x p k)) (ending shape entries legal finish x p k)) child is)
      (subst (λ l. Inserts functions shape.monoids l (placed_effects inner)) (sym (said_own targets entries x.begins)) inside) store right

  pub inserts : (number : ℕ) (rest all : List Placed) → HasFrame entries number → (code : Code) → slice_get functions (targets number).function ≡ Some code →
      ((x : Placed) → Present x rest → IsPlaced entries x × (x.frame ≡ number)) → Expands entries rest all →
      Inserts functions shape.monoids (map (exchange_at targets) rest) (placed_effects all)
  inserts number rest all has code is known none = nothing
  inserts number rest all has code is known (alone {x = x} {rest = more} {all = later} n e) =
      let k = known x (inl refl) in
      kept (no_target x.entry.request.act x.entry.answer (targets x.begins) (placed_belongs shape entries legal x k.0) n) (placed_clean entries clean x k.0)
      (inserts number more later has code is (λ z p. known z (inr p)) e)
  inserts number rest all has code is known (began {x = x} {rest = more} {inner = inner} {outer = outer} {all = later} k i o j) =
      let at = known x (inl refl) in
      let child = child_code x at.0 k (subst (HasFrame entries) (sym at.1) has) in
      inserted (split_targets x.entry.request.act x.entry.answer (targets x.begins) (placed_belongs shape entries legal x at.0) k) child.1
      (child_done x inner at.0 k child.0 child.1
      (inserts x.begins (own entries x.begins) inner (inr (split_frame entries x at.0 k)) child.0 child.1 (λ z p. own_placed entries x.begins z p) i))
      (inserts number more outer has code is (λ z p. known z (inr p)) o) (ap placed_effects j ∙ map-append (λ y. effect_of y.entry) inner outer)

  -- the whole run is an evaluation of `main`
  pub run_done : (all : List Placed) → Expands entries (own entries 0) all → (code : Code) → slice_get functions main ≡ Some code →
      IsDoneBy functions shape.monoids code 0 (placed_effects all)
  run_done all e code is store right =
      dialogue_evaluates functions shape.monoids FromSpawn code.end_line (script code) (first_registers 0) (said_by targets entries 0) (placed_effects all)
      (dialogue_with functions main 0 Whole (said_by targets entries 0)
      (subst (λ t. DialogueOf functions t.function t.argument Whole (said_by targets entries 0)) run.root (whole 0 (inl refl) (root_ending shape entries legal finish))) code is)
      (subst (λ l. Inserts functions shape.monoids l (placed_effects all)) (sym (said_own targets entries 0))
      (inserts 0 (own entries 0) all (inl refl) code (ap (λ t. slice_get functions t.function) run.root ∙ is) (λ z p. own_placed entries 0 z p) e))
      store right
