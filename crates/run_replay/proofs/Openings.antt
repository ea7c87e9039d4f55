-- A replay before its first entry, between entries, and where it stops.
use Rattle.std.proofs.Common.{◌≡◌, ◌⊎◌, inl, inr, ℕ, suc, ◌<◌, List, [], ◌∷◌, length, Some, None, refl, sym, ◌∙◌, ap, subst, arith}
use Rattle.std.specs.Prelude.{slice_get}
use Rattle.law_strands.proofs.Updates.{same_or_not}
use Rattle.model_histories.specs.declared.answer.Entry.{Entry}
use Rattle.model_histories.specs.Entries.{Entries}
use Rattle.model_histories.specs.Shapes.{Shape, most_entries}
use Rattle.model_races.specs.Judged.{IsJudged}
use Rattle.model_histories.specs.States.{GateState, opening}
use Rattle.model_races.specs.Verdicts.{IsRefused}
use Rattle.model_bodies.specs.Codes.{Code}
use Rattle.frame_steps.specs.States.{FrameState}
use Rattle.frame_steps.specs.Frames.{Stands, IsAfter}
use Rattle.model_runs.specs.Frames.{Targets, HasFrame}
use Rattle.model_runs.specs.Runs.{IsRun, IsRunWith}
use Rattle.run_replay.specs.Turns.{IsEntered, IsOdd, HasNoTurn}
use Rattle.run_replay.specs.FrameTables.{placed_frames, Opens, IsFrameTable, Plays, IsMisfit}
use Rattle.frame_steps.proofs.Histories.{after_part}
use Rattle.run_replay.proofs.Items.{got_one}
use Rattle.run_replay.proofs.Determined.{refused_or_not}
use Rattle.run_replay.proofs.Plays.{misfit_turn, misfit_place}

-- nothing has been said
module _ (functions : List Code) (shape : Shape) (main : ℕ) where
  first_targets : Targets
  first_targets number = record { function = main; argument = 0 }

  first_run : (frame : FrameState) → IsAfter functions main 0 [] frame → IsRunWith functions shape main (λ number. record { function = main; argument = 0 }) []
  first_run frame begun =
      record { judged = record { legal = tt; memory = tt; reducers = tt }; root = refl; says = λ number has. after_part functions frame main 0 [] begun }

  first_table : (frame : FrameState) → Stands functions frame → IsAfter functions main 0 [] frame →
      IsFrameTable functions shape main (λ number. record { function = main; argument = 0 }) [] (placed_frames (frame ∷ []) (0 ∷ []))
  first_table frame stands begun = record {
    run = first_run frame begun;
    only = same;
    counted = refl;
    each = λ place number one at is. subst (λ f. Stands functions f × IsAfter functions main 0 [] f) (got_one frame one place is).1 (stands, begun);
    strands = refl;
    placed = λ strand place is. ap (slice_get (0 ∷ [])) (sym (got_one 0 place strand is).1);
  }
    where
      same : (others : Targets) → IsRunWith functions shape main others [] → (number : ℕ) → HasFrame [] number → others number ≡ record { function = main; argument = 0 }
      same others run number (inl e) = ap others e ∙ run.root
      same others run number (inr none) = elim none [ ]

pub opens_plays : (functions : List Code) (shape : Shape) (gate : GateState) (frames : List FrameState) (places : List ℕ) →
    Opens functions shape gate (placed_frames frames places) → Plays functions shape gate (placed_frames frames places)
opens_plays functions shape gate frames places o =
    subst (λ g. Plays functions shape g (placed_frames frames places)) (sym o.gate_is)
    (subst (λ f. Plays functions shape (opening shape most_entries) (placed_frames f places)) (sym o.frames_are)
    (subst (λ s. Plays functions shape (opening shape most_entries) (placed_frames (o.frame ∷ []) s)) (sym o.places_are) (record {
      shape_is = refl;
      limit_is = refl;
      going = refl;
      within = omega arith;
      main = o.main;
      is_main = o.is_main;
      targets = λ number. record { function = o.main; argument = 0 };
      is_table = first_table functions shape o.main o.frame o.stands o.begun;
    })))

module _ (functions : List Code) (shape : Shape) (gate : GateState) (frames : List FrameState) (places : List ℕ) (plays : Plays functions shape gate (placed_frames frames places)) where
  -- the entries so far are a run
  pub plays_run : IsRun functions shape gate.history
  plays_run = record { main = plays.main; is_main = plays.is_main; targets = plays.targets; run = plays.is_table.run }

  module _ (entry : Entry) where
    pub judged_so : (after : GateState) → IsEntered entry gate after → IsJudged shape (entry ∷ gate.history)
    judged_so after e = subst (λ s. IsJudged s (entry ∷ gate.history)) (e.shape ∙ plays.shape_is) (subst (IsJudged after.shape) e.history e.judged)

    pub plays_on : (after : GateState) → IsEntered entry gate after → (targets : Targets) (frames2 : List FrameState) (places2 : List ℕ) →
        IsFrameTable functions shape plays.main targets (entry ∷ gate.history) (placed_frames frames2 places2) →
        Plays functions shape after (placed_frames frames2 places2)
    plays_on after e targets frames2 places2 is_table = record {
      shape_is = e.shape ∙ plays.shape_is;
      limit_is = e.limit ∙ plays.limit_is;
      going = e.stopped ∙ plays.going;
      within = (let below = e.below in let limit = plays.limit_is in let longer : length after.history ≡ suc (length gate.history) = ap length e.history in omega arith);
      main = plays.main;
      is_main = plays.is_main;
      targets = targets;
      is_table = subst (λ h. IsFrameTable functions shape plays.main targets h (placed_frames frames2 places2)) (sym e.history) is_table;
    }

    pub odd_misfit : IsOdd entry gate → IsMisfit functions shape entry gate
    odd_misfit odd run =
        elim (odd plays.going (subst (λ s. IsJudged s (entry ∷ gate.history)) (sym plays.shape_is) run.run.judged)) [
          | inl full ↦ inl (full ∙ plays.limit_is)
          | inr refused ↦ inr refused
        ]

    pub turn_misfit : (place : ℕ) (frame : FrameState) → slice_get places entry.request.strand ≡ Some place → slice_get frames place ≡ Some frame →
        HasNoTurn functions entry frame → IsMisfit functions shape entry gate
    turn_misfit place frame its_place got none run =
        absurd (misfit_turn functions shape plays.main plays.is_main plays.targets gate.history frames places plays.is_table entry place frame its_place got none run)

    pub place_misfit : slice_get places entry.request.strand ≡ None → IsMisfit functions shape entry gate
    place_misfit none run = absurd (misfit_place functions shape plays.main plays.is_main plays.targets gate.history frames places plays.is_table entry none run)

-- one of the three causes
pub told : (functions : List Code) (shape : Shape) (entry : Entry) (entries : Entries) (number : ℕ) → number ≡ suc (length entries) →
    (IsRun functions shape (entry ∷ entries) → (length entries ≡ most_entries) ⊎ IsRefused entry.answer) →
    (IsRun functions shape (entry ∷ entries) → ⊥) ⊎ (most_entries < number) ⊎ IsRefused entry.answer
told functions shape entry entries number is misfit =
    elim (refused_or_not entry.answer) [
      | inl refused ↦ inr (inr refused)
      | inr clean ↦ elim (same_or_not (length entries) most_entries) [
        | inl full ↦ inr (inl (omega arith))
        | inr room ↦ inl (λ run. elim (misfit run) [ inl full ↦ room full | inr refused ↦ clean refused ])
      ]
    ]
