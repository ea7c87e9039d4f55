-- The worked runs.
use Rattle.std.proofs.Common.{◌≡◌, inl, inr, ℕ, ◌<◌, List, [], ◌∷◌, refl}
use Rattle.model_strands.specs.Updated.{updated}
use Rattle.model_histories.specs.declared.answer.Answer.TheVariants.{Same, Joined, Ended, Finished, Granted, Value}
use Rattle.model_bodies.specs.Codes.{Code}
use Rattle.model_programs.specs.Scripts.{second_part}
use Rattle.model_programs.specs.Dialogue.{Part, stopped, passed, read, write, spawned, synced, returned, DialogueOf}
use Rattle.model_programs.specs.Evaluation.{read_evaluated, write_evaluated, spawn_evaluated, sync_evaluated, return_evaluated}
use Rattle.model_programs.specs.Elisions.{HasMain, EvaluatesProgram}
use Rattle.model_runs.specs.Frames.{HasSplit, said_by}
use Rattle.model_runs.specs.Runs.{IsRun, IsFinishedRun}
use Rattle.law_runs.specs.Examples.{two_cells, pair, pair_entries, series, series_entries, series_effects, choosing, chosen}
use Rattle.law_runs.proofs.ExampleHistories.{pair_judged, series_judged, chosen_judged}
use Rattle.law_runs.proofs.ExampleDialogues.{two_frames, child_targets}

-- the child's is the only split

pair_frames : (frame : ℕ) → HasSplit pair_entries frame → frame ≡ 1
pair_frames frame (inl s) = absurd s.1
pair_frames frame (inr (inl s)) = absurd s.1
pair_frames frame (inr (inr (inl s))) = absurd s.1
pair_frames frame (inr (inr (inr (inl s)))) = absurd s.1
pair_frames frame (inr (inr (inr (inr (inl s))))) = absurd s.1
pair_frames frame (inr (inr (inr (inr (inr (inl s)))))) = absurd s.1
pair_frames frame (inr (inr (inr (inr (inr (inr (inl s))))))) = s.0
pair_frames frame (inr (inr (inr (inr (inr (inr (inr none))))))) = absurd none

series_frames : (frame : ℕ) → HasSplit series_entries frame → frame ≡ 1
series_frames frame (inl s) = absurd s.1
series_frames frame (inr (inl s)) = absurd s.1
series_frames frame (inr (inr (inl s))) = absurd s.1
series_frames frame (inr (inr (inr (inl s)))) = absurd s.1
series_frames frame (inr (inr (inr (inr (inl s))))) = absurd s.1
series_frames frame (inr (inr (inr (inr (inr (inl s)))))) = absurd s.1
series_frames frame (inr (inr (inr (inr (inr (inr (inl s))))))) = absurd s.1
series_frames frame (inr (inr (inr (inr (inr (inr (inr (inl s)))))))) = absurd s.1
series_frames frame (inr (inr (inr (inr (inr (inr (inr (inr (inl s))))))))) = s.0
series_frames frame (inr (inr (inr (inr (inr (inr (inr (inr (inr none))))))))) = absurd none

chosen_frames : (value line frame : ℕ) → HasSplit (chosen value line) frame → frame ≡ 1
chosen_frames value line frame (inl s) = absurd s.1
chosen_frames value line frame (inr (inl s)) = absurd s.1
chosen_frames value line frame (inr (inr (inl s))) = absurd s.1
chosen_frames value line frame (inr (inr (inr (inl s)))) = s.0
chosen_frames value line frame (inr (inr (inr (inr none)))) = absurd none

module _ (ok_there : 0 < 17) (parameter_there : 1 < 17) (named_there : 2 < 17) where
  abbrev pairing : List Code
  pairing = pair ok_there parameter_there named_there

  abbrev serial : List Code
  serial = series ok_there parameter_there named_there

  abbrev chooser : List Code
  chooser = choosing ok_there parameter_there named_there

  pub pair_run : IsFinishedRun pairing two_cells pair_entries
  unfolding updated
  pair_run = (
    record {
      main = 0;
      is_main = refl;
      targets = child_targets;
      run = record {
        judged = pair_judged;
        root = refl;
        says = two_frames (λ frame. DialogueOf pairing (child_targets frame).function (child_targets frame).argument Part (said_by child_targets pair_entries frame))
            (record { code = _; there = refl; says = spawned _ refl (read _ refl (synced (Joined 3) refl (returned Finished tt))) })
            (record { code = _; there = refl; says = write Granted refl (synced Same refl (returned Ended tt)) }) pair_entries pair_frames;
      };
    },
    tt,
  )

  pub series_run : IsFinishedRun serial two_cells series_entries
  unfolding updated
  series_run = (
    record {
      main = 0;
      is_main = refl;
      targets = child_targets;
      run = record {
        judged = series_judged;
        root = refl;
        says = two_frames (λ frame. DialogueOf serial (child_targets frame).function (child_targets frame).argument Part (said_by child_targets series_entries frame))
            (record { code = _; there = refl; says = spawned _ refl (synced (Joined 3) refl (read (Value 7) refl (write Granted refl (synced Same refl (returned Finished tt))))) })
            (record { code = _; there = refl; says = write Granted refl (synced Same refl (returned Ended tt)) }) series_entries series_frames;
      };
    },
    tt,
  )

  pub series_elided : (main : Code) × HasMain serial main × EvaluatesProgram serial [] 2 main series_effects (record { memory = 7 ∷ 7 ∷ []; views = [] })
  series_elided = (
    _,
    (0, refl, refl),
    spawn_evaluated refl (write_evaluated (sync_evaluated return_evaluated)) (sync_evaluated (read_evaluated (write_evaluated (sync_evaluated return_evaluated)))) refl,
  )

  pub second_part_run : IsRun chooser two_cells (chosen 2 10)
  unfolding updated
  second_part_run = record {
    main = 0;
    is_main = refl;
    targets = child_targets;
    run = record {
      judged = chosen_judged 2 10;
      root = refl;
      says = two_frames (λ frame. DialogueOf chooser (child_targets frame).function (child_targets frame).argument Part (said_by child_targets (chosen 2 10) frame))
          (record { code = _; there = refl; says = spawned _ refl (read _ refl (passed (second_part refl) (write Granted refl stopped))) })
          (record { code = _; there = refl; says = write Granted refl stopped }) (chosen 2 10) (chosen_frames 2 10);
    };
  }
