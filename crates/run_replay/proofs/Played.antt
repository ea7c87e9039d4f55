-- The goals of a played entry.
use Rattle.std.proofs.Common.{◌≡◌, ◌≢◌, ◌⊎◌, inl, inr, ℕ, ◌<◌, List, ◌++◌, length, set, Option, Some, None, sym, ◌∙◌, ap, arith}
use Rattle.std.specs.Prelude.{slice_get}
use Rattle.std.proofs.lemmas.Option.{slice_get_within}
use Rattle.model_histories.specs.declared.answer.Answer.TheVariants.{Split}
use Rattle.model_strands.specs.declared.spawned.Spawned.{Spawned}
use Rattle.model_histories.specs.declared.answer.Entry.{Entry}
use Rattle.model_histories.specs.Shapes.{Shape}
use Rattle.model_histories.specs.States.{GateState}
use Rattle.model_bodies.specs.Codes.{Code}
use Rattle.model_programs.specs.declared.target.Target.{Target}
use Rattle.frame_steps.specs.States.{FrameState}
use Rattle.frame_steps.specs.Frames.{Stands}
use Rattle.model_runs.specs.Frames.{IsSplit}
use Rattle.run_replay.specs.Turns.{IsEntered, IsTurn, HasNoTurn}
use Rattle.run_replay.specs.declared.frame_table.Slot.{Slot}
use Rattle.run_replay.specs.FrameTables.{new_places, placed_frames, IsBegun, IsMisfit, Plays}
use Rattle.run_replay.specs.Slots.{IsHome, AreHeld, PlaysIn}
use Rattle.run_replay.proofs.Plays.{item_below, its_place_there, went_on, split_on, split_target}
use Rattle.run_replay.proofs.Openings.{judged_so, plays_on, turn_misfit}
use Rattle.run_replay.proofs.Slots.{same_item, held_turn}
use Rattle.run_replay.proofs.Turns.{over_none}

-- the frame of a its_place
module _ (functions : List Code) (shape : Shape) (gate : GateState) (frames : List FrameState) (places : List ℕ) (plays : Plays functions shape gate (placed_frames frames places)) (entry : Entry)
    (place : ℕ) (its_place : slice_get places entry.request.strand ≡ Some place) where
  pub place_there : place < length frames
  place_there = its_place_there functions shape plays.main plays.is_main plays.targets gate.history frames places plays.is_table entry place its_place

  module _ (before after : FrameState) (target : Option Target) (gate2 : GateState) (got : slice_get frames place ≡ Some before) (turn : IsTurn functions entry target before after)
      (entered : IsEntered entry gate gate2) where
    pub plays_calm : (IsSplit entry.answer → ⊥) → Plays functions shape gate2 (placed_frames (set frames place after) places)
    plays_calm calm =
        plays_on functions shape gate frames places plays entry gate2 entered _ (set frames place after) places
        (went_on functions shape plays.main plays.is_main plays.targets gate.history frames places plays.is_table entry place before after target
        (judged_so functions shape gate frames places plays entry gate2 entered) its_place got turn calm)

    pub plays_split : (strands : Spawned) → entry.answer ≡ Split strands → (one : Target) → target ≡ Some one → (frames2 : List FrameState) →
        IsBegun functions one (set frames place after) frames2 → (places2 : List ℕ) →
        places2 ≡ places ++ new_places strands.first (length (set frames place after)) place → Plays functions shape gate2 (placed_frames frames2 places2)
    plays_split strands split one some frames2 begun places2 sat =
        plays_on functions shape gate frames places plays entry gate2 entered _ frames2 places2
        (split_on functions shape plays.main plays.is_main plays.targets gate.history frames places plays.is_table entry place before after target
        (judged_so functions shape gate frames places plays entry gate2 entered) its_place got turn strands split one some frames2 begun places2 sat)

    pub targeted : (strands : Spawned) → entry.answer ≡ Split strands → target ≡ None → ⊥
    targeted strands split none =
        split_target functions shape plays.main plays.is_main plays.targets gate.history frames places plays.is_table entry place before after target
        (judged_so functions shape gate frames places plays entry gate2 entered) its_place got turn strands split none

-- the slot of a its_place
module _ {A : Type 0} (functions : List Code) (shape : Shape) (gate : GateState) (slots : List (Slot A)) (homes places : List ℕ) (plays : PlaysIn functions shape gate slots homes places)
    (entry : Entry) (place : ℕ) (its_place : slice_get places entry.request.strand ≡ Some place) where
  pub housed : place < length homes
  housed = let there = place_there functions shape gate plays.0 places plays.2 entry place its_place in omega (arith, there, plays.1.counted)

  module _ (home : ℕ) (home_is : slice_get homes place ≡ Some home) where
    pub frame : (frame : FrameState) × (slice_get plays.0 place ≡ Some frame)
    frame = item_below plays.0 place (place_there functions shape gate plays.0 places plays.2 entry place its_place)

    pub house : IsHome slots home place frame.0
    house = plays.1.each place home frame.0 home_is frame.1

    pub slot_there : home < length slots
    slot_there = slice_get_within slots home house.held house.there

    module _ (slot : Slot A) (slot_is : slice_get slots home ≡ Some slot) where
      pub same_slot : house.held ≡ slot
      same_slot = same_item house.held slot (sym house.there ∙ slot_is)

      own : slot.number ≡ place → slot.frame ≡ frame.0
      own e = ap (λ (s : Slot A). s.frame) (sym same_slot) ∙ house.own (ap (λ (s : Slot A). s.number) same_slot ∙ e)

      pub got : slot.number ≡ place → slice_get plays.0 place ≡ Some slot.frame
      got e = frame.1 ∙ ap Some (sym (own e))

      pub slot_stands : slot.number ≡ place → Stands functions slot.frame
      slot_stands e = (plays.2.is_table.each place _ slot.frame (plays.2.is_table.placed entry.request.strand place its_place) (got e)).0

      pub slot_misfit : (slot.number ≢ place) ⊎ ((slot.number ≡ place) × HasNoTurn functions entry slot.frame) → IsMisfit functions shape entry gate
      slot_misfit (inl other) =
          let over = house.lost (λ e. other (ap (λ (s : Slot A). s.number) (sym same_slot) ∙ e)) in
          turn_misfit functions shape gate plays.0 places plays.2 entry place frame.0 its_place frame.1 (over_none functions entry frame.0 over)
      slot_misfit (inr stuck) = turn_misfit functions shape gate plays.0 places plays.2 entry place slot.frame its_place (got stuck.0) stuck.1

      module _ (after : Slot A) (target : Option Target) (gate2 : GateState) (turn : (slot.number ≡ place) × (after.number ≡ place) × IsTurn functions entry target slot.frame after.frame)
          (entered : IsEntered entry gate gate2) where
        held : AreHeld (set slots home after) homes (set plays.0 place after.frame)
        held = held_turn slots homes plays.0 plays.1 place home slot after home_is slot_is turn.0 turn.1

        pub calm_in : (IsSplit entry.answer → ⊥) → PlaysIn functions shape gate2 (set slots home after) homes places
        calm_in calm = (
          set plays.0 place after.frame,
          held,
          plays_calm functions shape gate plays.0 places plays.2 entry place its_place slot.frame after.frame target gate2 (got turn.0) turn.2 entered calm,
        )

        pub split_in : (strands : Spawned) → entry.answer ≡ Split strands → (one : Target) → target ≡ Some one → (slots2 : List (Slot A)) (homes2 : List ℕ) →
            ((frames : List FrameState) → AreHeld (set slots home after) homes frames → (next : List FrameState) × AreHeld slots2 homes2 next × IsBegun functions one frames next) →
            (places2 : List ℕ) → places2 ≡ places ++ new_places strands.first (length homes) place → PlaysIn functions shape gate2 slots2 homes2 places2
        split_in strands split one some slots2 homes2 begins places2 sat =
            let next = begins (set plays.0 place after.frame) held in (
              next.0,
              next.1,
              plays_split functions shape gate plays.0 places plays.2 entry place its_place slot.frame after.frame target gate2 (got turn.0) turn.2 entered strands split one some next.0 next.2
                  places2 (sat ∙ ap (λ n. places ++ new_places strands.first n place) held.counted),
            )

        pub targeted_in : (strands : Spawned) → entry.answer ≡ Split strands → target ≡ None → ⊥
        targeted_in = targeted functions shape gate plays.0 places plays.2 entry place its_place slot.frame after.frame target gate2 (got turn.0) turn.2 entered

-- the same lists
pub plays_same : {A : Type 0} (functions : List Code) (shape : Shape) (gate : GateState) (slots slots2 : List (Slot A)) (homes homes2 places places2 : List ℕ) → slots2 ≡ slots → homes2 ≡ homes →
    places2 ≡ places → PlaysIn functions shape gate slots homes places → PlaysIn functions shape gate slots2 homes2 places2
plays_same {A} functions shape gate slots slots2 homes homes2 places places2 e f h plays = rw (e, f, h) plays
