-- One more entry of a replay.
use Rattle.std.proofs.Common.{◌≡◌, ◌≢◌, ◌⊎◌, inl, inr, ℕ, ◌+◌, ◌<◌, List, [], ◌∷◌, ◌++◌, length, set, Option, Some, None, refl, sym, ◌∙◌, ap, subst, arith}
use Rattle.std.specs.Prelude.{slice_get, MatchOption}
use Rattle.std.proofs.lemmas.List.{append-nil}
use Rattle.std.proofs.lemmas.Option.{slice_get_within, slice_get_cases}
use Rattle.model_accesses.specs.declared.request.Act.{Act}
use Rattle.model_strands.specs.declared.spawned.Spawned.{Spawned}
use Rattle.model_strands.specs.Updated.{updated}
use Rattle.model_strands.specs.History.{Event, split}
use Rattle.model_strands.specs.Strands.{unused}
use Rattle.model_strands.specs.Blocks.{stack}
use Rattle.model_strands.specs.Legal.{Allowed}
use Rattle.law_strands.proofs.Updates.{updated_at, updated_off}
use Rattle.model_histories.specs.declared.answer.Answer.TheVariants.{Split}
use Rattle.model_histories.specs.declared.answer.Entry.{Entry}
use Rattle.model_histories.specs.Entries.{Entries, event_between, event_of, with_event, control_part}
use Rattle.model_histories.specs.Shapes.{Shape}
use Rattle.model_races.specs.Judged.{IsJudged}
use Rattle.race_gate.proofs.Races.{legal-part}
use Rattle.race_gate.proofs.Answered.{strand-known}
use Rattle.model_bodies.specs.Codes.{Code}
use Rattle.model_bodies.specs.Sound.{IsMain}
use Rattle.model_programs.specs.declared.target.Target.{Target}
use Rattle.model_programs.specs.Exchanges.{Exchange}
use Rattle.model_programs.specs.Dialogue.{Part, DialogueOf}
use Rattle.frame_steps.specs.States.{FrameState}
use Rattle.frame_steps.specs.Frames.{Stands, IsAfter, CanFollow}
use Rattle.frame_steps.proofs.Histories.{after_part}
use Rattle.model_runs.specs.Frames.{Targets, IsSplit, HasFrame, frame_of, frame_in, next_frame, target_of, exchange_of, said_by}
use Rattle.model_runs.specs.Runs.{IsRun, IsRunWith}
use Rattle.law_runs.proofs.Strands.{SplitFrames, split_frames}
use Rattle.law_runs.proofs.Histories.{said_here, said_elsewhere, said_before, said_same, frame_before, begun_before, split_spawns, run_shorter}
use Rattle.run_replay.specs.Turns.{asks, target_or, IsTurn, HasNoTurn}
use Rattle.run_replay.specs.FrameTables.{begun_by, frames_in, new_places, placed_frames, IsBegun, IsFrameTable}
use Rattle.run_replay.proofs.Items.{got_kept, got_behind, got_cases, got_one, got_set, set_length, append_length}
use Rattle.run_replay.proofs.Frames.{place_of_frame, frame_at_place, one_place, not_split, same_unused, frame_kept, new_count, new_place}

-- where there is room there is an item
pub item_below : {A : Type 0} (xs : List A) (place : ℕ) → place < length xs → (x : A) × (slice_get xs place ≡ Some x)
item_below xs place below =
    elim (slice_get_cases xs place).1 [
      | inl k ↦ (k.0, k.2)
      | inr k ↦ (let past = k.0 in absurd (omega arith))
    ]

pub same_some : {A : Type 0} (x y : A) → Some x ≡ Some y → x ≡ y
same_some x y e = cc

module _ (functions : List Code) (shape : Shape) (main : ℕ) (is_main : IsMain functions main) (targets : Targets) (entries : Entries) (frames : List FrameState) (places : List ℕ)
    (is_table : IsFrameTable functions shape main targets entries (placed_frames frames places)) (entry : Entry) where
  here : ℕ
  here = frame_in entries entry.request.strand

  -- what a run with the entry says next
  follow : (place : ℕ) → slice_get places entry.request.strand ≡ Some place → (others : Targets) → IsRunWith functions shape main others (entry ∷ entries) →
      CanFollow functions (targets (frame_in entries entry.request.strand)).function (targets (frame_in entries entry.request.strand)).argument
      (said_by targets entries (frame_in entries entry.request.strand)) (exchange_of others (next_frame entries) entry)
  follow place its_place others run =
      let n = frame_in entries entry.request.strand in
      let has : HasFrame entries n = frame_at_place entries place n (is_table.placed entry.request.strand place its_place) in
      let agree = is_table.only others (run_shorter functions shape main others entry entries run) in
      let x = exchange_of others (next_frame entries) entry in
      let said : said_by others (entry ∷ entries) n ≡ said_by targets entries n ++ x ∷ [] =
      said_here others entry entries n refl ∙ ap (λ l. l ++ x ∷ []) (said_same shape others targets entries is_table.run.judged.legal agree n) in
      let P : Target → List Exchange → Type 0 = λ t l. DialogueOf functions t.function t.argument Part l in
      subst (λ t. P t (said_by targets entries n ++ x ∷ [])) (agree n has) (subst (P (others n)) said (run.says n (later n has)))
    where
      later : (frame : ℕ) → HasFrame entries frame → HasFrame (entry ∷ entries) frame
      later frame (inl e) = inl e
      later frame (inr s) = inr (inr s)

  same_main : (run : IsRun functions shape (entry ∷ entries)) → IsRunWith functions shape main run.targets (entry ∷ entries)
  same_main run = subst (λ m. IsRunWith functions shape m run.targets (entry ∷ entries)) (same_some run.main main (sym run.is_main ∙ is_main)) run.run

  -- where the frame has no such turn there is no run
  pub misfit_turn : (place : ℕ) (frame : FrameState) → slice_get places entry.request.strand ≡ Some place → slice_get frames place ≡ Some frame →
      HasNoTurn functions entry frame → IsRun functions shape (entry ∷ entries) → ⊥
  misfit_turn place frame its_place got none run =
      let n = frame_in entries entry.request.strand in
      none _ _ _ _ (is_table.each place n frame (is_table.placed entry.request.strand place its_place) got).1 (follow place its_place run.targets (same_main run))

  -- nor where the strand has no its_place
  pub misfit_place : slice_get places entry.request.strand ≡ None → IsRun functions shape (entry ∷ entries) → ⊥
  misfit_place none run =
      let known = strand-known (legal-part shape entries is_table.run.judged.legal) entry.request.strand run.run.judged.legal.1.runs in
      let count = is_table.strands in
      let item = item_below places entry.request.strand (omega arith) in
      let clash : None ≡ Some item.0 = sym none ∙ item.1 in
      cc

  pub its_place_there : (place : ℕ) → slice_get places entry.request.strand ≡ Some place → place < length frames
  its_place_there place its_place =
      let within = slice_get_within (frames_in entries) place _ (is_table.placed entry.request.strand place its_place) in
      let count = is_table.counted in
      omega arith

  module _ (place : ℕ) (before after : FrameState) (target : Option Target) (judged : IsJudged shape (entry ∷ entries)) (its_place : slice_get places entry.request.strand ≡ Some place)
      (got : slice_get frames place ≡ Some before) (turn : IsTurn functions entry target before after) where
    next : ℕ
    next = next_frame entries

    -- the targets with that of the frame that may begin
    abbrev pub grown : Targets
    grown = updated targets (next_frame entries) (target_or target (targets (next_frame entries)))

    at_next : grown (next_frame entries) ≡ target_or target (targets (next_frame entries))
    at_next = updated_at targets (next_frame entries) (target_or target (targets (next_frame entries))) (next_frame entries) refl

    at_old : (frame : ℕ) → HasFrame entries frame → grown frame ≡ targets frame
    at_old frame has =
        let below = begun_before shape entries is_table.run.judged.legal frame has in
        updated_off targets (next_frame entries) (target_or target (targets (next_frame entries))) frame (λ e. absurd (omega arith))

    exchange_is : exchange_of grown (next_frame entries) entry ≡ asks entry target
    exchange_is =
        let e : target_of entry.request.act (grown (next_frame entries)) ≡ target = ap (target_of entry.request.act) at_next ∙ turn.fits (targets (next_frame entries)) in
        λ i. record { act = entry.request.act; line = entry.request.line; target = e i; answer = entry.answer }

    said_old : (frame : ℕ) → said_by grown entries frame ≡ said_by targets entries frame
    said_old frame = said_same shape grown targets entries is_table.run.judged.legal at_old frame

    moved : (number : ℕ) (frame : FrameState) (history : List Exchange) → HasFrame entries number → said_by grown (entry ∷ entries) number ≡ history →
        IsAfter functions (targets number).function (targets number).argument history frame →
        IsAfter functions (grown number).function (grown number).argument (said_by grown (entry ∷ entries) number) frame
    moved number frame history has said a =
        subst (λ (t : Target). IsAfter functions t.function t.argument (said_by grown (entry ∷ entries) number) frame) (sym (at_old number has))
        (subst (λ l. IsAfter functions (targets number).function (targets number).argument l frame) (sym said) a)

    -- the frames that there were
    each_old : (k number : ℕ) (frame : FrameState) → slice_get (frames_in entries) k ≡ Some number → slice_get (set frames place after) k ≡ Some frame →
        Stands functions frame × IsAfter functions (grown number).function (grown number).argument (said_by grown (entry ∷ entries) number) frame
    each_old k number frame at is =
        elim (got_set frames place after k frame is) [
          | inl s ↦ (
              let n = frame_in entries entry.request.strand in
              let same : number ≡ n = same_some number n (sym at ∙ ap (slice_get (frames_in entries)) s.0 ∙ is_table.placed entry.request.strand place its_place) in
              let old = (is_table.each place n before (is_table.placed entry.request.strand place its_place) got).1 in
              let said : said_by grown (entry ∷ entries) number ≡ said_by targets entries number ++ asks entry target ∷ [] =
              said_here grown entry entries number (sym same) ∙ ap (λ l. l ++ exchange_of grown (next_frame entries) entry ∷ []) (said_old number) ∙
              ap (λ x. said_by targets entries number ++ x ∷ []) exchange_is in
              let P : FrameState → Type 0 = λ f. Stands functions f × IsAfter functions (grown number).function (grown number).argument (said_by grown (entry ∷ entries) number) f in
              let now = subst (λ m. IsAfter functions (targets m).function (targets m).argument (said_by targets entries m ++ asks entry target ∷ []) after) (sym same) (turn.goes_on _ _ _ old) in
              subst P s.1 (turn.stands, moved number after (said_by targets entries number ++ asks entry target ∷ []) (frame_at_place entries k number at) said now)
              )
          | inr o ↦ (
              let n = frame_in entries entry.request.strand in
              let other : n ≢ number = λ e. o.0 (one_place shape entries is_table.run.judged.legal k place number at (is_table.placed entry.request.strand place its_place ∙ ap Some e)) in
              let old = is_table.each k number frame at o.1 in
              (old.0, moved number frame (said_by targets entries number) (frame_at_place entries k number at) (said_elsewhere grown entry entries number other ∙ said_old number) old.1)
              )
        ]

    root_is : grown 0 ≡ record { function = main; argument = 0 }
    root_is = at_old 0 (inl refl) ∙ is_table.run.root

    -- no run with the entry has other targets
    only_grown : (others : Targets) → IsRunWith functions shape main others (entry ∷ entries) → (frame : ℕ) → HasFrame (entry ∷ entries) frame → others frame ≡ grown frame
    only_grown others run frame (inl e) = ap others e ∙ run.root ∙ sym root_is ∙ ap grown (sym e)
    only_grown others run frame (inr (inl s)) =
        let n = frame_in entries entry.request.strand in
        let old = (is_table.each place n before (is_table.placed entry.request.strand place its_place) got).1 in
        let spawned : target_of entry.request.act (others (next_frame entries)) ≡ target = turn.only _ _ _ (exchange_of others (next_frame entries) entry) old (follow place its_place others run) in
        let act = split_spawns entry.request.act entry.answer judged.legal.1.belongs s.1 in
        let some : Some (others (next_frame entries)) ≡ target = ap (λ a. target_of a (others (next_frame entries))) (sym act) ∙ spawned in
        ap others s.0 ∙ ap (λ o. target_or o (targets (next_frame entries))) some ∙ sym at_next ∙ ap grown (sym s.0)
    only_grown others run frame (inr (inr has)) =
        is_table.only others (run_shorter functions shape main others entry entries run) frame (inr has) ∙ sym (at_old frame (inr has))

    module _ (frames2 : List FrameState) (places2 : List ℕ) (counted : length frames2 ≡ length (frames_in (entry ∷ entries)))
        (each : (k number : ℕ) (frame : FrameState) → slice_get (frames_in (entry ∷ entries)) k ≡ Some number → slice_get frames2 k ≡ Some frame →
        Stands functions frame × IsAfter functions (grown number).function (grown number).argument (said_by grown (entry ∷ entries) number) frame)
        (strands : length places2 ≡ unused (control_part (entry ∷ entries)))
        (placed : (strand k : ℕ) → slice_get places2 strand ≡ Some k → slice_get (frames_in (entry ∷ entries)) k ≡ Some (frame_in (entry ∷ entries) strand)) where
      says : (number : ℕ) → HasFrame (entry ∷ entries) number → DialogueOf functions (grown number).function (grown number).argument Part (said_by grown (entry ∷ entries) number)
      says number has =
          let p = place_of_frame (entry ∷ entries) number has in
          let within = slice_get_within (frames_in (entry ∷ entries)) p.0 number p.1 in
          let item = item_below frames2 p.0 (omega arith) in
          after_part functions item.0 _ _ _ (each p.0 number item.0 p.1 item.1).1

      built : IsFrameTable functions shape main grown (entry ∷ entries) (placed_frames frames2 places2)
      built = record {
        run = record { judged = judged; root = root_is; says = says };
        only = only_grown;
        counted = counted;
        each = each;
        strands = strands;
        placed = placed;
      }

    -- a strand that had a its_place keeps it
    place_kept : (strand k : ℕ) → slice_get places strand ≡ Some k → slice_get (frames_in (entry ∷ entries)) k ≡ Some (frame_in (entry ∷ entries) strand)
    place_kept strand k is =
        let within = slice_get_within places strand k is in
        let count = is_table.strands in
        got_kept (frames_in entries) (begun_by entry.answer (next_frame entries)) k (frame_in (entry ∷ entries) strand)
        (is_table.placed strand k is ∙ ap Some (sym (frame_kept shape entry entries judged.legal strand (omega arith))))

    -- the entry is no split
    pub went_on : (IsSplit entry.answer → ⊥) → IsFrameTable functions shape main grown (entry ∷ entries) (placed_frames (set frames place after) places)
    went_on calm =
        let same : frames_in (entry ∷ entries) ≡ frames_in entries =
        ap (λ l. frames_in entries ++ l) (not_split entry.answer calm (next_frame entries)) ∙ append-nil (frames_in entries) in
        built (set frames place after) places (set_length frames place after ∙ is_table.counted ∙ ap length (sym same))
        (λ k number frame at is. each_old k number frame (ap (λ l. slice_get l k) (sym same) ∙ at) is) (is_table.strands ∙ sym (same_unused entry entries calm)) place_kept

    -- the entry is a split
    module _ (strands : Spawned) (is : entry.answer ≡ Split strands) (one : Target) (some : target ≡ Some one) (frames2 : List FrameState)
        (begun : IsBegun functions one (set frames place after) frames2) (places2 : List ℕ)
        (sat : places2 ≡ places ++ new_places strands.first (length (set frames place after)) place) where
      abbrev event : Event
      event = split entry.request.strand strands.child strands.next strands.join strands.first

      abbrev kept : List FrameState
      kept = set frames place after

      abbrev news : List ℕ
      news = new_places strands.first (length (set frames place after)) place

      act_is : entry.request.act ≡ Act.Spawn
      act_is = split_spawns entry.request.act entry.answer judged.legal.1.belongs (subst IsSplit (sym is) tt)

      event_is : event_of entry ≡ Some event
      event_is = ap (λ a. event_between entry.request.strand a entry.answer) act_is ∙ ap (λ b. event_between entry.request.strand Act.Spawn b) is

      part_is : control_part (entry ∷ entries) ≡ event ∷ control_part entries
      part_is = ap (λ e. with_event e (control_part entries)) event_is

      facts : SplitFrames (control_part entries) entry.request.strand strands.child strands.next strands.join strands.first
      facts =
          split_frames (control_part entries) entry.request.strand strands.child strands.next strands.join strands.first
          (subst (λ e. MatchOption e (Unit {0}) (Allowed (control_part entries))) event_is judged.legal.1.allowed)

      frames_are : frames_in (entry ∷ entries) ≡ frames_in entries ++ next_frame entries ∷ []
      frames_are = ap (λ a. frames_in entries ++ begun_by a (next_frame entries)) is

      as_many : length kept ≡ length (frames_in entries)
      as_many = set_length frames place after ∙ is_table.counted

      counted2 : length frames2 ≡ length (frames_in (entry ∷ entries))
      counted2 =
          let a : length (kept ++ begun.frame ∷ []) ≡ length kept + 1 = append_length kept (begun.frame ∷ []) in
          let b : length (frames_in entries ++ next_frame entries ∷ []) ≡ length (frames_in entries) + 1 = append_length (frames_in entries) (next_frame entries ∷ []) in
          ap length begun.pushed ∙ a ∙ ap (λ n. n + 1) as_many ∙ sym b ∙ ap length (sym frames_are)

      target_is : grown (next_frame entries) ≡ one
      target_is = at_next ∙ ap (λ o. target_or o (targets (next_frame entries))) some

      silent : said_by grown (entry ∷ entries) (next_frame entries) ≡ []
      silent =
          let below = frame_before entries entry.request.strand in
          let other : frame_in entries entry.request.strand ≢ next_frame entries = λ e. absurd (omega arith) in
          said_elsewhere grown entry entries (next_frame entries) other ∙ said_before grown entries (next_frame entries) (omega arith)

      abbrev Fits : ℕ → FrameState → Type 0
      Fits number frame = Stands functions frame × IsAfter functions (grown number).function (grown number).argument (said_by grown (entry ∷ entries) number) frame

      fresh : Fits (next_frame entries) begun.frame
      fresh = (
        begun.stands,
        subst (λ (t : Target). IsAfter functions t.function t.argument (said_by grown (entry ∷ entries) (next_frame entries)) begun.frame) (sym target_is)
            (subst (λ l. IsAfter functions one.function one.argument l begun.frame) (sym silent) begun.begun),
      )

      each2 : (k number : ℕ) (frame : FrameState) → slice_get (frames_in (entry ∷ entries)) k ≡ Some number → slice_get frames2 k ≡ Some frame →
          Stands functions frame × IsAfter functions (grown number).function (grown number).argument (said_by grown (entry ∷ entries) number) frame
      each2 k number frame at got2 =
          by (got_cases (frames_in entries) (next_frame entries ∷ []) k number (ap (λ l. slice_get l k) (sym frames_are) ∙ at))
          (got_cases kept (begun.frame ∷ []) k frame (ap (λ l. slice_get l k) (sym begun.pushed) ∙ got2))
        where
          by : (slice_get (frames_in entries) k ≡ Some number) ⊎ ((behind : ℕ) × (k ≡ length (frames_in entries) + behind) × (slice_get (next_frame entries ∷ []) behind ≡ Some number)) →
              (slice_get kept k ≡ Some frame) ⊎ ((behind : ℕ) × (k ≡ length kept + behind) × (slice_get (begun.frame ∷ []) behind ≡ Some frame)) →
              Fits number frame
          by (inl p) (inl q) = each_old k number frame p q
          by (inl p) (inr q) =
              let within = slice_get_within (frames_in entries) k number p in
              let same = as_many in
              let past = q.1 in
              absurd (omega arith)
          by (inr p) (inl q) =
              let within = slice_get_within kept k frame q in
              let same = as_many in
              let past = p.1 in
              absurd (omega arith)
          by (inr p) (inr q) =
              subst (λ n. Fits n frame) (got_one (next_frame entries) number p.0 p.2).1 (subst (Fits (next_frame entries)) (got_one begun.frame frame q.0 q.2).1 fresh)

      strands2 : length places2 ≡ unused (control_part (entry ∷ entries))
      strands2 =
          let count = new_count (control_part entries) entry.request.strand strands.child strands.next strands.join strands.first (length (set frames place after)) place in
          ap length sat ∙ append_length places news ∙ ap (λ n. n + length news) is_table.strands ∙ sym count ∙ ap unused (sym part_is)

      stands_at : (strand behind frame : ℕ) → strand ≡ length places + behind →
          frame_of (stack (event ∷ control_part entries) (unused (control_part entries) + behind)) ≡ frame → frame_in (entry ∷ entries) strand ≡ frame
      stands_at strand behind frame e f =
          ap (λ l. frame_of (stack l strand)) part_is ∙ ap (λ x. frame_of (stack (event ∷ control_part entries) x)) (e ∙ ap (λ n. n + behind) is_table.strands) ∙ f

      placed2 : (strand k : ℕ) → slice_get places2 strand ≡ Some k → slice_get (frames_in (entry ∷ entries)) k ≡ Some (frame_in (entry ∷ entries) strand)
      placed2 strand k got2 =
          elim (got_cases places news strand k (ap (λ l. slice_get l strand) (sym sat) ∙ got2)) [
            | inl old ↦ place_kept strand k old
            | inr new ↦ elim (new_place (control_part entries) entry.request.strand strands.child strands.next strands.join strands.first facts (length (set frames place after)) place new.0 k new.2) [
              | inl child ↦ ap (slice_get (frames_in (entry ∷ entries))) (child.0 ∙ as_many) ∙ ap (λ l. slice_get l (length (frames_in entries))) frames_are ∙
                  got_behind (frames_in entries) (next_frame entries) [] ∙ ap Some (sym (stands_at strand new.0 (next_frame entries) new.1 child.1))
              | inr spawner ↦ ap (slice_get (frames_in (entry ∷ entries))) spawner.0 ∙
                  got_kept (frames_in entries) (begun_by entry.answer (next_frame entries)) place (frame_in entries entry.request.strand) (is_table.placed entry.request.strand place its_place) ∙
                  ap Some (sym (stands_at strand new.0 (frame_in entries entry.request.strand) new.1 spawner.1))
            ]
          ]

      pub split_on : IsFrameTable functions shape main grown (entry ∷ entries) (placed_frames frames2 places2)
      split_on = built frames2 places2 counted2 each2 strands2 placed2

    -- a split has a target
    pub split_target : (strands : Spawned) → entry.answer ≡ Split strands → target ≡ None → ⊥
    split_target strands is none =
        let act = split_spawns entry.request.act entry.answer judged.legal.1.belongs (subst IsSplit (sym is) tt) in
        let some = ap (λ a. target_of a (target_or target (targets (next_frame entries)))) (sym act) ∙ turn.fits (targets (next_frame entries)) ∙ none in
        cc
