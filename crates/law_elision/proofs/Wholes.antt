-- At the end of a finished run each frame's dialogue is whole.
use Rattle.std.proofs.Common.{◌≡◌, ◌⊎◌, inl, inr, ℕ, suc, Option, Some, None, List, [], ◌∷◌, length, refl, sym, ap, ◌∙◌, subst}
use Rattle.std.specs.Prelude.{MatchOption}
use Rattle.model_accesses.specs.declared.request.Act.{Act}
use Rattle.model_accesses.specs.declared.request.Act.TheVariants.{Spawn, Sync, Call, Return}
use Rattle.model_strands.specs.History.{Event, split, same, joined, waits, call, resumed, ended, ended_joined, finished, History}
use Rattle.model_strands.specs.Blocks.{root, stack, Outstanding}
use Rattle.model_strands.specs.Legal.{Allowed, root_return}
use Rattle.law_strands.proofs.Decisions.{spawned_or_not}
use Rattle.law_strands.proofs.Busy.{HasFinished, busy}
use Rattle.law_strands.proofs.Finish.{closed}
use Rattle.law_strands.proofs.Members.{Present, present_append, map_present}
use Rattle.model_histories.specs.declared.answer.Answer.{Answer}
use Rattle.model_histories.specs.declared.answer.Answer.TheVariants.{Split, Same, Joined, Waits, Resumed, Ended, EndedJoined, Finished}
use Rattle.model_histories.specs.declared.answer.Entry.{Entry}
use Rattle.model_histories.specs.Entries.{Entries, event_between, event_of, with_event, control_part}
use Rattle.model_histories.specs.Shapes.{Shape}
use Rattle.model_histories.specs.Legal.{IsLegal, Belongs}
use Rattle.model_histories.specs.Extensions.{IsEnd, IsFinished}
use Rattle.race_gate.proofs.Races.{legal-part}
use Rattle.model_bodies.specs.declared.statement.Register.{Register}
use Rattle.model_bodies.specs.Codes.{Code}
use Rattle.model_bodies.specs.Trees.{Tree}
use Rattle.model_programs.specs.Values.{Registers}
use Rattle.model_programs.specs.Answers.{after_read, after_get, after_write, after_update, after_spawn, after_sync, FromCall, FromSpawn, IsReturned}
use Rattle.model_programs.specs.Exchanges.{Exchange}
use Rattle.model_programs.specs.Dialogue.{Extent, Whole, Part, Dialogue}
use Rattle.model_runs.specs.Frames.{IsSplit, Targets, frame_of, said_by}
use Rattle.law_elision.specs.Placed.{Placed, placed_at, IsPlaced, own}
use Rattle.law_elision.proofs.Placements.{split_entry, placed_own, said_own, exchange_at}

-- a function returned that was spawned
abbrev pub IsOver : Answer → Type 0
IsOver Ended = Unit {0}
IsOver (EndedJoined join) = Unit {0}
IsOver Finished = Unit {0}
IsOver answer = ⊥

-- no other exchange is answered so

read_over : (register : Register) (answer : Answer) (registers after : Registers) → after_read register answer registers ≡ Some after → IsOver answer → ⊥
read_over register Ended registers after e k = cc
read_over register (EndedJoined join) registers after e k = cc
read_over register Finished registers after e k = cc
read_over register _ registers after e k = k

get_over : (register : Register) (answer : Answer) (registers after : Registers) → after_get register answer registers ≡ Some after → IsOver answer → ⊥
get_over register Ended registers after e k = cc
get_over register (EndedJoined join) registers after e k = cc
get_over register Finished registers after e k = cc
get_over register _ registers after e k = k

write_over : (answer : Answer) (registers after : Registers) → after_write answer registers ≡ Some after → IsOver answer → ⊥
write_over Ended registers after e k = cc
write_over (EndedJoined join) registers after e k = cc
write_over Finished registers after e k = cc
write_over _ registers after e k = k

update_over : (answer : Answer) (registers after : Registers) → after_update answer registers ≡ Some after → IsOver answer → ⊥
update_over Ended registers after e k = cc
update_over (EndedJoined join) registers after e k = cc
update_over Finished registers after e k = cc
update_over _ registers after e k = k

spawn_over : (answer : Answer) (registers after : Registers) → after_spawn answer registers ≡ Some after → IsOver answer → ⊥
spawn_over Ended registers after e k = cc
spawn_over (EndedJoined join) registers after e k = cc
spawn_over Finished registers after e k = cc
spawn_over _ registers after e k = k

sync_over : (answer : Answer) (registers after : Registers) → after_sync answer registers ≡ Some after → IsOver answer → ⊥
sync_over Ended registers after e k = cc
sync_over (EndedJoined join) registers after e k = cc
sync_over Finished registers after e k = cc
sync_over _ registers after e k = k

return_over : (answer : Answer) → IsReturned FromCall answer → IsOver answer → ⊥
return_over Resumed r k = k
return_over Ended r k = r
return_over (EndedJoined join) r k = r
return_over Finished r k = r
return_over _ r k = k

-- the member is the first or a later one, of which the first is not over
later_one : (x y : Exchange) (said : List Exchange) → (IsOver x.answer → ⊥) → Present y (x ∷ said) → IsOver y.answer → Present y said
later_one x y said n (inl e) k = absurd (n (subst (λ z. IsOver z.answer) (sym e) k))
later_one x y said n (inr p) k = p

module _ (functions : List Code) where
  -- a called function is never over so
  call_over : {extent : Extent} (end_line : ℕ) (rest : Tree) (registers : Registers) (said : List Exchange) → Dialogue functions FromCall extent end_line rest registers said →
      (y : Exchange) → Present y said → IsOver y.answer → ⊥
  call_over end_line rest registers said Dialogue.stopped y p k = p
  call_over end_line rest registers said (Dialogue.passed q d) y p k = call_over end_line _ _ said d y p k
  call_over end_line rest registers said (Dialogue.read {said = more} {register = register} answer e d) y p k = call_over end_line _ _ more d y (later_one _ y more (read_over register answer registers _ e) p k) k
  call_over end_line rest registers said (Dialogue.write {said = more} answer e d) y p k = call_over end_line _ _ more d y (later_one _ y more (write_over answer registers _ e) p k) k
  call_over end_line rest registers said (Dialogue.bump {said = more} answer e d) y p k = call_over end_line _ _ more d y (later_one _ y more (write_over answer registers _ e) p k) k
  call_over end_line rest registers said (Dialogue.update {said = more} answer e d) y p k = call_over end_line _ _ more d y (later_one _ y more (update_over answer registers _ e) p k) k
  call_over end_line rest registers said (Dialogue.put {said = more} answer e d) y p k = call_over end_line _ _ more d y (later_one _ y more (write_over answer registers _ e) p k) k
  call_over end_line rest registers said (Dialogue.get {said = more} {register = register} answer e d) y p k = call_over end_line _ _ more d y (later_one _ y more (get_over register answer registers _ e) p k) k
  call_over end_line rest registers said (Dialogue.spawned {said = more} answer e d) y p k = call_over end_line _ _ more d y (later_one _ y more (spawn_over answer registers _ e) p k) k
  call_over end_line rest registers said (Dialogue.synced {said = more} answer e d) y p k = call_over end_line _ _ more d y (later_one _ y more (sync_over answer registers _ e) p k) k
  call_over end_line rest registers said (Dialogue.called {inner = inner} {outer = outer} {said = more} f c d j) y p k =
      elim ((present_append inner outer y).0 (subst (Present y) j (later_one _ y more (λ z. z) p k))) [
        | inl q ↦ call_over _ _ _ inner c y q k
        | inr q ↦ call_over end_line _ _ outer d y q k
      ]
  call_over end_line rest registers said (Dialogue.in_call {inner = inner} f c) y p k = call_over _ _ _ inner c y (later_one _ y inner (λ z. z) p k) k
  call_over end_line rest registers said (Dialogue.returned answer a) y p k = later_one _ y [] (return_over answer a) p k

  -- a spawned function that is over has its whole dialogue
  pub over_whole : {extent : Extent} (end_line : ℕ) (rest : Tree) (registers : Registers) (said : List Exchange) → Dialogue functions FromSpawn extent end_line rest registers said →
      (y : Exchange) → Present y said → IsOver y.answer → Dialogue functions FromSpawn Whole end_line rest registers said
  over_whole end_line rest registers said Dialogue.stopped y p k = absurd p
  over_whole end_line rest registers said (Dialogue.passed q d) y p k = Dialogue.passed q (over_whole end_line _ _ said d y p k)
  over_whole end_line rest registers said (Dialogue.read {said = more} {register = register} answer e d) y p k = Dialogue.read answer e (over_whole end_line _ _ more d y (later_one _ y more (read_over register answer registers _ e) p k) k)
  over_whole end_line rest registers said (Dialogue.write {said = more} answer e d) y p k = Dialogue.write answer e (over_whole end_line _ _ more d y (later_one _ y more (write_over answer registers _ e) p k) k)
  over_whole end_line rest registers said (Dialogue.bump {said = more} answer e d) y p k = Dialogue.bump answer e (over_whole end_line _ _ more d y (later_one _ y more (write_over answer registers _ e) p k) k)
  over_whole end_line rest registers said (Dialogue.update {said = more} answer e d) y p k = Dialogue.update answer e (over_whole end_line _ _ more d y (later_one _ y more (update_over answer registers _ e) p k) k)
  over_whole end_line rest registers said (Dialogue.put {said = more} answer e d) y p k = Dialogue.put answer e (over_whole end_line _ _ more d y (later_one _ y more (write_over answer registers _ e) p k) k)
  over_whole end_line rest registers said (Dialogue.get {said = more} {register = register} answer e d) y p k = Dialogue.get answer e (over_whole end_line _ _ more d y (later_one _ y more (get_over register answer registers _ e) p k) k)
  over_whole end_line rest registers said (Dialogue.spawned {said = more} answer e d) y p k = Dialogue.spawned answer e (over_whole end_line _ _ more d y (later_one _ y more (spawn_over answer registers _ e) p k) k)
  over_whole end_line rest registers said (Dialogue.synced {said = more} answer e d) y p k = Dialogue.synced answer e (over_whole end_line _ _ more d y (later_one _ y more (sync_over answer registers _ e) p k) k)
  over_whole end_line rest registers said (Dialogue.called {inner = inner} {outer = outer} {said = more} f c d j) y p k =
      elim ((present_append inner outer y).0 (subst (Present y) j (later_one _ y more (λ z. z) p k))) [
        | inl q ↦ absurd (call_over _ _ _ inner c y q k)
        | inr q ↦ Dialogue.called f c (over_whole end_line _ _ outer d y q k) j
      ]
  over_whole end_line rest registers said (Dialogue.in_call {inner = inner} f c) y p k = absurd (call_over _ _ _ inner c y (later_one _ y inner (λ z. z) p k) k)
  over_whole end_line rest registers said (Dialogue.returned answer a) y p k = Dialogue.returned answer a

-- an entry by which a frame is over
pub record Ending (entries : Entries) (number : ℕ) : Type 0 where
  pub placed : Placed
  pub stands : IsPlaced entries placed
  pub over : IsOver placed.entry.answer
  pub frame_is : placed.frame ≡ number

ending_older : (entry : Entry) (entries : Entries) (number : ℕ) → Ending entries number → Ending (entry ∷ entries) number
ending_older entry entries number b = record { placed = b.placed; stands = inr b.stands; over = b.over; frame_is = b.frame_is }

ended_is : (strand : ℕ) (act : Act) (answer : Answer) (s : ℕ) → event_between strand act answer ≡ Some (ended s) → (strand ≡ s) × IsOver answer
ended_is strand Spawn (Split t) s e = absurd (cc)
ended_is strand Sync Same s e = absurd (cc)
ended_is strand Sync (Joined k) s e = absurd (cc)
ended_is strand Sync Waits s e = absurd (cc)
ended_is strand Call Same s e = absurd (cc)
ended_is strand Return Resumed s e = absurd (cc)
ended_is strand Return Ended s e = (cc, tt)
ended_is strand Return (EndedJoined k) s e = absurd (cc)
ended_is strand Return Finished s e = absurd (cc)
ended_is strand act answer s e = absurd (cc)

ended_joined_is : (strand : ℕ) (act : Act) (answer : Answer) (s j : ℕ) → event_between strand act answer ≡ Some (ended_joined s j) → (strand ≡ s) × IsOver answer
ended_joined_is strand Spawn (Split t) s j e = absurd (cc)
ended_joined_is strand Sync Same s j e = absurd (cc)
ended_joined_is strand Sync (Joined k) s j e = absurd (cc)
ended_joined_is strand Sync Waits s j e = absurd (cc)
ended_joined_is strand Call Same s j e = absurd (cc)
ended_joined_is strand Return Resumed s j e = absurd (cc)
ended_joined_is strand Return Ended s j e = absurd (cc)
ended_joined_is strand Return (EndedJoined k) s j e = (cc, tt)
ended_joined_is strand Return Finished s j e = absurd (cc)
ended_joined_is strand act answer s j e = absurd (cc)

-- a split's function is outstanding, or it is over

abbrev pub IsOutstanding : History → ℕ → Type 0
IsOutstanding history number = (join : ℕ) × Outstanding history number join

outstanding_step : (entry : Entry) (entries : Entries) (number : ℕ) (found : Option Event) → event_of entry ≡ found → IsOutstanding (control_part entries) number →
    IsOutstanding (with_event found (control_part entries)) number ⊎ Ending (entry ∷ entries) number
outstanding_step entry entries m None is o = inl o
outstanding_step entry entries m (Some (split s c n j first)) is o = inl (o.0, inr o.1)
outstanding_step entry entries m (Some (same s)) is o = inl o
outstanding_step entry entries m (Some (joined s j)) is o = inl o
outstanding_step entry entries m (Some (waits s)) is o = inl o
outstanding_step entry entries m (Some (call s)) is o = inl o
outstanding_step entry entries m (Some (resumed s)) is o = inl o
outstanding_step entry entries m (Some (finished s)) is o = inl o
outstanding_step entry entries m (Some (ended s)) is o =
    elim (spawned_or_not (stack (control_part entries) s) m o.0) [
      | inl e ↦ (let t = ended_is entry.request.strand entry.request.act entry.answer s is in
          inr (record { placed = placed_at entries entry; stands = inl refl; over = t.1; frame_is = ap (λ z. frame_of (stack (control_part entries) z)) t.0 ∙ ap frame_of e }))
      | inr n ↦ inl (o.0, (n, o.1))
    ]
outstanding_step entry entries m (Some (ended_joined s j)) is o =
    elim (spawned_or_not (stack (control_part entries) s) m o.0) [
      | inl e ↦ (let t = ended_joined_is entry.request.strand entry.request.act entry.answer s j is in
          inr (record { placed = placed_at entries entry; stands = inl refl; over = t.1; frame_is = ap (λ z. frame_of (stack (control_part entries) z)) t.0 ∙ ap frame_of e }))
      | inr n ↦ inl (o.0, (n, o.1))
    ]

module _ (shape : Shape) where
  outstanding_or_over : (entries : Entries) → IsLegal shape entries → (x : Placed) → IsPlaced entries x → IsSplit x.entry.answer →
      IsOutstanding (control_part entries) x.begins ⊎ Ending entries x.begins
  outstanding_or_over [] l x p k = absurd p
  outstanding_or_over (entry ∷ entries) l x (inr p) k =
      elim (outstanding_or_over entries l.0 x p k) [
        | inl o ↦ outstanding_step entry entries x.begins (event_of entry) refl o
        | inr e ↦ inr (ending_older entry entries x.begins e)
      ]
  outstanding_or_over (entry ∷ entries) l x (inl e) k =
      let s = split_entry entry l.1.belongs (subst (λ y. IsSplit y.entry.answer) e k) in
      let o : IsOutstanding (with_event (event_of entry) (control_part entries)) (suc (length (control_part entries))) =
      subst (λ z. IsOutstanding (with_event z (control_part entries)) (suc (length (control_part entries)))) (sym s.is) (s.the_join, inl (refl, refl)) in
      inl (subst (λ y. IsOutstanding (control_part (entry ∷ entries)) y.begins) (sym e) o)

  finish_of : (strand : ℕ) (act : Act) (answer : Answer) → Belongs act answer → IsEnd answer → (event_between strand act answer ≡ Some (finished strand)) × IsOver answer
  finish_of strand Return Finished b k = (refl, tt)
  finish_of strand Spawn Finished b k = absurd b
  finish_of strand Sync Finished b k = absurd b
  finish_of strand Call Finished b k = absurd b
  finish_of strand (Act.Read x) Finished b k = absurd b
  finish_of strand (Act.Write x v) Finished b k = absurd b
  finish_of strand (Act.Bump x v) Finished b k = absurd b
  finish_of strand (Act.Update x v) Finished b k = absurd b
  finish_of strand (Act.Put x v) Finished b k = absurd b
  finish_of strand (Act.Get x) Finished b k = absurd b
  finish_of strand act _ b k = absurd k

  has_finished : (entries : Entries) → IsLegal shape entries → IsFinished entries → HasFinished (control_part entries)
  has_finished [] l f = absurd f
  has_finished (entry ∷ entries) l f =
      let t = finish_of entry.request.strand entry.request.act entry.answer l.1.belongs f in
      subst (λ z. HasFinished (with_event z (control_part entries))) (sym t.0) tt

  root_over : (h : History) (found : Option Event) (s : ℕ) → found ≡ Some (finished s) → MatchOption found (Unit {0}) (Allowed h) → stack h s ≡ root
  root_over h None s e a = absurd (cc)
  root_over h (Some event) s e a = go event a some
    where
      some : event ≡ finished s
      some = cc

      at_end : Allowed h (finished s) → stack h s ≡ root
      at_end (root_return run st) = st

      go : (event : Event) → Allowed h event → event ≡ finished s → stack h s ≡ root
      go event a e = at_end (subst (Allowed h) e a)

  pub root_ending : (entries : Entries) → IsLegal shape entries → IsFinished entries → Ending entries 0
  root_ending [] l f = absurd f
  root_ending (entry ∷ entries) l f =
      let t = finish_of entry.request.strand entry.request.act entry.answer l.1.belongs f in
      record {
        placed = placed_at entries entry;
        stands = inl refl;
        over = t.1;
        frame_is = ap frame_of (root_over (control_part entries) (event_of entry) entry.request.strand t.0 l.1.allowed);
      }

  -- at the end each frame is over
  pub ending : (entries : Entries) → IsLegal shape entries → IsFinished entries → (x : Placed) → IsPlaced entries x → IsSplit x.entry.answer → Ending entries x.begins
  ending entries l f x p k =
      elim (outstanding_or_over entries l x p k) [
        | inl o ↦ (let legal = legal-part shape entries l in
            let held = (busy legal).child_held x.begins o.0 o.1 in absurd (closed legal (has_finished entries l f) held.0 held.1))
        | inr e ↦ e
      ]

  pub ended_whole : (functions : List Code) (targets : Targets) (entries : Entries) (number end_line : ℕ) (rest : Tree) (registers : Registers) → Ending entries number →
      Dialogue functions FromSpawn Part end_line rest registers (said_by targets entries number) →
      Dialogue functions FromSpawn Whole end_line rest registers (said_by targets entries number)
  ended_whole functions targets entries number end_line rest registers e d =
      over_whole functions end_line rest registers (said_by targets entries number) d (exchange_at targets e.placed)
      (subst (Present (exchange_at targets e.placed)) (sym (said_own targets entries number))
      (map_present (exchange_at targets) e.placed (own entries number) (subst (λ f. Present e.placed (own entries f)) e.frame_is (placed_own entries e.placed e.stands))))
      e.over
