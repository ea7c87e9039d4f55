-- One more of the entries in a slice, and what it does to strands and edges.
-- h: a history; s: a strand; j: a join; x: an answer; i: a place among the entries; d: what a list gives where it has no entry
use Rattle.std.proofs.Common.{◌≡◌, ◌⊎◌, inl, inr, ℕ, ◌+◌, ◌<◌, Bool, true, List, [], ◌∷◌, ◌++◌, length, get_or, set, take, drop, reverse, Option, Some, None, refl, sym, ap, ◌∙◌, subst, arith}
use Rattle.std.specs.Prelude.{MatchOption}
use Rattle.std.proofs.lemmas.List.{reverse-append, take-append-drop, take_more}
use Rattle.model_accesses.specs.declared.request.Act.{Act}
use Rattle.model_accesses.specs.declared.request.Act.TheVariants.{Spawn, Sync, Call, Return, Read, Write, Bump, Update, Put, Get}
use Rattle.model_strands.specs.declared.spawned.Spawned.{Spawned}
use Rattle.model_strands.specs.History.{Event, joined, ended_joined, History}
use Rattle.model_strands.specs.Strands.{Running, unused}
use Rattle.model_strands.specs.Blocks.{stack, enclosing}
use Rattle.model_strands.specs.Legal.{Allowed, sync_joined, last_return}
use Rattle.law_strands.proofs.Places.{running_below}
use Rattle.law_strands.proofs.Range.{ranges}
use Rattle.model_histories.specs.declared.answer.Answer.{Answer}
use Rattle.model_histories.specs.declared.answer.Answer.TheVariants.{Split, Same, Joined, Waits, Resumed, Ended, EndedJoined, Finished, Granted, Value, Refused, Unset}
use Rattle.model_histories.specs.declared.answer.Entry.{Entry}
use Rattle.model_histories.specs.Entries.{Entries, event_between, with_event, control_part}
use Rattle.model_histories.specs.Shapes.{Shape}
use Rattle.model_histories.specs.Legal.{Belongs, IsLegal}
use Rattle.dag_drawing.specs.declared.drawing.Edge.{Edge}
use Rattle.dag_drawing.specs.Arrows.{forks, arrival}
use Rattle.dag_drawing.specs.Walks.{IsLegalHistory, marks_of, blocks_of, IsWalk}
use Rattle.dag_drawing.proofs.Places.{walk_split, walk_waits, walk_ended, walk_joined, walk_ended_joined, walk_same, walk_call, walk_resumed, walk_finished, join_known}

-- ---- entries in a slice

so_far : (told : List Entry) (i : ℕ) (d : Entry) → i < length told → reverse (take (i + 1) told) ≡ get_or told i d ∷ reverse (take i told)
so_far told i d below = ap (λ (xs : Entries). reverse xs) (take_more told i d below) ∙ reverse-append (take i told) (get_or told i d ∷ [])

legal_earlier : (shape : Shape) (later entries : Entries) → IsLegal shape (later ++ entries) → IsLegal shape entries
legal_earlier shape [] entries legal = legal
legal_earlier shape (entry ∷ later) entries legal = legal_earlier shape later entries legal.0

legal_next : (told : List Entry) (i : ℕ) (d : Entry) → i < length told → (legal : IsLegalHistory (reverse told)) →
    IsLegal legal.0 (get_or told i d ∷ reverse (take i told))
legal_next told i d below (shape, legal) =
    let whole : reverse told ≡ reverse (drop (i + 1) told) ++ reverse (take (i + 1) told) =
    ap (λ (xs : Entries). reverse xs) (sym (take-append-drop (i + 1) told)) ∙ reverse-append (take (i + 1) told) (drop (i + 1) told) in
    subst (IsLegal shape) (so_far told i d below)
    (legal_earlier shape (reverse (drop (i + 1) told)) (reverse (take (i + 1) told)) (subst (IsLegal shape) whole legal))

pub strand_within : (told : List Entry) (i : ℕ) (d : Entry) → i < length told → IsLegalHistory (reverse told) →
    (begun : List Bool) (blocks : List (Option ℕ)) (edges : List Edge) → IsWalk begun blocks edges (control_part (reverse (take i told))) →
    (get_or told i d).request.strand < length blocks
strand_within told i d below legal begun blocks edges walk =
    let run = (legal_next told i d below legal).1.runs in
    let known = running_below (control_part (reverse (take i told))) (ranges walk.legal) (get_or told i d).request.strand run in
    omega (arith, known, walk.places)

-- ---- one more entry, by its answer

-- the history after an act with this answer
abbrev after_act : ℕ → Act → Answer → History → History
after_act strand act answer h = with_event (event_between strand act answer) h

-- what is known of an entry that may follow
abbrev MayCome : ℕ → Act → Answer → History → Type 0
MayCome strand act answer h = Running h strand × Belongs act answer × MatchOption (event_between strand act answer) (Unit {0}) (Allowed h)

joined_at : (h : History) (s j : ℕ) → Allowed h (joined s j) → enclosing (stack h s) ≡ Some j
joined_at h s j (sync_joined run st none) = ap enclosing st

returned_at : (h : History) (s j : ℕ) → Allowed h (ended_joined s j) → enclosing (stack h s) ≡ Some j
returned_at h s j (last_return run st last) = ap enclosing st

-- what an access is answered
abbrev IsOfAccess : Answer → Type 0
IsOfAccess Granted = Unit {0}
IsOfAccess (Value value) = Unit {0}
IsOfAccess (Refused rule witness) = Unit {0}
IsOfAccess Unset = Unit {0}
IsOfAccess answer = ⊥

no_event : (strand : ℕ) (act : Act) (answer : Answer) → IsOfAccess answer → event_between strand act answer ≡ None
no_event strand Spawn Granted of = refl
no_event strand Spawn (Value value) of = refl
no_event strand Spawn (Refused rule witness) of = refl
no_event strand Spawn Unset of = refl
no_event strand Spawn answer of = absurd of
no_event strand Sync Granted of = refl
no_event strand Sync (Value value) of = refl
no_event strand Sync (Refused rule witness) of = refl
no_event strand Sync Unset of = refl
no_event strand Sync answer of = absurd of
no_event strand Call Granted of = refl
no_event strand Call (Value value) of = refl
no_event strand Call (Refused rule witness) of = refl
no_event strand Call Unset of = refl
no_event strand Call answer of = absurd of
no_event strand Return Granted of = refl
no_event strand Return (Value value) of = refl
no_event strand Return (Refused rule witness) of = refl
no_event strand Return Unset of = refl
no_event strand Return answer of = absurd of
no_event strand (Read location) answer of = refl
no_event strand (Write location value) answer of = refl
no_event strand (Bump location value) answer of = refl
no_event strand (Update reducer value) answer of = refl
no_event strand (Put reducer value) answer of = refl
no_event strand (Get reducer) answer of = refl

-- the answer neither spawns nor ends a strand at a join
abbrev pub IsQuiet : Answer → Type 0
IsQuiet answer =
    ((spawned : Spawned) → answer ≡ Split spawned → ⊥) × ((join : ℕ) → answer ≡ Joined join → ⊥) × (answer ≡ Waits → ⊥) × (answer ≡ Ended → ⊥) ×
    ((join : ℕ) → answer ≡ EndedJoined join → ⊥)

module _ (begun : List Bool) (blocks : List (Option ℕ)) (edges : List Edge) (strand : ℕ) (h : History) (walk : IsWalk begun blocks edges h) where
  after_split : (act : Act) (spawned : Spawned) → MayCome strand act (Split spawned) h →
      IsWalk (begun ++ marks_of spawned.first) (blocks ++ blocks_of spawned.first spawned.join (get_or blocks strand None))
      (edges ++ forks strand spawned.child spawned.next) (after_act strand act (Split spawned) h)
  after_split Spawn spawned (run, b, a) = walk_split begun blocks edges h strand spawned.child spawned.next spawned.join spawned.first walk a
  after_split act spawned (run, b, a) = absurd b

  after_waits : (act : Act) → MayCome strand act Waits h → IsWalk begun blocks (edges ++ arrival strand (get_or blocks strand None)) (after_act strand act Waits h)
  after_waits Sync (run, b, a) = walk_waits begun blocks edges h strand walk run a
  after_waits act (run, b, a) = absurd b

  after_ended : (act : Act) → MayCome strand act Ended h → IsWalk begun blocks (edges ++ arrival strand (get_or blocks strand None)) (after_act strand act Ended h)
  after_ended Return (run, b, a) = walk_ended begun blocks edges h strand walk run a
  after_ended act (run, b, a) = absurd b

  after_joined : (act : Act) (join : ℕ) → MayCome strand act (Joined join) h → (join < length begun) ×
      IsWalk (set begun join true) blocks (edges ++ arrival strand (get_or blocks strand None)) (after_act strand act (Joined join) h)
  after_joined Sync join (run, b, a) =
      let known : join < unused h = join_known h strand join walk.legal (joined_at h strand join a) in
      (omega (arith, known, walk.marks), walk_joined begun blocks edges h strand join walk run known a)
  after_joined act join (run, b, a) = absurd b

  after_returned : (act : Act) (join : ℕ) → MayCome strand act (EndedJoined join) h → (join < length begun) ×
      IsWalk (set begun join true) blocks (edges ++ arrival strand (get_or blocks strand None)) (after_act strand act (EndedJoined join) h)
  after_returned Return join (run, b, a) =
      let known : join < unused h = join_known h strand join walk.legal (returned_at h strand join a) in
      (omega (arith, known, walk.marks), walk_ended_joined begun blocks edges h strand join walk run known a)
  after_returned act join (run, b, a) = absurd b

  after_same : (act : Act) → MayCome strand act Same h → IsWalk begun blocks edges (after_act strand act Same h)
  after_same Sync (run, b, a) = walk_same begun blocks edges h strand walk a
  after_same Call (run, b, a) = walk_call begun blocks edges h strand walk a
  after_same act (run, b, a) = absurd b

  after_resumed : (act : Act) → MayCome strand act Resumed h → IsWalk begun blocks edges (after_act strand act Resumed h)
  after_resumed Return (run, b, a) = walk_resumed begun blocks edges h strand walk a
  after_resumed act (run, b, a) = absurd b

  after_finished : (act : Act) → MayCome strand act Finished h → IsWalk begun blocks edges (after_act strand act Finished h)
  after_finished Return (run, b, a) = walk_finished begun blocks edges h strand walk run a
  after_finished act (run, b, a) = absurd b

  after_access : (act : Act) (answer : Answer) → IsOfAccess answer → IsWalk begun blocks edges (after_act strand act answer h)
  after_access act answer of = subst (λ (o : Option Event). IsWalk begun blocks edges (with_event o h)) (sym (no_event strand act answer of)) walk

  after_quiet : (act : Act) (answer : Answer) → MayCome strand act answer h → IsQuiet answer → IsWalk begun blocks edges (after_act strand act answer h)
  after_quiet act Same may quiet = after_same act may
  after_quiet act Resumed may quiet = after_resumed act may
  after_quiet act Finished may quiet = after_finished act may
  after_quiet act Granted may quiet = after_access act Granted tt
  after_quiet act (Value value) may quiet = after_access act (Value value) tt
  after_quiet act (Refused rule witness) may quiet = after_access act (Refused rule witness) tt
  after_quiet act Unset may quiet = after_access act Unset tt
  after_quiet act (Split spawned) may quiet = absurd (quiet.0 spawned refl)
  after_quiet act (Joined join) may quiet = absurd (quiet.1 join refl)
  after_quiet act Waits may quiet = absurd (quiet.2 refl)
  after_quiet act Ended may quiet = absurd (quiet.3 refl)
  after_quiet act (EndedJoined join) may quiet = absurd (quiet.4 join refl)

-- ---- one more of the entries in a slice

abbrev At : List Entry → ℕ → History
At told i = control_part (reverse (take i told))

module _ (told : List Entry) (i : ℕ) (d : Entry) (below : i < length told) (legal : IsLegalHistory (reverse told)) where
  abbrev here : Entry
  here = get_or told i d

  may_come : (answer : Answer) → here.answer ≡ answer → MayCome here.request.strand here.request.act answer (At told i)
  may_come answer is =
      let next = (legal_next told i d below legal).1 in
      subst (λ (x : Answer). MayCome here.request.strand here.request.act x (At told i)) is (next.runs, next.belongs, next.allowed)

  -- the walk after the entry is the one after its act with its answer
  come : (answer : Answer) → here.answer ≡ answer → (begun old_begun : List Bool) (blocks old_blocks : List (Option ℕ)) (edges old_edges : List Edge) →
      begun ≡ old_begun → blocks ≡ old_blocks → edges ≡ old_edges →
      IsWalk old_begun old_blocks old_edges (after_act here.request.strand here.request.act answer (At told i)) → IsWalk begun blocks edges (At told (i + 1))
  come answer is begun old_begun blocks old_blocks edges old_edges e f g after =
      let there : IsWalk old_begun old_blocks old_edges (At told (i + 1)) =
      subst (λ (xs : Entries). IsWalk old_begun old_blocks old_edges (control_part xs)) (sym (so_far told i d below))
      (subst (λ (x : Answer). IsWalk old_begun old_blocks old_edges (after_act here.request.strand here.request.act x (At told i))) (sym is) after) in
      rw (e, f, g) there

  pub next_split : (old_begun begun : List Bool) (old_blocks blocks : List (Option ℕ)) (old_edges edges : List Edge) → IsWalk old_begun old_blocks old_edges (At told i) →
      (spawned : Spawned) → here.answer ≡ Split spawned → begun ≡ old_begun ++ marks_of spawned.first →
      blocks ≡ old_blocks ++ blocks_of spawned.first spawned.join (get_or old_blocks here.request.strand None) →
      edges ≡ old_edges ++ forks here.request.strand spawned.child spawned.next → IsWalk begun blocks edges (At told (i + 1))
  next_split old_begun begun old_blocks blocks old_edges edges walk spawned is e f g =
      come (Split spawned) is begun _ blocks _ edges _ e f g
      (after_split old_begun old_blocks old_edges here.request.strand (At told i) walk here.request.act spawned (may_come (Split spawned) is))

  pub next_end : (old_begun begun : List Bool) (old_blocks blocks : List (Option ℕ)) (old_edges edges : List Edge) → IsWalk old_begun old_blocks old_edges (At told i) →
      (here.answer ≡ Waits) ⊎ (here.answer ≡ Ended) → begun ≡ old_begun → blocks ≡ old_blocks →
      edges ≡ old_edges ++ arrival here.request.strand (get_or old_blocks here.request.strand None) → IsWalk begun blocks edges (At told (i + 1))
  next_end old_begun begun old_blocks blocks old_edges edges walk (inl is) e f g =
      come Waits is begun _ blocks _ edges _ e f g
      (after_waits old_begun old_blocks old_edges here.request.strand (At told i) walk here.request.act (may_come Waits is))
  next_end old_begun begun old_blocks blocks old_edges edges walk (inr is) e f g =
      come Ended is begun _ blocks _ edges _ e f g
      (after_ended old_begun old_blocks old_edges here.request.strand (At told i) walk here.request.act (may_come Ended is))

  pub join_within : (begun : List Bool) (blocks : List (Option ℕ)) (edges : List Edge) → IsWalk begun blocks edges (At told i) → (join : ℕ) →
      (here.answer ≡ Joined join) ⊎ (here.answer ≡ EndedJoined join) → join < length begun
  join_within begun blocks edges walk join (inl is) =
      (after_joined begun blocks edges here.request.strand (At told i) walk here.request.act join (may_come (Joined join) is)).0
  join_within begun blocks edges walk join (inr is) =
      (after_returned begun blocks edges here.request.strand (At told i) walk here.request.act join (may_come (EndedJoined join) is)).0

  pub next_join : (old_begun begun : List Bool) (old_blocks blocks : List (Option ℕ)) (old_edges edges : List Edge) → IsWalk old_begun old_blocks old_edges (At told i) →
      (join : ℕ) → (here.answer ≡ Joined join) ⊎ (here.answer ≡ EndedJoined join) → begun ≡ set old_begun join true → blocks ≡ old_blocks →
      edges ≡ old_edges ++ arrival here.request.strand (get_or old_blocks here.request.strand None) → IsWalk begun blocks edges (At told (i + 1))
  next_join old_begun begun old_blocks blocks old_edges edges walk join (inl is) e f g =
      come (Joined join) is begun _ blocks _ edges _ e f g
      (after_joined old_begun old_blocks old_edges here.request.strand (At told i) walk here.request.act join (may_come (Joined join) is)).1
  next_join old_begun begun old_blocks blocks old_edges edges walk join (inr is) e f g =
      come (EndedJoined join) is begun _ blocks _ edges _ e f g
      (after_returned old_begun old_blocks old_edges here.request.strand (At told i) walk here.request.act join (may_come (EndedJoined join) is)).1

  pub next_quiet : (begun : List Bool) (blocks : List (Option ℕ)) (edges : List Edge) → IsWalk begun blocks edges (At told i) →
      IsQuiet here.answer → IsWalk begun blocks edges (At told (i + 1))
  next_quiet begun blocks edges walk quiet =
      come here.answer refl begun begun blocks blocks edges edges refl refl refl
      (after_quiet begun blocks edges here.request.strand (At told i) walk here.request.act here.answer (may_come here.answer refl) quiet)
