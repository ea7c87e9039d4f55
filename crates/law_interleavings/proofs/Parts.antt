-- A history that did a part of what another did.
-- H, K, R: histories of entries; T: the targets of R; h: a control history; e: an entry or an event; x: an item; z: what was spoken; n: a
-- strand
use Rattle.std.proofs.Common.{◌≡◌, ◌≢◌, ◌⊎◌, inl, inr, ℕ, suc, ◌<◌, ◌≤◌, true, List, [], ◌∷◌, length, Some, refl, sym, ap, ◌∙◌, subst, arith}
use Rattle.model_strands.specs.Address.{child, Address, extended}
use Rattle.law_addresses.specs.Address.{reaches}
use Rattle.law_addresses.proofs.Relations.{reaches-transitive, reaches-antisymmetric}
use Rattle.law_addresses.proofs.Extensions.{reaches-extension}
use Rattle.model_accesses.specs.declared.request.Act.{Act}
use Rattle.model_strands.specs.History.{Event, split, same, joined, waits, call, resumed, ended, ended_joined, finished, History}
use Rattle.model_strands.specs.Strands.{Running}
use Rattle.model_strands.specs.Blocks.{Stack, root, spawned, called, block, stack}
use Rattle.model_strands.specs.Legal.{Legal}
use Rattle.model_strands.specs.Addresses.{address}
use Rattle.law_strands.specs.Acts.{strand_of}
use Rattle.law_strands.proofs.Updates.{same_or_not, updated_at}
use Rattle.law_strands.proofs.Holders.{running_open, reserved_open}
use Rattle.law_strands.proofs.Busy.{HasFinished}
use Rattle.law_strands.proofs.Finish.{closed}
use Rattle.model_histories.specs.declared.answer.Answer.{Answer}
use Rattle.model_histories.specs.declared.answer.Answer.TheVariants.{Finished}
use Rattle.model_histories.specs.declared.answer.Entry.{Entry}
use Rattle.model_histories.specs.Entries.{Entries, event_between, with_event, control_part}
use Rattle.model_histories.specs.Shapes.{Shape}
use Rattle.model_histories.specs.Legal.{Belongs, IsLegal}
use Rattle.model_histories.specs.Extensions.{IsEnd, IsFinished}
use Rattle.law_interleavings.proofs.Control.{legal_part}
use Rattle.model_runs.specs.Frames.{frame_in, next_frame}
use Rattle.law_interleavings.specs.Fronts.{Nest, gone, first_front, moved, act_in, front, nest_of, stands_at, IsActive, IsBegun, frame_at}
use Rattle.law_interleavings.specs.Traces.{Notes, Spoken, spoken_of, spoken_by, beginning, walk, Occurrence, occurrence_address, occurrence_of, trace, IsLaterOf}
use Rattle.law_interleavings.proofs.Swaps.{Member}
use Rattle.law_interleavings.proofs.Fronts.{fronts, frame_below, active_begun}
use Rattle.law_interleavings.proofs.Beginnings.{beginning_alone}
use Rattle.law_interleavings.proofs.Waiting.{active_reaches}
use Rattle.law_interleavings.proofs.Walks.{walk_leads, later_self, later_none, later_transitive, later_either, later_next}
use Rattle.law_interleavings.proofs.Traces.{Grown, quiet, grows, grown, spoken_before, walked, placed, frame_on, DoneBy, done_by, deed_of}
use Rattle.law_interleavings.proofs.Spoken.{spoken_here, spoken_elsewhere}

-- an event that begins a frame is a spawn, and each spawn begins one

abbrev IsFresh : History → Event → ℕ → Type 0
IsFresh history event frame =
    (frame ≡ suc (length history)) × (act_in event ≡ Act.Spawn) × (beginning (event ∷ history) frame ≡ extended (address history (strand_of event)) child)

fresh_cases : (h : History) (e : Event) (frame : ℕ) → IsBegun (e ∷ h) frame → IsFresh h e frame ⊎ IsBegun h frame
fresh_cases h (split s c n j first) f (inl q) = inl (q, refl, updated_at (beginning h) (suc (length h)) (extended (address h s) child) f q)
fresh_cases h (split s c n j first) f (inr b) = inr b
fresh_cases h (same s) f b = inr b
fresh_cases h (joined s j) f b = inr b
fresh_cases h (waits s) f b = inr b
fresh_cases h (call s) f b = inr b
fresh_cases h (resumed s) f b = inr b
fresh_cases h (ended s) f b = inr b
fresh_cases h (ended_joined s j) f b = inr b
fresh_cases h (finished s) f b = inr b

spawn_begins : (h : History) (e : Event) → act_in e ≡ Act.Spawn →
    IsBegun (e ∷ h) (suc (length h)) × (beginning (e ∷ h) (suc (length h)) ≡ extended (address h (strand_of e)) child)
spawn_begins h (split s c n j first) q = (inl refl, updated_at (beginning h) (suc (length h)) (extended (address h s) child) (suc (length h)) refl)
spawn_begins h (same s) q = cc
spawn_begins h (joined s j) q = cc
spawn_begins h (waits s) q = cc
spawn_begins h (call s) q = cc
spawn_begins h (resumed s) q = cc
spawn_begins h (ended s) q = cc
spawn_begins h (ended_joined s j) q = cc
spawn_begins h (finished s) q = cc

nest_not_gone : (h : History) (st : Stack) → nest_of h st ≡ gone → ⊥
nest_not_gone h root q = cc
nest_not_gone h (spawned n j) q = cc
nest_not_gone h (called n below) q = cc
nest_not_gone h (block j below) q = cc

-- at the end of a history nobody is active

ends_by : (strand : ℕ) (act : Act) (answer : Answer) → Belongs act answer → IsEnd answer → event_between strand act answer ≡ Some (finished strand)
ends_by s Act.Return Finished b f = refl
ends_by s act Finished b f = absurd b
ends_by s act answer b f = absurd f

no_active : (h : History) → Legal h → HasFinished h → (n : ℕ) → IsActive h n → ⊥
no_active h l f n (inl r) = closed l f n (running_open h n r)
no_active h l f n (inr r) = closed l f n (reserved_open h n r.0)

module _ (shape : Shape) where
  finished_part : (R : Entries) → IsLegal shape R → IsFinished R → HasFinished (control_part R)
  finished_part [] l f = absurd f
  finished_part (e ∷ R) l f =
      subst HasFinished (sym (ap (λ o. with_event o (control_part R)) (ends_by e.request.strand e.request.act e.answer l.1.belongs f))) tt

  -- an entry that begins a frame is a spawn
  pub record Fresh (H : Entries) (e : Entry) (frame : ℕ) : Type 0 where
    pub is_next : frame ≡ next_frame H
    pub act : e.request.act ≡ Act.Spawn
    pub begins : beginning (control_part (e ∷ H)) frame ≡ extended (address (control_part H) e.request.strand) child

  pub fresh : (H : Entries) (e : Entry) → IsLegal shape (e ∷ H) → (frame : ℕ) → IsBegun (control_part (e ∷ H)) frame →
      Fresh H e frame ⊎ IsBegun (control_part H) frame
  fresh H e l f b = go (grown shape H e l)
    where
      go : Grown H e → Fresh H e f ⊎ IsBegun (control_part H) f
      go (quiet q m) = inr (subst (λ h. IsBegun h f) q b)
      go (grows ev q sq aq al) = elim (fresh_cases (control_part H) ev f (subst (λ h. IsBegun h f) q b)) [
        | inl t ↦ inl (record {
          is_next = t.0;
          act = sym aq ∙ t.1;
          begins = ap (λ h. beginning h f) q ∙ t.2 ∙ ap (λ s. extended (address (control_part H) s) child) sq;
        })
        | inr t ↦ inr t
      ]

  module _ {Note : Type 0} (T : Notes Note) where
    -- the whole has a root frame
    pub root_there : (H : Entries) → IsLegal shape H → IsBegun (control_part H) 0 × (beginning (control_part H) 0 ≡ [])
    root_there [] l = (refl, refl)
    root_there (e ∷ H) l = let t = root_there H l.0 in let u = frame_on shape T H e l 0 t.0 in (u.0, u.1 ∙ t.1)

    -- who spawned a frame
    pub record Spawner (K : Entries) (frame : ℕ) : Type 0 where
      pub deed : Occurrence Note
      pub done : Member (trace T K) deed
      pub spawns : deed.newest.act ≡ Act.Spawn
      pub begins : beginning (control_part K) frame ≡ extended (occurrence_address deed) child

    pub spawner : (K : Entries) → IsLegal shape K → (frame : ℕ) → IsBegun (control_part K) frame → (frame ≡ 0) ⊎ Spawner K frame
    spawner [] l f b = inl b
    spawner (e ∷ K) l f b = go (spawner K l.0 f) (fresh K e l f b)
      where
        go : (IsBegun (control_part K) f → (f ≡ 0) ⊎ Spawner K f) → Fresh K e f ⊎ IsBegun (control_part K) f → (f ≡ 0) ⊎ Spawner (e ∷ K) f
        go older (inl t) =
            inr (record { deed = occurrence_of T K e; done = inl refl; spawns = t.act; begins = t.begins ∙ ap (λ a. extended a child) (sym (placed shape T K e l)) })
        go older (inr b') = elim (older b') [
          | inl q ↦ inl q
          | inr s ↦ inr (record { deed = s.deed; done = inr s.done; spawns = s.spawns; begins = (frame_on shape T K e l f b').1 ∙ s.begins })
        ]

    -- the frame that a spawn begins
    pub record Spawned (H : Entries) (x : Occurrence Note) : Type 0 where
      pub frame : ℕ
      pub begun : IsBegun (control_part H) frame
      pub begins : beginning (control_part H) frame ≡ extended (occurrence_address x) child
      pub spawn : Entry
      pub spawns : spawn.request.act ≡ Act.Spawn
      pub noted : x.newest.note ≡ T frame spawn

    pub spawned_by : (H : Entries) → IsLegal shape H → (x : Occurrence Note) → Member (trace T H) x → x.newest.act ≡ Act.Spawn → Spawned H x
    spawned_by [] l x m q = absurd m
    spawned_by (e ∷ H) l x (inr m) q =
        let s = spawned_by H l.0 x m q in
        let t = frame_on shape T H e l s.frame s.begun in
        record { frame = s.frame; begun = t.0; begins = t.1 ∙ s.begins; spawn = s.spawn; spawns = s.spawns; noted = s.noted }
    spawned_by (e ∷ H) l x (inl is) q = subst (Spawned (e ∷ H)) (sym is) (go (grown shape H e l))
      where
        spawns : e.request.act ≡ Act.Spawn
        spawns = sym (ap (λ z. z.newest.act) is) ∙ q

        go : Grown H e → Spawned (e ∷ H) (occurrence_of T H e)
        go (quiet n m) =
            let f : moved (first_front []) Act.Spawn ≡ first_front [] = ap (moved (first_front [])) (sym spawns) ∙ m (first_front []) in
            absurd (let g = ap (λ z. z.here) f in cc)
        go (grows ev n sq aq al) =
            let t = spawn_begins (control_part H) ev (aq ∙ spawns) in
            record {
              frame = next_frame H;
              begun = subst (λ h. IsBegun h (next_frame H)) (sym n) t.0;
              begins = ap (λ h. beginning h (next_frame H)) n ∙ t.1
                  ∙ ap (λ s. extended (address (control_part H) s) child) sq ∙ ap (λ a. extended a child) (sym (placed shape T H e l));
              spawn = e;
              spawns = spawns;
              noted = refl;
            }

  -- ---- parts

  module _ {Note : Type 0} (mine : Notes Note) (T : Notes Note) (R : Entries) where
    -- the frame of the whole history that began at the same address, and did this first
    pub record Matching (H : Entries) (own : ℕ) : Type 0 where
      pub frame : ℕ
      pub begun : IsBegun (control_part R) frame
      pub begins : beginning (control_part H) own ≡ beginning (control_part R) frame
      pub did : IsLaterOf (spoken_by mine H own) (spoken_by T R frame)

    abbrev pub IsPart : Entries → Type 0
    IsPart H = (own : ℕ) → IsBegun (control_part H) own → Matching H own

    abbrev begun_at : Address → Occurrence Note → Occurrence Note
    begun_at begin x = record { begin = begin; newest = x.newest; earlier = x.earlier }

    item_at : (x : Occurrence Note) (a : Address) → a ≡ x.begin → begun_at a x ≡ x
    item_at x a e = λ i. record { begin = e i; newest = x.newest; earlier = x.earlier }

    -- what a part did the whole did
    pub included : (H : Entries) → IsLegal shape H → IsLegal shape R → IsPart H → (x : Occurrence Note) → Member (trace mine H) x → Member (trace T R) x
    included H l r part x m =
        let d = done_by shape mine H l x m in
        let q = part d.frame d.begun in
        let there = deed_of shape T R r q.frame q.begun x.newest x.earlier
        (later_transitive (x.newest ∷ x.earlier) (spoken_by mine H d.frame) (spoken_by T R q.frame) d.done q.did) in
        subst (Member (trace T R)) (item_at x (beginning (control_part R) q.frame) (sym q.begins ∙ d.begins)) there

    -- one more deed of the whole
    pub part_more : (H : Entries) (e : Entry) → IsLegal shape (e ∷ H) → IsLegal shape R → IsPart H →
        Member (trace T R) (occurrence_of mine H e) → IsPart (e ∷ H)
    part_more H e l r part m own b = go (fresh H e l own b) (same_or_not (frame_in H e.request.strand) own)
      where
        x : Occurrence Note
        x = occurrence_of mine H e

        by_item : IsBegun (control_part H) own → frame_in H e.request.strand ≡ own → Matching (e ∷ H) own
        by_item b' q =
            let old = part own b' in
            let d = done_by shape T R r x m in
            let t = frame_on shape mine H e l own b' in
            let begins_there : beginning (control_part R) old.frame ≡ beginning (control_part R) d.frame =
            sym old.begins ∙ ap (beginning (control_part H)) (sym q) ∙ sym d.begins in
            let one : old.frame ≡ d.frame = beginning_alone (legal_part shape R r) old.frame d.frame old.begun d.begun begins_there in
            let now : spoken_by mine (e ∷ H) own ≡ x.newest ∷ x.earlier =
            spoken_here mine e H own q ∙ ap (λ f. spoken_of mine (next_frame H) e ∷ spoken_by mine H f) (sym q) in
            record {
              frame = d.frame;
              begun = d.begun;
              begins = t.1 ∙ old.begins ∙ begins_there;
              did = subst (λ l. IsLaterOf l (spoken_by T R d.frame)) (sym now) d.done;
            }

        as_before : IsBegun (control_part H) own → frame_in H e.request.strand ≢ own → Matching (e ∷ H) own
        as_before b' q =
            let old = part own b' in
            let t = frame_on shape mine H e l own b' in
            record {
              frame = old.frame;
              begun = old.begun;
              begins = t.1 ∙ old.begins;
              did = subst (λ l. IsLaterOf l (spoken_by T R old.frame)) (sym (spoken_elsewhere mine e H own q)) old.did;
            }

        newly : Fresh H e own → Matching (e ∷ H) own
        newly t =
            let s = spawned_by T R r x m t.act in
            let here : beginning (control_part (e ∷ H)) own ≡ extended (occurrence_address x) child = t.begins ∙ ap (λ a. extended a child) (sym (placed shape mine H e l)) in
            let none : spoken_by mine (e ∷ H) own ≡ [] =
            spoken_elsewhere mine e H own (λ q. absurd (not_next q)) ∙ spoken_before shape mine H l.0 own (omega (arith, t.is_next)) in
            record {
              frame = s.frame;
              begun = s.begun;
              begins = here ∙ sym s.begins;
              did = subst (λ l. IsLaterOf l (spoken_by T R s.frame)) (sym none) (later_none (spoken_by T R s.frame));
            }
          where
            not_next : frame_in H e.request.strand ≡ own → ⊥
            not_next q = let u = frame_below (legal_part shape H l.0) e.request.strand (inl l.1.runs) in omega (arith, u, q, t.is_next)

        go : Fresh H e own ⊎ IsBegun (control_part H) own → (frame_in H e.request.strand ≡ own) ⊎ (frame_in H e.request.strand ≢ own) → Matching (e ∷ H) own
        go (inl t) _ = newly t
        go (inr b') (inl q) = by_item b' q
        go (inr b') (inr q) = as_before b' q

    pub part_first : IsLegal shape R → IsPart []
    part_first r own b =
        let t = root_there T R r in
        record {
          frame = 0;
          begun = t.0;
          begins = sym t.1;
          did = later_none (spoken_by T R 0);
        }

    -- the whole does at that occurrence_address what the part asks next
    pub record Wanted (H : Entries) (e : Entry) : Type 0 where
      pub newest : Spoken Note
      pub done : Member (trace T R) (record { begin = (occurrence_of mine H e).begin; newest = newest; earlier = (occurrence_of mine H e).earlier })
      pub act : newest.act ≡ e.request.act
      pub note : newest.note ≡ (occurrence_of mine H e).newest.note

    -- what a frame of the whole did next, as a deed
    pub next_deed : (H : Entries) (e : Entry) → IsLegal shape R → (match : Matching H (frame_in H e.request.strand)) → (z : Spoken Note) →
        IsLaterOf (z ∷ spoken_by mine H (frame_in H e.request.strand)) (spoken_by T R match.frame) →
        Member (trace T R) (record { begin = (occurrence_of mine H e).begin; newest = z; earlier = (occurrence_of mine H e).earlier })
    next_deed H e r match z m =
        subst (Member (trace T R)) (λ i. record { begin = sym match.begins i; newest = z; earlier = (occurrence_of mine H e).earlier })
        (deed_of shape T R r match.frame match.begun z (spoken_by mine H (frame_in H e.request.strand)) m)

    -- a finished whole did more in the frame of a strand of the part that runs
    pub does_more : IsLegal shape R → IsFinished R → (H : Entries) (e : Entry) → IsLegal shape (e ∷ H) → (match : Matching H (frame_in H e.request.strand)) →
        spoken_by mine H (frame_in H e.request.strand) ≡ spoken_by T R match.frame → ⊥
    does_more r whole_finished H e l match q = who ((fronts (legal_part shape R r)).found match.frame match.begun)
      where
        own : ℕ
        own = frame_in H e.request.strand

        there : front (control_part R) match.frame ≡ stands_at (control_part H) e.request.strand
        there =
            walked shape T R r match.frame ∙ ap (λ a. walk a (spoken_by T R match.frame)) (sym match.begins) ∙ ap (walk (beginning (control_part H) own)) (sym q)
            ∙ sym (walked shape mine H l.0 own) ∙ (fronts (legal_part shape H l.0)).at e.request.strand (inl l.1.runs)

        who : ((front (control_part R) match.frame).nest ≡ gone) ⊎ ((n : ℕ) × IsActive (control_part R) n × (frame_at (control_part R) n ≡ match.frame)) → ⊥
        who (inl g) = nest_not_gone (control_part H) (stack (control_part H) e.request.strand) (sym (ap (λ z. z.nest) there) ∙ g)
        who (inr t) = no_active (control_part R) (legal_part shape R r) (finished_part R r whole_finished) t.0 t.1

    -- where something is left to do, the frame has not returned
    abbrev front_nest : Occurrence Note → Nest
    front_nest x = (walk x.begin x.earlier).nest

    deed_not_gone : (H : Entries) → IsLegal shape H → (x : Occurrence Note) → Member (trace T H) x → front_nest x ≡ gone → ⊥
    deed_not_gone [] l x m g = absurd m
    deed_not_gone (e ∷ H) l x (inr m) g = deed_not_gone H l.0 x m g
    deed_not_gone (e ∷ H) l x (inl q) g =
        let s = e.request.strand in
        let at = sym (walked shape T H l.0 (frame_in H s)) ∙ (fronts (legal_part shape H l.0)).at s (inl l.1.runs) in
        nest_not_gone (control_part H) (stack (control_part H) s) (sym (ap (λ z. z.nest) at) ∙ sym (ap front_nest q) ∙ g)

    -- what reaches a running strand of the part, and is not its own, is done in it
    module _ (H : Entries) (l : IsLegal shape H) (r : IsLegal shape R) (part : IsPart H) (strand : ℕ) (runs : Running (control_part H) strand) where
      abbrev pub here : Address
      here = address (control_part H) strand

      -- a frame of the part that began there has done what reaches the strand
      in_frame : (own : ℕ) → IsBegun (control_part H) own → (x : Occurrence Note) → Member (trace T R) x → beginning (control_part H) own ≡ x.begin →
          reaches (occurrence_address x) here ≡ true → occurrence_address x ≢ here → Member (trace mine H) x
      in_frame own b x m q leads apart = by_length (long_or_short (length (x.newest ∷ x.earlier)) (length mine_said))
        where
          mine_said : List (Spoken Note)
          mine_said = spoken_by mine H own

          match : Matching H own
          match = part own b

          d : DoneBy shape T R x
          d = done_by shape T R r x m

          one : match.frame ≡ d.frame
          one = beginning_alone (legal_part shape R r) match.frame d.frame match.begun d.begun (sym match.begins ∙ q ∙ sym d.begins)

          did : IsLaterOf mine_said (spoken_by T R d.frame)
          did = subst (λ f. IsLaterOf mine_said (spoken_by T R f)) one match.did

          long_or_short : (a b : ℕ) → (a ≤ b) ⊎ (b < a)
          long_or_short a b = grind arith

          stuck : length mine_said ≤ length x.earlier → ⊥
          stuck le = at_front (later_next mine_said (x.newest ∷ x.earlier) (later_either mine_said (x.newest ∷ x.earlier) (spoken_by T R d.frame) did d.done (omega arith)))
            where
              at_front : (mine_said ≡ x.newest ∷ x.earlier) ⊎ ((z : Spoken Note) × IsLaterOf (z ∷ mine_said) (x.newest ∷ x.earlier)) → ⊥
              at_front (inl e) = let u = ap length e in omega (arith, u, le)
              at_front (inr t) = who ((fronts (legal_part shape H l)).found own b)
                where
                  y : Occurrence Note
                  y = record { begin = x.begin; newest = t.0; earlier = mine_said }

                  y_done : Member (trace T R) y
                  y_done = subst (Member (trace T R)) (item_at y (beginning (control_part R) d.frame) d.begins)
                      (deed_of shape T R r d.frame d.begun t.0 mine_said (later_transitive (t.0 ∷ mine_said) (x.newest ∷ x.earlier) (spoken_by T R d.frame) t.1 d.done))

                  at : front (control_part H) own ≡ walk x.begin mine_said
                  at = walked shape mine H l own ∙ ap (λ a. walk a mine_said) q

                  to_x : reaches (occurrence_address y) (occurrence_address x) ≡ true
                  to_x = walk_leads x.begin mine_said x.earlier (later_either mine_said x.earlier (spoken_by T R d.frame) did
                      (later_transitive x.earlier (x.newest ∷ x.earlier) (spoken_by T R d.frame) (inr (later_self x.earlier)) d.done) le)

                  who : ((front (control_part H) own).nest ≡ gone) ⊎ ((n : ℕ) × IsActive (control_part H) n × (frame_at (control_part H) n ≡ own)) → ⊥
                  who (inl g) = deed_not_gone R r y y_done (sym (ap (λ z. z.nest) at) ∙ g)
                  who (inr (n, act, of_frame)) =
                      let there : address (control_part H) n ≡ occurrence_address y =
                      sym (ap (λ z. z.here) ((fronts (legal_part shape H l)).at n act)) ∙ ap (λ f. (front (control_part H) f).here) of_frame ∙ ap (λ z. z.here) at in
                      let to_here : reaches (occurrence_address y) here ≡ true = reaches-transitive (occurrence_address y) (occurrence_address x) here to_x leads in
                      let same_strand = active_reaches (control_part H) (legal_part shape H l) n strand act (inl runs)
                      (subst (λ a. reaches a here ≡ true) (sym there) to_here) in
                      let y_here : occurrence_address y ≡ here = sym there ∙ ap (address (control_part H)) same_strand in
                      apart (reaches-antisymmetric (occurrence_address x) here leads (subst (λ a. reaches a (occurrence_address x) ≡ true) y_here to_x))

          by_length : (length (x.newest ∷ x.earlier) ≤ length mine_said) ⊎ (length mine_said < length (x.newest ∷ x.earlier)) → Member (trace mine H) x
          by_length (inl le) =
              subst (Member (trace mine H)) (item_at x (beginning (control_part H) own) q)
              (deed_of shape mine H l own b x.newest x.earlier (later_either (x.newest ∷ x.earlier) mine_said (spoken_by T R d.frame) d.done did le))
          by_length (inr lt) = absurd (stuck (omega arith))

      pub reached : (K : Entries) → IsLegal shape K → ((x : Occurrence Note) → Member (trace T K) x → Member (trace T R) x) → (x : Occurrence Note) → Member (trace T K) x →
          reaches (occurrence_address x) here ≡ true → occurrence_address x ≢ here → Member (trace mine H) x
      reached [] k within x m leads apart = absurd m
      reached (e ∷ K) k within x (inr m) leads apart = reached K k.0 (λ y n. within y (inr n)) x m leads apart
      reached (e ∷ K) k within x (inl q) leads apart =
          go (spawner T K k.0 (frame_in K e.request.strand) (active_begun (legal_part shape K k.0) e.request.strand (inl k.1.runs)))
          (reached K k.0 (λ y n. within y (inr n)))
        where
          f : ℕ
          f = frame_in K e.request.strand

          begins_x : beginning (control_part K) f ≡ x.begin
          begins_x = sym (ap (λ z. z.begin) q)

          from_begin : reaches x.begin (occurrence_address x) ≡ true
          from_begin = walk_leads x.begin [] x.earlier (later_none x.earlier)

          go : (f ≡ 0) ⊎ Spawner T K f → ((y : Occurrence Note) → Member (trace T K) y → reaches (occurrence_address y) here ≡ true → occurrence_address y ≢ here → Member (trace mine H) y) →
              Member (trace mine H) x
          go (inl z) older =
              let t = root_there mine H l in
              in_frame 0 t.0 x (within x (inl q)) (t.1 ∙ sym (root_there T K k.0).1 ∙ ap (beginning (control_part K)) (sym z) ∙ begins_x) leads apart
          go (inr s) older =
              let y = s.deed in
              let x_begins : x.begin ≡ extended (occurrence_address y) child = sym begins_x ∙ s.begins in
              let y_to_x : reaches (occurrence_address y) (occurrence_address x) ≡ true =
              reaches-transitive (occurrence_address y) x.begin (occurrence_address x) (subst (λ a. reaches (occurrence_address y) a ≡ true) (sym x_begins) (reaches-extension (occurrence_address y) (child ∷ []))) from_begin in
              let y_apart : occurrence_address y ≢ here =
              λ p. apart (reaches-antisymmetric (occurrence_address x) here leads (subst (λ a. reaches a (occurrence_address x) ≡ true) p y_to_x)) in
              let y_done = older y s.done (reaches-transitive (occurrence_address y) (occurrence_address x) here y_to_x leads) y_apart in
              let w = spawned_by mine H l y y_done s.spawns in
              in_frame w.frame w.begun x (within x (inl q)) (w.begins ∙ sym x_begins) leads apart
