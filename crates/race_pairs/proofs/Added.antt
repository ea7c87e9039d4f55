-- A lineage that grows by one entry.
use Rattle.std.proofs.Common.{◌≡◌, inl, inr, ℕ, zero, suc, ◌+◌, ◌<◌, ◌≤◌, Bool, true, false, List, [], ◌∷◌, ◌++◌, length, get_or, Option, Some, None, refl, sym, ap, subst, arith}
use Rattle.law_strands.proofs.Places.{below_or_beyond, running_below}
use Rattle.law_strands.proofs.Range.{ranges}
use Rattle.model_accesses.specs.declared.request.Act.{Act}
use Rattle.model_accesses.specs.declared.request.Act.TheVariants.{Spawn, Sync, Call, Return}
use Rattle.model_strands.specs.declared.spawned.Spawned.{Spawned}
use Rattle.model_strands.specs.History.{Event, split, same, joined, waits, call, resumed, ended, ended_joined, finished, History}
use Rattle.model_strands.specs.Strands.{unused}
use Rattle.model_strands.specs.Legal.{Legal, open_split, next_split, function_call, called_return, start, then}
use Rattle.model_histories.specs.declared.answer.Answer.{Answer}
use Rattle.model_histories.specs.declared.answer.Answer.TheVariants.{Split, Same, Joined, Waits, Resumed, Ended, EndedJoined, Finished}
use Rattle.model_histories.specs.declared.answer.Entry.{Entry}
use Rattle.model_histories.specs.Entries.{Entries, event_between, event_of, with_event, control_part}
use Rattle.race_pairs.specs.declared.kept.Frame.{Frame}
use Rattle.race_pairs.specs.declared.kept.Turn.{Turn}
use Rattle.race_pairs.specs.declared.kept.Strand.{Strand}
use Rattle.race_pairs.specs.Makers.{Began}
use Rattle.race_pairs.specs.Frames.{frames}
use Rattle.race_pairs.specs.Lineages.{Kept, IsAt, Encloses, outermost, IsNumberAt, root, begun, HasStood, AreKept, IsLineage, MayGrow}
use Rattle.race_pairs.specs.Jumps.{AreRaised}
use Rattle.race_pairs.specs.Growths.{CanGrow}
use Rattle.race_pairs.proofs.Made.{split_made}
use Rattle.race_pairs.proofs.Places.{no_strand, index_within, item_here}
use Rattle.race_pairs.proofs.LineageGrown.{ends, IsQuiet}
use Rattle.race_pairs.proofs.Raised.{no_jump, raised_first}

-- Before any entry.

first_strand : (x : ℕ) (it : Strand) → IsAt (no_strand ∷ []) (suc x) it → it ≡ no_strand
first_strand x it here = go x (index_within (no_strand ∷ []) x it here) (item_here (no_strand ∷ []) x it it here)
  where
    one : List Strand
    one = no_strand ∷ []

    go : (x : ℕ) → x < length one → get_or one x it ≡ it → it ≡ no_strand
    go zero lt is = sym is
    go (suc x) lt is = absurd (omega arith)

kept_first : AreKept [] [] (no_strand ∷ []) []
kept_first = record {
  made = record {
    legal = start;
    openers = refl;
    len = refl;
    each = λ x it here. subst (λ (s : Strand). IsNumberAt [] s.maker 0) (sym (first_strand x it here)) (inl (refl, refl));
  };
  few_turns = omega arith;
  stood = λ x it here. subst (λ (s : Strand). HasStood [] [] [] x s) (sym (first_strand x it here)) (record {
    first = 0;
    begins = root;
    stood = begun (omega arith) (λ later earlier is lo hi. none later earlier x is) (λ later earlier is short. absurd (omega arith));
  });
}
  where
    none : (later earlier : Entries) (x : ℕ) → later ++ earlier ≡ [] → Encloses [] 0 (frames earlier x)
    none [] [] x is = outermost
    none [] (e ∷ earlier) x is = absurd (cc)
    none (e ∷ later) earlier x is = absurd (cc)

pub lineage_first : (kept : Kept) → kept.count ≡ 0 → kept.opened ≡ [] → kept.turns ≡ [] → kept.strands ≡ no_strand ∷ [] → kept.jumps ≡ no_jump ∷ [] →
    IsLineage kept []
lineage_first kept none no_frames no_turns one jumps = record {
  kept_are = subst (λ (F : List Frame). AreKept F kept.turns kept.strands []) (sym no_frames)
      (subst (λ (T : List Turn). AreKept [] T kept.strands []) (sym no_turns)
      (subst (λ (S : List Strand). AreKept [] [] S []) (sym one) kept_first));
  raised = raised_first kept.jumps jumps;
  count_is = none;
  few = omega arith;
}

-- One entry more.

pub lineage_more : (old new : Kept) (entry : Entry) (entries : Entries) → IsLineage old entries → MayGrow entries entry →
    AreKept new.opened new.turns new.strands (entry ∷ entries) → AreRaised new.jumps (entry ∷ entries) → new.count ≡ old.count + 1 →
    IsLineage new (entry ∷ entries)
lineage_more old new entry entries lineage grows kept raised count = record {
  kept_are = kept;
  raised = raised;
  count_is = omega (arith, count, lineage.count_is);
  few = omega (arith, grows.1);
}

-- the strand of a spawn, call or return is known
pub event_known : (entries : Entries) (entry : Entry) (event : Event) → event_of entry ≡ Some event → Legal (control_part (entry ∷ entries)) →
    Legal (event ∷ control_part entries)
event_known entries entry event is l = subst (λ (o : Option Event). Legal (with_event o (control_part entries))) is l

pub spawner_known : (h : History) (s c n j : ℕ) (first : Bool) → Legal (split s c n j first ∷ h) → s < unused h
spawner_known h s c n j true (then l (open_split run sy ce ne je)) = running_below h (ranges l) s run
spawner_known h s c n j false (then l (next_split run st ce ne)) = running_below h (ranges l) s run

pub caller_known : (h : History) (s : ℕ) → Legal (call s ∷ h) → s < unused h
caller_known h s (then l (function_call run)) = running_below h (ranges l) s run

pub returner_known : (h : History) (s : ℕ) → Legal (resumed s ∷ h) → s < unused h
returner_known h s (then l (called_return run st)) = running_below h (ranges l) s run

pub split_event : (entry : Entry) (spawned : Spawned) → entry.request.act ≡ Spawn → entry.answer ≡ Split spawned →
    event_of entry ≡ Some (split entry.request.strand spawned.child spawned.next spawned.join spawned.first)
split_event entry spawned act answer = rw (act, answer) refl

pub call_event : (entry : Entry) → entry.request.act ≡ Call → entry.answer ≡ Same → event_of entry ≡ Some (call entry.request.strand)
call_event entry act answer = rw (act, answer) refl

pub return_event : (entry : Entry) → entry.request.act ≡ Return → entry.answer ≡ Resumed → event_of entry ≡ Some (resumed entry.request.strand)
return_event entry act answer = rw (act, answer) refl

pub may_grow : (F : List Frame) (T : List Turn) (S : List Strand) (entries : Entries) (entry : Entry) (s : ℕ) → AreKept F T S entries → MayGrow entries entry →
    s < unused (control_part entries) → CanGrow F T S s
may_grow F T S entries entry s kept grows known = (entries, kept, grows.1, omega (arith, kept.made.len, known))

-- Entries that are none of these.

quiet_by : (entry : Entry) (entries : Entries) (event : Option Event) → event_of entry ≡ event → Legal (control_part (entry ∷ entries)) →
    ((s c n j : ℕ) (first : Bool) → event ≡ Some (split s c n j first) → ⊥) → ((s : ℕ) → event ≡ Some (call s) → ⊥) →
    ((s : ℕ) → event ≡ Some (resumed s) → ⊥) → IsQuiet entry entries
quiet_by entry entries (Some (split s c n j first)) is l ns nc nr = absurd (ns s c n j first refl)
quiet_by entry entries (Some (call s)) is l ns nc nr = absurd (nc s refl)
quiet_by entry entries (Some (resumed s)) is l ns nc nr = absurd (nr s refl)
quiet_by entry entries (Some (same s)) is l ns nc nr = record { legal = l; no_opener = rw is refl; unused_same = rw is refl; maker_same = λ x. rw is refl; frames_same = λ x. rw is refl }
quiet_by entry entries (Some (joined s j)) is l ns nc nr = record { legal = l; no_opener = rw is refl; unused_same = rw is refl; maker_same = λ x. rw is refl; frames_same = λ x. rw is refl }
quiet_by entry entries (Some (waits s)) is l ns nc nr = record { legal = l; no_opener = rw is refl; unused_same = rw is refl; maker_same = λ x. rw is refl; frames_same = λ x. rw is refl }
quiet_by entry entries (Some (ended s)) is l ns nc nr = record { legal = l; no_opener = rw is refl; unused_same = rw is refl; maker_same = λ x. rw is refl; frames_same = λ x. rw is refl }
quiet_by entry entries (Some (ended_joined s j)) is l ns nc nr = record { legal = l; no_opener = rw is refl; unused_same = rw is refl; maker_same = λ x. rw is refl; frames_same = λ x. rw is refl }
quiet_by entry entries (Some (finished s)) is l ns nc nr = record { legal = l; no_opener = rw is refl; unused_same = rw is refl; maker_same = λ x. rw is refl; frames_same = λ x. rw is refl }
quiet_by entry entries None is l ns nc nr = record { legal = l; no_opener = rw is refl; unused_same = rw is refl; maker_same = λ x. rw is refl; frames_same = λ x. rw is refl }

call_made : (strand : ℕ) (act : Act) (answer : Answer) (s : ℕ) → event_between strand act answer ≡ Some (call s) → (act ≡ Call) × (answer ≡ Same)
call_made strand Call Same s e = (refl, refl)
call_made strand Spawn (Split began) s e = absurd (cc)
call_made strand Sync Same s e = absurd (cc)
call_made strand Sync (Joined k) s e = absurd (cc)
call_made strand Sync Waits s e = absurd (cc)
call_made strand Return Resumed s e = absurd (cc)
call_made strand Return Ended s e = absurd (cc)
call_made strand Return (EndedJoined k) s e = absurd (cc)
call_made strand Return Finished s e = absurd (cc)
call_made strand act answer s e = absurd (cc)

return_made : (strand : ℕ) (act : Act) (answer : Answer) (s : ℕ) → event_between strand act answer ≡ Some (resumed s) → (act ≡ Return) × (answer ≡ Resumed)
return_made strand Return Resumed s e = (refl, refl)
return_made strand Spawn (Split began) s e = absurd (cc)
return_made strand Sync Same s e = absurd (cc)
return_made strand Sync (Joined k) s e = absurd (cc)
return_made strand Sync Waits s e = absurd (cc)
return_made strand Call Same s e = absurd (cc)
return_made strand Return Ended s e = absurd (cc)
return_made strand Return (EndedJoined k) s e = absurd (cc)
return_made strand Return Finished s e = absurd (cc)
return_made strand act answer s e = absurd (cc)

pub quiet_entry : (entry : Entry) (entries : Entries) → Legal (control_part (entry ∷ entries)) →
    ((spawned : Spawned) → Began entry spawned → ⊥) → (entry.request.act ≡ Call → entry.answer ≡ Same → ⊥) →
    (entry.request.act ≡ Return → entry.answer ≡ Resumed → ⊥) → IsQuiet entry entries
quiet_entry entry entries l ns nc nr =
    quiet_by entry entries (event_of entry) refl l
    (λ s c n j first e. (let made = split_made entry.request.strand entry.request.act entry.answer s c n j first e in ns made.0 (made.2, made.3)))
    (λ s e. (let made = call_made entry.request.strand entry.request.act entry.answer s e in nc made.0 made.1))
    (λ s e. (let made = return_made entry.request.strand entry.request.act entry.answer s e in nr made.0 made.1))

-- some earlier entries have each number up to theirs
pub earlier_ones : (entries : Entries) (n : ℕ) → n ≤ length entries → (later earlier : Entries) × (later ++ earlier ≡ entries) × (length earlier ≡ n)
earlier_ones [] n low = ([], [], refl, omega arith)
earlier_ones (entry ∷ entries) n low = elim (below_or_beyond n (suc (length entries))) [
  | inl lt ↦ (let old = earlier_ones entries n (omega arith) in (entry ∷ old.0, old.1, ap (λ (xs : Entries). entry ∷ xs) old.2, old.3))
  | inr ge ↦ ([], entry ∷ entries, refl, omega arith)
]

pub earlier_number : (kept : Kept) (later earlier : Entries) → IsLineage kept (later ++ earlier) → (number : ℕ) → number ≡ suc (length earlier) →
    (0 < number) × (number ≤ kept.count + 1)
earlier_number kept later earlier lineage number is =
    (omega arith, let short = ends later earlier in let counted = lineage.count_is in omega (arith, short, counted, is))
