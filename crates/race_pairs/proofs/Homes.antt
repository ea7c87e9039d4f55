-- What is known of a spawn in each history that has it: its spawner stands still, and what its next leads to stands in its block or came out
-- of it by an entry.
-- g: the block; h: a history; f: the frames of strands; x, y: strands; k: the number of an event; o: that of the entry that led out of the
-- block; S: the number of the spawn, s its spawner, b what it began
use Rattle.std.proofs.Common.{◌≡◌, inl, inr, ℕ, suc, ◌<◌, ◌≤◌, Bool, true, false, List, [], ◌∷◌, ◌++◌, length, Option, Some, None, refl, sym, ap, ◌∙◌, subst, subst₂, arith}
use Rattle.std.specs.List.{All}
use Rattle.std.proofs.lemmas.List.Elements.{All-nil, All-cons, All-tail}
use Rattle.model_accesses.specs.declared.request.Act.{Act}
use Rattle.model_accesses.specs.declared.request.Act.TheVariants.{Spawn, Sync, Call, Return}
use Rattle.model_strands.specs.declared.spawned.Spawned.{Spawned}
use Rattle.model_strands.specs.Address.{next, Address}
use Rattle.law_addresses.specs.Address.{IsPrefix}
use Rattle.law_addresses.proofs.Blocks.{prefix-transitive}
use Rattle.model_strands.specs.History.{Event, split, same, joined, waits, call, resumed, ended, ended_joined, finished, History}
use Rattle.model_strands.specs.Strands.{over, status, unused}
use Rattle.model_strands.specs.Blocks.{Stack, block, stack}
use Rattle.model_strands.specs.Legal.{Legal, Allowed, next_split, then, function_call, called_return}
use Rattle.model_strands.specs.Addresses.{address}
use Rattle.law_strands.proofs.Updates.{updated_off, updated_case}
use Rattle.law_strands.proofs.Words.{not_prefix_shorter, prefix_of_longer, prefix_siblings, ◌▹◌}
use Rattle.law_strands.proofs.Places.{join_of, running_not_over}
use Rattle.law_strands.proofs.Range.{ranges, child_seen, next_seen, spawner_seen}
use Rattle.law_strands.proofs.Holders.{Splitting, splitting, holders, running_open}
use Rattle.law_strands.proofs.Calm.{calm_over}
use Rattle.law_strands.proofs.Fates.{over_kept}
use Rattle.law_strands.proofs.Addresses.{addresses, by_word, Named, named_new, named_old, named, address_kept}
use Rattle.law_strands.proofs.Law.{begun_below}
use Rattle.law_strands.proofs.Kept.{address_stays}
use Rattle.model_histories.specs.declared.answer.Answer.{Answer}
use Rattle.model_histories.specs.declared.answer.Answer.TheVariants.{Split, Same, Joined, Waits, Resumed, Ended, EndedJoined, Finished}
use Rattle.model_histories.specs.declared.answer.Entry.{Entry}
use Rattle.model_histories.specs.Entries.{Entries, event_between, event_of, with_event, control_part}
use Rattle.race_pairs.specs.Frames.{behind, with_frame, frames}
use Rattle.race_pairs.specs.Makers.{IsSpawn}
use Rattle.race_pairs.proofs.Framed.{split_goes_on, split_old, unused_with, unused_before}
use Rattle.race_pairs.proofs.Made.{legal_rest}
use Rattle.race_pairs.proofs.Climbing.{number_within}
use Rattle.race_pairs.proofs.BlockJoins.{TurnsOff, inside}
use Rattle.race_pairs.proofs.Straight.{GoesOnTo, goes_here}
use Rattle.race_pairs.proofs.Ways.{Home, IsLow, IsBy, Step, Way, at_home, way_with, stack_next, stack_goes_on}

-- One event more.

pub stays_with : (event : Option Event) (h : History) → Legal (with_event event h) → (x : ℕ) → x < unused h → address (with_event event h) x ≡ address h x
stays_with (Some event) h l x lt = address_stays l x lt
stays_with None h l x lt = refl

-- a strand that is over stays so, where it was
pub over_stands : (h : History) (event : Option Event) (k : ℕ) (f : ℕ → List ℕ) (x : ℕ) → Legal (with_event event h) → status h x ≡ over →
    (with_frame event k f x ≡ f x) × (status (with_event event h) x ≡ over)
over_stands h (Some (split s c n j first)) k f x (then l a) e = (
  split_old h s c n j k first f a x (begun_below h (ranges l) x (inr e)),
  over_kept h s c n j first (ranges l) (splitting h s c n j first (ranges l) (holders l) a) x e,
)
over_stands h (Some (call s)) k f x (then l (function_call run)) e =
    (updated_off f s (k ∷ f s) x (λ g. running_not_over (ap (status h) g ∙ run) e), e)
over_stands h (Some (resumed s)) k f x (then l (called_return run st)) e =
    (updated_off f s (behind (f s)) x (λ g. running_not_over (ap (status h) g ∙ run) e), e)
over_stands h (Some (same s)) k f x (then l a) e = (refl, e)
over_stands h (Some (joined s j)) k f x (then l a) e = (refl, calm_over h (joined s j) tt (holders l) a x e)
over_stands h (Some (waits s)) k f x (then l a) e = (refl, calm_over h (waits s) tt (holders l) a x e)
over_stands h (Some (ended s)) k f x (then l a) e = (refl, calm_over h (ended s) tt (holders l) a x e)
over_stands h (Some (ended_joined s j)) k f x (then l a) e = (refl, calm_over h (ended_joined s j) tt (holders l) a x e)
over_stands h (Some (finished s)) k f x (then l a) e = (refl, calm_over h (finished s) tt (holders l) a x e)
over_stands h None k f x l e = (refl, e)

-- no frame has a number that no entry has

all_wider : (m k : ℕ) → m ≤ k → (numbers : List ℕ) → All (λ n. n ≤ m) numbers → All (λ n. n ≤ k) numbers
all_wider m k le numbers low i d within = let lower = low i d within in omega arith

all_behind : (k : ℕ) (numbers : List ℕ) → All (λ n. n ≤ k) numbers → All (λ n. n ≤ k) (behind numbers)
all_behind k [] low = low
all_behind k (n ∷ numbers) low = All-tail (λ (m : ℕ). m ≤ k) n numbers low

low_with : (event : Option Event) (k : ℕ) (f : ℕ → List ℕ) → ((x : ℕ) → All (λ n. n ≤ k) (f x)) → (x : ℕ) → All (λ n. n ≤ k) (with_frame event k f x)
low_with (Some (split s c n j true)) k f low x =
    updated_case (All (λ (m : ℕ). m ≤ k)) _ j (f s) x (λ _. low s) (λ _. updated_case (All (λ (m : ℕ). m ≤ k)) _ n (f s) x (λ _. low s)
    (λ _. updated_case (All (λ (m : ℕ). m ≤ k)) f c (k ∷ f s) x (λ _. All-cons (λ (m : ℕ). m ≤ k) k (f s) (omega arith) (low s)) (λ _. low x)))
low_with (Some (split s c n j false)) k f low x =
    updated_case (All (λ (m : ℕ). m ≤ k)) _ n (f s) x (λ _. low s)
    (λ _. updated_case (All (λ (m : ℕ). m ≤ k)) f c (k ∷ f s) x (λ _. All-cons (λ (m : ℕ). m ≤ k) k (f s) (omega arith) (low s)) (λ _. low x))
low_with (Some (call s)) k f low x =
    updated_case (All (λ (m : ℕ). m ≤ k)) f s (k ∷ f s) x (λ _. All-cons (λ (m : ℕ). m ≤ k) k (f s) (omega arith) (low s)) (λ _. low x)
low_with (Some (resumed s)) k f low x = updated_case (All (λ (m : ℕ). m ≤ k)) f s (behind (f s)) x (λ _. all_behind k (f s) (low s)) (λ _. low x)
low_with (Some (same s)) k f low x = low x
low_with (Some (joined s j)) k f low x = low x
low_with (Some (waits s)) k f low x = low x
low_with (Some (ended s)) k f low x = low x
low_with (Some (ended_joined s j)) k f low x = low x
low_with (Some (finished s)) k f low x = low x
low_with None k f low x = low x

frames_low : (entries : Entries) (x : ℕ) → All (λ n. n ≤ length entries) (frames entries x)
frames_low [] x = All-nil (λ (m : ℕ). m ≤ 0)
frames_low (entry ∷ entries) x =
    low_with (event_of entry) (suc (length entries)) (frames entries)
    (λ y. all_wider (length entries) (suc (length entries)) (omega arith) (frames entries y) (frames_low entries y)) x

-- the event of an entry is by its strand
by_strand : (strand : ℕ) (act : Act) (answer : Answer) (x : ℕ) → IsBy (event_between strand act answer) x → strand ≡ x
by_strand strand Spawn (Split began) x e = e
by_strand strand Sync Same x e = e
by_strand strand Sync (Joined k) x e = e
by_strand strand Sync Waits x e = e
by_strand strand Call Same x e = e
by_strand strand Return Resumed x e = e
by_strand strand Return Ended x e = e
by_strand strand Return (EndedJoined k) x e = e
by_strand strand Return Finished x e = e
by_strand strand act answer x e = absurd e

-- What led out of the block.

-- an entry by a strand that stood there, on a way from the next to the strand
pub record Left (entries : Entries) (g : Home) (o x : ℕ) : Type 0 where
  pub entry : Entry
  pub earlier : Entries
  pub later : Entries
  pub whole : later ++ entry ∷ earlier ≡ entries
  pub number_is : o ≡ suc (length earlier)
  pub within : o ≤ length entries
  pub is_behind : g.number < o
  pub known : entry.request.strand < unused (control_part entries)
  pub from_start : GoesOnTo g.start (address (control_part entries) entry.request.strand)
  pub leads : IsPrefix (address (control_part entries) entry.request.strand) (address (control_part entries) x)
  pub at_base : frames earlier entry.request.strand ≡ g.base
  pub in_block : stack (control_part earlier) entry.request.strand ≡ block g.join g.below

left_more : (entry : Entry) (entries : Entries) → Legal (control_part (entry ∷ entries)) → (g : Home) (o x y : ℕ) → Left entries g o x →
    x < unused (control_part entries) → IsPrefix (address (control_part entries) x) (address (control_part (entry ∷ entries)) y) →
    Left (entry ∷ entries) g o y
left_more entry entries l g o x y w lt p =
    let at = stays_with (event_of entry) (control_part entries) l w.entry.request.strand w.known in
    record {
      entry = w.entry;
      earlier = w.earlier;
      later = entry ∷ w.later;
      whole = ap (λ (z : Entries). entry ∷ z) w.whole;
      number_is = w.number_is;
      within = let le = w.within in omega arith;
      is_behind = w.is_behind;
      known = omega (arith, w.known, unused_with (control_part entries) (event_of entry));
      from_start = subst (GoesOnTo g.start) (sym at) w.from_start;
      leads = subst (λ (a : Address). IsPrefix a (address (control_part (entry ∷ entries)) y)) (sym at)
          (prefix-transitive (address (control_part entries) w.entry.request.strand) (address (control_part entries) x)
          (address (control_part (entry ∷ entries)) y) w.leads p);
      at_base = w.at_base;
      in_block = w.in_block;
    }

left_new : (entry : Entry) (entries : Entries) → Legal (control_part (entry ∷ entries)) → (g : Home) → g.number ≤ length entries → (x y : ℕ) →
    IsBy (event_of entry) x → frames entries x ≡ g.base → stack (control_part entries) x ≡ block g.join g.below → x < unused (control_part entries) →
    GoesOnTo g.start (address (control_part entries) x) → IsPrefix (address (control_part entries) x) (address (control_part (entry ∷ entries)) y) →
    Left (entry ∷ entries) g (suc (length entries)) y
left_new entry entries l g late x y is a b lt p up =
    let own : entry.request.strand ≡ x = by_strand entry.request.strand entry.request.act entry.answer x is in
    let at : address (control_part (entry ∷ entries)) entry.request.strand ≡ address (control_part entries) x =
    ap (address (control_part (entry ∷ entries))) own ∙ stays_with (event_of entry) (control_part entries) l x lt in
    record {
      entry = entry;
      earlier = entries;
      later = [];
      whole = refl;
      number_is = refl;
      within = omega arith;
      is_behind = omega arith;
      known = omega (arith, own, lt, unused_with (control_part entries) (event_of entry));
      from_start = subst (GoesOnTo g.start) (sym at) p;
      leads = subst (λ (z : Address). IsPrefix z (address (control_part (entry ∷ entries)) y)) (sym at) up;
      at_base = ap (frames entries) own ∙ a;
      in_block = ap (stack (control_part entries)) own ∙ b;
    }

-- What is known.

pub record Known (h : History) (f : ℕ → List ℕ) (count : ℕ) (P : Home → ℕ → ℕ → Type 0) (S s : ℕ) (b : Spawned) : Type 0 where
  pub g : Home
  pub number_is : g.number ≡ S
  pub join_is : g.join ≡ b.join
  pub base_is : g.base ≡ f s
  pub low : IsLow g
  pub within : S ≤ count
  pub ended : status h s ≡ over
  pub next_known : b.next < unused h
  pub next_at : address h b.next ≡ g.start
  pub child_known : b.child < unused h
  pub join_known : b.join < unused h
  pub turns : TurnsOff (address h b.child) (address h b.join)
  pub ways : (x : ℕ) → x < unused h → IsPrefix g.start (address h x) → Way g h f (P g) x

-- at the spawn

home_there : (h : History) (s c n j : ℕ) (first : Bool) → Splitting h s c n j first → Allowed h (split s c n j first) →
    (below : Stack) × (stack (split s c n j first ∷ h) n ≡ block j below)
home_there h s c n j true made a = (stack h s, stack_next h s c n j made n refl)
home_there h s c n j false made (next_split {below = under} run st ce ne) = (under, stack_goes_on h s c n j n refl ∙ st)

-- no strand of before lies below the next
pub next_not_old : (h : History) (s c n j : ℕ) (first : Bool) → Legal (split s c n j first ∷ h) → (x : ℕ) → x < unused h →
    IsPrefix (address (split s c n j first ∷ h) n) (address (split s c n j first ∷ h) x) → ⊥
next_not_old h s c n j first (then l a) x lt p =
    let made : Splitting h s c n j first = splitting h s c n j first (ranges l) (holders l) a in
    let begins : IsPrefix (address h s ▹ next) (address h x) =
    subst₂ IsPrefix (next_seen h s c n j first made.numbers).2 (address_kept h s c n j first made x lt) p in
    let only : x ≡ s = (addresses l).leaf s x (running_open h s made.runs) lt (prefix_of_longer (address h s) (address h x) next begins) in
    not_prefix_shorter (address h s) next (subst (λ (z : ℕ). IsPrefix (address h s ▹ next) (address h z)) only begins)

known_first : (h : History) (k s : ℕ) (b : Spawned) (f : ℕ → List ℕ) (P : Home → ℕ → ℕ → Type 0) →
    Legal (split s b.child b.next b.join b.first ∷ h) → All (λ n. n ≤ k) (f s) →
    Known (split s b.child b.next b.join b.first ∷ h) (with_frame (Some (split s b.child b.next b.join b.first)) k f) k P k s b
known_first h k s b f P (then l a) low = record {
  g = home;
  number_is = refl;
  join_is = refl;
  base_is = sym (split_old h s b.child b.next b.join k b.first f a s made.numbers.spawner_known);
  low = low;
  within = omega arith;
  ended = (spawner_seen h s b.child b.next b.join b.first made.numbers).0;
  next_known = let grows = made.numbers.grows in omega (arith, made.numbers.next_is);
  next_at = refl;
  child_known = child_below;
  join_known = made.numbers.join_known;
  turns = inside (then l a) b.child b.join child_below (ap join_of (child_seen h s b.child b.next b.join b.first made.numbers).1);
  ways = λ x lt p. go x p (named h s b.child b.next b.join b.first made x lt);
}
  where
    made : Splitting h s b.child b.next b.join b.first
    made = splitting h s b.child b.next b.join b.first (ranges l) (holders l) a

    h' : History
    h' = split s b.child b.next b.join b.first ∷ h

    there : (below : Stack) × (stack (split s b.child b.next b.join b.first ∷ h) b.next ≡ block b.join below)
    there = home_there h s b.child b.next b.join b.first made a

    home : Home
    home = record { number = k; base = f s; join = b.join; below = there.0; start = address (split s b.child b.next b.join b.first ∷ h) b.next }

    child_below : b.child < unused (split s b.child b.next b.join b.first ∷ h)
    child_below = let grows = made.numbers.grows in omega (arith, made.numbers.child_is)

    go : (x : ℕ) → IsPrefix home.start (address (split s b.child b.next b.join b.first ∷ h) x) → Named h s b.child b.next b.join b.first x →
        Way home (split s b.child b.next b.join b.first ∷ h) (with_frame (Some (split s b.child b.next b.join b.first)) k f) (P home) x
    go x p (named_old lt at q r) = absurd (next_not_old h s b.child b.next b.join b.first (then l a) x lt p)
    go x p (named_new word e is at) =
        let same_word : next ≡ word =
        prefix_siblings (address h s) next word (subst₂ IsPrefix (next_seen h s b.child b.next b.join b.first made.numbers).2 at p) in
        let here : x ≡ b.next = e ∙ ap (by_word b.child b.next b.join) (sym same_word) in
        at_home (split_goes_on b.first s b.child b.next b.join x (inr here) k f) (ap (stack (split s b.child b.next b.join b.first ∷ h)) here ∙ there.1)
        (subst (λ (z : ℕ). GoesOnTo home.start (address (split s b.child b.next b.join b.first ∷ h) z)) (sym here) (goes_here home.start))

-- with one entry more
known_more : (entry : Entry) (entries : Entries) → Legal (control_part (entry ∷ entries)) → (S s : ℕ) (b : Spawned) →
    Known (control_part entries) (frames entries) (length entries) (Left entries) S s b →
    Known (control_part (entry ∷ entries)) (frames (entry ∷ entries)) (length (entry ∷ entries)) (Left (entry ∷ entries)) S s b
known_more entry entries l S s b w =
    let stands = over_stands (control_part entries) (event_of entry) (suc (length entries)) (frames entries) s l w.ended in
    let grows = unused_with (control_part entries) (event_of entry) in
    let child_at = stays_with (event_of entry) (control_part entries) l b.child w.child_known in
    let join_at = stays_with (event_of entry) (control_part entries) l b.join w.join_known in
    let late : w.g.number ≤ length entries = omega (arith, w.number_is, w.within) in
    let step : Step w.g (control_part entries) (event_of entry) (suc (length entries)) (frames entries) (Left entries w.g) (Left (entry ∷ entries) w.g) = record {
      legal = l;
      low = w.low;
      late = omega arith;
      strand = b.next;
      strand_known = w.next_known;
      strand_at = w.next_at;
      between = λ o x t. (t.is_behind, let le = t.within in omega arith);
      more = λ o x y t lt p. left_more entry entries l w.g o x y t lt p;
      new = λ x y is at_base in_block lt p up. left_new entry entries l w.g late x y is at_base in_block lt p up;
      ways = w.ways;
    } in
    record {
      g = w.g;
      number_is = w.number_is;
      join_is = w.join_is;
      base_is = w.base_is ∙ sym stands.0;
      low = w.low;
      within = let le = w.within in omega arith;
      ended = stands.1;
      next_known = omega (arith, w.next_known);
      next_at = stays_with (event_of entry) (control_part entries) l b.next w.next_known ∙ w.next_at;
      child_known = omega (arith, w.child_known);
      join_known = omega (arith, w.join_known);
      turns = subst₂ TurnsOff (sym child_at) (sym join_at) w.turns;
      ways = λ x lt p. way_with w.g (control_part entries) (event_of entry) (suc (length entries)) (frames entries) (Left entries w.g) (Left (entry ∷ entries) w.g) step l x lt p;
    }

-- the event of an entry that is a spawn
pub spawn_event : (entry one : Entry) (k number s : ℕ) (b : Spawned) → (number ≡ k) × (one ≡ entry) → one.request.strand ≡ s →
    (one.request.act ≡ Spawn) × (one.answer ≡ Split b) → event_of entry ≡ Some (split s b.child b.next b.join b.first)
spawn_event entry one k number s b is own began =
    let event : event_of one ≡ Some (split one.request.strand b.child b.next b.join b.first) = rw (began.0, began.1) refl in
    ap event_of (sym is.1) ∙ (event ∙ ap (λ (z : ℕ). Some (split z b.child b.next b.join b.first)) own)

pub known : (entries : Entries) → Legal (control_part entries) → (S s : ℕ) (b : Spawned) → IsSpawn entries S s b →
    Known (control_part entries) (frames entries) (length entries) (Left entries) S s b
known [] l S s b is = absurd is.1
known (entry ∷ entries) l S s b (one, inl is, own, began) =
    let here = spawn_event entry one (suc (length entries)) S s b is own began in
    let legal : Legal (split s b.child b.next b.join b.first ∷ control_part entries) =
    subst (λ (o : Option Event). Legal (with_event o (control_part entries))) here l in
    let low = all_wider (length entries) (suc (length entries)) (omega arith) (frames entries s) (frames_low entries s) in
    subst (λ (n : ℕ). Known (control_part (entry ∷ entries)) (frames (entry ∷ entries)) (length (entry ∷ entries)) (Left (entry ∷ entries)) n s b) (sym is.0)
    (subst (λ (o : Option Event). Known (with_event o (control_part entries)) (with_frame o (suc (length entries)) (frames entries)) (suc (length entries))
    (Left (entry ∷ entries)) (suc (length entries)) s b) (sym here) (known_first (control_part entries) (suc (length entries)) s b (frames entries) (Left (entry ∷ entries)) legal low))
known (entry ∷ entries) l S s b (one, inr k, own, began) =
    known_more entry entries l S s b (known entries (legal_rest (event_of entry) (control_part entries) l) S s b (one, k, own, began))

-- Before the spawn.

-- no strand that was there before the spawn lies below its next
pub none_before_spawn : (later earlier : Entries) → Legal (control_part (later ++ earlier)) → (S s : ℕ) (b : Spawned) → IsSpawn (later ++ earlier) S s b →
    length earlier < S → (x : ℕ) → x < unused (control_part earlier) →
    IsPrefix (address (control_part (later ++ earlier)) b.next) (address (control_part (later ++ earlier)) x) → ⊥
none_before_spawn [] earlier l S s b is lt x known_x p = let le = (number_within earlier S is.0 is.1).1 in omega arith
none_before_spawn (entry ∷ later) earlier l S s b (one, inl is, own, began) lt x known_x p =
    let here = spawn_event entry one (suc (length (later ++ earlier))) S s b is own began in
    let old : x < unused (control_part (later ++ earlier)) = omega (arith, known_x, unused_before later earlier) in
    next_not_old (control_part (later ++ earlier)) s b.child b.next b.join b.first
    (subst (λ (o : Option Event). Legal (with_event o (control_part (later ++ earlier)))) here l) x old
    (subst (λ (o : Option Event). IsPrefix (address (with_event o (control_part (later ++ earlier))) b.next)
    (address (with_event o (control_part (later ++ earlier))) x)) here p)
none_before_spawn (entry ∷ later) earlier l S s b (one, inr k, own, began) lt x known_x p =
    let rest = legal_rest (event_of entry) (control_part (later ++ earlier)) l in
    let old : x < unused (control_part (later ++ earlier)) = omega (arith, known_x, unused_before later earlier) in
    let next_old = (known (later ++ earlier) rest S s b (one, k, own, began)).next_known in
    none_before_spawn later earlier rest S s b (one, k, own, began) lt x known_x
    (subst₂ IsPrefix (stays_with (event_of entry) (control_part (later ++ earlier)) l b.next next_old)
    (stays_with (event_of entry) (control_part (later ++ earlier)) l x old) p)
