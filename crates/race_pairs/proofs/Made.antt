-- What made each strand: it begins where its spawner stands, one word further.
-- h: a history; m: the makers of strands; x, y: strands; k: the number of an event; in a split, s is the spawner, c its child, n its next
-- and j the join
use Rattle.std.proofs.Common.{◌≡◌, ◌≢◌, ◌⊎◌, inl, inr, ℕ, suc, ◌<◌, ◌≤◌, Bool, true, false, [], ◌∷◌, length, Option, Some, None, refl, sym, ap, ◌∙◌, subst, arith}
use Rattle.model_strands.specs.Address.{Word, child, next, join}
use Rattle.model_accesses.specs.declared.request.Act.{Act}
use Rattle.model_accesses.specs.declared.request.Act.TheVariants.{Spawn, Sync, Call, Return}
use Rattle.model_strands.specs.declared.spawned.Spawned.{Spawned}
use Rattle.model_strands.specs.History.{Event, split, same, joined, waits, call, resumed, ended, ended_joined, finished, History}
use Rattle.model_strands.specs.Strands.{Begun, unused}
use Rattle.model_strands.specs.Legal.{Allowed, open_split, next_split, Legal, then}
use Rattle.model_strands.specs.Addresses.{address}
use Rattle.law_strands.proofs.Updates.{updated_at, updated_off, updated_case}
use Rattle.law_strands.proofs.Words.{◌▹◌}
use Rattle.law_strands.proofs.Range.{ranges, numbered, child_seen, next_seen}
use Rattle.law_strands.proofs.Holders.{holders, Splitting, splitting}
use Rattle.law_strands.proofs.Addresses.{by_word, Named, named_new, named_old, named}
use Rattle.law_strands.proofs.Kept.{address_stays, begun_stays}
use Rattle.model_histories.specs.declared.answer.Answer.{Answer}
use Rattle.model_histories.specs.declared.answer.Answer.TheVariants.{Split, Same, Joined, Waits, Resumed, Ended, EndedJoined, Finished}
use Rattle.model_histories.specs.declared.answer.Entry.{Entry}
use Rattle.model_histories.specs.Entries.{Entries, event_between, event_of, with_event, control_part}
use Rattle.race_pairs.specs.Makers.{IsSpawn, with_maker, maker}

-- the entry that made the strand is a spawn by the spawner, which began these
pub record Made (entries : Entries) (history : History) (makers : ℕ → ℕ) (strand : ℕ) : Type 0 where
  pub spawner : ℕ
  pub began : Spawned
  pub spawn : IsSpawn entries (makers strand) spawner began
  pub spawner_known : spawner < unused history
  pub earlier : makers spawner < makers strand
  pub child_known : began.child < unused history
  pub next_known : began.next < unused history
  pub child_begun : Begun history began.child
  pub next_begun : Begun history began.next
  pub child_maker : makers began.child ≡ makers strand
  pub child_address : address history began.child ≡ address history spawner ▹ child
  pub next_address : address history began.next ≡ address history spawner ▹ next
  pub word : Word
  pub own_address : address history strand ≡ address history spawner ▹ word

-- it is strand 0, or some entry made it
abbrev pub Origin : Entries → History → (ℕ → ℕ) → ℕ → Type 0
Origin entries history makers strand =
    ((strand ≡ 0) × (makers strand ≡ 0) × (address history strand ≡ [])) ⊎ Made entries history makers strand

spawn_stays : (entry : Entry) (entries : Entries) (number spawner : ℕ) (began : Spawned) → IsSpawn entries number spawner began →
    IsSpawn (entry ∷ entries) number spawner began
spawn_stays entry entries number spawner began (one, k, a, b) = (one, inr k, a, b)

-- what later entries leave
kept : (entry : Entry) (entries : Entries) (h h' : History) (m m' : ℕ → ℕ) → unused h ≤ unused h' →
    ((y : ℕ) → y < unused h → address h' y ≡ address h y) → ((y : ℕ) → Begun h y → Begun h' y) → ((y : ℕ) → y < unused h → m' y ≡ m y) →
    (x : ℕ) → x < unused h → Origin entries h m x → Origin (entry ∷ entries) h' m' x
kept entry entries h h' m m' up addresses begun makers x lt (inl t) = inl (t.0, makers x lt ∙ t.1, addresses x lt ∙ t.2)
kept entry entries h h' m m' up addresses begun makers x lt (inr w) =
    let at_spawner : address h' w.spawner ≡ address h w.spawner = addresses w.spawner w.spawner_known in
    inr (record {
      spawner = w.spawner;
      began = w.began;
      spawn = subst (λ (n : ℕ). IsSpawn (entry ∷ entries) n w.spawner w.began) (sym (makers x lt)) (spawn_stays entry entries (m x) w.spawner w.began w.spawn);
      spawner_known = omega (arith, w.spawner_known);
      earlier = omega (arith, makers x lt, makers w.spawner w.spawner_known, w.earlier);
      child_known = omega (arith, w.child_known);
      next_known = omega (arith, w.next_known);
      child_begun = begun w.began.child w.child_begun;
      next_begun = begun w.began.next w.next_begun;
      child_maker = makers w.began.child w.child_known ∙ (w.child_maker ∙ sym (makers x lt));
      child_address = addresses w.began.child w.child_known ∙ (w.child_address ∙ ap (λ a. a ▹ child) (sym at_spawner));
      next_address = addresses w.began.next w.next_known ∙ (w.next_address ∙ ap (λ a. a ▹ next) (sym at_spawner));
      word = w.word;
      own_address = addresses x lt ∙ (w.own_address ∙ ap (λ a. a ▹ w.word) (sym at_spawner));
    })

-- The makers after a split.

maker_below : (event : Option Event) (number : ℕ) (makers : ℕ → ℕ) → ((y : ℕ) → makers y ≤ number) → (y : ℕ) → with_maker event number makers y ≤ number
maker_below (Some (split s c n j true)) k m below y =
    updated_case (λ v. v ≤ k) _ j k y (λ e. omega arith) (λ nj. updated_case (λ v. v ≤ k) _ n k y (λ e. omega arith)
    (λ nn. updated_case (λ v. v ≤ k) m c k y (λ e. omega arith) (λ nc. below y)))
maker_below (Some (split s c n j false)) k m below y =
    updated_case (λ v. v ≤ k) _ n k y (λ e. omega arith) (λ nn. updated_case (λ v. v ≤ k) m c k y (λ e. omega arith) (λ nc. below y))
maker_below (Some (same s)) k m below y = below y
maker_below (Some (joined s j)) k m below y = below y
maker_below (Some (waits s)) k m below y = below y
maker_below (Some (call s)) k m below y = below y
maker_below (Some (resumed s)) k m below y = below y
maker_below (Some (ended s)) k m below y = below y
maker_below (Some (ended_joined s j)) k m below y = below y
maker_below (Some (finished s)) k m below y = below y
maker_below None k m below y = below y

pub makers_below : (entries : Entries) (strand : ℕ) → maker entries strand ≤ length entries
makers_below [] strand = omega arith
makers_below (entry ∷ entries) strand =
    maker_below (event_of entry) (suc (length entries)) (maker entries) (λ y. let below : maker entries y ≤ length entries = makers_below entries y in omega arith) strand

pub maker_new : (s c n j k : ℕ) (first : Bool) (m : ℕ → ℕ) (word : Word) → (word ≡ join → first ≡ true) →
    with_maker (Some (split s c n j first)) k m (by_word c n j word) ≡ k
maker_new s c n j k true m child f =
    updated_case (λ v. v ≡ k) _ j k c (λ e. refl) (λ nj. updated_case (λ v. v ≡ k) _ n k c (λ e. refl) (λ nn. updated_at m c k c refl))
maker_new s c n j k true m next f = updated_case (λ v. v ≡ k) _ j k n (λ e. refl) (λ nj. updated_at _ n k n refl)
maker_new s c n j k true m join f = updated_at _ j k j refl
maker_new s c n j k false m child f = updated_case (λ v. v ≡ k) _ n k c (λ e. refl) (λ nn. updated_at m c k c refl)
maker_new s c n j k false m next f = updated_at _ n k n refl
maker_new s c n j k false m join f = absurd (let e : false ≡ true = f refl in cc)

pub maker_old : (h : History) (s c n j k : ℕ) (first : Bool) (m : ℕ → ℕ) → Allowed h (split s c n j first) → (y : ℕ) → y < unused h →
    with_maker (Some (split s c n j first)) k m y ≡ m y
maker_old h s c n j k true m (open_split run sy ce ne je) y lt =
    let nc : y ≢ c = omega arith in
    let nn : y ≢ n = omega arith in
    let nj : y ≢ j = omega arith in
    updated_off _ j k y nj ∙ (updated_off _ n k y nn ∙ updated_off m c k y nc)
maker_old h s c n j k false m (next_split run st ce ne) y lt =
    let nc : y ≢ c = omega arith in
    let nn : y ≢ n = omega arith in
    updated_off _ n k y nn ∙ updated_off m c k y nc

-- an entry whose event is a split is a spawn
pub split_made : (strand : ℕ) (act : Act) (answer : Answer) (s c n j : ℕ) (first : Bool) → event_between strand act answer ≡ Some (split s c n j first) →
    (began : Spawned) × (strand ≡ s) × (act ≡ Spawn) × (answer ≡ Split began) × (began.child ≡ c) × (began.next ≡ n)
split_made strand Spawn (Split began) s c n j first e = (began, cc, refl, refl, cc, cc)
split_made strand Sync Same s c n j first e = absurd (cc)
split_made strand Sync (Joined k) s c n j first e = absurd (cc)
split_made strand Sync Waits s c n j first e = absurd (cc)
split_made strand Call Same s c n j first e = absurd (cc)
split_made strand Return Resumed s c n j first e = absurd (cc)
split_made strand Return Ended s c n j first e = absurd (cc)
split_made strand Return (EndedJoined k) s c n j first e = absurd (cc)
split_made strand Return Finished s c n j first e = absurd (cc)
split_made strand act answer s c n j first e = absurd (cc)

-- what a split makes
new : (entry : Entry) (entries : Entries) (h : History) (s c n j : ℕ) (first : Bool) → event_of entry ≡ Some (split s c n j first) → Legal h →
    Allowed h (split s c n j first) → (word : Word) → (word ≡ join → first ≡ true) → (x : ℕ) → x ≡ by_word c n j word →
    address (split s c n j first ∷ h) x ≡ address h s ▹ word →
    Made (entry ∷ entries) (split s c n j first ∷ h) (with_maker (Some (split s c n j first)) (suc (length entries)) (maker entries)) x
new entry entries h s c n j first is l a word opens x x_is stands =
    let m' = with_maker (Some (split s c n j first)) (suc (length entries)) (maker entries) in
    let w = numbered h s c n j first (ranges l) a in
    let found = split_made entry.request.strand entry.request.act entry.answer s c n j first is in
    let made : m' x ≡ suc (length entries) = ap m' x_is ∙ maker_new s c n j (suc (length entries)) first (maker entries) word opens in
    let at_child : m' c ≡ suc (length entries) = maker_new s c n j (suc (length entries)) first (maker entries) child (λ e. absurd (cc)) in
    let of_spawner : m' s ≡ maker entries s = maker_old h s c n j (suc (length entries)) first (maker entries) a s w.spawner_known in
    let below : maker entries s ≤ length entries = makers_below entries s in
    let stays : address (split s c n j first ∷ h) s ≡ address h s = address_stays (then l a) s w.spawner_known in
    let child_at = child_seen h s c n j first w in
    let next_at = next_seen h s c n j first w in
    let child_is : found.0.child ≡ c = found.4 in
    let next_is : found.0.next ≡ n = found.5 in
    let after = split s c n j first ∷ h in
    record {
      spawner = s;
      began = found.0;
      spawn = (entry, inl (made, refl), found.1, (found.2, found.3));
      spawner_known = omega (arith, w.spawner_known, w.grows);
      earlier = omega (arith, made, of_spawner, below);
      child_known = omega (arith, child_is, w.child_is, w.grows);
      next_known = omega (arith, next_is, w.next_is, w.grows);
      child_begun = subst (λ (y : ℕ). Begun after y) (sym child_is) (inl child_at.0);
      next_begun = subst (λ (y : ℕ). Begun after y) (sym next_is) (inl next_at.0);
      child_maker = ap m' child_is ∙ (at_child ∙ sym made);
      child_address = ap (address after) child_is ∙ (child_at.2 ∙ ap (λ b. b ▹ child) (sym stays));
      next_address = ap (address after) next_is ∙ (next_at.2 ∙ ap (λ b. b ▹ next) (sym stays));
      word = word;
      own_address = stands ∙ ap (λ b. b ▹ word) (sym stays);
    }

no_less : (n : ℕ) → n ≤ n
no_less n = omega arith

-- one more entry
step : (entry : Entry) (entries : Entries) (h : History) (event : Option Event) → event_of entry ≡ event → Legal (with_event event h) →
    ((x : ℕ) → x < unused h → Origin entries h (maker entries) x) → (x : ℕ) → x < unused (with_event event h) →
    Origin (entry ∷ entries) (with_event event h) (with_maker event (suc (length entries)) (maker entries)) x
step entry entries h None is l before x lt =
    kept entry entries h h (maker entries) (maker entries) (omega arith) (λ y k. refl) (λ y b. b) (λ y k. refl) x lt (before x lt)
step entry entries h (Some (split s c n j first)) is (then l a) before x lt = go (named h s c n j first w x lt)
  where
    w : Splitting h s c n j first
    w = splitting h s c n j first (ranges l) (holders l) a

    up : unused h ≤ unused (split s c n j first ∷ h)
    up = let grows = w.numbers.grows in omega arith

    go : Named h s c n j first x → Origin (entry ∷ entries) (split s c n j first ∷ h)
        (with_maker (Some (split s c n j first)) (suc (length entries)) (maker entries)) x
    go (named_new word e f stands) = inr (new entry entries h s c n j first is l a word f x e stands)
    go (named_old old stands place opened) =
        kept entry entries h (split s c n j first ∷ h) (maker entries) (with_maker (Some (split s c n j first)) (suc (length entries)) (maker entries)) up
        (address_stays (then l a)) (begun_stays (then l a)) (maker_old h s c n j (suc (length entries)) first (maker entries) a) x old (before x old)
step entry entries h (Some (same s)) is l before x lt =
    kept entry entries h (same s ∷ h) (maker entries) (maker entries) (no_less (unused h)) (λ y k. refl) (begun_stays l) (λ y k. refl) x lt (before x lt)
step entry entries h (Some (joined s j)) is l before x lt =
    kept entry entries h (joined s j ∷ h) (maker entries) (maker entries) (no_less (unused h)) (λ y k. refl) (begun_stays l) (λ y k. refl) x lt (before x lt)
step entry entries h (Some (waits s)) is l before x lt =
    kept entry entries h (waits s ∷ h) (maker entries) (maker entries) (no_less (unused h)) (λ y k. refl) (begun_stays l) (λ y k. refl) x lt (before x lt)
step entry entries h (Some (call s)) is l before x lt =
    kept entry entries h (call s ∷ h) (maker entries) (maker entries) (no_less (unused h)) (λ y k. refl) (begun_stays l) (λ y k. refl) x lt (before x lt)
step entry entries h (Some (resumed s)) is l before x lt =
    kept entry entries h (resumed s ∷ h) (maker entries) (maker entries) (no_less (unused h)) (λ y k. refl) (begun_stays l) (λ y k. refl) x lt (before x lt)
step entry entries h (Some (ended s)) is l before x lt =
    kept entry entries h (ended s ∷ h) (maker entries) (maker entries) (no_less (unused h)) (λ y k. refl) (begun_stays l) (λ y k. refl) x lt (before x lt)
step entry entries h (Some (ended_joined s j)) is l before x lt =
    kept entry entries h (ended_joined s j ∷ h) (maker entries) (maker entries) (no_less (unused h)) (λ y k. refl) (begun_stays l) (λ y k. refl) x lt (before x lt)
step entry entries h (Some (finished s)) is l before x lt =
    kept entry entries h (finished s ∷ h) (maker entries) (maker entries) (no_less (unused h)) (λ y k. refl) (begun_stays l) (λ y k. refl) x lt (before x lt)

-- a history that is legal was so before its last event
pub legal_rest : (event : Option Event) (history : History) → Legal (with_event event history) → Legal history
legal_rest (Some event) h (then l a) = l
legal_rest None h l = l

pub origins : (entries : Entries) → Legal (control_part entries) → (strand : ℕ) → strand < unused (control_part entries) →
    Origin entries (control_part entries) (maker entries) strand
origins [] l x lt = let zero : x ≡ 0 = omega arith in inl (zero, refl, refl)
origins (entry ∷ entries) l x lt =
    step entry entries (control_part entries) (event_of entry) refl l (origins entries (legal_rest (event_of entry) (control_part entries) l)) x lt
