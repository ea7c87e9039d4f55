-- How spawns and calls came to their functions.
use Rattle.std.proofs.Common.{◌≡◌, ◌⊎◌, inl, inr, ℕ, zero, suc, ◌+◌, ◌<◌, ◌≤◌, List, [], ◌∷◌, ◌++◌, length, get_or, take, map, reverse, append-nil, Option, Some, None, refl, sym, ap, ◌∙◌, subst, arith}
use Rattle.std.specs.Prelude.{slice_get, MatchOption, unwrap_or}
use Rattle.std.specs.Option.{option_map}
use Rattle.std.proofs.lemmas.List.{length-reverse, reverse-append, reverse-reverse, map-append, take_more}
use Rattle.law_strands.proofs.Places.{below_or_beyond}
use Rattle.model_accesses.specs.declared.request.Act.{Act}
use Rattle.model_accesses.specs.declared.request.Act.TheVariants.{Spawn, Sync, Call, Return}
use Rattle.model_strands.specs.declared.spawned.Spawned.{Spawned}
use Rattle.model_histories.specs.declared.answer.Answer.{Answer}
use Rattle.model_histories.specs.declared.answer.Answer.TheVariants.{Split, Same, Joined, Waits, Resumed, Ended, EndedJoined, Finished}
use Rattle.model_histories.specs.declared.answer.Entry.{Entry}
use Rattle.model_histories.specs.Entries.{Entries, event_between}
use Rattle.model_histories.specs.Shapes.{Shape}
use Rattle.model_histories.specs.Legal.{Belongs, IsLegal}
use Rattle.race_pairs.specs.declared.kept.Opener.{Opener}
use Rattle.race_pairs.specs.Makers.{HasNumber}
use Rattle.race_pairs.specs.Openers.{opener_of, IsOpener, IsNoOpener}
use Rattle.race_pairs.specs.declared.encounter.Way.{Way}
use Rattle.race_pairs.specs.declared.encounter.Way.TheVariants.{Spawned as BySpawn, Called}
use Rattle.race_pairs.specs.declared.encounter.Link.{Link}
use Rattle.race_pairs.specs.Refusals.{entry_at}
use Rattle.race_pairs.specs.Encounters.{way_of_act, way_at, link_at}
use Rattle.race_pairs.proofs.Witnesses.{numbered, seam}

-- ---- by an opener

way_spawned : (strand : ℕ) (act : Act) (answer : Answer) (number : ℕ) (opener : Opener) (spawned : Spawned) →
    opener_of (event_between strand act answer) number ≡ opener ∷ [] → opener.spawned ≡ Some spawned → way_of_act act ≡ BySpawn
way_spawned strand Spawn (Split made) number opener spawned e f = refl
way_spawned strand Call Same number opener spawned e f = absurd (let none : None ≡ opener.spawned = ap (λ (xs : List Opener). (get_or xs 0 opener).spawned) e in cc)
way_spawned strand Spawn answer number opener spawned e f = absurd (cc)
way_spawned strand Call answer number opener spawned e f = absurd (cc)
way_spawned strand Sync Same number opener spawned e f = absurd (cc)
way_spawned strand Sync (Joined join) number opener spawned e f = absurd (cc)
way_spawned strand Sync Waits number opener spawned e f = absurd (cc)
way_spawned strand Return Resumed number opener spawned e f = absurd (cc)
way_spawned strand Return Ended number opener spawned e f = absurd (cc)
way_spawned strand Return (EndedJoined join) number opener spawned e f = absurd (cc)
way_spawned strand Return Finished number opener spawned e f = absurd (cc)
way_spawned strand act answer number opener spawned e f = absurd (cc)

way_called : (strand : ℕ) (act : Act) (answer : Answer) (number : ℕ) (opener : Opener) →
    opener_of (event_between strand act answer) number ≡ opener ∷ [] → opener.spawned ≡ None → way_of_act act ≡ Called
way_called strand Spawn (Split made) number opener e f =
    absurd (let some : Some made ≡ opener.spawned = ap (λ (xs : List Opener). (get_or xs 0 opener).spawned) e in cc)
way_called strand Spawn answer number opener e f = absurd (cc)
way_called strand act answer number opener e f = refl

way_other : (strand : ℕ) (act : Act) (answer : Answer) (number : ℕ) → Belongs act answer →
    opener_of (event_between strand act answer) number ≡ [] → way_of_act act ≡ Called
way_other strand Spawn (Split made) number b e = absurd (cc)
way_other strand Spawn answer number b e = absurd b
way_other strand act answer number b e = refl

-- ---- entries by their numbers

belongs_at : (shape : Shape) (entries : Entries) → IsLegal shape entries → (number : ℕ) (one : Entry) → HasNumber entries number one → Belongs one.request.act one.answer
belongs_at shape [] l number one h = absurd h
belongs_at shape (e ∷ H) l number one (inl t) = subst (λ (x : Entry). Belongs x.request.act x.answer) (sym t.1) l.1.belongs
belongs_at shape (e ∷ H) l number one (inr k) = belongs_at shape H l.0 number one k

get_left : (xs ys : List Entry) (k : ℕ) → k < length xs → slice_get (xs ++ ys) k ≡ slice_get xs k
get_left [] ys k lt = absurd (omega arith)
get_left (x ∷ xs) ys zero lt = refl
get_left (x ∷ xs) ys (suc k) lt = let less : k < length xs = omega arith in get_left xs ys k less

get_past : (xs : List Entry) (k : ℕ) → length xs ≤ k → slice_get xs k ≡ None
get_past [] k le = refl
get_past (x ∷ xs) zero le = absurd (omega arith)
get_past (x ∷ xs) (suc k) le = let less : length xs ≤ k = omega arith in get_past xs k less

none_some : {x : Entry} → None ≡ Some x → ⊥
none_some e = absurd (cc)

some_is : {x y : Entry} → Some x ≡ Some y → x ≡ y
some_is e = cc

has_at : (entries : Entries) (k : ℕ) (one : Entry) → slice_get (reverse entries) k ≡ Some one → HasNumber entries (suc k) one
has_at [] k one e = absurd (cc)
has_at (x ∷ H) k one e = go (has_at H k one) (below_or_beyond k (length H)) (below_or_beyond (length H) k)
  where
    turned : slice_get (reverse H ++ x ∷ []) k ≡ Some one
    turned = ap (λ (xs : Entries). slice_get xs k) (sym (reverse-append (x ∷ []) H)) ∙ e

    go : (slice_get (reverse H) k ≡ Some one → HasNumber H (suc k) one) → (k < length H) ⊎ (length H ≤ k) → (length H < k) ⊎ (k ≤ length H) →
        HasNumber (x ∷ H) (suc k) one
    go older (inl lt) other =
        let less : k < length (reverse H) = omega (arith, length-reverse H) in
        inr (older (sym (get_left (reverse H) (x ∷ []) k less) ∙ turned))
    go older (inr ge) (inl lt) = absurd (
        let past : slice_get (reverse H ++ x ∷ []) k ≡ None =
        get_past (reverse H ++ x ∷ []) k (let l = length-reverse (x ∷ H) in let same = ap length (reverse-append (x ∷ []) H) in omega (arith, l, same)) in none_some (sym past ∙ turned))
    go older (inr ge) (inr le) =
        let here : k ≡ length (reverse H) = omega (arith, length-reverse H) in
        let is : Some x ≡ Some one = sym (ap (slice_get (reverse H ++ x ∷ [])) here ∙ seam (reverse H) x []) ∙ turned in
        let number : suc k ≡ suc (length H) = omega arith in
        inl (number, sym (some_is is))

number_there : (told : List Entry) (number : ℕ) (one : Entry) → entry_at told number ≡ Some one → HasNumber (reverse told) number one
number_there told zero one e = absurd (cc)
number_there told (suc k) one e = has_at (reverse told) k one (ap (λ (xs : Entries). slice_get xs k) (reverse-reverse told) ∙ e)

there_number : (told : List Entry) (number : ℕ) (one : Entry) → HasNumber (reverse told) number one → entry_at told number ≡ Some one
there_number told number one h =
    ap (λ (xs : Entries). entry_at xs number) (sym (append-nil (reverse (reverse told)) ∙ reverse-reverse told)) ∙ (numbered (reverse told) [] number one h).0

-- ---- as it is found

-- the way by what an opener says
abbrev pub way_found : Option Opener → Way
way_found None = Called
way_found (Some opener) = unwrap_or (option_map (λ spawned. BySpawn) opener.spawned) Called

pub way_is : (told : List Entry) → (shape : Shape) × IsLegal shape (reverse told) → (number : ℕ) (found : Option Opener) →
    MatchOption found (IsNoOpener (reverse told) number) (IsOpener (reverse told) number) → way_found found ≡ way_at told number
way_is told legal number None none = by (entry_at told number) refl
  where
    by : (there : Option Entry) → entry_at told number ≡ there → Called ≡ way_at told number
    by None e = sym (ap (λ (o : Option Entry). unwrap_or (option_map (λ entry. way_of_act entry.request.act) o) Called) e)
    by (Some one) e =
        let h = number_there told number one e in
        sym (ap (λ (o : Option Entry). unwrap_or (option_map (λ entry. way_of_act entry.request.act) o) Called) e ∙
        way_other one.request.strand one.request.act one.answer number (belongs_at legal.0 (reverse told) legal.1 number one h) (none one h))
way_is told legal number (Some opener) is =
    by opener.spawned refl ∙ sym (ap (λ (o : Option Entry). unwrap_or (option_map (λ entry. way_of_act entry.request.act) o) Called) (there_number told number is.0 is.1))
  where
    by : (spawned : Option Spawned) → opener.spawned ≡ spawned →
        unwrap_or (option_map (λ (spawned : Spawned). BySpawn) opener.spawned) Called ≡ way_of_act is.0.request.act
    by (Some spawned) e =
        ap (λ (o : Option Spawned). unwrap_or (option_map (λ (spawned : Spawned). BySpawn) o) Called) e ∙
        sym (way_spawned is.0.request.strand is.0.request.act is.0.answer number opener spawned is.2 e)
    by None e =
        ap (λ (o : Option Spawned). unwrap_or (option_map (λ (spawned : Spawned). BySpawn) o) Called) e ∙
        sym (way_called is.0.request.strand is.0.request.act is.0.answer number opener is.2 e)

-- one link more of those that are found
pub links_more : (told : List Entry) (numbers : List ℕ) (index d : ℕ) (links longer : List Link) (link : Link) → index < length numbers →
    links ≡ map (link_at told) (take index numbers) → link ≡ link_at told (get_or numbers index d) → longer ≡ links ++ link ∷ [] →
    longer ≡ map (link_at told) (take (index + 1) numbers)
links_more told numbers index d links longer link below so_far is grown =
    grown ∙ (ap (λ (xs : List Link). xs ++ link ∷ []) so_far ∙ (ap (λ (l : Link). map (link_at told) (take index numbers) ++ l ∷ []) is ∙
    (sym (map-append (link_at told) (take index numbers) (get_or numbers index d ∷ [])) ∙ sym (ap (map (link_at told)) (take_more numbers index d below)))))
