-- What is kept of the makers of strands.
use Rattle.std.proofs.Common.{◌≡◌, inl, inr, ℕ, ◌-◌, ◌<◌, List, length, get_or, Some, None, sym, ap, ◌∙◌, subst, arith}
use Rattle.model_strands.specs.declared.spawned.Spawned.{Spawned}
use Rattle.model_strands.specs.Strands.{Begun, unused}
use Rattle.model_strands.specs.Addresses.{address}
use Rattle.law_strands.proofs.Law.{begun_below}
use Rattle.law_strands.proofs.Range.{ranges}
use Rattle.model_histories.specs.Entries.{Entries, control_part}
use Rattle.race_pairs.specs.declared.kept.Frame.{Frame}
use Rattle.race_pairs.specs.declared.kept.Strand.{Strand}
use Rattle.race_pairs.specs.declared.kept.Jump.{Jump}
use Rattle.race_pairs.specs.Makers.{IsSpawn, maker}
use Rattle.race_pairs.specs.Lineages.{AreMade, AreWays, IsNumberAt}
use Rattle.race_pairs.specs.Climbs.{AreApart}
use Rattle.race_pairs.proofs.Places.{at_index, item_at, place_within, same_at}
use Rattle.race_pairs.proofs.OpenerLists.{frame_at, opener_spawn, spawn_opener, same_frame}
use Rattle.race_pairs.proofs.Climbing.{number_within}
use Rattle.race_pairs.specs.Openers.{AreOpeners}
use Rattle.race_pairs.proofs.Parted.{some_spawn}

pub known_made : (opened : List Frame) (strands : List Strand) (entries : Entries) → AreMade opened strands entries → (strand : ℕ) → strand < length strands →
    (d : Strand) → IsNumberAt opened (get_or strands strand d).maker (maker entries strand)
known_made opened strands entries made strand known d = made.each strand (get_or strands strand d) (at_index strands strand d known)

-- no entry made it
pub none_made : (opened : List Frame) (place number : ℕ) → IsNumberAt opened place number → place ≡ 0 → number ≡ 0
none_made opened place number (inl t) none = t.1
none_made opened place number (inr t) none = absurd (let is = t.1.place_is in omega (arith, is, none))

pub number_is : (opened : List Frame) (place number : ℕ) → IsNumberAt opened place number → (place ≡ 0 → ⊥) → (d : Frame) →
    (place - 1 < length opened) × ((get_or opened (place - 1) d).opener.number ≡ number)
number_is opened place number (inl t) some d = absurd (some t.0)
number_is opened place number (inr t) some d =
    (place_within opened place t.0 t.1, ap (λ (f : Frame). f.opener.number) (item_at opened place t.0 d t.1) ∙ t.2)

-- a number is some maker's
pub place_some : (opened : List Frame) (place number : ℕ) → IsNumberAt opened place number → 0 < number → place ≡ 0 → ⊥
place_some opened place number at some none = omega (arith, none_made opened place number at none, some)

pub known_spawn : (opened : List Frame) (strands : List Strand) (entries : Entries) → AreMade opened strands entries → (strand : ℕ) → strand < length strands →
    (d : Strand) (e : Frame) → ((get_or strands strand d).maker ≡ 0 → ⊥) → (spawned : Spawned) →
    (get_or opened ((get_or strands strand d).maker - 1) e).opener.spawned ≡ Some spawned →
    IsSpawn entries (maker entries strand) (get_or opened ((get_or strands strand d).maker - 1) e).opener.strand spawned
known_spawn opened strands entries made strand known d e some spawned is = go (known_made opened strands entries made strand known d)
  where
    go : IsNumberAt opened (get_or strands strand d).maker (maker entries strand) →
        IsSpawn entries (maker entries strand) (get_or opened ((get_or strands strand d).maker - 1) e).opener.strand spawned
    go (inl t) = absurd (some t.0)
    go (inr t) =
        let frame_is = item_at opened (get_or strands strand d).maker t.0 e t.1 in
        let spawn = opener_spawn entries t.0.opener.number t.0.opener spawned (frame_at entries opened made.openers _ t.0 t.1)
        (ap (λ (f : Frame). f.opener.spawned) (sym frame_is) ∙ is) in
        subst (λ (f : Frame). IsSpawn entries (maker entries strand) f.opener.strand spawned) (sym frame_is)
        (subst (λ (n : ℕ). IsSpawn entries n t.0.opener.strand spawned) t.2 spawn)

-- its maker is a spawn
pub known_some : (opened : List Frame) (strands : List Strand) (entries : Entries) → AreMade opened strands entries → (strand : ℕ) → strand < length strands →
    0 < maker entries strand → (d : Strand) (e : Frame) →
    (get_or opened ((get_or strands strand d).maker - 1) e).opener.spawned ≡ None → ⊥
known_some opened strands entries made strand known some d e none = go (known_made opened strands entries made strand known d)
  where
    go : IsNumberAt opened (get_or strands strand d).maker (maker entries strand) → ⊥
    go (inl t) = omega (arith, t.1, some)
    go (inr t) =
        let frame_is = item_at opened (get_or strands strand d).maker t.0 e t.1 in
        let spawn = some_spawn entries made.legal strand (omega (arith, made.len, known)) some in
        spawn_opener entries t.0.opener.number spawn.0 spawn.1 t.0.opener
        (subst (λ (n : ℕ). IsSpawn entries n spawn.0 spawn.1) (sym t.2) spawn.2) (frame_at entries opened made.openers _ t.0 t.1)
        (ap (λ (f : Frame). f.opener.spawned) (sym frame_is) ∙ none)

pub begun_within : (opened : List Frame) (strands : List Strand) (entries : Entries) → AreMade opened strands entries → (x : ℕ) → Begun (control_part entries) x →
    x < length strands
begun_within opened strands entries made x begun =
    let known = begun_below (control_part entries) (ranges made.legal) x begun in omega (arith, made.len, known)

-- one place has one number
pub one_number : (opened : List Frame) (place number other : ℕ) → IsNumberAt opened place number → IsNumberAt opened place other → number ≡ other
one_number opened place number other (inl t) (inl u) = t.1 ∙ sym u.1
one_number opened place number other (inl t) (inr u) = absurd (let is = u.1.place_is in omega (arith, is, t.0))
one_number opened place number other (inr t) (inl u) = absurd (let is = t.1.place_is in omega (arith, is, u.0))
one_number opened place number other (inr t) (inr u) =
    sym t.2 ∙ (ap (λ (f : Frame). f.opener.number) (same_at opened place t.0 u.0 t.1 u.1) ∙ u.2)

-- and one number has one place
pub one_place : (entries : Entries) (opened : List Frame) → AreOpeners entries opened → (place other number : ℕ) → IsNumberAt opened place number →
    IsNumberAt opened other number → (d : Frame) → place ≡ other
one_place entries opened are place other number (inl t) (inl u) d = t.0 ∙ sym u.0
one_place entries opened are place other number (inl t) (inr u) d =
    absurd (let found = frame_at entries opened are other u.0 u.1 in let low = (number_within entries u.0.opener.number found.0 found.1).0 in omega (arith, low, t.1, u.2))
one_place entries opened are place other number (inr t) (inl u) d =
    absurd (let found = frame_at entries opened are place t.0 t.1 in let low = (number_within entries t.0.opener.number found.0 found.1).0 in omega (arith, low, u.1, t.2))
one_place entries opened are place other number (inr t) (inr u) d =
    let mine : (get_or opened t.1.index d).opener.number ≡ number = ap (λ (f : Frame). f.opener.number) (t.1.item_is d) ∙ t.2 in
    let theirs : (get_or opened u.1.index d).opener.number ≡ number = ap (λ (f : Frame). f.opener.number) (u.1.item_is d) ∙ u.2 in
    let same = same_frame entries opened are t.1.index u.1.index d t.1.within u.1.within (mine ∙ sym theirs) in
    omega (arith, same, t.1.place_is, u.1.place_is)

-- strands of two places were made by two entries
pub apart_by : (opened : List Frame) (strands : List Strand) (jumps : List Jump) (entries : Entries) → AreWays opened strands jumps entries →
    (one two : ℕ) → one < unused (control_part entries) → two < unused (control_part entries) →
    length (address (control_part entries) one) ≡ length (address (control_part entries) two) → (d : Strand) (e : Frame) →
    ((get_or strands one d).maker ≡ (get_or strands two d).maker → ⊥) → AreApart opened strands jumps entries one two
apart_by opened strands jumps entries ways one two known also level d e differ =
    let made = ways.0 in
    let one_known : one < length strands = omega (arith, known, made.len) in
    let two_known : two < length strands = omega (arith, also, made.len) in (
      ways,
      one_known,
      two_known,
      level,
      λ same.
          differ (one_place entries opened made.openers _ _ (maker entries two)
          (subst (IsNumberAt opened (get_or strands one d).maker) same (known_made opened strands entries made one one_known d))
          (known_made opened strands entries made two two_known d) e),
    )

-- and strands of one place by one
pub alike_by : (opened : List Frame) (strands : List Strand) (jumps : List Jump) (entries : Entries) → AreWays opened strands jumps entries →
    (one two : ℕ) → one < unused (control_part entries) → two < unused (control_part entries) → (d : Strand) →
    (get_or strands one d).maker ≡ (get_or strands two d).maker → maker entries one ≡ maker entries two
alike_by opened strands jumps entries ways one two known also d same =
    let made = ways.0 in
    let one_known : one < length strands = omega (arith, known, made.len) in
    let two_known : two < length strands = omega (arith, also, made.len) in
    one_number opened (get_or strands two d).maker _ _
    (subst (λ (p : ℕ). IsNumberAt opened p (maker entries one)) same (known_made opened strands entries made one one_known d))
    (known_made opened strands entries made two two_known d)
