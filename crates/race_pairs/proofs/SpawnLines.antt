-- The line of the spawn at which the strands of a refusal and of its witness part: there is one answer.
use Rattle.std.proofs.Common.{◌≡◌, inl, inr, ℕ, zero, suc, ◌≤◌, List, [], ◌∷◌, ◌++◌, length, get_or, take, drop, map, reverse, append-nil, Option, Some, None, refl, sym, ap, ◌∙◌, subst, arith}
use Rattle.std.specs.Prelude.{◌↔◌, IfSome, IsSome, MatchOption, option_and_then}
use Rattle.std.specs.Option.{option_map}
use Rattle.std.proofs.lemmas.Bool.{false≢true}
use Rattle.std.proofs.lemmas.Option.{slice_get_within, get_or_from_slice_get}
use Rattle.std.proofs.lemmas.List.{length-reverse, reverse-append, take-append-drop, take-take}
use Rattle.model_strands.specs.Strands.{Begun}
use Rattle.model_strands.specs.Dag.{IsParallel}
use Rattle.model_histories.specs.declared.answer.Entry.{Entry}
use Rattle.model_histories.specs.Entries.{Entries, control_part}
use Rattle.model_histories.specs.Shapes.{Shape}
use Rattle.model_histories.specs.Legal.{IsLegal}
use Rattle.race_gate.proofs.Races.{legal-part}
use Rattle.race_pairs.specs.declared.lineage.Parting.{Parting}
use Rattle.race_pairs.specs.declared.refusal.Refusal.{Refusal}
use Rattle.race_pairs.specs.declared.refusal.Side.{Side}
use Rattle.race_pairs.specs.declared.sighting.Sighting.{Sighting}
use Rattle.race_pairs.specs.Partings.{IsParting}
use Rattle.race_pairs.specs.Refusals.{entry_at, line_at, line_in, refusal_at, strand_at, IsSideAt}
use Rattle.race_pairs.specs.PairKeys.{PartOn, strands_at, IsSpawnLine, HasSpawn}
use Rattle.race_pairs.specs.Lineages.{Kept, AreBegun}
use Rattle.race_pairs.specs.Kept.{IsSeen}
use Rattle.race_pairs.proofs.Asked.{told_begun}
use Rattle.race_pairs.proofs.Climbing.{number_within}
use Rattle.race_pairs.proofs.Forking.{one_parting, parting_parallel, some_parting}
use Rattle.race_pairs.proofs.Encountered.{strand_there, begun_there}
use Rattle.race_pairs.proofs.Counted.{single_lines, IsSingle}
use Rattle.race_pairs.proofs.Witnesses.{line_same}

abbrev pub SomeLegal : List Entry → Type 0
SomeLegal told = (shape : Shape) × IsLegal shape (reverse told)

-- ---- the strands have begun

strand_begun : (told : List Entry) → SomeLegal told → (number x : ℕ) → strand_at told number ≡ Some x → Begun (control_part (reverse told)) x
strand_begun told legal zero x e = absurd (let none : strand_at told zero ≡ None = refl in cc)
strand_begun told legal (suc before) x e = by (entry_at told (suc before)) refl e
  where
    by : (found : Option Entry) → entry_at told (suc before) ≡ found → option_map (λ (entry : Entry). entry.request.strand) found ≡ Some x →
        Begun (control_part (reverse told)) x
    by None at f = absurd (cc)
    by (Some one) at f =
        let within = slice_get_within told before one at in
        let is : get_or told before one ≡ one = get_or_from_slice_get told before one one at in
        let strand : one.request.strand ≡ x = cc in
        subst (Begun (control_part (reverse told))) (ap (λ (e : Entry). e.request.strand) is ∙ strand) (told_begun legal.0 told legal.1 before one within)

abbrev with_refused : ℕ → Option ℕ → Option (ℕ × ℕ)
with_refused refused found = option_map (λ witness. (refused, witness)) found

abbrev with_strand : Option ℕ → Option ℕ → Option (ℕ × ℕ)
with_strand found witness = option_and_then (λ refused. with_refused refused witness) found

abbrev with_refusal : List Entry → ℕ → Option Refusal → Option (ℕ × ℕ)
with_refusal told number found = option_and_then (λ refusal. with_strand (strand_at told number) (strand_at told refusal.witness)) found

some_pair : {a b : ℕ × ℕ} → Some a ≡ Some b → a ≡ b
some_pair e = cc

both_begun : (told : List Entry) → SomeLegal told → (number x y : ℕ) → strands_at told number ≡ Some (x, y) →
    Begun (control_part (reverse told)) x × Begun (control_part (reverse told)) y
both_begun told legal number x y e = by (refusal_at told number) e
  where
    by : (found : Option Refusal) → with_refusal told number found ≡ Some (x, y) →
        Begun (control_part (reverse told)) x × Begun (control_part (reverse told)) y
    by None f = absurd (cc)
    by (Some refusal) f = of_strand (strand_at told number) refl f
      where
        of_strand : (found : Option ℕ) → strand_at told number ≡ found → with_strand found (strand_at told refusal.witness) ≡ Some (x, y) →
            Begun (control_part (reverse told)) x × Begun (control_part (reverse told)) y
        of_strand None at g = absurd (cc)
        of_strand (Some refused) at g = of_witness (strand_at told refusal.witness) refl g
          where
            of_witness : (found : Option ℕ) → strand_at told refusal.witness ≡ found → with_refused refused found ≡ Some (x, y) →
                Begun (control_part (reverse told)) x × Begun (control_part (reverse told)) y
            of_witness None there h = absurd (cc)
            of_witness (Some witness) there h =
                let one : refused ≡ x = ap (λ (p : ℕ × ℕ). p.0) (some_pair h) in
                let two : witness ≡ y = ap (λ (p : ℕ × ℕ). p.1) (some_pair h) in
                (strand_begun told legal number x (at ∙ ap Some one), strand_begun told legal refusal.witness y (there ∙ ap Some two))

-- ---- one line

one_line : (told : List Entry) → SomeLegal told → (number : ℕ) (a b : Option ℕ) → IsSpawnLine told number a → IsSpawnLine told number b → a ≡ b
one_line told legal number a b one other = by (strands_at told number) refl one other
  where
    same : (x y : ℕ) → Begun (control_part (reverse told)) x → Begun (control_part (reverse told)) y → (a b : Option ℕ) → PartOn told x y a → PartOn told x y b → a ≡ b
    same x y bx by_begun None None p q = refl
    same x y bx by_begun None (Some line) p q = absurd (p q.0 q.1)
    same x y bx by_begun (Some line) None p q = absurd (q p.0 p.1)
    same x y bx by_begun (Some line) (Some other_line) p q =
        ap Some (sym p.2 ∙ (ap (line_at told) (one_parting (reverse told) (legal-part legal.0 (reverse told) legal.1) x y bx by_begun p.0 q.0 p.1 q.1) ∙ q.2))

    by : (found : Option (ℕ × ℕ)) → strands_at told number ≡ found → MatchOption found (a ≡ None) (λ strands. PartOn told strands.0 strands.1 a) →
        MatchOption found (b ≡ None) (λ strands. PartOn told strands.0 strands.1 b) → a ≡ b
    by None at p q = p ∙ sym q
    by (Some (x, y)) at p q = let begun = both_begun told legal number x y at in same x y begun.0 begun.1 a b p q

-- ---- some line

abbrev no_line : Option ℕ
no_line = None

pub some_line : (told : List Entry) → SomeLegal told → (number : ℕ) → (spawn : Option ℕ) × IsSpawnLine told number spawn
some_line told legal number = by (strands_at told number) refl
  where
    found_line : (x y : ℕ) → strands_at told number ≡ Some (x, y) → (spawn : Option ℕ) → PartOn told x y spawn → IsSpawnLine told number spawn
    found_line x y at spawn parts =
        subst (λ (o : Option (ℕ × ℕ)). MatchOption o (spawn ≡ None) (λ strands. PartOn told strands.0 strands.1 spawn)) (sym at) parts

    by : (found : Option (ℕ × ℕ)) → strands_at told number ≡ found → (spawn : Option ℕ) × IsSpawnLine told number spawn
    by None at = (None, subst (λ (o : Option (ℕ × ℕ)). MatchOption o (no_line ≡ None) (λ strands. PartOn told strands.0 strands.1 no_line)) (sym at) refl)
    by (Some (x, y)) at =
        let begun = both_begun told legal number x y at in
        elim (some_parting (reverse told) (legal-part legal.0 (reverse told) legal.1) x y begun.0 begun.1) [
          | inl t ↦ (Some (line_at told t.0.entry), found_line x y at (Some (line_at told t.0.entry)) (t.0, t.1, refl))
          | inr never ↦ (None, found_line x y at None never)
        ]

-- ---- in a history that goes on

legal_front : (shape : Shape) (later earlier : Entries) → IsLegal shape (later ++ earlier) → IsLegal shape earlier
legal_front shape [] earlier l = l
legal_front shape (entry ∷ later) earlier l = legal_front shape later earlier l.0

pub legal_take : (told : List Entry) (number : ℕ) → SomeLegal told → SomeLegal (take number told)
legal_take told number legal =
    let whole : reverse told ≡ reverse (drop number told) ++ reverse (take number told) =
    ap reverse (sym (take-append-drop number told)) ∙ reverse-append (take number told) (drop number told) in
    (legal.0, legal_front legal.0 (reverse (drop number told)) (reverse (take number told)) (subst (IsLegal legal.0) whole legal.1))

-- each entry up to the last of a legal history has at most one key
pub single_keys : (told : List Entry) (bound : ℕ) → SomeLegal (take bound told) → IsSingle told bound
single_keys told bound legal number le one other h k =
    let short : SomeLegal (take number told) =
    subst SomeLegal (take-take number bound told le) (legal_take (take bound told) number legal) in
    let spawns : one.spawn ≡ other.spawn = one_line (take number told) short number one.spawn other.spawn h.1 k.1 in
    let lines_are = single_lines told number one.lines other.lines h.0 k.0 in
    ap (λ lines. record { lines = lines; spawn = one.spawn }) lines_are ∙ ap (λ (s : Option ℕ). record { lines = other.lines; spawn = s }) spawns

-- ---- the line of two strands

pub part_nowhere : (told : List Entry) (s o : ℕ) (found : Option Parting) → found ≡ None → (IsSome found ↔ IsParallel (control_part (reverse told)) s o) →
    (p : Parting) → IsParting (reverse told) s o p → ⊥
part_nowhere told s o found is where_found p parts =
    false≢true (subst IsSome is (where_found.1 (parting_parallel (reverse told) s o p parts)))

pub part_there : (told : List Entry) (lines : List ℕ) (s o : ℕ) (found : Option Parting) (p : Parting) → found ≡ Some p →
    IfSome found (IsParting (reverse told) s o) → lines ≡ map (λ (entry : Entry). entry.request.line) told → (here : ℕ) → here ≡ line_in lines p.entry →
    PartOn told s o (Some here)
part_there told lines s o found p is parts_if are here here_is = (p, parts, sym line ∙ sym here_is)
  where
    parts : IsParting (reverse told) s o p
    parts = subst (λ (x : Option Parting). IfSome x (IsParting (reverse told) s o)) is parts_if

    low : p.entry ≤ length (reverse told)
    low = (number_within (reverse told) p.entry parts.spawn.0 parts.spawn.1).1

    short : p.entry ≤ length told
    short = omega (arith, low, length-reverse told)

    line : line_in lines p.entry ≡ line_at told p.entry
    line = ap (λ (xs : List ℕ). line_in xs p.entry) are ∙
        (line_same told [] p.entry short ∙ ap (λ (xs : List Entry). line_at xs p.entry) (append-nil told))

-- ---- the line of a sighting

module _ (told : List Entry) (last : ℕ) (lineage : Kept) (lines : List ℕ) (sighting : Sighting) (is : IsSeen told last lineage lines sighting) where
  seen_entries : List Entry
  seen_entries = take (suc last) told

  pub side_begun : (side : Side) → sighting.witness ≡ Some side → AreBegun lineage (reverse (take (suc last) told)) sighting.refused.strand side.strand
  side_begun side e = (
    is.lineage_is,
    begun_there (take (suc last) told) is.legal (suc last) sighting.refused is.seen.refused_is,
    begun_there (take (suc last) told) is.legal is.seen.refusal.witness side (subst (IsSideAt (take (suc last) told) is.seen.refusal.witness) e is.seen.witness_is),
  )

  strands_by : (found : Option ℕ) → strand_at (take (suc last) told) is.seen.refusal.witness ≡ found →
      strands_at (take (suc last) told) (suc last) ≡ with_refused sighting.refused.strand found
  strands_by found at =
      let one = strand_there (take (suc last) told) (suc last) sighting.refused is.seen.refused_is in
      ap (λ (o : Option Refusal). with_refusal (take (suc last) told) (suc last) o) is.seen.told_here ∙
      (ap (λ (o : Option ℕ). with_strand o (strand_at (take (suc last) told) is.seen.refusal.witness)) one ∙
      ap (λ (o : Option ℕ). with_refused sighting.refused.strand o) at)

  pub line_none : sighting.witness ≡ None → (spawn : Option ℕ) → spawn ≡ None → HasSpawn told (suc last) spawn
  line_none e spawn none =
      let zero_is : is.seen.refusal.witness ≡ 0 = subst (IsSideAt (take (suc last) told) is.seen.refusal.witness) e is.seen.witness_is in
      subst (λ (o : Option (ℕ × ℕ)). MatchOption o (spawn ≡ None) (λ strands. PartOn (take (suc last) told) strands.0 strands.1 spawn))
      (sym (strands_by None (ap (strand_at (take (suc last) told)) zero_is))) none

  pub line_with : (side : Side) → sighting.witness ≡ Some side → (spawn : Option ℕ) → PartOn (take (suc last) told) sighting.refused.strand side.strand spawn →
      HasSpawn told (suc last) spawn
  line_with side e spawn parts =
      let there = strand_there (take (suc last) told) is.seen.refusal.witness side
      (subst (IsSideAt (take (suc last) told) is.seen.refusal.witness) e is.seen.witness_is) in
      subst (λ (o : Option (ℕ × ℕ)). MatchOption o (spawn ≡ None) (λ strands. PartOn (take (suc last) told) strands.0 strands.1 spawn))
      (sym (strands_by (Some side.strand) there)) parts
