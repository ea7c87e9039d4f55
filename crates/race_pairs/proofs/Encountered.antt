-- How the strands of a pair came about.
use Rattle.std.proofs.Common.{◌≡◌, ◌↔◌, ℕ, zero, suc, ◌-◌, ◌≤◌, List, [], ◌++◌, length, get_or, take, drop, reverse, Option, Some, None, refl, sym, ap, ◌∙◌, subst, arith}
use Rattle.std.specs.Prelude.{IfSome, IsSome, MatchOption, unwrap_or, option_and_then}
use Rattle.std.specs.Option.{option_map}
use Rattle.std.proofs.lemmas.Option.{slice_get_within, get_or_from_slice_get}
use Rattle.std.proofs.lemmas.List.{length-reverse, length-take-le, reverse-append, take-append-drop}
use Rattle.model_accesses.specs.declared.asked.Asked.{Asked}
use Rattle.model_accesses.specs.Asking.{access_asked}
use Rattle.model_strands.specs.Strands.{Begun}
use Rattle.model_strands.specs.Dag.{IsParallel}
use Rattle.model_histories.specs.declared.answer.Entry.{Entry}
use Rattle.model_histories.specs.Entries.{Entries, control_part}
use Rattle.model_histories.specs.Shapes.{Shape}
use Rattle.model_histories.specs.Legal.{IsLegal}
use Rattle.race_pairs.specs.declared.lineage.Parting.{Parting}
use Rattle.race_pairs.specs.declared.lineage.OpenSpawn.{OpenSpawn}
use Rattle.race_pairs.specs.Frames.{frames}
use Rattle.race_pairs.specs.Lineages.{IsLineage, AreBegun}
use Rattle.race_pairs.specs.Partings.{IsParting}
use Rattle.race_pairs.specs.OpenSpawns.{IsOutstanding}
use Rattle.race_pairs.proofs.Asked.{told_begun}
use Rattle.race_pairs.specs.declared.refusal.Reason.{Reason}
use Rattle.race_pairs.specs.declared.refusal.Reason.TheVariants.{ViewRead}
use Rattle.race_pairs.specs.declared.refusal.Side.{Side}
use Rattle.race_pairs.specs.declared.race.Race.{Race}
use Rattle.race_pairs.specs.declared.digest.Digest.{Digest}
use Rattle.race_pairs.specs.Refusals.{entry_at, side_of, strand_at, access_at, IsSideAt}
use Rattle.race_pairs.specs.Kept.{IsRace}
use Rattle.race_pairs.specs.Digests.{IsDigest}
use Rattle.race_pairs.specs.Encounters.{chain_at, strands_of, PartAt, IsOpenBy, IsOpenAt, IsRaceOf, IsMet}

-- ---- strands

side_strand : (one : Entry) (side : Side) → side_of one ≡ Some side → one.request.strand ≡ side.strand
side_strand one side e = by (access_asked one.request.act) e
  where
    by : (found : Option Asked) → option_map (λ (asked : Asked). record { strand = one.request.strand; kind = asked.kind }) found ≡ Some side →
        one.request.strand ≡ side.strand
    by None f = absurd (cc)
    by (Some asked) f = ap (λ (o : Option Side). (unwrap_or o side).strand) f

pub entry_there : (told : List Entry) (number : ℕ) (side : Side) → access_at told number ≡ Some side →
    (one : Entry) × (entry_at told number ≡ Some one) × (one.request.strand ≡ side.strand)
entry_there told number side e = by (entry_at told number) refl e
  where
    by : (found : Option Entry) → entry_at told number ≡ found → option_and_then side_of found ≡ Some side →
        (one : Entry) × (entry_at told number ≡ Some one) × (one.request.strand ≡ side.strand)
    by None at f = absurd (cc)
    by (Some one) at f = (one, at, side_strand one side f)

pub strand_there : (told : List Entry) (number : ℕ) (side : Side) → access_at told number ≡ Some side → strand_at told number ≡ Some side.strand
strand_there told number side e =
    let t = entry_there told number side e in
    ap (option_map (λ (entry : Entry). entry.request.strand)) t.1 ∙ ap Some t.2

pub begun_there : (told : List Entry) → (shape : Shape) × IsLegal shape (reverse told) → (number : ℕ) (side : Side) → access_at told number ≡ Some side →
    Begun (control_part (reverse told)) side.strand
begun_there told legal zero side e = absurd (let none : access_at told zero ≡ None = refl in cc)
begun_there told legal (suc before) side e =
    let t = entry_there told (suc before) side e in
    let within = slice_get_within told before t.0 t.1 in
    let is : get_or told before t.0 ≡ t.0 = get_or_from_slice_get told before t.0 t.0 t.1 in
    subst (Begun (control_part (reverse told))) (ap (λ (x : Entry). x.request.strand) is ∙ t.2) (told_begun legal.0 told legal.1 before t.0 within)

pub begun_both : (told : List Entry) (digest : Digest) (race : Race) (side : Side) → IsRaceOf told digest race → race.witness ≡ Some side →
    AreBegun digest.lineage (reverse told) race.refused.strand side.strand
begun_both told digest race side both e = (
  both.0.lineage,
  begun_there told both.0.legal race.pair.first race.refused both.1.refused,
  begun_there told both.0.legal race.pair.witness side (subst (IsSideAt told race.pair.witness) e both.1.witness),
)

strands_none : (told : List Entry) (race : Race) → IsRace told (length told) race → race.witness ≡ None → strands_of told race.pair ≡ None
strands_none told race r e =
    let zero_is : race.pair.witness ≡ 0 = subst (IsSideAt told race.pair.witness) e r.witness in
    let one = strand_there told race.pair.first race.refused r.refused in
    ap (option_and_then (λ refused. option_map (λ witness. (refused, witness)) (strand_at told race.pair.witness))) one ∙
    ap (λ (n : ℕ). option_map (λ witness. (race.refused.strand, witness)) (strand_at told n)) zero_is

strands_both : (told : List Entry) (race : Race) (side : Side) → IsRace told (length told) race → race.witness ≡ Some side →
    strands_of told race.pair ≡ Some (race.refused.strand, side.strand)
strands_both told race side r e =
    let one = strand_there told race.pair.first race.refused r.refused in
    let two = strand_there told race.pair.witness side (subst (IsSideAt told race.pair.witness) e r.witness) in
    ap (option_and_then (λ refused. option_map (λ witness. (refused, witness)) (strand_at told race.pair.witness))) one ∙
    ap (option_map (λ witness. (race.refused.strand, witness))) two

-- ---- where they part

abbrev no_parting : Option Parting
no_parting = None

abbrev no_spawn : Option OpenSpawn
no_spawn = None

pub part_none : (told : List Entry) (race : Race) → IsRace told (length told) race → race.witness ≡ None → PartAt told race.pair None
part_none told race r e =
    subst (λ (o : Option (ℕ × ℕ)). MatchOption o (no_parting ≡ None)
    (λ strands. IfSome no_parting (IsParting (reverse told) strands.0 strands.1) × (IsSome no_parting ↔ IsParallel (control_part (reverse told)) strands.0 strands.1)))
    (sym (strands_none told race r e)) refl

pub part_some : (told : List Entry) (race : Race) (side : Side) (found : Option Parting) → IsRace told (length told) race → race.witness ≡ Some side →
    IfSome found (IsParting (reverse told) race.refused.strand side.strand) →
    (IsSome found ↔ IsParallel (control_part (reverse told)) race.refused.strand side.strand) → PartAt told race.pair found
part_some told race side found r e parts found_where =
    subst (λ (o : Option (ℕ × ℕ)). MatchOption o (found ≡ None)
    (λ strands. IfSome found (IsParting (reverse told) strands.0 strands.1) × (IsSome found ↔ IsParallel (control_part (reverse told)) strands.0 strands.1)))
    (sym (strands_both told race side r e)) (parts, found_where)

-- ---- which spawn is outstanding

pub open_none : (told : List Entry) (race : Race) → IsRace told (length told) race → race.pair.lines.reason ≡ ViewRead → race.witness ≡ None →
    IsOpenAt told race.pair None
open_none told race r view e =
    subst (λ (reason : Reason). IsOpenBy reason told race.pair None) (sym view)
    (subst (λ (o : Option (ℕ × ℕ)). MatchOption o (no_spawn ≡ None) (λ strands. IfSome no_spawn (IsOutstanding (reverse told) strands.1 strands.0)))
    (sym (strands_none told race r e)) refl)

pub open_some : (told : List Entry) (race : Race) (side : Side) (found : Option OpenSpawn) → IsRace told (length told) race → race.pair.lines.reason ≡ ViewRead →
    race.witness ≡ Some side → IfSome found (IsOutstanding (reverse told) side.strand race.refused.strand) → IsOpenAt told race.pair found
open_some told race side found r view e outstanding =
    subst (λ (reason : Reason). IsOpenBy reason told race.pair found) (sym view)
    (subst (λ (o : Option (ℕ × ℕ)). MatchOption o (found ≡ None) (λ strands. IfSome found (IsOutstanding (reverse told) strands.1 strands.0)))
    (sym (strands_both told race side r e)) outstanding)

-- ---- what encloses them

pub chain_some : (told : List Entry) (digest : Digest) (number : ℕ) (side : Side) (chain : List ℕ) → IsDigest told digest → access_at told number ≡ Some side →
    ((later earlier : Entries) → IsLineage digest.lineage (later ++ earlier) → number ≡ suc (length earlier) → chain ≡ frames earlier side.strand) →
    chain ≡ chain_at told number
chain_some told digest zero side chain is e gives = absurd (let none : access_at told zero ≡ None = refl in cc)
chain_some told digest (suc before) side chain is e gives =
    let t = entry_there told (suc before) side e in
    let within = slice_get_within told before t.0 t.1 in
    let whole : reverse told ≡ reverse (drop before told) ++ reverse (take before told) =
    ap reverse (sym (take-append-drop before told)) ∙ reverse-append (take before told) (drop before told) in
    let le : before ≤ length told = omega (arith, within) in
    let long : length (reverse (take before told)) ≡ before = length-reverse (take before told) ∙ length-take-le before told le in
    let back : suc before - 1 ≡ before = omega arith in
    gives (reverse (drop before told)) (reverse (take before told)) (subst (IsLineage digest.lineage) whole is.lineage) (ap suc (sym long)) ∙
    (ap (frames (reverse (take before told))) (sym t.2) ∙
    (ap (λ (n : ℕ). frames (reverse (take n told)) t.0.request.strand) (sym back) ∙
    sym (ap (λ (o : Option Entry). unwrap_or (option_map (λ entry. frames (reverse (take (suc before - 1) told)) entry.request.strand) o) []) t.1)))

pub chain_none : (told : List Entry) (number : ℕ) → number ≡ 0 → [] ≡ chain_at told number
chain_none told number e = ap (chain_at told) (sym e)

-- ---- all of it

pub met : (told : List Entry) (digest : Digest) (race : Race) (parting : Option Parting) (chain witness_chain : List ℕ) → IsRaceOf told digest race →
    PartAt told race.pair parting → chain ≡ chain_at told race.pair.first → witness_chain ≡ chain_at told race.pair.witness →
    IsMet told race parting chain witness_chain
met told digest race parting chain witness_chain is part one two = record {
  race_is = is.1;
  part = part;
  chain_is = one;
  witness_chain_is = two;
}
