-- Findings with their races, one by one.
use Rattle.std.proofs.Common.{◌≡◌, ℕ, ◌+◌, ◌<◌, List, [], ◌∷◌, ◌++◌, length, take, map, get_or, sym, subst, ap, ◌∙◌, arith}
use Rattle.std.specs.Prelude.{Result, Ok, Err, OnOk}
use Rattle.std.proofs.lemmas.List.{take_more, length-map, get_or-map}
use Rattle.model_histories.specs.declared.answer.Entry.{Entry}
use Rattle.race_pairs.specs.declared.race.Pair.{Pair}
use Rattle.race_pairs.specs.declared.race.Race.{Race}
use Rattle.race_pairs.specs.declared.digest.Digest.{Digest}
use Rattle.race_pairs.specs.Digests.{IsDigest}
use Rattle.race_explanations.specs.declared.extent.Extent.{Extent}
use Rattle.race_explanations.specs.Extents.{most_pairs}
use Rattle.race_explanations.specs.Settings.{Setting}
use Rattle.race_explanations.specs.Findings.{added_up}
use Rattle.race_pairs.specs.Pairs.{ArePairs}
use Rattle.race_records.specs.Keeping.{AddsPair}
use Rattle.race_records.specs.Several.{Kept, AddsKept, none, more, Recorded, untold_in, AddsPairs, AddsTrace}

-- what two clauses say together
pub on_ok_both : {T E P Q R : Type 0} (r : Result T E) → (P → Q → R) → OnOk r P → OnOk r Q → OnOk r R
on_ok_both (Ok value) both p q = both p q
on_ok_both (Err fault) both p q = tt

-- no pair
pub none_kept : (setting : Setting) (trace : ℕ) (entries : List Entry) (old : Kept) → AddsKept setting trace entries old [] old
none_kept setting trace entries old = none

-- one pair more
one_kept : (setting : Setting) (trace : ℕ) (entries : List Entry) (old one two : Kept) (pairs : List Pair) (index : ℕ) (d : Pair) → index < length pairs →
    AddsKept setting trace entries old (take index pairs) one → AddsPair setting trace entries one (get_or pairs index d) two →
    AddsKept setting trace entries old (take (index + 1) pairs) two
one_kept setting trace entries old one two pairs index d below before adds =
    subst (λ (first : List Pair). AddsKept setting trace entries old first two) (sym (take_more pairs index d below))
    (subst (λ (kept : Kept). AddsKept setting trace entries old (take index pairs ++ get_or pairs index d ∷ []) kept) (sym adds.new_is)
    (more (get_or pairs index d) adds.finding adds.race before adds.is_finding adds.is_race))

-- one pair more of those of races
pub race_kept : (setting : Setting) (trace : ℕ) (entries : List Entry) (old one two : Kept) (races : List Race) (index : ℕ) (d item : Race) →
    index < length races → AddsKept setting trace entries old (take index (map (λ (race : Race). race.pair) races)) one →
    item ≡ get_or races index d → AddsPair setting trace entries one item.pair two →
    AddsKept setting trace entries old (take (index + 1) (map (λ (race : Race). race.pair) races)) two
race_kept setting trace entries old one two races index d item below before is adds =
    one_kept setting trace entries old one two (map (λ (race : Race). race.pair) races) index d.pair
    (omega (arith, below, length-map races (λ (race : Race). race.pair))) before
    (subst (λ (pair : Pair). AddsPair setting trace entries one pair two)
    (ap (λ (race : Race). race.pair) is ∙ sym (get_or-map (λ (race : Race). race.pair) races index d d.pair below)) adds)

-- the first pairs of a trace
pub pairs_added : (setting : Setting) (entries : List Entry) (most : ℕ) (old new : Recorded) (pairs front : List Pair) (count : ℕ) → ArePairs entries pairs →
    front ≡ take most pairs → count ≡ length pairs → AddsKept setting old.traces entries old.kept front new.kept →
    new ≡ record old { kept = new.kept } → AddsPairs setting entries most old new count
pairs_added setting entries most old new pairs front count are is count_is adds rest = record {
  pairs = pairs;
  are_pairs = are;
  count_is = count_is;
  kept = subst (λ (some : List Pair). AddsKept setting old.traces entries old.kept some new.kept) is adds;
  rest = rest;
}

-- a trace more
pub trace_added : (extent : Extent) (most : ℕ) (file : List ℕ) (setting other : Setting) (entries : List Entry) (digest : Digest) (old mid new : Recorded) (count : ℕ) → setting ≡ other →
    IsDigest entries digest → most ≡ most_pairs extent → AddsPairs setting entries most old mid count → new.kept ≡ mid.kept →
    new.untold ≡ mid.untold ++ untold_in file (most_pairs extent) count →
    new.refusals ≡ added_up mid.refusals digest.refusals → new.requests ≡ added_up mid.requests (length digest.lines.items) →
    new.traces ≡ added_up mid.traces 1 → AddsTrace extent file other entries old new
trace_added extent most file setting other entries digest old mid new count same is limit found kept untold refusals requests traces =
    let pairs : AddsPairs other entries (most_pairs extent) old mid count =
    subst (λ (m : ℕ). AddsPairs other entries m old mid count) limit (subst (λ (s : Setting). AddsPairs s entries most old mid count) same found) in
    let long : length digest.lines.items ≡ length entries = ap length is.lines ∙ length-map entries (λ (entry : Entry). entry.request.line) in record {
      pairs = pairs.pairs;
      are_pairs = pairs.are_pairs;
      kept = subst (λ (k : Kept). AddsKept other old.traces entries old.kept (take (most_pairs extent) pairs.pairs) k) (sym kept) pairs.kept;
      untold_is = untold ∙ ap (λ (r : Recorded). r.untold ++ untold_in file (most_pairs extent) count) pairs.rest ∙ ap (λ n. old.untold ++ untold_in file (most_pairs extent) n) pairs.count_is;
      refusals_are = refusals ∙ ap (λ (r : Recorded). added_up r.refusals digest.refusals) pairs.rest ∙ ap (λ n. added_up old.refusals n) is.refusals;
      requests_are = requests ∙ ap (λ (r : Recorded). added_up r.requests (length digest.lines.items)) pairs.rest ∙ ap (λ n. added_up old.requests n) long;
      traces_are = traces ∙ ap (λ (r : Recorded). added_up r.traces 1) pairs.rest;
    }
