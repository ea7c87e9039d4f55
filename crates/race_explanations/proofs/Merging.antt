-- One finding more among others.
use Rattle.std.proofs.Common.{◌≡◌, ℕ, ◌+◌, ◌<◌, List, [], ◌∷◌, ◌++◌, length, take, map, get_or, refl, sym, ap, ◌∙◌, arith, subst}
use Rattle.std.proofs.lemmas.List.{take_more, length-map, get_or-map}
use Rattle.race_pairs.specs.declared.race.Pair.{Pair}
use Rattle.race_pairs.specs.declared.race.Race.{Race}
use Rattle.race_explanations.specs.declared.finding.Finding.{Finding}
use Rattle.race_explanations.specs.Findings.{with_finding, with_findings, IsFinding, AllFound, none, more, NumberedTrace, AddsAll, AddsPairs}
use Rattle.race_pairs.specs.Pairs.{ArePairs}

with_more : (findings some : List Finding) (one : Finding) → with_findings findings (some ++ one ∷ []) ≡ with_finding (with_findings findings some) one
with_more findings [] one = refl
with_more findings (x ∷ some) one = with_more (with_finding findings x) some one

-- no pair
pub none_added : (trace : NumberedTrace) (findings : List Finding) → AddsAll trace [] findings findings
none_added trace findings = record { findings = []; all_found = none; new_is = refl }

-- one pair more
pub one_added : (trace : NumberedTrace) (pairs : List Pair) (index : ℕ) (d : Pair) (finding : Finding) (old one two : List Finding) → index < length pairs →
    AddsAll trace (take index pairs) old one → IsFinding trace.setting trace.number trace.entries (get_or pairs index d) finding → two ≡ with_finding one finding →
    AddsAll trace (take (index + 1) pairs) old two
one_added trace pairs index d finding old one two below before is new = record {
  findings = before.findings ++ finding ∷ [];
  all_found = subst (λ (first : List Pair). AllFound trace.setting trace.number trace.entries first (before.findings ++ finding ∷ [])) (sym (take_more pairs index d below))
      (more (get_or pairs index d) finding before.all_found is);
  new_is = new ∙ ap (λ l. with_finding l finding) before.new_is ∙ sym (with_more old before.findings finding);
}

-- one pair more of those of races
pub race_added : (trace : NumberedTrace) (races : List Race) (index : ℕ) (d : Race) (finding : Finding) (old one two : List Finding) → index < length races →
    AddsAll trace (take index (map (λ (race : Race). race.pair) races)) old one → IsFinding trace.setting trace.number trace.entries (get_or races index d).pair finding →
    two ≡ with_finding one finding → AddsAll trace (take (index + 1) (map (λ (race : Race). race.pair) races)) old two
race_added trace races index d finding old one two below before is new =
    one_added trace (map (λ (race : Race). race.pair) races) index d.pair finding old one two (omega (arith, below, length-map races (λ (race : Race). race.pair))) before
    (subst (λ (pair : Pair). IsFinding trace.setting trace.number trace.entries pair finding) (sym (get_or-map (λ (race : Race). race.pair) races index d d.pair below)) is) new

-- the first so many pairs
pub pairs_added : (trace : NumberedTrace) (most : ℕ) (pairs front : List Pair) (old new : List Finding) (count : ℕ) → ArePairs trace.entries pairs →
    front ≡ take most pairs → count ≡ length pairs → AddsAll trace front old new → AddsPairs trace most old new count
pairs_added trace most pairs front old new count are is count_is adds = record {
  pairs = pairs;
  are_pairs = are;
  count_is = count_is;
  findings = adds.findings;
  all_found = subst (λ (some : List Pair). AllFound trace.setting trace.number trace.entries some adds.findings) is adds.all_found;
  new_is = adds.new_is;
}
