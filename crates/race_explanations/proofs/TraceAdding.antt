-- What is found in one trace more.
use Rattle.std.proofs.Common.{◌≡◌, ℕ, List, ◌++◌, length, refl, ap, subst, ◌∙◌}
use Rattle.std.proofs.lemmas.List.{length-map}
use Rattle.model_histories.specs.declared.answer.Entry.{Entry}
use Rattle.race_pairs.specs.Refusals.{refusals_among}
use Rattle.race_pairs.specs.Digests.{IsDigest}
use Rattle.race_pairs.specs.declared.digest.Digest.{Digest}
use Rattle.race_explanations.specs.declared.extent.Extent.{Extent}
use Rattle.race_explanations.specs.declared.finding.Finding.{Finding}
use Rattle.race_explanations.specs.Extents.{most_pairs}
use Rattle.race_explanations.specs.Settings.{Setting}
use Rattle.race_explanations.specs.Findings.{Found, added_up, untold_in, numbered_trace, AddsPairs, AddsTrace}

-- a trace more
pub trace_found : (extent : Extent) (most : ℕ) (file : List ℕ) (setting other : Setting) (entries : List Entry) (digest : Digest) (old : Found) (findings : List Finding)
    (untold : List ℕ) (refusals requests traces count : ℕ) → setting ≡ other → IsDigest entries digest → most ≡ most_pairs extent →
    AddsPairs (numbered_trace setting old.traces entries) most old.findings findings count → untold ≡ old.untold ++ untold_in file (most_pairs extent) count →
    refusals ≡ added_up old.refusals digest.refusals → requests ≡ added_up old.requests (length digest.lines.items) → traces ≡ added_up old.traces 1 →
    AddsTrace extent file other entries old
    (record { findings = findings; untold = untold; refusals = refusals; requests = requests; traces = traces })
trace_found extent most file setting other entries digest old findings untold refusals requests traces count same is limit found untold_is refused asked more =
    let pairs : AddsPairs (numbered_trace other old.traces entries) (most_pairs extent) old.findings findings count =
    subst (λ (m : ℕ). AddsPairs (numbered_trace other old.traces entries) m old.findings findings count) limit
    (subst (λ (s : Setting). AddsPairs (numbered_trace s old.traces entries) most old.findings findings count) same found) in
    let long : length digest.lines.items ≡ length entries = ap length is.lines ∙ length-map entries (λ (entry : Entry). entry.request.line) in
    let refused_is : refusals ≡ added_up old.refusals (refusals_among entries) = refused ∙ ap (λ n. added_up old.refusals n) is.refusals in
    let asked_is : requests ≡ added_up old.requests (length entries) = asked ∙ ap (λ n. added_up old.requests n) long in record {
      count = count;
      pairs = pairs.pairs;
      are_pairs = pairs.are_pairs;
      count_is = pairs.count_is;
      findings = pairs.findings;
      all_found = pairs.all_found;
      new_is = rw (pairs.new_is, untold_is, refused_is, asked_is, more) refl;
    }
