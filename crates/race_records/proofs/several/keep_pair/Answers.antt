use Rattle.std.proofs.Common.{List, ap₂}
use Rattle.race_explanations.specs.declared.finding.Finding.{Finding}
use Rattle.race_records.specs.Races.{RaceParts}
use Rattle.race_records.specs.RaceViews.{race_parts}
use Rattle.race_records.proofs.Keeping.{on_ok_both}
use Rattle.race_records.proofs.several.keep_pair.Goals as goal

pub returns : goal.returns
returns c =
    on_ok_both c.keep.result
    (λ finding race entries is. record {
      finding = c.in_ok-finding.finding;
      is_finding = c.in_ok-finding.ensures entries is;
      race = race_parts c.in_ok-told.told;
      is_race = c.in_ok-told.ensures entries is;
      new_is = ap₂ (λ (findings : List Finding) (races : List RaceParts). record { findings = findings; races = races }) finding race;
    })
    c.keep.ensures.findings c.keep.ensures.races
