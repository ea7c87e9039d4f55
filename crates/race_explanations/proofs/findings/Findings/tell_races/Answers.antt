use Rattle.std.proofs.Common.{rules, ◌≡◌, ◌∙◌, ap, ap₂, min, length, take}
use Rattle.race_explanations.specs.Extents.{most_pairs, most_shown}
use Rattle.race_explanations.specs.FoundGroups.{found_groups_text}
use Rattle.race_explanations.specs.Findings.{findings_left_out}
use Rattle.text_buffers.proofs.Builders.{these, four_adds}
use Rattle.race_explanations.proofs.Telling.{first_of_all}
use Rattle.race_explanations.proofs.findings.Findings.tell_races.Goals as goal

pub returns : goal.returns
returns c =
    let list = c.args.self.now.list in
    let most = most_pairs c.args.extent in
    let front : c.split_at.result.0.now ≡ take (min (length list) c.most_pairs-most.result) list = search rules in
    four_adds _ _ _ _ _ _ _ _ _ (these _ _ _ (found_groups_text (most_shown c.args.extent) (take most list)) c.tell_groups.ensures
    (ap₂ found_groups_text c.most_shown.ensures (front ∙ first_of_all list c.most_pairs-most.result ∙ ap (λ k. take k list) c.most_pairs-most.ensures)))
    (these _ _ _ (findings_left_out most (length list)) c.push_more_pairs.ensures (search rules))
    (these _ _ _ c.args.self.now.untold.items c.push_bytes.ensures (search rules)) c.tell_summary.ensures
