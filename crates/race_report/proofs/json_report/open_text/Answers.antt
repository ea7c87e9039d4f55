use Rattle.std.proofs.Common.{◌≡◌, ◌++◌, ℕ, List, codes, length, false, ap, sym, ◌∙◌, rules}
use Rattle.serde_json.specs.View.{view, items_of}
use Rattle.serde_json.specs.Written.{has_float, compact_text, items_text}
use Rattle.race_report.specs.ReportText.{end_text}
use Rattle.race_report.proofs.ReportTexts.{opening, opened, bare_opened, cut_off, bare_whole}
use Rattle.race_report.proofs.json_report.open_text.Goals as goal

pub returns : goal.returns
returns c refusals =
    let clean = c.args.clean in
    let entries = c.args.entries in
    let memory = view c.args.memory in
    let bare = c.in_ok-bare_value.ensures in
    let whole : has_float (view c.in_ok-bare_value.field-0) ≡ false = ap has_float bare ∙ bare_whole clean entries memory c.requires in
    let text : c.in_ok-text.text.items ≡ opening clean entries memory ++ codes "]}" =
    c.in_ok-text.ensures.text whole ∙ ap compact_text bare ∙ bare_opened clean entries memory in
    let count : c.len.result ≡ length c.in_ok-text.text.items = search rules in
    let kept = c.truncate.ensures.items ∙ cut_off c.in_ok-text.text.items (opening clean entries memory) c.len.result text count in
    ap (λ (start : List ℕ). start ++ (items_text false (items_of refusals) ++ end_text clean)) kept ∙ sym (opened clean entries memory refusals)
