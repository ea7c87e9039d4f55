-- The text of a report, up to its refusals and behind them.
use Rattle.std.proofs.Common.{◌≡◌, ◌+◌, ◌-◌, ℕ, Bool, true, false, List, ◌++◌, codes, decimal, length, take, append_assoc, refl, ap, ◌∙◌, arith}
use Rattle.std.proofs.Math.Seq.{take-append_seam}
use Rattle.std.proofs.lemmas.List.{length-append}
use Rattle.json.specs.Print.{escape_byte}
use Rattle.serde_json.specs.Data.{Data}
use Rattle.serde_json.specs.View.{items_of}
use Rattle.serde_json.specs.Written.{has_float, compact_text, items_text}
use Rattle.race_report.specs.ReportText.{report_with, bare_told, end_text}

start : Bool → List ℕ
start true = codes "{\"clean\":true,\"entries\":"
start false = codes "{\"clean\":false,\"entries\":"

-- what stands before the refusals
pub opening : Bool → ℕ → Data → List ℕ
opening clean entries memory =
    start clean ++ decimal entries ++ codes ",\"memory\":" ++ compact_text memory ++ codes ",\"refusals\":["

parts : (clean : Bool) (entries : ℕ) (memory : Data) (refusals : List Data) →
    compact_text (report_with clean entries memory refusals) ≡
    start clean ++ (decimal entries ++ (codes ",\"memory\":" ++ (compact_text memory ++ (codes ",\"refusals\":[" ++
    (items_text false (items_of refusals) ++ end_text clean)))))
unfolding escape_byte start
parts true entries memory refusals = refl
parts false entries memory refusals = refl

bare_parts : (clean : Bool) (entries : ℕ) (memory : Data) →
    compact_text (bare_told clean entries memory) ≡
    start clean ++ (decimal entries ++ (codes ",\"memory\":" ++ (compact_text memory ++ (codes ",\"refusals\":[" ++ codes "]}"))))
unfolding escape_byte start
bare_parts true entries memory = refl
bare_parts false entries memory = refl

regroup : (a b c d e f : List ℕ) → a ++ (b ++ (c ++ (d ++ (e ++ f)))) ≡ (a ++ b ++ c ++ d ++ e) ++ f
regroup a b c d e f = simp append_assoc

pub opened : (clean : Bool) (entries : ℕ) (memory : Data) (refusals : List Data) →
    compact_text (report_with clean entries memory refusals) ≡ opening clean entries memory ++ (items_text false (items_of refusals) ++ end_text clean)
unfolding opening
opened clean entries memory refusals =
    parts clean entries memory refusals ∙
    regroup (start clean) (decimal entries) (codes ",\"memory\":") (compact_text memory) (codes ",\"refusals\":[")
    (items_text false (items_of refusals) ++ end_text clean)

pub bare_opened : (clean : Bool) (entries : ℕ) (memory : Data) →
    compact_text (bare_told clean entries memory) ≡ opening clean entries memory ++ codes "]}"
unfolding opening
bare_opened clean entries memory =
    bare_parts clean entries memory ∙
    regroup (start clean) (decimal entries) (codes ",\"memory\":") (compact_text memory) (codes ",\"refusals\":[") (codes "]}")

-- its two brackets at the end are cut off, where it has none
pub cut_off : (text start : List ℕ) (len : ℕ) → text ≡ start ++ codes "]}" → len ≡ length text → take (len - 2) text ≡ start
cut_off text start len is count =
    let whole : length text ≡ length start + 2 = ap (λ (bytes : List ℕ). length bytes) is ∙ length-append start (codes "]}") in
    let kept : len - 2 ≡ length start = omega (arith, count, whole) in
    rw (kept, is) (take-append_seam start (codes "]}"))

-- what is told before the refusals has no float
pub bare_whole : (clean : Bool) (entries : ℕ) (memory : Data) → has_float memory ≡ false → has_float (bare_told clean entries memory) ≡ false
bare_whole clean entries memory whole = rw whole refl
