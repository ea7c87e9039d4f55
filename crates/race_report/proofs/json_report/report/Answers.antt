use Rattle.std.proofs.Common.{◌≡◌, ◌++◌, ◌∙◌, ℕ, Bool, false, List, [], codes, length, ap, sym, append_assoc}
use Rattle.std.proofs.lemmas.Result.{IfOk-weaker}
use Rattle.serde_json.specs.Data.{Data}
use Rattle.serde_json.specs.View.{view, items_of}
use Rattle.serde_json.specs.Written.{has_float, compact_text, items_text}
use Rattle.text_words.specs.declared.value.Mem.{Mem}
use Rattle.text_words.specs.Values.{Known}
use Rattle.model_histories.specs.declared.answer.Entry.{Entry}
use Rattle.program_text.specs.Programs.{contents}
use Rattle.race_report.specs.Refusals.{refusals_told}
use Rattle.race_report.specs.ReportText.{is_clean, memory_told, end_text, report_with, report_told, report_text}
use Rattle.race_report.proofs.Floats.{memory_whole}
use Rattle.race_report.proofs.CleanRuns.{told_clean, none_told}
use Rattle.race_report.proofs.json_report.report.Goals as goal

-- the parts as they were made are those of the report
parts_told : (known : Known) (entries : List Entry) (count : ℕ) (values held : List ℕ) (mems : List Mem) (clean : Bool) (memory : Data) →
    count ≡ length entries → held ≡ values → mems ≡ known.mems → clean ≡ is_clean (refusals_told known entries) → memory ≡ memory_told mems held →
    report_with clean count memory (refusals_told known entries) ≡ report_told known entries values
parts_told known entries count values held mems clean memory same_count same_values same_mems same_clean same_memory =
    let refusals = refusals_told known entries in
    let cells = same_memory ∙ ap (λ (ms : List Mem). memory_told ms held) same_mems ∙ ap (λ (vs : List ℕ). memory_told known.mems vs) same_values in
    ap (λ (c : Bool). report_with c count memory refusals) same_clean ∙
    ap (λ (n : ℕ). report_with (is_clean refusals) n memory refusals) same_count ∙
    ap (λ (m : Data). report_with (is_clean refusals) (length entries) m refusals) cells

pub returns-then-whole : goal.returns-then-whole
returns-then-whole g c =
    let known = (contents c.args.program.now).known in
    let entries = c.args.whole.now.entries.items in
    let clean = c.args.whole.now.clean in
    let count = c.len.result in
    let memory = view c.in_ok-memory.memory in
    let start = c.in_ok-text.text.items in
    let told : report_with clean count memory (refusals_told known entries) ≡ report_told known entries c.args.whole.now.memory.items =
    parts_told known entries count c.args.whole.now.memory.items c.as_slice-2.result.now c.as_slice.result.now clean memory
    c.len.ensures c.as_slice-2.ensures.value c.as_slice.ensures (told_clean known entries clean c.requires.clean) c.in_ok-memory.ensures in
    let none : [] ≡ refusals_told known entries = none_told known entries clean c.requires.clean c.if-whole.true in
    let ended : c.extend_from_slice.new.self.items ≡ start ++ (codes "]" ++ end_text clean) =
    c.in_ok-extend_from_slice.ensures.items ∙ ap (λ (is : Bool). start ++ (codes "]" ++ end_text is)) (sym c.if-whole.true) in
    ended ∙ c.in_ok-text.ensures [] ∙ ap compact_text (ap (λ (refusals : List Data). report_with clean count memory refusals) none ∙ told)

pub open_text-requires : goal.open_text-requires
open_text-requires g c = ap has_float c.in_ok-memory.ensures ∙ memory_whole c.as_slice.result.now c.as_slice-2.result.now

pub returns : goal.returns
returns g c =
    let known = (contents c.args.program.now).known in
    let entries = c.args.whole.now.entries.items in
    let clean = c.args.whole.now.clean in
    let count = c.len.result in
    let memory = view c.in_ok-memory.memory in
    let start = c.in_ok-text.text.items in
    let told : report_with clean count memory (refusals_told known entries) ≡ report_told known entries c.args.whole.now.memory.items =
    parts_told known entries count c.args.whole.now.memory.items c.as_slice-2.result.now c.as_slice.result.now clean memory
    c.len.ensures c.as_slice-2.ensures.value c.as_slice.ensures (told_clean known entries clean c.requires.clean) c.in_ok-memory.ensures in
    let refusals = refusals_told known entries in
    let joined : (text : List ℕ) → text ≡ (start ++ items_text false (items_of refusals)) ++ codes "}" →
    text ≡ report_text known entries c.args.whole.now.memory.items =
    λ text is. is ∙ ap (λ (clear : Bool). (start ++ items_text false (items_of refusals)) ++ end_text clear) (sym c.if-whole.false) ∙
    append_assoc start (items_text false (items_of refusals)) (end_text clean) ∙ c.in_ok-text.ensures refusals ∙ ap compact_text told in
    IfOk-weaker c.push_refusals.result _ _ (λ text is. joined text.items is) c.push_refusals.ensures
