-- A text that means a trace: it is no program's, and the plain lines of its requests are no notes.
use Rattle.std.proofs.Common.{◌≡◌, ◌⊎◌, inl, inr, ℕ, zero, suc, ◌+◌, List, [], ◌∷◌, ◌++◌, Bool, false, Option, Some, None, cond, drop, refl, ap, sym, ◌∙◌, subst, append_assoc}
use Rattle.std.specs.Prelude.{unwrap_or, is_some}
use Rattle.std.specs.List.{All, AllByRecursion}
use Rattle.std.proofs.lemmas.List.Elements.{All-append, All-from_recursion, recursion_from_All}
use Rattle.model_accesses.specs.declared.request.Act.{Act}
use Rattle.model_accesses.specs.declared.request.Act.TheVariants as act
use Rattle.text_words.specs.declared.value.TraceLine.{TraceLine}
use Rattle.text_words.specs.Text.{lines, words, IsTextLine}
use Rattle.text_words.specs.Values.{Known, Contents}
use Rattle.trace_text.specs.Lines.{spelling, asks, operands, if_there, OfNumber, Says}
use Rattle.trace_text.specs.Grammar.{Item, Blank, Declared, Reduces, Asked, ItemMeans, LineMeans, LinesMean, LinesOfTrace, TextMeans, extended, nothing}
use Rattle.trace_text.specs.Printing.{entry_text, OfRequest, mark_of, plain_line, requests_text}
use Rattle.trace_text.specs.Plain.{IsSettled}
use Rattle.trace_text.proofs.Kept.{kept_of_text}
use Rattle.trace_text.proofs.PlainPlaces.{says_plain}
use Rattle.trace_text.proofs.PlainWords.{line_ended}
use Rattle.trace_notes.specs.declared.notes.Notes.{Notes}
use Rattle.trace_notes.specs.Lines.{Said, said_on}
use Rattle.trace_notes.specs.Notes.{AreNotes, Adds}
use Rattle.trace_notes.proofs.Formed.{comments}
use Rattle.trace_notes.proofs.Kept.{adds_none, adds_plain, are_more}
use Rattle.trace_text.specs.Traces.{contents as trace_contents}
use Rattle.command_streams.specs.declared.fault.CliFault.{CliFault}
use Rattle.command_streams.specs.declared.fault.CliFault.TheVariants.{Memory}
use Rattle.command_streams.specs.declared.kept.KeptText.{KeptText}
use Rattle.command_streams.specs.declared.kept.KeptText.TheVariants.{Plain}
use Rattle.command_streams.specs.declared.kept.PlainText.{PlainText}
use Rattle.command_streams.specs.PlainTexts.{rejoined, IsPlainText}
use Rattle.command_streams.specs.KeptTexts.{text_of, IsKept, KeepsTrace}
use Rattle.tool_commands.specs.Replays.{StopsGate}
use Rattle.tool_commands.specs.Explanations.{IsUntoldTrace, StopsTelling, StopsTellingAs}
use Rattle.tool_commands.specs.Sorts.{first_among, text_word, first_word, decided, comes_to_function, behind_header, is_program_text}

-- ---- no line of a trace begins with `func`

first_is : (line : List ℕ) (ws : List (List ℕ)) → words line ≡ ws → first_word line ≡ text_word (first_among ws)
first_is line ws is = ap (λ words. text_word (first_among words)) is

act_decides : (asked : Act) (behind : Bool) → decided (text_word (Some (spelling (asks asked)))) behind ≡ false
act_decides act.Spawn behind = refl
act_decides act.Sync behind = refl
act_decides act.Call behind = refl
act_decides act.Return behind = refl
act_decides (act.Read cell) behind = refl
act_decides (act.Write cell value) behind = refl
act_decides (act.Bump cell value) behind = refl
act_decides (act.Update reducer value) behind = refl
act_decides (act.Put reducer value) behind = refl
act_decides (act.Get reducer) behind = refl

line_decides : (at : ℕ) (before : Contents) (line : List ℕ) (item : Item) (behind : Bool) → LineMeans at before line item → behind ≡ false
    → decided (first_word line) behind ≡ false
line_decides at before line Blank behind m none = ap (λ (word : Option (List ℕ)). decided word behind) (first_is line [] m.2) ∙ none
line_decides at before line (Declared name length) behind m none =
    ap (λ (word : Option (List ℕ)). decided word behind) (first_is line _ m.2.1.1) ∙ none
line_decides at before line (Reduces name monoid) behind m none =
    ap (λ (word : Option (List ℕ)). decided word behind) (first_is line _ m.2.1.1) ∙ none
line_decides at before line (Asked asked) behind m none =
    ap (λ (word : Option (List ℕ)). decided word behind) (first_is line _ m.2.1.1.1) ∙ act_decides asked.request.act behind

lines_decide : (at : ℕ) (before : Contents) (ls : List (List ℕ)) (last : Contents) → LinesMean at before ls last → comes_to_function ls ≡ false
lines_decide at before [] last m = refl
lines_decide at before (line ∷ ls) last m =
    line_decides at before line m.0 (comes_to_function ls) m.1 (lines_decide (at + 1) (extended at before m.0) ls last m.2)

trace_decides : (ls : List (List ℕ)) (trace : Contents) → LinesOfTrace ls trace → comes_to_function (behind_header ls) ≡ false
trace_decides [] trace m = absurd m
trace_decides (header ∷ ls) trace m = lines_decide 2 (nothing trace.known.version) ls trace m.1

pub no_program : (text : List ℕ) (trace : Contents) → TextMeans text trace → is_program_text text ≡ false
no_program text trace m = trace_decides (lines text) trace m

-- ---- each request stands in a line that asks for it

abbrev IsAsked : Known → TraceLine → Type 0
IsAsked known asked = (at : ℕ) × (ws : List (List ℕ)) × ItemMeans at known ws (Asked asked)

none_asked : (known : Known) (asked : List TraceLine) → asked ≡ [] → All (IsAsked known) asked
none_asked known asked none = subst (λ (some : List TraceLine). All (IsAsked known) some) (sym none) (All-from_recursion (IsAsked known) [] tt)

asked_extended : (at : ℕ) (before : Contents) (line : List ℕ) (item : Item) → All (IsAsked before.known) before.lines → LineMeans at before line item
    → All (IsAsked (extended at before item).known) (extended at before item).lines
asked_extended at before line Blank all m = all
asked_extended at before line (Declared name length) all m = none_asked _ before.lines m.3
asked_extended at before line (Reduces name monoid) all m = none_asked _ before.lines m.3
asked_extended at before line (Asked asked) all m =
    All-append (IsAsked before.known) before.lines (asked ∷ []) all (All-from_recursion (IsAsked before.known) (asked ∷ []) ((at, words line, m.2), tt))

asked_lines : (at : ℕ) (before : Contents) (ls : List (List ℕ)) (last : Contents) → All (IsAsked before.known) before.lines → LinesMean at before ls last
    → All (IsAsked last.known) last.lines
asked_lines at before [] last all m = subst (λ (c : Contents). All (IsAsked c.known) c.lines) (sym m) all
asked_lines at before (line ∷ ls) last all m =
    asked_lines (at + 1) (extended at before m.0) ls last (asked_extended at before line m.0 all m.1) m.2

asked_by : (ls : List (List ℕ)) (trace : Contents) → LinesOfTrace ls trace → All (IsAsked trace.known) trace.lines
asked_by [] trace m = absurd m
asked_by (header ∷ ls) trace m = asked_lines 2 (nothing trace.known.version) ls trace (none_asked (nothing trace.known.version).known [] refl) m.1

-- ---- and its plain line is no note

mark_by : (asked : TraceLine) (at : ℕ) (mark : Option ℕ) → asked.request.line ≡ unwrap_or mark at → asked.marked ≡ is_some mark → mark_of asked ≡ mark
mark_by asked at None e f = ap (λ (b : Bool). cond b (Some asked.request.line) None) f
mark_by asked at (Some n) e f = ap (λ (b : Bool). cond b (Some asked.request.line) None) f ∙ ap Some e

says_nothing : (line word : List ℕ) (ws : List (List ℕ)) (said : Option Said) → words line ≡ word ∷ ws → said_on line ≡ said → said_on line ≡ None
says_nothing line word ws None some says = says
says_nothing line word ws (Some note) some says = let none = (comments line note says).1 in absurd (cc)

abbrev IsQuiet : Known → TraceLine → Type 0
IsQuiet known asked = IsTextLine (entry_text known (OfRequest asked)) × (said_on (entry_text known (OfRequest asked)) ≡ None)

quiet_asked : (known : Known) → IsSettled known → (asked : TraceLine) → IsAsked known asked → IsQuiet known asked
quiet_asked known settled asked is =
    let m = is.2 in
    let keyword = asks asked.request.act in
    let values = OfNumber asked.request.strand ∷ (operands asked.request.act ++ if_there (mark_of asked)) in
    let mark : m.0 ≡ mark_of asked = sym (mark_by asked is.0 m.0 m.3 m.4) in
    let says = subst (λ (mark : Option ℕ). Says known is.1 keyword (OfNumber asked.request.strand ∷ (operands asked.request.act ++ if_there mark))) mark m.1 in
    let plain = says_plain known settled.0 settled.1 is.1 keyword values says in
    (plain.0, says_nothing (plain_line known keyword values) (spelling keyword) plain.1.1.0 _ plain.1.1.1 refl)

quiet_all : (known : Known) → IsSettled known → (asked : List TraceLine) → AllByRecursion (IsAsked known) asked → AllByRecursion (IsQuiet known) asked
quiet_all known settled [] all = tt
quiet_all known settled (one ∷ asked) all = (quiet_asked known settled one all.0, quiet_all known settled asked all.1)

dropped : (known : Known) (count : ℕ) (asked : List TraceLine) → AllByRecursion (IsQuiet known) asked → AllByRecursion (IsQuiet known) (drop count asked)
dropped known zero asked all = all
dropped known (suc count) [] all = tt
dropped known (suc count) (one ∷ asked) all = dropped known count asked all.1

quiet_adds : (known : Known) (asked : List TraceLine) (notes : Notes) → AllByRecursion (IsQuiet known) asked
    → Adds (lines (requests_text known asked)) notes notes
quiet_adds known [] notes all = adds_none notes
quiet_adds known (one ∷ asked) notes all =
    let line : List ℕ = entry_text known (OfRequest one) in
    let rest : List ℕ = requests_text known asked in
    let split : lines (requests_text known (one ∷ asked)) ≡ line ∷ lines rest =
    ap lines (append_assoc line (10 ∷ []) rest) ∙ line_ended line rest all.0.0 in
    subst (λ (ls : List (List ℕ)). Adds ls notes notes) (sym split) (adds_plain line (lines rest) notes notes all.0.1 (quiet_adds known asked notes all.1))

-- the notes of the head are those of the text
pub head_notes : (head : List ℕ) (count : ℕ) (trace : Contents) (notes : Notes) → IsPlainText head count trace → AreNotes (lines head) notes
    → AreNotes (lines (rejoined head count trace)) notes
head_notes head count trace notes plain are =
    let kept = kept_of_text (rejoined head count trace) trace plain.means in
    let asked = recursion_from_All _ _ (asked_by (lines (rejoined head count trace)) trace plain.means) in
    let quiet = dropped trace.known count trace.lines (quiet_all trace.known (kept.numbered, kept.not_empty) trace.lines asked) in
    let behind : List ℕ = requests_text trace.known (drop count trace.lines) in
    subst (λ (ls : List (List ℕ)). AreNotes ls notes) (sym (plain.whole behind))
    (are_more (lines head) (lines behind) notes notes are (quiet_adds trace.known (drop count trace.lines) notes quiet))

-- ---- a text that is kept by its head and its trace

pub kept_means : (source : KeptText) (kept : PlainText) → source ≡ Plain kept → IsKept source → KeepsTrace source (trace_contents kept.trace)
kept_means source kept is all =
    let plain : IsKept (Plain kept) = subst (λ (some : KeptText). IsKept some) is all in record {
      kept = all;
      means = subst (λ (some : KeptText). TextMeans (text_of some) (trace_contents kept.trace)) (sym is) plain.means;
    }

-- why nothing is told of it
pub untold : (source : KeptText) (trace : Contents) (fault : CliFault) → KeepsTrace source trace → (fault ≡ Memory) ⊎ StopsGate trace fault
    → (fault ≡ Memory) ⊎ IsUntoldTrace (text_of source) fault
untold source trace fault keeps (inl is) = inl is
untold source trace fault keeps (inr stops) = inr (record { trace = trace; means = keeps.means; stops = stops })

-- it is no program's
pub kept_no_program : (source : KeptText) (kept : PlainText) → source ≡ Plain kept → IsKept source → is_program_text (text_of source) ≡ false
kept_no_program source kept is all = no_program (text_of source) (trace_contents kept.trace) (kept_means source kept is all).means

pub stops_traced : (text : List ℕ) (limit : ℕ) (fault : CliFault) → is_program_text text ≡ false → (fault ≡ Memory) ⊎ IsUntoldTrace text fault
    → StopsTelling text limit fault
stops_traced text limit Memory none why = tt
stops_traced text limit fault none (inl is) = absurd (cc)
stops_traced text limit fault none (inr stops) = subst (λ (b : Bool). StopsTellingAs b text limit fault) (sym none) stops
