-- A text means at most one trace, and never a trace and a fault.
-- v, w: what a text means; m, n: numbers of faulty lines; c, d: causes
use Rattle.std.proofs.Common.{rules, ◌≡◌, ℕ, ◌<◌, ◌+◌, ◌∷◌, [], List, get_or, arith, refl, sym, ◌∙◌, ap, subst, inl, inr}
use Rattle.std.specs.Prelude.{codes}
use Rattle.text_words.specs.declared.value.Version.{Version}
use Rattle.text_words.specs.declared.value.Version.TheVariants.{One, Two}
use Rattle.text_words.specs.declared.fault.Cause.{Cause}
use Rattle.text_words.specs.declared.fault.Cause.TheVariants.{NotText, BadHeader, BadWord, BadNumber, UnknownName, TwiceNamed, BadNesting, NoMain, TooMany}
use Rattle.text_words.specs.Text.{words, lines}
use Rattle.text_words.specs.Values.{Contents, version_spelling}
use Rattle.trace_text.specs.Grammar.{Item, HasRoom, extended, nothing, IsHeader, LineMeans, LinesMean, LinesOfTrace, TextMeans}
use Rattle.text_words.specs.Causes.{IsLowest, cause_number}
use Rattle.trace_text.specs.Faults.{LineFault, LinesFault, HeaderFault, FaultOfLines, TextFaults}
use Rattle.trace_text.proofs.LineFaults.{same_head}
use Rattle.trace_text.proofs.RoomFaults.{out_of_order}
use Rattle.trace_text.proofs.Once.{item_once, item_clean, line_once}

-- ---- headers

version_once_by : (version other : Version) → version_spelling version ≡ version_spelling other → version ≡ other
version_once_by One One e = refl
version_once_by One Two e = absurd (search rules)
version_once_by Two One e = absurd (search rules)
version_once_by Two Two e = refl

pub version_once : (first : List ℕ) (version other : Version) → IsHeader first version → IsHeader first other → version ≡ other
version_once first version other h k =
    let behind : version_spelling version ∷ [] ≡ version_spelling other ∷ [] =
    (same_head (codes "cilk") (codes "cilk") (version_spelling version ∷ []) (version_spelling other ∷ []) (sym h.1 ∙ k.1)).1 in
    version_once_by version other (same_head (version_spelling version) (version_spelling other) [] [] behind).0

-- ---- one meaning

lines_once : (at : ℕ) (before : Contents) (ls : List (List ℕ)) (v w : Contents) → LinesMean at before ls v → LinesMean at before ls w → v ≡ w
lines_once at before [] v w m n = m ∙ sym n
lines_once at before (line ∷ ls) v w m n =
    let same = line_once at before line m.0 n.0 m.1 n.1 in
    lines_once (at + 1) (extended at before n.0) ls v w (subst (λ (t : Item). LinesMean (at + 1) (extended at before t) ls v) same m.2) n.2

text_once_by : (ls : List (List ℕ)) (v w : Contents) → LinesOfTrace ls v → LinesOfTrace ls w → v ≡ w
text_once_by [] v w m n = absurd m
text_once_by (first ∷ rest) v w m n =
    let same = version_once first v.known.version w.known.version m.0 n.0 in
    lines_once 2 (nothing w.known.version) rest v w (subst (λ (version : Version). LinesMean 2 (nothing version) rest v) same m.1) n.1

-- a text means at most one trace
pub text_once : (text : List ℕ) (v w : Contents) → TextMeans text v → TextMeans text w → v ≡ w
text_once text v w m n = text_once_by (lines text) v w m n

-- ---- never a trace and a fault

line_exclusive : (at : ℕ) (before : Contents) (line : List ℕ) (item : Item) (cause : Cause) → LineMeans at before line item → LineFault at before line cause → ⊥
line_exclusive at before line item NotText m f = f m.1
line_exclusive at before line item BadNesting m f = out_of_order at before (words line) item f.0 f.1 m.2 f.2 f.3 f.4 m.3
line_exclusive at before line item TooMany m (inl f) = absurd (omega (arith, m.0))
line_exclusive at before line item TooMany m (inr f) =
    f.2 (subst (λ (t : Item). HasRoom before t) (item_once at before.known (words line) item f.0 m.2 f.1) m.4)
line_exclusive at before line item cause m f = item_clean before.known at (words line) item m.2 cause f

lines_exclusive : (at : ℕ) (before : Contents) (ls : List (List ℕ)) (v : Contents) (bad : ℕ) (cause : Cause) → LinesMean at before ls v → LinesFault at before ls bad cause → ⊥
lines_exclusive at before [] v bad cause m f = f
lines_exclusive at before (line ∷ ls) v bad cause m (inl f) = line_exclusive at before line m.0 cause m.1 f.1.0
lines_exclusive at before (line ∷ ls) v bad cause m (inr f) =
    let same = line_once at before line m.0 f.0 m.1 f.1 in
    lines_exclusive (at + 1) (extended at before f.0) ls v bad cause
    (subst (λ (t : Item). LinesMean (at + 1) (extended at before t) ls v) same m.2) f.2

pub header_exclusive : (line : List ℕ) (version : Version) (cause : Cause) → IsHeader line version → HeaderFault line cause → ⊥
header_exclusive line version NotText h f = f h.0
header_exclusive line version BadHeader h f = f version h
header_exclusive line version cause h f = f

text_exclusive_by : (ls : List (List ℕ)) (v : Contents) (bad : ℕ) (cause : Cause) → LinesOfTrace ls v → FaultOfLines ls bad cause → ⊥
text_exclusive_by [] v bad cause m f = m
text_exclusive_by (first ∷ rest) v bad cause m (inl f) = header_exclusive first v.known.version cause m.0 f.1.0
text_exclusive_by (first ∷ rest) v bad cause m (inr f) =
    let same = version_once first f.0 v.known.version f.1 m.0 in
    lines_exclusive 2 (nothing v.known.version) rest v bad cause m.1 (subst (λ (version : Version). LinesFault 2 (nothing version) rest bad cause) same f.2)

-- a text that means a trace has no fault
pub text_exclusive : (text : List ℕ) (v : Contents) (bad : ℕ) (cause : Cause) → TextMeans text v → TextFaults text bad cause → ⊥
text_exclusive text v bad cause m f = text_exclusive_by (lines text) v bad cause m f

-- ---- at most one fault

abbrev cause_at : ℕ → Cause
cause_at n = get_or (NotText ∷ NotText ∷ BadHeader ∷ BadWord ∷ BadNumber ∷ UnknownName ∷ TwiceNamed ∷ BadNesting ∷ NoMain ∷ TooMany ∷ []) n NotText

cause_at_number : (cause : Cause) → cause_at (cause_number cause) ≡ cause
cause_at_number NotText = refl
cause_at_number BadHeader = refl
cause_at_number BadWord = refl
cause_at_number BadNumber = refl
cause_at_number UnknownName = refl
cause_at_number TwiceNamed = refl
cause_at_number BadNesting = refl
cause_at_number NoMain = refl
cause_at_number TooMany = refl

not_less : (m n : ℕ) → (m < n → ⊥) → (n < m → ⊥) → m ≡ n
not_less m n h k = omega arith

pub lowest_once : (Holds : Cause → Type 0) (c d : Cause) → IsLowest Holds c → IsLowest Holds d → c ≡ d
lowest_once Holds c d f g =
    let same : cause_number c ≡ cause_number d = not_less _ _ (λ l. g.1 c l f.0) (λ l. f.1 d l g.0) in
    sym (cause_at_number c) ∙ (ap cause_at same ∙ cause_at_number d)

lines_fault_once : (at : ℕ) (before : Contents) (ls : List (List ℕ)) (m n : ℕ) (c d : Cause)
    → LinesFault at before ls m c → LinesFault at before ls n d → (m ≡ n) × (c ≡ d)
lines_fault_once at before [] m n c d f g = absurd f
lines_fault_once at before (line ∷ ls) m n c d (inl f) (inl g) = (f.0 ∙ sym g.0, lowest_once (LineFault at before line) c d f.1 g.1)
lines_fault_once at before (line ∷ ls) m n c d (inl f) (inr g) = absurd (line_exclusive at before line g.0 c g.1 f.1.0)
lines_fault_once at before (line ∷ ls) m n c d (inr f) (inl g) = absurd (line_exclusive at before line f.0 d f.1 g.1.0)
lines_fault_once at before (line ∷ ls) m n c d (inr f) (inr g) =
    let same = line_once at before line f.0 g.0 f.1 g.1 in
    lines_fault_once (at + 1) (extended at before g.0) ls m n c d
    (subst (λ (t : Item). LinesFault (at + 1) (extended at before t) ls m c) same f.2) g.2

fault_once_by : (ls : List (List ℕ)) (m n : ℕ) (c d : Cause) → FaultOfLines ls m c → FaultOfLines ls n d → (m ≡ n) × (c ≡ d)
fault_once_by [] m n c d f g = (f.0 ∙ sym g.0, f.1 ∙ sym g.1)
fault_once_by (first ∷ rest) m n c d (inl f) (inl g) = (f.0 ∙ sym g.0, lowest_once (HeaderFault first) c d f.1 g.1)
fault_once_by (first ∷ rest) m n c d (inl f) (inr g) = absurd (header_exclusive first g.0 c g.1 f.1.0)
fault_once_by (first ∷ rest) m n c d (inr f) (inl g) = absurd (header_exclusive first f.0 d f.1 g.1.0)
fault_once_by (first ∷ rest) m n c d (inr f) (inr g) =
    let same = version_once first f.0 g.0 f.1 g.1 in
    lines_fault_once 2 (nothing g.0) rest m n c d (subst (λ (version : Version). LinesFault 2 (nothing version) rest m c) same f.2) g.2

-- a text has at most one fault
pub fault_once : (text : List ℕ) (m n : ℕ) (c d : Cause) → TextFaults text m c → TextFaults text n d → (m ≡ n) × (c ≡ d)
fault_once text m n c d f g = fault_once_by (lines text) m n c d f g
