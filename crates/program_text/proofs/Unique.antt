-- A text means at most one program, and never a program and a fault.
-- v, w: what a text means; m, n: numbers of faulty lines; c, d: causes
use Rattle.std.proofs.Common.{◌≡◌, ℕ, ◌+◌, ◌∷◌, [], List, arith, sym, ◌∙◌, subst, inl, inr}
use Rattle.text_words.specs.declared.value.Version.{Version}
use Rattle.text_words.specs.declared.fault.Cause.{Cause}
use Rattle.text_words.specs.declared.fault.Cause.TheVariants.{NotText, BadHeader, BadNesting, NoMain, TooMany}
use Rattle.text_words.specs.Text.{words, lines}
use Rattle.trace_text.specs.Faults.{HeaderFault}
use Rattle.trace_text.proofs.Unique.{version_once, header_exclusive, lowest_once}
use Rattle.program_lines.specs.Grammar.{Item}
use Rattle.program_text.specs.Functions.{functions_of}
use Rattle.program_text.specs.Drafts.{Draft, Contents, scope_of}
use Rattle.program_text.specs.Grammar.{IsInOrder, HasRoom, extended, nothing, EndMeans, LineMeans, LinesMean, LinesOfProgram, TextMeans}
use Rattle.program_text.specs.Faults.{LineFault, EndFault, LinesFault, FaultOfLines, TextFaults}
use Rattle.program_lines.proofs.Once.{item_once, item_clean}

module _ (names : List (List ℕ)) where
  line_once : (at : ℕ) (before : Draft) (line : List ℕ) (i j : Item) → LineMeans names at before line i → LineMeans names at before line j → i ≡ j
  line_once at before line i j m n = item_once at (scope_of names before) (words line) i j m.2 n.2

  -- ---- one meaning

  lines_once : (at : ℕ) (before : Draft) (ls : List (List ℕ)) (v w : Contents) → LinesMean names at before ls v → LinesMean names at before ls w → v ≡ w
  lines_once at before [] v w m n = m.2 ∙ sym n.2
  lines_once at before (line ∷ ls) v w m n =
      let same = line_once at before line m.0 n.0 m.1 n.1 in
      lines_once (at + 1) (extended at before n.0) ls v w (subst (λ (t : Item). LinesMean names (at + 1) (extended at before t) ls v) same m.2) n.2

  -- ---- never a meaning and a fault

  line_exclusive : (at : ℕ) (before : Draft) (line : List ℕ) (item : Item) (cause : Cause) → LineMeans names at before line item → LineFault names at before line cause → ⊥
  line_exclusive at before line item NotText m f = f m.1
  line_exclusive at before line item BadNesting m f =
      f.2 (subst (λ (t : Item). IsInOrder before t) (item_once at (scope_of names before) (words line) item f.0 m.2 f.1) m.3)
  line_exclusive at before line item TooMany m (inl f) = absurd (omega (arith, m.0))
  line_exclusive at before line item TooMany m (inr (inl f)) =
      f.2 (subst (λ (t : Item). HasRoom before t) (item_once at (scope_of names before) (words line) item f.0 m.2 f.1) m.4)
  line_exclusive at before line item TooMany m (inr (inr f)) = item_clean (scope_of names before) at (words line) item m.2 TooMany f
  line_exclusive at before line item BadHeader m f = f
  line_exclusive at before line item NoMain m f = f
  line_exclusive at before line item cause m f = item_clean (scope_of names before) at (words line) item m.2 cause f

  end_exclusive : (before : Draft) (v : Contents) (cause : Cause) → EndMeans before v → EndFault before cause → ⊥
  end_exclusive before v BadNesting m f = f m.0
  end_exclusive before v NoMain m f = m.1 f
  end_exclusive before v cause m f = f

  lines_exclusive : (at : ℕ) (before : Draft) (ls : List (List ℕ)) (v : Contents) (bad : ℕ) (cause : Cause)
      → LinesMean names at before ls v → LinesFault names at before ls bad cause → ⊥
  lines_exclusive at before [] v bad cause m f = end_exclusive before v cause m f.1.0
  lines_exclusive at before (line ∷ ls) v bad cause m (inl f) = line_exclusive at before line m.0 cause m.1 f.1.0
  lines_exclusive at before (line ∷ ls) v bad cause m (inr f) =
      let same = line_once at before line m.0 f.0 m.1 f.1 in
      lines_exclusive (at + 1) (extended at before f.0) ls v bad cause
      (subst (λ (t : Item). LinesMean names (at + 1) (extended at before t) ls v) same m.2) f.2

  -- ---- at most one fault

  lines_fault_once : (at : ℕ) (before : Draft) (ls : List (List ℕ)) (m n : ℕ) (c d : Cause)
      → LinesFault names at before ls m c → LinesFault names at before ls n d → (m ≡ n) × (c ≡ d)
  lines_fault_once at before [] m n c d f g = (f.0 ∙ sym g.0, lowest_once (EndFault before) c d f.1 g.1)
  lines_fault_once at before (line ∷ ls) m n c d (inl f) (inl g) = (f.0 ∙ sym g.0, lowest_once (LineFault names at before line) c d f.1 g.1)
  lines_fault_once at before (line ∷ ls) m n c d (inl f) (inr g) = absurd (line_exclusive at before line g.0 c g.1 f.1.0)
  lines_fault_once at before (line ∷ ls) m n c d (inr f) (inl g) = absurd (line_exclusive at before line f.0 d f.1 g.1.0)
  lines_fault_once at before (line ∷ ls) m n c d (inr f) (inr g) =
      let same = line_once at before line f.0 g.0 f.1 g.1 in
      lines_fault_once (at + 1) (extended at before g.0) ls m n c d
      (subst (λ (t : Item). LinesFault names (at + 1) (extended at before t) ls m c) same f.2) g.2

text_once_by : (ls : List (List ℕ)) (v w : Contents) → LinesOfProgram ls v → LinesOfProgram ls w → v ≡ w
text_once_by [] v w m n = absurd m
text_once_by (first ∷ rest) v w m n =
    let same = version_once first v.known.version w.known.version m.0 n.0 in
    lines_once (functions_of rest) 2 (nothing w.known.version) rest v w
    (subst (λ (version : Version). LinesMean (functions_of rest) 2 (nothing version) rest v) same m.1) n.1

-- a text means at most one program
pub text_once : (text : List ℕ) (v w : Contents) → TextMeans text v → TextMeans text w → v ≡ w
text_once text v w m n = text_once_by (lines text) v w m n

text_exclusive_by : (ls : List (List ℕ)) (v : Contents) (bad : ℕ) (cause : Cause) → LinesOfProgram ls v → FaultOfLines ls bad cause → ⊥
text_exclusive_by [] v bad cause m f = m
text_exclusive_by (first ∷ rest) v bad cause m (inl f) = header_exclusive first v.known.version cause m.0 f.1.0
text_exclusive_by (first ∷ rest) v bad cause m (inr f) =
    let same = version_once first f.0 v.known.version f.1 m.0 in
    lines_exclusive (functions_of rest) 2 (nothing v.known.version) rest v bad cause m.1
    (subst (λ (version : Version). LinesFault (functions_of rest) 2 (nothing version) rest bad cause) same f.2)

-- a text that means a program has no fault
pub text_exclusive : (text : List ℕ) (v : Contents) (bad : ℕ) (cause : Cause) → TextMeans text v → TextFaults text bad cause → ⊥
text_exclusive text v bad cause m f = text_exclusive_by (lines text) v bad cause m f

fault_once_by : (ls : List (List ℕ)) (m n : ℕ) (c d : Cause) → FaultOfLines ls m c → FaultOfLines ls n d → (m ≡ n) × (c ≡ d)
fault_once_by [] m n c d f g = (f.0 ∙ sym g.0, f.1 ∙ sym g.1)
fault_once_by (first ∷ rest) m n c d (inl f) (inl g) = (f.0 ∙ sym g.0, lowest_once (HeaderFault first) c d f.1 g.1)
fault_once_by (first ∷ rest) m n c d (inl f) (inr g) = absurd (header_exclusive first g.0 c g.1 f.1.0)
fault_once_by (first ∷ rest) m n c d (inr f) (inl g) = absurd (header_exclusive first f.0 d f.1 g.1.0)
fault_once_by (first ∷ rest) m n c d (inr f) (inr g) =
    let same = version_once first f.0 g.0 f.1 g.1 in
    lines_fault_once (functions_of rest) 2 (nothing g.0) rest m n c d
    (subst (λ (version : Version). LinesFault (functions_of rest) 2 (nothing version) rest m c) same f.2) g.2

-- a text has at most one fault
pub fault_once : (text : List ℕ) (m n : ℕ) (c d : Cause) → TextFaults text m c → TextFaults text n d → (m ≡ n) × (c ≡ d)
fault_once text m n c d f g = fault_once_by (lines text) m n c d f g
