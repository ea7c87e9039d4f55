-- Whole lines of a text, and what is read behind them.
use Rattle.std.proofs.Common.{◌≡◌, ◌≢◌, ℕ, ◌+◌, ◌-◌, ◌<◌, ◌≤◌, ◌∷◌, ◌++◌, [], List, Bool, true, false, cond, length, take, drop, get_or, map, refl, ap, sym, ◌∙◌, subst, arith, append_assoc, length-append, inl, inr}
use Rattle.std.specs.Prelude.{◌==◌}
use Rattle.std.specs.List.{onto_first}
use Rattle.std.specs.Str.Lines.{strip_carriage_return}
use Rattle.std.proofs.lemmas.List.{map-append, take-append-drop, take_more}
use Rattle.text_words.specs.declared.fault.Cause.{Cause}
use Rattle.text_words.specs.declared.fault.TextFault.{TextFault}
use Rattle.text_words.specs.declared.fault.TextFault.TheVariants.{At, Memory}
use Rattle.text_words.specs.declared.value.TraceLine.{TraceLine}
use Rattle.text_words.specs.declared.value.Version.{Version}
use Rattle.text_words.specs.Text.{pieces, lines}
use Rattle.text_words.specs.Values.{Contents}
use Rattle.trace_text.specs.Grammar.{Item, Blank, Declared, Reduces, Asked, extended, nothing, LinesMean, LinesOfTrace, TextMeans}
use Rattle.trace_text.specs.Faults.{LinesFault, FaultOfLines}
use Rattle.trace_text.specs.Drafts.{IsLinesFault, IsTextFault, IsTaken, IsStopped, IsBodyFault}
use Rattle.trace_text.specs.Pieces.{AreWholeLines}
use Rattle.trace_text.proofs.RoomFaults.{lines_of_trace}

-- ---- whole lines

onto_front : (byte : ℕ) (front behind : List (List ℕ)) → front ≢ [] → onto_first byte (front ++ behind) ≡ onto_first byte front ++ behind
onto_front byte [] behind some = absurd (some refl)
onto_front byte (piece ∷ front) behind some = refl

some_by : (is_feed : Bool) (byte : ℕ) (behind : List (List ℕ)) → cond is_feed ([] ∷ behind) (onto_first byte behind) ≢ []
some_by true byte behind = λ e. cc
some_by false byte [] = λ e. cc
some_by false byte (piece ∷ behind) = λ e. cc

pub some_pieces : (byte : ℕ) (bytes : List ℕ) → pieces (byte ∷ bytes) ≢ []
some_pieces byte bytes = some_by (byte == 10) byte (pieces bytes)

some_to_feed : (text : List ℕ) → pieces (text ++ 10 ∷ []) ≢ []
some_to_feed [] = some_pieces 10 []
some_to_feed (byte ∷ bytes) = some_pieces byte (bytes ++ 10 ∷ [])

joined_by : (is_feed : Bool) (byte : ℕ) (whole front behind : List (List ℕ)) → whole ≡ front ++ behind → front ≢ []
    → cond is_feed ([] ∷ whole) (onto_first byte whole) ≡ cond is_feed ([] ∷ front) (onto_first byte front) ++ behind
joined_by true byte whole front behind e some = ap (λ (ps : List (List ℕ)). [] ∷ ps) e
joined_by false byte whole front behind e some = ap (onto_first byte) e ∙ onto_front byte front behind some

pieces_joined : (text rest : List ℕ) → pieces (text ++ 10 ∷ rest) ≡ pieces (text ++ 10 ∷ []) ++ pieces rest
pieces_joined [] rest = refl
pieces_joined (byte ∷ bytes) rest =
    joined_by (byte == 10) byte (pieces (bytes ++ 10 ∷ rest)) (pieces (bytes ++ 10 ∷ [])) (pieces rest) (pieces_joined bytes rest) (some_to_feed bytes)

-- no bytes are whole lines, and so are bytes up to a line feed
pub whole_none : AreWholeLines []
whole_none rest = refl

pub whole_to_feed : (text : List ℕ) → AreWholeLines (text ++ 10 ∷ [])
whole_to_feed text rest =
    ap lines (append_assoc text (10 ∷ []) rest)
    ∙ ap (map strip_carriage_return) (pieces_joined text rest)
    ∙ map-append strip_carriage_return (pieces (text ++ 10 ∷ [])) (pieces rest)

-- whole lines behind whole lines are so
pub whole_both : (done text : List ℕ) → AreWholeLines done → AreWholeLines text → AreWholeLines (done ++ text)
whole_both done text f g rest =
    ap lines (append_assoc done text rest)
    ∙ f (text ++ rest)
    ∙ ap (λ (ls : List (List ℕ)). lines done ++ ls) (g rest)
    ∙ sym (append_assoc (lines done) (lines text) (lines rest))
    ∙ ap (λ (ls : List (List ℕ)). ls ++ lines rest) (sym (f text))

pub whole_to : (text : List ℕ) (end : ℕ) → 0 < end → end ≤ length text → get_or text (end - 1) 0 ≡ 10 → AreWholeLines (take end text)
whole_to text end some within feed =
    let front : List ℕ = take (end - 1) text in
    let is : end ≡ (end - 1) + 1 = omega arith in
    let last : take end text ≡ front ++ get_or text (end - 1) 0 ∷ [] = ap (λ (n : ℕ). take n text) is ∙ take_more text (end - 1) 0 (omega arith) in
    subst AreWholeLines (sym (last ∙ ap (λ (byte : ℕ). front ++ byte ∷ []) feed)) (whole_to_feed front)

-- ---- lines behind lines

pub means_joined : (at from : ℕ) (before between contents : Contents) (front behind : List (List ℕ)) → from ≡ at + length front
    → LinesMean at before front between → LinesMean from between behind contents → LinesMean at before (front ++ behind) contents
means_joined at from before between contents [] behind e m n =
    let here : from ≡ at = omega (arith, e) in
    subst (λ (k : ℕ). LinesMean k before behind contents) here (subst (λ (c : Contents). LinesMean from c behind contents) m n)
means_joined at from before between contents (line ∷ front) behind e m n =
    (m.0, m.1, means_joined (at + 1) from (extended at before m.0) between contents front behind (omega (arith, e)) m.2 n)

pub faults_joined : (at from : ℕ) (before between : Contents) (front behind : List (List ℕ)) (bad : ℕ) (cause : Cause) → from ≡ at + length front
    → LinesMean at before front between → LinesFault from between behind bad cause → LinesFault at before (front ++ behind) bad cause
faults_joined at from before between [] behind bad cause e m f =
    let here : from ≡ at = omega (arith, e) in
    subst (λ (k : ℕ). LinesFault k before behind bad cause) here (subst (λ (c : Contents). LinesFault from c behind bad cause) m f)
faults_joined at from before between (line ∷ front) behind bad cause e m f =
    inr (m.0, m.1, faults_joined (at + 1) from (extended at before m.0) between front behind bad cause (omega (arith, e)) m.2 f)

fault_kept : (at : ℕ) (before : Contents) (front behind : List (List ℕ)) (bad : ℕ) (cause : Cause)
    → LinesFault at before front bad cause → LinesFault at before (front ++ behind) bad cause
fault_kept at before [] behind bad cause f = absurd f
fault_kept at before (line ∷ front) behind bad cause (inl f) = inl f
fault_kept at before (line ∷ front) behind bad cause (inr f) =
    inr (f.0, f.1, fault_kept (at + 1) (extended at before f.0) front behind bad cause f.2)

trace_joined : (from : ℕ) (between contents : Contents) (front behind : List (List ℕ)) → from ≡ length front + 1
    → LinesOfTrace front between → LinesMean from between behind contents → LinesOfTrace (front ++ behind) contents
trace_joined from between contents [] behind e m n = absurd m
trace_joined from between contents (first ∷ front) behind e m n =
    let version = between.known.version in
    lines_of_trace version first (front ++ behind) contents m.0 (means_joined 2 from (nothing version) between contents front behind (omega (arith, e)) m.1 n)

trace_fault : (from : ℕ) (between : Contents) (front behind : List (List ℕ)) (bad : ℕ) (cause : Cause) → from ≡ length front + 1
    → LinesOfTrace front between → LinesFault from between behind bad cause → FaultOfLines (front ++ behind) bad cause
trace_fault from between [] behind bad cause e m f = absurd m
trace_fault from between (first ∷ front) behind bad cause e m f =
    let version = between.known.version in
    inr (version, m.0, faults_joined 2 from (nothing version) between front behind bad cause (omega (arith, e)) m.1 f)

trace_fault_kept : (front behind : List (List ℕ)) (bad : ℕ) (cause : Cause) → front ≢ [] → FaultOfLines front bad cause → FaultOfLines (front ++ behind) bad cause
trace_fault_kept [] behind bad cause some f = absurd (some refl)
trace_fault_kept (first ∷ front) behind bad cause some (inl f) = inl f
trace_fault_kept (first ∷ front) behind bad cause some (inr f) = inr (f.0, f.1, fault_kept 2 (nothing f.0) front behind bad cause f.2)

-- ---- one line more

-- a line that is taken is one of the lines
pub count_on : (at : ℕ) (before after : Contents) (text rest : List ℕ) → IsTaken at before text rest after → length (lines text) ≡ length (lines rest) + 1
count_on at before after text rest taken = omega (arith, ap length taken.1)

some_extended : (at : ℕ) (before : Contents) (item : Item) → before.lines ≢ [] → (extended at before item).lines ≢ []
some_extended at before Blank some = some
some_extended at before (Declared name length) some = some
some_extended at before (Reduces name monoid) some = some
some_extended at before (Asked line) some = λ e. some_before before.lines some e
  where
    some_before : (lines : List TraceLine) → lines ≢ [] → lines ++ line ∷ [] ≢ []
    some_before [] none = absurd (none refl)
    some_before (first ∷ lines) none = λ e. cc

-- and no request is lost with it
pub some_on : (at : ℕ) (before after : Contents) (text rest : List ℕ) → IsTaken at before text rest after → before.lines ≢ [] → after.lines ≢ []
some_on at before after text rest taken some =
    subst (λ (c : Contents). c.lines ≢ []) (sym taken.5) (some_extended at before taken.3 some)

-- the first fault of the rest is that of the lines
pub stopped_on : (at from : ℕ) (first before : Contents) (text rest : List ℕ) (fault : TextFault) → IsStopped at before rest fault
    → ((bad : ℕ) (cause : Cause) → LinesFault at before (lines rest) bad cause → LinesFault from first (lines text) bad cause) → IsLinesFault from first (lines text) fault
stopped_on at from first before text rest (At bad why) f h = h bad why (subst (λ (ls : List (List ℕ)). LinesFault at before ls bad why) (sym f.2) (inl f.3))
stopped_on at from first before text rest Memory f h = tt

-- the lines behind those that were read
pub faults_behind : (at from : ℕ) (first before : Contents) (text rest : List ℕ) (fault : TextFault) → IsLinesFault at before (lines rest) fault
    → ((bad : ℕ) (cause : Cause) → LinesFault at before (lines rest) bad cause → LinesFault from first (lines text) bad cause) → IsLinesFault from first (lines text) fault
faults_behind at from first before text rest (At bad why) f h = h bad why f
faults_behind at from first before text rest Memory f h = tt

pub body_faults : (version : Version) (text : List ℕ) (fault : TextFault) → IsLinesFault 2 (nothing version) (lines text) fault → IsBodyFault version text fault
body_faults version text (At bad why) f = f
body_faults version text Memory f = tt

-- ---- bytes behind whole lines

pub text_behind : (done text : List ℕ) (at : ℕ) (between contents : Contents) → AreWholeLines done → TextMeans done between → at ≡ length (lines done)
    → LinesMean (at + 1) between (lines text) contents → TextMeans (done ++ text) contents
text_behind done text at between contents whole means count m =
    subst (λ (ls : List (List ℕ)). LinesOfTrace ls contents) (sym (whole text))
    (trace_joined (at + 1) between contents (lines done) (lines text) (omega (arith, count)) means m)

pub fault_behind : (done text : List ℕ) (at : ℕ) (between : Contents) (fault : TextFault) → AreWholeLines done → TextMeans done between → at ≡ length (lines done)
    → IsLinesFault (at + 1) between (lines text) fault → IsTextFault (done ++ text) fault
fault_behind done text at between (At bad cause) whole means count f =
    subst (λ (ls : List (List ℕ)). FaultOfLines ls bad cause) (sym (whole text))
    (trace_fault (at + 1) between (lines done) (lines text) bad cause (omega (arith, count)) means f)
fault_behind done text at between Memory whole means count f = tt

lines_on : (text rest : List ℕ) (end : ℕ) → AreWholeLines (take end text) → lines (text ++ rest) ≡ lines (take end text) ++ lines (drop end text ++ rest)
lines_on text rest end whole =
    ap (λ (bytes : List ℕ). lines (bytes ++ rest)) (sym (take-append-drop end text))
    ∙ ap lines (append_assoc (take end text) (drop end text) rest)
    ∙ whole (drop end text ++ rest)

fault_on : (at : ℕ) (between : Contents) (text rest : List ℕ) (end : ℕ) (fault : TextFault) → AreWholeLines (take end text)
    → IsLinesFault at between (lines (take end text)) fault → IsLinesFault at between (lines (text ++ rest)) fault
fault_on at between text rest end (At bad cause) whole f =
    subst (λ (ls : List (List ℕ)). LinesFault at between ls bad cause) (sym (lines_on text rest end whole))
    (fault_kept at between (lines (take end text)) (lines (drop end text ++ rest)) bad cause f)
fault_on at between text rest end Memory whole f = tt

-- a fault among the whole lines of a piece is that of the text, whatever stands behind the piece
pub fault_of_piece : (done text rest : List ℕ) (at end : ℕ) (between : Contents) (fault : TextFault) → AreWholeLines done → TextMeans done between
    → at ≡ length (lines done) → AreWholeLines (take end text) → IsLinesFault (at + 1) between (lines (take end text)) fault
    → IsTextFault (done ++ (text ++ rest)) fault
fault_of_piece done text rest at end between fault whole means count front f =
    fault_behind done (text ++ rest) at between fault whole means count (fault_on (at + 1) between text rest end fault front f)

-- bytes whose number is not 0
pub some_counted : (bytes : List ℕ) → false ≡ (length bytes == 0) → bytes ≢ []
some_counted [] e = λ _. cc
some_counted (byte ∷ bytes) e = λ e. cc

lines_some : (text : List ℕ) → text ≢ [] → lines text ≢ []
lines_some [] some = absurd (some refl)
lines_some (byte ∷ bytes) some = map_some (pieces (byte ∷ bytes)) (some_pieces byte bytes)
  where
    map_some : (ps : List (List ℕ)) → ps ≢ [] → map strip_carriage_return ps ≢ []
    map_some [] none = none
    map_some (piece ∷ ps) none = λ e. cc

-- and so is one of its first whole lines
pub fault_of_head : (head rest : List ℕ) (end : ℕ) (fault : TextFault) → AreWholeLines (take end head) → take end head ≢ []
    → IsTextFault (take end head) fault → IsTextFault (head ++ rest) fault
fault_of_head head rest end (At bad cause) whole some f =
    subst (λ (ls : List (List ℕ)). FaultOfLines ls bad cause) (sym (lines_on head rest end whole))
    (trace_fault_kept (lines (take end head)) (lines (drop end head ++ rest)) bad cause (lines_some (take end head) some) f)
fault_of_head head rest end Memory whole some f = tt

-- more whole lines are counted
pub lines_counted : (done text : List ℕ) (at last : ℕ) → AreWholeLines done → at ≡ length (lines done) → last ≡ at + length (lines text) → last ≡ length (lines (done ++ text))
lines_counted done text at last whole count more =
    omega (arith, count, more, ap length (whole text), length-append (lines done) (lines text))
