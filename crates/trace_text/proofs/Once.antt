-- Words mean one thing at most, and so do lines.
use Rattle.std.proofs.Common.{◌≡◌, ℕ, ◌+◌, ◌∷◌, ◌++◌, [], List, Bool, refl, sym, ◌∙◌, ap, subst, inl, inr}
use Rattle.std.specs.Prelude.{Option, Some, None, codes, unwrap_or, is_some}
use Rattle.std.proofs.lemmas.List.{append_cancel_right}
use Rattle.model_accesses.specs.declared.kind.Kind.TheVariants as kind
use Rattle.trace_text.specs.declared.keyword.Keyword.{Keyword}
use Rattle.trace_text.specs.declared.keyword.Keyword.TheVariants.{Mem as MemWord, Reducer as ReducerWord, Call, Sync, Return, Access}
use Rattle.model_accesses.specs.declared.request.Act.{Act}
use Rattle.model_accesses.specs.declared.request.Act.TheVariants as act
use Rattle.model_reducers.specs.declared.monoid.Monoid.{Monoid}
use Rattle.model_reducers.specs.declared.monoid.Monoid.TheVariants.{Sum}
use Rattle.text_words.specs.declared.value.Mem.{Mem}
use Rattle.text_words.specs.declared.value.TraceLine.{TraceLine}
use Rattle.text_words.specs.Text.{words, IsName, IsNumberIn}
use Rattle.text_words.specs.Limits.{max_strand, max_value}
use Rattle.text_words.specs.Values.{Known, Contents}
use Rattle.text_words.specs.Names.{CellMeans, ElementMeans, element_word}
use Rattle.trace_text.specs.Lines.{Place, FreshName, Number, Cell, ReducerName, MonoidWord, Mark, Value, OfName, OfNumber, OfMonoid, WordMeans, asks, operands, if_there}
use Rattle.trace_text.specs.Grammar.{Item, Blank, Declared, Reduces, Asked, ItemMeans, LineMeans}
use Rattle.trace_text.proofs.CellWords.{same_some, same_split, name_no_bracket, no_element, flat}
use Rattle.trace_text.proofs.Keywords.{monoid_once}
use Rattle.trace_text.proofs.LineFaults.{IsSaid, said_once, said_clean}
use Rattle.trace_text.proofs.Formed.{first_or, behind_first}
use Rattle.text_words.specs.declared.fault.Cause.{Cause}
use Rattle.trace_text.specs.Faults.{WordsFault}
use Rattle.trace_text.specs.Items.{line_asked}
use Rattle.trace_text.proofs.Outcomes.{clear}

pub number_once : (low high : ℕ) (word : List ℕ) (m n : ℕ) → IsNumberIn low high word m → IsNumberIn low high word n → m ≡ n
number_once low high word m n h k = h.0.2 ∙ sym k.0.2

-- ---- cells

pub same_element : (name other index place : List ℕ) → IsName name → IsName other → element_word name index ≡ element_word other place → (name ≡ other) × (index ≡ place)
same_element name other index place n o e =
    let same = same_split name other (index ++ 93 ∷ []) (place ++ 93 ∷ []) (name_no_bracket name n) (name_no_bracket other o)
    (sym (flat name index) ∙ (e ∙ flat other place)) in
    (same.0, append_cancel_right index place (93 ∷ []) same.1)

element_once : (mems : List Mem) (name index : List ℕ) (c d : ℕ) → ElementMeans mems name index c → ElementMeans mems name index d → c ≡ d
element_once mems name index c d m n =
    let mem : m.1 ≡ n.1 = same_some _ _ _ m.3.0 n.3.0 in
    let i : m.2 ≡ n.2 = number_once 0 max_value index m.2 n.2 m.4 n.4 in
    m.6 ∙ (ap (λ (x : Mem). x.first + m.2) mem ∙ (ap (λ (j : ℕ). n.1.first + j) i ∙ sym n.6))

cell_once : (mems : List Mem) (word : List ℕ) (c d : ℕ) → CellMeans mems word c → CellMeans mems word d → c ≡ d
cell_once mems word c d (inl m) (inl n) =
    let mem : m.1 ≡ n.1 = same_some _ _ _ m.2.0 n.2.0 in
    m.3 ∙ (ap (λ (x : Mem). x.first) mem ∙ sym n.3)
cell_once mems word c d (inl m) (inr n) = absurd (no_element word n.0 n.1 (name_no_bracket word m.0) n.2)
cell_once mems word c d (inr m) (inl n) = absurd (no_element word m.0 m.1 (name_no_bracket word n.0) m.2)
cell_once mems word c d (inr m) (inr n) =
    let same = same_element m.0 n.0 m.1 n.1 m.3.0 n.3.0 (sym m.2 ∙ n.2) in
    element_once mems n.0 n.1 c d
    (subst (λ (w : List ℕ). ElementMeans mems n.0 w c) same.1 (subst (λ (w : List ℕ). ElementMeans mems w m.1 c) same.0 m.3)) n.3

-- ---- words in their places

mark_once : (word d e : List ℕ) (m n : ℕ) → word ≡ codes "@" ++ d → word ≡ codes "@" ++ e → IsNumberIn 1 max_strand d m → IsNumberIn 1 max_strand e n → m ≡ n
mark_once word d e m n p q h k =
    let whole : codes "@" ++ d ≡ codes "@" ++ e = sym p ∙ q in
    let digits : d ≡ e = cc in
    number_once 1 max_strand e m n (subst (λ (w : List ℕ). IsNumberIn 1 max_strand w m) digits h) k

module _ (known : Known) where
  pub word_once : (place : Place) (word : List ℕ) (v w : Value) → WordMeans known place word v → WordMeans known place word w → v ≡ w
  word_once FreshName word (OfName a) (OfName b) m n = ap OfName (m.0 ∙ sym n.0)
  word_once (Number low high) word (OfNumber a) (OfNumber b) m n = ap OfNumber (number_once low high word a b m n)
  word_once Cell word (OfNumber a) (OfNumber b) m n = ap OfNumber (cell_once known.mems word a b m n)
  word_once ReducerName word (OfNumber a) (OfNumber b) m n = ap OfNumber (same_some _ _ _ m.1 n.1)
  word_once MonoidWord word (OfMonoid a) (OfMonoid b) m n = ap OfMonoid (monoid_once a b (sym m.1 ∙ n.1))
  word_once Mark word (OfNumber a) (OfNumber b) m n = ap OfNumber (mark_once word m.0 n.0 a b m.1 n.1 m.2 n.2)
  word_once FreshName word (OfName a) w m n = absurd n
  word_once (Number low high) word (OfNumber a) w m n = absurd n
  word_once Cell word (OfNumber a) w m n = absurd n
  word_once ReducerName word (OfNumber a) w m n = absurd n
  word_once MonoidWord word (OfMonoid a) w m n = absurd n
  word_once Mark word (OfNumber a) w m n = absurd n
  word_once place word v w m n = absurd m

-- ---- items, from their keyword and values

abbrev pub number_in : Value → ℕ
number_in (OfNumber n) = n
number_in value = 0

abbrev pub name_in : Value → List ℕ
name_in (OfName name) = name
name_in value = []

abbrev pub monoid_in : Value → Monoid
monoid_in (OfMonoid monoid) = monoid
monoid_in value = Sum

abbrev pub count_in : List Value → Option ℕ
count_in [] = None
count_in (value ∷ values) = Some (number_in value)

abbrev pub first_of_values : List Value → Value
first_of_values = first_or (OfNumber 0)

abbrev pub act_by : Keyword → (first second : ℕ) → Act
act_by Call first second = act.Call
act_by Sync first second = act.Sync
act_by Return first second = act.Return
act_by (Access kind.Read) first second = act.Read first
act_by (Access kind.Write) first second = act.Write first second
act_by (Access kind.Bump) first second = act.Bump first second
act_by (Access kind.Update) first second = act.Update first second
act_by (Access kind.Put) first second = act.Put first second
act_by (Access kind.Get) first second = act.Get first
act_by keyword first second = act.Spawn

-- what stands behind the operands
abbrev pub rest_by : Keyword → List Value → List Value
rest_by (Access kind.Read) values = behind_first values
rest_by (Access kind.Get) values = behind_first values
rest_by (Access kind.Write) values = behind_first (behind_first values)
rest_by (Access kind.Bump) values = behind_first (behind_first values)
rest_by (Access kind.Update) values = behind_first (behind_first values)
rest_by (Access kind.Put) values = behind_first (behind_first values)
rest_by keyword values = values

abbrev pub asked_by : ℕ → Keyword → (strand : Value) → (operands : List Value) → Item
asked_by at keyword strand operands =
    line_asked at (number_in strand) (act_by keyword (number_in (first_of_values operands)) (number_in (first_of_values (behind_first operands))))
    (count_in (rest_by keyword operands))

abbrev pub item_by : ℕ → Keyword → List Value → Item
item_by at MemWord values = Declared (name_in (first_of_values values)) (count_in (behind_first values))
item_by at ReducerWord values = Reduces (name_in (first_of_values values)) (monoid_in (first_of_values (behind_first values)))
item_by at keyword values = asked_by at keyword (first_of_values values) (behind_first values)

count_back : (count : Option ℕ) → count_in (if_there count) ≡ count
count_back None = refl
count_back (Some number) = refl

asked_back : (at : ℕ) (a : Act) (strand : ℕ) (mark : Option ℕ) → item_by at (asks a) (OfNumber strand ∷ (operands a ++ if_there mark)) ≡ line_asked at strand a mark
asked_back at act.Spawn strand mark = ap (line_asked at strand act.Spawn) (count_back mark)
asked_back at a strand mark = ap (line_asked at strand a) (count_back mark)

asked_is : (line : TraceLine) (at : ℕ) (mark : Option ℕ) → line.at ≡ at → line.request.line ≡ unwrap_or mark at → line.marked ≡ is_some mark
    → line_asked at line.request.strand line.request.act mark ≡ Asked line
asked_is line at mark e f g =
    let made : ℕ → ℕ → Bool → Item = λ t number marked. Asked (record { at = t; request = record { strand = line.request.strand; act = line.request.act; line = number }; marked = marked }) in
    ap (λ (t : ℕ). made t (unwrap_or mark at) (is_some mark)) (sym e)
    ∙ (ap (λ (t : ℕ). made line.at t (is_some mark)) (sym f) ∙ ap (made line.at line.request.line) (sym g))

module _ (at : ℕ) (known : Known) (ws : List (List ℕ)) where
  said : (item : Item) → ItemMeans at known ws item → IsSaid (clear known) known.version Blank (item_by at) ws item
  said Blank m = inl (refl, m)
  said (Declared name length) m = inr (MemWord, OfName name ∷ if_there length, m, ap (Declared name) (count_back length))
  said (Reduces name monoid) m = inr (ReducerWord, OfName name ∷ OfMonoid monoid ∷ [], m, refl)
  said (Asked line) m = inr (
    asks line.request.act,
    OfNumber line.request.strand ∷ (operands line.request.act ++ if_there m.0),
    m.1,
    asked_back at line.request.act line.request.strand m.0 ∙ asked_is line at m.0 m.2 m.3 m.4,
  )

  -- the words of a line say one thing at most
  pub item_once : (i j : Item) → ItemMeans at known ws i → ItemMeans at known ws j → i ≡ j
  item_once i j m n = said_once (clear known) known.version Blank (item_by at) ws (word_once known) i j (said i m) (said j n)

-- and have no fault where they say something
pub item_clean : (known : Known) (at : ℕ) (ws : List (List ℕ)) (item : Item) → ItemMeans at known ws item → (cause : Cause) → WordsFault known ws cause → ⊥
item_clean known at ws item m = said_clean (clear known) known.version Blank (item_by at) ws item (said at known ws item m)

pub line_once : (at : ℕ) (before : Contents) (line : List ℕ) (i j : Item) → LineMeans at before line i → LineMeans at before line j → i ≡ j
line_once at before line i j m n = item_once at before.known (words line) i j m.2 n.2
