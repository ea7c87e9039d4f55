-- Each text means a trace or has a fault.
use Rattle.std.proofs.Common.{◌≡◌, ◌⊎◌, inl, inr, ℕ, ◌+◌, ◌<◌, ◌≤◌, List, [], ◌∷◌, length, refl, ◌∙◌, ap, subst, arith}
use Rattle.std.specs.Prelude.{codes, unwrap_or}
use Rattle.model_accesses.specs.declared.kind.Kind.TheVariants as kind
use Rattle.text_words.specs.declared.fault.Cause.{Cause}
use Rattle.text_words.specs.declared.fault.Cause.TheVariants.{NotText, BadHeader, BadWord, BadNumber, UnknownName, TwiceNamed, BadNesting, NoMain, TooMany}
use Rattle.text_words.specs.declared.value.Version.{Version}
use Rattle.text_words.specs.declared.value.Version.TheVariants.{One, Two}
use Rattle.text_words.specs.Text.{words, lines, IsTextLine}
use Rattle.model_accesses.specs.Limits.{most_cells}
use Rattle.model_reducers.specs.Limits.{most_reducers}
use Rattle.text_words.specs.Limits.{most_requests, most_lines}
use Rattle.text_words.specs.Values.{Known, Contents, version_spelling}
use Rattle.text_words.specs.Declarations.{cells_of}
use Rattle.text_words.specs.Causes.{IsLowest, cause_number}
use Rattle.text_words.proofs.Decided.{OrNot, word_or_not, below_or_not, most_or_not, empty_or_not, text_line_or_not}
use Rattle.trace_text.proofs.LineReadings.{Told, line_told as line_told_by}
use Rattle.trace_text.specs.declared.keyword.Keyword.{Keyword}
use Rattle.trace_text.specs.declared.keyword.Keyword.TheVariants.{Mem as MemWord, Reducer as ReducerWord, Spawn, Call, Sync, Return, Access}
use Rattle.trace_text.specs.Lines.{table, Place, FreshName, Number, Cell, ReducerName, MonoidWord, Mark, Value, OfName, OfNumber, OfMonoid, wanted, optional, HasKeyword, WordMeans, Says, if_there}
use Rattle.trace_text.specs.Grammar.{Item, Blank, Declared, Reduces, Asked, ItemMeans, IsInOrder, HasRoom, extended, LineMeans, LinesMean, LinesOfTrace, IsHeader, nothing}
use Rattle.trace_text.specs.Faults.{WordsFault, LineFault, HeaderFault, LinesFault, FaultOfLines}
use Rattle.trace_text.specs.Laws.{MeaningOrFault}
use Rattle.trace_text.proofs.Outcomes.{clear}
use Rattle.trace_text.proofs.Formed.{behind_first, all_formed, line_formed}
use Rattle.std.specs.Option.{option_to_list}
use Rattle.trace_text.proofs.Once.{item_clean, number_in, name_in, monoid_in, count_in, first_of_values, item_by}
use Rattle.trace_text.proofs.RoomFaults.{lowest_of_room, lowest_of_words, lines_of_trace}
use Rattle.trace_text.proofs.Readings.{word_reading}

-- ---- keywords

keyword_known_or_not : (version : Version) (keyword : Keyword) → OrNot (HasKeyword version keyword)
keyword_known_or_not One (Access kind.Bump) = inr (λ t. t)
keyword_known_or_not Two (Access kind.Bump) = inl tt
keyword_known_or_not version (Access kind) = inl tt
keyword_known_or_not version keyword = inl tt

-- ---- from values to items

-- a value in the form that the place gives it
abbrev formed : Place → Value → Value
formed FreshName value = OfName (name_in value)
formed MonoidWord value = OfMonoid (monoid_in value)
formed place value = OfNumber (number_in value)

abbrev values_formed : (places last : List Place) → List Value → List Value
values_formed = all_formed (OfNumber 0) formed

marked_formed : (values : List Value) → values_formed [] (Mark ∷ []) values ≡ if_there (count_in values)
marked_formed [] = refl
marked_formed (value ∷ values) = refl

counted_formed : (values : List Value) → values_formed [] (Number 1 most_cells ∷ []) values ≡ if_there (count_in values)
counted_formed [] = refl
counted_formed (value ∷ values) = refl

module _ (at : ℕ) (known : Known) (ws : List (List ℕ)) where
  word_formed : (place : Place) (word : List ℕ) (value : Value) → WordMeans known place word value → value ≡ formed place value
  word_formed FreshName word (OfName name) m = refl
  word_formed (Number low high) word (OfNumber number) m = refl
  word_formed Cell word (OfNumber number) m = refl
  word_formed ReducerName word (OfNumber number) m = refl
  word_formed MonoidWord word (OfMonoid monoid) m = refl
  word_formed Mark word (OfNumber number) m = refl
  word_formed place word value m = absurd m

  line_as : (keyword : Keyword) (values : List Value) → Says known ws keyword values → values ≡ values_formed (wanted keyword) (option_to_list (optional keyword)) values
  line_as keyword values says = line_formed (OfNumber 0) formed (WordMeans known) word_formed table known.version ws keyword values says

  -- a mark behind the other values
  marked : (keyword : Keyword) (values : List Value) (front : List Value → List Value) (rest : List Value) → values ≡ front (values_formed [] (Mark ∷ []) rest)
      → Says known ws keyword values → Says known ws keyword (front (if_there (count_in rest)))
  marked keyword values front rest e says = subst (λ (vs : List Value). Says known ws keyword vs) (e ∙ ap front (marked_formed rest)) says

  -- what a keyword and values of its places say
  item_said : (keyword : Keyword) (values : List Value) → Says known ws keyword values → ItemMeans at known ws (item_by at keyword values)
  item_said MemWord values says =
      subst (λ (vs : List Value). Says known ws MemWord vs)
      (line_as MemWord values says ∙ ap (λ (vs : List Value). OfName (name_in (first_of_values values)) ∷ vs) (counted_formed (behind_first values))) says
  item_said ReducerWord values says = subst (λ (vs : List Value). Says known ws ReducerWord vs) (line_as ReducerWord values says) says
  item_said Spawn values says =
      (count_in (behind_first values), marked Spawn values (λ vs. OfNumber (number_in (first_of_values values)) ∷ vs) (behind_first values) (line_as Spawn values says) says, refl, refl, refl)
  item_said Call values says =
      (count_in (behind_first values), marked Call values (λ vs. OfNumber (number_in (first_of_values values)) ∷ vs) (behind_first values) (line_as Call values says) says, refl, refl, refl)
  item_said Sync values says =
      (count_in (behind_first values), marked Sync values (λ vs. OfNumber (number_in (first_of_values values)) ∷ vs) (behind_first values) (line_as Sync values says) says, refl, refl, refl)
  item_said Return values says =
      (count_in (behind_first values), marked Return values (λ vs. OfNumber (number_in (first_of_values values)) ∷ vs) (behind_first values) (line_as Return values says) says, refl, refl, refl)
  item_said (Access kind.Read) values says =
      (count_in (behind_first (behind_first values)), marked (Access kind.Read) values (λ vs. OfNumber (number_in (first_of_values values)) ∷ OfNumber (number_in (first_of_values (behind_first values))) ∷ vs) (behind_first (behind_first values)) (line_as (Access kind.Read) values says) says, refl, refl, refl)
  item_said (Access kind.Get) values says =
      (count_in (behind_first (behind_first values)), marked (Access kind.Get) values (λ vs. OfNumber (number_in (first_of_values values)) ∷ OfNumber (number_in (first_of_values (behind_first values))) ∷ vs) (behind_first (behind_first values)) (line_as (Access kind.Get) values says) says, refl, refl, refl)
  item_said (Access kind.Write) values says =
      (count_in (behind_first (behind_first (behind_first values))), marked (Access kind.Write) values (λ vs. OfNumber (number_in (first_of_values values)) ∷ OfNumber (number_in (first_of_values (behind_first values))) ∷ OfNumber (number_in (first_of_values (behind_first (behind_first values)))) ∷ vs) (behind_first (behind_first (behind_first values))) (line_as (Access kind.Write) values says) says, refl, refl, refl)
  item_said (Access kind.Bump) values says =
      (count_in (behind_first (behind_first (behind_first values))), marked (Access kind.Bump) values (λ vs. OfNumber (number_in (first_of_values values)) ∷ OfNumber (number_in (first_of_values (behind_first values))) ∷ OfNumber (number_in (first_of_values (behind_first (behind_first values)))) ∷ vs) (behind_first (behind_first (behind_first values))) (line_as (Access kind.Bump) values says) says, refl, refl, refl)
  item_said (Access kind.Update) values says =
      (count_in (behind_first (behind_first (behind_first values))), marked (Access kind.Update) values (λ vs. OfNumber (number_in (first_of_values values)) ∷ OfNumber (number_in (first_of_values (behind_first values))) ∷ OfNumber (number_in (first_of_values (behind_first (behind_first values)))) ∷ vs) (behind_first (behind_first (behind_first values))) (line_as (Access kind.Update) values says) says, refl, refl, refl)
  item_said (Access kind.Put) values says =
      (count_in (behind_first (behind_first (behind_first values))), marked (Access kind.Put) values (λ vs. OfNumber (number_in (first_of_values values)) ∷ OfNumber (number_in (first_of_values (behind_first values))) ∷ OfNumber (number_in (first_of_values (behind_first (behind_first values)))) ∷ vs) (behind_first (behind_first (behind_first values))) (line_as (Access kind.Put) values says) says, refl, refl, refl)

-- the words of a line say something, or have a lowest fault
words_told : (at : ℕ) (known : Known) (ws : List (List ℕ)) → ((item : Item) × ItemMeans at known ws item) ⊎ ((cause : Cause) × IsLowest (WordsFault known ws) cause)
words_told at known [] = inl (Blank, refl)
words_told at known (word ∷ arguments) = go (line_told_by (clear known) (word_reading known) known.version (keyword_known_or_not known.version) word arguments)
  where
    go : Told (clear known) (word_reading known) known.version (keyword_known_or_not known.version) (word ∷ arguments) →
        ((item : Item) × ItemMeans at known (word ∷ arguments) item) ⊎ ((cause : Cause) × IsLowest (WordsFault known (word ∷ arguments)) cause)
    go (inl (keyword, values, says)) = inl (item_by at keyword values, item_said at known (word ∷ arguments) keyword values says)
    go (inr (cause, f)) = inr (cause, f)

-- ---- lines

none_below_first : (lower : Cause) → cause_number lower < 1 → ⊥
none_below_first lower l = by (cause_number lower) l (above lower)
  where
    above : (cause : Cause) → 1 ≤ cause_number cause
    above NotText = omega arith
    above BadHeader = omega arith
    above BadWord = omega arith
    above BadNumber = omega arith
    above UnknownName = omega arith
    above TwiceNamed = omega arith
    above BadNesting = omega arith
    above NoMain = omega arith
    above TooMany = omega arith

    by : (n : ℕ) → n < 1 → 1 ≤ n → ⊥
    by n l m = omega arith

order_or_not : (before : Contents) (item : Item) → OrNot (IsInOrder before item)
order_or_not before Blank = inl tt
order_or_not before (Declared name length) = empty_or_not before.lines
order_or_not before (Reduces name monoid) = empty_or_not before.lines
order_or_not before (Asked line) = inl tt

room_or_not : (before : Contents) (item : Item) → OrNot (HasRoom before item)
room_or_not before Blank = inl tt
room_or_not before (Declared name length) = most_or_not (cells_of before.known.mems + unwrap_or length 1) most_cells
room_or_not before (Reduces name monoid) = below_or_not (length before.known.reducers) most_reducers
room_or_not before (Asked line) = below_or_not (length before.lines) most_requests

line_told : (at : ℕ) (before : Contents) (line : List ℕ) → ((item : Item) × LineMeans at before line item) ⊎ ((cause : Cause) × IsLowest (LineFault at before line) cause)
line_told at before line = go (text_line_or_not line) (words_told at before.known (words line))
  where
    said : IsTextLine line → (item : Item) → ItemMeans at before.known (words line) item → OrNot (IsInOrder before item) → OrNot (most_lines < at) → OrNot (HasRoom before item) →
        ((item : Item) × LineMeans at before line item) ⊎ ((cause : Cause) × IsLowest (LineFault at before line) cause)
    said text item m (inr fails) few room =
        inr (BadNesting, lowest_of_room at before line item text m (item_clean before.known at (words line) item m) BadNesting fails)
    said text item m (inl order) (inl many) room =
        inr (TooMany, lowest_of_room at before line item text m (item_clean before.known at (words line) item m) TooMany (order, inl many))
    said text item m (inl order) (inr few) (inr fails) =
        inr (TooMany, lowest_of_room at before line item text m (item_clean before.known at (words line) item m) TooMany (order, inr fails))
    said text item m (inl order) (inr few) (inl room) = inl (item, (within at few, text, m, order, room))
      where
        within : (n : ℕ) → (most_lines < n → ⊥) → n ≤ most_lines
        within n few = omega arith

    go : OrNot (IsTextLine line) → ((item : Item) × ItemMeans at before.known (words line) item) ⊎ ((cause : Cause) × IsLowest (WordsFault before.known (words line)) cause) →
        ((item : Item) × LineMeans at before line item) ⊎ ((cause : Cause) × IsLowest (LineFault at before line) cause)
    go (inr fails) told = inr (NotText, (fails, λ lower l f. none_below_first lower l))
    go (inl text) (inl (item, m)) = said text item m (order_or_not before item) (below_or_not most_lines at) (room_or_not before item)
    go (inl text) (inr (cause, f)) = inr (cause, lowest_of_words at before line text cause f)

lines_told : (at : ℕ) (before : Contents) (ls : List (List ℕ)) →
    ((contents : Contents) × LinesMean at before ls contents) ⊎ ((bad : ℕ) × (cause : Cause) × LinesFault at before ls bad cause)
lines_told at before [] = inl (before, refl)
lines_told at before (line ∷ ls) = go (λ item. lines_told (at + 1) (extended at before item) ls) (line_told at before line)
  where
    behind : (item : Item) → LineMeans at before line item →
        ((contents : Contents) × LinesMean (at + 1) (extended at before item) ls contents) ⊎ ((bad : ℕ) × (cause : Cause) × LinesFault (at + 1) (extended at before item) ls bad cause) →
        ((contents : Contents) × LinesMean at before (line ∷ ls) contents) ⊎ ((bad : ℕ) × (cause : Cause) × LinesFault at before (line ∷ ls) bad cause)
    behind item m (inl (contents, means)) = inl (contents, (item, m, means))
    behind item m (inr (bad, cause, f)) = inr (bad, cause, inr (item, m, f))

    go : ((item : Item) →
        ((contents : Contents) × LinesMean (at + 1) (extended at before item) ls contents) ⊎ ((bad : ℕ) × (cause : Cause) × LinesFault (at + 1) (extended at before item) ls bad cause)) →
        ((item : Item) × LineMeans at before line item) ⊎ ((cause : Cause) × IsLowest (LineFault at before line) cause) →
        ((contents : Contents) × LinesMean at before (line ∷ ls) contents) ⊎ ((bad : ℕ) × (cause : Cause) × LinesFault at before (line ∷ ls) bad cause)
    go rest (inl (item, m)) = behind item m (rest item)
    go rest (inr (cause, f)) = inr (at, cause, inl (refl, f))

-- ---- texts

-- the first line is that of a version, or has a lowest fault
pub header_told : (line : List ℕ) → ((version : Version) × IsHeader line version) ⊎ ((cause : Cause) × IsLowest (HeaderFault line) cause)
header_told line = go (text_line_or_not line) (spelled (words line) One) (spelled (words line) Two)
  where
    one_word : (word other : List ℕ) → OrNot (word ≡ other) → OrNot (word ∷ [] ≡ other ∷ [])
    one_word word other (inl e) = inl (ap (λ w. w ∷ []) e)
    one_word word other (inr fails) = inr (λ e. fails cc)

    two_words : (first second word other : List ℕ) → OrNot (first ≡ word) → OrNot (second ≡ other) → OrNot (first ∷ second ∷ [] ≡ word ∷ other ∷ [])
    two_words first second word other (inl e) (inl f) = inl cc
    two_words first second word other (inr fails) f = inr (λ e. fails cc)
    two_words first second word other (inl e) (inr fails) = inr (λ e. fails cc)

    spelled : (ws : List (List ℕ)) (version : Version) → OrNot (ws ≡ codes "cilk" ∷ version_spelling version ∷ [])
    spelled [] version = inr (λ e. cc)
    spelled (first ∷ []) version = inr (λ e. cc)
    spelled (first ∷ second ∷ []) version =
        two_words first second (codes "cilk") (version_spelling version) (word_or_not first (codes "cilk")) (word_or_not second (version_spelling version))
    spelled (first ∷ second ∷ third ∷ rest) version = inr (λ e. cc)

    below : IsTextLine line → (lower : Cause) → cause_number lower < 2 → HeaderFault line lower → ⊥
    below text NotText l f = f text
    below text BadHeader l f = absurd (omega arith)
    below text cause l f = f

    neither : (words line ≡ codes "cilk" ∷ version_spelling One ∷ [] → ⊥) → (words line ≡ codes "cilk" ∷ version_spelling Two ∷ [] → ⊥) → (version : Version) → IsHeader line version → ⊥
    neither fails other One h = fails h.1
    neither fails other Two h = other h.1

    go : OrNot (IsTextLine line) → OrNot (words line ≡ codes "cilk" ∷ version_spelling One ∷ []) → OrNot (words line ≡ codes "cilk" ∷ version_spelling Two ∷ []) →
        ((version : Version) × IsHeader line version) ⊎ ((cause : Cause) × IsLowest (HeaderFault line) cause)
    go (inr fails) one two = inr (NotText, (fails, λ lower l f. none_below_first lower l))
    go (inl text) (inl e) two = inl (One, (text, e))
    go (inl text) (inr fails) (inl e) = inl (Two, (text, e))
    go (inl text) (inr fails) (inr other) = inr (BadHeader, (neither fails other, below text))

text_told_by : (ls : List (List ℕ)) → ((contents : Contents) × LinesOfTrace ls contents) ⊎ ((bad : ℕ) × (cause : Cause) × FaultOfLines ls bad cause)
text_told_by [] = inr (1, BadHeader, (refl, refl))
text_told_by (first ∷ rest) = go (header_told first)
  where
    behind : (version : Version) → IsHeader first version →
        ((contents : Contents) × LinesMean 2 (nothing version) rest contents) ⊎ ((bad : ℕ) × (cause : Cause) × LinesFault 2 (nothing version) rest bad cause) →
        ((contents : Contents) × LinesOfTrace (first ∷ rest) contents) ⊎ ((bad : ℕ) × (cause : Cause) × FaultOfLines (first ∷ rest) bad cause)
    behind version h (inl (contents, m)) = inl (contents, lines_of_trace version first rest contents h m)
    behind version h (inr (bad, cause, f)) = inr (bad, cause, inr (version, h, f))

    go : ((version : Version) × IsHeader first version) ⊎ ((cause : Cause) × IsLowest (HeaderFault first) cause) →
        ((contents : Contents) × LinesOfTrace (first ∷ rest) contents) ⊎ ((bad : ℕ) × (cause : Cause) × FaultOfLines (first ∷ rest) bad cause)
    go (inl (version, h)) = behind version h (lines_told 2 (nothing version) rest)
    go (inr (cause, f)) = inr (1, cause, inl (refl, f))

pub text_told : MeaningOrFault
text_told text = text_told_by (lines text)
