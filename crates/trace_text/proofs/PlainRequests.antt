-- Requests in plain form mean what their lines mean.
use Rattle.std.proofs.Common.{◌≡◌, ◌⊎◌, ◌++◌, ◌∷◌, [], ◌+◌, ◌-◌, ◌≤◌, ◌∙◌, ℕ, List, Bool, true, false, cond, length, take, drop, arith, refl, ap, sym, subst, inl, inr, slice_index_or, append_assoc}
use Rattle.std.specs.Prelude.{Option, Some, None, option_map}
use Rattle.std.specs.List.{All}
use Rattle.std.proofs.lemmas.List.{take_all, append-nil}
use Rattle.model_accesses.specs.declared.kind.Kind.{Kind}
use Rattle.model_accesses.specs.declared.kind.Kind.TheVariants as kind
use Rattle.model_accesses.specs.declared.request.Act.{Act}
use Rattle.model_accesses.specs.declared.request.Act.TheVariants as act
use Rattle.text_words.specs.declared.value.Mem.{Mem}
use Rattle.text_words.specs.declared.names.Named.TheVariants.{Single, Array, Reducer}
use Rattle.text_words.specs.Text.{words, IsTextLine, IsName}
use Rattle.model_accesses.specs.Limits.{most_cells}
use Rattle.text_words.specs.Limits.{max_strand, max_value}
use Rattle.text_words.specs.Values.{Known}
use Rattle.text_words.specs.Names.{memory_named, reducer_named, SingleMeans, ElementMeans, element_word}
use Rattle.text_words.specs.Index.{IsInRange, named, named_by}
use Rattle.trace_text.specs.declared.keyword.Keyword.{Keyword}
use Rattle.trace_text.specs.declared.keyword.Keyword.TheVariants.{Access}
use Rattle.trace_text.specs.Items.{place_of, access_of}
use Rattle.trace_text.specs.Lines.{Place, Number, Cell, ReducerName, Mark, wanted, optional, Value, OfNumber, Says, asks, operands, if_there, a_strand, a_value, spelling, HasKeyword, IsControl}
use Rattle.trace_text.specs.Printing.{behind_space, spaced, plain_words, plain_line}
use Rattle.trace_text.specs.Plain.{IsSettled, ArePlain, HasNumber, HasNext, HasValue, HasIndex, HasEnd, HasPlaces, BeginsRequest}
use Rattle.trace_text.proofs.CellWords.{flat}
use Rattle.trace_text.proofs.NamedWords.{element_means, array_end}
use Rattle.trace_text.proofs.PlainWords.{digits_plain, name_plain, words_spaced, text_spaced}
use Rattle.trace_text.proofs.PlainPlaces.{brackets, spelling_plain, single_plain, element_named, reducer_plain}

-- ---- bytes

pub behind_byte : (bytes : List ℕ) (b : ℕ) → 1 ≤ length bytes → slice_index_or bytes 0 0 ≡ b → bytes ≡ b ∷ take (length bytes - 1) (drop 1 bytes)
behind_byte [] b some is = absurd (omega arith)
behind_byte (c ∷ bytes) b some is =
    ap (λ (n : ℕ). n ∷ bytes) is ∙ ap (λ (l : List ℕ). b ∷ l) (sym (take_all (length (c ∷ bytes) - 1) bytes (omega arith)))

pub behind_two : (bytes : List ℕ) (a b : ℕ) → 2 ≤ length bytes → slice_index_or bytes 0 0 ≡ a → slice_index_or bytes 1 0 ≡ b
    → bytes ≡ a ∷ b ∷ take (length bytes - 2) (drop 2 bytes)
behind_two [] a b some first second = absurd (omega arith)
behind_two (c ∷ []) a b some first second = absurd (omega arith)
behind_two (c ∷ d ∷ bytes) a b some first second =
    ap (λ (n : ℕ). n ∷ d ∷ bytes) first ∙ (ap (λ (n : ℕ). a ∷ n ∷ bytes) second
    ∙ ap (λ (l : List ℕ). a ∷ b ∷ l) (sym (take_all (length (c ∷ d ∷ bytes) - 2) bytes (omega arith))))

-- ---- numbers

pub next_number : (known : Known) (bytes rest : List ℕ) (low high n : ℕ) → 1 ≤ length bytes → slice_index_or bytes 0 0 ≡ 32
    → HasNumber (take (length bytes - 1) (drop 1 bytes)) n rest → low ≤ n → n ≤ high → HasNext known (Number low high) bytes (OfNumber n) rest
next_number known bytes rest low high n some space has l h =
    (take (length bytes - 1) (drop 1 bytes), behind_byte bytes 32 some space, (has.0, has.1, (has.2.0, digits_plain has.0 has.2.1), (has.2, l, h), λ settled. has.4))

-- ---- ends of lines

pub ends_plain : (known : Known) (bytes : List ℕ) → 1 ≤ length bytes → slice_index_or bytes 0 0 ≡ 10
    → HasEnd known [] (Some Mark) bytes [] (take (length bytes - 1) (drop 1 bytes))
ends_plain known bytes some feed = record {
  ws = [];
  pairs = [];
  split = behind_byte bytes 10 some feed;
  plain = tt;
  in_places = refl;
  mean = tt;
  exact = λ settled. refl;
}

pub ends_marked : (known : Known) (bytes behind : List ℕ) (n : ℕ) → 2 ≤ length bytes → slice_index_or bytes 0 0 ≡ 32 → slice_index_or bytes 1 0 ≡ 64
    → HasNumber (take (length bytes - 2) (drop 2 bytes)) n behind → 1 ≤ n → n ≤ max_strand → 1 ≤ length behind → slice_index_or behind 0 0 ≡ 10
    → HasEnd known [] (Some Mark) bytes (OfNumber n ∷ []) (take (length behind - 1) (drop 1 behind))
ends_marked known bytes behind n some space at has l h more feed =
    let rest = take (length behind - 1) (drop 1 behind) in
    let digits = has.0 in
    let digits_end : digits ++ behind ≡ (digits ++ []) ++ 10 ∷ rest =
    ap (λ (b : List ℕ). digits ++ b) (behind_byte behind 10 more feed) ∙ sym (append_assoc digits [] (10 ∷ rest)) in
    record {
      ws = (64 ∷ digits) ∷ [];
      pairs = (Mark, 64 ∷ digits) ∷ [];
      split = behind_two bytes 32 64 some space at ∙ ap (λ (b : List ℕ). 32 ∷ 64 ∷ b) (has.1 ∙ digits_end);
      plain = ((omega arith, (refl, digits_plain digits has.2.1)), tt);
      in_places = refl;
      mean = ((digits, refl, (has.2, l, h)), tt);
      exact = λ settled. ap (λ (ds : List ℕ). (64 ∷ ds) ∷ []) has.4;
    }

-- one more word before the end
pub next_end : (known : Known) (place : Place) (places : List Place) (last : Option Place) (bytes rest behind : List ℕ) (value : Value) (values : List Value)
    → HasNext known place bytes value rest → HasEnd known places last rest values behind → HasEnd known (place ∷ places) last bytes (value ∷ values) behind
next_end known place places last bytes rest behind value values next end =
    let word = next.2.0 in
    let all : word ++ rest ≡ (word ++ behind_space end.ws) ++ 10 ∷ behind =
    ap (λ (b : List ℕ). word ++ b) end.split ∙ sym (append_assoc word (behind_space end.ws) (10 ∷ behind)) in
    record {
      ws = word ∷ end.ws;
      pairs = (place, word) ∷ end.pairs;
      split = next.1 ∙ ap (λ (b : List ℕ). 32 ∷ b) (next.2.1 ∙ all);
      plain = (next.2.2, end.plain);
      in_places = ap (option_map (λ ps. (place, word) ∷ ps)) end.in_places;
      mean = (next.2.3, end.mean);
      exact = λ settled.
          ap (λ (w : List ℕ). w ∷ plain_words known places last values) (next.2.4 settled) ∙ ap (λ (ws : List (List ℕ)). word ∷ ws) (end.exact settled);
    }

pub one_place : (known : Known) (place : Place) (bytes rest : List ℕ) (value : Value) → HasNext known place bytes value rest
    → HasPlaces known (place ∷ []) bytes (value ∷ []) rest
one_place known place bytes rest value next others more behind end = next_end known place others (Some Mark) bytes rest behind value more next end

pub two_places : (known : Known) (place other : Place) (bytes between rest : List ℕ) (first second : Value)
    → HasNext known place bytes first between → HasNext known other between second rest
    → HasPlaces known (place ∷ other ∷ []) bytes (first ∷ second ∷ []) rest
two_places known place other bytes between rest first second next then others more behind end =
    next_end known place (other ∷ others) (Some Mark) bytes between behind first (second ∷ more) next
    (next_end known other others (Some Mark) between rest behind second more then end)

pub value_behind : (known : Known) (places : List Place) (bytes between rest : List ℕ) (values : List Value) (number : ℕ)
    → HasPlaces known places bytes values between → HasNext known a_value between (OfNumber number) rest
    → HasPlaces known (places ++ a_value ∷ []) bytes (values ++ OfNumber number ∷ []) rest
value_behind known places bytes between rest values number has next others more behind end =
    rw (append_assoc places (a_value ∷ []) others, append_assoc values (OfNumber number ∷ []) more)
    (has (a_value ∷ others) (OfNumber number ∷ more) behind
    (next_end known a_value others (Some Mark) between rest behind (OfNumber number) more next end))

-- ---- names

single_by : (array : Bool) (cell first size : ℕ) → Some (Single cell) ≡ Some (cond array (Array first size) (Single first)) → (array ≡ false) × (cell ≡ first)
single_by true cell first size e = cc
single_by false cell first size e = (refl, cc)

single_named_by : (mem : Option Mem) (reducer : Option ℕ) (cell : ℕ) → Some (Single cell) ≡ named_by mem reducer
    → (found : Mem) × (mem ≡ Some found) × (found.array ≡ false) × (cell ≡ found.first)
single_named_by (Some mem) reducer cell e = let same = single_by mem.array cell mem.first mem.cells e in (mem, refl, same.0, same.1)
single_named_by None None cell e = cc
single_named_by None (Some reducer) cell e = cc

pub single_named : (known : Known) (name : List ℕ) (cell : ℕ) → IsName name → Some (Single cell) ≡ named known name → SingleMeans known.mems name cell
single_named known name cell n e =
    let found = single_named_by (memory_named known.mems name) (reducer_named known.reducers name) cell e in
    (n, found.0, (found.1, found.2), found.3)

not_reducer : (array : Bool) (reducer first size : ℕ) → Some (Reducer reducer) ≡ Some (cond array (Array first size) (Single first)) → ⊥
not_reducer true reducer first size e = cc
not_reducer false reducer first size e = cc

reducer_named_by : (mem : Option Mem) (reducer : Option ℕ) (number : ℕ) → Some (Reducer number) ≡ named_by mem reducer → reducer ≡ Some number
reducer_named_by (Some mem) reducer number e = absurd (not_reducer mem.array number mem.first mem.cells e)
reducer_named_by None None number e = cc
reducer_named_by None (Some reducer) number e = cc

-- what stands behind a space is a name
pub record IsNextName (bytes name rest : List ℕ) : Type 0 where
  pub some : 1 ≤ length bytes
  pub space : slice_index_or bytes 0 0 ≡ 32
  pub split : take (length bytes - 1) (drop 1 bytes) ≡ name ++ rest
  pub is_name : IsName name

module _ (known : Known) (bytes name rest : List ℕ) (next : IsNextName bytes name rest) where
  pub next_single : (cell : ℕ) → Some (Single cell) ≡ named known name → HasNext known Cell bytes (OfNumber cell) rest
  next_single cell e = (
    take (length bytes - 1) (drop 1 bytes),
    behind_byte bytes 32 next.some next.space,
    (
      name,
      next.split,
      name_plain name next.is_name,
      inl (single_named known name cell next.is_name e),
      λ settled. single_plain known.mems name cell settled.0 settled.1 (single_named known name cell next.is_name e),
    ),
  )

  pub next_reducer : (number : ℕ) → Some (Reducer number) ≡ named known name → HasNext known ReducerName bytes (OfNumber number) rest
  next_reducer number e = (
    take (length bytes - 1) (drop 1 bytes),
    behind_byte bytes 32 next.some next.space,
    (
      name,
      next.split,
      name_plain name next.is_name,
      (next.is_name, reducer_named_by (memory_named known.mems name) (reducer_named known.reducers name) number e),
      λ settled. reducer_plain known settled.0 settled.1 name number
          (reducer_named_by (memory_named known.mems name) (reducer_named known.reducers name) number e),
    ),
  )

  pub next_element : (first cells cell : ℕ) (behind : List ℕ) → Some (Array first cells) ≡ named known name → All IsInRange known.mems
      → HasIndex rest first cells cell behind → HasNext known Cell bytes (OfNumber cell) behind
  next_element first cells cell behind e all has =
      let digits = has.0 in
      let i = has.1 in
      let end : first + cells ≤ most_cells = array_end known name first cells all e in
      let small : i ≤ max_value = omega (arith, has.4) in
      let means = element_means known name digits first cells i next.is_name e (has.3, omega arith, small) has.4 in
      let whole : name ++ rest ≡ element_word name digits ++ behind =
      ap (λ (b : List ℕ). name ++ b) has.2 ∙ sym (ap (λ (w : List ℕ). w ++ behind) (flat name digits) ∙ flat_behind digits) in (
        take (length bytes - 1) (drop 1 bytes),
        behind_byte bytes 32 next.some next.space,
        (
          element_word name digits,
          next.split ∙ whole,
          brackets name digits (name_plain name next.is_name) (has.3.0, digits_plain digits has.3.1),
          inr (name, digits, refl, subst (λ (n : ℕ). ElementMeans known.mems name digits n) (sym has.5) means),
          λ settled. element_named known.mems name digits cell i settled.0 (subst (λ (n : ℕ). ElementMeans known.mems name digits n) (sym has.5) means) has.3 has.6,
        ),
      )
    where
      flat_behind : (digits : List ℕ) → (name ++ 91 ∷ (digits ++ 93 ∷ [])) ++ behind ≡ name ++ 91 ∷ (digits ++ 93 ∷ behind)
      flat_behind digits = simp append_assoc

-- ---- lines

mark_optional : (a : Act) → optional (asks a) ≡ Some Mark
mark_optional act.Spawn = refl
mark_optional act.Sync = refl
mark_optional act.Call = refl
mark_optional act.Return = refl
mark_optional (act.Read cell) = refl
mark_optional (act.Write cell value) = refl
mark_optional (act.Bump cell value) = refl
mark_optional (act.Update reducer value) = refl
mark_optional (act.Put reducer value) = refl
mark_optional (act.Get reducer) = refl

-- a keyword and what ends the line are the line
line_says : (known : Known) (keyword : Keyword) (bytes behind rest : List ℕ) (values : List Value) → HasKeyword known.version keyword
    → bytes ≡ spelling keyword ++ behind → HasEnd known (wanted keyword) (optional keyword) behind values rest
    → (line : List ℕ) × (bytes ≡ line ++ 10 ∷ rest) × IsTextLine line × Says known (words line) keyword values
    × (IsSettled known → plain_line known keyword values ≡ line)
line_says known keyword bytes behind rest values has split end =
    let plain : ArePlain (spelling keyword ∷ end.ws) = (spelling_plain keyword, end.plain) in (
      spaced (spelling keyword ∷ end.ws),
      split ∙ (ap (λ (b : List ℕ). spelling keyword ++ b) end.split ∙ sym (append_assoc (spelling keyword) (behind_space end.ws) (10 ∷ rest))),
      text_spaced (spelling keyword ∷ end.ws) plain,
      (end.pairs, (end.ws, words_spaced (spelling keyword) end.ws plain, has, end.in_places), end.mean),
      λ settled. ap (λ (ws : List (List ℕ)). spaced (spelling keyword ∷ ws)) (end.exact settled),
    )

-- a keyword, and words in the places that it wants, are a request
pub begins_request : (known : Known) (act : Act) (strand : ℕ) (bytes behind rest : List ℕ) → HasKeyword known.version (asks act)
    → bytes ≡ spelling (asks act) ++ behind → HasPlaces known (wanted (asks act)) behind (OfNumber strand ∷ operands act) rest
    → BeginsRequest known bytes strand act rest
begins_request known act strand bytes behind rest has split places mark after end =
    let values = OfNumber strand ∷ (operands act ++ if_there mark) in
    let marked : HasEnd known (wanted (asks act)) (Some Mark) behind values after =
    subst (λ (ps : List Place). HasEnd known ps (Some Mark) behind values after) (append-nil (wanted (asks act))) (places [] (if_there mark) after end) in
    let whole : HasEnd known (wanted (asks act)) (optional (asks act)) behind values after =
    subst (λ (o : Option Place). HasEnd known (wanted (asks act)) o behind values after) (sym (mark_optional act)) marked in
    let line = line_says known (asks act) bytes behind after values has split whole in
    (line.0, line.1, line.2, (λ at. (mark, line.3, refl, refl, refl)), line.4)

-- the same of a request without operands
pub begins_control : (known : Known) (a : Act) (strand : ℕ) (bytes behind rest : List ℕ) → IsControl a
    → bytes ≡ spelling (asks a) ++ behind → HasNext known a_strand behind (OfNumber strand) rest → BeginsRequest known bytes strand a rest
begins_control known act.Spawn strand bytes behind rest is split next = begins_request known act.Spawn strand bytes behind rest tt split (one_place known a_strand behind rest (OfNumber strand) next)
begins_control known act.Sync strand bytes behind rest is split next = begins_request known act.Sync strand bytes behind rest tt split (one_place known a_strand behind rest (OfNumber strand) next)
begins_control known act.Call strand bytes behind rest is split next = begins_request known act.Call strand bytes behind rest tt split (one_place known a_strand behind rest (OfNumber strand) next)
begins_control known act.Return strand bytes behind rest is split next = begins_request known act.Return strand bytes behind rest tt split (one_place known a_strand behind rest (OfNumber strand) next)
begins_control known a strand bytes behind rest is split next = absurd is

pub value_stands : (known : Known) (k : Kind) (bytes rest : List ℕ) (value : ℕ)
    → (k ≡ kind.Write) ⊎ ((k ≡ kind.Bump) ⊎ ((k ≡ kind.Update) ⊎ (k ≡ kind.Put))) → HasNext known a_value bytes (OfNumber value) rest → HasValue known k bytes value rest
value_stands known k bytes rest value is n = elim is [ inl e ↦ by kind.Write e n | inr b ↦ elim b [ inl e ↦ by kind.Bump e n | inr c ↦ elim c [ inl e ↦ by kind.Update e n | inr e ↦ by kind.Put e n ] ] ]
  where
    by : (other : Kind) → k ≡ other → HasValue known other bytes value rest → HasValue known k bytes value rest
    by other e v = subst (λ (x : Kind). HasValue known x bytes value rest) (sym e) v

-- the same of an access
module _ (known : Known) (strand place value : ℕ) (bytes behind first second rest : List ℕ) (next : HasNext known a_strand behind (OfNumber strand) first) where
  alone : (where_is : Place) → HasNext known where_is first (OfNumber place) second → rest ≡ second
      → HasPlaces known (a_strand ∷ where_is ∷ []) behind (OfNumber strand ∷ OfNumber place ∷ []) rest
  alone where_is p same =
      two_places known a_strand where_is behind first rest (OfNumber strand) (OfNumber place) next
      (subst (λ (bs : List ℕ). HasNext known where_is first (OfNumber place) bs) (sym same) p)

  valued : (where_is : Place) → HasNext known where_is first (OfNumber place) second → HasNext known a_value second (OfNumber value) rest
      → HasPlaces known (a_strand ∷ where_is ∷ a_value ∷ []) behind (OfNumber strand ∷ OfNumber place ∷ OfNumber value ∷ []) rest
  valued where_is p v =
      value_behind known (a_strand ∷ where_is ∷ []) behind second rest (OfNumber strand ∷ OfNumber place ∷ []) value
      (two_places known a_strand where_is behind first second (OfNumber strand) (OfNumber place) next p) v

  pub begins_access : (k : Kind) → HasKeyword known.version (Access k) → bytes ≡ spelling (Access k) ++ behind
      → HasNext known (place_of k) first (OfNumber place) second → HasValue known k second value rest → BeginsRequest known bytes strand (access_of k place value) rest
  begins_access kind.Write has split p v = begins_request known (act.Write place value) strand bytes behind rest has split (valued Cell p v)
  begins_access kind.Bump has split p v = begins_request known (act.Bump place value) strand bytes behind rest has split (valued Cell p v)
  begins_access kind.Read has split p v = begins_request known (act.Read place) strand bytes behind rest has split (alone Cell p v)
  begins_access kind.Update has split p v = begins_request known (act.Update place value) strand bytes behind rest has split (valued ReducerName p v)
  begins_access kind.Put has split p v = begins_request known (act.Put place value) strand bytes behind rest has split (valued ReducerName p v)
  begins_access kind.Get has split p v = begins_request known (act.Get place) strand bytes behind rest has split (alone ReducerName p v)
