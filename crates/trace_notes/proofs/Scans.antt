-- Where a location ends, and where a bar begins.
use Rattle.std.proofs.Common.{◌≡◌, ℕ, ◌+◌, ◌<◌, ◌≤◌, ◌&&◌, List, [], ◌∷◌, length, drop, get_or, Option, Some, None, true, false, refl, ap, sym, ◌∙◌, arith, add-zero, length-drop, ◌⊎◌, inl, inr}
use Rattle.std.proofs.lemmas.List.{drop_more, get_or-drop}
use Rattle.std.proofs.Math.ListN.{drop_of_length-le}
use Rattle.std.proofs.lemmas.Bool.Decides.{nat_tests}
use Rattle.std.specs.Option.{option_map}
use Rattle.std.specs.Str.{IsUtf8, IsCharBoundary}
use Rattle.std.proofs.lemmas.Str.{IsCharBoundary-before_ascii, IsCharBoundary-after_ascii, IsCharBoundary-end}
use Rattle.trace_notes.specs.declared.place.Seen.{Seen}
use Rattle.trace_notes.specs.Places.{advanced, begins_function, begins_code, is_end, is_number, location_len, bar_at}

abbrev pub shifted : ℕ → Option ℕ → Option ℕ
shifted by found = option_map (λ n. n + by) found

pub shifted-none : (found : Option ℕ) → shifted 0 found ≡ found
shifted-none None = refl
shifted-none (Some n) = ap Some (grind arith)

pub shifted-more : (by : ℕ) (found : Option ℕ) → shifted by (option_map (λ n. n + 1) found) ≡ shifted (by + 1) found
shifted-more by None = refl
shifted-more by (Some n) = ap Some (grind arith)

-- ---- bars

-- one byte further
bar_step : (byte : ℕ) (bytes : List ℕ) (at : ℕ) → begins_code (byte ∷ bytes) ≡ false
    → shifted at (bar_at (byte ∷ bytes)) ≡ shifted (at + 1) (bar_at bytes)
bar_step byte bytes at none = rw none (shifted-more at (bar_at bytes))

pub bar_more : (text : List ℕ) (at : ℕ) → at < length text → begins_code (drop at text) ≡ false
    → shifted at (bar_at (drop at text)) ≡ shifted (at + 1) (bar_at (drop (at + 1) text))
bar_more text at l none =
    let e : drop at text ≡ get_or text at 0 ∷ drop (at + 1) text = drop_more text at 0 l in
    rw e (bar_step (get_or text at 0) (drop (at + 1) text) at (rw e at none))

bar_first : (text : List ℕ) (at : ℕ) → begins_code text ≡ true → shifted at (bar_at text) ≡ Some at
bar_first [] at there = absurd (cc)
bar_first (byte ∷ bytes) at there = rw there (ap Some (grind arith))

pub bar_here : (text : List ℕ) (at : ℕ) → begins_code (drop at text) ≡ true → shifted at (bar_at (drop at text)) ≡ Some at
bar_here text at there = bar_first (drop at text) at there

pub bar_nowhere : (text : List ℕ) (at : ℕ) → length text ≤ at → shifted at (bar_at (drop at text)) ≡ None
bar_nowhere text at l = rw (drop_of_length-le text l) refl

-- ---- locations

location_step : (seen : Seen) (byte : ℕ) (bytes : List ℕ) (at : ℕ) → (is_number seen && is_end (byte ∷ bytes)) ≡ false
    → shifted at (location_len seen (byte ∷ bytes)) ≡ shifted (at + 1) (location_len (advanced seen byte) bytes)
location_step seen byte bytes at none = rw none (shifted-more at (location_len (advanced seen byte) bytes))

pub location_more : (seen : Seen) (text : List ℕ) (at : ℕ) → at < length text → (is_number seen && is_end (drop at text)) ≡ false
    → shifted at (location_len seen (drop at text)) ≡ shifted (at + 1) (location_len (advanced seen (get_or text at 0)) (drop (at + 1) text))
location_more seen text at l none =
    let e : drop at text ≡ get_or text at 0 ∷ drop (at + 1) text = drop_more text at 0 l in
    rw e (location_step seen (get_or text at 0) (drop (at + 1) text) at (rw e at none))

location_first : (seen : Seen) (text : List ℕ) (at : ℕ) → is_number seen ≡ true → is_end text ≡ true → shifted at (location_len seen text) ≡ Some at
location_first seen [] at number end = rw number (ap Some (grind arith))
location_first seen (byte ∷ bytes) at number end = rw (number, end) (ap Some (grind arith))

pub location_here : (seen : Seen) (text : List ℕ) (at : ℕ) → is_number seen ≡ true → is_end (drop at text) ≡ true
    → shifted at (location_len seen (drop at text)) ≡ Some at
location_here seen text at number end = location_first seen (drop at text) at number end

pub location_nowhere : (seen : Seen) (text : List ℕ) (at : ℕ) → length text ≤ at → is_number seen ≡ false
    → shifted at (location_len seen (drop at text)) ≡ None
location_nowhere seen text at l none = rw (drop_of_length-le text l, none) refl

-- ---- what stands where a bar or a comma begins

begun_code : (text : List ℕ) → begins_code text ≡ true → (3 ≤ length text) × (get_or text 0 0 ≡ 32) × (get_or text 2 0 ≡ 32)
begun_code [] there = absurd (cc)
begun_code (a ∷ []) there = absurd (cc)
begun_code (a ∷ b ∷ []) there = absurd (cc)
begun_code (a ∷ b ∷ c ∷ rest) there = (omega (arith), grind (arith, nat_tests), grind (arith, nat_tests))

begun_function : (text : List ℕ) → begins_function text ≡ true → (2 ≤ length text) × (get_or text 0 0 ≡ 44) × (get_or text 1 0 ≡ 32)
begun_function [] there = absurd (cc)
begun_function (a ∷ []) there = absurd (cc)
begun_function (a ∷ b ∷ rest) there = (omega (arith), grind (arith, nat_tests), grind (arith, nat_tests))

pub bar_within : (text : List ℕ) (at : ℕ) → begins_code (drop at text) ≡ true → at + 3 ≤ length text
bar_within text at there = omega (arith, length-drop at text, (begun_code (drop at text) there).0)

byte_there : (text : List ℕ) (at i : ℕ) (byte : ℕ) → get_or (drop at text) i 0 ≡ byte → get_or text (at + i) 0 ≡ byte
byte_there text at i byte e = sym (get_or-drop at text i 0) ∙ e

-- a text may be cut there
pub cut_bar : (text : List ℕ) (at : ℕ) → begins_code (drop at text) ≡ true → IsCharBoundary text at
cut_bar text at there =
    let e : get_or text at 0 ≡ 32 = rw add-zero at (byte_there text at 0 32 (begun_code (drop at text) there).1) in
    IsCharBoundary-before_ascii text at (omega (arith, bar_within text at there)) (omega arith)

pub cut_behind_bar : (text : List ℕ) (at : ℕ) → IsUtf8 text → begins_code (drop at text) ≡ true → IsCharBoundary text (at + 3)
cut_behind_bar text at utf8 there =
    let e : get_or text (at + 2) 0 ≡ 32 = byte_there text at 2 32 (begun_code (drop at text) there).2 in
    let same : at + 2 + 1 ≡ at + 3 = omega arith in
    rw same at (IsCharBoundary-after_ascii text (at + 2) utf8 (omega (arith, bar_within text at there)) (omega arith))

pub cut_behind_comma : (text : List ℕ) → IsUtf8 text → begins_function text ≡ true → IsCharBoundary text 2
cut_behind_comma text utf8 there =
    let begun = begun_function text there in
    IsCharBoundary-after_ascii text 1 utf8 (omega (arith, begun.0)) (omega (arith, begun.2))

end_begins : (rest : List ℕ) → is_end rest ≡ true → (length rest ≡ 0) ⊎ ((0 < length rest) × (get_or rest 0 0 < 128))
end_begins [] there = inl refl
end_begins (a ∷ []) there = absurd (cc)
end_begins (a ∷ b ∷ []) there = inr (omega arith, grind (arith, nat_tests))
end_begins (a ∷ b ∷ c ∷ rest) there = inr (omega arith, grind (arith, nat_tests))

pub cut_end : (text : List ℕ) (at : ℕ) → at ≤ length text → is_end (drop at text) ≡ true → IsCharBoundary text at
cut_end text at l there = elim (end_begins (drop at text) there) [
  | inl none ↦ let e : at ≡ length text = omega (arith, length-drop at text, none) in rw e (IsCharBoundary-end text)
  | inr here ↦
      let e : get_or (drop at text) 0 0 ≡ get_or text at 0 = rw add-zero at (get_or-drop at text 0 0) in
      IsCharBoundary-before_ascii text at (omega (arith, length-drop at text, here.0)) (omega (arith, here.1))
]
