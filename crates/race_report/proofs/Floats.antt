-- No number of a memory is a float, so that what is told of it has one text.
use Rattle.std.proofs.Common.{◌≡◌, ℕ, Bool, true, false, ◌||◌, List, [], ◌∷◌, map, take, drop, Ordering, Less, Equal, Greater, nat_cmp, refl}
use Rattle.std.specs.Ordering.{match_ordering}
use Rattle.std.specs.Cmp.Lexicographic.{slice_cmp}
use Rattle.serde_json.specs.Data.{Data, number, unsigned, Members, no_members, member, put}
use Rattle.serde_json.specs.View.{items_of}
use Rattle.serde_json.specs.Written.{has_float, items_have_float, members_have_float}
use Rattle.text_words.specs.declared.value.Mem.{Mem}
use Rattle.race_report.specs.ReportText.{cells_told, memory_put, memory_told}

neither : (one other : Bool) → one ≡ false → other ≡ false → (one || other) ≡ false
neither one other first second = rw (first, second) refl

numbers_whole : (values : List ℕ) → items_have_float (items_of (map (λ value. number (unsigned value)) values)) ≡ false
numbers_whole [] = refl
numbers_whole (value ∷ values) = numbers_whole values

cells_whole : (is_array : Bool) (values : List ℕ) → has_float (cells_told is_array values) ≡ false
cells_whole true values = numbers_whole values
cells_whole false [] = refl
cells_whole false (value ∷ []) = refl
cells_whole false (value ∷ next ∷ values) = numbers_whole values

placed_whole : (order : Ordering) (less equal greater : Members) → members_have_float less ≡ false → members_have_float equal ≡ false →
    members_have_float greater ≡ false → members_have_float (match_ordering order less equal greater) ≡ false
placed_whole Less less equal greater a b c = a
placed_whole Equal less equal greater a b c = b
placed_whole Greater less equal greater a b c = c

left_whole : (one other : Bool) → (one || other) ≡ false → one ≡ false
left_whole true other whole = absurd cc
left_whole false other whole = refl

right_whole : (one other : Bool) → (one || other) ≡ false → other ≡ false
right_whole true other whole = absurd cc
right_whole false other whole = whole

put_whole : (name : List ℕ) (value : Data) (members : Members) → has_float value ≡ false → members_have_float members ≡ false →
    members_have_float (put name value members) ≡ false
put_whole name value no_members whole all = neither (has_float value) false whole refl
put_whole name value (member other held members) whole all =
    let first = left_whole (has_float held) (members_have_float members) all in
    let rest = right_whole (has_float held) (members_have_float members) all in
    placed_whole (slice_cmp nat_cmp name other) (member name value (member other held members)) (member other value members) (member other held (put name value members))
    (neither (has_float value) (has_float held || members_have_float members) whole all)
    (neither (has_float value) (members_have_float members) whole rest)
    (neither (has_float held) (members_have_float (put name value members)) first (put_whole name value members whole rest))

members_whole : (told : Members) (mems : List Mem) (values : List ℕ) → members_have_float told ≡ false →
    members_have_float (memory_put told mems values) ≡ false
members_whole told [] values whole = whole
members_whole told (mem ∷ mems) values whole =
    let cells = cells_told mem.array (take mem.cells values) in
    members_whole (put mem.name cells told) mems (drop mem.cells values)
    (put_whole mem.name cells told (cells_whole mem.array (take mem.cells values)) whole)

pub memory_whole : (mems : List Mem) (values : List ℕ) → has_float (memory_told mems values) ≡ false
memory_whole mems values = members_whole no_members mems values refl
