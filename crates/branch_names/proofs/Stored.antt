-- Names as they are stored, and those that they stand for.
use Rattle.std.proofs.Common.{◌≡◌, ◌↔◌, ℕ, zero, suc, ◌<◌, ◌/◌, ◌%◌, List, [], ◌∷◌, ◌++◌, length, get_or, refl, sym, ap, subst, ◌∙◌, arith}
use Rattle.std.proofs.Math.ListN.{set}
use Rattle.std.proofs.lemmas.List.{length-map, map-append, map-set, get_or-map}
use Rattle.branch_names.specs.declared.packed.Packed.{Packed}
use Rattle.branch_names.specs.Names.{BranchName, Kept, IsGiven, branch_number, name_at}
use Rattle.branch_names.specs.Packed.{name_of, names_of, name_with}

pub length-names : (packed : List Packed) → length (names_of packed) ≡ length packed
length-names packed = length-map packed name_of

pub names-pushed : (old new : List Packed) (packed : Packed) (name : BranchName) → new ≡ old ++ packed ∷ [] → name_of packed ≡ name → names_of new ≡ names_of old ++ name ∷ []
names-pushed old new packed name is_new is = ap names_of is_new ∙ (map-append name_of old (packed ∷ []) ∙ ap (λ last. names_of old ++ last ∷ []) is)

pub names-set : (old : List Packed) (strand : ℕ) (packed : Packed) (name : BranchName) → name_of packed ≡ name → names_of (set old strand packed) ≡ set (names_of old) strand name
names-set old strand packed name is = map-set name_of old strand packed ∙ ap (set (names_of old) strand) is

-- The name that was read is that of the strand.
pub name-read : (items : List Packed) (names : List BranchName) (strand : ℕ) (packed : Packed) → names_of items ≡ names → strand < length names → packed ≡ get_or items strand packed →
    name_of packed ≡ name_at names strand
name-read items names strand packed same_items lt read =
    ap name_of read ∙ (sym (get_or-map name_of items strand packed (Kept 0) (omega (arith, ap length same_items, length-names items))) ∙ ap (λ list. name_at list strand) same_items)

pub number-read : (items : List Packed) (names : List BranchName) (strand number : ℕ) (packed : Packed) → names_of items ≡ names → strand < length names → packed ≡ get_or items strand packed →
    number ≡ branch_number (name_of packed) → number ≡ branch_number (name_at names strand)
number-read items names strand number packed same_items lt read number_is = number_is ∙ ap branch_number (name-read items names strand packed same_items lt read)

number-with : (digit number : ℕ) → branch_number (name_with digit number) ≡ number
number-with zero number = refl
number-with (suc digit) number = refl

digit-given : (digit number : ℕ) → IsGiven (name_with digit number) → digit ≡ 0
digit-given zero number given = refl
digit-given (suc digit) number given = absurd given

codes-agree : (first second : Packed) → IsGiven (name_of first) → IsGiven (name_of second) → (first.code ≡ second.code) ↔ (branch_number (name_of first) ≡ branch_number (name_of second))
codes-agree first second first_given second_given = (
  (λ e. number-with (first.code % 2) (first.code / 2) ∙ (ap (λ code. code / 2) e ∙ sym (number-with (second.code % 2) (second.code / 2)))),
  (λ e. omega (arith, digit-given (first.code % 2) (first.code / 2) first_given, digit-given (second.code % 2) (second.code / 2) second_given, halves e)),
)
  where
    halves : branch_number (name_of first) ≡ branch_number (name_of second) → first.code / 2 ≡ second.code / 2
    halves e = sym (number-with (first.code % 2) (first.code / 2)) ∙ (e ∙ number-with (second.code % 2) (second.code / 2))

-- Two given names are stored alike just where they have one number.
pub codes-tell : (items : List Packed) (names : List BranchName) (first second : ℕ) (first_name second_name : Packed) → names_of items ≡ names → first < length names → second < length names →
    first_name ≡ get_or items first first_name → second_name ≡ get_or items second second_name → IsGiven (name_at names first) → IsGiven (name_at names second) →
    (first_name.code ≡ second_name.code) ↔ (branch_number (name_at names first) ≡ branch_number (name_at names second))
codes-tell items names first second first_name second_name same_items lx ly first_read second_read first_given second_given =
    let first_is = name-read items names first first_name same_items lx first_read in
    let second_is = name-read items names second second_name same_items ly second_read in
    let agrees = codes-agree first_name second_name (subst IsGiven (sym first_is) first_given) (subst IsGiven (sym second_is) second_given) in
    ((λ e. sym (ap branch_number first_is) ∙ (agrees.0 e ∙ ap branch_number second_is)), (λ e. agrees.1 (ap branch_number first_is ∙ (e ∙ sym (ap branch_number second_is)))))
