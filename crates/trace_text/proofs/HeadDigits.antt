-- One more digit behind those that were read.
use Rattle.std.proofs.Common.{◌≡◌, ◌++◌, ◌∷◌, [], ◌+◌, ◌*◌, ◌^◌, ◌<◌, ◌≤◌, ◌∙◌, ℕ, zero, suc, List, length, IsTrue, Bool, true, false, ◌⊎◌, inl, inr, take, get_or, arith, refl, ap, sym, subst, add-one}
use Rattle.std.proofs.Math.Nat.{pow-suc, pow-le-pow_right}
use Rattle.std.proofs.lemmas.List.{take_more, length-take-le}
use Rattle.std.proofs.lemmas.Bool.Decides.{nat_tests}
use Rattle.text_words.specs.Limits.{max_value}
use Rattle.std.specs.Char.{digit_value}
use Rattle.std.specs.Str.{all_ascii_digits}
use Rattle.std.specs.Str.Parse.{digits_value, digits_value_after}
use Rattle.std.specs.Fmt.{decimal}
use Rattle.std.proofs.lemmas.Fmt.{decimal-digits_value}
use Rattle.trace_text.proofs.PlainWords.{own_digits}

value_step : (n : ℕ) (front : List ℕ) (d : ℕ) → digits_value_after 10 n (front ++ d ∷ []) ≡ digits_value_after 10 n front * 10 + digit_value d
value_step n [] d = refl
value_step n (x ∷ xs) d = value_step (n * 10 + digit_value x) xs d

digit_is : (d v : ℕ) → 48 ≤ d → d ≤ 57 → v + 48 ≡ d → digit_value d ≡ v
digit_is d v low high is = grind (arith, nat_tests)

is_digit : (d : ℕ) → 48 ≤ d → d ≤ 57 → IsTrue (all_ascii_digits (d ∷ []))
is_digit d low high = grind (arith, nat_tests)

digits_step : (front : List ℕ) (d : ℕ) → IsTrue (all_ascii_digits front) → 48 ≤ d → d ≤ 57 → IsTrue (all_ascii_digits (front ++ d ∷ []))
digits_step [] d front low high = is_digit d low high
digits_step (x ∷ xs) d front low high = grind (arith, nat_tests, digits_step xs d)

pub one_more_digit : (bytes : List ℕ) (at value v : ℕ)
    → at < length bytes → IsTrue (all_ascii_digits (take at bytes)) → value ≡ digits_value 10 (take at bytes) → value < 10 ^ at
    → 48 ≤ get_or bytes at 0 → get_or bytes at 0 ≤ 57 → v + 48 ≡ get_or bytes at 0
    → IsTrue (all_ascii_digits (take (at + 1) bytes)) × (value * 10 + v ≡ digits_value 10 (take (at + 1) bytes)) × (value * 10 + v < 10 ^ (at + 1))
one_more_digit bytes at value v below digits is small low high same =
    let d : ℕ = get_or bytes at 0 in
    let front : List ℕ = take at bytes in
    let more : take (at + 1) bytes ≡ front ++ d ∷ [] = take_more bytes at 0 below in
    let power : 10 ^ (at + 1) ≡ 10 ^ at * 10 = ap (λ n. 10 ^ n) (add-one at) ∙ pow-suc 10 at in
    let last : digits_value 10 (front ++ d ∷ []) ≡ digits_value 10 front * 10 + digit_value d = value_step 0 front d in
    let of_last : digit_value d ≡ v = digit_is d v low high same in (
      subst (λ (ds : List ℕ). IsTrue (all_ascii_digits ds)) (sym more) (digits_step front d digits low high),
      subst (λ (ds : List ℕ). value * 10 + v ≡ digits_value 10 ds) (sym more) (omega (arith, is, last, of_last)),
      omega (arith, power, small),
    )

first_kept : (bytes : List ℕ) (at : ℕ) → 0 < at → get_or (take at bytes) 0 0 ≡ get_or bytes 0 0
first_kept bytes zero some = absurd (omega arith)
first_kept [] (suc at) some = refl
first_kept (byte ∷ bytes) (suc at) some = refl

-- digits without a leading zero are those of their value
pub plain_digits : (bytes : List ℕ) (at value : ℕ) → 0 < at → at ≤ length bytes → at ≤ 19 → IsTrue (all_ascii_digits (take at bytes))
    → value ≡ digits_value 10 (take at bytes) → value < 10 ^ at → (get_or bytes 0 0 ≡ 48 → at ≤ 1) → decimal value ≡ take at bytes
plain_digits bytes at value some within few digits is small single =
    let count : length (take at bytes) ≡ at = length-take-le at bytes within in
    let ten : 0 < 10 = omega arith in
    let most : 10 ^ at ≤ 10 ^ 19 = pow-le-pow_right ten few in
    let room : digits_value 10 (take at bytes) < 2 ^ 64 = omega (arith, most, small, is) in
    ap decimal is
    ∙ decimal-digits_value own_digits (take at bytes) digits (omega (arith, count, some))
    (λ zero. let one = single (sym (first_kept bytes at some) ∙ zero) in omega (arith, count, one, some)) room

-- a number of 18 digits or fewer can have one more
pub room_for_digit : (value at : ℕ) → value < 10 ^ at → at < 19 → value < 1000000000000000000
room_for_digit value at small few =
    let ten : 0 < 10 = omega arith in
    let most : 10 ^ at ≤ 10 ^ 18 = pow-le-pow_right ten (let few : at ≤ 18 = omega arith in few) in
    omega (arith, most, small)

-- a number of 19 digits or fewer is one of 64 bits
pub value_bound : (value at : ℕ) → value < 10 ^ at → at ≤ 19 → value ≤ max_value
value_bound value at small few =
    let ten : 0 < 10 = omega arith in
    let most : 10 ^ at ≤ 10 ^ 19 = pow-le-pow_right ten few in
    omega (arith, most, small)

-- what is not told of digits with a leading zero
pub not_padded : (told : Bool) (bytes : List ℕ) (count : ℕ) → told ≡ false → (told ≡ true) ⊎ (get_or bytes 0 0 ≡ 48 → count ≤ 1) → get_or bytes 0 0 ≡ 48 → count ≤ 1
not_padded told bytes count none (inl padded) = cc
not_padded told bytes count none (inr single) = single
