-- What `parse` gives for a word that begins with a digit.
use Rattle.std.proofs.Common.{◌≡◌, ◌≢◌, ℕ, ◌<◌, ◌^◌, ◌∷◌, [], List, length, true, get_or, arith, Result, Ok, Err}
use Rattle.std.specs.Result.{OkIff}
use Rattle.std.specs.Str.{all_ascii_digits}
use Rattle.std.specs.Str.Parse.{digits_value, ParsesUnsigned}
use Rattle.std.proofs.lemmas.Str.Parse.{IsNumeralModel, numerals_by_value, tells_all_ascii_digits, parse_plain}
use Rattle.std.proofs.lemmas.Bool.Decides.{nat_tests}
use Rattle.text_words.specs.Text.{IsNumber, IsNumberIn, BeginsWithDigit}

digits : IsNumeralModel (λ ds. all_ascii_digits ds ≡ true) (digits_value 10)
digits = numerals_by_value _ tells_all_ascii_digits

no_plus : (word : List ℕ) → BeginsWithDigit word → get_or word 0 0 ≢ 43
no_plus [] h = absurd h
no_plus (byte ∷ bytes) h = grind (arith, nat_tests)

pub parsed : {E : Type 0} (word : List ℕ) (r : Result ℕ E) → ParsesUnsigned 64 10 word r → BeginsWithDigit word
    → OkIff r ((all_ascii_digits word ≡ true) × (0 < length word) × (digits_value 10 word < 2 ^ 64)) (digits_value 10 word)
parsed word r h begins = parse_plain digits 64 word r h (no_plus word begins)

-- what `parse` gives is the number
pub number_of_parsed : (word : List ℕ) (n : ℕ) → ParsesUnsigned {E = Unit {0}} 64 10 word (Ok n) → BeginsWithDigit word → IsNumber word n
number_of_parsed word n h begins =
    let p = parsed {E = Unit {0}} word (Ok n) h begins in
    (p.0.1, p.0.0, p.1)

-- where `parse` fails no number below 2 ^ 64 stands there
pub no_number : (word : List ℕ) → ParsesUnsigned {E = Unit {0}} 64 10 word (Err tt) → BeginsWithDigit word
    → (low high n : ℕ) → high < 2 ^ 64 → IsNumberIn low high word n → ⊥
no_number word h begins low high n small number =
    parsed {E = Unit {0}} word (Err tt) h begins (number.0.1, number.0.0, omega arith)
