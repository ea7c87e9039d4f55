-- A receipt in sixteen bytes: its number, its strand, its line and its deed's tag stand in one number, the head.
use Rattle.std.specs.Prelude.{◌≡◌, ℕ, ◌*◌, ◌/◌, ◌%◌, ◌^◌, ◌==◌, ◌<◌, nat_lt, if◌then◌else◌}
use Rattle.packed_history.specs.Shorts.{Short, Deed, IsShortOf}
use Rattle.packed_history.specs.Shorts.{Open, Spawn, Call, Pass, Join, Wait, Resume, End, EndJoin, Finish, Read, Write, Bump, Update, Put, Get}
use Rattle.packed_history.specs.Shorts.{Refused, Long}
use Rattle.model_accesses.specs.declared.request.Act.{Act}
use Rattle.model_histories.specs.declared.answer.Answer.{Answer}
use Rattle.packed_history.specs.declared.deed.Numbers.{Numbers}
use Rattle.packed_history.specs.declared.packed.Packed.{Packed}

-- how many numbers, strands and lines a head can name
abbrev pub numbers : ℕ
numbers = 2 ^ 20

abbrev pub strands : ℕ
strands = 2 ^ 22

abbrev pub lines : ℕ
lines = 2 ^ 17

-- the deed of these numbers
abbrev pub deed_with : (tag first second : ℕ) → Deed
deed_with tag first second =
    if tag == 0 then Open first second else
    if tag == 1 then Spawn first second else
    if tag == 2 then Call else
    if tag == 3 then Pass else
    if tag == 4 then Join first else
    if tag == 5 then Wait else
    if tag == 6 then Resume else
    if tag == 7 then End else
    if tag == 8 then EndJoin first else
    if tag == 9 then Finish else
    if tag == 10 then Read first second else
    if tag == 11 then Write first second else
    if tag == 12 then Bump first second else
    if tag == 13 then Update first second else
    if tag == 14 then Put first second else
    if tag == 15 then Get first second else
    if nat_lt tag 22 then Refused tag first second else Long first second

-- the numbers, of a deed that has nothing beside, say what was asked and answered
abbrev pub IsToldBy : Act → Answer → Numbers → Type 0
IsToldBy asked answered numbers = (numbers.tag < 16) × IsShortOf asked answered (deed_with numbers.tag numbers.first numbers.second)

-- what stands in a head
abbrev pub number_in : ℕ → ℕ
number_in head = head % numbers

abbrev pub strand_in : ℕ → ℕ
strand_in head = head / numbers % strands

abbrev pub line_in : ℕ → ℕ
line_in head = head / (numbers * strands) % lines

abbrev pub tag_in : ℕ → ℕ
tag_in head = head / (numbers * strands * lines)

-- the head without its tag says these
abbrev pub IsStart : (start number strand line : ℕ) → Type 0
IsStart start number strand line = (tag_in start ≡ 0) × (number_in start ≡ number) × (strand_in start ≡ strand) × (line_in start ≡ line)

-- the receipt in small numbers
unfoldable pub unpacked : Packed → Short
unpacked packed = record {
  number = number_in packed.head;
  strand = strand_in packed.head;
  line = line_in packed.head;
  deed = deed_with (tag_in packed.head) packed.first packed.second;
}
