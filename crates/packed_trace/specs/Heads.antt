-- A line of a trace in one number, its head, and where that is too small in three numbers more.
use Rattle.std.specs.Prelude.{ℕ, false, ◌+◌, ◌/◌, ◌%◌, ◌^◌, ◌-◌, ◌==◌, if◌then◌else◌}
use Rattle.model_accesses.specs.declared.request.Act.{Act}
use Rattle.model_accesses.specs.declared.request.Act.TheVariants.{Spawn, Sync, Call, Return, Read, Write, Bump, Update, Put, Get}
use Rattle.text_words.specs.declared.value.TraceLine.{TraceLine}

-- how many numbers a field of a head has: for strands, for acts, and for places
abbrev pub strands : ℕ
strands = 2 ^ 22

abbrev pub acts : ℕ
acts = 2 ^ 4

abbrev pub places : ℕ
places = 2 ^ 20

-- what stands in place of the strand where three numbers more are needed
abbrev pub marker : ℕ
marker = 2 ^ 22 - 1

-- the number of an act's kind
abbrev pub tag_of : Act → ℕ
tag_of Spawn = 0
tag_of Sync = 1
tag_of Call = 2
tag_of Return = 3
tag_of (Read cell) = 4
tag_of (Write cell value) = 5
tag_of (Bump cell value) = 6
tag_of (Update reducer value) = 7
tag_of (Put reducer value) = 8
tag_of (Get reducer) = 9

-- its cell or its reducer, and 0 where it has none
abbrev pub place_of : Act → ℕ
place_of (Read cell) = cell
place_of (Write cell value) = cell
place_of (Bump cell value) = cell
place_of (Update reducer value) = reducer
place_of (Put reducer value) = reducer
place_of (Get reducer) = reducer
place_of _ = 0

-- its value, and 0 where it has none
abbrev pub act_value : Act → ℕ
act_value (Write cell value) = value
act_value (Bump cell value) = value
act_value (Update reducer value) = value
act_value (Put reducer value) = value
act_value _ = 0

-- the act of these numbers
abbrev pub tagged_act : (tag place value : ℕ) → Act
tagged_act tag place value =
    if tag == 0 then Spawn else
    if tag == 1 then Sync else
    if tag == 2 then Call else
    if tag == 3 then Return else
    if tag == 4 then Read place else
    if tag == 5 then Write place value else
    if tag == 6 then Bump place value else
    if tag == 7 then Update place value else
    if tag == 8 then Put place value else Get place

-- what stands in a head: the strand, the number of the act's kind, and the rest
abbrev pub strand_in : ℕ → ℕ
strand_in head = head % strands

abbrev pub tag_in : ℕ → ℕ
tag_in head = head / strands % acts

abbrev pub rest_in : ℕ → ℕ
rest_in head = head / strands / acts

-- the unmarked line of a head that is enough, behind the line with the number `last`
abbrev pub line_of_head : (last head : ℕ) → TraceLine
line_of_head last head = record {
  request = record {
    strand = strand_in head;
    line = (last + 1) % 2 ^ 32;
    act = tagged_act (tag_in head) (rest_in head % places) (rest_in head / places);
  };
  at = (last + 1) % 2 ^ 32;
  marked = false;
}

-- the line of a head and three numbers more: the value, the strand and the line of the program, and the line of the trace and whether it is
-- marked
abbrev pub line_of_numbers : (head value who spot : ℕ) → TraceLine
line_of_numbers head value who spot = record {
  request = record { strand = who / 2 ^ 32 % 2 ^ 32; line = who % 2 ^ 32; act = tagged_act (tag_in head) (rest_in head % 2 ^ 32) value };
  at = spot / 2 % 2 ^ 32;
  marked = spot % 2 == 1;
}
