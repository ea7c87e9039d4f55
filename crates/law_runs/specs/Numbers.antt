-- Histories of requests whose values are numbers of 64 bits, as those of each gate are.
use Rattle.std.specs.Prelude.{◌<◌, ◌^◌}
use Rattle.std.specs.List.{All}
use Rattle.model_accesses.specs.declared.request.Act.{Act}
use Rattle.model_histories.specs.Entries.{Entries}

-- the value of an act, where it has one, is a number of 64 bits
abbrev pub IsNumbered : Act → Type 0
IsNumbered (Act.Write cell value) = value < 2 ^ 64
IsNumbered (Act.Bump cell value) = value < 2 ^ 64
IsNumbered (Act.Update reducer value) = value < 2 ^ 64
IsNumbered (Act.Put reducer value) = value < 2 ^ 64
IsNumbered act = Unit {0}

abbrev pub AreNumbered : Entries → Type 0
AreNumbered entries = All (λ entry. IsNumbered entry.request.act) entries
