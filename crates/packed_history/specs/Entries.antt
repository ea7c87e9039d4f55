-- Lists of entries, each kept as its receipt.
use Rattle.std.specs.Prelude.{Bool, List, map}
use Rattle.model_histories.specs.declared.answer.Entry.{Entry}
use Rattle.model_histories.specs.declared.reply.Receipt.{Receipt}

-- What contracts see: the entries, the oldest first, and whether there is room for one more.
pub record Kept : Type 0 where
  pub items : List Entry
  pub has_room : Bool

-- the entry that the receipt is of
abbrev pub entry_of : Receipt → Entry
entry_of receipt = record { request = receipt.request; answer = receipt.answer }

abbrev pub entries_of : List Receipt → List Entry
entries_of = map entry_of
