-- Lists of receipts, those in sixteen bytes and what is kept beside.
use Rattle.std.specs.Prelude.{◌≡◌, Bool, List, ◌++◌, map, get_or, slice_get, if◌then◌else◌}
use Rattle.model_histories.specs.declared.reply.Receipt.{Receipt}
use Rattle.packed_history.specs.declared.packed.Packed.{Packed}
use Rattle.packed_history.specs.declared.refusal.Refusal.{Refusal}
use Rattle.packed_history.specs.Packing.{unpacked}
use Rattle.packed_history.specs.Refusals.{refused}
use Rattle.packed_history.specs.Shorts.{Short, index_of, is_long, is_short, plain}

-- What contracts see: the receipts, and whether there is room for one more.
pub record Listed : Type 0 where
  pub items : List Receipt
  pub has_room : Bool

-- the receipt of these small numbers, beside these
abbrev pub receipt_of : List Receipt → List Refusal → Short → Receipt
receipt_of longs refusals short =
    if is_short short.deed then plain short else
    if is_long short.deed then get_or longs (index_of short.deed) (plain short) else
    refused (slice_get refusals (index_of short.deed)) short

abbrev pub receipt_in : List Receipt → List Refusal → Packed → Receipt
receipt_in longs refusals packed = receipt_of longs refusals (unpacked packed)

abbrev pub receipts_of : List Receipt → List Refusal → List Packed → List Receipt
receipts_of longs refusals = map (receipt_in longs refusals)

-- what is put behind the lists beside changes no receipt
abbrev pub AreKept : List Receipt → List Refusal → List Packed → Type 0
AreKept longs refusals shorts = (more : List Receipt) (others : List Refusal) →
    receipts_of (longs ++ more) (refusals ++ others) shorts ≡ receipts_of longs refusals shorts
