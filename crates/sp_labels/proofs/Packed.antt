-- Lists of packed records.
use Rattle.std.proofs.Common.{◌≡◌, ℕ, ◌<◌, List, [], ◌∷◌, length, get_or, set, sym, ap, subst, ◌∙◌, arith}
use Rattle.std.proofs.lemmas.List.{get_or-map, get_or-set_other, get_or-set_same, length-map, length-set, map-set}
use Rattle.sp_labels.specs.declared.record.Standing.{Standing}
use Rattle.sp_labels.specs.declared.record.Record.{Record}
use Rattle.sp_labels.specs.declared.record.PackedRecord.{PackedRecord}
use Rattle.sp_labels.specs.Packing.{unpacked, all_unpacked}
use Rattle.sp_labels.specs.Roster.{record_at, no_record, IsPut}

pub length-unpacked : (items : List PackedRecord) → length (all_unpacked items) ≡ length items
length-unpacked items = length-map items unpacked

-- a known number is that of a record
pub known-unpacked : (items : List PackedRecord) (strand : ℕ) → strand < length items → strand < length (all_unpacked items)
known-unpacked items strand lt = omega (arith, length-unpacked items)

-- a packed record that is read stands for that of the strand
pub read-unpacked : (items : List PackedRecord) (strand : ℕ) (packed : PackedRecord) → strand < length (all_unpacked items) → packed ≡ get_or items strand packed → unpacked packed ≡ record_at (all_unpacked items) strand
read-unpacked items strand packed lt is = ap unpacked is ∙ sym (get_or-map unpacked items strand packed no_record (omega (arith, length-unpacked items)))

-- a record is put by its packed form
pub put-packed : (items : List PackedRecord) (strand : ℕ) (packed : PackedRecord) (kept : Record) → strand < length (all_unpacked items) → unpacked packed ≡ kept →
    IsPut (all_unpacked items) strand kept (all_unpacked (set items strand packed))
put-packed items strand packed kept lt is =
    subst (λ records. IsPut (all_unpacked items) strand kept records) (sym (map-set unpacked items strand packed)) (record {
      len = length-set (all_unpacked items) strand (unpacked packed);
      here = get_or-set_same (all_unpacked items) strand (unpacked packed) no_record lt ∙ is;
      others = λ other ne. get_or-set_other (all_unpacked items) strand other (unpacked packed) no_record ne;
    })

-- a standing alone is put
pub standing-packed : (items : List PackedRecord) (strand : ℕ) (packed : PackedRecord) (standing : Standing) → strand < length (all_unpacked items) → packed ≡ get_or items strand packed →
    IsPut (all_unpacked items) strand (record (record_at (all_unpacked items) strand) { standing = standing }) (all_unpacked (set items strand (record packed { standing = standing })))
standing-packed items strand packed standing lt is =
    put-packed items strand (record packed { standing = standing }) _ lt (ap (λ (kept : Record). record kept { standing = standing }) (read-unpacked items strand packed lt is))

pub first-unpacked : (items : List PackedRecord) (packed : PackedRecord) (kept : Record) → items ≡ packed ∷ [] → unpacked packed ≡ kept → all_unpacked items ≡ kept ∷ []
first-unpacked items packed kept is same = ap all_unpacked is ∙ ap (λ first. first ∷ []) same
