-- What is kept short is no refusal.
use Rattle.std.proofs.Common.{◌≡◌, ◌∙◌, ℕ, Bool, true, false, List, [], ◌∷◌, Option, None, Some, get_or, slice_get, option_map, refl, if◌then◌else◌, sym, subst, ap}
use Rattle.std.specs.List.{All}
use Rattle.std.proofs.lemmas.List.Elements.{All-nil, All-cons}
use Rattle.std.proofs.lemmas.Option.{slice_get-map}
use Rattle.model_histories.specs.declared.answer.Entry.{Entry}
use Rattle.model_histories.specs.declared.reply.Receipt.{Receipt}
use Rattle.model_histories.specs.Extensions.{IsCleanAnswer}
use Rattle.packed_history.specs.declared.packed.Packed.{Packed}
use Rattle.packed_history.specs.declared.refusal.Refusal.{Refusal}
use Rattle.packed_history.specs.Packing.{unpacked}
use Rattle.packed_history.specs.Refusals.{refused}
use Rattle.packed_history.specs.Shorts.{Short, Deed, answer_of, index_of, is_long, is_short, plain}
use Rattle.packed_history.specs.Shorts.{Open, Spawn, Call, Pass, Join, Wait, Resume, End, EndJoin, Finish, Read, Write, Bump, Update, Put, Get}
use Rattle.packed_history.specs.Shorts.{Refused, Long}
use Rattle.packed_history.specs.Lists.{receipt_in, receipts_of}
use Rattle.packed_history.specs.Entries.{entry_of, entries_of}

clean_deed : (deed : Deed) → IsCleanAnswer (answer_of deed)
clean_deed (Open child join) = tt
clean_deed (Spawn child join) = tt
clean_deed Call = tt
clean_deed Pass = tt
clean_deed (Join join) = tt
clean_deed Wait = tt
clean_deed Resume = tt
clean_deed End = tt
clean_deed (EndJoin join) = tt
clean_deed Finish = tt
clean_deed (Read cell value) = tt
clean_deed (Write cell value) = tt
clean_deed (Bump cell value) = tt
clean_deed (Update reducer value) = tt
clean_deed (Put reducer value) = tt
clean_deed (Get reducer value) = tt
clean_deed (Refused tag first place) = tt
clean_deed (Long low high) = tt

is_told : (one other : Receipt) → Some one ≡ Some other → one ≡ other
is_told one other same = cc

-- what is kept in sixteen bytes alone
pub clean_at : (longs : List Receipt) (refusals : List Refusal) (shorts : List Packed) (at : ℕ) (one : Packed) (receipt : Receipt) →
    slice_get shorts at ≡ Some one → is_short (unpacked one).deed ≡ true → slice_get (receipts_of longs refusals shorts) at ≡ Some receipt →
    IsCleanAnswer receipt.answer
clean_at longs refusals shorts at one receipt here short is =
    let told : receipt ≡ receipt_in longs refusals one =
    is_told receipt (receipt_in longs refusals one) (sym is ∙ slice_get-map (receipt_in longs refusals) shorts at ∙ ap (option_map (receipt_in longs refusals)) here) in
    let plainly : receipt_in longs refusals one ≡ plain (unpacked one) =
    ap (λ (b : Bool). if b then plain (unpacked one) else if is_long (unpacked one).deed then get_or longs (index_of (unpacked one).deed)
    (plain (unpacked one)) else refused (slice_get refusals (index_of (unpacked one).deed)) (unpacked one)) short in
    subst (λ (r : Receipt). IsCleanAnswer r.answer) (sym (told ∙ plainly)) (clean_deed (unpacked one).deed)

is_same_entry : (one other : Entry) → Some one ≡ Some other → one ≡ other
is_same_entry one other same = cc

-- the entry of a receipt, if any
clean_found : (found : Option Receipt) (entry : Entry) → ((receipt : Receipt) → found ≡ Some receipt → IsCleanAnswer receipt.answer) →
    option_map entry_of found ≡ Some entry → IsCleanAnswer entry.answer
clean_found (Some receipt) entry clean is =
    subst (λ (e : Entry). IsCleanAnswer e.answer) (is_same_entry (entry_of receipt) entry is) (clean receipt refl)
clean_found None entry clean is = absurd cc

pub clean_entry : (receipts : List Receipt) (at : ℕ) (entry : Entry) →
    ((receipt : Receipt) → slice_get receipts at ≡ Some receipt → IsCleanAnswer receipt.answer) →
    slice_get (entries_of receipts) at ≡ Some entry → IsCleanAnswer entry.answer
clean_entry receipts at entry clean is = clean_found (slice_get receipts at) entry clean (sym (slice_get-map entry_of receipts at) ∙ is)

-- where nothing is kept beside
clean_in : (short long : Bool) (kept : Short) →
    IsCleanAnswer (if short then plain kept else if long then get_or [] (index_of kept.deed) (plain kept) else
    refused (slice_get [] (index_of kept.deed)) kept).answer
clean_in true long kept = clean_deed kept.deed
clean_in false true kept = clean_deed kept.deed
clean_in false false kept = clean_deed kept.deed

none_beside : (shorts : List Packed) → All (λ (receipt : Receipt). IsCleanAnswer receipt.answer) (receipts_of [] [] shorts)
none_beside [] = All-nil (λ (receipt : Receipt). IsCleanAnswer receipt.answer)
none_beside (packed ∷ shorts) =
    All-cons (λ (receipt : Receipt). IsCleanAnswer receipt.answer) (receipt_in [] [] packed) (receipts_of [] [] shorts)
    (clean_in (is_short (unpacked packed).deed) (is_long (unpacked packed).deed) (unpacked packed)) (none_beside shorts)

pub all_short : (longs : List Receipt) (refusals : List Refusal) (shorts : List Packed) → longs ≡ [] → refusals ≡ [] →
    All (λ (receipt : Receipt). IsCleanAnswer receipt.answer) (receipts_of longs refusals shorts)
all_short longs refusals shorts no_longs no_refusals =
    subst (λ (beside : List Receipt). All (λ (receipt : Receipt). IsCleanAnswer receipt.answer) (receipts_of beside refusals shorts)) (sym no_longs)
    (subst (λ (beside : List Refusal). All (λ (receipt : Receipt). IsCleanAnswer receipt.answer) (receipts_of [] beside shorts)) (sym no_refusals)
    (none_beside shorts))
