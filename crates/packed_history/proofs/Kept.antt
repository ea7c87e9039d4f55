-- What is put at the end of a list is kept, with what it has beside.
use Rattle.std.proofs.Common.{option_map, ◌⊎◌, inl, inr, ◌≡◌, ℕ, true, false, Bool, List, [], ◌∷◌, ◌++◌, ◌<◌, Option, None, Some, length, get_or}
use Rattle.std.proofs.Common.{slice_get, if◌then◌else◌, IsTrue, refl, sym, ap, subst, ◌∙◌, append_assoc, arith}
use Rattle.std.proofs.lemmas.Bool.{false≢true}
use Rattle.std.proofs.lemmas.List.{append-nil, length-map, map-append}
use Rattle.std.proofs.lemmas.Option.{get_or_from_slice_get, slice_get-get_or, slice_get-map, slice_get_read}
use Rattle.std.proofs.Math.Seq.{get_or-append_seam}
use Rattle.model_histories.specs.declared.answer.Entry.{Entry}
use Rattle.model_histories.specs.declared.reply.Receipt.{Receipt}
use Rattle.packed_history.specs.declared.packed.Packed.{Packed}
use Rattle.packed_history.specs.declared.refusal.Refusal.{Refusal}
use Rattle.packed_history.specs.Packing.{deed_with, tag_in, number_in, strand_in, line_in, unpacked}
use Rattle.packed_history.specs.Refusals.{refused, with_refusal}
use Rattle.packed_history.specs.Shorts.{Open, Spawn, Call, Pass, Join, Wait, Resume, End, EndJoin, Finish, Read, Write, Bump, Update, Put, Get}
use Rattle.packed_history.specs.Shorts.{Refused, Long}
use Rattle.packed_history.specs.Shorts.{Deed, index_of, is_long, is_refused, is_short, plain}
use Rattle.packed_history.proofs.Packing.{refused-again}
use Rattle.packed_history.specs.Entries.{entry_of, entries_of}
use Rattle.packed_history.specs.Lists.{AreKept, receipt_in, receipt_of, receipts_of}

-- the packed receipt is this one, beside the longer lists and beside all that begin with them
pub Stands : List Receipt → List Refusal → Packed → Receipt → Type 0
Stands longs refusals packed receipt =
    (later : List Receipt) (after : List Refusal) → receipt_in (longs ++ later) (refusals ++ after) packed ≡ receipt

longer : (longs : List Receipt) (refusals : List Refusal) (shorts : List Packed) (more : List Receipt) (others : List Refusal) (packed : Packed)
    (receipt : Receipt) → AreKept longs refusals shorts → Stands (longs ++ more) (refusals ++ others) packed receipt →
    (later : List Receipt) (after : List Refusal) →
    receipts_of ((longs ++ more) ++ later) ((refusals ++ others) ++ after) (shorts ++ packed ∷ []) ≡ receipts_of longs refusals shorts ++ receipt ∷ []
unfolding Stands
longer longs refusals shorts more others packed receipt kept stands later after =
    map-append (receipt_in ((longs ++ more) ++ later) ((refusals ++ others) ++ after)) shorts (packed ∷ [])
    ∙ ap (λ (last : Receipt). receipts_of ((longs ++ more) ++ later) ((refusals ++ others) ++ after) shorts ++ last ∷ []) (stands later after)
    ∙ ap (λ (beside : List Receipt). receipts_of beside ((refusals ++ others) ++ after) shorts ++ receipt ∷ []) (append_assoc longs more later)
    ∙ ap (λ (beside : List Refusal). receipts_of (longs ++ (more ++ later)) beside shorts ++ receipt ∷ []) (append_assoc refusals others after)
    ∙ ap (λ (receipts : List Receipt). receipts ++ receipt ∷ []) (kept (more ++ later) (others ++ after))

-- lists that grow at their ends, each by one or none
pub grown : (longs : List Receipt) (refusals : List Refusal) (shorts : List Packed) (more : List Receipt) (others : List Refusal) (packed : Packed)
    (receipt : Receipt) → AreKept longs refusals shorts → Stands (longs ++ more) (refusals ++ others) packed receipt →
    AreKept (longs ++ more) (refusals ++ others) (shorts ++ packed ∷ [])
    × (receipts_of (longs ++ more) (refusals ++ others) (shorts ++ packed ∷ []) ≡ receipts_of longs refusals shorts ++ receipt ∷ [])
grown longs refusals shorts more others packed receipt kept stands =
    let here : receipts_of (longs ++ more) (refusals ++ others) (shorts ++ packed ∷ []) ≡ receipts_of longs refusals shorts ++ receipt ∷ [] =
    subst (λ (beside : List Refusal). receipts_of (longs ++ more) beside (shorts ++ packed ∷ []) ≡ receipts_of longs refusals shorts ++ receipt ∷ [])
    (append-nil (refusals ++ others))
    (subst (λ (beside : List Receipt). receipts_of beside ((refusals ++ others) ++ []) (shorts ++ packed ∷ [])
    ≡ receipts_of longs refusals shorts ++ receipt ∷ [])
    (append-nil (longs ++ more)) (longer longs refusals shorts more others packed receipt kept stands [] [])) in
    ((λ later after. longer longs refusals shorts more others packed receipt kept stands later after ∙ sym here), here)

-- one that has nothing beside
pub stands-short : (longs : List Receipt) (refusals : List Refusal) (packed : Packed) (receipt : Receipt) → is_short (unpacked packed).deed ≡ true →
    plain (unpacked packed) ≡ receipt → Stands longs refusals packed receipt
unfolding Stands
stands-short longs refusals packed receipt short is later after = grind (arith, short, is)

-- each deed has one of three forms
pub Form : Bool → Bool → Bool → Type 0
Form short refused long = ((short ≡ true) × (refused ≡ false) × (long ≡ false)) ⊎ ((short ≡ false) × (refused ≡ true) × (long ≡ false))
    ⊎ ((short ≡ false) × (refused ≡ false) × (long ≡ true))

form_of : (deed : Deed) → Form (is_short deed) (is_refused deed) (is_long deed)
unfolding Form
form_of (Open a b) = inl (refl, refl, refl)
form_of (Spawn a b) = inl (refl, refl, refl)
form_of Call = inl (refl, refl, refl)
form_of Pass = inl (refl, refl, refl)
form_of (Join a) = inl (refl, refl, refl)
form_of Wait = inl (refl, refl, refl)
form_of Resume = inl (refl, refl, refl)
form_of End = inl (refl, refl, refl)
form_of (EndJoin a) = inl (refl, refl, refl)
form_of Finish = inl (refl, refl, refl)
form_of (Read a b) = inl (refl, refl, refl)
form_of (Write a b) = inl (refl, refl, refl)
form_of (Bump a b) = inl (refl, refl, refl)
form_of (Update a b) = inl (refl, refl, refl)
form_of (Put a b) = inl (refl, refl, refl)
form_of (Get a b) = inl (refl, refl, refl)
form_of (Refused a b c) = inr (inl (refl, refl, refl))
form_of (Long a b) = inr (inr (refl, refl, refl))

by_refused : (short refused long : Bool) → Form short refused long → refused ≡ true → (short ≡ false) × (long ≡ false)
unfolding Form
by_refused short refused long (inl form) is = absurd cc
by_refused short refused long (inr (inl form)) is = (form.0, form.2)
by_refused short refused long (inr (inr form)) is = absurd cc

by_long : (short refused long : Bool) → Form short refused long → long ≡ true → short ≡ false
unfolding Form
by_long short refused long (inl form) is = absurd cc
by_long short refused long (inr (inl form)) is = absurd cc
by_long short refused long (inr (inr form)) is = form.0

by_neither : (short refused long : Bool) → Form short refused long → short ≡ false → long ≡ false → refused ≡ true
unfolding Form
by_neither short refused long (inl form) not_short not_long = absurd cc
by_neither short refused long (inr (inl form)) not_short not_long = form.1
by_neither short refused long (inr (inr form)) not_short not_long = absurd cc

pub refused_left : (deed : Deed) → is_short deed ≡ false → is_long deed ≡ false → is_refused deed ≡ true
refused_left deed = by_neither (is_short deed) (is_refused deed) (is_long deed) (form_of deed)

of_refused : (deed : Deed) → is_refused deed ≡ true → (is_short deed ≡ false) × (is_long deed ≡ false)
of_refused deed = by_refused (is_short deed) (is_refused deed) (is_long deed) (form_of deed)

of_long : (deed : Deed) → is_long deed ≡ true → is_short deed ≡ false
of_long deed = by_long (is_short deed) (is_refused deed) (is_long deed) (form_of deed)

-- one that is kept beside, as the last
pub stands-long : (longs : List Receipt) (refusals : List Refusal) (packed : Packed) (receipt : Receipt) → is_long (unpacked packed).deed ≡ true →
    index_of (unpacked packed).deed ≡ length longs → Stands (longs ++ receipt ∷ []) refusals packed receipt
unfolding Stands
stands-long longs refusals packed receipt long at later after =
    let seam = get_or-append_seam longs receipt later (plain (unpacked packed)) in
    grind (arith, long, of_long (unpacked packed).deed long, at, seam, append_assoc longs (receipt ∷ []) later)

slice_get_seam : (xs : List Refusal) (y : Refusal) (ys : List Refusal) → slice_get (xs ++ y ∷ ys) (length xs) ≡ Some y
slice_get_seam [] y ys = refl
slice_get_seam (x ∷ xs) y ys = slice_get_seam xs y ys

-- a refused access, with the last of those beside
pub stands-refused : (longs : List Receipt) (refusals : List Refusal) (packed : Packed) (refusal : Refusal) (receipt : Receipt) →
    is_refused (unpacked packed).deed ≡ true → index_of (unpacked packed).deed ≡ length refusals → with_refusal refusal (unpacked packed) ≡ receipt →
    Stands longs (refusals ++ refusal ∷ []) packed receipt
unfolding Stands
stands-refused longs refusals packed refusal receipt is at told later after =
    let deed = (unpacked packed).deed in
    let seam = slice_get_seam refusals refusal after in
    grind (arith, (of_refused deed is).0, (of_refused deed is).1, at, seam, told, append_assoc refusals (refusal ∷ []) after)

-- these lists are those, one receipt longer
abbrev pub Grown : List Receipt → List Refusal → List Packed → Receipt → List Receipt → List Refusal → List Packed → Type 0
Grown longs refusals shorts receipt all_longs all_refusals all_shorts =
    AreKept all_longs all_refusals all_shorts
    × (receipts_of all_longs all_refusals all_shorts ≡ receipts_of longs refusals shorts ++ receipt ∷ [])

pub grown_short : (longs : List Receipt) (refusals : List Refusal) (shorts all_shorts : List Packed) (packed : Packed) (receipt : Receipt) →
    all_shorts ≡ shorts ++ packed ∷ [] → AreKept longs refusals shorts → is_short (unpacked packed).deed ≡ true → plain (unpacked packed) ≡ receipt →
    Grown longs refusals shorts receipt longs refusals all_shorts
grown_short longs refusals shorts all_shorts packed receipt same kept short is =
    subst (λ (all : List Packed). Grown longs refusals shorts receipt longs refusals all) (sym same)
    (subst (λ (all : List Refusal). Grown longs refusals shorts receipt longs all (shorts ++ packed ∷ [])) (append-nil refusals)
    (subst (λ (all : List Receipt). Grown longs refusals shorts receipt all (refusals ++ []) (shorts ++ packed ∷ [])) (append-nil longs)
    (grown longs refusals shorts [] [] packed receipt kept (stands-short (longs ++ []) (refusals ++ []) packed receipt short is))))

pub grown_refused : (longs : List Receipt) (refusals all_refusals : List Refusal) (shorts all_shorts : List Packed) (packed : Packed)
    (refusal : Refusal) (receipt : Receipt) → all_refusals ≡ refusals ++ refusal ∷ [] → all_shorts ≡ shorts ++ packed ∷ [] →
    AreKept longs refusals shorts → is_refused (unpacked packed).deed ≡ true → index_of (unpacked packed).deed ≡ length refusals →
    with_refusal refusal (unpacked packed) ≡ receipt → Grown longs refusals shorts receipt longs all_refusals all_shorts
grown_refused longs refusals all_refusals shorts all_shorts packed refusal receipt same_refusals same_shorts kept is at told =
    subst (λ (all : List Packed). Grown longs refusals shorts receipt longs all_refusals all) (sym same_shorts)
    (subst (λ (all : List Refusal). Grown longs refusals shorts receipt longs all (shorts ++ packed ∷ [])) (sym same_refusals)
    (subst (λ (all : List Receipt). Grown longs refusals shorts receipt all (refusals ++ refusal ∷ []) (shorts ++ packed ∷ [])) (append-nil longs)
    (grown longs refusals shorts [] (refusal ∷ []) packed receipt kept
    (stands-refused (longs ++ []) refusals packed refusal receipt is at told))))

pub grown_long : (longs all_longs : List Receipt) (refusals : List Refusal) (shorts all_shorts : List Packed) (packed : Packed)
    (receipt : Receipt) → all_longs ≡ longs ++ receipt ∷ [] → all_shorts ≡ shorts ++ packed ∷ [] → AreKept longs refusals shorts →
    is_long (unpacked packed).deed ≡ true → index_of (unpacked packed).deed ≡ length longs →
    Grown longs refusals shorts receipt all_longs refusals all_shorts
grown_long longs all_longs refusals shorts all_shorts packed receipt same_longs same_shorts kept long at =
    subst (λ (all : List Packed). Grown longs refusals shorts receipt all_longs refusals all) (sym same_shorts)
    (subst (λ (all : List Receipt). Grown longs refusals shorts receipt all refusals (shorts ++ packed ∷ [])) (sym same_longs)
    (subst (λ (all : List Refusal). Grown longs refusals shorts receipt (longs ++ receipt ∷ []) all (shorts ++ packed ∷ [])) (append-nil refusals)
    (grown longs refusals shorts (receipt ∷ []) [] packed receipt kept
    (stands-long longs (refusals ++ []) packed receipt long at))))

-- of two packed receipts with equal heads and firsts both are of refused accesses
pub alike_refused : (one another : Packed) → one.head ≡ another.head → one.first ≡ another.first → is_refused (unpacked one).deed ≡ true →
    is_refused (unpacked another).deed ≡ true
unfolding unpacked
alike_refused one another heads firsts is =
    let same : deed_with (tag_in another.head) another.first another.second ≡ Refused (tag_in another.head) another.first another.second =
    refused-again (tag_in another.head) another.first one.second another.second
    (subst (λ (head : ℕ). is_refused (deed_with (tag_in head) another.first one.second) ≡ true) heads
    (subst (λ (first : ℕ). is_refused (deed_with (tag_in one.head) first one.second) ≡ true) firsts is)) in
    ap is_refused same

-- what is beside says all that the places do not
placeless : (beside : Option Refusal) (number strand line tag first place other : ℕ) →
    refused beside (record { number = number; strand = strand; line = line; deed = Refused tag first place })
    ≡ refused beside (record { number = number; strand = strand; line = line; deed = Refused tag first other })
placeless None number strand line tag first place other = refl
placeless (Some refusal) number strand line tag first place other = refl

unpacked_refused : (longs : List Receipt) (refusals : List Refusal) (packed : Packed) → is_refused (unpacked packed).deed ≡ true →
    receipt_in longs refusals packed ≡ refused (slice_get refusals packed.second) (record {
      number = number_in packed.head;
      strand = strand_in packed.head;
      line = line_in packed.head;
      deed = Refused (tag_in packed.head) packed.first packed.second;
    })
unfolding unpacked
unpacked_refused longs refusals packed is =
    ap (λ (deed : Deed). receipt_of longs refusals (record {
      number = number_in packed.head;
      strand = strand_in packed.head;
      line = line_in packed.head;
      deed = deed;
    }))
    (refused-again (tag_in packed.head) packed.first packed.second packed.second is)

pub placed : (packed : Packed) → is_refused (unpacked packed).deed ≡ true → index_of (unpacked packed).deed ≡ packed.second
unfolding unpacked
placed packed is = ap index_of (refused-again (tag_in packed.head) packed.first packed.second packed.second is)

-- two that are alike, with one thing beside, are of one receipt
pub alike_same : (longs others : List Receipt) (refusals denials : List Refusal) (one another : Packed) → one.head ≡ another.head →
    one.first ≡ another.first → is_refused (unpacked one).deed ≡ true →
    slice_get refusals (index_of (unpacked one).deed) ≡ slice_get denials (index_of (unpacked another).deed) →
    receipt_in longs refusals one ≡ receipt_in others denials another
alike_same longs others refusals denials one another heads firsts is beside =
    let is_too = alike_refused one another heads firsts is in
    let here = unpacked_refused longs refusals one is in
    let there = unpacked_refused others denials another is_too in
    let moved : refused (slice_get refusals one.second) (record {
      number = number_in one.head;
      strand = strand_in one.head;
      line = line_in one.head;
      deed = Refused (tag_in one.head) one.first one.second;
    })
    ≡ refused (slice_get refusals one.second) (record {
      number = number_in one.head;
      strand = strand_in one.head;
      line = line_in one.head;
      deed = Refused (tag_in one.head) one.first another.second;
    }) =
    placeless (slice_get refusals one.second) (number_in one.head) (strand_in one.head) (line_in one.head) (tag_in one.head) one.first
    one.second another.second in
    let same : slice_get refusals one.second ≡ slice_get denials another.second =
    ap (slice_get refusals) (sym (placed one is)) ∙ beside ∙ ap (slice_get denials) (placed another is_too) in
    here ∙ moved
    ∙ ap (λ (beside : Option Refusal). refused beside (record {
      number = number_in one.head;
      strand = strand_in one.head;
      line = line_in one.head;
      deed = Refused (tag_in one.head) one.first another.second;
    })) same
    ∙ ap (λ (head : ℕ). refused (slice_get denials another.second) (record {
      number = number_in head;
      strand = strand_in head;
      line = line_in head;
      deed = Refused (tag_in head) one.first another.second;
    })) heads
    ∙ ap (λ (first : ℕ). refused (slice_get denials another.second) (record {
      number = number_in another.head;
      strand = strand_in another.head;
      line = line_in another.head;
      deed = Refused (tag_in another.head) first another.second;
    })) firsts
    ∙ sym there

-- what stands at a place of a list
pub stands_at : (longs : List Receipt) (refusals : List Refusal) (shorts : List Packed) (at : ℕ) (one : Packed) →
    at < length (receipts_of longs refusals shorts) → one ≡ get_or shorts at one → slice_get shorts at ≡ Some one
stands_at longs refusals shorts at one within is =
    slice_get_read shorts (length shorts) at one refl (omega (arith, within, length-map shorts (receipt_in longs refusals))) is

-- the same thing at these places of two lists, which equal those that were looked at
pub seen_same : (ours seen theirs looked : List Refusal) (at here place there : ℕ) → seen ≡ ours → at ≡ here → looked ≡ theirs → place ≡ there →
    slice_get seen at ≡ slice_get looked place → slice_get ours here ≡ slice_get theirs there
seen_same ours seen theirs looked at here place there same_ours same_at same_theirs same_place same = cc

-- the same receipt at these places of two lists
pub listed_same : (longs others : List Receipt) (refusals denials : List Refusal) (shorts packeds : List Packed) (at place : ℕ)
    (one another : Packed) →
    slice_get shorts at ≡ Some one → slice_get packeds place ≡ Some another → receipt_in longs refusals one ≡ receipt_in others denials another →
    slice_get (receipts_of longs refusals shorts) at ≡ slice_get (receipts_of others denials packeds) place
listed_same longs others refusals denials shorts packeds at place one another here there same =
    slice_get-map (receipt_in longs refusals) shorts at
    ∙ ap (option_map (receipt_in longs refusals)) here
    ∙ ap (λ (receipt : Receipt). Some receipt) same
    ∙ sym (slice_get-map (receipt_in others denials) packeds place ∙ ap (option_map (receipt_in others denials)) there)

-- the receipt that the packed one at a place stands for
listed_at : (longs : List Receipt) (refusals : List Refusal) (shorts : List Packed) (at : ℕ) (one : Packed) →
    at < length (receipts_of longs refusals shorts) → one ≡ get_or shorts at one →
    slice_get (receipts_of longs refusals shorts) at ≡ Some (receipt_in longs refusals one)
listed_at longs refusals shorts at one within is =
    slice_get-map (receipt_in longs refusals) shorts at
    ∙ ap (option_map (receipt_in longs refusals)) (stands_at longs refusals shorts at one within is)

short_in : {A : Type 0} (short long : Bool) (plainly beside denied : A) → short ≡ true →
    (if short then plainly else if long then beside else denied) ≡ plainly
short_in true long plainly beside denied is = refl
short_in false long plainly beside denied is = absurd (false≢true is)

long_in : {A : Type 0} (short long : Bool) (plainly beside denied : A) → short ≡ false → long ≡ true →
    (if short then plainly else if long then beside else denied) ≡ beside
long_in false true plainly beside denied not_short is = refl
long_in false false plainly beside denied not_short is = absurd (false≢true is)
long_in true long plainly beside denied not_short is = absurd (false≢true (sym not_short))

refused_in : {A : Type 0} (short long : Bool) (plainly beside denied : A) → short ≡ false → long ≡ false →
    (if short then plainly else if long then beside else denied) ≡ denied
refused_in false false plainly beside denied not_short not_long = refl
refused_in false true plainly beside denied not_short not_long = absurd (false≢true (sym not_long))
refused_in true long plainly beside denied not_short not_long = absurd (false≢true (sym not_short))

-- what was read of a packed receipt, by its form, stands at its place
pub read_short : (longs : List Receipt) (refusals : List Refusal) (shorts : List Packed) (at : ℕ) (one : Packed) (receipt : Receipt) →
    at < length (receipts_of longs refusals shorts) → one ≡ get_or shorts at one → is_short (unpacked one).deed ≡ true →
    receipt ≡ plain (unpacked one) → slice_get (receipts_of longs refusals shorts) at ≡ Some receipt
read_short longs refusals shorts at one receipt within is short told =
    listed_at longs refusals shorts at one within is
    ∙ ap (λ (r : Receipt). Some r) (short_in (is_short (unpacked one).deed) (is_long (unpacked one).deed) _ _ _ short ∙ sym told)

pub read_long : (longs : List Receipt) (refusals : List Refusal) (shorts : List Packed) (at : ℕ) (one : Packed) (receipt : Receipt) →
    at < length (receipts_of longs refusals shorts) → one ≡ get_or shorts at one → is_short (unpacked one).deed ≡ false →
    is_long (unpacked one).deed ≡ true → receipt ≡ get_or longs (index_of (unpacked one).deed) (plain (unpacked one)) →
    slice_get (receipts_of longs refusals shorts) at ≡ Some receipt
read_long longs refusals shorts at one receipt within is not_short long told =
    listed_at longs refusals shorts at one within is
    ∙ ap (λ (r : Receipt). Some r) (long_in (is_short (unpacked one).deed) (is_long (unpacked one).deed) _ _ _ not_short long ∙ sym told)

pub read_refused : (longs : List Receipt) (refusals : List Refusal) (shorts : List Packed) (at : ℕ) (one : Packed) (receipt : Receipt) →
    at < length (receipts_of longs refusals shorts) → one ≡ get_or shorts at one → is_short (unpacked one).deed ≡ false →
    is_long (unpacked one).deed ≡ false → receipt ≡ refused (slice_get refusals (index_of (unpacked one).deed)) (unpacked one) →
    slice_get (receipts_of longs refusals shorts) at ≡ Some receipt
read_refused longs refusals shorts at one receipt within is not_short not_long told =
    listed_at longs refusals shorts at one within is
    ∙ ap (λ (r : Receipt). Some r) (refused_in (is_short (unpacked one).deed) (is_long (unpacked one).deed) _ _ _ not_short not_long ∙ sym told)

same_packed : (one again : Packed) → Some one ≡ Some again → one ≡ again
same_packed one again same = cc

-- two reads of one place
pub read_twice : (longs : List Receipt) (refusals : List Refusal) (shorts : List Packed) (at : ℕ) (one again : Packed) →
    at < length (receipts_of longs refusals shorts) → one ≡ get_or shorts at one → again ≡ get_or shorts at again → one ≡ again
read_twice longs refusals shorts at one again within is is_again =
    same_packed one again (sym (stands_at longs refusals shorts at one within is) ∙ stands_at longs refusals shorts at again within is_again)

-- two that are kept short, in the same bytes
pub short_same : (longs others : List Receipt) (refusals denials : List Refusal) (shorts packeds : List Packed) (at place : ℕ) (one another : Packed) →
    at < length (receipts_of longs refusals shorts) → one ≡ get_or shorts at one → place < length (receipts_of others denials packeds) →
    another ≡ get_or packeds place another → is_short (unpacked one).deed ≡ true → one ≡ another →
    slice_get (receipts_of longs refusals shorts) at ≡ slice_get (receipts_of others denials packeds) place
short_same longs others refusals denials shorts packeds at place one another within is within_too is_too short same =
    read_short longs refusals shorts at one (plain (unpacked one)) within is short refl
    ∙ sym (read_short others denials packeds place another (plain (unpacked one)) within_too is_too
    (subst (λ (p : Packed). is_short (unpacked p).deed ≡ true) same short) (ap (λ (p : Packed). plain (unpacked p)) same))

-- an entry is at the place of its receipt
pub entry_at : (receipts : List Receipt) (at : ℕ) (receipt : Receipt) (entry : Entry) → slice_get receipts at ≡ Some receipt → entry ≡ entry_of receipt →
    slice_get (entries_of receipts) at ≡ Some entry
entry_at receipts at receipt entry here is =
    slice_get-map entry_of receipts at ∙ ap (option_map entry_of) here ∙ ap (λ (e : Entry). Some e) (sym is)

-- the same receipt at two places has one entry
pub entries_same : (ours theirs : List Receipt) (at place : ℕ) → at < length (entries_of ours) → place < length theirs →
    slice_get ours at ≡ slice_get theirs place → (e : Entry) (r : Receipt) → entry_of (get_or theirs place r) ≡ get_or (entries_of ours) at e
entries_same ours theirs at place within within_too same e r =
    let there : slice_get ours at ≡ Some (get_or theirs place r) = same ∙ slice_get-get_or theirs place r within_too in
    sym (get_or_from_slice_get (entries_of ours) at (entry_of (get_or theirs place r)) e (entry_at ours at (get_or theirs place r) _ there refl))

-- two that were read at these places, and held against each other
pub entries_told : (entries : List Entry) (receipts : List Receipt) (at place : ℕ) (entry kept : Entry) (receipt : Receipt) (same : Bool) →
    slice_get receipts place ≡ Some receipt → kept ≡ entry_of receipt → slice_get entries at ≡ Some entry →
    (IsTrue same → kept ≡ entry) × (kept ≡ entry → IsTrue same) →
    (IsTrue same → (e : Entry) (r : Receipt) → entry_of (get_or receipts place r) ≡ get_or entries at e)
    × (((e : Entry) (r : Receipt) → entry_of (get_or receipts place r) ≡ get_or entries at e) → IsTrue same)
entries_told entries receipts at place entry kept receipt same there is here told =
    let found = λ (e : Entry) (r : Receipt). ap entry_of (get_or_from_slice_get receipts place receipt r there) ∙ sym is in
    let mine = λ (e : Entry). get_or_from_slice_get entries at entry e here in
    ((λ yes e r. found e r ∙ told.0 yes ∙ sym (mine e)), (λ all. told.1 (sym (found entry receipt) ∙ all entry receipt ∙ mine entry)))
