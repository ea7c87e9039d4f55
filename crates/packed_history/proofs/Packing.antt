-- What is packed is unpacked again.
use Rattle.std.proofs.Common.{◌≡◌, ◌<◌, ◌+◌, ◌*◌, ◌^◌, ℕ, true, refl, sym, ap, subst, ◌∙◌, arith}
use Rattle.model_histories.specs.declared.reply.Receipt.{Receipt}
use Rattle.model_accesses.specs.declared.request.Act.{Act}
use Rattle.model_histories.specs.declared.answer.Answer.{Answer}
use Rattle.packed_history.specs.Shorts.{Short, Deed, IsShortOf, Refused, deed_act, answer_of, index_of, is_long, is_refused, is_short, plain}
use Rattle.packed_history.specs.declared.refusal.Refusal.{Refusal}
use Rattle.packed_history.specs.Refusals.{act_with, answer_with, refused_act, with_refusal}
use Rattle.packed_history.specs.Packing.{deed_with, unpacked, number_in, strand_in, line_in, tag_in, IsStart}

number-still : (start tag : ℕ) → number_in (start + 576460752303423488 * tag) ≡ number_in start
number-still start tag = omega arith

strand-still : (start tag : ℕ) → strand_in (start + 576460752303423488 * tag) ≡ strand_in start
strand-still start tag = omega arith

line-still : (start tag : ℕ) → line_in (start + 576460752303423488 * tag) ≡ line_in start
line-still start tag = omega arith

tag-again : (start tag : ℕ) → tag_in start ≡ 0 → tag_in (start + 576460752303423488 * tag) ≡ tag
tag-again start tag none = omega (arith, none)

-- a receipt in small numbers is that of equal parts
parts : (short : Short) (number strand line : ℕ) (deed : Deed) → number ≡ short.number → strand ≡ short.strand → line ≡ short.line → deed ≡ short.deed →
    ◌≡◌ {A = Short} (record { number = number; strand = strand; line = line; deed = deed }) short
parts short number strand line deed same_number same_strand same_line same_deed = grind (arith, same_number, same_strand, same_line, same_deed)

packed-again : (start tag first second number strand line : ℕ) → IsStart start number strand line →
    unpacked (record { head = start + 576460752303423488 * tag; first = first; second = second })
    ≡ record { number = number; strand = strand; line = line; deed = deed_with tag first second }
unfolding unpacked
packed-again start tag first second number strand line is =
    let head = start + 576460752303423488 * tag in
    parts (record { number = number; strand = strand; line = line; deed = deed_with tag first second })
    (number_in head) (strand_in head) (line_in head) (deed_with (tag_in head) first second)
    (number-still start tag ∙ is.1) (strand-still start tag ∙ is.2) (line-still start tag ∙ is.3)
    (ap (λ t. deed_with t first second) (tag-again start tag is.0))

-- numbers that say what was asked and answered, under a head that says who asked where, are the receipt
pub packed-is : (start tag first second : ℕ) (receipt : Receipt) → IsStart start receipt.number receipt.request.strand receipt.request.line →
    IsShortOf receipt.request.act receipt.answer (deed_with tag first second) →
    (is_short (unpacked (record { head = start + 576460752303423488 * tag; first = first; second = second })).deed ≡ true)
    × (plain (unpacked (record { head = start + 576460752303423488 * tag; first = first; second = second })) ≡ receipt)
packed-is start tag first second receipt is of_these =
    subst (λ (short : Short). (is_short short.deed ≡ true) × (plain short ≡ receipt))
    (sym (packed-again start tag first second receipt.number receipt.request.strand receipt.request.line is))
    (of_these.0, grind (arith, of_these.1, of_these.2))

-- the receipt of equal parts
pub plain-parts : (short : Short) (number strand line : ℕ) (act : Act) (answer : Answer) → number ≡ short.number → strand ≡ short.strand → line ≡ short.line →
    act ≡ deed_act short.deed → answer ≡ answer_of short.deed →
    ◌≡◌ {A = Receipt} (record { number = number; request = record { strand = strand; line = line; act = act }; answer = answer }) (plain short)
plain-parts short number strand line act answer same_number same_strand same_line same_act same_answer =
    grind (arith, same_number, same_strand, same_line, same_act, same_answer)

-- the place of what is kept beside
pub long-index : (tag first second : ℕ) → is_long (deed_with tag first second) ≡ true → index_of (deed_with tag first second) ≡ second * 2 ^ 32 + first
long-index tag first second long = grind (arith, long)

-- the deed of a refused access
refused-deed : (tag first second : ℕ) → 15 < tag → tag < 22 → deed_with tag first second ≡ Refused tag first second
refused-deed tag first second low high = grind (arith, low, high)

-- a refused access, with what its record beside holds, is the receipt
pub refused-is : (start tag first place : ℕ) (refusal : Refusal) (receipt : Receipt) →
    IsStart start receipt.number receipt.request.strand receipt.request.line →
    15 < tag → tag < 22 → act_with tag first refusal.value ≡ receipt.request.act → answer_with refusal ≡ receipt.answer →
    (is_refused (unpacked (record { head = start + 576460752303423488 * tag; first = first; second = place })).deed ≡ true)
    × (index_of (unpacked (record { head = start + 576460752303423488 * tag; first = first; second = place })).deed ≡ place)
    × (with_refusal refusal (unpacked (record { head = start + 576460752303423488 * tag; first = first; second = place })) ≡ receipt)
refused-is start tag first place refusal receipt is low high asked answered =
    let same : unpacked (record { head = start + 576460752303423488 * tag; first = first; second = place })
    ≡ record { number = receipt.number; strand = receipt.request.strand; line = receipt.request.line; deed = Refused tag first place } =
    subst (λ (deed : Deed). unpacked (record { head = start + 576460752303423488 * tag; first = first; second = place })
    ≡ record { number = receipt.number; strand = receipt.request.strand; line = receipt.request.line; deed = deed })
    (refused-deed tag first place low high)
    (packed-again start tag first place receipt.number receipt.request.strand receipt.request.line is) in
    subst (λ (short : Short). (is_refused short.deed ≡ true) × (index_of short.deed ≡ place) × (with_refusal refusal short ≡ receipt))
    (sym same) (refl, refl, grind (arith, asked, answered))

-- the access that was refused
pub refused-asked : (tag first second value : ℕ) → is_refused (deed_with tag first second) ≡ true →
    refused_act (deed_with tag first second) value ≡ act_with tag first value
refused-asked tag first second value is = grind (arith, is)

-- of a refused access the place alone may be another
pub refused-again : (tag first second other : ℕ) → is_refused (deed_with tag first second) ≡ true →
    deed_with tag first other ≡ Refused tag first other
refused-again tag first second other is = grind (arith, is)

-- the receipt of equal parts, and of what is beside
pub refused-parts : (short : Short) (refusal : Refusal) (number strand line : ℕ) (act : Act) (answer : Answer) → number ≡ short.number →
    strand ≡ short.strand → line ≡ short.line → act ≡ refused_act short.deed refusal.value → answer ≡ answer_with refusal →
    ◌≡◌ {A = Receipt} (record { number = number; request = record { strand = strand; line = line; act = act }; answer = answer })
    (with_refusal refusal short)
refused-parts short refusal number strand line act answer same_number same_strand same_line same_act same_answer =
    grind (arith, same_number, same_strand, same_line, same_act, same_answer)
