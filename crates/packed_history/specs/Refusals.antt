-- Refused accesses, each with its value and witness beside.
use Rattle.std.specs.Prelude.{◌≡◌, ℕ, Option, None, Some, ◌<◌, ◌==◌, if◌then◌else◌}
use Rattle.model_accesses.specs.declared.request.Act.{Act}
use Rattle.model_accesses.specs.declared.request.Act.TheVariants as act
use Rattle.model_histories.specs.declared.answer.Answer.{Answer}
use Rattle.model_histories.specs.declared.answer.Answer.TheVariants as answer
use Rattle.model_histories.specs.declared.reply.Receipt.{Receipt}
use Rattle.packed_history.specs.declared.deed.Numbers.{Numbers}
use Rattle.packed_history.specs.declared.refusal.Refusal.{Refusal}
use Rattle.packed_history.specs.Shorts.{Short, Deed, Refused, plain, deed_act}

-- the access of this tag
abbrev pub act_with : (tag first value : ℕ) → Act
act_with tag first value =
    if tag == 16 then act.Read first else
    if tag == 17 then act.Write first value else
    if tag == 18 then act.Bump first value else
    if tag == 19 then act.Update first value else
    if tag == 20 then act.Put first value else act.Get first

-- the numbers, with the value as the second, say what was asked
abbrev pub IsAsked : Act → Numbers → Type 0
IsAsked asked numbers = (15 < numbers.tag) × (numbers.tag < 22) × (act_with numbers.tag numbers.first numbers.second ≡ asked)

-- what was answered
abbrev pub answer_with : Refusal → Answer
answer_with refusal = answer.Refused refusal.rule (record { entry = refusal.entry; strand = refusal.strand; kind = refusal.kind })

-- the access that was refused
abbrev pub refused_act : Deed → ℕ → Act
refused_act (Refused tag first place) value = act_with tag first value
refused_act deed value = deed_act deed

-- the receipt of a refused access that has this beside
abbrev pub with_refusal : Refusal → Short → Receipt
with_refusal refusal short = record {
  number = short.number;
  request = record { strand = short.strand; line = short.line; act = refused_act short.deed refusal.value };
  answer = answer_with refusal;
}

-- the receipt of one that has this beside, if anything
abbrev pub refused : Option Refusal → Short → Receipt
refused (Some refusal) short = with_refusal refusal short
refused None short = plain short
