use Rattle.std.proofs.Common.{refl, rules}
use Rattle.trace_text.proofs.NamedWords.{lowest_no_reducer}
use Rattle.trace_text.proofs.place.reducer_of.Goals as goal

pub returns-in-Some-Single : goal.returns-in-Some-Single
returns-in-Some-Single g c =
    lowest_no_reducer c.args.names.now c.args.name.now _ (c.if-not-is_name.ensures.0 refl) (rw c.in-Some-Single.field-0-is at c.in-Some-Single.ensures.named) refl c.in-Some-Single.ensures.apart

pub returns-in-Some-Array : goal.returns-in-Some-Array
returns-in-Some-Array g c =
    lowest_no_reducer c.args.names.now c.args.name.now _ (c.if-not-is_name.ensures.0 refl) (rw c.in-Some-Array.field-0-is at c.in-Some-Array.ensures.named) refl c.in-Some-Array.ensures.apart

pub returns-in-None : goal.returns-in-None
returns-in-None g c =
    lowest_no_reducer c.args.names.now c.args.name.now _ (c.if-not-is_name.ensures.0 refl) c.in-None.ensures.named refl c.in-None.ensures.apart

pub returns-in-Some-Reducer : goal.returns-in-Some-Reducer
returns-in-Some-Reducer g c = search rules
