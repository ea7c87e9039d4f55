-- A history in which nothing is refused speaks for each order in which its strands can come.
use Rattle.std.proofs.Common.{ℕ}
use Rattle.std.proofs.lemmas.List.Elements.{All-contains}
use Rattle.model_histories.specs.declared.answer.Answer.{Answer}
use Rattle.model_histories.specs.declared.answer.Answer.TheVariants.{Refused}
use Rattle.model_histories.specs.declared.answer.Entry.{Entry}
use Rattle.model_histories.specs.Entries.{Entries}
use Rattle.model_histories.specs.Shapes.{Shape}
use Rattle.model_histories.specs.Extensions.{IsCleanAnswer, IsClean}
use Rattle.model_races.specs.Verdicts.{IsRefused}
use Rattle.model_races.specs.Judged.{IsJudged}
use Rattle.law_interleavings.proofs.Interleavings.{interleaving_law, same_strands_law}
use Rattle.law_traces.specs.Locations.{HasRefusal, HasReadRefusal}
use Rattle.law_traces.specs.CleanTraces.{IsRaceFree}
use Rattle.law_traces.specs.Laws.{CleanTraceLaw}
use Rattle.law_traces.proofs.Locations.{location_law}
use Rattle.law_traces.proofs.Reducers.{reducer_law}

not_both : (answer : Answer) → IsCleanAnswer answer → IsRefused answer → ⊥
not_both (Refused rule w) clean refused = clean
not_both _ clean refused = refused

none_refused : (entries : Entries) → IsClean entries → (cell : ℕ) → HasRefusal entries cell → ⊥
none_refused H clean c (one, k, h, q, r) = not_both one.answer (All-contains (λ (x : Entry). IsCleanAnswer x.answer) H one clean h) r

no_read_refused : (entries : Entries) → IsClean entries → (reducer : ℕ) → HasReadRefusal entries reducer → ⊥
no_read_refused H clean x (one, h, is, r) = not_both one.answer (All-contains (λ (y : Entry). IsCleanAnswer y.answer) H one clean h) r

race_free : (shape : Shape) (entries : Entries) → IsJudged shape entries → IsClean entries → IsRaceFree entries
race_free shape H j clean = record {
  cells = λ whole ext legal cell race. none_refused H clean cell ((location_law shape H j whole ext legal cell).1 race);
  reducers = λ whole completes reducer race. no_read_refused H clean reducer ((reducer_law shape H j whole completes reducer).1 race);
}

pub clean_trace_law : CleanTraceLaw
clean_trace_law shape H j clean = record {
  race_free = race_free shape H j clean;
  orders = λ G i same. (
      let t = same_strands_law shape H j clean G i same in
      record { is_clean = t.0; race_free = race_free shape G i t.0; values = t.1; memory = t.2 });
  parts = λ G i no_more. (let t = interleaving_law shape H j clean G i no_more in (race_free shape G i t.is_clean, t));
}
