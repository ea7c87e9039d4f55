-- A judged history can be told.
use Rattle.std.proofs.Common.{◌≡◌, ℕ, suc, ◌<◌, ◌≤◌, ◌⊎◌, inl, inr, Bool, true, false, Option, Some, None, List, [], ◌∷◌, ◌++◌, length, reverse, Contains, sym, ap, subst, arith}
use Rattle.std.specs.Prelude.{MatchOption, if◌then◌else◌}
use Rattle.std.specs.List.{All}
use Rattle.std.specs.Option.{option_map, option_to_list}
use Rattle.std.proofs.lemmas.List.{length-reverse}
use Rattle.std.proofs.lemmas.List.Elements.{All-nil, All-cons, All-weaker, Contains-append_cases, Contains-push_cases}
use Rattle.model_accesses.specs.declared.request.Act.{Act}
use Rattle.model_accesses.specs.declared.request.Act.TheVariants.{Spawn, Sync, Call, Return, Read, Write, Bump, Update, Put, Get}
use Rattle.model_accesses.specs.Accesses.{Access}
use Rattle.model_accesses.specs.Reads.{ReducerRead}
use Rattle.model_races.specs.declared.access.CellAccess.{CellAccess}
use Rattle.model_histories.specs.declared.answer.Answer.{Answer}
use Rattle.model_histories.specs.declared.answer.Answer.TheVariants.{Granted, Value, Refused, Unset}
use Rattle.model_histories.specs.declared.answer.Entry.{Entry}
use Rattle.model_histories.specs.Entries.{Entries}
use Rattle.model_histories.specs.Shapes.{Shape}
use Rattle.model_histories.specs.Legal.{Belongs}
use Rattle.model_races.specs.Accesses.{cell_access, is_granted, access_at, granted}
use Rattle.model_races.specs.Verdicts.{IsRightVerdict}
use Rattle.model_races.specs.Reducers.{read_at, granted_reads}
use Rattle.model_races.specs.ReducerVerdicts.{IsRightFor, reads_before}
use Rattle.model_races.specs.Judged.{IsJudged}
use Rattle.race_gate.proofs.Races.{none-listed}
use Rattle.race_report.specs.Conditions.{IsGetWhereUnset, HasWitness, IsTellable, AreTellable}
use Rattle.verdict_lines.proofs.GateWords.{answer_has_word}
use Rattle.race_report.proofs.Reversed.{all_reversed}

-- ---- what is granted has the number of its entry

-- what is listed of one more is of the list or the one
one_more : {X : Type 0} (xs : List X) (more : Option X) (x : X) → Contains (xs ++ option_to_list more) x → Contains xs x ⊎ (more ≡ Some x)
one_more xs None x listed = elim (Contains-append_cases xs [] x listed) [ inl earlier ↦ inl earlier | inr none ↦ absurd (none-listed x none) ]
one_more xs (Some one) x listed = elim (Contains-push_cases xs one x listed) [ inl earlier ↦ inl earlier | inr same ↦ inr (ap Some same) ]

access_number : (done : Bool) (found : Option CellAccess) (number strand : ℕ) (access : Access) →
    (if done then option_map (λ (cell : CellAccess). let made : Access = record { strand = strand; kind = cell.kind; location = cell.location; entry = number } in made) found else None) ≡ Some access →
    access.entry ≡ number
access_number true (Some cell) number strand access is = cc
access_number true None number strand access is = absurd cc
access_number false found number strand access is = absurd cc

read_number : (number strand : ℕ) (act : Act) (answer : Answer) (read : ReducerRead) → read_at number strand act answer ≡ Some read → read.entry ≡ number
read_number number strand (Put reducer value) Granted read is = cc
read_number number strand (Get reducer) (Value value) read is = cc
read_number number strand act answer read is = absurd cc

-- the entry is one of so many
abbrev IsNumber : ℕ → ℕ → Type 0
IsNumber count number = (0 < number) × (number ≤ count)

granted_number : (entries : Entries) (access : Access) → Contains (granted entries) access → IsNumber (length entries) access.entry
granted_number [] access listed = absurd (none-listed access listed)
granted_number (entry ∷ entries) access listed =
    elim (one_more (granted entries) (access_at (suc (length entries)) entry) access listed) [
      | inl earlier ↦ (let before = granted_number entries access earlier in (before.0, omega arith))
      | inr last ↦ (let is = access_number (is_granted entry.answer) (cell_access entry.request.act) (suc (length entries)) entry.request.strand access last in (omega arith, omega arith))
    ]

reads_number : (entries : Entries) (read : ReducerRead) → Contains (granted_reads entries) read → IsNumber (length entries) read.entry
reads_number [] read listed = absurd (none-listed read listed)
reads_number (entry ∷ entries) read listed =
    elim (one_more (granted_reads entries) (read_at (suc (length entries)) entry.request.strand entry.request.act entry.answer) read listed) [
      | inl earlier ↦ (let before = reads_number entries read earlier in (before.0, omega arith))
      | inr last ↦ (let is = read_number (suc (length entries)) entry.request.strand entry.request.act entry.answer read last in (omega arith, omega arith))
    ]

-- ---- each entry can be told

unset_is_get : (act : Act) (answer : Answer) → Belongs act answer → IsGetWhereUnset act answer
unset_is_get (Get reducer) Unset belongs = tt
unset_is_get (Read location) Unset belongs = absurd belongs
unset_is_get (Write location value) Unset belongs = absurd belongs
unset_is_get (Bump location value) Unset belongs = absurd belongs
unset_is_get (Update reducer value) Unset belongs = absurd belongs
unset_is_get (Put reducer value) Unset belongs = absurd belongs
unset_is_get Spawn Unset belongs = absurd belongs
unset_is_get Sync Unset belongs = absurd belongs
unset_is_get Call Unset belongs = absurd belongs
unset_is_get Return Unset belongs = absurd belongs
unset_is_get act answer belongs = tt

answer_has_witness : (shape : Shape) (entries : Entries) (strand : ℕ) (act : Act) (answer : Answer) → Belongs act answer →
    MatchOption (cell_access act) (Unit {0}) (λ access. IsRightVerdict entries strand access answer) →
    IsRightFor (reads_before shape.monoids entries) strand act answer → HasWitness (length entries) answer
answer_has_witness shape entries strand (Read location) (Refused rule witness) belongs right reads = granted_number entries _ right.witness.0.0
answer_has_witness shape entries strand (Write location value) (Refused rule witness) belongs right reads = granted_number entries _ right.witness.0.0
answer_has_witness shape entries strand (Bump location value) (Refused rule witness) belongs right reads = granted_number entries _ right.witness.0.0
answer_has_witness shape entries strand (Put reducer value) (Refused rule witness) belongs right reads =
    subst (λ (number : ℕ). IsNumber (length entries) number) (ap (λ named. named.entry) (sym reads.witness.names)) (reads_number entries reads.witness.read reads.witness.listed.0)
answer_has_witness shape entries strand (Get reducer) (Refused rule witness) belongs right reads =
    subst (λ (number : ℕ). IsNumber (length entries) number) (ap (λ named. named.entry) (sym reads.0.witness.names)) (reads_number entries reads.0.witness.read reads.0.witness.listed.0)
answer_has_witness shape entries strand (Update reducer value) (Refused rule witness) belongs right reads = absurd belongs
answer_has_witness shape entries strand Spawn (Refused rule witness) belongs right reads = absurd belongs
answer_has_witness shape entries strand Sync (Refused rule witness) belongs right reads = absurd belongs
answer_has_witness shape entries strand Call (Refused rule witness) belongs right reads = absurd belongs
answer_has_witness shape entries strand Return (Refused rule witness) belongs right reads = absurd belongs
answer_has_witness shape entries strand act answer belongs right reads = tt

more_entries : (count more : ℕ) (answer : Answer) → count ≤ more → HasWitness count answer → HasWitness more answer
more_entries count more (Refused rule witness) longer has = (has.0, omega (arith, has.1))
more_entries count more answer longer has = tt

still_tellable : (shape : Shape) (count more : ℕ) → count ≤ more → (entry : Entry) → IsTellable shape count entry → IsTellable shape more entry
still_tellable shape count more longer entry tells =
    record { in_range = tells.in_range; word = tells.word; unset = tells.unset; witness = more_entries count more entry.answer longer tells.witness }

-- the newest stand first
judged_tellable : (shape : Shape) (entries : Entries) → IsJudged shape entries → AreTellable shape entries
judged_tellable shape [] judged = All-nil (IsTellable shape 0)
judged_tellable shape (entry ∷ entries) judged =
    let before = judged_tellable shape entries (record { legal = judged.legal.0; memory = judged.memory.0; reducers = judged.reducers.0 }) in
    let belongs = judged.legal.1.belongs in
    let longer : length entries ≤ suc (length entries) = omega arith in
    let witness = answer_has_witness shape entries entry.request.strand entry.request.act entry.answer belongs judged.memory.1 judged.reducers.1 in
    let last : IsTellable shape (suc (length entries)) entry = record {
      in_range = judged.legal.1.in_range;
      word = answer_has_word shape entries entry.request.strand entry.request.act entry.answer belongs judged.memory.1 judged.reducers.1;
      unset = unset_is_get entry.request.act entry.answer belongs;
      witness = more_entries (length entries) (suc (length entries)) entry.answer longer witness;
    } in
    All-cons (IsTellable shape (suc (length entries))) entry entries last
    (All-weaker (IsTellable shape (length entries)) (IsTellable shape (suc (length entries)))
    (still_tellable shape (length entries) (suc (length entries)) longer) entries before)

-- Where the history, of which these are the entries oldest first, is judged, its report can be told.
pub judged_meets : (shape : Shape) (told : List Entry) → IsJudged shape (reverse told) → AreTellable shape told
judged_meets shape told judged =
    all_reversed (IsTellable shape (length told)) told
    (subst (λ (count : ℕ). All (IsTellable shape count) (reverse told)) (length-reverse told) (judged_tellable shape (reverse told) judged))
