use Rattle.std.proofs.Common.{◌≡◌, ◌↔◌, ℕ, None, true, refl, sym, subst}
use Rattle.std.specs.Option.{IsSome}
use Rattle.std.proofs.lemmas.List.{append-nil}
use Rattle.model_accesses.specs.declared.kind.Rule.{Rule}
use Rattle.model_accesses.specs.declared.request.Act.{Act}
use Rattle.model_accesses.specs.declared.request.Act.TheVariants as act
use Rattle.model_accesses.specs.declared.witness.Witness.{Witness}
use Rattle.shadow_history.specs.Shadow.{Remembers}
use Rattle.model_accesses.specs.Accesses.{access_of_witness}
use Rattle.model_races.specs.declared.access.CellAccess.{CellAccess}
use Rattle.model_histories.specs.declared.answer.Answer.{Answer}
use Rattle.model_histories.specs.declared.answer.Answer.TheVariants.{Split, Same, Joined, Waits, Resumed, Ended, EndedJoined, Finished, Granted, Value, Refused, Unset}
use Rattle.race_gate.specs.Accesses.{act_of_cell}
use Rattle.model_races.specs.Accesses.{is_granted}
use Rattle.model_races.specs.Memory.{effect_on_cell}
use Rattle.race_gate.specs.Steps.{numbered_access, IsJudgedBy, after}
use Rattle.model_races.specs.Verdicts.{IsRefused, IfRefused}
use Rattle.race_gate.proofs.step.judge_access.Goals as goal

-- what was granted was not refused
not_refused : (answer : Answer) → is_granted answer ≡ true → IsRefused answer → ⊥
not_refused (Refused rule witness) granted refused = absurd (cc)
not_refused (Split spawned) granted refused = refused
not_refused Same granted refused = refused
not_refused (Joined join) granted refused = refused
not_refused Waits granted refused = refused
not_refused Resumed granted refused = refused
not_refused Ended granted refused = refused
not_refused (EndedJoined join) granted refused = refused
not_refused Finished granted refused = refused
not_refused Granted granted refused = refused
not_refused (Value value) granted refused = refused
not_refused Unset granted refused = refused

names_nothing : (answer : Answer) (Names : Rule → Witness → Type 0) → (IsRefused answer → ⊥) → IfRefused answer Names
names_nothing (Refused rule witness) Names not = absurd (not tt)
names_nothing (Split spawned) Names not = tt
names_nothing Same Names not = tt
names_nothing (Joined join) Names not = tt
names_nothing Waits Names not = tt
names_nothing Resumed Names not = tt
names_nothing Ended Names not = tt
names_nothing (EndedJoined join) Names not = tt
names_nothing Finished Names not = tt
names_nothing Granted Names not = tt
names_nothing (Value value) Names not = tt
names_nothing Unset Names not = tt

-- a refused access leaves each cell
leaves_each : (act : Act) (rule : Rule) (witness : Witness) (cell value : ℕ) → value ≡ after (effect_on_cell act (Refused rule witness)) cell value
leaves_each (act.Read location) rule witness cell value = refl
leaves_each (act.Write location written) rule witness cell value = refl
leaves_each (act.Bump location added) rule witness cell value = refl
leaves_each (act.Update reducer update) rule witness cell value = refl
leaves_each (act.Put reducer put) rule witness cell value = refl
leaves_each (act.Get reducer) rule witness cell value = refl
leaves_each act.Spawn rule witness cell value = refl
leaves_each act.Sync rule witness cell value = refl
leaves_each act.Call rule witness cell value = refl
leaves_each act.Return rule witness cell value = refl

no_race : (Race : Type 0) → (IsSome {T = Witness} None ↔ Race) → Race → ⊥
no_race Race tells race = let some = tells.1 race in absurd (cc)

pub returns-in-Some-clause-judged : goal.returns-in-Some-clause-judged
returns-in-Some-clause-judged g c history accesses follows remembers =
    let found = c.in-Some.ensures.witness history accesses follows remembers in
    subst (λ (access : CellAccess). IsJudgedBy history accesses (numbered_access c.args.number c.args.strand access) (Refused c.rule.result c.in-Some.witness) c.args.shadow.now)
    c.access_of-kind.ensures (record {
      refused = ((λ t. (access_of_witness c.access_of-kind.result.location c.in-Some.witness, found.races)), (λ race. tt));
      witness = (found.races, c.rule.ensures.value);
      remembers = subst (λ xs. Remembers c.args.shadow.now history xs) (sym (append-nil accesses)) remembers;
    })

pub returns-in-Some-clause-memory : goal.returns-in-Some-clause-memory
returns-in-Some-clause-memory g c = record {
  len = refl;
  each = λ cell below. leaves_each (act_of_cell c.args.act) c.rule.result c.in-Some.witness cell _;
}

pub returns-clause-judged : goal.returns-clause-judged
returns-clause-judged g c history accesses follows remembers =
    let exact = c.in_default.ensures.exact history accesses follows remembers in
    let not = not_refused c.perform.result c.perform.ensures.granted in
    subst (λ (access : CellAccess). IsJudgedBy history accesses (numbered_access c.args.number c.args.strand access) c.perform.result c.add.new.self) c.access_of-kind.ensures (record {
      refused = ((λ t. absurd (not t)), (λ race. absurd (no_race _ exact race)));
      witness = names_nothing c.perform.result _ not;
      remembers = rw c.perform.ensures.granted (c.add.ensures.added history accesses follows remembers);
    })

pub returns-clause-value : goal.returns-clause-value
returns-clause-value g c = c.perform.ensures.value

pub returns-clause-memory : goal.returns-clause-memory
returns-clause-memory g c = c.perform.ensures.memory

pub returns-clause-belongs : goal.returns-clause-belongs
returns-clause-belongs g c = c.perform.ensures.belongs

pub perform-requires : goal.perform-requires
perform-requires g c = c.requires.in_memory

pub returns-in-Some-clause-locations : goal.returns-in-Some-clause-locations
returns-in-Some-clause-locations g c = refl
