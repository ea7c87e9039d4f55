-- When a put or a get of a reducer races with an earlier one (Lee and Schardl 2015), and what the right answer to it is.
use Rattle.std.specs.Prelude.{◌≡◌, ◌↔◌, ℕ, true, List}
use Rattle.model_accesses.specs.declared.kind.Kind.{Kind}
use Rattle.model_accesses.specs.declared.kind.Kind.TheVariants as kind
use Rattle.model_accesses.specs.declared.kind.Rule.{Rule}
use Rattle.model_accesses.specs.declared.kind.Rule.TheVariants.{View}
use Rattle.model_accesses.specs.Table.{rule_between}
use Rattle.model_strands.specs.History.{History}
use Rattle.model_strands.specs.Legal.{Legal}
use Rattle.model_strands.specs.Extensions.{Extends, IsFinished}
use Rattle.model_strands.specs.Peers.{HaveSamePeers}
use Rattle.model_accesses.specs.declared.witness.Witness.{Witness}
use Rattle.model_accesses.specs.Reads.{ReducerRead, witness_of, IsReadOf, HasOtherPeers}
use Rattle.model_histories.specs.declared.answer.Answer.{Answer}
use Rattle.model_histories.specs.declared.answer.Answer.TheVariants.{Unset}
use Rattle.model_races.specs.Accesses.{is_granted}
use Rattle.model_races.specs.Verdicts.{IsRefused, IfRefused}

-- the whole is a finished extension of the history: a legal one that begins with it, and at whose end the root function returns
pub record Completes (whole history : History) : Type 0 where
  pub extends : Extends whole history
  pub legal : Legal whole
  pub finished : IsFinished whole

-- In this dag, one of the earlier granted reads of the reducer is of a strand with other peers.
abbrev pub HasViewRace : History → List ReducerRead → ℕ → ℕ → Type 0
HasViewRace dag earlier strand reducer = (read : ReducerRead) × IsReadOf earlier reducer read × HasOtherPeers dag strand read

-- The witness is such a read, by its entry, its strand and its kind, in the dag of each finished extension, and the rule is that of views.
pub record IsTrueReadWitness (history : History) (earlier : List ReducerRead)
    (strand reducer : ℕ) (new : Kind) (rule : Rule) (witness : Witness) : Type 0 where
  pub read : ReducerRead
  pub names : witness ≡ witness_of read
  pub listed : IsReadOf earlier reducer read
  pub other_peers : (whole : History) → Completes whole history → HasOtherPeers whole strand read
  pub by_views : rule ≡ View
  pub by_kinds : rule_between witness.kind new ≡ View

-- After this control history and these granted reads this is the right answer to the strand's put or get of the reducer.
pub record IsRightRead (history : History) (earlier : List ReducerRead) (strand reducer : ℕ) (new : Kind) (answer : Answer) : Type 0 where
  -- it is unset exactly where it is a get and the reducer was never read
  pub unset : (answer ≡ Unset) ↔ ((new ≡ kind.Get) × ((read : ReducerRead) → IsReadOf earlier reducer read → ⊥))
  -- it is refused exactly where a view-read race is there, in the dag of each finished extension
  pub refused : (whole : History) → Completes whole history → IsRefused answer ↔ HasViewRace whole earlier strand reducer
  -- a refusal names a true witness and its rule
  pub witness : IfRefused answer (IsTrueReadWitness history earlier strand reducer new)
  -- where it is granted, all earlier granted reads of the reducer are of strands with the same peers
  pub granted : is_granted answer ≡ true → (read : ReducerRead) → IsReadOf earlier reducer read →
      (whole : History) → Completes whole history →
      HaveSamePeers whole read.strand strand
