-- The verdicts on puts and gets are right.
use Rattle.std.proofs.Common.{◌≡◌, ◌≢◌, ◌⊎◌, inl, inr, ℕ, true, false, List, Option, Some, None, IsTrue, refl, sym, ◌∙◌, ap, subst}
use Rattle.std.specs.Prelude.{MatchOption}
use Rattle.model_accesses.specs.declared.kind.Kind.{Kind}
use Rattle.model_accesses.specs.declared.kind.Kind.TheVariants as kind
use Rattle.model_accesses.specs.declared.kind.Rule.{Rule}
use Rattle.model_accesses.specs.declared.kind.Rule.TheVariants.{View}
use Rattle.model_accesses.specs.Table.{rule_between, is_reducer_read}
use Rattle.access_table.proofs.Conflicts.{views_of_reducer_reads}
use Rattle.model_strands.specs.History.{History}
use Rattle.model_strands.specs.Strands.{Begun}
use Rattle.model_strands.specs.Legal.{Legal}
use Rattle.law_strands.specs.Branches.{branch}
use Rattle.model_strands.specs.Peers.{HaveSamePeers}
use Rattle.law_strands.proofs.Branches.{branch_law}
use Rattle.model_accesses.specs.declared.witness.Witness.{Witness}
use Rattle.model_accesses.specs.Reads.{ReducerRead, witness_of, IsReadOf}
use Rattle.view_read_rule.specs.Reads.{first_read, IsOfBranch, AreOfOneBranch}
use Rattle.view_read_rule.proofs.Firsts.{first-of, none-of}
use Rattle.model_histories.specs.declared.answer.Answer.{Answer}
use Rattle.model_histories.specs.declared.answer.Answer.TheVariants.{Refused, Unset}
use Rattle.model_races.specs.Accesses.{is_granted}
use Rattle.model_races.specs.Verdicts.{IsRefused, IfRefused}
use Rattle.model_races.specs.ViewReads.{Completes, IsTrueReadWitness, IsRightRead}
use Rattle.race_gate.specs.Books.{MayRead, IsRefusal}

module _ (history : History) (earlier : List ReducerRead) (strand reducer : ℕ) (new : Kind) (legal : Legal history)
    (one_branch : AreOfOneBranch history earlier reducer) (begun : Begun history strand) where
  -- no read was granted before
  pub unset-read : new ≡ kind.Get → first_read earlier reducer ≡ None → IsRefusal history earlier strand reducer new Unset
  unset-read is none = record {
    right = record {
      unset = ((λ e. (is, (λ read listed. none-of earlier reducer read none listed))), (λ t. refl));
      refused = λ whole completes. ((λ t. absurd t), (λ (read, listed, differs). none-of earlier reducer read none listed));
      witness = tt;
      granted = λ e read listed whole completes. absurd (cc);
    };
    none = inr refl;
  }

  -- the first read is of another branch
  pub refused-read : (rule : Rule) (witness : Witness) (read : ReducerRead) → first_read earlier reducer ≡ Some read → witness ≡ witness_of read →
      branch history read.strand ≢ branch history strand → rule ≡ rule_between witness.kind new → IsTrue (is_reducer_read new) →
      ((other : ReducerRead) → IsReadOf earlier reducer other → IsTrue (is_reducer_read other.kind)) → IsRefusal history earlier strand reducer new (Refused rule witness)
  refused-read rule witness read first names differs is_rule is_read kinds =
      let listed = first-of earlier reducer read first in
      let by_kinds : rule_between witness.kind new ≡ View =
      (views_of_reducer_reads witness.kind new).1 (subst (λ (w : Witness). IsTrue (is_reducer_read w.kind)) (sym names) (kinds read listed), is_read) in
      let others : (whole : History) → Completes whole history → HaveSamePeers whole read.strand strand → ⊥ = λ whole completes same.
      differs ((branch_law history legal read.strand strand (one_branch.begun read listed) begun whole completes.extends completes.legal).1 same) in
      record {
        right = record {
          unset = ((λ e. absurd (cc)), (λ (is, none). absurd (none read listed)));
          refused = λ whole completes. ((λ t. (read, listed, others whole completes)), (λ race. tt));
          witness = record { read = read; names = names; listed = listed; other_peers = others; by_views = is_rule ∙ by_kinds; by_kinds = by_kinds };
          granted = λ e one is whole completes. absurd (cc);
        };
        none = inl tt;
      }

  -- before a get that is granted there is a read
  pub found-read : MatchOption (first_read earlier reducer) (new ≡ kind.Put) (IsOfBranch history strand) → new ≡ kind.Get →
      (read : ReducerRead) × IsReadOf earlier reducer read
  found-read match is = go (first_read earlier reducer) refl match
    where
      go : (found : Option ReducerRead) → first_read earlier reducer ≡ found → MatchOption found (new ≡ kind.Put) (IsOfBranch history strand) →
          (read : ReducerRead) × IsReadOf earlier reducer read
      go (Some read) e t = (read, first-of earlier reducer read e)
      go None e t = let clash : kind.Put ≡ kind.Get = sym t ∙ is in absurd (cc)

  -- so a granted answer is right
  pub granted-right : (answer : Answer) → MayRead history earlier strand reducer new → is_granted answer ≡ true → IsRightRead history earlier strand reducer new answer
  granted-right answer may granted = record {
    unset = (
      (λ e. let clash : false ≡ true = sym (ap is_granted e) ∙ granted in absurd (cc)),
      (λ (is, none). let (read, listed) = may.found is in absurd (none read listed)),
    );
    refused = λ whole completes. ((λ t. absurd (not_refused answer granted t)), (λ (read, listed, differs). absurd (differs (same whole completes read listed))));
    witness = names_nothing answer granted;
    granted = λ e read listed whole completes. same whole completes read listed;
  }
    where
      same : (whole : History) → Completes whole history → (read : ReducerRead) → IsReadOf earlier reducer read → HaveSamePeers whole read.strand strand
      same whole completes read listed =
          (branch_law history legal read.strand strand (one_branch.begun read listed) begun whole completes.extends completes.legal).0 (may.same_branch read listed)

      not_refused : (answer : Answer) → is_granted answer ≡ true → IsRefused answer → ⊥
      not_refused (Refused rule witness) granted refused = absurd (cc)
      not_refused other granted refused = refused

      names_nothing : (answer : Answer) → is_granted answer ≡ true → IfRefused answer (IsTrueReadWitness history earlier strand reducer new)
      names_nothing (Refused rule witness) granted = absurd (cc)
      names_nothing other granted = tt

-- what is neither granted nor done is refused or unset
pub refusal-cases : (P : Answer → Type 0) → ((rule : Rule) (witness : Witness) → P (Refused rule witness)) → P Unset → (answer : Answer) →
    IsRefused answer ⊎ (answer ≡ Unset) → P answer
refusal-cases P refused unset (Refused rule witness) h = refused rule witness
refusal-cases P refused unset answer (inl none) = absurd none
refusal-cases P refused unset answer (inr e) = subst P (sym e) unset
