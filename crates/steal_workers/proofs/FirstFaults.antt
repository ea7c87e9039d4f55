-- The first of some faults, and of one more.
use Rattle.std.proofs.Common.{◌≡◌, ◌≤◌, ◌⊎◌, inl, inr, Bool, true, false, List, [], ◌∷◌, ◌++◌, Option, Some, None, refl, sym, subst, ⊎_elim, arith, ◌∙◌}
use Rattle.std.specs.Prelude.{Contains}
use Rattle.std.proofs.lemmas.List.Elements.{All-head, All-weaker, All-push, Contains-append_left, Contains-push}
use Rattle.locked_replay.specs.declared.fault.RunFault.{RunFault}
use Rattle.locked_replay.specs.declared.fault.RunFault.TheVariants.{Memory}
use Rattle.steal_workers.specs.Faults.{rank_or_last, refused_thread, IsFirst, IsFirstOf}

pub first_more : (faults : List (Option RunFault)) (first other next : Option RunFault) → IsFirstOf faults first → IsFirst first other next → IsFirstOf (faults ++ other ∷ []) next
first_more faults first other next before more =
    let kept : next ≡ first → (next ≡ None) ⊎ Contains (faults ++ other ∷ []) next =
    λ same. ⊎_elim (λ none. inl (same ∙ none)) (λ some. inr (subst (Contains (faults ++ other ∷ [])) (sym same) (Contains-append_left faults (other ∷ []) first some))) before.0 in
    let came : next ≡ other → (next ≡ None) ⊎ Contains (faults ++ other ∷ []) next =
    λ same. inr (subst (Contains (faults ++ other ∷ [])) (sym same) (Contains-push faults other)) in (
      ⊎_elim kept came more.0,
      All-push (λ fault. rank_or_last next ≤ rank_or_last fault) faults other (All-weaker (λ fault. rank_or_last first ≤ rank_or_last fault) (λ fault. rank_or_last next ≤ rank_or_last fault) (λ fault low. omega (arith, low, more.1)) faults before.1) more.2,
    )

-- where no fault is first, all threads could be started
pub none_refused : (all : Bool) (faults : List (Option RunFault)) → IsFirstOf (refused_thread all ∷ faults) None → all ≡ true
none_refused true faults first = refl
none_refused false faults first = absurd (omega (arith, All-head (λ fault. 6 ≤ rank_or_last fault) (Some Memory) faults first.1))

-- a fault by itself
pub first_alone : (fault : Option RunFault) → IsFirstOf (fault ∷ []) fault
first_alone fault = (inr (Contains-push [] fault), All-push (λ other. rank_or_last fault ≤ rank_or_last other) [] fault (λ k d low. absurd (omega (arith, low))) (omega arith))
