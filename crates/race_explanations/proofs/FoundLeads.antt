-- What is found in traces has the leads of their pairs, whatever it is joined to.
use Rattle.std.proofs.Common.{◌≡◌, ℕ, Bool, true, false, List, [], ◌∷◌, Option, Some, None, cond, sym, subst}
use Rattle.std.specs.Prelude.{IfSome}
use Rattle.std.proofs.lemmas.List.Elements.{All-nil, All-cons, All-head, All-tail, All-append}
use Rattle.model_histories.specs.declared.answer.Entry.{Entry}
use Rattle.race_pairs.specs.declared.race.Pair.{Pair}
use Rattle.race_pairs.specs.declared.encounter.Encounter.{Encounter}
use Rattle.race_pairs.specs.Encounters.{IsEncounter}
use Rattle.race_explanations.specs.declared.finding.Finding.{Finding}
use Rattle.race_explanations.specs.declared.lead.Lead.{Lead}
use Rattle.race_explanations.specs.Settings.{Setting}
use Rattle.race_explanations.specs.Cases.{course_of}
use Rattle.race_explanations.specs.Leads.{IsLead, IsLeadOf}
use Rattle.race_explanations.specs.Findings.{is_alike, joined, with_finding, with_findings, AllFound, none, more}
use Rattle.race_explanations.specs.FoundSyncs.{IsTraceOf, IsLeadIn, IsFoundIn, AreFoundIn, FoundLaw}

module _ (settings : ℕ → Setting) (traces : ℕ → List Entry) where
  lead_found : (trace : ℕ) → IsTraceOf (settings trace) (traces trace) → (pair : Pair) (e : Encounter) → IsEncounter (traces trace) pair e →
      (spawn : Option ℕ) (lead : Option Lead) → IsLeadOf (settings trace) trace spawn (course_of (settings trace) e) lead →
      IfSome lead (IsLeadIn settings traces)
  lead_found trace is pair e at spawn None of = tt
  lead_found trace is pair e at None (Some lead) of = absurd (let never : Some lead ≡ None = of in cc)
  lead_found trace is pair e at (Some line) (Some lead) of =
      let there =
      subst (λ (t : ℕ). IsTraceOf (settings t) (traces t) × IsEncounter (traces t) pair e × IsLead (settings t) t line (course_of (settings t) e) lead)
      (sym of.trace_is) (is, at, of) in
      record { pair = pair; encounter = e; line = line; is_trace = there.0; is_encounter = there.1; is_lead = there.2 }

  all_found_in : (trace : ℕ) → IsTraceOf (settings trace) (traces trace) → {pairs : List Pair} {found : List Finding} →
      AllFound (settings trace) trace (traces trace) pairs found → AreFoundIn settings traces found
  all_found_in trace is none = All-nil (IsFoundIn settings traces)
  all_found_in trace is (more {findings = found} pair finding before here) =
      All-append (IsFoundIn settings traces) found (finding ∷ []) (all_found_in trace is before)
      (All-cons (IsFoundIn settings traces) finding [] (lead_found trace is pair here.encounter here.is_encounter pair.spawn finding.lead here.lead_is)
      (All-nil (IsFoundIn settings traces)))

  one_joins : (findings : List Finding) (other : Finding) → AreFoundIn settings traces findings → IsFoundIn settings traces other →
      AreFoundIn settings traces (with_finding findings other)
  one_joins [] other are is = All-cons (IsFoundIn settings traces) other [] is (All-nil (IsFoundIn settings traces))
  one_joins (one ∷ findings) other are is =
      either (is_alike one other) (one_joins findings other (All-tail (IsFoundIn settings traces) one findings are) is)
    where
      either : (test : Bool) → AreFoundIn settings traces (with_finding findings other) →
          AreFoundIn settings traces (cond test (joined one other ∷ findings) (one ∷ with_finding findings other))
      either true rest =
          All-cons (IsFoundIn settings traces) (joined one other) findings (All-head (IsFoundIn settings traces) one findings are)
          (All-tail (IsFoundIn settings traces) one findings are)
      either false rest =
          All-cons (IsFoundIn settings traces) one (with_finding findings other) (All-head (IsFoundIn settings traces) one findings are) rest

  all_join : (findings others : List Finding) → AreFoundIn settings traces findings → AreFoundIn settings traces others →
      AreFoundIn settings traces (with_findings findings others)
  all_join findings [] are they = are
  all_join findings (one ∷ others) are they =
      all_join (with_finding findings one) others (one_joins findings one are (All-head (IsFoundIn settings traces) one others they))
      (All-tail (IsFoundIn settings traces) one others they)

pub found_law : FoundLaw
found_law settings traces trace is pairs found all findings are =
    all_join settings traces findings found are (all_found_in settings traces trace is all)
