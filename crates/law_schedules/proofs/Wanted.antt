-- What a run asks next is what the clean one did at that occurrence_address: the function's dialogue tells it.
use Rattle.std.proofs.Common.{◌≡◌, ◌⊎◌, inl, inr, ℕ, ◌∷◌, List, [], Some, refl, sym, ap, ◌∙◌, subst, subst₂}
use Rattle.model_accesses.specs.declared.request.Act.{Act}
use Rattle.model_strands.specs.Address.{child, extended}
use Rattle.model_histories.specs.declared.answer.Entry.{Entry}
use Rattle.model_histories.specs.Entries.{Entries, control_part}
use Rattle.model_histories.specs.Shapes.{Shape}
use Rattle.model_histories.specs.Legal.{Belongs, IsLegal}
use Rattle.model_histories.specs.Extensions.{IsFinished}
use Rattle.model_bodies.specs.Codes.{Code}
use Rattle.model_programs.specs.Exchanges.{Exchange}
use Rattle.model_programs.specs.Dialogue.{Part, DialogueOf}
use Rattle.model_runs.specs.Frames.{Targets, HasFrame, frame_in, next_frame, target_of, exchange_of, said_by}
use Rattle.model_runs.specs.Runs.{IsRunWith}
use Rattle.law_runs.proofs.Histories.{spawn_splits, said_here}
use Rattle.law_interleavings.specs.Fronts.{IsBegun}
use Rattle.law_interleavings.specs.Traces.{Spoken, Occurrence, occurrence_address, trace, spoken_by, beginning, IsLaterOf}
use Rattle.law_interleavings.proofs.Control.{legal_part}
use Rattle.law_interleavings.proofs.Fronts.{active_begun}
use Rattle.law_interleavings.proofs.Swaps.{Member}
use Rattle.law_interleavings.proofs.Beginnings.{beginning_alone}
use Rattle.law_interleavings.proofs.Spoken.{NoneRefused}
use Rattle.law_interleavings.proofs.Walks.{later_next}
use Rattle.law_interleavings.proofs.Traces.{frame_on}
use Rattle.law_interleavings.proofs.Parts.{Fresh, fresh, root_there, Spawner, spawner, spawned_by, Matching, IsPart, included, Wanted, next_deed, does_more}
use Rattle.law_schedules.specs.Agreement.{Agree}
use Rattle.law_schedules.proofs.Agreements.{agreement_law}
use Rattle.law_schedules.proofs.Heard.{Told, told, said_clean, spoken_heard, IsAsked, next_asked}

module _ (shape : Shape) where
  has_frame : (H : Entries) → IsLegal shape H → (frame : ℕ) → IsBegun (control_part H) frame → HasFrame H frame
  has_frame [] l f b = inl b
  has_frame (e ∷ H) l f b = go (has_frame H l.0 f) (fresh shape H e l f b)
    where
      go : (IsBegun (control_part H) f → HasFrame H f) → Fresh shape H e f ⊎ IsBegun (control_part H) f → HasFrame (e ∷ H) f
      go older (inl t) = inr (inl (t.is_next, spawn_splits e.answer (subst (λ a. Belongs a e.answer) t.act l.1.belongs)))
      go older (inr b') = elim (older b') [ inl q ↦ inl q | inr s ↦ inr (inr s) ]

  -- the function of the frame that a deed spawns
  spawned_target : (T : Targets) (H : Entries) → IsLegal shape H → (x : Occurrence Told) → Member (trace (told T) H) x → x.newest.act ≡ Act.Spawn → (frame : ℕ) →
      IsBegun (control_part H) frame → beginning (control_part H) frame ≡ extended (occurrence_address x) child → Some (T frame) ≡ x.newest.note.target
  spawned_target T H l x m q f b at =
      let s = spawned_by shape (told T) H l x m q in
      let one : f ≡ s.frame = beginning_alone (legal_part shape H l) f s.frame b s.begun (at ∙ sym s.begins) in
      ap (λ g. Some (T g)) one ∙ sym (ap (λ a. target_of a (T s.frame)) s.spawns) ∙ sym (ap (λ n. n.target) s.noted)

  module _ (functions : List Code) (main : ℕ) (mine T : Targets) (R : Entries) where
    -- frames that match are of one function with one argument
    one_target : IsLegal shape R → mine 0 ≡ T 0 → (H : Entries) → IsLegal shape H → IsPart shape (told mine) (told T) R H → (own : ℕ) → IsBegun (control_part H) own →
        (match : Matching shape (told mine) (told T) R H own) → mine own ≡ T match.frame
    one_target r root H l part own b match = go (spawner shape (told mine) H l own b)
      where
        go : (own ≡ 0) ⊎ Spawner shape (told mine) H own → mine own ≡ T match.frame
        go (inl z) =
            let there = root_there shape (told T) R r in
            let here = root_there shape (told mine) H l in
            let one : match.frame ≡ 0 =
            beginning_alone (legal_part shape R r) match.frame 0 match.begun there.0 (sym match.begins ∙ ap (beginning (control_part H)) z ∙ here.1 ∙ sym there.1) in
            ap mine z ∙ root ∙ sym (ap T one)
        go (inr s) =
            let m = included shape (told mine) (told T) R H l r part s.deed s.done in
            let here = spawned_target mine H l s.deed s.done s.spawns own b s.begins in
            let there = spawned_target T R r s.deed m s.spawns match.frame match.begun (sym match.begins ∙ s.begins) in
            let same : Some (mine own) ≡ Some (T match.frame) = here ∙ sym there in
            cc

    pub wanted : IsRunWith functions shape main T R → NoneRefused R → IsFinished R → (H : Entries) (e : Entry) →
        IsRunWith functions shape main mine (e ∷ H) → NoneRefused H → IsPart shape (told mine) (told T) R H → Wanted shape (told mine) (told T) R H e
    wanted whole whole_clean finished_run H e run clean part = go (later_next said (spoken_by (told T) R match.frame) match.did)
      where
        l : IsLegal shape (e ∷ H)
        l = run.judged.legal

        r : IsLegal shape R
        r = whole.judged.legal

        own : ℕ
        own = frame_in H e.request.strand

        begun : IsBegun (control_part H) own
        begun = active_begun (legal_part shape H l.0) e.request.strand (inl l.1.runs)

        match : Matching shape (told mine) (told T) R H own
        match = part own begun

        said : List (Spoken Told)
        said = spoken_by (told mine) H own

        same_target : mine own ≡ T match.frame
        same_target = one_target r (run.root ∙ sym whole.root) H l.0 part own begun match

        agree : Agree (said_by mine (e ∷ H) own) (said_by T R match.frame)
        agree =
            let there = whole.says match.frame (has_frame R r match.frame match.begun) in
            let here = run.says own (has_frame (e ∷ H) l own (frame_on shape (told mine) H e l own begun).0) in
            agreement_law functions (T match.frame).function (T match.frame).argument Part Part (said_by mine (e ∷ H) own) (said_by T R match.frame)
            (subst (λ t. DialogueOf functions t.function t.argument Part (said_by mine (e ∷ H) own)) same_target here) there

        x : Exchange
        x = exchange_of mine (next_frame H) e

        asked : (z : Spoken Told) → IsLaterOf (z ∷ said) (spoken_by (told T) R match.frame) → IsAsked z x
        asked z m =
            next_asked (said_by mine H own) (said_by T R match.frame) [] x z
            (subst (λ xs. Agree xs (said_by T R match.frame)) (said_here mine e H own refl) agree)
            (said_clean mine H own clean) (said_clean T R match.frame whole_clean)
            (subst₂ (λ a b. IsLaterOf (z ∷ a) b) (sym (spoken_heard mine H own)) (sym (spoken_heard T R match.frame)) m)

        go : (said ≡ spoken_by (told T) R match.frame) ⊎ ((z : Spoken Told) × IsLaterOf (z ∷ said) (spoken_by (told T) R match.frame)) →
            Wanted shape (told mine) (told T) R H e
        go (inl q) = absurd (does_more shape (told mine) (told T) R r finished_run H e l match q)
        go (inr (z, m)) =
            let a = asked z m in
            record {
              newest = z;
              done = next_deed shape (told mine) (told T) R H e r match z m;
              act = a.act;
              note = λ i. record { line = a.line i; target = a.target i };
            }
