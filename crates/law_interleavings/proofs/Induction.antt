-- One clean history speaks for each that is to ask what it asked: the induction over the other.
use Rattle.std.proofs.Common.{◌≡◌, [], ◌∷◌, ◌++◌, sym, ap, ◌∙◌, subst}
use Rattle.std.proofs.lemmas.List.Elements.{All-nil, All-cons, All-head, All-tail}
use Rattle.model_histories.specs.declared.answer.Entry.{Entry}
use Rattle.model_histories.specs.Entries.{Entries}
use Rattle.model_histories.specs.Shapes.{Shape}
use Rattle.model_histories.specs.Extensions.{IsClean, IsCleanAnswer}
use Rattle.model_races.specs.Judged.{IsJudged}
use Rattle.model_runs.specs.Serial.{value_given}
use Rattle.law_interleavings.specs.Traces.{Notes, Spoken, Occurrence, occurrence_of, trace}
use Rattle.law_interleavings.proofs.Swaps.{Member}
use Rattle.law_interleavings.proofs.Spoken.{NoneRefused}
use Rattle.law_interleavings.proofs.Traces.{entry_of}
use Rattle.law_interleavings.proofs.Parts.{IsPart, part_more, part_first, Wanted}
use Rattle.law_interleavings.proofs.Meetings.{Meeting}
use Rattle.law_interleavings.proofs.SameAnswers.{IsLike, is_like}
use Rattle.law_interleavings.proofs.ReadAnswers.{read_like}

pub none_refused : (H : Entries) → IsClean H → NoneRefused H
none_refused [] c = tt
none_refused (e ∷ H) c = (All-head (λ z. IsCleanAnswer z.answer) e H c, none_refused H (All-tail (λ z. IsCleanAnswer z.answer) e H c))

pub is_clean : (H : Entries) → NoneRefused H → IsClean H
is_clean [] c = All-nil (λ z. IsCleanAnswer z.answer)
is_clean (e ∷ H) c = All-cons (λ z. IsCleanAnswer z.answer) e H c.0 (is_clean H c.1)

-- what a judged history begins with is judged
pub judged_before : (shape : Shape) (H : Entries) (e : Entry) → IsJudged shape (e ∷ H) → IsJudged shape H
judged_before shape H e j = record { legal = j.legal.0; memory = j.memory.0; reducers = j.reducers.0 }

module _ {Note : Type 0} where
  spoken_same : (one other : Spoken Note) → one.act ≡ other.act → one.note ≡ other.note → one.value ≡ other.value → one ≡ other
  spoken_same one other a n v = λ i. record { act = a i; note = n i; value = v i }

  abbrev made : Occurrence Note → Spoken Note → Occurrence Note
  made x newest = record { begin = x.begin; newest = newest; earlier = x.earlier }

  newest_same : (x : Occurrence Note) (newest : Spoken Note) → newest ≡ x.newest → made x newest ≡ x
  newest_same x newest e = λ i. record { begin = x.begin; newest = e i; earlier = x.earlier }

module _ {Note : Type 0} (shape : Shape) (mine T : Notes Note) where
  -- what the whole is to a part
  record Facts (H : Entries) (R : Entries) : Type 0 where
    judged : IsJudged shape R
    clean : NoneRefused R
    part : IsPart shape mine T R H

  -- the answer, where the whole is divided at its entry
  answered_like : (H : Entries) (e : Entry) → IsJudged shape (e ∷ H) → NoneRefused H → (later : Entries) (entry : Entry) (before : Entries) →
      Facts H (later ++ entry ∷ before) → (occurrence_of mine H e).begin ≡ (occurrence_of T before entry).begin →
      (occurrence_of mine H e).earlier ≡ (occurrence_of T before entry).earlier → e.request.act ≡ entry.request.act → IsLike e.answer entry.answer
  answered_like H e judged c later entry before facts b q a =
      let meeting : Meeting shape mine T =
      record {
        later = later;
        entry = entry;
        before = before;
        part = H;
        next = e;
        whole_legal = facts.judged.legal;
        part_legal = judged.legal;
        is_part = facts.part;
        begin = b;
        earlier = q;
      } in
      is_like shape mine T meeting judged facts.judged c facts.clean a
      (λ r. read_like shape mine T meeting judged facts.judged c facts.clean a r)

  part_step : (R : Entries) → IsJudged shape R → NoneRefused R → (H : Entries) (e : Entry) → IsJudged shape (e ∷ H) → NoneRefused H →
      IsPart shape mine T R H → Wanted shape mine T R H e → NoneRefused (e ∷ H) × IsPart shape mine T R (e ∷ H)
  part_step R whole rc H e judged c part w =
      let x = occurrence_of mine H e in
      let y = made x w.newest in
      let en = entry_of shape T R y w.done in
      let facts : Facts H (en.later ++ en.entry ∷ en.before) = subst (Facts H) en.whole (record { judged = whole; clean = rc; part = part }) in
      let same_act : e.request.act ≡ en.entry.request.act = sym w.act ∙ ap (λ z. z.newest.act) en.is in
      let like = answered_like H e judged c en.later en.entry en.before facts (ap (λ z. z.begin) en.is) (ap (λ z. z.earlier) en.is) same_act in
      let value : w.newest.value ≡ value_given e.answer = ap (λ z. z.newest.value) en.is ∙ sym like.1 in
      let done : Member (trace T R) x =
      subst (Member (trace T R)) (newest_same x w.newest (spoken_same w.newest x.newest w.act w.note value)) w.done in
      ((like.0, c), part_more shape mine T R H e judged.legal whole.legal part done)

  -- Histories that each come from a shorter one of them, are judged, and ask what the whole did at that place, as long as they were answered
  -- as the whole was.
  pub record AskAlike (R : Entries) (IsOne : Entries → Type 0) : Type 0 where
    pub shorter : (H : Entries) (e : Entry) → IsOne (e ∷ H) → IsOne H
    pub judged : (H : Entries) → IsOne H → IsJudged shape H
    pub wanted : (H : Entries) (e : Entry) → IsOne (e ∷ H) → NoneRefused H → IsPart shape mine T R H → Wanted shape mine T R H e

  -- each of them did a part of what the clean one did, and is clean
  pub are_parts : (R : Entries) → IsJudged shape R → NoneRefused R → (IsOne : Entries → Type 0) → AskAlike R IsOne → (H : Entries) → IsOne H →
      NoneRefused H × IsPart shape mine T R H
  are_parts R whole rc IsOne alike [] one = (tt, part_first shape mine T R whole.legal)
  are_parts R whole rc IsOne alike (e ∷ H) one =
      let before = are_parts R whole rc IsOne alike H (alike.shorter H e one) in
      part_step R whole rc H e (alike.judged (e ∷ H) one) before.0 before.1 (alike.wanted H e one before.0 before.1)
