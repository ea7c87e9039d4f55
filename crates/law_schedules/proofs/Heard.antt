-- What frames that were answered alike ask next.
use Rattle.std.proofs.Common.{◌≡◌, inl, inr, ℕ, List, [], ◌∷◌, ◌++◌, Option, refl, sym, ap, ◌∙◌, subst, arith}
use Rattle.law_strands.proofs.Updates.{same_or_not}
use Rattle.model_histories.specs.Entries.{Entries}
use Rattle.model_histories.specs.Extensions.{IsCleanAnswer}
use Rattle.model_programs.specs.declared.target.Target.{Target}
use Rattle.model_programs.specs.Exchanges.{Exchange}
use Rattle.model_runs.specs.Frames.{Targets, frame_in, next_frame, target_of, exchange_of, said_by}
use Rattle.model_runs.specs.Serial.{value_given}
use Rattle.law_runs.proofs.Histories.{said_here, said_elsewhere}
use Rattle.law_schedules.specs.Agreement.{AreAlike, Agree}
use Rattle.law_interleavings.specs.Traces.{Notes, Spoken, spoken_by, IsLaterOf}
use Rattle.law_interleavings.proofs.Spoken.{NoneRefused, spoken_here, spoken_elsewhere}
use Rattle.law_interleavings.proofs.Walks.{later_shorter, later_same, later_less, later_transitive}

-- what a program keeps of an act besides: its line, and the function that it spawns
pub record Told : Type 0 where
  pub line : ℕ
  pub target : Option Target

abbrev pub told : Targets → Notes Told
told targets begins entry = record { line = entry.request.line; target = target_of entry.request.act (targets begins) }

-- an exchange without its numbers
abbrev pub bare : Exchange → Spoken Told
bare x = record { act = x.act; note = record { line = x.line; target = x.target }; value = value_given x.answer }

-- exchanges, the oldest first, behind what was spoken before
abbrev pub heard : List Exchange → List (Spoken Told) → List (Spoken Told)
heard [] before = before
heard (x ∷ said) before = heard said (bare x ∷ before)

heard_more : (said : List Exchange) (x : Exchange) (before : List (Spoken Told)) → heard (said ++ x ∷ []) before ≡ bare x ∷ heard said before
heard_more [] x before = refl
heard_more (y ∷ said) x before = heard_more said x (bare y ∷ before)

heard_later : (said : List Exchange) (before : List (Spoken Told)) → IsLaterOf before (heard said before)
heard_later [] [] = refl
heard_later [] (z ∷ before) = inl refl
heard_later (x ∷ said) before = later_less (bare x) before (heard said (bare x ∷ before)) (heard_later said (bare x ∷ before))

abbrev pub EachClean : List Exchange → Type 0
EachClean [] = Unit {0}
EachClean (x ∷ said) = IsCleanAnswer x.answer × EachClean said

clean_more : (said : List Exchange) (x : Exchange) → EachClean said → IsCleanAnswer x.answer → EachClean (said ++ x ∷ [])
clean_more [] x c d = (d, tt)
clean_more (y ∷ said) x c d = (c.0, clean_more said x c.1 d)

pub said_clean : (targets : Targets) (H : Entries) (frame : ℕ) → NoneRefused H → EachClean (said_by targets H frame)
said_clean T [] f c = tt
said_clean T (e ∷ H) f c = elim (same_or_not (frame_in H e.request.strand) f) [
  | inl q ↦ subst EachClean (sym (said_here T e H f q)) (clean_more (said_by T H f) (exchange_of T (next_frame H) e) (said_clean T H f c.1) c.0)
  | inr q ↦ subst EachClean (sym (said_elsewhere T e H f q)) (said_clean T H f c.1)
]

pub spoken_heard : (targets : Targets) (H : Entries) (frame : ℕ) → heard (said_by targets H frame) [] ≡ spoken_by (told targets) H frame
spoken_heard T [] f = refl
spoken_heard T (e ∷ H) f = elim (same_or_not (frame_in H e.request.strand) f) [
  | inl q ↦
      (let x = exchange_of T (next_frame H) e in
      ap (λ l. heard l []) (said_here T e H f q) ∙ heard_more (said_by T H f) x [] ∙ ap (λ l. bare x ∷ l) (spoken_heard T H f)
      ∙ sym (spoken_here (told T) e H f q))
  | inr q ↦ ap (λ l. heard l []) (said_elsewhere T e H f q) ∙ spoken_heard T H f ∙ sym (spoken_elsewhere (told T) e H f q)
]

-- the same as what was asked
pub record IsAsked (z : Spoken Told) (x : Exchange) : Type 0 where
  pub act : z.act ≡ x.act
  pub line : z.note.line ≡ x.line
  pub target : z.note.target ≡ x.target

head_same : (x y : Spoken Told) (zs ws : List (Spoken Told)) → x ∷ zs ≡ y ∷ ws → x ≡ y
head_same x y zs ws e = cc

pub next_asked : (said others : List Exchange) (before : List (Spoken Told)) (x : Exchange) (z : Spoken Told) → Agree (said ++ x ∷ []) others →
    EachClean said → EachClean others → IsLaterOf (z ∷ heard said before) (heard others before) → IsAsked z x
next_asked [] [] before x z a c d m = absurd (let t = later_shorter (z ∷ before) before m in omega arith)
next_asked [] (y ∷ others) before x z a c d m =
    let e : z ∷ before ≡ bare y ∷ before = later_same (z ∷ before) (bare y ∷ before) (heard others (bare y ∷ before)) m (heard_later others (bare y ∷ before)) refl in
    let s : z ≡ bare y = head_same z (bare y) before before e in
    record { act = ap (λ t. t.act) s ∙ sym a.0; line = ap (λ t. t.note.line) s ∙ sym a.1; target = ap (λ t. t.note.target) s ∙ sym a.2 }
next_asked (w ∷ said) [] before x z a c d m =
    absurd (
    let t = later_shorter (z ∷ heard said (bare w ∷ before)) before m in
    let u = later_shorter (bare w ∷ before) (heard said (bare w ∷ before)) (heard_later said (bare w ∷ before)) in
    omega arith
    )
next_asked (w ∷ said) (y ∷ others) before x z a c d m =
    let whole = heard others (bare y ∷ before) in
    let mine : IsLaterOf (bare w ∷ before) whole =
    later_transitive (bare w ∷ before) (heard said (bare w ∷ before)) whole (heard_later said (bare w ∷ before)) (later_less z (heard said (bare w ∷ before)) whole m) in
    let e = later_same (bare w ∷ before) (bare y ∷ before) whole mine (heard_later others (bare y ∷ before)) refl in
    let s : bare w ≡ bare y = head_same (bare w) (bare y) before before e in
    let alike : AreAlike w.answer y.answer = record { one_clean = c.0; other_clean = d.0; same_value = ap (λ t. t.value) s } in
    next_asked said others (bare w ∷ before) x z (a.3 alike) c.1 d.1
    (subst (λ b. IsLaterOf (z ∷ heard said (bare w ∷ before)) (heard others (b ∷ before))) (sym s) m)
