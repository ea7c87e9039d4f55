-- What one more entry adds to what a frame did.
use Rattle.std.proofs.Common.{◌≡◌, ◌≢◌, inl, inr, ℕ, [], ◌∷◌, refl}
use Rattle.std.proofs.lemmas.Bool.Decides.{eqb_tells}
use Rattle.model_histories.specs.declared.answer.Entry.{Entry}
use Rattle.model_histories.specs.Entries.{Entries}
use Rattle.model_histories.specs.Extensions.{IsCleanAnswer}
use Rattle.model_runs.specs.Frames.{frame_in, next_frame}
use Rattle.law_interleavings.specs.Traces.{Notes, spoken_of, spoken_by}

-- no answer of the entries is a refusal
abbrev pub NoneRefused : Entries → Type 0
NoneRefused [] = Unit {0}
NoneRefused (entry ∷ entries) = IsCleanAnswer entry.answer × NoneRefused entries

pub spoken_here : {Note : Type 0} (notes : Notes Note) (e : Entry) (H : Entries) (frame : ℕ) → frame_in H e.request.strand ≡ frame →
    spoken_by notes (e ∷ H) frame ≡ spoken_of notes (next_frame H) e ∷ spoken_by notes H frame
spoken_here T e H f q = elim (eqb_tells (frame_in H e.request.strand) f) [ inl t ↦ rw t.0 refl | inr t ↦ absurd (t.1 q) ]

pub spoken_elsewhere : {Note : Type 0} (notes : Notes Note) (e : Entry) (H : Entries) (frame : ℕ) → frame_in H e.request.strand ≢ frame →
    spoken_by notes (e ∷ H) frame ≡ spoken_by notes H frame
spoken_elsewhere T e H f q = elim (eqb_tells (frame_in H e.request.strand) f) [ inl t ↦ absurd (q t.1) | inr t ↦ rw t.0 refl ]
