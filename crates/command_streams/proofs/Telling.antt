-- A text that is told: what of it was written, and what waits.
use Rattle.std.proofs.Common.{◌≡◌, ℕ, Bool, true, false, Option, List, [], ◌++◌, append-nil, append_assoc, refl, ap, sym, subst, ◌∙◌}
use Rattle.std.proofs.lemmas.Bool.{true≢false}
use Rattle.std.specs.Prelude.{◌↔◌, Result, Ok, Err, IsTrue, IsErrOf, OnOk, IfErr}
use Rattle.std.specs.Io.KnownBytes.{Appends, Keeps}
use Rattle.command_streams.specs.declared.fault.CliFault.{CliFault}
use Rattle.command_streams.specs.declared.fault.CliFault.TheVariants.{Write}
use Rattle.command_streams.specs.Streams.{StopsWriting}
use Rattle.command_streams.specs.Tellings.{IsTold}
use Rattle.command_streams.proofs.Bytes.{appends-none, appends-kept, appends-more}

-- nothing is told of nothing
pub none_told : (known : Option (List ℕ)) (failed : Bool) (waiting : List ℕ) → waiting ≡ [] → IsTold known known failed waiting []
none_told known failed waiting none = record { part = []; rest = []; written = appends-none known; whole = refl; waits = λ fresh. sym none }

-- more of a text, which waits
pub told_more : (wrote writes : Option (List ℕ)) (failed : Bool) (waiting longer text more : List ℕ) → longer ≡ waiting ++ more → IsTold wrote writes failed waiting text →
    IsTold wrote writes failed longer (text ++ more)
told_more wrote writes failed waiting longer text more is told = record {
  part = told.part;
  rest = told.rest ++ more;
  written = told.written;
  whole = sym (append_assoc told.part told.rest more) ∙ ap (λ l. l ++ more) told.whole;
  waits = λ fresh. ap (λ l. l ++ more) (told.waits fresh) ∙ sym is;
}

-- what waits was written
pub told_given : (wrote between writes : Option (List ℕ)) (old new : Bool) (waiting left text : List ℕ) → old ≡ false → left ≡ [] → Appends between writes waiting →
    IsTold wrote between old waiting text → IsTold wrote writes new left text
told_given wrote between writes old new waiting left text fresh none given told = record {
  part = told.part ++ waiting;
  rest = [];
  written = appends-more wrote between writes told.part waiting told.written given;
  whole = append-nil (told.part ++ waiting) ∙ ap (λ l. told.part ++ l) (sym (told.waits fresh)) ∙ told.whole;
  waits = λ still. sym none;
}

-- a part of what waits was written, and then a write failed
pub told_partly : (wrote between writes : Option (List ℕ)) (old new : Bool) (waiting left text : List ℕ) (fault : CliFault) → old ≡ false → new ≡ true →
    StopsWriting between writes waiting fault → IsTold wrote between old waiting text → IsTold wrote writes new left text
told_partly wrote between writes old new waiting left text Write fresh fails stops told = record {
  part = told.part ++ stops.0;
  rest = stops.1;
  written = appends-more wrote between writes told.part stops.0 told.written stops.2;
  whole = append_assoc told.part stops.0 stops.1 ∙ ap (λ l. told.part ++ l) (stops.3 ∙ sym (told.waits fresh)) ∙ told.whole;
  waits = λ still. absurd (true≢false (sym fails ∙ still));
}
told_partly wrote between writes old new waiting left text fault fresh fails stops told = absurd stops

-- what waits was written as far as the result tells
pub told_written : (result : Result (Unit {0}) CliFault) (wrote between writes : Option (List ℕ)) (old new : Bool) (waiting left text : List ℕ) → old ≡ false → left ≡ [] →
    OnOk result (Appends between writes waiting) → IfErr result (StopsWriting between writes waiting) → (IsErrOf result Write ↔ IsTrue new) →
    IsTold wrote between old waiting text → IsTold wrote writes new left text
told_written (Ok x) wrote between writes old new waiting left text fresh none given stops fails told =
    told_given wrote between writes old new waiting left text fresh none given told
told_written (Err Write) wrote between writes old new waiting left text fresh none given stops fails told =
    told_partly wrote between writes old new waiting left text Write fresh (fails.0 refl) stops told
told_written (Err fault) wrote between writes old new waiting left text fresh none given stops fails told = absurd stops

-- all was written
pub told_whole : (wrote between writes : Option (List ℕ)) (failed : Bool) (left text : List ℕ) → failed ≡ false → left ≡ [] → Keeps between writes →
    IsTold wrote between failed left text → Appends wrote writes text
told_whole wrote between writes failed left text fresh none kept told =
    subst (λ (bytes : List ℕ). Appends wrote writes bytes)
    (sym (append-nil told.part) ∙ ap (λ l. told.part ++ l) (sym (told.waits fresh ∙ none)) ∙ told.whole)
    (appends-kept wrote between writes told.part told.written kept)

-- a part was written
pub told_cut : (wrote between writes : Option (List ℕ)) (failed : Bool) (left text : List ℕ) → Keeps between writes → IsTold wrote between failed left text →
    StopsWriting wrote writes text Write
told_cut wrote between writes failed left text kept told = (told.part, told.rest, appends-kept wrote between writes told.part told.written kept, told.whole)

-- what waits was let go behind a write that failed
pub told_failed : (wrote writes : Option (List ℕ)) (failed : Bool) (waiting left text : List ℕ) → failed ≡ true → IsTold wrote writes failed waiting text →
    IsTold wrote writes failed left text
told_failed wrote writes failed waiting left text fails told = record {
  part = told.part;
  rest = told.rest;
  written = told.written;
  whole = told.whole;
  waits = λ still. absurd (true≢false (sym fails ∙ still));
}
