-- What is told of several traces, each in a file of its own.
use Rattle.std.specs.Prelude.{ℕ, ◌≡◌, ◌⊎◌, Bool, Option, List, [], ◌∷◌, ◌++◌}
use Rattle.std.specs.Io.KnownBytes.{Appends}
use Rattle.command_streams.specs.declared.fault.CliFault.{CliFault}
use Rattle.command_streams.specs.declared.fault.CliFault.TheVariants.{Read, Write, Memory}
use Rattle.command_streams.specs.Readings.{reading}
use Rattle.command_streams.specs.Streams.{IsRead}
use Rattle.race_explanations.specs.declared.extent.Extent.{Extent}
use Rattle.tool_commands.specs.declared.explain.Rendering.{Rendering}
use Rattle.tool_commands.specs.Explanations.{Manner, IsUnjudgedTold}
use Rattle.tool_commands.specs.Together.{Together, none_together, TellsTogether, together_status, AddsText, StopsTaking}

-- how several traces are told: whether words are painted, how much of races, and in which form
pub record Style : Type 0 where
  pub is_painted : Bool
  pub extent : Extent
  pub rendering : Rendering

abbrev pub style : (is_painted : Bool) → Extent → Rendering → Style
style is_painted extent rendering = record { is_painted = is_painted; extent = extent; rendering = rendering }

-- how the trace in a file is told
abbrev pub manner_in : Style → (file : List ℕ) → Manner
manner_in style file = record { is_painted = style.is_painted; extent = style.extent; rendering = style.rendering; file = file }

-- The files with these names were read, one after another, and the traces that their texts mean are kept together.
pub data AreTaken (style : Style) (files : List ℕ → Option (List ℕ)) : List (List ℕ) → Together → Type 0 where
  none : AreTaken style files [] none_together
  more : {names : List (List ℕ)} {old : Together} (new : Together) (name text : List ℕ) (behind : Option (List ℕ)) →
      AreTaken style files names old → IsRead (files name) behind text → AddsText (manner_in style name) text old new →
      AreTaken style files (names ++ name ∷ []) new

-- All are told together.
pub record TellsAll (style : Style) (files : List ℕ → Option (List ℕ)) (names : List (List ℕ)) (told : List ℕ) (status : ℕ) : Type 0 where
  pub together : Together
  pub taken : AreTaken style files names together
  pub told_is : TellsTogether style.rendering style.extent together told
  pub status_is : status ≡ together_status together

-- Of the first text whose trace is not judged to its end it is told why: by the faults of the text, or by an illegal request.
pub record TellsFaulty (style : Style) (files : List ℕ → Option (List ℕ)) (names : List (List ℕ)) (told : List ℕ) (status : ℕ)
    : Type 0 where
  pub earlier : List (List ℕ)
  pub name : List ℕ
  pub later : List (List ℕ)
  pub names_are : names ≡ earlier ++ name ∷ later
  pub together : Together
  pub taken : AreTaken style files earlier together
  pub text : List ℕ
  pub behind : Option (List ℕ)
  pub read : IsRead (files name) behind text
  pub tells : IsUnjudgedTold (manner_in style name) text told status

abbrev pub TellsSeveral : Style → (files : List ℕ → Option (List ℕ)) → (names : List (List ℕ)) → (told : List ℕ) → (status : ℕ) → Type 0
TellsSeveral style files names told status = TellsAll style files names told status ⊎ TellsFaulty style files names told status

-- Why nothing is told: by the file at which the fault came.
pub record StopsAt (style : Style) (files : List ℕ → Option (List ℕ)) (names : List (List ℕ)) (fault : CliFault) : Type 0 where
  pub earlier : List (List ℕ)
  pub name : List ℕ
  pub later : List (List ℕ)
  pub names_are : names ≡ earlier ++ name ∷ later
  pub together : Together
  pub taken : AreTaken style files earlier together
  pub behind : Option (List ℕ)
  pub stops : StopsTaking (reading (files name) behind) fault

abbrev pub StopsSeveral : Style → (files : List ℕ → Option (List ℕ)) → (names : List (List ℕ)) → CliFault → Type 0
StopsSeveral style files names Read = Unit {0}
StopsSeveral style files names Memory = Unit {0}
StopsSeveral style files names fault = StopsAt style files names fault

-- ---- and written

pub record AreExplained (style : Style) (files : List ℕ → Option (List ℕ)) (names : List (List ℕ)) (wrote writes : Option (List ℕ))
    (status : ℕ) : Type 0 where
  pub told : List ℕ
  pub tells : TellsSeveral style files names told status
  pub written : Appends wrote writes told

-- Only a part of what is told could be written.
pub record AreCut (style : Style) (files : List ℕ → Option (List ℕ)) (names : List (List ℕ)) (wrote writes : Option (List ℕ)) : Type 0 where
  pub told : List ℕ
  pub status : ℕ
  pub part : List ℕ
  pub rest : List ℕ
  pub tells : TellsSeveral style files names told status
  pub written : Appends wrote writes part
  pub prefix : part ++ rest ≡ told

-- Why they are not told, or not wholly: each fault has its cause.
abbrev pub HasSeveralCause : Style → (files : List ℕ → Option (List ℕ)) → (names : List (List ℕ)) → (wrote writes : Option (List ℕ)) →
    CliFault → Type 0
HasSeveralCause style files names wrote writes Write = AreCut style files names wrote writes
HasSeveralCause style files names wrote writes fault = StopsSeveral style files names fault

-- the first of some files can't be opened
abbrev pub lacks_first : (List ℕ → Type 0) → List (List ℕ) → Type 0
lacks_first lacks [] = ⊥
lacks_first lacks (name ∷ names) = lacks name
