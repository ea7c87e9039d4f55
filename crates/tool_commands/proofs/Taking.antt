-- The traces in several files, one after another.
use Rattle.std.proofs.Common.{◌≡◌, ℕ, ◌+◌, ◌<◌, ◌≤◌, Option, Some, None, List, [], ◌∷◌, ◌++◌, length, Err, IsErrOf, refl, take, drop, map, get_or, inr, sym, ap, subst, ◌∙◌, inl, Bool, true, false, if◌then◌else◌, ◌==◌, ◌&&◌, arith, Result, Ok, IfErr}
use Rattle.std.specs.Global.{Vec}
use Rattle.std.proofs.lemmas.List.{take_more, take_all, drop_more, take-append-drop, map-append}
use Rattle.command_streams.specs.declared.fault.CliFault.{CliFault}
use Rattle.command_streams.specs.declared.fault.CliFault.TheVariants.{Read, Write, Memory}
use Rattle.command_streams.specs.Readings.{reading}
use Rattle.command_streams.specs.Streams.{IsRead, StopsWriting}
use Rattle.tool_commands.specs.Explanations.{Manner, IsUnjudgedTold}
use Rattle.tool_commands.specs.Together.{Together, TakesReading, StopsTaking}
use Rattle.tool_commands.specs.Several.{Style, manner_in, AreTaken, more, TellsSeveral, StopsSeveral, HasSeveralCause}
use Rattle.tool_commands.specs.Several.{lacks_first}

names_at : {X : Type 0} (name : X → List ℕ) (items : List X) (index : ℕ) (one : X) (file : List ℕ) → index < length items → one ≡ get_or items index one → file ≡ name one →
    map name items ≡ map name (take index items) ++ file ∷ map name (drop (index + 1) items)
names_at name items index one file below read called =
    let rest = drop (index + 1) items in
    let parts : drop index items ≡ one ∷ rest = drop_more items index one below ∙ ap (λ x. x ∷ rest) (sym read) in
    ap (map name) (sym (take-append-drop index items) ∙ ap (λ l. take index items ++ l) parts) ∙
    map-append name (take index items) (one ∷ rest) ∙ ap (λ n. map name (take index items) ++ n ∷ map name rest) (sym called)

names_so_far : {X : Type 0} (name : X → List ℕ) (items : List X) (index : ℕ) (one : X) (file : List ℕ) → index < length items → one ≡ get_or items index one → file ≡ name one →
    map name (take index items) ++ file ∷ [] ≡ map name (take (index + 1) items)
names_so_far name items index one file below read called =
    ap (λ n. map name (take index items) ++ n ∷ []) called ∙ sym (map-append name (take index items) (one ∷ [])) ∙
    ap (map name) (ap (λ x. take index items ++ x ∷ []) read ∙ sym (take_more items index one below))

-- a file more, whose text means a trace
pub taken_more : {X : Type 0} (name : X → List ℕ) (items : List X) (index : ℕ) (one : X) (file : List ℕ) (style : Style) (files now : List ℕ → Option (List ℕ))
    (behind : Option (List ℕ)) (old new : Together) → index < length items → one ≡ get_or items index one → file ≡ name one → now ≡ files →
    AreTaken style files (map name (take index items)) old → TakesReading (manner_in style file) (reading (now file) behind) old new None →
    AreTaken style files (map name (take (index + 1) items)) new
taken_more name items index one file style files now behind old new below read called same before takes =
    subst (λ (names : List (List ℕ)). AreTaken style files names new) (names_so_far name items index one file below read called)
    (more new file takes.text behind before
    (subst (λ (f : List ℕ → Option (List ℕ)). IsRead (f file) behind takes.text) same takes.read) takes.takes)

-- a file whose text means no trace
pub faulty_at : {X : Type 0} (name : X → List ℕ) (items : List X) (index : ℕ) (one : X) (file : List ℕ) (style : Style) (files now : List ℕ → Option (List ℕ))
    (behind : Option (List ℕ)) (old new : Together) (told : Vec ℕ) → index < length items → one ≡ get_or items index one → file ≡ name one → now ≡ files →
    AreTaken style files (map name (take index items)) old → TakesReading (manner_in style file) (reading (now file) behind) old new (Some told) →
    TellsSeveral style files (map name items) told.items 2
faulty_at name items index one file style files now behind old new told below read called same before takes = inr (record {
  earlier = map name (take index items);
  name = file;
  later = map name (drop (index + 1) items);
  names_are = names_at name items index one file below read called;
  together = old;
  taken = before;
  text = takes.text;
  behind = behind;
  read = subst (λ (f : List ℕ → Option (List ℕ)). IsRead (f file) behind takes.text) same takes.read;
  tells = takes.takes;
})

stops_now : {X : Type 0} (name : X → List ℕ) (items : List X) (index : ℕ) (one : X) (file : List ℕ) (style : Style) (files : List ℕ → Option (List ℕ))
    (behind : Option (List ℕ)) (old : Together) (fault : CliFault) → index < length items → one ≡ get_or items index one → file ≡ name one →
    AreTaken style files (map name (take index items)) old → StopsTaking (reading (files file) behind) fault → StopsSeveral style files (map name items) fault
stops_now name items index one file style files behind old Read below read called before stops = tt
stops_now name items index one file style files behind old Memory below read called before stops = tt
stops_now name items index one file style files behind old fault below read called before stops = record {
  earlier = map name (take index items);
  name = file;
  later = map name (drop (index + 1) items);
  names_are = names_at name items index one file below read called;
  together = old;
  taken = before;
  behind = behind;
  stops = stops;
}

-- a file that is not taken
pub stops_at : {X : Type 0} (name : X → List ℕ) (items : List X) (index : ℕ) (one : X) (file : List ℕ) (style : Style) (files now : List ℕ → Option (List ℕ))
    (behind : Option (List ℕ)) (old : Together) (fault : CliFault) → index < length items → one ≡ get_or items index one → file ≡ name one → now ≡ files →
    AreTaken style files (map name (take index items)) old → StopsTaking (reading (now file) behind) fault → StopsSeveral style files (map name items) fault
stops_at name items index one file style files now behind old fault below read called same before stops =
    stops_now name items index one file style files behind old fault below read called before
    (subst (λ (f : List ℕ → Option (List ℕ)). StopsTaking (reading (f file) behind) fault) same stops)

lacks_here : (lacks : List ℕ → Type 0) (names : List (List ℕ)) (file : List ℕ) (later : List (List ℕ)) → (lacks_first lacks names → ⊥) →
    lacks_first lacks (names ++ file ∷ later) → lacks file
lacks_here lacks [] file later apart is = is
lacks_here lacks (x ∷ names) file later apart is = absurd (apart is)

-- where the first of all can't be opened, and none of those so far is it, this one is
pub lacks_at : {X Host : Type 0} (name : X → List ℕ) (items : List X) (index : ℕ) (one : X) (file : List ℕ) (lacks : Host → List ℕ → Type 0) (now first : Host) →
    index < length items → one ≡ get_or items index one → file ≡ name one → now ≡ first → (lacks_first (lacks first) (map name (take index items)) → ⊥) →
    lacks_first (lacks first) (map name items) → lacks now file
lacks_at name items index one file lacks now first below read called same apart is =
    subst (λ h. lacks h file) (sym same)
    (lacks_here (lacks first) (map name (take index items)) file (map name (drop (index + 1) items)) apart
    (subst (λ (names : List (List ℕ)). lacks_first (lacks first) names) (names_at name items index one file below read called) is))

-- nor is this one, where it could be opened
pub lacks_more : {X Host : Type 0} (name : X → List ℕ) (items : List X) (index : ℕ) (one : X) (file : List ℕ) (lacks : Host → List ℕ → Type 0) (now first : Host) →
    index < length items → one ≡ get_or items index one → file ≡ name one → now ≡ first → (lacks_first (lacks first) (map name (take index items)) → ⊥) →
    (lacks now file → ⊥) → lacks_first (lacks first) (map name (take (index + 1) items)) → ⊥
lacks_more name items index one file lacks now first below read called same apart opened is =
    opened (subst (λ h. lacks h file) (sym same)
    (lacks_here (lacks first) (map name (take index items)) file [] apart
    (subst (λ (names : List (List ℕ)). lacks_first (lacks first) names) (sym (names_so_far name items index one file below read called)) is)))

-- all are taken at the end
pub taken_all : {X : Type 0} (name : X → List ℕ) (items : List X) (index : ℕ) (style : Style) (files : List ℕ → Option (List ℕ)) (together : Together) →
    length items ≤ index → AreTaken style files (map name (take index items)) together → AreTaken style files (map name items) together
taken_all name items index style files together end taken =
    subst (λ l. AreTaken style files (map name l) together) (take_all index items end) taken

-- and the first could be opened
pub lacks_none : {X : Type 0} (name : X → List ℕ) (items : List X) (index : ℕ) (lacks : List ℕ → Type 0) → length items ≤ index →
    (lacks_first lacks (map name (take index items)) → ⊥) → lacks_first lacks (map name items) → ⊥
lacks_none name items index lacks end apart is = apart (subst (λ l. lacks_first lacks (map name l)) (sym (take_all index items end)) is)

-- nothing is told, and so nothing is written
pub untold : {T : Type 0} (style : Style) (files : List ℕ → Option (List ℕ)) (names : List (List ℕ)) (wrote writes : Option (List ℕ)) (fault : CliFault) →
    (IsErrOf {T = T} (Err fault) Write → ⊥) → StopsSeveral style files names fault → HasSeveralCause style files names wrote writes fault
untold style files names wrote writes Write other stops = absurd (other refl)
untold style files names wrote writes fault other stops = stops

pub all_untold : {T : Type 0} (style : Style) (files : List ℕ → Option (List ℕ)) (names : List (List ℕ)) (wrote writes : Option (List ℕ)) (told : Result T CliFault) →
    (IsErrOf told Write → ⊥) → IfErr told (StopsSeveral style files names) → IfErr told (HasSeveralCause style files names wrote writes)
all_untold style files names wrote writes (Ok value) other stops = tt
all_untold style files names wrote writes (Err fault) other stops = untold style files names wrote writes fault other stops

-- only a part of what is told could be written
pub told_cut : (style : Style) (files : List ℕ → Option (List ℕ)) (names : List (List ℕ)) (wrote writes : Option (List ℕ)) (told : List ℕ) (status : ℕ) (fault : CliFault) →
    TellsSeveral style files names told status → StopsWriting wrote writes told fault → HasSeveralCause style files names wrote writes fault
told_cut style files names wrote writes told status Write tells stops = record {
  told = told;
  status = status;
  part = stops.0;
  rest = stops.1;
  tells = tells;
  written = stops.2;
  prefix = stops.3;
}
told_cut style files names wrote writes told status fault tells stops = absurd stops

few_by : (none : Bool) → (if none then 0 else 1) ≤ 2
few_by true = omega arith
few_by false = omega arith

few_unjudged : (manner : Manner) (text told : List ℕ) (status : ℕ) → IsUnjudgedTold manner text told status → status ≤ 2
few_unjudged manner text told status (inl fault) = subst (λ n. n ≤ 2) (sym fault.status_is) (omega arith)
few_unjudged manner text told status (inr illegal) = subst (λ n. n ≤ 2) (sym illegal.status_is) (omega arith)

-- the status is at most 2
pub few_told : (style : Style) (files : List ℕ → Option (List ℕ)) (names : List (List ℕ)) (told : List ℕ) (status : ℕ) →
    TellsSeveral style files names told status → status ≤ 2
few_told style files names told status (inl all) =
    subst (λ n. n ≤ 2) (sym all.status_is) (few_by (all.together.found.refusals == 0 && all.together.records.refusals == 0))
few_told style files names told status (inr faulty) = few_unjudged (manner_in style faulty.name) faulty.text told status faulty.tells
