-- Lines that are told one after another through a buffer.
use Rattle.std.proofs.Common.{◌≡◌, ℕ, List, [], ◌++◌, Bool, false, Option, append-nil, append_assoc, sym, subst, ◌∙◌}
use Rattle.std.specs.Prelude.{◌↔◌, true, IsTrue, Result, Ok, Err, IfErr, IsErrOf, OnOk}
use Rattle.std.specs.Io.KnownBytes.{Appends, Keeps}
use Rattle.command_streams.specs.declared.fault.CliFault.{CliFault}
use Rattle.command_streams.specs.declared.fault.CliFault.TheVariants.{Write}
use Rattle.command_streams.specs.declared.watched.Watched.{Watched}
use Rattle.command_streams.specs.Streams.{StopsWriting}
use Rattle.command_streams.specs.Tellings.{IsTold, Telling, telling, TellsMore}
use Rattle.command_streams.proofs.Telling.{none_told, told_more, told_written, told_failed, told_whole, told_cut}

-- nothing more is told
pub tells_none : (known : Telling) → TellsMore known known []
tells_none known wrote text told = subst (λ (t : List ℕ). IsTold wrote known.device known.failed known.waiting t) (sym (append-nil text)) told

-- what was told before is told still, where nothing more is
pub told_still : (before behind : Option (List ℕ)) (failed fails : Bool) (waiting waits : List ℕ) →
    TellsMore (telling before failed waiting) (telling behind fails waits) [] →
    (wrote : Option (List ℕ)) (text : List ℕ) → IsTold wrote before failed waiting text → IsTold wrote behind fails waits text
told_still before behind failed fails waiting waits tells wrote text told =
    subst (λ (t : List ℕ). IsTold wrote behind fails waits t) (append-nil text) (tells wrote text told)

-- these bytes wait behind the others
pub tells_added : (before behind : Telling) (longer bytes : List ℕ) → TellsMore before behind [] → longer ≡ behind.waiting ++ bytes →
    TellsMore before (record behind { waiting = longer }) bytes
tells_added before behind longer bytes tells is wrote text told =
    told_more wrote behind.device behind.failed behind.waiting longer text bytes is
    (told_still before.device behind.device before.failed behind.failed before.waiting behind.waiting tells wrote text told)

module _ {W : Type 0} (contents : W → Option (List ℕ)) (before now : Watched W) (waiting left : List ℕ) where
  -- what waits was written as far as the result tells
  pub tells_written : (behind : Watched W) (result : Result (Unit {0}) CliFault) (written : List ℕ) → now ≡ behind → before.failed ≡ false → left ≡ [] → written ≡ waiting →
      OnOk result (Appends (contents before.inner) (contents behind.inner) written) →
      IfErr result (StopsWriting (contents before.inner) (contents behind.inner) written) → (IsErrOf result Write ↔ IsTrue behind.failed) →
      TellsMore (telling (contents before.inner) before.failed waiting) (telling (contents now.inner) now.failed left) []
  tells_written behind result written same fresh none is given stops fails wrote text told =
      let told : IsTold wrote (contents before.inner) before.failed written text = rw is told in
      let then : IsTold wrote (contents behind.inner) behind.failed left text =
      told_written result wrote (contents before.inner) (contents behind.inner) before.failed behind.failed written left text fresh none given stops fails told in
      rw (same, append-nil text) then

  -- what waits was let go behind a write that failed
  pub tells_failed : now ≡ before → before.failed ≡ true →
      TellsMore (telling (contents before.inner) before.failed waiting) (telling (contents now.inner) now.failed left) []
  tells_failed same fails wrote text told =
      rw (same, append-nil text) (told_failed wrote (contents before.inner) before.failed waiting left text fails told)

-- some bytes, and some more
pub tells_next : (before between behind : Telling) (bytes more : List ℕ) → TellsMore before between bytes → TellsMore between behind more →
    TellsMore before behind (bytes ++ more)
tells_next before between behind bytes more first second wrote text told =
    subst (λ (t : List ℕ). IsTold wrote behind.device behind.failed behind.waiting t) (append_assoc text bytes more)
    (second wrote (text ++ bytes) (first wrote text told))

-- all was written
pub tells_whole : (before between : Telling) (behind : Option (List ℕ)) (bytes : List ℕ) → before.waiting ≡ [] → between.failed ≡ false →
    between.waiting ≡ [] → Keeps between.device behind → TellsMore before between bytes → Appends before.device behind bytes
tells_whole before between behind bytes empty fresh none kept tells =
    told_whole before.device between.device behind between.failed between.waiting bytes fresh none kept
    (tells before.device [] (none_told before.device before.failed before.waiting empty))

-- a part was written
pub tells_cut : (before between : Telling) (behind : Option (List ℕ)) (bytes : List ℕ) → before.waiting ≡ [] → Keeps between.device behind →
    TellsMore before between bytes → StopsWriting before.device behind bytes Write
tells_cut before between behind bytes empty kept tells =
    told_cut before.device between.device behind between.failed between.waiting bytes kept
    (tells before.device [] (none_told before.device before.failed before.waiting empty))

-- a part of it was written, and nothing behind it
pub tells_part : (before behind : Telling) (bytes : List ℕ) → before.waiting ≡ [] → TellsMore before behind bytes →
    StopsWriting before.device behind.device bytes Write
tells_part before behind bytes empty tells =
    let told = tells before.device [] (none_told before.device before.failed before.waiting empty) in
    (told.part, told.rest, told.written, told.whole)

-- where the only fault is that of a write
pub stops_by : (result : Result (Unit {0}) CliFault) (before behind : Option (List ℕ)) (bytes : List ℕ) → IfErr result (λ fault. fault ≡ Write) →
    StopsWriting before behind bytes Write → IfErr result (StopsWriting before behind bytes)
stops_by (Ok x) before behind bytes only stops = tt
stops_by (Err fault) before behind bytes only stops = subst (λ (f : CliFault). StopsWriting before behind bytes f) (sym only) stops

-- some bytes, some more, and what waits is written
pub tells_given : (before first second behind : Telling) (bytes more : List ℕ) → TellsMore before first bytes → TellsMore first second more →
    TellsMore second behind [] → TellsMore before behind (bytes ++ more)
tells_given before first second behind bytes more some then given wrote text told =
    subst (λ (t : List ℕ). IsTold wrote behind.device behind.failed behind.waiting t) (append-nil ((text ++ bytes) ++ more) ∙ append_assoc text bytes more)
    (given wrote ((text ++ bytes) ++ more) (then wrote (text ++ bytes) (some wrote text told)))

-- what holds in any case holds where it went well
pub holds_anyway : (result : Result (Unit {0}) CliFault) (P : Type 0) → P → OnOk result P
holds_anyway (Ok x) P holds = holds
holds_anyway (Err fault) P holds = tt
