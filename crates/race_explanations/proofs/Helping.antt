-- A note of help, where help is known.
use Rattle.std.proofs.Common.{◌≡◌, List, ℕ, [], ◌++◌, Option, Some, None, true, false, codes, refl, ap}
use Rattle.std.specs.Prelude.{is_some, unwrap_or}
use Rattle.text_buffers.specs.Builders.{Adds}
use Rattle.text_buffers.proofs.Builders.{none_adds}
use Rattle.race_explanations.specs.Settings.{Setting}
use Rattle.race_explanations.specs.Advice.{help_begun, help_note}

pub note_there : (setting : Setting) (help : Option (List ℕ)) (old new : Option (List ℕ)) → is_some help ≡ true →
    Adds old (help_begun setting ++ unwrap_or help [] ++ codes "\n") new → Adds old (help_note setting help) new
note_there setting (Some words) old new is adds = adds
note_there setting None old new is adds = absurd (cc)

pub note_none : (setting : Setting) (help : Option (List ℕ)) (old : Option (List ℕ)) → is_some help ≡ false → Adds old (help_note setting help) old
note_none setting None old is = none_adds old
note_none setting (Some words) old is = absurd (cc)

pub helped : (help : Option (List ℕ)) (words : List ℕ) → is_some help ≡ true → words ≡ unwrap_or help [] → Some words ≡ help
helped (Some told) words is same = ap Some same
helped None words is same = absurd (cc)

pub unhelped : (help : Option (List ℕ)) → is_some help ≡ false → None ≡ help
unhelped None is = refl
unhelped (Some told) is = absurd (cc)
