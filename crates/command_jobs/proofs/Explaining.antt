-- The manner of an explanation.
use Rattle.std.proofs.Common.{ℕ, Bool, true, false, List, refl}
use Rattle.command_words.specs.declared.words.Format.{Format}
use Rattle.command_words.specs.declared.words.Color.{Color}
use Rattle.command_words.specs.declared.words.Color.TheVariants.{Auto, Always, Never}
use Rattle.tool_commands.specs.Explanations.{Manner}
use Rattle.command_jobs.specs.Performed.{rendering_of, extent_of, IsMannerOf}

pub manner_of : (file : List ℕ) (format : Format) (is_all : Bool) (color : Color) → (manner : Manner) × IsMannerOf file color format is_all manner
manner_of file format is_all Auto =
    (record { is_painted = false; rendering = rendering_of format; extent = extent_of is_all; file = file }, (refl, tt, refl, refl))
manner_of file format is_all Always =
    (record { is_painted = true; rendering = rendering_of format; extent = extent_of is_all; file = file }, (refl, refl, refl, refl))
manner_of file format is_all Never =
    (record { is_painted = false; rendering = rendering_of format; extent = extent_of is_all; file = file }, (refl, refl, refl, refl))
