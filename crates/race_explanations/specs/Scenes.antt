-- A scene as a setting.
use Rattle.program_text.specs.Programs.{contents}
use Rattle.race_explanations.specs.declared.scene.Origin.{Origin as SceneOrigin}
use Rattle.race_explanations.specs.declared.scene.Origin.TheVariants.{Program, Trace}
use Rattle.race_explanations.specs.declared.scene.Scene.{Scene}
use Rattle.race_explanations.specs.Settings.{Origin, in_program, in_trace, Setting}

abbrev pub origin_of : SceneOrigin → Origin
origin_of (Program file source program) = in_program file.now source.now (contents program.now).functions
origin_of (Trace notes) = in_trace notes.now

abbrev pub setting_of : Scene → Setting
setting_of scene = record {
  look = scene.look;
  origin = origin_of scene.origin;
  mems = scene.mems.now;
  reducers = scene.reducers.now;
  lines = scene.digest.now.lines.items;
}
