use Rattle.std.proofs.Common.{◌≡◌, ℕ, [], map, take}
use Rattle.std.specs.Global.{Vec}
use Rattle.race_explanations.specs.Scenes.{setting_of}
use Rattle.race_explanations.specs.Titles.{spaced_name, with_texts}
use Rattle.race_explanations.proofs.title.display_names.Given as goal

-- what those so far are told as
abbrev pub invariant-loop-place : goal.invariant-loop-place
invariant-loop-place l =
    map (λ (name : Vec ℕ). name.items) l.names.keys ≡ with_texts [] (map (spaced_name (setting_of l.scene) l.reason) (take l.place-index l.places))
