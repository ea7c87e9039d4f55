use Rattle.std.proofs.Common.{ℕ, List, Some, ◌≡◌, ◌∙◌, length, sym, ap, subst, slice_get, unwrap_or}
use Rattle.std.specs.List.{All}
use Rattle.std.specs.Option.{option_copied}
use Rattle.std.proofs.lemmas.List.Elements.{All-get_or}
use Rattle.std.proofs.lemmas.Option.{slice_get_within, unwrap_or-slice_get}
use Rattle.race_pairs.specs.declared.race.Race.{Race}
use Rattle.race_pairs.specs.Kept.{IsRace}
use Rattle.race_pairs.proofs.Digesting.{races_now}
use Rattle.call_tests.proofs.tellings.pairs.is_told.Goals as goal

all_at : (P : Race → Type 0) (races : List Race) (place : ℕ) (race : Race) → All P races → slice_get races place ≡ Some race → P race
all_at P races place race all at =
    subst P (sym (unwrap_or-slice_get races place race) ∙ ap (λ found. unwrap_or found race) at)
    (All-get_or P races place race (slice_get_within races place race at) all)

pub new-requires : goal.new-requires
new-requires c =
    let entries = c.requires.0 in
    let each = subst (All (IsRace entries (length entries))) (sym c.races.ensures) (races_now entries c.args.digest.now c.requires.1).are.each in
    (entries, (c.requires.1, all_at (IsRace entries (length entries)) c.races.result.now _ c.in-Some.race.now each (sym c.last.ensures.value ∙ ap option_copied c.in-Some.is)))
