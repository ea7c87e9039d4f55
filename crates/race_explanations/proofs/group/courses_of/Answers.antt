use Rattle.std.proofs.Common.{rules, ◌++◌, sym, ap, ◌∙◌, append-nil}
use Rattle.std.proofs.lemmas.Option.{slice_get_past}
use Rattle.race_explanations.specs.Scenes.{setting_of}
use Rattle.race_explanations.specs.Groups.{course_if, course_at}
use Rattle.race_explanations.proofs.Gathering.{listed_one, course_here}
use Rattle.race_explanations.proofs.group.courses_of.Goals.{in-Some+in_ok-push, in_default}
use Rattle.race_explanations.proofs.group.courses_of.Goals as goal

pub loop-place-preserved : goal.loop-place-preserved
loop-place-preserved c =
    let items = c.loop-place.courses.items in
    listed_one (course_at (setting_of c.args.scene.now) c.args.cases.now) c.args.places.now c.loop-place.place-index 0 _ _
    c.loop-place-test.true c.loop-place.invariant
    (elim c.match-get.branch [
      | in-Some+in_ok-push w ↦ rw w.courses-is (course_here (setting_of c.args.scene.now) c.args.cases.now _ _ _ items _ (search rules)
          w.in-Some.ensures.lookup.1 w.course_of.ensures w.in_ok-push.ensures.items)
      | in_default w ↦ rw w.courses-is (sym (append-nil items) ∙ ap (λ t. items ++ t)
          (sym (ap (course_if (setting_of c.args.scene.now)) (slice_get_past c.args.cases.now _ w.in_default.ensures.lookup.3))))
    ])
