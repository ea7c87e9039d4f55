use Rattle.std.proofs.Common.{◌++◌, sym, ◌∙◌, ap, append-nil, append_assoc}
use Rattle.race_pairs.proofs.Places.{no_frame, outward, behind_empty}
use Rattle.race_pairs.proofs.frames.numbers_from.Goals as goal

pub outward-init : goal.outward-init
outward-init c = λ numbers encloses. (numbers, encloses, ap (λ xs. xs ++ numbers) c.new-found.ensures.items)

pub bounds-opened-at : goal.bounds-opened-at
bounds-opened-at c =
    let rest = c.outward.invariant c.requires.0 c.requires.1 in
    (outward c.args.opened.now c.outward.at rest.0 rest.1 c.outward-test.true no_frame).within

pub outward-smaller : goal.outward-smaller
outward-smaller c =
    let rest = c.outward.invariant c.requires.0 c.requires.1 in
    (outward c.args.opened.now c.outward.at rest.0 rest.1 c.outward-test.true no_frame).back

pub outward-preserved : goal.outward-preserved
outward-preserved c = λ numbers encloses.
    let rest = c.outward.invariant numbers encloses in
    let out = outward c.args.opened.now c.outward.at rest.0 rest.1 c.outward-test.true no_frame in (
      out.rest,
      out.round,
      ap (λ xs. xs ++ out.rest) c.in_ok-push.ensures.items ∙
          (append_assoc c.outward.found.items _ out.rest ∙ (ap (λ xs. c.outward.found.items ++ xs) (sym out.numbers_are) ∙ rest.2)),
    )

pub returns : goal.returns
returns c = λ numbers encloses.
    let rest = c.outward.invariant numbers encloses in
    sym (append-nil c.outward.found.items) ∙ (ap (λ xs. c.outward.found.items ++ xs) (sym (behind_empty c.args.opened.now c.outward.at rest.0 rest.1 (c.outward-test.false))) ∙ rest.2)
