use Rattle.std.proofs.Common.{List, length, sym, subst}
use Rattle.std.specs.Ordering.{nat_cmp}
use Rattle.std.specs.BTreeMap.{get}
use Rattle.text_words.specs.Declarations.{cells_of}
use Rattle.model_bodies.specs.Codes.{Code}
use Rattle.model_bodies.specs.Sound.{IsSound}
use Rattle.program_text.specs.Programs.{contents}
use Rattle.program_warnings.proofs.Finding.{all_found}
use Rattle.program_warnings.proofs.message.find_warnings.Goals as goal

pub mark_reached-requires-clause-sound : goal.mark_reached-requires-clause-sound
mark_reached-requires-clause-sound c = (
  cells_of c.args.program.now.mems,
  length c.args.program.now.reducers,
  subst (λ (functions : List Code). IsSound (cells_of c.args.program.now.mems) (length c.args.program.now.reducers) functions)
      (sym c.as_slice-functions.ensures) c.args.program.now.sound,
)

pub returns : goal.returns
returns c =
    all_found (contents c.args.program.now) (get nat_cmp c.args.wraps.now) c.main.result c.as_slice-functions.result.now c.as_slice.result.now c.as_slice-reducers.result.now
    c.in_ok-names.names c.in_ok-marks.marks.items c.as_slice-2.result.now c.as_slice-3.result.now c.in_ok-put.put.items c.as_slice-4.result.now
    c.in_ok-warnings.warnings.items c.as_slice-functions.ensures c.as_slice.ensures c.as_slice-reducers.ensures c.main.ensures.named
    c.in_ok-marks.ensures c.as_slice-2.ensures.value c.in_ok-put.ensures c.as_slice-3.ensures.value c.as_slice-4.ensures.value
    c.in_ok-names.ensures c.in_ok-warnings.ensures
