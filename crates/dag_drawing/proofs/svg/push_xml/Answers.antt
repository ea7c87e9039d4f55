use Rattle.std.proofs.Common.{ap}
use Rattle.std.proofs.lemmas.List.{drop_all}
use Rattle.dag_drawing.specs.Pictures.{xml_text}
use Rattle.dag_drawing.proofs.Pushed.{no_part_left}
use Rattle.dag_drawing.proofs.svg.push_xml.Goals as goal

pub loop-byte-init : goal.loop-byte-init
loop-byte-init c = λ end adds. adds

pub returns : goal.returns
returns c = no_part_left _ _ _ _ (ap (xml_text) (drop_all _ _ c.loop-byte-test.false)) c.loop-byte.invariant
