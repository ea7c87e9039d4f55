use Rattle.std.proofs.Common.{drop}
use Rattle.dag_drawing.specs.Pictures.{xml_text}
use Rattle.dag_drawing.proofs.Pushed.{Completes}
use Rattle.dag_drawing.proofs.svg.push_xml.Given as goal

-- with what is left behind what is written, the whole is added
abbrev pub invariant-loop-byte : goal.invariant-loop-byte
invariant-loop-byte l = Completes l.initial.text l.text (xml_text (drop l.byte-index l.bytes)) (xml_text l.bytes)
