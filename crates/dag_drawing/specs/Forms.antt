-- The text of a drawing in each language.
use Rattle.std.specs.Prelude.{ℕ, List}
use Rattle.dag_drawing.specs.declared.drawing.Drawing.{Drawing}
use Rattle.dag_drawing.specs.declared.form.Form.{Form}
use Rattle.dag_drawing.specs.declared.form.Form.TheVariants.{Dot, Svg}
use Rattle.dag_drawing.specs.Labels.{Naming}
use Rattle.dag_drawing.specs.Dots.{dot_text}
use Rattle.dag_drawing.specs.Pictures.{svg_text}

abbrev pub text_in : Form → Naming → Drawing → List ℕ
text_in Dot naming drawing = dot_text naming drawing
text_in Svg naming drawing = svg_text naming drawing
