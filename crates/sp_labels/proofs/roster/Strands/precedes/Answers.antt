use Rattle.std.proofs.Common.{◌∙◌, sym}
use Rattle.std.proofs.lemmas.Bool.{false≢true}
use Rattle.sp_labels.proofs.Queries.{precedes-tells}
use Rattle.sp_labels.proofs.roster.Strands.precedes.Goals as goal

pub returns-then-english_before : goal.returns-then-english_before
returns-then-english_before g c history f =
    let tells = precedes-tells _ history f c.args.a c.args.b c.requires.a_begun c.requires.b_begun in
    let english = c.english_before.ensures history f in
    let hebrew = c.hebrew_before.ensures history f in
    ((λ t. tells.0 (english.0 c.if-english_before.true, hebrew.0 t)), (λ t. hebrew.1 ((tells.1 t).1)))

pub returns-else-english_before : goal.returns-else-english_before
returns-else-english_before g c history f =
    let tells = precedes-tells _ history f c.args.a c.args.b c.requires.a_begun c.requires.b_begun in
    let english = c.english_before.ensures history f in
    ((λ t. absurd (false≢true (sym c.if-english_before.false ∙ t))), (λ t. english.1 ((tells.1 t).0)))
