use Rattle.sp_labels.proofs.Queries.{parallel-tells, differ-tells}
use Rattle.sp_labels.proofs.roster.Strands.parallel.Goals as goal

pub returns : goal.returns
returns g c history f =
    let tells = parallel-tells _ history f c.args.a c.args.b c.requires.a_begun c.requires.b_begun in
    let differ = differ-tells _ _ _ _ (c.english_before.ensures history f) (c.hebrew_before.ensures history f) in
    ((λ t. tells.0 (differ.0 t)), (λ t. differ.1 (tells.1 t)))
