-- What acts ask for.
use Rattle.std.specs.Prelude.{Option, Some, None}
use Rattle.model_accesses.specs.declared.kind.Kind.TheVariants as kind
use Rattle.model_accesses.specs.declared.request.Act.{Act}
use Rattle.model_accesses.specs.declared.request.Act.TheVariants.{Read, Write, Bump, Update, Put, Get}
use Rattle.model_accesses.specs.declared.asked.Asked.{Asked}

-- the access that an act is, of a cell or of a reducer, where it is one
abbrev pub access_asked : Act → Option Asked
access_asked (Read location) = Some (record { kind = kind.Read; place = location })
access_asked (Write location value) = Some (record { kind = kind.Write; place = location })
access_asked (Bump location value) = Some (record { kind = kind.Bump; place = location })
access_asked (Update reducer value) = Some (record { kind = kind.Update; place = reducer })
access_asked (Put reducer value) = Some (record { kind = kind.Put; place = reducer })
access_asked (Get reducer) = Some (record { kind = kind.Get; place = reducer })
access_asked act = None
