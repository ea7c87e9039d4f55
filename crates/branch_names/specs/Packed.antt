-- What the names of branches stand for that are stored in four bytes.
use Rattle.std.specs.Prelude.{◌/◌, ◌%◌, ℕ, zero, suc, List, map}
use Rattle.branch_names.specs.declared.packed.Packed.{Packed}
use Rattle.branch_names.specs.Names.{BranchName, Given, Kept}

-- the last digit tells a name that is kept from one that is given
abbrev pub name_with : ℕ → ℕ → BranchName
name_with zero number = Given number
name_with (suc _) number = Kept number

abbrev pub name_of : Packed → BranchName
name_of packed = name_with (packed.code % 2) (packed.code / 2)

abbrev pub names_of : List Packed → List BranchName
names_of packed = map name_of packed
