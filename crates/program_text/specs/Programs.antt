-- What a program holds.
use Rattle.program_text.specs.declared.program.Program.{Program}
use Rattle.program_text.specs.Drafts.{Contents}

abbrev pub contents : {A : Type 0} → Program A → Contents
contents program = record {
  known = record { version = program.version; mems = program.mems; reducers = program.reducers };
  functions = program.functions;
}
