use Rattle.std.proofs.Common.{◌∙◌, ap, sym, refl, length}
use Rattle.text_words.specs.Declarations.{cells_of}
use Rattle.frame_steps.specs.Scripts.{none_passed}
use Rattle.frame_steps.proofs.Turns.{passes_more}
use Rattle.frame_steps.proofs.Located.{stands_in, same_function, in_place, passed_is, return_asks, statement_asks, statement_asked, sound_of, statement_within, placed, named}
use Rattle.frame_steps.proofs.activation.Activation.seek.Goals as goal

pub loop-statement-init : goal.loop-statement-init
loop-statement-init g c =
    let functions = c.args.program.now.functions in
    let h = c.function_in-function.ensures in
    record { function = refl; join = refl; stands = stands_in functions c.function_in-function.result.now c.args.self.now h c.requires.place; passes = none_passed }

pub returns-in_default-clause-place : goal.returns-in_default-clause-place
returns-in_default-clause-place g c =
    let functions = c.args.program.now.functions in
    let code = c.function_in-function.result.now in
    let h = c.function_in-function.ensures in
    let now = c.loop-statement.self in
    let k = same_function functions code c.args.self.now now h c.loop-statement.invariant.function in
    in_place functions code now k c.loop-statement.invariant.stands

pub returns-in_default-clause-passes : goal.returns-in_default-clause-passes
returns-in_default-clause-passes g c =
    let functions = c.args.program.now.functions in
    let code = c.function_in-function.result.now in
    let h = c.function_in-function.ensures in
    let now = c.loop-statement.self in
    let k = same_function functions code c.args.self.now now h c.loop-statement.invariant.function in
    passed_is functions code c.args.self.now now h c.loop-statement.invariant.function c.loop-statement.invariant.passes

pub returns-in_default-clause-asks : goal.returns-in_default-clause-asks
returns-in_default-clause-asks g c =
    let functions = c.args.program.now.functions in
    let code = c.function_in-function.result.now in
    let h = c.function_in-function.ensures in
    let now = c.loop-statement.self in
    let k = same_function functions code c.args.self.now now h c.loop-statement.invariant.function in
    let l = ap (λ f. f.end_line) c.function.view_is in
    let r = return_asks functions code now k (sym c.statement_in.ensures ∙ c.in_default.is) in
    record { act = r.act; line = r.line ∙ sym l }

pub act_of-requires : goal.act_of-requires
act_of-requires g c =
    let functions = c.args.program.now.functions in
    let code = c.function_in-function.result.now in
    let h = c.function_in-function.ensures in
    let now = c.loop-statement.self in
    let k = same_function functions code c.args.self.now now h c.loop-statement.invariant.function in
    let cells = cells_of c.args.program.now.mems in
    let reducers = length c.args.program.now.reducers in
    let sound = sound_of cells reducers functions c.args.self.now.function code c.args.program.now.sound h in
    let e = sym c.statement_in.ensures ∙ c.in-Some.is in
    let w = statement_within cells reducers (length functions) code now.place now.turn c.in-Some.statement sound c.loop-statement.invariant.stands.turn e in
    placed cells reducers (length functions) c.in-Some.statement c.args.program.now.few_cells w

pub returns-in-Some-act_of-clause-place : goal.returns-in-Some-act_of-clause-place
returns-in-Some-act_of-clause-place g c =
    let functions = c.args.program.now.functions in
    let code = c.function_in-function.result.now in
    let h = c.function_in-function.ensures in
    let now = c.loop-statement.self in
    let k = same_function functions code c.args.self.now now h c.loop-statement.invariant.function in
    in_place functions code now k c.loop-statement.invariant.stands

pub returns-in-Some-act_of-clause-passes : goal.returns-in-Some-act_of-clause-passes
returns-in-Some-act_of-clause-passes g c =
    let functions = c.args.program.now.functions in
    let code = c.function_in-function.result.now in
    let h = c.function_in-function.ensures in
    let now = c.loop-statement.self in
    let k = same_function functions code c.args.self.now now h c.loop-statement.invariant.function in
    passed_is functions code c.args.self.now now h c.loop-statement.invariant.function c.loop-statement.invariant.passes

pub returns-in-Some-act_of-clause-asks : goal.returns-in-Some-act_of-clause-asks
returns-in-Some-act_of-clause-asks g c =
    let functions = c.args.program.now.functions in
    let code = c.function_in-function.result.now in
    let h = c.function_in-function.ensures in
    let now = c.loop-statement.self in
    let k = same_function functions code c.args.self.now now h c.loop-statement.invariant.function in
    let e = sym c.statement_in.ensures ∙ c.in-Some.is in
    let a = sym c.act_of.ensures ∙ c.in-Some-act_of.is in
    let r = statement_asks functions code now c.in-Some.statement c.in-Some-act_of.act k e a in
    record { act = r.act; line = r.line ∙ sym c.line_of.ensures }

pub returns-in-Some-act_of-clause-asked : goal.returns-in-Some-act_of-clause-asked
returns-in-Some-act_of-clause-asked g c =
    let functions = c.args.program.now.functions in
    let code = c.function_in-function.result.now in
    let h = c.function_in-function.ensures in
    let now = c.loop-statement.self in
    let k = same_function functions code c.args.self.now now h c.loop-statement.invariant.function in
    let e = sym c.statement_in.ensures ∙ c.in-Some.is in
    let a = sym c.act_of.ensures ∙ c.in-Some-act_of.is in
    statement_asked functions code now c.in-Some.statement c.in-Some-act_of.act k e a

pub returns-in-Some-act_of-clause-named : goal.returns-in-Some-act_of-clause-named
returns-in-Some-act_of-clause-named g c =
    let functions = c.args.program.now.functions in
    let code = c.function_in-function.result.now in
    let h = c.function_in-function.ensures in
    let now = c.loop-statement.self in
    let k = same_function functions code c.args.self.now now h c.loop-statement.invariant.function in
    let cells = cells_of c.args.program.now.mems in
    let reducers = length c.args.program.now.reducers in
    let sound = sound_of cells reducers functions c.args.self.now.function code c.args.program.now.sound h in
    let e = sym c.statement_in.ensures ∙ c.in-Some.is in
    let w = statement_within cells reducers (length functions) code now.place now.turn c.in-Some.statement sound c.loop-statement.invariant.stands.turn e in
    let a = sym c.act_of.ensures ∙ c.in-Some-act_of.is in
    named cells reducers (length functions) c.in-Some.statement now.registers c.in-Some-act_of.act w a

pub pass-requires-clause-few : goal.pass-requires-clause-few
pass-requires-clause-few g c =
    let functions = c.args.program.now.functions in
    let code = c.function_in-function.result.now in
    let h = c.function_in-function.ensures in
    let now = c.loop-statement.self in
    let k = same_function functions code c.args.self.now now h c.loop-statement.invariant.function in
    let cells = cells_of c.args.program.now.mems in
    let reducers = length c.args.program.now.reducers in
    let sound = sound_of cells reducers functions c.args.self.now.function code c.args.program.now.sound h in
    sound.few

pub pass-requires-clause-linked : goal.pass-requires-clause-linked
pass-requires-clause-linked g c =
    let functions = c.args.program.now.functions in
    let code = c.function_in-function.result.now in
    let h = c.function_in-function.ensures in
    let now = c.loop-statement.self in
    let k = same_function functions code c.args.self.now now h c.loop-statement.invariant.function in
    let cells = cells_of c.args.program.now.mems in
    let reducers = length c.args.program.now.reducers in
    let sound = sound_of cells reducers functions c.args.self.now.function code c.args.program.now.sound h in
    sound.linked

pub pass-requires-clause-divided : goal.pass-requires-clause-divided
pass-requires-clause-divided g c =
    let functions = c.args.program.now.functions in
    let code = c.function_in-function.result.now in
    let h = c.function_in-function.ensures in
    let now = c.loop-statement.self in
    let k = same_function functions code c.args.self.now now h c.loop-statement.invariant.function in
    let cells = cells_of c.args.program.now.mems in
    let reducers = length c.args.program.now.reducers in
    let sound = sound_of cells reducers functions c.args.self.now.function code c.args.program.now.sound h in
    sound.divided

pub loop-statement-preserved : goal.loop-statement-preserved
loop-statement-preserved g c =
    let functions = c.args.program.now.functions in
    let code = c.function_in-function.result.now in
    let h = c.function_in-function.ensures in
    let now = c.loop-statement.self in
    let k = same_function functions code c.args.self.now now h c.loop-statement.invariant.function in
    let cells = cells_of c.args.program.now.mems in
    let reducers = length c.args.program.now.reducers in
    let sound = sound_of cells reducers functions c.args.self.now.function code c.args.program.now.sound h in
    let e = sym c.statement_in.ensures ∙ c.in-Some.is in
    let w = statement_within cells reducers (length functions) code now.place now.turn c.in-Some.statement sound c.loop-statement.invariant.stands.turn e in
    record {
      function = c.pass.ensures.same.0 ∙ c.loop-statement.invariant.function;
      join = c.pass.ensures.same.1 ∙ c.loop-statement.invariant.join;
      stands = c.pass.ensures.stands cells reducers (length functions) w c.loop-statement.invariant.stands;
      passes = passes_more _ _ _ _ _ _ c.loop-statement.invariant.passes c.pass.ensures.passes;
    }
