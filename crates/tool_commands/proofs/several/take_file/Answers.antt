use Rattle.std.proofs.Common.{rules, ◌≡◌, ℕ, List, Option, subst}
use Rattle.std.proofs.lemmas.Result.{IfOk-weaker, IfErr-weaker}
use Rattle.command_streams.specs.Watched.{held}
use Rattle.command_streams.specs.Readings.{reading}
use Rattle.tool_commands.specs.Together.{TakesReading, StopsTaking, together_of}
use Rattle.tool_commands.proofs.several.take_file.Goals as goal

pub returns-clause-fault : goal.returns-clause-fault
returns-clause-fault g c =
    let behind : Option (List ℕ) = g.H.File.Read.remaining (held c.read-taken.new.trace) in
    let same : g.H.File.Read.remaining (held c.in_ok-trace.trace) ≡ (g.H.Host.sources (held c.args.host.now)).file c.args.manner.now.file = search rules in
    IfErr-weaker c.read-taken.result _ (λ fault. (x : Option (List ℕ)) × StopsTaking (reading ((g.H.Host.sources (held c.args.host.now)).file c.args.manner.now.file) x) fault)
    (λ fault stops. (behind, subst (λ (b : Option (List ℕ)). StopsTaking (reading b behind) fault) same stops)) c.read-taken.ensures.fault

pub returns-clause-ok : goal.returns-clause-ok
returns-clause-ok g c =
    let behind : Option (List ℕ) = g.H.File.Read.remaining (held c.read-taken.new.trace) in
    let same : g.H.File.Read.remaining (held c.in_ok-trace.trace) ≡ (g.H.Host.sources (held c.args.host.now)).file c.args.manner.now.file = search rules in
    IfOk-weaker c.read-taken.result _ (λ told. (x : Option (List ℕ)) × TakesReading c.args.manner.now (reading ((g.H.Host.sources (held c.args.host.now)).file c.args.manner.now.file) x)
    (together_of c.args.traces.now) (together_of c.read-taken.new.self) told)
    (λ told takes. (behind, subst (λ (b : Option (List ℕ)). TakesReading c.args.manner.now (reading b behind) (together_of c.args.traces.now) (together_of c.read-taken.new.self) told) same takes))
    c.read-taken.ensures.ok
