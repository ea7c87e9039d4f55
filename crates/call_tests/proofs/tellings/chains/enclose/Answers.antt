use Rattle.call_tests.proofs.tellings.chains.enclose.Goals as goal

pub chain-requires : goal.chain-requires
chain-requires c = (c.args.gate.now.history, c.requires)
