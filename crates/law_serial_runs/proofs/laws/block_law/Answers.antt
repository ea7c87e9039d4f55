use Rattle.law_serial_runs.proofs.Blocks.{spawn_law, blocks_law}
use Rattle.law_serial_runs.proofs.Frames.{frames_law}
use Rattle.law_serial_runs.proofs.laws.block_law.Goals as goal

pub returns : goal.returns
returns c = record { spawn = spawn_law; blocks = blocks_law; frames = frames_law }
