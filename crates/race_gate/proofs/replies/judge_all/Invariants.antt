use Rattle.std.proofs.Common.{◌≡◌, length, take, vec_len, vec_capacity}
use Rattle.model_races.specs.Memory.{IsMemory}
use Rattle.model_races.specs.Judged.{IsJudged}
use Rattle.model_histories.specs.Replies.{JudgesAll}
use Rattle.race_gate.proofs.replies.judge_all.Given as goal

abbrev pub invariant-loop-request : goal.invariant-loop-request
invariant-loop-request g l = record {
  replied : JudgesAll l.initial.gate (take l.request-index l.requests) l.replies.items l.gate;
  count : vec_len l.replies ≡ l.request-index;
  room : vec_capacity l.replies ≡ length l.requests;
  judged : IsJudged l.gate.shape l.gate.history;
  values : IsMemory l.gate.shape.cells l.gate.history l.gate.memory;
}
