use Rattle.std.proofs.Common.{◌≡◌, false, take}
use Rattle.race_pairs.specs.Digests.{IsDigest, is_of_own_lines, most_of}
use Rattle.tool_commands.proofs.judged.digest_of_run.Given as goal

-- those so far are added
abbrev pub invariant-loop-at : goal.invariant-loop-at
invariant-loop-at l = record {
  digested : IsDigest (take l.at l.entries.items) l.digest;
  shared : is_of_own_lines l.digest ≡ false;
  kept : most_of l.digest ≡ l.most;
}
