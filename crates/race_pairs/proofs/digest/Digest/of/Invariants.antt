use Rattle.std.proofs.Common.{◌≡◌, false, take}
use Rattle.race_pairs.specs.Digests.{IsDigest, is_of_own_lines, most_of}
use Rattle.race_pairs.proofs.digest.Digest.of.Given as goal

-- those so far are added
abbrev pub invariant-loop-entry : goal.invariant-loop-entry
invariant-loop-entry l = record {
  digested : IsDigest (take l.entry-index l.entries) l.digest;
  shared : is_of_own_lines l.digest ≡ false;
  most_is : most_of l.digest ≡ l.most;
}
