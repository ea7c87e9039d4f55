use Rattle.std.proofs.Common.{rules, ◌+◌, ◌≡◌, ◌≤◌, length, take, ap, arith, ◌∙◌}
use Rattle.verdict_lines.proofs.Digits.{part_put}
use Rattle.verdict_lines.proofs.verdict.put_head.Goals as goal

pub returns-clause-put : goal.returns-clause-put
returns-clause-put g c =
    let out = c.put_bytes.new.out in
    let within : c.args.count ≤ length c.args.bytes.now = search rules in
    let end : c.args.at + length c.args.bytes.now ≡ c.put_bytes.result = search rules in
    part_put out c.args.out.now c.args.bytes.now c.args.at c.args.count (omega (arith, c.requires.room)) within (ap (λ n. take n out) end ∙ c.put_bytes.ensures.put)
