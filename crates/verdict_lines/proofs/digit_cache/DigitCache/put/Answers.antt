use Rattle.std.proofs.Common.{rules, ◌≡◌, ◌+◌, ◌/◌, ◌≤◌, ◌++◌, length, take, refl, ap, arith, append_assoc, ◌∙◌}
use Rattle.std.specs.Prelude.{◌==◌, decimal, false}
use Rattle.std.proofs.lemmas.Bool.Decides.{nat_tests}
use Rattle.itoa.proofs.Decimal.{decimal_pair}
use Rattle.verdict_lines.specs.Counted.{leading}
use Rattle.verdict_lines.proofs.Digits.{part_put}
use Rattle.verdict_lines.proofs.digit_cache.DigitCache.put.Goals.{then-above-self, else-above-self}
use Rattle.verdict_lines.proofs.digit_cache.DigitCache.put.Goals as goal

pub returns-clause-put : goal.returns-clause-put
returns-clause-put c =
    let out = c.put_bytes.new.out in
    let count = c.self-2.inside.length in
    let same : c.self-2.inside.above ≡ c.args.number / 100 = elim c.if-above-self.branch [
      | then-above-self w ↦ (search rules)
      | else-above-self w ↦ (search rules)
    ] in
    let within : count ≤ length c.self-2.inside.digits = search rules in
    let end : c.args.at + length c.self-2.inside.digits ≡ c.put_bytes.result = search rules in
    let part = part_put out c.args.out.now c.self-2.inside.digits c.args.at count (omega (arith, c.requires.room)) within (ap (λ n. take n out) end ∙ c.put_bytes.ensures.put) in
    let many : 100 ≤ c.args.number = omega (arith, c.if-above-eq0.false) in
    let some : (c.args.number / 100 == 0) ≡ false = grind (arith, nat_tests, many) in
    let digits : leading (c.args.number / 100) ≡ decimal (c.args.number / 100) = rw some refl in
    let head : take (c.args.at + count) out ≡ take c.args.at c.args.out.now ++ decimal (c.args.number / 100) =
    part ∙ ap (λ d. take c.args.at c.args.out.now ++ d) (c.self-2.invariant.0 ∙ ap leading same ∙ digits) in
    rw (c.put_pair.ensures.put, head, decimal_pair c.args.number many (search rules), append_assoc) refl
