use Rattle.std.proofs.lemmas.Result.{on_ok_weaker}
use Rattle.race_report.proofs.RefusalValues.{witness_sent}
use Rattle.race_report.proofs.refusal.RefusalSerialize.serialize.Goals as goal

pub returns : goal.returns
returns g c =
    let entry = c.in_ok-send_member.ensures in
    let line = c.in_ok-send_member-2.ensures in
    let name = c.in_ok-send_member-3.ensures in
    let rule = c.in_ok-send_member-4.ensures in
    let strand = c.in_ok-send_member-5.ensures in
    let witness = c.in_ok-send_member-6.ensures in
    let told = witness_sent c.args.self.now.witness _ _ witness.2 in
    on_ok_weaker c.end_map.result (λ ended. (
      _,
      c.in_ok-begin_map.ensures,
      (
        entry.0,
        _,
        entry.1,
        entry.2,
        (line.0, _, line.1, line.2, (name.0, _, name.1, name.2, (rule.0, _, rule.1, rule.2, (strand.0, _, strand.1, strand.2, (witness.0, _, witness.1, told, ended))))),
      ),
    )) c.end_map.ensures
