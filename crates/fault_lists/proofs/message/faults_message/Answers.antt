use Rattle.fault_lists.proofs.Messages.{all_told}
use Rattle.fault_lists.proofs.message.faults_message.Goals as goal

pub returns : goal.returns
returns c =
    all_told c.args.is_painted c.args.file.now c.args.meant c.args.text.now c.args.first c.as_slice.result.now c.in_ok-others.others.faults.items
    c.in_ok-others.others.is_more c.in_ok-told.told.items _ c.in_ok-push_others.ensures.0 c.in_ok-others.ensures c.as_slice.ensures.value
    c.in_ok-told.ensures c.in_ok-push_others.ensures.1 c.in_ok-push_others.ensures.2
