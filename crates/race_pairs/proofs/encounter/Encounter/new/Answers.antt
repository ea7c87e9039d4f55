use Rattle.std.proofs.Common.{◌≡◌, map, ap, ◌∙◌}
use Rattle.race_pairs.specs.Encounters.{chain_at, link_at}
use Rattle.race_pairs.proofs.Encountered.{met}
use Rattle.race_pairs.proofs.SyncPlaces.{orders_onward}
use Rattle.race_pairs.proofs.encounter.Encounter.new.Goals as goal

pub returns : goal.returns
returns c = λ told is.
    let chain : c.in_ok-chain.chain.items ≡ chain_at told c.args.race.now.pair.first = c.in_ok-chain.ensures told is.0 is.1.refused in
    let witness_chain : c.in_ok-witness_chain.witness_chain.items ≡ chain_at told c.args.race.now.pair.witness =
    c.in_ok-witness_chain.ensures told is.0 is.1.witness in
    let parting = c.parting_of-parting.ensures told is in
    let onward = c.onward_of-onward.ensures told (met told c.args.digest.now c.args.race.now c.parting_of-parting.result c.deref.result.now c.deref-2.result.now is parting
    (c.deref.ensures.value ∙ chain) (c.deref-2.ensures.value ∙ witness_chain)) in
    record {
      refused = is.1.refused;
      witness = is.1.witness;
      chain = c.in_ok-links_at.ensures told (is.0.lineage, is.0.legal) ∙ ap (map (link_at told)) (c.deref-3.ensures.value ∙ chain);
      witness_chain = c.in_ok-links_at-2.ensures told (is.0.lineage, is.0.legal) ∙ ap (map (link_at told)) (c.deref-4.ensures.value ∙ witness_chain);
      parting = parting;
      onward = onward;
      orders = orders_onward told is.0.legal c.args.race.now.pair c.parting_of-parting.result c.onward_of-onward.result parting onward;
      outstanding = c.outstanding_of-outstanding.ensures told is;
    }
