use Rattle.sarif_logs.proofs.Listing.{items_found}
use Rattle.sarif_logs.proofs.reading.items_at.Goals as goal

pub returns-in-Some : goal.returns-in-Some
returns-in-Some c = items_found c.list_at.result c.in-Some.items c.as_slice.result.now _ c.in-Some.is c.list_at.ensures c.as_slice.ensures.value
