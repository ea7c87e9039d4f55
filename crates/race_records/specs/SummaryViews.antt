-- A summary as its parts.
use Rattle.race_records.specs.declared.document.Summary.{Summary}
use Rattle.race_records.specs.Documents.{SummaryParts}

abbrev pub summary_parts : Summary → SummaryParts
summary_parts summary = record {
  outcome = summary.outcome;
  pairs = summary.pairs;
  refusals = summary.refusals;
  requests = summary.requests;
  traces = summary.traces;
}
