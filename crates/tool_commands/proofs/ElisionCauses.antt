-- What each step of writing an elision says of the whole.
use Rattle.std.proofs.Common.{ℕ, List, Option}
use Rattle.program_text.specs.Drafts.{Contents}
use Rattle.program_text.specs.Grammar.{TextMeans}
use Rattle.command_streams.specs.declared.fault.CliFault.{CliFault}
use Rattle.command_streams.specs.declared.fault.CliFault.TheVariants.{Write, Limit, Memory}
use Rattle.command_streams.specs.Streams.{IsRead, StopsWriting}
use Rattle.tool_commands.specs.Elided.{ElidesText, StopsElision, HasElisionCause}

-- the elision is not had
pub stopping_cause : (before behind wrote writes : Option (List ℕ)) (limit : ℕ) (text : List ℕ) (contents : Contents) (fault : CliFault) →
    IsRead before behind text → TextMeans text contents → StopsElision contents limit fault →
    HasElisionCause before behind wrote writes limit fault
stopping_cause before behind wrote writes limit text contents Limit read means stops = record {
  text = text;
  read = read;
  contents = contents;
  means = means;
  more = stops;
}
stopping_cause before behind wrote writes limit text contents Memory read means stops = tt
stopping_cause before behind wrote writes limit text contents fault read means stops = absurd stops

-- only a part of its lines could be written
pub cutting_cause : (before behind wrote writes : Option (List ℕ)) (limit : ℕ) (text lines : List ℕ) (fault : CliFault) →
    IsRead before behind text → ElidesText text limit lines → StopsWriting wrote writes lines fault →
    HasElisionCause before behind wrote writes limit fault
cutting_cause before behind wrote writes limit text lines Write read elides stops = record {
  text = text;
  lines = lines;
  part = stops.0;
  rest = stops.1;
  read = read;
  elides = elides;
  written = stops.2;
  prefix = stops.3;
}
cutting_cause before behind wrote writes limit text lines fault read elides stops = absurd stops
