-- A text that is read in pieces, of which the first bytes were taken.
use Rattle.std.proofs.Common.{◌≡◌, ◌≤◌, ℕ, ◌+◌, List, [], ◌++◌, Option, Bool, take, drop, length, refl, ap, sym, subst, ◌∙◌, append-nil, append_assoc, length-append, length-take, arith}
use Rattle.std.specs.Prelude.{true, false, Result, Ok, Err, IfOk, IfErr}
use Rattle.std.proofs.lemmas.List.{take-append-drop}
use Rattle.std.specs.Io.KnownBytes.{Consumes, IsAtEnd}
use Rattle.text_words.specs.declared.fault.TextFault.{TextFault}
use Rattle.text_words.specs.Values.{Contents}
use Rattle.trace_text.specs.declared.pieces.BegunTrace.{BegunTrace}
use Rattle.trace_text.specs.declared.trace.Trace.{Trace}
use Rattle.trace_text.specs.Drafts.{IsTextFault}
use Rattle.trace_text.specs.Grammar.{TextMeans}
use Rattle.trace_text.specs.Pieces.{IsBegun}
use Rattle.trace_text.specs.Traces.{contents}
use Rattle.command_streams.specs.declared.fault.CliFault.{CliFault}
use Rattle.command_streams.specs.Faults.{fault_of_text}
use Rattle.command_streams.specs.Streams.{most_bytes, IsRead, IsMeant, IsMeantBehind, IsFaultOf, buffered, TakesPieces, StopsPiece, StopsTrace, StopsBehind}
use Rattle.command_streams.proofs.Bytes.{consumes-none, consumes-more, stops_reading, stops_trace, fault_told, fault_given}

-- Behind the first bytes more was read. So many bytes of all were taken, and the others wait.
pub record IsReadOn {A : Type 0} (first : List ℕ) (before now : Option (List ℕ)) (count : ℕ) (begun : BegunTrace A) (waiting : List ℕ) : Type 0 where
  pub bytes : List ℕ
  pub more : List ℕ
  pub counted : length bytes ≡ count
  pub begun_with : IsBegun bytes begun
  pub taken : Consumes before now more
  pub whole : bytes ++ waiting ≡ first ++ more

module _ {A : Type 0} (first : List ℕ) (before : Option (List ℕ)) where
  -- the first bytes of the head were taken, and the others wait
  pub on_first : (waiting : List ℕ) (end : ℕ) (begun : BegunTrace A) → end ≤ length first → IsBegun (take end first) begun → waiting ≡ drop end first
      → IsReadOn first before before end begun waiting
  on_first waiting end begun within is rest = record {
    bytes = take end first;
    more = [];
    counted = omega (arith, within, length-take end first);
    begun_with = is;
    taken = consumes-none before;
    whole = ap (λ (bytes : List ℕ). take end first ++ bytes) rest ∙ take-append-drop end first ∙ sym (append-nil first);
  }

  -- more was read
  pub on_read : (now next : Option (List ℕ)) (count size : ℕ) (begun : BegunTrace A) (waiting new : List ℕ) (more : Bool)
      → TakesPieces count size (buffered now waiting) (buffered next new) more → IsReadOn first before now count begun waiting → IsReadOn first before next count begun new
  on_read now next count size begun waiting new more pieces on = record {
    bytes = on.bytes;
    more = on.more ++ pieces.pieces;
    counted = on.counted;
    begun_with = on.begun_with;
    taken = consumes-more before now next on.more pieces.pieces on.taken pieces.taken;
    whole =
        ap (λ (bytes : List ℕ). on.bytes ++ bytes) pieces.added
        ∙ sym (append_assoc on.bytes waiting pieces.pieces)
        ∙ ap (λ (bytes : List ℕ). bytes ++ pieces.pieces) on.whole
        ∙ append_assoc first on.more pieces.pieces;
  }

  module _ (now : Option (List ℕ)) (count : ℕ) (begun : BegunTrace A) (waiting : List ℕ) (on : IsReadOn first before now count begun waiting) where
    -- more was taken
    pub on_taken : (taken : ℕ) (left : List ℕ) (next : BegunTrace A) → taken ≤ length waiting → left ≡ drop taken waiting → IsBegun (on.bytes ++ take taken waiting) next
        → IsReadOn first before now (count + taken) next left
    on_taken taken left next within rest is = record {
      bytes = on.bytes ++ take taken waiting;
      more = on.more;
      counted = omega (arith, on.counted, within, length-append on.bytes (take taken waiting), length-take taken waiting);
      begun_with = is;
      taken = on.taken;
      whole =
          ap (λ (bytes : List ℕ). (on.bytes ++ take taken waiting) ++ bytes) rest
          ∙ append_assoc on.bytes (take taken waiting) (drop taken waiting)
          ∙ ap (λ (bytes : List ℕ). on.bytes ++ bytes) (take-append-drop taken waiting)
          ∙ on.whole;
    }

    -- what was read behind the first bytes was read behind what they were read behind
    read_whole : (start : Option (List ℕ)) → Consumes start before first → Consumes start now (on.bytes ++ waiting)
    read_whole start taken = subst (λ (bytes : List ℕ). Consumes start now bytes) (sym on.whole) (consumes-more start before now first on.more taken on.taken)

    all_read : (start : Option (List ℕ)) → count + length waiting ≤ most_bytes → IsAtEnd now → Consumes start before first → IsRead start now (on.bytes ++ waiting)
    all_read start short end taken = record {
      taken = read_whole start taken;
      end = end;
      short = omega (arith, short, on.counted, length-append on.bytes waiting);
    }

    -- all was read, and means this or has this fault
    pub on_end : (contents : Contents) → count + length waiting ≤ most_bytes → IsAtEnd now → TextMeans (on.bytes ++ waiting) contents → IsMeantBehind first before now contents
    on_end contents short end means start taken = record { text = on.bytes ++ waiting; read = all_read start short end taken; means = means }

    pub on_fault : (fault : TextFault) → count + length waiting ≤ most_bytes → IsAtEnd now → IsTextFault (on.bytes ++ waiting) fault → StopsBehind first before now (fault_of_text fault)
    on_fault fault short end faulty start taken =
        fault_told start now (on.bytes ++ waiting) (fault_of_text fault) (all_read start short end taken) (fault_given (on.bytes ++ waiting) fault faulty)

    -- no more was read
    pub on_stop : (next : Option (List ℕ)) (fault : CliFault) → StopsPiece now next count waiting fault → StopsBehind first before next fault
    on_stop next fault stops start taken =
        stops_trace start next fault (stops_reading start now next on.bytes waiting count fault on.counted (read_whole start taken) stops)

    -- a fault was kept
    pub on_away : (next : Option (List ℕ)) (kept : TextFault) (fault : CliFault) → ((rest : List ℕ) → IsTextFault (on.bytes ++ (waiting ++ rest)) kept)
        → ((bytes : List ℕ) → length bytes ≡ count + length waiting → ((rest : List ℕ) → IsTextFault (bytes ++ rest) kept) → StopsBehind bytes now next fault)
        → StopsBehind first before next fault
    on_away next kept fault faulty away start taken =
        away (on.bytes ++ waiting) (omega (arith, on.counted, length-append on.bytes waiting))
        (λ rest. subst (λ (bytes : List ℕ). IsTextFault bytes kept) (sym (append_assoc on.bytes waiting rest)) (faulty rest)) start (read_whole start taken)

-- ---- the head

-- what was read of a text from its first byte on
pub head_read : (before behind : Option (List ℕ)) (done size : ℕ) (old new : List ℕ) (more : Bool) →
    TakesPieces done size (buffered before old) (buffered behind new) more → old ≡ [] → Consumes before behind new
head_read before behind done size old new more pieces none =
    subst (λ (bytes : List ℕ). Consumes before behind bytes) (sym (pieces.added ∙ ap (λ (bytes : List ℕ). bytes ++ pieces.pieces) none)) pieces.taken

pub head_whole : (before behind : Option (List ℕ)) (size : ℕ) (old new : List ℕ) (more : Bool) →
    TakesPieces 0 size (buffered before old) (buffered behind new) more → old ≡ [] → more ≡ false → IsRead before behind new
head_whole before behind size old new more pieces none is = record {
  taken = head_read before behind 0 size old new more pieces none;
  end = pieces.end is;
  short = omega (arith, pieces.short);
}

-- a text that goes on behind its head, read as a whole
pub rest_whole : (before between behind : Option (List ℕ)) (old new : List ℕ) (more : Bool) → Consumes before between old →
    TakesPieces 0 (most_bytes + 1) (buffered between old) (buffered behind new) more
    → IsRead before behind new
rest_whole before between behind old new true taken pieces = absurd (omega (arith, pieces.short, pieces.reached refl))
rest_whole before between behind old new false taken pieces = record {
  taken = subst (λ (bytes : List ℕ). Consumes before behind bytes) (sym pieces.added) (consumes-more before between behind old pieces.pieces taken pieces.taken);
  end = pieces.end refl;
  short = omega (arith, pieces.short);
}

pub rest_stops : (before between behind : Option (List ℕ)) (old : List ℕ) (fault : CliFault) → Consumes before between old → StopsPiece between behind 0 old fault → StopsTrace before behind fault
rest_stops before between behind old fault taken stops = stops_trace before behind fault (stops_reading before between behind [] old 0 fault refl taken stops)

module _ {A : Type 0} (before between behind : Option (List ℕ)) where
  -- a text that stands as a whole
  pub parsed : (text : List ℕ) (result : Result (Trace A) CliFault) → IsRead before behind text → IfOk result (λ trace. TextMeans text (contents trace))
      → IfOk result (λ trace. IsMeant before behind (contents trace))
  parsed text (Ok trace) read means = record { text = text; read = read; means = means }
  parsed text (Err fault) read means = tt

  pub not_parsed : (text : List ℕ) (result : Result (Trace A) CliFault) → IsRead before behind text → IfErr result (IsFaultOf text) → IfErr result (StopsTrace before behind)
  not_parsed text (Ok trace) read faulty = tt
  not_parsed text (Err fault) read faulty = fault_told before behind text fault read faulty
