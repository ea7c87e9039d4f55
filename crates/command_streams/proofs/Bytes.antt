-- Bytes that are read or written in pieces, and calls that are counted.
use Rattle.std.proofs.Common.{◌≡◌, ◌≤◌, ◌<◌, ℕ, zero, suc, ◌+◌, ◌-◌, ◌^◌, min, List, [], ◌++◌, Option, Some, None, take, drop, length, refl, ap, sym, subst, ◌∙◌, append-nil, append_assoc, length-append, arith}
use Rattle.std.specs.Prelude.{Bool, true, false, ◌==◌, ◌&&◌, ◌||◌, not}
use Rattle.std.proofs.lemmas.List.{take-append-drop}
use Rattle.std.proofs.lemmas.Bool.{ne_eqb}
use Rattle.std.specs.Io.KnownBytes.{Consumes, Appends, Keeps}
use Rattle.text_words.specs.declared.fault.TextFault.{TextFault}
use Rattle.text_words.specs.declared.fault.TextFault.TheVariants.{At, Memory as TextMemory}
use Rattle.trace_text.specs.Drafts.{IsTextFault}
use Rattle.command_streams.specs.declared.fault.CliFault.{CliFault}
use Rattle.command_streams.specs.declared.fault.CliFault.TheVariants.{Read, TooLong, Memory, Trace}
use Rattle.command_streams.specs.Faults.{fault_of_text}
use Rattle.command_streams.specs.Watched.{one_more, count_after, IsCalledAtMost}
use Rattle.command_streams.specs.Streams.{most_bytes, most_reads, IsRead, IsFaultOf, buffered, TakesPiece, TakesPieces, StopsPiece, StopsReading, StopsTrace}

-- nothing was read
pub consumes-none : (known : Option (List ℕ)) → Consumes known known []
consumes-none None = tt
consumes-none (Some bytes) = refl

-- one piece after another
pub consumes-more : (first between last : Option (List ℕ)) (bytes more : List ℕ) → Consumes first between bytes → Consumes between last more → Consumes first last (bytes ++ more)
consumes-more None between last bytes more taken more_taken = tt
consumes-more (Some xs) None last bytes more taken more_taken = absurd taken
consumes-more (Some xs) (Some ys) None bytes more taken more_taken = absurd more_taken
consumes-more (Some xs) (Some ys) (Some zs) bytes more taken more_taken = taken ∙ ap (λ rest. bytes ++ rest) more_taken ∙ sym (append_assoc bytes more zs)

-- nothing was written
pub appends-none : (known : Option (List ℕ)) → Appends known known []
appends-none None = tt
appends-none (Some bytes) = sym (append-nil bytes)

-- nothing more was written
pub appends-kept : (first between last : Option (List ℕ)) (bytes : List ℕ) → Appends first between bytes → Keeps between last → Appends first last bytes
appends-kept None between last bytes written kept = tt
appends-kept (Some xs) None last bytes written kept = absurd written
appends-kept (Some xs) (Some ys) None bytes written kept = absurd kept
appends-kept (Some xs) (Some ys) (Some zs) bytes written kept = kept ∙ written

-- one piece after another
pub appends-more : (first between last : Option (List ℕ)) (bytes more : List ℕ) → Appends first between bytes → Appends between last more → Appends first last (bytes ++ more)
appends-more None between last bytes more written more_taken = tt
appends-more (Some xs) None last bytes more written more_taken = absurd written
appends-more (Some xs) (Some ys) None bytes more written more_taken = absurd more_taken
appends-more (Some xs) (Some ys) (Some zs) bytes more written more_taken = more_taken ∙ ap (λ front. front ++ more) written ∙ append_assoc xs bytes more

-- what is left behind a part
pub rest-left : (part rest left text : List ℕ) (count : ℕ) → part ++ rest ≡ text → left ≡ drop count rest → (part ++ take count rest) ++ left ≡ text
rest-left part rest left text count whole is =
    append_assoc part (take count rest) left ∙ ap (λ (more : List ℕ). part ++ (take count rest ++ more)) is ∙ ap (λ (more : List ℕ). part ++ more) (take-append-drop count rest) ∙ whole

-- a write that took something has not failed
pub write-fresh : (failed now : Bool) (count bytes : ℕ) → 0 < count → failed ≡ false → now ≡ (failed || ((count == 0) && not (bytes == 0))) → now ≡ false
write-fresh failed now count bytes some fresh is =
    is ∙ ap (λ (b : Bool). b || ((count == 0) && not (bytes == 0))) fresh ∙ ap (λ (b : Bool). b && not (bytes == 0)) (ne_eqb count 0 (λ none. omega arith))

-- a count stands at its end
count_is : (count calls : ℕ) → count < 2 ^ 64 → count_after count calls ≡ min (count + calls) (2 ^ 64 - 1)
count_is count zero below = omega arith
count_is count (suc calls) below = let before = count_is count calls below in omega arith

-- it was called so often
pub called : (most before after calls : ℕ) → calls ≤ most → after ≡ count_after before calls → IsCalledAtMost most before after
called most before after calls few count = record {
  calls = calls;
  few = few;
  count = count;
  exact = λ room other is.
      let below : before < 2 ^ 64 = omega arith in
      let here = count_is before calls below in
      let there = count_is before other below in omega arith;
}

-- it was not called
pub uncalled : (most count : ℕ) → IsCalledAtMost most count count
uncalled most count = called most count count 0 (omega arith) refl

-- so many more calls
count_both : (before calls more : ℕ) → count_after before (calls + more) ≡ count_after (count_after before calls) more
count_both before calls zero = ap (count_after before) (omega arith)
count_both before calls (suc more) =
    let next : calls + suc more ≡ suc (calls + more) = omega arith in
    ap (count_after before) next ∙ ap one_more (count_both before calls more)

pub called_both : (most few more before between after : ℕ) → few + more ≤ most → IsCalledAtMost few before between → IsCalledAtMost more between after → IsCalledAtMost most before after
called_both most few more before between after all one other =
    called most before after (one.calls + other.calls) (omega (arith, one.few, other.few))
    (other.count ∙ ap (λ (n : ℕ). count_after n other.calls) one.count ∙ sym (count_both before one.calls other.calls))

pub called_once : (before after : ℕ) → after ≡ one_more before → IsCalledAtMost 1 before after
called_once before after is = called 1 before after 1 (omega arith) is

pub called_within : (most few before after : ℕ) → few ≤ most → IsCalledAtMost few before after → IsCalledAtMost most before after
called_within most few before after all one = called most before after one.calls (omega (arith, one.few)) one.count

-- ---- pieces

module _ (first between last : Option (List ℕ)) (done : ℕ) (old now : List ℕ) where
  -- pieces and one more
  pub pieces_more : (size : ℕ) (new : List ℕ) (more : Bool) → TakesPieces done 0 (buffered first old) (buffered between now) true
      → TakesPiece done (buffered between now) (buffered last new) more → (more ≡ true → size ≤ length new) → TakesPieces done size (buffered first old) (buffered last new) more
  pieces_more size new more taken piece reached = record {
    pieces = taken.pieces ++ piece.piece;
    taken = consumes-more first between last taken.pieces piece.piece taken.taken piece.taken;
    added = piece.added ∙ ap (λ (bytes : List ℕ). bytes ++ piece.piece) taken.added ∙ append_assoc old taken.pieces piece.piece;
    short = piece.short;
    reached = reached;
    end = piece.end;
  }

  pub pieces_on : (new : List ℕ) (more : Bool) → TakesPieces done 0 (buffered first old) (buffered between now) true
      → TakesPiece done (buffered between now) (buffered last new) more → more ≡ true → TakesPieces done 0 (buffered first old) (buffered last new) true
  pieces_on new more taken piece is =
      subst (λ (b : Bool). TakesPieces done 0 (buffered first old) (buffered last new) b) is (pieces_more 0 new more taken piece (λ _. omega arith))

  -- and each piece has a byte
  pub pieces_called : (new : List ℕ) (more : Bool) (before called calls : ℕ) → TakesPieces done 0 (buffered first old) (buffered between now) true
      → TakesPiece done (buffered between now) (buffered last new) more → more ≡ true → IsCalledAtMost (length now - length old) before called → calls ≡ one_more called → IsCalledAtMost (length new - length old) before calls
  pieces_called new more before called calls taken piece is few one =
      let some = piece.some is in
      let long = ap length taken.added ∙ length-append old taken.pieces in
      let longer = ap length piece.added ∙ length-append now piece.piece in
      called_both _ _ 1 before called calls (omega (arith, some, long, longer)) few (called_once called calls one)

  -- so a reader is asked no more often than it may be
  pub piece_called : (before called calls : ℕ) → TakesPieces done 0 (buffered first old) (buffered between now) true
      → IsCalledAtMost (length now - length old) before called → calls ≡ one_more called → IsCalledAtMost (most_reads - (done + length old)) before calls
  piece_called before called calls taken few one =
      let long = ap length taken.added ∙ length-append old taken.pieces in
      called_both _ _ 1 before called calls (omega (arith, long, taken.short)) few (called_once called calls one)

  -- why one more piece is not added
  pub pieces_stop : (fault : CliFault) → TakesPieces done 0 (buffered first old) (buffered between now) true
      → StopsPiece between last done now fault → StopsPiece first last done old fault
  pieces_stop Read taken stops = tt
  pieces_stop Memory taken stops = tt
  pieces_stop TooLong taken stops = (
    taken.pieces ++ stops.0,
    consumes-more first between last taken.pieces stops.0 taken.taken stops.1,
    (let whole : now ++ stops.0 ≡ old ++ (taken.pieces ++ stops.0) =
        ap (λ (bytes : List ℕ). bytes ++ stops.0) taken.added ∙ append_assoc old taken.pieces stops.0 in
        subst (λ (bytes : List ℕ). most_bytes < done + length bytes) whole stops.2),
  )
  pieces_stop fault taken stops = absurd stops

-- no piece was read
pub pieces_none : (known : Option (List ℕ)) (done : ℕ) (text : List ℕ) → done + length text ≤ most_bytes →
    TakesPieces done 0 (buffered known text) (buffered known text) true
pieces_none known done text short = record {
  pieces = [];
  taken = consumes-none known;
  added = sym (append-nil text);
  short = short;
  reached = λ _. omega arith;
  end = λ e. cc;
}

-- so many bytes were read
pub pieces_reached : (first last : Option (List ℕ)) (done size : ℕ) (old new : List ℕ) → size ≤ length new →
    TakesPieces done 0 (buffered first old) (buffered last new) true → TakesPieces done size (buffered first old) (buffered last new) true
pieces_reached first last done size old new long taken =
    record { pieces = taken.pieces; taken = taken.taken; added = taken.added; short = taken.short; reached = λ _. long; end = λ e. cc }

-- all was read
pub pieces_all : (first last : Option (List ℕ)) (old new : List ℕ) (more : Bool) →
    TakesPieces 0 (most_bytes + 1) (buffered first old) (buffered last new) more → old ≡ [] → IsRead first last new
pieces_all first last old new true taken none = absurd (omega (arith, taken.short, taken.reached refl))
pieces_all first last old new false taken none = record {
  taken = subst (λ (bytes : List ℕ). Consumes first last bytes) (sym (taken.added ∙ ap (λ (bytes : List ℕ). bytes ++ taken.pieces) none)) taken.taken;
  end = taken.end refl;
  short = omega (arith, taken.short);
}

-- why reading on stops is why reading stops
pub stops_reading : (first between last : Option (List ℕ)) (bytes text : List ℕ) (done : ℕ) (fault : CliFault) → length bytes ≡ done → Consumes first between (bytes ++ text)
    → StopsPiece between last done text fault → StopsReading first last fault
stops_reading first between last bytes text done Read counted taken stops = tt
stops_reading first between last bytes text done Memory counted taken stops = tt
stops_reading first between last bytes text done TooLong counted taken stops = record {
  text = (bytes ++ text) ++ stops.0;
  taken = consumes-more first between last (bytes ++ text) stops.0 taken stops.1;
  long = omega (arith, stops.2, counted, length-append (bytes ++ text) stops.0, length-append bytes text, length-append text stops.0);
}
stops_reading first between last bytes text done fault counted taken stops = absurd stops

pub stops_first : (before behind : Option (List ℕ)) (text : List ℕ) (fault : CliFault) → text ≡ [] → StopsPiece before behind 0 text fault → StopsReading before behind fault
stops_first before behind text fault none stops =
    stops_reading before before behind [] text 0 fault refl (subst (λ (bytes : List ℕ). Consumes before before bytes) (sym none) (consumes-none before)) stops

pub stops_trace : (before behind : Option (List ℕ)) (fault : CliFault) → StopsReading before behind fault → StopsTrace before behind fault
stops_trace before behind Read stops = tt
stops_trace before behind TooLong stops = stops
stops_trace before behind Memory stops = tt
stops_trace before behind fault stops = absurd stops

-- the fault of a text of which all was read
pub fault_told : (before behind : Option (List ℕ)) (text : List ℕ) (fault : CliFault) → IsRead before behind text → IsFaultOf text fault → StopsTrace before behind fault
fault_told before behind text (Trace (At line why)) read faulty = record { text = text; read = read; faulty = faulty }
fault_told before behind text Memory read faulty = tt
fault_told before behind text fault read faulty = absurd faulty

pub fault_given : (text : List ℕ) (fault : TextFault) → IsTextFault text fault → IsFaultOf text (fault_of_text fault)
fault_given text (At line why) f = f
fault_given text TextMemory f = tt

-- a fault of a text is no failure of its reader
pub given_no_read : (fault : TextFault) → fault_of_text fault ≡ Read → ⊥
given_no_read (At line why) e = cc
given_no_read TextMemory e = cc
