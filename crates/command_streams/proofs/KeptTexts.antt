-- Plain lines of requests, read behind the head of a text.
use Rattle.std.proofs.Common.{◌≡◌, ◌≤◌, ℕ, ◌+◌, ◌-◌, List, [], ◌++◌, Option, Bool, true, false, drop, take, length, refl, ap, sym, ◌∙◌, subst, append-nil, append_assoc, length-append, length-take, arith}
use Rattle.std.proofs.Math.Seq.{drop-append_seam}
use Rattle.std.proofs.lemmas.List.{take-append-drop}
use Rattle.std.specs.Io.KnownBytes.{Consumes}
use Rattle.text_words.specs.declared.value.TraceLine.{TraceLine}
use Rattle.text_words.specs.Values.{Known, Contents}
use Rattle.trace_text.specs.declared.pieces.BegunTrace.{BegunTrace}
use Rattle.trace_text.specs.Drafts.{so_far}
use Rattle.trace_text.specs.Grammar.{TextMeans}
use Rattle.trace_text.specs.Pieces.{IsBegun, TakesPlain, TakesFront}
use Rattle.trace_text.specs.Printing.{requests_text}
use Rattle.trace_text.specs.Traces.{contents}
use Rattle.trace_text.proofs.PlainPieces.{takes_both}
use Rattle.command_streams.specs.declared.fault.CliFault.{CliFault}
use Rattle.command_streams.specs.declared.kept.Tail.{Tail}
use Rattle.command_streams.specs.Watched.{IsCalledAtMost}
use Rattle.command_streams.specs.Streams.{most_reads, buffered, TakesPieces, StopsPiece}
use Rattle.command_streams.specs.PlainTexts.{rejoined, IsPlainText, Progress, progress, ReadsRequests, IsReadFrom, StopsReadingFrom, StopsPlain}
use Rattle.command_streams.specs.KeptTexts.{restored, HasReadRequests, IsReadBehind}
use Rattle.command_streams.proofs.Bytes.{consumes-none, consumes-more, stops_reading, called_both, called_within}

-- ---- plain lines, one piece after another

-- nothing was read yet
pub plain_first : {A : Type 0} (old : Progress A) → ReadsRequests old old
plain_first old = record {
  front = [];
  takes = record {
    begun = λ done begun. subst (λ (bytes : List ℕ). IsBegun bytes old.begun) (sym (append-nil done)) begun;
    known = refl;
    requests = [];
    added = sym (append-nil old.begun.draft.lines);
    plain = refl;
  };
  counted = omega arith;
  more = [];
  taken = consumes-none old.left;
  whole = append-nil old.waiting;
}

module _ {A : Type 0} (old now : Progress A) (on : ReadsRequests old now) where
  -- more was read
  pub plain_read : (next : Option (List ℕ)) (size : ℕ) (new : List ℕ) (more : Bool)
      → TakesPieces now.done size (buffered now.left now.waiting) (buffered next new) more → ReadsRequests old (record now { waiting = new; left = next })
  plain_read next size new more pieces = record {
    front = on.front;
    takes = on.takes;
    counted = on.counted;
    more = on.more ++ pieces.pieces;
    taken = consumes-more old.left now.left next on.more pieces.pieces on.taken pieces.taken;
    whole = sym (append_assoc old.waiting on.more pieces.pieces)
        ∙ ap (λ (bytes : List ℕ). bytes ++ pieces.pieces) on.whole
        ∙ append_assoc on.front now.waiting pieces.pieces
        ∙ ap (λ (bytes : List ℕ). on.front ++ bytes) (sym pieces.added);
  }

  -- more was taken
  pub plain_taken : (taken : ℕ) (new : BegunTrace A) (left : List ℕ) → TakesFront now.begun now.waiting left new → length left + taken ≡ length now.waiting
      → ReadsRequests old (record now { begun = new; done = now.done + taken; waiting = left })
  plain_taken taken new left takes counted = record {
    front = on.front ++ takes.front;
    takes = takes_both old.begun now.begun new on.front takes.front on.takes takes.takes;
    counted = omega (arith, on.counted, counted, ap length takes.split, length-append takes.front left, length-append on.front takes.front);
    more = on.more;
    taken = on.taken;
    whole = on.whole ∙ ap (λ (bytes : List ℕ). on.front ++ bytes) takes.split ∙ sym (append_assoc on.front takes.front left);
  }

  -- no more was read
  pub plain_stop : (next : Option (List ℕ)) (fault : CliFault) → StopsPiece now.left next now.done now.waiting fault
      → StopsPlain old.done old.waiting old.left next fault
  plain_stop next fault stops bytes counted first taken =
      stops_reading first now.left next (bytes ++ on.front) now.waiting now.done fault
      (omega (arith, counted, on.counted, length-append bytes on.front))
      (subst (λ (all : List ℕ). Consumes first now.left all)
      (append_assoc bytes old.waiting on.more ∙ ap (λ (all : List ℕ). bytes ++ all) on.whole ∙ sym (append_assoc bytes on.front now.waiting))
      (consumes-more first old.left now.left (bytes ++ old.waiting) on.more taken on.taken)) stops

  -- the bytes that were taken
  pub plain_begun : ((bytes : List ℕ) × IsBegun bytes old.begun) → (bytes : List ℕ) × IsBegun bytes now.begun
  plain_begun some = (some.0 ++ on.front, on.takes.begun some.0 some.1)

-- what stands behind the bytes that were taken
pub left_is : (text front rest : List ℕ) (taken : ℕ) → text ≡ front ++ rest → taken ≡ length text - length rest → drop taken text ≡ rest
left_is text front rest taken split counted =
    let count : taken ≡ length front = omega (arith, counted, ap length split, length-append front rest) in
    ap (drop taken) split ∙ ap (λ (n : ℕ). drop n (front ++ rest)) count ∙ drop-append_seam front rest

-- ---- what was found behind the head

-- the requests behind those of the head are those whose plain lines were read
lines_behind : {A : Type 0} (old new : BegunTrace A) (front : List ℕ) (count : ℕ) (found : Contents) → TakesPlain old front new → count ≡ length old.draft.lines
    → found ≡ so_far new.draft.names new.draft.lines → requests_text found.known (drop count found.lines) ≡ front
lines_behind old new front count found takes counted is =
    let requests : List TraceLine = takes.requests in
    let lines : found.lines ≡ old.draft.lines ++ requests = ap (λ (c : Contents). c.lines) is ∙ takes.added in
    let known : found.known ≡ old.draft.names = ap (λ (c : Contents). c.known) is ∙ takes.known in
    let rest : drop count found.lines ≡ requests =
    ap (λ (n : ℕ). drop n found.lines) counted ∙ ap (drop (length old.draft.lines)) lines ∙ drop-append_seam old.draft.lines requests in
    ap (λ (ls : List TraceLine). requests_text found.known ls) rest ∙ ap (λ (k : Known). requests_text k requests) known ∙ sym takes.plain

plain_found : {A : Type 0} (head : List ℕ) (old new : BegunTrace A) (front : List ℕ) (count : ℕ) (found : Contents) → IsBegun head old → TakesPlain old front new
    → count ≡ length old.draft.lines → found ≡ so_far new.draft.names new.draft.lines → IsPlainText head count found
plain_found head old new front count found begun takes counted is = record {
  whole = begun.whole;
  means =
      subst (λ (c : Contents). TextMeans (rejoined head count found) c) (sym is)
      (subst (λ (text : List ℕ). TextMeans text (so_far new.draft.names new.draft.lines))
      (sym (ap (λ (bytes : List ℕ). head ++ bytes) (lines_behind old new front count found takes counted is))) (takes.begun head begun).means);
}

module _ {A : Type 0} (head : List ℕ) (end : ℕ) (old : BegunTrace A) (within : end ≤ length head) (is : IsBegun (take end head) old) where
  end_is : length (take end head) ≡ end
  end_is = omega (arith, within, length-take end head)

  head_is : (waited : List ℕ) → waited ≡ drop end head → take end head ++ waited ≡ head
  head_is waited rest = ap (λ (bytes : List ℕ). take end head ++ bytes) rest ∙ take-append-drop end head

  pub found_behind : (before : Option (List ℕ)) (waited : List ℕ) (new : Progress A) (called calls : ℕ) (ended : Bool) (found : Tail)
      → waited ≡ drop end head → HasReadRequests (progress old end waited before) new called calls ended
      → IsCalledAtMost (most_reads - (end + length waited)) called calls → found.end ≡ end → found.count ≡ length old.draft.lines
      → contents found.trace ≡ so_far new.begun.draft.names new.begun.draft.lines → found.waiting.items ≡ new.waiting → found.is_ended ≡ ended
      → IsReadBehind head before new.left called calls found
  found_behind before waited new called calls ended found rest has most end_same counted trace_is waiting_is ended_is =
      let reads = has.reads in
      let front : List ℕ = reads.front in
      let known : Contents = contents found.trace in
      let behind = lines_behind old new.begun front found.count known reads.takes counted trace_is in
      let all : restored head found ≡ (take end head ++ front) ++ new.waiting =
      ap (λ (n : ℕ). rejoined (take n head) found.count known ++ found.waiting.items) end_same
      ∙ ap (λ (bytes : List ℕ). (take end head ++ bytes) ++ found.waiting.items) behind
      ∙ ap (λ (bytes : List ℕ). (take end head ++ front) ++ bytes) waiting_is in
      let long : length (restored head found) ≡ new.done + length new.waiting =
      ap length all ∙ omega (arith, length-append (take end head ++ front) new.waiting, length-append (take end head) front, end_is, reads.counted) in
      let waited_long : end + length waited ≡ length head = omega (arith, ap length (head_is waited rest), length-append (take end head) waited, end_is) in
      record {
        within = omega (arith, within, end_same);
        plain =
            subst (λ (n : ℕ). IsPlainText (take n head) found.count known) (sym end_same)
            (plain_found (take end head) old new.begun front found.count known is reads.takes counted trace_is);
        more = reads.more;
        taken = reads.taken;
        whole =
            ap (λ (bytes : List ℕ). bytes ++ reads.more) (sym (head_is waited rest))
            ∙ append_assoc (take end head) waited reads.more
            ∙ ap (λ (bytes : List ℕ). take end head ++ bytes) reads.whole
            ∙ sym (append_assoc (take end head) front new.waiting)
            ∙ sym all;
        short = omega (arith, long, has.short);
        end = λ e. has.end (sym ended_is ∙ e);
        called_most = called_within _ _ called calls (omega (arith, waited_long)) most;
        called_few = λ e. called_within _ _ called calls (omega (arith, waited_long, long)) (has.called_few (sym ended_is ∙ e));
      }

  -- why no more is read behind the head
  pub head_stops : (waited : List ℕ) (before now : Option (List ℕ)) (fault : CliFault) → waited ≡ drop end head → StopsPlain end waited before now fault
      → StopsReadingFrom head before now fault
  head_stops waited before now fault rest stops =
      subst (λ (bytes : List ℕ). StopsReadingFrom bytes before now fault) (head_is waited rest) (stops (take end head) end_is)

-- ---- all that was read

module _ (head : List ℕ) (before now : Option (List ℕ)) (called calls : ℕ) (found : Tail) (is : IsReadBehind head before now called calls found) where
  found_taken : (bytes : List ℕ) (first : Option (List ℕ)) → bytes ≡ restored head found → Consumes first before head → Consumes first now bytes
  found_taken bytes first same taken =
      subst (λ (all : List ℕ). Consumes first now all) (is.whole ∙ sym same) (consumes-more first before now head is.more taken is.taken)

  -- to the end
  pub found_all : (text : List ℕ) → text ≡ restored head found → found.is_ended ≡ true → IsReadFrom head before now text
  found_all text same ended first taken = record {
    taken = found_taken text first same taken;
    end = is.end ended;
    short = omega (arith, is.short, ap length same);
  }

  -- to the end, and nothing waits behind the plain lines
  pub found_plain : (front : List ℕ) (count : ℕ) (known : Contents) → front ≡ take found.end head → count ≡ found.count → known ≡ contents found.trace
      → found.waiting.items ≡ [] → found.is_ended ≡ true → IsReadFrom head before now (rejoined front count known)
  found_plain front count known front_is count_is known_is none ended =
      let same : rejoined front count known ≡ restored head found = rw (front_is, count_is, known_is, none) (sym (append-nil _)) in
      found_all (rejoined front count known) same ended

  pub found_kept : (front : List ℕ) (count : ℕ) (known : Contents) → front ≡ take found.end head → count ≡ found.count → known ≡ contents found.trace
      → IsPlainText front count known
  found_kept front count known front_is count_is known_is = rw (front_is, count_is, known_is) is.plain

  -- and more behind it
  pub found_more : (next : Option (List ℕ)) (bytes text : List ℕ) → bytes ≡ restored head found → IsReadFrom bytes now next text → IsReadFrom head before next text
  found_more next bytes text same from first taken = from first (found_taken bytes first same taken)

  pub found_stops : (next : Option (List ℕ)) (bytes : List ℕ) (fault : CliFault) → bytes ≡ restored head found → StopsReadingFrom bytes now next fault
      → StopsReadingFrom head before next fault
  found_stops next bytes fault same stops first taken = stops first (found_taken bytes first same taken)

  pub found_called : (bytes : List ℕ) (after : ℕ) → bytes ≡ restored head found → found.is_ended ≡ false → IsCalledAtMost (most_reads - length bytes) calls after
      → IsCalledAtMost (most_reads - length head) called after
  found_called bytes after same going more =
      called_both _ _ _ called calls after
      (omega (arith, ap length same, ap length is.whole, length-append head is.more, is.short)) (is.called_few going) more
