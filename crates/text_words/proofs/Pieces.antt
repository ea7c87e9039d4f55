-- The pieces of a text, one at a time.
use Rattle.std.proofs.Common.{◌≡◌, ℕ, ◌+◌, ◌<◌, ◌≤◌, ◌∷◌, [], List, length, take, drop, true, false, Bool, not, cond, arith, refl, ap, ◌∙◌, add-one, suc}
use Rattle.std.specs.Prelude.{◌==◌, position, Some, None}
use Rattle.std.specs.List.{onto_first, position_or_len}
use Rattle.std.proofs.lemmas.Bool.Decides.{nat_tests}
use Rattle.std.proofs.lemmas.Grind.{common_steps}
use Rattle.std.proofs.lemmas.Option.{cond_some}
use Rattle.text_words.specs.Text.{pieces}

-- where the first line feed stands, or the end where there is none
abbrev feed_at : List ℕ → ℕ
feed_at text = position_or_len (λ byte. byte == 10) text

one_more : (n : ℕ) → 1 + n ≡ suc n
one_more n = omega arith

-- the same for each answer of the test of the first byte
step_by : (is_feed : Bool) (byte n : ℕ) (bytes : List ℕ) → (0 < length bytes → pieces bytes ≡ take n bytes ∷ pieces (drop (n + 1) bytes)) → (length bytes ≡ 0 → n ≡ 0)
    → cond is_feed ([] ∷ pieces bytes) (onto_first byte (pieces bytes))
    ≡ take (cond (not is_feed) (1 + n) 0) (byte ∷ bytes) ∷ pieces (drop (cond (not is_feed) (1 + n) 0 + 1) (byte ∷ bytes))
step_by true byte n bytes inner none = refl
step_by false byte n [] inner none = rw none refl
step_by false byte n (next ∷ bytes) inner none =
    rw (one_more n, add-one) (ap (onto_first byte) (rw add-one at (inner (omega arith))))

feed_none : (bytes : List ℕ) → length bytes ≡ 0 → feed_at bytes ≡ 0
feed_none [] h = refl
feed_none (byte ∷ bytes) h = absurd (omega arith)

feed_more : (b : Bool) (m n : ℕ) → m ≤ n → cond b (1 + m) 0 ≤ suc n
feed_more true m n h = omega arith
feed_more false m n h = omega arith

feed_le : (bytes : List ℕ) → feed_at bytes ≤ length bytes
feed_le [] = omega arith
feed_le (byte ∷ bytes) = feed_more (not (byte == 10)) (feed_at bytes) (length bytes) (feed_le bytes)

pub pieces_step : (text : List ℕ) → 0 < length text → pieces text ≡ take (feed_at text) text ∷ pieces (drop (feed_at text + 1) text)
pieces_step [] l = absurd (omega arith)
pieces_step (byte ∷ bytes) l = step_by (byte == 10) byte (feed_at bytes) bytes (pieces_step bytes) (feed_none bytes)

-- the first piece ends where the search for a line feed says
pub pieces_found : (text : List ℕ) (end : ℕ) → position (λ byte. byte == 10) text ≡ Some end → 0 < length text
    → pieces text ≡ take end text ∷ pieces (drop (end + 1) text)
pieces_found text end h l = rw (← (cond_some _ (feed_at text) end h).1) (pieces_step text l)

pub pieces_not_found : (text : List ℕ) → position (λ byte. byte == 10) text ≡ None → 0 < length text → pieces text ≡ text ∷ []
pieces_not_found text h l =
    let e : feed_at text ≡ length text = grind (arith, nat_tests, feed_le text) in
    pieces_step text l ∙ rw e (grind (arith, common_steps))
