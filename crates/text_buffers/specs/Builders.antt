-- A text that is built part by part: Some of the text so far, and None once there was no memory for a part.
use Rattle.std.specs.Prelude.{ℕ, ◌≡◌, Bool, true, false, List, ◌++◌, Option, Some, None, IfSome}

abbrev pub text_so_far : Bool → List ℕ → Option (List ℕ)
text_so_far true text = None
text_so_far false text = Some text

abbrev pub added : Option (List ℕ) → List ℕ → Option (List ℕ)
added None words = None
added (Some text) words = Some (text ++ words)

-- these words are added behind the text, where there was memory for them
pub record Adds (old : Option (List ℕ)) (words : List ℕ) (new : Option (List ℕ)) : Type 0 where
  pub adds : IfSome new (λ text. added old words ≡ Some text)
