use Rattle.std.proofs.Common.{◌≡◌, ◌++◌, ℕ, List, [], ◌∷◌, append_assoc}
use Rattle.run_replay.proofs.frame_table.add_places.Goals as goal

two_places : (places one two : List ℕ) (child spawner : ℕ) → one ≡ places ++ child ∷ [] → two ≡ one ++ spawner ∷ [] → two ≡ places ++ child ∷ spawner ∷ []
two_places places one two child spawner first second = rw (second, first) (append_assoc places (child ∷ []) (spawner ∷ []))

three_places : (places one two three : List ℕ) (child spawner : ℕ) → one ≡ places ++ child ∷ [] → two ≡ one ++ spawner ∷ [] → three ≡ two ++ spawner ∷ [] → three ≡ places ++ child ∷ spawner ∷ spawner ∷ []
three_places places one two three child spawner first second third = rw (third, two_places places one two child spawner first second) (append_assoc places (child ∷ spawner ∷ []) (spawner ∷ []))

pub returns-in_ok-push-3 : goal.returns-in_ok-push-3
returns-in_ok-push-3 g c =
    rw c.if-first.true (three_places c.args.places.now.items _ _ _ c.args.child c.args.spawner c.in_ok-push.ensures.items c.in_ok-push-2.ensures.items c.in_ok-push-3.ensures.items)

pub returns-else-first : goal.returns-else-first
returns-else-first g c =
    rw c.if-first.false (two_places c.args.places.now.items _ _ c.args.child c.args.spawner c.in_ok-push.ensures.items c.in_ok-push-2.ensures.items)
