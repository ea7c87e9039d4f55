-- What one more entry does to the values of the cells.
use Rattle.std.proofs.Common.{◌≡◌, ℕ, ◌+◌, ◌%◌, ◌^◌, ◌<◌, true, false, cond, List, ◌∷◌, length, refl, sym, ◌∙◌, ap, add-zero, arith}
use Rattle.std.specs.Prelude.{◌==◌}
use Rattle.std.proofs.Math.Nat.{mod-add-mod}
use Rattle.model_histories.specs.declared.answer.Entry.{Entry}
use Rattle.model_histories.specs.Entries.{Entries}
use Rattle.model_races.specs.Memory.{CellEffect, sets, adds, leaves, effect_on_cell, effects, last_written, bumped_since, IsMemory}
use Rattle.race_gate.specs.Steps.{after, TakesPlace}

-- the value by the effects alone
abbrev held : List CellEffect → ℕ → ℕ
held before cell = (last_written before cell + bumped_since before cell) % 2 ^ 64

added : (written value since size : ℕ) → (written + (value + since)) % size ≡ ((written + since) % size + value) % size
added written value since size =
    let same : written + (value + since) ≡ (written + since) + value = omega arith in
    ap (λ n. n % size) same ∙ sym (mod-add-mod (written + since) size value)

held-after : (one : CellEffect) (before : List CellEffect) (cell : ℕ) → held (one ∷ before) cell ≡ after one cell (held before cell)
held-after (sets location value) before cell =
    let written = last_written before cell in
    let since = bumped_since before cell in
    elim (location == cell)
    as (λ b. (cond b value written + cond b 0 since) % 2 ^ 64 ≡ cond b (value % 2 ^ 64) ((written + since) % 2 ^ 64))
    [ true ↦ ap (λ n. n % 2 ^ 64) (add-zero value) | false ↦ refl ]
held-after (adds location value) before cell =
    let written = last_written before cell in
    let since = bumped_since before cell in
    elim (location == cell)
    as (λ b. (written + cond b (value + since) since) % 2 ^ 64 ≡ cond b (((written + since) % 2 ^ 64 + value) % 2 ^ 64) ((written + since) % 2 ^ 64))
    [ true ↦ added written value since (2 ^ 64) | false ↦ refl ]
held-after leaves before cell = refl

-- the memory after an entry
pub memory-after : (cells : ℕ) (entry : Entry) (entries : Entries) (old new : List ℕ) → IsMemory cells entries old →
    TakesPlace (effect_on_cell entry.request.act entry.answer) old new → IsMemory cells (entry ∷ entries) new
memory-after cells entry entries old new memory takes =
    let one = effect_on_cell entry.request.act entry.answer in
    record {
      len = takes.len ∙ memory.len;
      each = λ cell below.
          let within : cell < length old = omega (arith, memory.len) in
          takes.each cell within ∙ ap (after one cell) (memory.each cell below) ∙ sym (held-after one (effects entries) cell);
    }
