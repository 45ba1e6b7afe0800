-- The words of a table that no thread shares any more.
use Rattle.std.specs.Prelude.{◌≡◌, ℕ, ◌+◌, List}
use Rattle.std.specs.Slots.{slots_items, slots_len, IsFull}
use Rattle.std.specs.declared.alloc.Global.{Global}
use Rattle.atomic_table.specs.declared.owned.Closed.{Closed}

abbrev pub Last : Type 0
Last = Closed (Unit {0}) Global

abbrev pub last_words : Last → List ℕ
last_words t = slots_items t.words

-- it has a word for the next number and one for each loop, each with a value, and no slot
pub record IsWhole (loops : ℕ) (t : Last) : Type 0 where
  pub full : IsFull t.words
  pub words : slots_len t.words ≡ loops + 1
  pub slots : slots_len t.slots ≡ 0
