-- What the kinds of operations are called.
use Rattle.std.specs.Prelude.{ℕ, List, slice_index}
use Rattle.problems.specs.declared.draft.Draft.{Draft}
use Rattle.solution_text.specs.Names.{name_in}

-- the number of an operation's kind
abbrev pub kind_of : Draft → ℕ → ℕ
kind_of draft op = slice_index draft.operations.items op

-- what an operation's kind is called
abbrev pub kind_name : Draft → ℕ → List ℕ
kind_name draft op = name_in draft.names.kinds.items (kind_of draft op)
