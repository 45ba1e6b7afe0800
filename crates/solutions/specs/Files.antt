-- What belongs to the values of one file, where `files` has the file of each value.
use Rattle.std.specs.Prelude.{ℕ, ◌==◌, List, map, filter, take, count_by}
use Rattle.std.specs.List.{zip}

-- of a list that has an entry for each value, the entries of the values of a file, in order
abbrev pub in_file : {X : Type 0} → List ℕ → ℕ → List X → List X
in_file {X} files file xs = map (λ (p : ℕ × X). p.1) (filter (λ (p : ℕ × X). p.0 == file) (zip files xs))

-- how many values of a file come before a value
abbrev pub place_in : List ℕ → ℕ → ℕ → ℕ
place_in files file value = count_by (λ other. other == file) (take value files)
