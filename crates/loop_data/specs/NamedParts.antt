-- Names of a loop's parts by their numbers, and places, as they stand in texts.
use Rattle.std.specs.Prelude.{ℕ, zero, suc, ℤ, pos, negsuc, List, [], ◌∷◌, ◌++◌, codes, unwrap_or, slice_get}
use Rattle.std.specs.Option.{option_and_then, option_map}
use Rattle.std.specs.Fmt.{decimal}
use Rattle.loop_data.specs.declared.language.lists.Array.{Array}
use Rattle.loop_data.specs.declared.language.lists.Param.{Param}
use Rattle.loop_data.specs.declared.language.statement.Place.{Place}
use Rattle.loop_data.specs.declared.language.statement.Statement.{Statement}
use Rattle.loop_data.specs.Loops.{LoopData}

abbrev pub array_name : LoopData → ℕ → List ℕ
array_name loop number = unwrap_or (option_map (λ (a : Array). a.name) (slice_get loop.arrays number)) []

abbrev pub param_name : LoopData → ℕ → List ℕ
param_name loop number = unwrap_or (option_map (λ (p : Param). p.name) (slice_get loop.params number)) []

abbrev pub value_name : LoopData → ℕ → List ℕ
value_name loop number = unwrap_or (option_and_then (λ (s : Statement). s.name) (slice_get loop.statements number)) []

-- what stands after the `i` of a subscript
abbrev pub offset_text : ℤ → List ℕ
offset_text (pos zero) = []
offset_text (pos (suc n)) = 43 ∷ decimal (suc n)
offset_text (negsuc n) = 45 ∷ decimal (suc n)

abbrev pub place_word : LoopData → Place → List ℕ
place_word loop place = array_name loop place.array ++ codes "[i" ++ offset_text place.offset ++ codes "]"
