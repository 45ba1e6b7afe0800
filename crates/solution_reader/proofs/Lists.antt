-- Names of rows.
use Rattle.std.proofs.Common.{◌≡◌, ℕ, List, [], ◌∷◌, ◌++◌, length, map, Option, Some, None, sym, ◌∙◌, ap}
use Rattle.std.proofs.lemmas.List.{append-nil, map-append, length-map}
use Rattle.std.specs.Option.{option_map, option_to_list}
use Rattle.solution_reader.specs.Data.{HeadData, OpData, ValueData, SolutionData, solution_names}
use Rattle.solution_reader.specs.inner.Steps.{BegunData, begun_names}

-- of one more
pub names_more : {R A B : Type 0} (seen : R → A) (name : A → B) (rows : List R) (row : R) → map name (map seen (rows ++ row ∷ [])) ≡ map name (map seen rows) ++ name (seen row) ∷ []
names_more seen name rows row = ap (map name) (map-append seen rows (row ∷ [])) ∙ map-append name (map seen rows) (seen row ∷ [])

pub names_count : {R A B : Type 0} (seen : R → A) (name : A → B) (rows : List R) → length rows ≡ length (map name (map seen rows))
names_count seen name rows = sym (length-map (map seen rows) name ∙ length-map rows seen)

-- of solutions

abbrev names_with : BegunData → Option HeadData → List (List ℕ)
names_with b head = solution_names b.ended ++ option_to_list (option_map (λ (head : HeadData). head.name.bytes) head)

ended-names : (b : BegunData) → b.head ≡ None → begun_names b ≡ solution_names b.ended
ended-names b none = ap (names_with b) none ∙ append-nil (solution_names b.ended)

-- where one begins
pub begun_more : (b : BegunData) (head : HeadData) → b.head ≡ None → begun_names (record { ended = b.ended; head = Some head }) ≡ begun_names b ++ head.name.bytes ∷ []
begun_more b head none = ap (λ ns. ns ++ head.name.bytes ∷ []) (sym (ended-names b none))

pub begun_count : (b : BegunData) → b.head ≡ None → length b.ended ≡ length (begun_names b)
begun_count b none = sym (ap length (ended-names b none) ∙ length-map b.ended (λ (s : SolutionData). s.head.name.bytes))

-- anything

abbrev pub any_op : OpData
any_op = record { name = record { bytes = []; column = 0 }; line = 0; time = 0; alternative = 0 }

abbrev pub any_value : ValueData
any_value = record { name = record { bytes = []; column = 0 }; line = 0; number = 0 }
