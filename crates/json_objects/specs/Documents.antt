-- The document of several loops, by its parts.
use Rattle.std.specs.Prelude.{ℕ, codes, List, ◌++◌}
use Rattle.std.specs.List.{join_by}
use Rattle.writing.specs.Words.{told}

-- `{"failed":F,"loops":[`, with how many loops have no kernel
abbrev pub head_text : ℕ → List ℕ
head_text failed = told (codes "{\"failed\":") failed ++ codes ",\"loops\":["

-- `],"met":M,"version":1}` and a line feed, with how many have one
abbrev pub tail_text : ℕ → List ℕ
tail_text met = told (codes "],\"met\":") met ++ codes ",\"version\":1}\n"

-- the document of loops that are told by these texts, with a comma between two
abbrev pub document_of : List (List ℕ) → ℕ → ℕ → List ℕ
document_of parts met failed = head_text failed ++ (join_by (λ part. part) (codes ",") parts ++ tail_text met)
