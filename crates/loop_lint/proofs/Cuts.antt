-- Words without their columns, one by one.
use Rattle.std.proofs.Common.{◌≡◌, ◌==◌, ℕ, List, [], ◌∷◌, map, sym, ◌∙◌, ap}
use Rattle.std.specs.List.{before_first}
use Rattle.loop_lines.specs.Words.{words_of}
use Rattle.loop_lines.specs.Columns.{Placed, words_from}
use Rattle.loop_lines.proofs.Columns.{same_pieces, same_words}

pub next_none : (rest : List ℕ) → words_from 1 rest ≡ [] → words_of rest ≡ []
next_none rest h = sym (same_words rest) ∙ ap (map (λ (w : Placed). w.bytes)) h

pub next_some : (rest after : List ℕ) (column : ℕ) (w : Placed) → words_from 1 rest ≡ w ∷ words_from column after → words_of rest ≡ w.bytes ∷ words_of after
next_some rest after column w h =
    sym (same_words rest) ∙ ap (map (λ (w : Placed). w.bytes)) h ∙ ap (λ ws. w.bytes ∷ ws) (same_pieces column (before_first (λ c. c == 35) after))
