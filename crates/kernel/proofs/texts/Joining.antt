-- The operations of a row, one after another.
use Rattle.std.proofs.Common.{◌≡◌, ◌≢◌, ℕ, ◌+◌, ◌<◌, ◌==◌, List, ◌∷◌, ◌++◌, length, get_or, drop, filter, codes, true, false, refl, sym, ap, ◌∙◌, append_assoc}
use Rattle.std.proofs.lemmas.Bool.{eq-eqb, ne_eqb}
use Rattle.std.proofs.lemmas.List.{drop_more}
use Rattle.kernel.specs.declared.kernels.operation.Operation.{Operation}
use Rattle.kernel.specs.declared.kernels.parts.Parts.{Parts}
use Rattle.kernel.specs.Text.{operation_text, joined}

abbrev pub in_row : ℕ → List Operation → List Operation
in_row row ops = filter (λ (op : Operation). op.row == row) ops

rest_at : (ops : List Operation) (i : ℕ) (op : Operation) → i < length ops → op ≡ get_or ops i op → drop i ops ≡ op ∷ drop (i + 1) ops
rest_at ops i op within is = drop_more ops i op within ∙ ap (λ (x : Operation). x ∷ drop (i + 1) ops) (sym is)

in_row-here : (row : ℕ) (ops : List Operation) (i : ℕ) (op : Operation) → i < length ops → op ≡ get_or ops i op → op.row ≡ row → in_row row (drop i ops) ≡ op ∷ in_row row (drop (i + 1) ops)
in_row-here row ops i op within is here =
    let e : (op.row == row) ≡ true = eq-eqb op.row row here in
    ap (in_row row) (rest_at ops i op within is) ∙ rw e refl

in_row-elsewhere : (row : ℕ) (ops : List Operation) (i : ℕ) (op : Operation) → i < length ops → op ≡ get_or ops i op → op.row ≢ row → in_row row (drop i ops) ≡ in_row row (drop (i + 1) ops)
in_row-elsewhere row ops i op within is elsewhere =
    let e : (op.row == row) ≡ false = ne_eqb op.row row elsewhere in
    ap (in_row row) (rest_at ops i op within is) ∙ rw e refl

-- an operation of the row is written after what stands before it, and a bar before the next
pub joined_more : (parts : Parts) (row : ℕ) (ops : List Operation) (i : ℕ) (op : Operation) (text now before after all : List ℕ) → i < length ops → op ≡ get_or ops i op → op.row ≡ row
    → now ≡ (text ++ before) ++ operation_text parts op
    → after ≡ codes " | "
    → text ++ joined parts before (in_row row (drop i ops)) ≡ all
    → now ++ joined parts after (in_row row (drop (i + 1) ops)) ≡ all
joined_more parts row ops i op text now before after all within is here written bar e =
    let next : List Operation = in_row row (drop (i + 1) ops) in
    let rest : List ℕ = joined parts (codes " | ") next in
    ap (λ t. now ++ joined parts t next) bar
    ∙ (ap (λ t. t ++ rest) written
    ∙ (ap (λ t. t ++ rest) (append_assoc text before (operation_text parts op))
    ∙ (append_assoc text (before ++ operation_text parts op) rest
    ∙ (sym (ap (λ xs. text ++ joined parts before xs) (in_row-here row ops i op within is here)) ∙ e))))

-- another operation isn't written
pub joined_past : (parts : Parts) (row : ℕ) (ops : List Operation) (i : ℕ) (op : Operation) (text now before after all : List ℕ) → i < length ops → op ≡ get_or ops i op → op.row ≢ row
    → now ≡ text
    → after ≡ before
    → text ++ joined parts before (in_row row (drop i ops)) ≡ all
    → now ++ joined parts after (in_row row (drop (i + 1) ops)) ≡ all
joined_past parts row ops i op text now before after all within is elsewhere same bar e =
    let next : List Operation = in_row row (drop (i + 1) ops) in
    ap (λ t. now ++ joined parts t next) bar
    ∙ (ap (λ t. t ++ joined parts before next) same
    ∙ (sym (ap (λ xs. text ++ joined parts before xs) (in_row-elsewhere row ops i op within is elsewhere)) ∙ e))
