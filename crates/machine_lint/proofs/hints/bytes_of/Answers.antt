use Rattle.std.proofs.Common.{◌<◌, ◌++◌, ◌∷◌, [], ℕ, List, length, map, take, ap, sym, ◌∙◌, arith}
use Rattle.std.proofs.lemmas.List.{map-append, take_more}
use Rattle.std.specs.Borrow.{Bor}
use Rattle.machine_lint.proofs.hints.bytes_of.Goals as goal

pub loop-word-preserved : goal.loop-word-preserved
loop-word-preserved c =
    let i : ℕ = c.loop-word.word-index in
    let below : i < length c.args.words.now = omega arith in
    ap (map (λ (n : Bor (List ℕ)). n.now)) c.in_ok-push.ensures.items
    ∙ map-append (λ (n : Bor (List ℕ)). n.now) c.loop-word.names.items (c.as_bytes.result ∷ [])
    ∙ ap (λ l. l ++ c.as_bytes.result.now ∷ []) c.loop-word.invariant
    ∙ ap (λ b. take i c.args.words.now ++ b ∷ []) c.as_bytes.ensures
    ∙ sym (rw (take_more c.args.words.now i c.word-item.result below, ← c.word-item.is))
