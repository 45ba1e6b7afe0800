use Rattle.std.proofs.Common.{◌≡◌, ◌∙◌, ℕ, ◌+◌, ◌-◌, Bool, true, List, [], ◌∷◌, ◌++◌, length, take, drop, sym, ap, inr, arith, append_assoc}
use Rattle.std.proofs.lemmas.List.{length-drop, take_all}
use Rattle.std.proofs.Math.Seq.{take-add}
use Rattle.machine_data.specs.Opcodes.{same_word}
use Rattle.loop_reader.proofs.lookups.Declared.{same_word-yes}
use Rattle.workers.specs.Apart.{EndsLine}
use Rattle.workers.proofs.reading.cutting.after_end.Goals as goal

-- the bytes of a line feed and `end`
abbrev before_feed : List ℕ
before_feed = 10 ∷ 101 ∷ 110 ∷ 100 ∷ []

abbrev sought : List ℕ
sought = 10 ∷ 101 ∷ 110 ∷ 100 ∷ 10 ∷ []

ends-there : (text : List ℕ) (at : ℕ) (found : Bool) → found ≡ same_word sought (take 5 (take (length text - at) (drop at text))) → found ≡ true → EndsLine (take (at + 5) text)
ends-there text at found e h =
    let rest = take_all (length text - at) (drop at text) (omega (arith, length-drop at text)) in
    let five : take 5 (drop at text) ≡ sought = ap (take 5) (sym rest) ∙ sym (same_word-yes sought (take 5 (take (length text - at) (drop at text))) (sym e ∙ h)) in
    inr (take at text ++ before_feed, take-add at 5 text ∙ ap (λ (t : List ℕ). take at text ++ t) five ∙ sym (append_assoc (take at text) before_feed (10 ∷ [])))

pub returns-then-starts_with-clause-line : goal.returns-then-starts_with-clause-line
returns-then-starts_with-clause-line c = λ more. ends-there c.args.text.now c.loop-at.at c.starts_with.result c.starts_with.ensures.value c.if-starts_with.true
