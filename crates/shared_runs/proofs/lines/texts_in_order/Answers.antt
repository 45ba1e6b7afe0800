use Rattle.std.proofs.Common.{◌≡◌, ◌∙◌, ℕ, ◌++◌, ◌∷◌, [], List, length, sym, subst, ap, arith, rules, append-nil, append_assoc}
use Rattle.std.specs.List.{flat_map}
use Rattle.std.specs.Prelude.{Vec}
use Rattle.std.specs.Global.{Global}
use Rattle.std.proofs.lemmas.Bool.{false≢true}
use Rattle.std.proofs.lemmas.List.{nil_from_length}
use Rattle.std.specs.Vec.Iter.{into_iter_items, into_iter_len}
use Rattle.text_parts.specs.Parted.{joined_text}
use Rattle.shared_runs.specs.declared.lines.Lines.{Lines}
use Rattle.shared_runs.specs.inner.Lines.{AreWritten, bytes_in}
use Rattle.shared_runs.proofs.LineList.{first_written, others_written}
use Rattle.shared_runs.proofs.lines.texts_in_order.Goals as goal
use Rattle.shared_runs.proofs.lines.texts_in_order.Goals.{in-Some+in_default-next, in_default}

pub add_lines-requires : goal.add_lines-requires
add_lines-requires c = λ e.
    let rest : List Lines = into_iter_items c.next.new.self in
    let others : List (Vec ℕ Global) = into_iter_items c.next-in-Some.new.self in
    let one : Lines = c.in-Some.one in
    let text : Vec ℕ Global = c.in-Some-next.text in
    let written : AreWritten (into_iter_items c.loop-one.lines) (text ∷ others) = subst (AreWritten (into_iter_items c.loop-one.lines)) c.in-Some-next.ensures.items c.loop-one.invariant.written in
    first_written one rest text others (subst (λ (ls : List Lines). AreWritten ls (text ∷ others)) c.in-Some.ensures.items written) e

pub loop-one-preserved : goal.loop-one-preserved
loop-one-preserved c =
    let rest : List Lines = into_iter_items c.next.new.self in
    let others : List (Vec ℕ Global) = into_iter_items c.next-in-Some.new.self in
    let one : Lines = c.in-Some.one in
    let text : Vec ℕ Global = c.in-Some-next.text in
    let before : List ℕ = joined_text c.loop-one.texts.items in
    let items : into_iter_items c.loop-one.lines ≡ one ∷ rest = c.in-Some.ensures.items in
    let texts : into_iter_items c.loop-one.left ≡ text ∷ others = c.in-Some-next.ensures.items in
    let written : AreWritten (into_iter_items c.loop-one.lines) (text ∷ others) = subst (AreWritten (into_iter_items c.loop-one.lines)) texts c.loop-one.invariant.written in
    record {
      text = λ e.
          ap (λ t. t ++ flat_map (bytes_in e) rest) (c.in_ok-add_lines.ensures e)
          ∙ append_assoc before (bytes_in e one) (flat_map (bytes_in e) rest)
          ∙ ap (λ ls. before ++ flat_map (bytes_in e) ls) (sym items)
          ∙ c.loop-one.invariant.text e;
      written = others_written one rest text others (subst (λ (ls : List Lines). AreWritten ls (text ∷ others)) items written);
      lines_left = omega (arith, ap length items, c.loop-one.invariant.lines_left, c.in-Some.ensures.len);
      texts_left = omega (arith, ap length texts, c.loop-one.invariant.texts_left, c.in-Some-next.ensures.len);
    }

pub returns : goal.returns
returns c = λ e.
    let lines : List Lines = into_iter_items c.loop-one.lines in
    let none_left : into_iter_len c.loop-one.lines ≡ 0 =
    elim c.match-next.branch [
      | in-Some+in_default-next w ↦ absurd (false≢true (w.in_default-next.ensures.variant.1 (omega (arith, c.loop-one.invariant.written.many, c.loop-one.invariant.texts_left, ap length w.in-Some.ensures.items))))
      | in_default w ↦ search (rules, w.in_default.ensures.variant)
    ] in
    let none : lines ≡ [] = nil_from_length lines (c.loop-one.invariant.lines_left ∙ none_left) in
    let those : into_iter_items c.into_iter-lines.result ≡ c.args.lines.items = search rules in
    sym (append-nil (joined_text c.loop-one.texts.items))
    ∙ ap (λ ls. joined_text c.loop-one.texts.items ++ flat_map (bytes_in e) ls) (sym none)
    ∙ c.loop-one.invariant.text e
    ∙ ap (flat_map (bytes_in e)) those
