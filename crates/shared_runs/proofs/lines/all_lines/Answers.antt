use Rattle.std.proofs.Common.{◌≡◌, ◌∙◌, ◌++◌, ◌∷◌, [], List, length, sym, subst, ap, arith, rules, append-nil, append_assoc}
use Rattle.std.specs.List.{All, flat_map}
use Rattle.std.proofs.lemmas.List.{nil_from_length}
use Rattle.std.proofs.lemmas.List.Elements.{All-head, All-tail}
use Rattle.std.specs.Vec.Iter.{into_iter_items, into_iter_len}
use Rattle.shared_runs.specs.declared.made.Made.{Made}
use Rattle.shared_runs.specs.inner.Lines.{bytes_in}
use Rattle.shared_runs.specs.inner.Made.{Fits, bytes_of}
use Rattle.shared_runs.proofs.lines.all_lines.Goals as goal

pub loop-one-preserved : goal.loop-one-preserved
loop-one-preserved c =
    let loops = c.args.loops.now in
    let rest : List Made = into_iter_items c.next.new.self in
    let one : Made = c.in-Some.one in
    let items : into_iter_items c.loop-one.made ≡ one ∷ rest = c.in-Some.ensures.items in
    record {
      text = λ d e.
          ap (λ t. t ++ flat_map (bytes_of loops d) rest) (c.in_ok-add_made.ensures.text d e)
          ∙ append_assoc (flat_map (bytes_in e) c.loop-one.lines.items) (bytes_of loops d one) (flat_map (bytes_of loops d) rest)
          ∙ ap (λ made. flat_map (bytes_in e) c.loop-one.lines.items ++ flat_map (bytes_of loops d) made) (sym items)
          ∙ c.loop-one.invariant.text d e;
      pieces = c.in_ok-add_made.ensures.pieces c.loop-one.invariant.pieces;
      fit = All-tail (Fits loops) one rest (subst (All (Fits loops)) items c.loop-one.invariant.fit);
      left = omega (arith, ap length items, c.loop-one.invariant.left, c.in-Some.ensures.len);
    }

pub returns-clause-text : goal.returns-clause-text
returns-clause-text c = λ d e.
    let loops = c.args.loops.now in
    let none_left : into_iter_len c.loop-one.made ≡ 0 = search rules in
    let none : into_iter_items c.loop-one.made ≡ [] = nil_from_length (into_iter_items c.loop-one.made) (c.loop-one.invariant.left ∙ none_left) in
    let those : into_iter_items c.into_iter-made.result ≡ c.args.made.items = search rules in
    sym (append-nil (flat_map (bytes_in e) c.loop-one.lines.items))
    ∙ ap (λ made. flat_map (bytes_in e) c.loop-one.lines.items ++ flat_map (bytes_of loops d) made) (sym none)
    ∙ c.loop-one.invariant.text d e
    ∙ ap (λ made. flat_map (bytes_of loops d) made) those

pub add_made-requires : goal.add_made-requires
add_made-requires c =
    let loops = c.args.loops.now in
    let rest : List Made = into_iter_items c.next.new.self in
    All-head (Fits loops) c.in-Some.one rest (subst (All (Fits loops)) c.in-Some.ensures.items c.loop-one.invariant.fit)
