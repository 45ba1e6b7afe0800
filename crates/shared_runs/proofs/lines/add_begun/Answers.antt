use Rattle.std.proofs.Common.{◌≡◌, ◌∙◌, ℕ, ◌++◌, ◌∷◌, [], List, length, sym, ap, arith, rules, append-nil, append_assoc}
use Rattle.std.specs.List.{flat_map}
use Rattle.std.specs.Prelude.{Vec}
use Rattle.std.specs.Global.{Global}
use Rattle.std.proofs.lemmas.List.{nil_from_length}
use Rattle.std.specs.Vec.Iter.{into_iter_items, into_iter_len}
use Rattle.text_parts.specs.Parted.{joined_text}
use Rattle.shared_runs.specs.declared.lines.Lines.{Lines}
use Rattle.shared_runs.specs.declared.lines.Lines.TheVariants.{Written}
use Rattle.shared_runs.specs.inner.Lines.{bytes_in}
use Rattle.shared_runs.proofs.LineList.{pushed_bytes, pushed_pieces}
use Rattle.shared_runs.proofs.lines.add_begun.Goals as goal

pub loop-text-preserved : goal.loop-text-preserved
loop-text-preserved c =
    let rest : List (Vec ℕ Global) = into_iter_items c.next.new.self in
    let text : Vec ℕ Global = c.in-Some.text in
    let before : List Lines = c.loop-text.lines.items in
    let items : into_iter_items c.loop-text.begun ≡ text ∷ rest = c.in-Some.ensures.items in
    record {
      text = λ e.
          ap (λ t. t ++ joined_text rest) (pushed_bytes e before c.push.new.self.items (Written text) c.in_ok-push.ensures.items)
          ∙ append_assoc (flat_map (bytes_in e) before) text.items (joined_text rest)
          ∙ ap (λ ts. flat_map (bytes_in e) before ++ joined_text ts) (sym items)
          ∙ c.loop-text.invariant.text e;
      pieces = λ h. pushed_pieces before c.push.new.self.items (Written text) c.in_ok-push.ensures.items (c.loop-text.invariant.pieces h) tt;
      left = omega (arith, ap length items, c.loop-text.invariant.left, c.in-Some.ensures.len);
    }

pub returns-clause-text : goal.returns-clause-text
returns-clause-text c = λ e.
    let none_left : into_iter_len c.loop-text.begun ≡ 0 = search rules in
    let none : into_iter_items c.loop-text.begun ≡ [] = nil_from_length (into_iter_items c.loop-text.begun) (c.loop-text.invariant.left ∙ none_left) in
    let those : into_iter_items c.into_iter-begun.result ≡ c.args.begun.items = search rules in
    sym (append-nil (flat_map (bytes_in e) c.loop-text.lines.items))
    ∙ ap (λ ts. flat_map (bytes_in e) c.loop-text.lines.items ++ joined_text ts) (sym none)
    ∙ c.loop-text.invariant.text e
    ∙ ap (λ ts. flat_map (bytes_in e) c.args.lines.now.items ++ joined_text ts) those
