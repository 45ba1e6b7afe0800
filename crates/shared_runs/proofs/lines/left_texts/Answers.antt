use Rattle.std.proofs.Common.{◌≡◌, ◌∙◌, ℕ, List, slice_index_or, arith, of_calls, rules}
use Rattle.std.specs.Prelude.{Vec}
use Rattle.std.specs.Global.{Global}
use Rattle.loop_data.specs.declared.language.lists.Array.{Array}
use Rattle.shared_runs.specs.declared.lines.Lines.{Lines}
use Rattle.shared_runs.specs.inner.Lines.{bytes_left}
use Rattle.shared_runs.proofs.lines.left_texts.Goals as goal

pub returns-in-Some : goal.returns-in-Some
returns-in-Some g c =
    let lines : List Lines = c.args.lines.now in
    let texts : List (Vec ℕ Global) = c.in_ok-written.written.items in
    let made = c.in_ok-written.ensures in
    record {
      many = made.each ∙ c.in-Some.ensures.each;
      each = λ k t l e h.
          let told = (made.made k t (omega (arith, c.in-Some.ensures.each, h))).met in
          let text : (a : Array) (one : Lines) → (slice_index_or texts k t).items ≡ bytes_left a (slice_index_or lines k one) = search (rules, of_calls, told) in
          text e l;
    }
