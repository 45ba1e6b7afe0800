use Rattle.std.proofs.Common.{◌≡◌, ◌∙◌, ℕ, [], List}
use Rattle.std.specs.List.{flat_map}
use Rattle.std.specs.Prelude.{Vec}
use Rattle.std.specs.Global.{Global}
use Rattle.loop_data.specs.declared.language.lists.Array.{Array}
use Rattle.loop_data.specs.Loops.{LoopData}
use Rattle.text_parts.specs.Parted.{joined_text}
use Rattle.shared_runs.specs.declared.lines.Lines.{Lines}
use Rattle.shared_runs.specs.inner.Lines.{bytes_in}
use Rattle.shared_runs.specs.inner.Made.{bytes_of}
use Rattle.shared_runs.proofs.LineList.{ok_more}
use Rattle.shared_runs.proofs.lines.lines_of_all.Goals as goal

pub returns : goal.returns
returns g c =
    let loops : List LoopData = c.args.loops.now in
    let lines : List Lines = c.in_ok-lines.lines.items in
    let array : Array = record { name = []; cells = [] } in
    ok_more (λ (texts : Vec (Vec ℕ Global) Global). (e : Array) → joined_text texts.items ≡ flat_map (bytes_in e) lines)
    (λ (texts : Vec (Vec ℕ Global) Global). (d : LoopData) → joined_text texts.items ≡ flat_map (bytes_of loops d) c.args.made.items) c.texts_in_order.result
    (λ texts same d. same array ∙ c.in_ok-lines.ensures.text d array) c.texts_in_order.ensures
