use Rattle.std.proofs.Common.{◌≡◌, ◌++◌, codes, sym, subst}
use Rattle.std.specs.Fmt.{digits}
use Rattle.std.specs.Prelude.{OnOk}
use Rattle.writing.specs.Words.{told}
use Rattle.solution_text.proofs.operations.push_choice.Goals as goal

pub returns-in-0 : goal.returns-in-0
unfolding digits
returns-in-0 c = record {
  ok = subst (λ n. OnOk c.push_piece.result (c.push_piece.new.self.items ≡ c.args.text.now.items ++ told (codes " by ") n)) (sym c.in-0.is) c.push_piece.ensures.ok;
}

pub returns-in-1 : goal.returns-in-1
unfolding digits
returns-in-1 c = record {
  ok = subst (λ n. OnOk c.push_piece-in-1.result (c.push_piece-in-1.new.self.items ≡ c.args.text.now.items ++ told (codes " by ") n)) (sym c.in-1.is) c.push_piece-in-1.ensures.ok;
}

pub returns-in-2 : goal.returns-in-2
unfolding digits
returns-in-2 c = record {
  ok = subst (λ n. OnOk c.push_piece-in-2.result (c.push_piece-in-2.new.self.items ≡ c.args.text.now.items ++ told (codes " by ") n)) (sym c.in-2.is) c.push_piece-in-2.ensures.ok;
}

pub returns-in-3 : goal.returns-in-3
unfolding digits
returns-in-3 c = record {
  ok = subst (λ n. OnOk c.push_piece-in-3.result (c.push_piece-in-3.new.self.items ≡ c.args.text.now.items ++ told (codes " by ") n)) (sym c.in-3.is) c.push_piece-in-3.ensures.ok;
}
