use Rattle.std.proofs.Common.{ap, sym, ◌∙◌, [], ◌∷◌, ◌++◌, subst, arith, append_assoc}
use Rattle.std.specs.Prelude.{map, All}
use Rattle.board.specs.inner.Together.{IsTogether}
use Rattle.board.specs.Boards.{view_of, IsPassOf}
use Rattle.board.proofs.Closing.{joins, together_one, together_more, all_before, one_after}
use Rattle.board.proofs.word.WordBoard.take_in.Goals as goal

pub loop-pass-init : goal.loop-pass-init
loop-pass-init c =
    let items = c.in_ok-seat.ensures.items in
    let of = subst (All (IsPassOf c.args.self.now)) items c.requires in (
      (one_after (IsPassOf c.args.self.now) c.pop.new.self.items c.in_ok-seat.field-0 of).0,
      all_before (IsPassOf c.args.self.now) c.pop.new.self.items (c.in_ok-seat.field-0 ∷ []) of,
      (c.in_ok-seat.field-0 ∷ [], items, together_one c.in_ok-seat.field-0.seat.me.0),
    )

pub join_seat-requires : goal.join_seat-requires
join_seat-requires c =
    let items = c.in-Some.ensures.items in
    let of = subst (All (IsPassOf c.args.self.now)) items c.loop-pass.invariant.1 in (
      c.loop-pass.invariant.0,
      (one_after (IsPassOf c.args.self.now) c.pop-in-loop-pass.new.self.items c.in-Some.pass of).0,
      c.in-Some.pass.no_slots,
      (let w = c.args.self.now.words in omega arith),
      joins c.args.self.now.table.shared.key c.loop-pass.seat.id c.loop-pass.seat.me.0 c.in-Some.pass.seat.id c.in-Some.pass.seat.me.0,
    )

pub loop-pass-preserved : goal.loop-pass-preserved
loop-pass-preserved c =
    let items = c.in-Some.ensures.items in
    let of = subst (All (IsPassOf c.args.self.now)) items c.loop-pass.invariant.1 in
    let done = c.loop-pass.invariant.2.0 in (
      c.join_seat.ensures.0 ∙ c.loop-pass.invariant.0,
      all_before (IsPassOf c.args.self.now) c.pop-in-loop-pass.new.self.items (c.in-Some.pass ∷ []) of,
      (
        c.in-Some.pass ∷ done,
        c.loop-pass.invariant.2.1 ∙ ap (λ xs. xs ++ done) items ∙ append_assoc c.pop-in-loop-pass.new.self.items (c.in-Some.pass ∷ []) done,
        subst (λ v. IsTogether v (map view_of (c.in-Some.pass ∷ done))) (sym (ap (λ m. m.0) c.join_seat.ensures.2))
            (together_more c.loop-pass.seat.me.0 c.in-Some.pass.seat.me.0 (map view_of done) c.loop-pass.invariant.2.2),
      ),
    )
