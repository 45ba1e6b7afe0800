use Rattle.std.proofs.Common.{rules, ap, sym, ◌∙◌, arith, []}
use Rattle.std.specs.Prelude.{◌∷◌, ◌≡◌, false}
use Rattle.std.proofs.lemmas.Bool.Decides.{nat_tests}
use Rattle.board.specs.Views.{is_dry}
use Rattle.board.proofs.Totals.{beyond-append}
use Rattle.board.proofs.Steps.{draws}
use Rattle.board.proofs.word.WordBoardBoard.draw.Goals as goal

pub fetch_add-number-requires : goal.fetch_add-number-requires
fetch_add-number-requires c =
    let pass = c.args.pass.now in
    let same = ap (λ t. t.pieces) c.args.self.now.sizes in
    let wet : is_dry c.args.self.now.table.shared.key.pieces pass.seat.me.0 ≡ false =
    ap (λ n. is_dry n pass.seat.me.0) (same ∙ sym c.requires.1) ∙ sym pass.dryness ∙ c.if-pass.false in
    (search rules, search rules, draws _ _ _ _ pass.one_part wet)

pub invariant_of-pass : goal.invariant_of-pass
invariant_of-pass c =
    let pass = c.args.pass.now in
    let told = c.fetch_add-number.ensures.2 in
    let wet : is_dry pass.pieces pass.seat.me.0 ≡ false = sym pass.dryness ∙ c.if-pass.false in
    record {
      no_slots = told.2 ∙ pass.no_slots;
      one_part = ap (λ v. v.count) told.0 ∙ pass.one_part;
      within =
          let more = beyond-append pass.pieces pass.seat.me.0.drawn (c.fetch_add-number.result ∷ []) in
          grind (arith, nat_tests);
      dryness =
          let more = beyond-append pass.pieces pass.seat.me.0.drawn (c.fetch_add-number.result ∷ []) in
          let same = c.requires.1 in
          grind (arith, nat_tests);
    }
