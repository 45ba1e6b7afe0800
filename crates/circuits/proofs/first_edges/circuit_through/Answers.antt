use Rattle.std.proofs.Common.{◌*◌, ◌≤◌, pos, length, subst, sym}
use Rattle.std.specs.Prelude.{◌<ℤ◌, IfSome}
use Rattle.walks.specs.Walks.{delay_of, distance_of}
use Rattle.circuits.specs.inner.Sweeps.{GoesRoundOnce}
use Rattle.circuits.proofs.first_edges.circuit_through.Goals as goal

pub exceeds-requires-clause-few : goal.exceeds-requires-clause-few
exceeds-requires-clause-few c =
    let r : GoesRoundOnce c.args.edges.now.edges c.in-Some.walk.items
    = subst (λ v. IfSome v (λ walk. GoesRoundOnce c.args.edges.now.edges walk.items)) c.in-Some.is c.in_ok-walk.ensures in
    subst (λ l. length l ≤ 128) (sym c.as_slice.ensures.value) r.few

pub returns-then-exceeds : goal.returns-then-exceeds
returns-then-exceeds c =
    let r : GoesRoundOnce c.args.edges.now.edges c.in-Some.walk.items
    = subst (λ v. IfSome v (λ walk. GoesRoundOnce c.args.edges.now.edges walk.items)) c.in-Some.is c.in_ok-walk.ensures in
    record {
      start = r.start;
      closed = r.closed;
      exceeds = subst (λ l. pos (c.args.interval * distance_of l) <ℤ delay_of l) c.as_slice.ensures.value c.if-exceeds.ensures;
      once = r.once;
    }
