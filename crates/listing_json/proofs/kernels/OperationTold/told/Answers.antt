use Rattle.std.proofs.Common.{◌≡◌, List, ℕ, ap, subst, IfOk}
use Rattle.serde_json.specs.Data.{string}
use Rattle.serde_json.specs.View.{members_view, view}
use Rattle.kernel.specs.declared.kernels.operation.Source.{Source}
use Rattle.listing_json.specs.Documents.{list_value, source_value}
use Rattle.listing_json.proofs.kernels.OperationTold.told.Goals as goal

pub returns : goal.returns
returns c =
    let word = subst (λ (w : List ℕ). IfOk c.to_value-opcode.result (λ v. view v ≡ string w)) c.word.ensures c.to_value-opcode.ensures in
    let listed = subst (λ (xs : List Source). IfOk c.told_all-sources.result (λ v. view v ≡ list_value source_value xs)) c.as_slice.ensures c.told_all-sources.ensures in
    let row = c.with_value-members.ensures _ _ (ap members_view c.new.ensures.empty) c.from.ensures in
    let stage = c.with_value-members-2.ensures _ _ row c.from-2.ensures in
    let opcode = c.with-members.ensures _ _ stage word in
    let latency = c.with_value-members-3.ensures _ _ opcode c.from-3.ensures in
    let alternative = c.with_value-members-4.ensures _ _ latency c.from-alternative.ensures in
    let destination = c.with_value-members-5.ensures _ _ alternative c.told_register-destination.ensures in
    let sources = c.with-members-2.ensures _ _ destination listed in
    c.object_of.ensures _ (c.with.ensures _ _ sources c.told_address-address.ensures)
