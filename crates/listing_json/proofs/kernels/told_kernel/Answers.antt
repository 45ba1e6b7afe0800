use Rattle.std.proofs.Common.{◌≡◌, List, ℕ, ap, subst, IfOk}
use Rattle.serde_json.specs.View.{members_view, view}
use Rattle.loop_data.specs.declared.language.lists.Param.{Param}
use Rattle.kernel.specs.declared.kernels.operation.Operation.{Operation}
use Rattle.kernel.specs.declared.kernels.parts.Preload.{Preload}
use Rattle.kernel.specs.declared.kernels.parts.Out.{Out}
use Rattle.listing_json.specs.Documents.{list_value, operation_value, out_value, param_value, preload_value, string_value}
use Rattle.listing_json.proofs.kernels.told_kernel.Goals as goal

pub returns : goal.returns
returns c =
    let ps = subst (λ (xs : List Param). IfOk c.told_all-params.result (λ v. view v ≡ list_value param_value xs)) c.as_slice.ensures c.told_all-params.ensures in
    let ns = subst (λ (xs : List (List ℕ)). IfOk c.told_all-arrays.result (λ v. view v ≡ list_value string_value xs)) c.as_slice-2.ensures c.told_all-arrays.ensures in
    let os = subst (λ (xs : List Operation). IfOk c.told_all-operations.result (λ v. view v ≡ list_value operation_value xs)) c.as_slice-3.ensures c.told_all-operations.ensures in
    let rs = subst (λ (xs : List Preload). IfOk c.told_all-preloads.result (λ v. view v ≡ list_value preload_value xs)) c.as_slice-4.ensures c.told_all-preloads.ensures in
    let es = subst (λ (xs : List Out). IfOk c.told_all-outs.result (λ v. view v ≡ list_value out_value xs)) c.as_slice-5.ensures c.told_all-outs.ensures in
    let ii = c.with_value-members.ensures _ _ (ap members_view c.new.ensures.empty) c.from.ensures in
    let stages = c.with_value-members-2.ensures _ _ ii c.from-2.ensures in
    let registers = c.with_value-members-3.ensures _ _ stages c.from-3.ensures in
    let params = c.with-members.ensures _ _ registers ps in
    let arrays = c.with-members-2.ensures _ _ params ns in
    let operations = c.with-members-3.ensures _ _ arrays os in
    let preloads = c.with-members-4.ensures _ _ operations rs in
    c.object_of.ensures _ (c.with.ensures _ _ preloads es)
