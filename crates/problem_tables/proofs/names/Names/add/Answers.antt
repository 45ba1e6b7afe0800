use Rattle.std.proofs.Common.{rules, ◌≡◌, ℕ, ◌+◌, ◌<◌, false, List, [], ◌∷◌, ◌++◌, length, get_or, set, subst, sym, ap, ◌∙◌, Some}
use Rattle.std.specs.Map.{update}
use Rattle.std.specs.Str.{bytes_eq}
use Rattle.std.proofs.lemmas.Map.Text.{btree_map_updates_str}
use Rattle.problem_tables.specs.Names.{has_name}
use Rattle.problem_tables.specs.inner.Numbered.{AreNumbered, bucket_of, number_in}
use Rattle.problem_tables.proofs.Buckets.{numbered-first, numbered-other, numbered-same, new-absent, pop-push}
use Rattle.problem_tables.proofs.names.Names.add.Goals as goal

pub invariant_of-self-then-number-lt-MAX_FIRSTS : goal.invariant_of-self-then-number-lt-MAX_FIRSTS
invariant_of-self-then-number-lt-MAX_FIRSTS c =
    let names : List (List ℕ) = c.self.inside.labels.items in
    let x : List ℕ = c.args.name.bytes.now in
    let firsts : List ℕ = c.self.inside.firsts in
    let labels : c.push_with_room.new.items.items ≡ names ++ x ∷ [] = c.in_ok-push_with_room.ensures.ok ∙ ap (λ l. names ++ l ∷ []) c.label.ensures in
    let spot : c.bucket_of-bucket.result ≡ bucket_of x = c.bucket_of-bucket.ensures.value in
    let size : c.len-number.result ≡ length names = search rules in
    let absent : has_name names x ≡ false = ap (λ ns. has_name ns x) c.self.view_is ∙ c.requires in
    let more : AreNumbered (names ++ x ∷ []) (set firsts (bucket_of x) (length names + 1)) (number_in c.self.inside.others)
    = numbered-first names firsts (number_in c.self.inside.others) x c.self.invariant (new-absent names x absent) (search rules)
    (subst (λ n. n < 512) spot c.bucket_of-bucket.ensures.bound) (subst (λ n. get_or firsts n 0 ≡ 0) spot c.if-self-bucket-eq0.true) in
    subst (λ l. AreNumbered l (set firsts c.bucket_of-bucket.result (c.len-number.result + 1)) (number_in c.self.inside.others)) (sym labels)
    (subst (λ n. AreNumbered (names ++ x ∷ []) (set firsts n (c.len-number.result + 1)) (number_in c.self.inside.others)) (sym spot)
    (subst (λ m. AreNumbered (names ++ x ∷ []) (set firsts (bucket_of x) (m + 1)) (number_in c.self.inside.others)) (sym size) more))

pub invariant_of-self-in-Ok : goal.invariant_of-self-in-Ok
invariant_of-self-in-Ok c =
    let names : List (List ℕ) = c.self.inside.labels.items in
    let x : List ℕ = c.args.name.bytes.now in
    let old = c.self.inside.others in
    let labels : c.push_with_room.new.items.items ≡ names ++ x ∷ [] = c.in_ok-push_with_room.ensures.ok ∙ ap (λ l. names ++ l ∷ []) c.label.ensures in
    let size : c.len-number.result ≡ length names = search rules in
    let absent : has_name names x ≡ false = ap (λ ns. has_name ns x) c.self.view_is ∙ c.requires in
    subst (λ l. AreNumbered l c.self.inside.firsts (number_in c.insert.new.self)) (sym labels)
    (numbered-other names c.self.inside.firsts (number_in old) (number_in c.insert.new.self) x c.self.invariant (new-absent names x absent)
    (λ r. btree_map_updates_str x old c.insert.new.self _ c.in-Ok.ensures.updates r ∙ ap (λ n. update bytes_eq (number_in old) x (Some n) r) size))

pub invariant_of-self-in-Err : goal.invariant_of-self-in-Err
invariant_of-self-in-Err c =
    let labels : c.pop.new.self.items ≡ c.self.inside.labels.items
    = c.pop.ensures.rest ∙ pop-push c.self.inside.labels.items c.label.result c.push_with_room.new.items.items _ c.in_ok-push_with_room.ensures.ok (search rules) in
    subst (λ l. AreNumbered l c.self.inside.firsts (number_in c.insert.new.self)) (sym labels)
    (numbered-same c.self.inside.labels.items c.self.inside.firsts (number_in c.self.inside.others) (number_in c.insert.new.self) (λ q. search rules) c.self.invariant)
