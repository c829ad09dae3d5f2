use Rattle.std.proofs.Common.{ltb, rules, refl}
use Rattle.std.proofs.lemmas.List.Sorted.{IsPartitionPoint-from_clause, IsPartitionedBy-ltb}
use Rattle.abort_eager.proofs.Searching.{first_some, first_none}
use Rattle.abort_eager.proofs.search.first_at.Goals as goal

pub returns-then-at-list : goal.returns-then-at-list
returns-then-at-list c =
    let parted = IsPartitionedBy-ltb (λ (p : Rattle.std.specs.Prelude.ℕ). p) _ c.args.from c.requires.rising in
    let point = IsPartitionPoint-from_clause (λ p. ltb p c.args.from) _ _ c.partition_point-at.ensures.partitioned parted (λ a r q k. search rules) in
    record { first = first_some _ _ _ point c.requires.rising c.if-at-list.true _ refl }

pub returns-else-at-list : goal.returns-else-at-list
returns-else-at-list c =
    let parted = IsPartitionedBy-ltb (λ (p : Rattle.std.specs.Prelude.ℕ). p) _ c.args.from c.requires.rising in
    let point = IsPartitionPoint-from_clause (λ p. ltb p c.args.from) _ _ c.partition_point-at.ensures.partitioned parted (λ a r q k. search rules) in
    record { first = first_none _ _ _ point c.if-at-list.false }
