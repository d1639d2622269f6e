use Rattle.band_regions.proofs.Lemmas.{length, sym, ap, ◌∙◌, subst, arith, rules, IsInForm, is_before, IsPartitionPoint-from_clause, before_parted, none_found, one_found}
use Rattle.band_regions.proofs.regions.Region.holds.Goals as goal

pub returns-in-None : goal.returns-in-None
returns-in-None c = let kept = subst IsInForm (sym c.deref.ensures.value) c.self.invariant in
    let point = IsPartitionPoint-from_clause (λ r. is_before r c.args.p) _ _ c.partition_point-k.ensures.partitioned (before_parted _ _ kept) (λ a r q k. search rules) in
    let none = none_found _ _ _ point (omega (arith, c.in-None.ensures.lookup.3, ap length c.deref.ensures.value, ap length c.deref-2.ensures.value, c.partition_point-k.ensures.bound)) in
    sym (rw (c.deref.ensures.value, c.self.view_is) at none)

pub returns-in-Some : goal.returns-in-Some
returns-in-Some c = let kept = subst IsInForm (sym c.deref.ensures.value) c.self.invariant in
    let point = IsPartitionPoint-from_clause (λ r. is_before r c.args.p) _ _ c.partition_point-k.ensures.partitioned (before_parted _ _ kept) (λ a r q k. search rules) in
    let found = rw (c.deref-2.ensures.value, ← c.deref.ensures.value) at c.in-Some.ensures.lookup.3 in
    c.starts_by.ensures ∙ sym (rw (c.deref.ensures.value, c.self.view_is) at (one_found _ _ _ point c.in-Some.rect.now kept found.0 found.1))
