use Rattle.found_files.proofs.finding.in_order.Goals as goal

pub returns-clause-same : goal.returns-clause-same
returns-clause-same c x =
    let sorted = c.in_ok-sort_entries.ensures.same x in
    let dealt = c.in_ok-entries.ensures x in
    (λ has. dealt.0 (sorted.0 has), λ has. sorted.1 (dealt.1 has))
