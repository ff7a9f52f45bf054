use Rattle.bp_design.proofs.replaying.replayed.Goals as goal

pub returns-clause-replay : goal.returns-clause-replay
returns-clause-replay c = λ u l is_u is_l less.
    let h = c.in_ok-counted.ensures.counted.searched u l is_u is_l less in (h.0, h.1, h.2)
