use Rattle.std.proofs.Common.{ℕ, ◌-◌, ◌/◌, ◌%◌, Option, length, get_or, arith, sym}
use Rattle.bp_fold.specs.Meshes.{IsOwner}
use Rattle.bp_fold.proofs.Crossings.{few_cells, is_cell, owned_more}
use Rattle.bp_fold.proofs.mesh.owners_of.Goals as goal

pub overflow_mul-count : goal.overflow_mul-count
overflow_mul-count c =
    omega (arith, few_cells c.args.regions.now c.args.xs.now c.args.ys.now _ _ c.requires.regions c.requires.columns c.requires.rows c.saturating_sub-columns.ensures c.saturating_sub.ensures)

pub owner-requires : goal.owner-requires
owner-requires c = record {
  cell = is_cell c.args.regions.now c.args.xs.now c.args.ys.now c.loop-k.k c.saturating_sub-columns.result c.requires.columns c.requires.rows c.saturating_sub-columns.ensures (rw (sym c.saturating_sub.ensures) c.loop-k-test.true);
}

pub loop-k-preserved : goal.loop-k-preserved
loop-k-preserved c =
    let R = c.args.regions.now in
    let xs = c.args.xs.now in
    let ys = c.args.ys.now in
    let new : IsOwner R (get_or xs (c.loop-k.k % (length xs - 1)) 0) (get_or ys (c.loop-k.k / (length xs - 1)) 0) c.owner.result = rw (sym c.saturating_sub-columns.ensures) (record { owner = c.owner.ensures.owner; only = c.owner.ensures.only }) in
    owned_more (λ (k : ℕ) (o : Option ℕ). IsOwner R (get_or xs (k % (length xs - 1)) 0) (get_or ys (k / (length xs - 1)) 0) o) c.loop-k.owners.items c.push.new.self.items c.loop-k.k c.owner.result c.loop-k.invariant.0 c.in_ok-push.ensures.items c.loop-k.invariant.1 new
