use Rattle.diagrams.specs.Store.{view_table}
use Rattle.diagrams.proofs.Entries.{tree_canon}
use Rattle.utility_greatest.proofs.Walking.{down_start}
use Rattle.utility_greatest.proofs.most.Goals as goal

pub loop-number-init : goal.loop-number-init
loop-number-init c =
    let o = c.requires.store in
    let b = c.requires.a_bound in
    record {
      down = rw c.new-stack.ensures.none (down_start _ c.args.a c.args.u (record { a_below = b.0; d_below = b.1; a_from = tree_canon (view_table c.args.set) o.0 c.args.a b.0; d_from = tree_canon (view_table c.args.utility) o.1 c.args.u b.1 }));
      ready = record { set_store = o.0; value_store = o.1; narrow = c.narrow.ensures; right = c.requires.fact; size = c.slots.ensures };
      size = c.new-stack.ensures.size;
    }
