use Rattle.diagrams.specs.Store.{table_of, view_table}
use Rattle.diagrams.proofs.Entries.{tree_canon}
use Rattle.diagrams.proofs.Memos.{stamp_fresh}
use Rattle.utility_select.specs.Select.{Selected}
use Rattle.utility_select.proofs.select.Goals as goal

pub run-requires : goal.run-requires
run-requires c =
    let s = table_of c.args.nodes.now in
    let x = view_table c.args.utility in
    let st = c.requires.store in
    let below = c.requires.a_bound in
    record {
      store = st.0;
      right = record { values = st.1; stamped = stamp_fresh s c.args.memo.now c.stamp-stamp.new.memo c.stamp-stamp.result (Selected x c.args.value s) c.requires.memo c.stamp-stamp.ensures };
      fit = record { a_below = below.0; d_below = below.1; a_from = tree_canon s st.0 c.args.a below.0; d_from = tree_canon x st.1 c.args.u below.1 };
    }
