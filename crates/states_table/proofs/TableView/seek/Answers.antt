use native.Mathlib.Omega.{arith}
use Prim.Native.Nat.{ℕ, ◌-◌}
use mathlib.Core.Path.{◌≡◌, subst}
use lib.ListN.{get_or}
use Rattle.states_table.proofs.Laws.{reach_next}
use Rattle.states_table.proofs.TableView.seek.Goals as goal

pub loop-link-preserved : goal.loop-link-preserved
loop-link-preserved c =
    let next = c.requires.chained.earlier (c.loop-link.link - 1) (omega arith) (omega arith) (omega arith) in
    (omega (arith, next), omega (arith, next), λ k kc kn en. reach_next (c.loop-link.invariant.2 k kc kn en) (λ e. c.if-self-k.false (subst (λ (j : ℕ). get_or c.args.self.words.now j 0 ≡ c.args.s) e en)))
