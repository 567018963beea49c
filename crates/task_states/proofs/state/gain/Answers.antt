use borrow.Author.Rules.{rules}
use mathlib.Core.Path.{◌≡◌, refl, sym, ap, ◌∙◌}
use mathlib.Core.List.{List}
use Prim.Native.Nat.{ℕ}
use Rattle.planning.specs.Model.{holds}
use Rattle.planning.proofs.Guards.{pick_yes, pick_no}
use Rattle.task.specs.Format.{weight, term_facts, term_count}
use Rattle.task.specs.Decode.{facts}
use Rattle.task_states.specs.States.{gain}
use Rattle.task_states.proofs.state.gain.Goals as goal

in-file : (s : List ℕ) (record₀ record₁ row : List ℕ) (n : ℕ) → row ≡ term_facts record₀ → n ≡ term_count record₀ → record₀ ≡ record₁ → holds s (facts row n) ≡ holds s (facts (term_facts record₁) (term_count record₁))
in-file s record₀ record₁ row n e d g = rw (e, d, g)

pub returns-then-holds : goal.returns-then-holds
unfolding gain
returns-then-holds c =
    let r = c.term_record-record.ensures in
    let h = c.holds.ensures ∙ in-file _ _ _ _ _ c.term_facts.ensures c.term_count.ensures.is r in
    record { is = pick_yes _ _ _ _ (sym h ∙ c.if-holds.true) (c.weight.ensures.is ∙ ap weight r); small = c.weight.ensures.small }

pub returns-else-holds : goal.returns-else-holds
unfolding gain
returns-else-holds c =
    let r = c.term_record-record.ensures in
    let h = c.holds.ensures ∙ in-file _ _ _ _ _ c.term_facts.ensures c.term_count.ensures.is r in
    record { is = pick_no _ _ _ _ (sym h ∙ c.if-holds.false) refl; small = search rules }
