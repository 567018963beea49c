-- The stages one after another: what is made before, the rest, and the whole diagram. Assumes nothing.
use Prim.Native.Nat.{ℕ, zero, suc, ◌+◌, ◌-◌, ◌*◌, ◌≤◌, ◌<◌}
use mathlib.Core.Path.{◌≡◌, refl, sym, ap, ◌∙◌}
use mathlib.Core.Bool.{Bool, true, false}
use mathlib.Core.List.{List, [], ◌∷◌}
use native.Mathlib.Omega.{arith}
use native.Mathlib.Nat.{zero-add}
use native.Mathlib.Numerals.{add-one}
use lib.ListN.{length}
use Rattle.planning.specs.Scan.{tab}
use Rattle.planning.specs.Coding.{bits, fits, facts_lits}
use Rattle.task.specs.Format.{terms}
use Rattle.task.specs.Decode.{sizes, term_in, task_of}
use Rattle.task.specs.Check.{accepted}
use Rattle.diagrams.specs.Tree.{Tree, none, all, same, mk_t, named, trees, value_end, diagram}
use Rattle.diagrams.specs.Store.{Table, table, blank, tree, Store, Done, Makes}
use Rattle.diagrams.specs.Memo.{Memo}
use Rattle.diagrams.specs.Sets.{MakesAll}
use Rattle.std.specs.Prelude.{Result, Ok, is_err}
use Rattle.diagrams.specs.declared.Full.{Full}
use Rattle.diagrams.specs.Store.{name_of}
use Rattle.diagrams.proofs.Trees.{mk_t_same}
use Rattle.diagrams.proofs.Empty.{store_empty}
use Rattle.diagrams.proofs.Sequence.{AllInside, all_length, all_one, all_idle, all_full, all_then}
use Rattle.utility.specs.Stages.{plus_term, stages_from, stages, entry_count, utility_tree}
use Rattle.utility.proofs.Meaning.{last_of, last_stage, at_most}
use Rattle.utility_build.specs.Built.{sum_to, stage, stages_after, Ready, AddsTerm, Builds}

-- the sums with one more term
sum_more : (f : List ℕ) (t : ℕ) → (term_in f t).weight < 65536 → ((σ : List Bool) → sum_to f t σ ≤ 65535 * t) → (σ : List Bool) → sum_to f (suc t) σ ≤ 65535 * suc t
unfolding sum_to plus_term
sum_more f t light h σ = omega (arith, h σ, at_most (fits (facts_lits (sizes f) (term_in f t).facts) σ) (term_in f t).weight)

module _ (f : List ℕ) (s : Table) (memo : List ℕ) (a t : ℕ) (rd : Ready f s memo a t) where
  abbrev after : List Tree
  after = stages_after f (terms f - t) t

  abbrev end : Tree
  end = stage f (terms f)

  -- all terms are added
  none_left : terms f ≤ t → MakesAll s s (Ok a) after end
  unfolding stages_after AllInside
  none_left le =
      let e : t ≡ terms f = omega (arith, rd.last) in
      let z : terms f - t ≡ 0 = omega arith in
      rw z (all_idle s rd.store a [] end tt rd.below (rd.means ∙ ap (stage f) e))

  module _ (lt : t < terms f) (s₁ : Table) (memo₁ : List ℕ) (r : Result ℕ Full) (m : AddsTerm f s s₁ memo₁ r t) where
    one_more : after ≡ stage f (suc t) ∷ stages_after f (terms f - (t + 1)) (t + 1)
    unfolding stages_after
    one_more = let e : terms f - t ≡ suc (terms f - (t + 1)) = omega arith in rw (e, add-one t)

    term_full : is_err r ≡ true → (s' : Table) → MakesAll s s' r after end
    term_full e s' = rw one_more (all_full s s₁ s' r (stage f (suc t) ∷ []) (stages_after f (terms f - (t + 1)) (t + 1)) (stage f (suc t)) end (all_one s s₁ r (stage f (suc t)) m.makes) e)

    module _ (e : is_err r ≡ false) where
      abbrev done : Done s s₁ (name_of r) (stage f (suc t))
      done = m.makes.done e

      next_ready : Ready f s₁ memo₁ (name_of r) (t + 1)
      next_ready =
          record {
            right = rd.right;
            store = done.store;
            slots = m.keeps e;
            below = done.within;
            means = done.means ∙ ap (stage f) (sym (add-one t));
            last = omega arith;
            sums = rw (add-one t) (sum_more f t m.light rd.sums);
          }

      terms_made : length s₁.bit ≡ length s.bit → (s₂ : Table) (q : Result ℕ Full) → MakesAll s₁ s₂ q (stages_after f (terms f - (t + 1)) (t + 1)) end → MakesAll s s₂ q after end
      terms_made len s₂ q n =
          rw one_more (all_then s s₁ s₂ rd.store (name_of r) q (stage f (suc t) ∷ []) (stages_after f (terms f - (t + 1)) (t + 1)) (stage f (suc t)) end ((all_one s s₁ r (stage f (suc t)) m.makes).done e) len n)

-- the first k terms are added; what is made of the rest is then made of all
pub record TermsAdded (f : List ℕ) (s₀ s : Table) (memo : List ℕ) (name k : ℕ) : Type 0 where
  pub ready : Ready f s memo name k
  pub rest : (s' : Table) (r : Result ℕ Full) → MakesAll s s' r (stages_after f (terms f - k) k) (stage f (terms f)) → MakesAll s₀ s' r (stages_after f (terms f) 0) (stage f (terms f))

pub added_none : (f : List ℕ) (s : Table) (memo : List ℕ) (a : ℕ) → Ready f s memo a 0 → TermsAdded f s s memo a 0
added_none f s memo a rd = let z : terms f - 0 ≡ terms f = omega arith in record { ready = rd; rest = λ s' r m. rw z at m }

module _ (f : List ℕ) (s₀ s : Table) (memo : List ℕ) (name k : ℕ) (p : TermsAdded f s₀ s memo name k) where
  pub added_end : terms f ≤ k → MakesAll s₀ s (Ok name) (stages_after f (terms f) 0) (stage f (terms f))
  added_end le = p.rest s (Ok name) (none_left f s memo name k p.ready le)

  module _ (lt : k < terms f) (s₁ : Table) (memo₁ : List ℕ) (r : Result ℕ Full) (m : AddsTerm f s s₁ memo₁ r k) where
    pub added_full : is_err r ≡ true → MakesAll s₀ s₁ r (stages_after f (terms f) 0) (stage f (terms f))
    added_full e = p.rest s₁ r (term_full f s memo name k p.ready lt s₁ memo₁ r m e s₁)

    pub added_next : is_err r ≡ false → length s₁.bit ≡ length s.bit → TermsAdded f s₀ s₁ memo₁ (name_of r) (k + 1)
    added_next e len = record { ready = next_ready f s memo name k p.ready lt s₁ memo₁ r m e; rest = λ s' q n. p.rest s' q (terms_made f s memo name k p.ready lt s₁ memo₁ r m e len s' q n) }

-- the diagram of a constant is its end
constant : (n k a : ℕ) → diagram value_end n k (λ σ. a) ≡ value_end a
unfolding diagram
constant zero k a = refl
constant (suc n) k a = rw (constant n (suc k) a) (mk_t_same k (value_end a) (value_end a) refl)

-- the stages by number are those of the definition
module _ (f : List ℕ) where
  stage_zero : stage f 0 ≡ mk_t 64 none all
  unfolding stage sum_to value_end mk_t same
  stage_zero = constant (bits (sizes f)) 0 0

  from_stage : (n t : ℕ) → stages_from (sizes f) (tab (term_in f) n t) (sum_to f t) ≡ stage f t ∷ stages_after f n t
  unfolding stages_from tab stages_after stage sum_to
  from_stage zero t = refl
  from_stage (suc n) t = ap (λ (us : List Tree). stage f t ∷ us) (from_stage n (suc t))

  all_stages : stages (task_of f) ≡ stage f 0 ∷ stages_after f (terms f) 0
  unfolding stages task_of sum_to
  all_stages = from_stage (terms f) 0

  last_after : (n t : ℕ) → last_of (stage f t) (stages_after f n t) ≡ stage f (t + n)
  unfolding last_of stages_after
  last_after zero t = ap (stage f) (omega arith)
  last_after (suc n) t = last_after n (suc t) ∙ ap (stage f) (omega arith)

  stage_last : stage f (terms f) ≡ utility_tree (task_of f)
  unfolding last_of
  stage_last = sym (last_after (terms f) 0 ∙ ap (stage f) (zero-add (terms f))) ∙ ap (last_of none) (sym all_stages) ∙ last_stage (task_of f)

-- the whole diagram, in lists that came with any entries
module _ (f : List ℕ) (right : accepted f ≡ true) (s : Table) (el : length s.low ≡ length s.bit) (eh : length s.high ≡ length s.bit) (short : length s.bit ≤ 1048576) where
  -- the lists without entries
  abbrev empty : Table
  empty = table s.bit s.low s.high s.heads s.chain 0

  pub empty_store : Store empty
  empty_store = store_empty s.bit s.low s.high s.heads s.chain el eh short

  built : (s' : Table) (r : Result ℕ Full) → MakesAll empty s' r (stage f 0 ∷ stages_after f (terms f) 0) (stage f (terms f)) → Builds s s' r (task_of f)
  unfolding entry_count trees
  built s' r m =
      record {
        full = rw (all_stages f) m.full;
        done = λ e.
            let d = m.done e in
            record {
              store = d.store;
              grown = rw (all_stages f) d.grown;
              counted = rw (all_stages f) (all_length empty s' empty_store (name_of r) _ _ d);
              rest = record { bit_rest = d.rest.bit_rest; low_rest = d.rest.low_rest; high_rest = d.rest.high_rest };
              within = d.within;
              means = d.means ∙ stage_last f;
            };
      }

  module _ (s₁ : Table) (r : Result ℕ Full) (m : Makes empty s₁ r (mk_t 64 (tree empty 0) (tree empty 1))) where
    zero_made : Makes empty s₁ r (stage f 0)
    unfolding named
    zero_made = rw (stage_zero f) m

    pub zero_full : is_err r ≡ true → (s' : Table) → Builds s s' r (task_of f)
    zero_full e s' = built s' r (all_full empty s₁ s' r (stage f 0 ∷ []) (stages_after f (terms f) 0) (stage f 0) (stage f (terms f)) (all_one empty s₁ r (stage f 0) zero_made) e)

    module _ (e : is_err r ≡ false) where
      pub zero_ready : (memo : List ℕ) → Memo blank memo → Ready f s₁ memo (name_of r) 0
      unfolding sum_to
      zero_ready memo m =
          let d = zero_made.done e in
          record { right = right; store = d.store; slots = m; below = d.within; means = d.means; last = omega arith; sums = λ σ. omega arith }

      pub whole : length s₁.bit ≡ length s.bit → (s' : Table) (q : Result ℕ Full) → MakesAll s₁ s' q (stages_after f (terms f) 0) (stage f (terms f)) → Builds s s' q (task_of f)
      whole len s' q a = built s' q (all_then empty s₁ s' empty_store (name_of r) q (stage f 0 ∷ []) (stages_after f (terms f) 0) (stage f 0) (stage f (terms f)) ((all_one empty s₁ r (stage f 0) zero_made).done e) len a)
