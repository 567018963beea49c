-- Of lists that hold the pairs of a task, the question's answer is the place of the state, its least cost and the fewest steps at that cost, if
-- the search makes that pair, else "not reached".
use Prim.Native.Nat.{ℕ, zero, suc, ◌+◌, ◌*◌, ◌≤◌, ◌<◌}
use mathlib.Core.Path.{◌≡◌, refl, sym, ap, ◌∙◌}
use mathlib.Core.Bool.{Bool, true, false, true≢false}
use mathlib.Core.List.{List}
use native.Mathlib.Omega.{arith}
use native.Mathlib.Decide.{dec_lt}
use lib.ListN.{get_or}
use Rattle.planning.specs.Connectives.{pick}
use Rattle.planning.specs.Model.{Task}
use Rattle.planning.specs.Coding.{code}
use Rattle.planning.specs.Best.{Place}
use Rattle.planning.specs.Ceiling.{Due}
use Rattle.planning.specs.Pairs.{stride, pair_cost, pair_steps}
use Rattle.planning.specs.Good.{Good}
use Rattle.planning.proofs.Connectives.{t_true}
use Rattle.planning.proofs.Guards.{pick_yes, pick_no}
use Rattle.planning.proofs.Pairs.{place_number, place_is, place_unique}
use Rattle.diagrams.specs.Tree.{Tree, trees, member}
use Rattle.search_theory.specs.Bits.{bit_task}
use Rattle.search_theory.specs.Levels.{level}
use Rattle.search_theory.specs.Stop.{pair_task}
use Rattle.search_theory.specs.Pairs.{pairs}
use Rattle.search_theory.proofs.PairDemands.{pairs_place, place_listed, listed_made}
use Rattle.search_theory.proofs.MadePairs.{place_made, made_due}
use Rattle.task.specs.Decode.{sizes, task_of}
use Rattle.task.specs.Check.{accepted}
use Rattle.task.proofs.Goodness.{good}
use Rattle.question.specs.Question.{state_right, in_set, place_from, ask_of, question_of}
use Rattle.question.specs.Meaning.{NamesPairs, Tells}
use Rattle.std.proofs.Common.{Option, Some, None, Ok, Err}
use Rattle.question.specs.declared.Place as told
use Rattle.question.specs.Answers.{Answered, reached}
use Rattle.question.proofs.States.{state_valid}

-- what a scan of the n pairs from i finds: one whose set holds the state, or none
data HeldPair (costs steps : List ℕ) (holds : ℕ → Bool) (n i : ℕ) : Option told.Place → Type 0 where
  first : (j : ℕ) → j < i + n → holds j ≡ true → HeldPair costs steps holds n i (reached (get_or costs j 0) (get_or steps j 0))
  nowhere : ((j : ℕ) → i ≤ j → j < i + n → holds j ≡ false) → HeldPair costs steps holds n i None

module _ (costs steps : List ℕ) (holds : ℕ → Bool) where
  held_pair : (n i : ℕ) → HeldPair costs steps holds n i (place_from costs steps holds n i)
  unfolding place_from pick
  held_pair zero i = nowhere (λ j from to. absurd (omega arith))
  held_pair (suc n) i = by (holds i) refl (held_pair n (suc i))
    where
      later : (r : Option told.Place) → holds i ≡ false → HeldPair costs steps holds n (suc i) r → HeldPair costs steps holds (suc n) i r
      later r e (first j below h) = first j (omega arith) h
      later r e (nowhere out) = nowhere (λ j from to. at j from to (dec_lt i j))
        where
          at : (j : ℕ) → i ≤ j → j < i + suc n → Dec (i < j) → holds j ≡ false
          at j from to (yes lt) = out j lt (omega arith)
          at j from to (no ge) = let same : i ≡ j = omega arith in rw (← same) e

      by : (b : Bool) → holds i ≡ b → HeldPair costs steps holds n (suc i) (place_from costs steps holds n (suc i)) → HeldPair costs steps holds (suc n) i (pick b (reached (get_or costs i 0) (get_or steps i 0)) (place_from costs steps holds n (suc i)))
      by true e rest = first i (omega arith) e
      by false e rest = later (place_from costs steps holds n (suc i)) e rest

module _ (t : Task) (𝓖 : Good t) (costs steps sets wanted bit low high : List ℕ) (count n : ℕ) (names : NamesPairs t costs steps sets wanted bit low high count n) (s : List ℕ) (right : state_right t.sizes s ≡ true) where
  abbrev held : ℕ → Bool
  held = in_set sets (trees bit low high count) (code t.sizes s)

  -- the number of pair i
  abbrev pair : ℕ → ℕ
  pair i = get_or (pairs t) i 0

  held_is : (i : ℕ) → i < n → held i ≡ member (level (bit_task (pair_task t)) (pair i)) (code t.sizes s)
  unfolding in_set
  held_is i lt = ap (λ (x : Tree). member x (code t.sizes s)) (names.names i lt)

  place_at : (i : ℕ) → i < n → held i ≡ true → Place t s (get_or costs i 0) (get_or steps i 0)
  place_at i lt h =
      rw (names.cost i lt, names.step i lt)
      ((pairs_place t 𝓖 (pair i) s (state_valid t.sizes s right)).0 ((t_true _).1 (sym (held_is i lt) ∙ h)))

  due : (i : ℕ) → i < n → Due t (get_or costs i 0) (get_or steps i 0)
  due i lt = rw (names.cost i lt, names.step i lt) (made_due t 𝓖 (pair i) (listed_made t 𝓖 i (omega (arith, names.number))))

  -- a place that is due is that of a pair whose set holds the state
  held_place : (c k : ℕ) → Place t s c k → Due t c k → (i : ℕ) × (i < n) × (held i ≡ true)
  held_place c k p d =
      let v = state_valid t.sizes s right in
      let l = place_listed t 𝓖 s c k v p (place_made t 𝓖 s c k p d) in
      let lt : l.0 < n = omega (arith, l.1, names.number) in
      let at : Place t s (pair_cost t (c * stride t + k)) (pair_steps t (c * stride t + k)) = (place_is t 𝓖 s (c * stride t + k)).0 (place_number t 𝓖 s c k p).1 in
      let held_at : held l.0 ≡ true = held_is l.0 lt ∙ rw l.2 ((t_true _).0 ((pairs_place t 𝓖 (c * stride t + k) s v).1 at)) in
      (l.0, lt, held_at)

  tells : (r : Option told.Place) → HeldPair costs steps held n 0 r → Tells t s (Ok r)
  tells r (first i below h) = (place_at i (omega arith) h, due i (omega arith))
  tells r (nowhere out) = λ c k p d. let x = held_place c k p d in true≢false (sym x.2 ∙ out x.0 (omega arith) (omega (arith, x.1)))

  asked : Ok (place_from costs steps held n 0) ≡ ask_of t.sizes s costs steps sets wanted bit low high count n
  unfolding ask_of
  asked = pick_no _ _ _ _ names.equal (pick_no _ _ _ _ names.right (pick_yes _ _ _ _ right (pick_yes _ _ _ _ names.passes refl)))

  ask_tells : Tells t s (ask_of t.sizes s costs steps sets wanted bit low high count n)
  ask_tells = rw (← asked) (tells (place_from costs steps held n 0) (held_pair costs steps held n 0))

-- the question's answer on an accepted file, of a state of its task
module _ (f : List ℕ) (a : accepted f ≡ true) (costs steps sets wanted bit low high : List ℕ) (count n : ℕ) (names : NamesPairs (task_of f) costs steps sets wanted bit low high count n) (s : List ℕ) (right : state_right (sizes f) s ≡ true) where
  pub question_tells : Tells (task_of f) s (question_of f s costs steps sets wanted bit low high count n)
  unfolding question_of task_of
  question_tells =
      let e : ask_of (sizes f) s costs steps sets wanted bit low high count n ≡ question_of f s costs steps sets wanted bit low high count n = pick_yes _ _ _ _ a refl in
      rw (← e) (ask_tells (task_of f) (good f a) costs steps sets wanted bit low high count n names s right)

  -- so a place that is due is the answer
  pub question_reached : (c k : ℕ) → Place (task_of f) s c k → Due (task_of f) c k → question_of f s costs steps sets wanted bit low high count n ≡ Ok (reached c k)
  unfolding task_of
  question_reached c k p d = by (question_of f s costs steps sets wanted bit low high count n) question_tells
    where
      by : (r : Answered) → Tells (task_of f) s r → r ≡ Ok (reached c k)
      by (Err refusal) h = absurd h
      by (Ok (Some x)) q = let u = place_unique (task_of f) s x.cost x.steps c k q.0 p in rw (← u.0, ← u.1)
      by (Ok None) none = absurd (none c k p d)

  -- and without one the state is not reached
  pub question_not_reached : ((c k : ℕ) → Place (task_of f) s c k → Due (task_of f) c k → ⊥) → question_of f s costs steps sets wanted bit low high count n ≡ Ok None
  unfolding task_of
  question_not_reached none = by (question_of f s costs steps sets wanted bit low high count n) question_tells
    where
      by : (r : Answered) → Tells (task_of f) s r → r ≡ Ok None
      by (Err refusal) h = absurd h
      by (Ok (Some x)) q = absurd (none x.cost x.steps q.0 q.1)
      by (Ok None) h = refl
