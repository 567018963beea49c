-- The written file, read: the numbers of its header, its records, and its check.
use Prim.Native.Nat.{ℕ, suc, ◌+◌, ◌*◌, ◌/◌, ◌%◌, ◌≤◌, ◌<◌}
use mathlib.Core.Path.{◌≡◌, refl, sym, ap, ◌∙◌}
use mathlib.Core.Bool.{Bool, true, false}
use mathlib.Core.List.{List, [], ◌++◌, flatten, flat_map, append_assoc}
use native.Mathlib.Omega.{arith}
use lib.Dec.{leb, eqb}
use lib.ListN.{length, get_or, take, drop, length-append}
use borrow.Author.Tests.{le-leb, le-ltb, eq-eqb}
use Rattle.planning.specs.Connectives.{◌and◌, ◌or◌, pick}
use Rattle.task.specs.Limits.{header_bytes, most_file_bytes, variable_bytes, operator_bytes, term_bytes}
use Rattle.task.specs.Bytes.{byte, le16, le32}
use Rattle.task.specs.Format.{variables, operators, terms, bound, variables_at, operators_at, terms_at, file_length, variable_record, operator_record, term_record}
use Rattle.task.specs.Check.{letter_right, letters_right, length_right, counts_right, section_inside, apart, all_inside, all_apart, header_fault, accepted}
use Rattle.task.proofs.Acceptance.{header_is, header_passes}
use Rattle.writer.specs.Canonical.{sections, begin, counts, offsets, header, written, section_count}
use Rattle.writer.specs.Same.{Same}
use Rattle.writer.proofs.Records.{record_read}
use Rattle.writer.proofs.Sections.{sections_count, flatten_at, variables_wide, operators_wide, terms_wide, begins, end_small}
use Rattle.writer.proofs.Same.{same_check}

-- ---- a number is the one that its bytes say
number16 : (n : ℕ) → n % 256 + 256 * (n / 256) ≡ n
number16 n = omega arith

number32 : (n : ℕ) → (n % 65536 % 256 + 256 * (n % 65536 / 256)) + 65536 * (n / 65536 % 256 + 256 * (n / 65536 / 256)) ≡ n
number32 n = omega arith

module _ (f : List ℕ) where
  pub counts_long : length (counts f) ≡ 12
  unfolding counts flat_map
  counts_long = refl

  pub header_long : length (header f) ≡ header_bytes
  unfolding header counts offsets flat_map
  header_long = refl

  pub written_long : length (written f) ≡ begin f section_count
  unfolding written begin sections
  written_long = length-append (header f) (flatten (sections f)) ∙ ap (λ (n : ℕ). n + length (flatten (sections f))) header_long

  -- ---- the numbers of the header
  pub variables_read : variables (written f) ≡ variables f
  unfolding written header counts offsets flat_map byte le16
  variables_read = number16 (variables f)

  pub operators_read : operators (written f) ≡ operators f
  unfolding written header counts offsets flat_map byte le16
  operators_read = number16 (operators f)

  pub terms_read : terms (written f) ≡ terms f
  unfolding written header counts offsets flat_map byte le16
  terms_read = number16 (terms f)

  pub bound_read : bound (written f) ≡ bound f
  unfolding written header counts offsets flat_map byte le16
  bound_read = number16 (bound f)

  variables_at_read : variables_at (written f) ≡ begin f 0
  unfolding written header counts offsets flat_map byte le16 le32
  variables_at_read = number32 (begin f 0)

  operators_at_read : operators_at (written f) ≡ begin f 1
  unfolding written header counts offsets flat_map byte le16 le32
  operators_at_read = number32 (begin f 1)

  terms_at_read : terms_at (written f) ≡ begin f 2
  unfolding written header counts offsets flat_map byte le16 le32
  terms_at_read = number32 (begin f 2)

  length_read : file_length (written f) ≡ begin f section_count
  unfolding written header counts offsets flat_map byte le16 le32
  length_read = number32 (begin f section_count)

  -- ---- section k: what stands before it in the file, it, and what stands behind it
  before : ℕ → List ℕ
  before k = header f ++ flatten (take k (sections f))

  before_long : (k : ℕ) → length (before k) ≡ begin f k
  unfolding before begin
  before_long k = length-append (header f) (flatten (take k (sections f))) ∙ ap (λ (n : ℕ). n + length (flatten (take k (sections f)))) header_long

  written_at : (k : ℕ) → k < section_count → written f ≡ before k ++ (get_or (sections f) k [] ++ flatten (drop (suc k) (sections f)))
  unfolding written before
  written_at k lt =
      ap (λ (l : List ℕ). header f ++ l) (flatten_at (sections f) k (rw (sections_count f) lt))
      ∙ sym (append_assoc (header f) (flatten (take k (sections f))) (get_or (sections f) k [] ++ flatten (drop (suc k) (sections f))))

module _ (f : List ℕ) (a : accepted f ≡ true) where
  -- ---- the records
  variable_read : (v : ℕ) → v < variables f → variable_record f v ≡ variable_record (written f) v
  unfolding variable_record sections
  variable_read v lt =
      sym (rw (variables_at_read f, written_at f 0 (omega arith)) (record_read (variable_record f) variable_bytes (before f 0) _ (begin f 0) (variables f) v (before_long f 0) (variables_wide f a) lt))

  operator_read : (o : ℕ) → o < operators f → operator_record f o ≡ operator_record (written f) o
  unfolding operator_record sections
  operator_read o lt =
      sym (rw (operators_at_read f, written_at f 1 (omega arith)) (record_read (operator_record f) operator_bytes (before f 1) _ (begin f 1) (operators f) o (before_long f 1) (operators_wide f a) lt))

  term_read : (t : ℕ) → t < terms f → term_record f t ≡ term_record (written f) t
  unfolding term_record sections
  term_read t lt =
      sym (rw (terms_at_read f, written_at f 2 (omega arith)) (record_read (term_record f) term_bytes (before f 2) _ (begin f 2) (terms f) t (before_long f 2) (terms_wide f a) lt))

  pub same_written : Same f (written f)
  same_written =
      record {
        variable_count = sym (variables_read f);
        operator_count = sym (operators_read f);
        term_count_lem = sym (terms_read f);
        bounds = sym (bound_read f);
        variable_records = variable_read;
        operator_records = operator_read;
        term_records = term_read;
      }

  -- ---- the check
  letters_right_lem : letters_right (written f) ≡ true
  unfolding letters_right letter_right written header counts byte ◌and◌
  letters_right_lem = refl

  length_right_lem : length_right (written f) ≡ true
  unfolding length_right
  length_right_lem = eq-eqb _ _ (length_read f ∙ sym (written_long f))

  counts_right_lem : counts_right (written f) ≡ true
  unfolding counts_right
  counts_right_lem = rw (variables_read f, operators_read f, terms_read f, bound_read f) (header_is f a).counts

  section_inside_lem : (at n : ℕ) → header_bytes ≤ at → at + n ≤ begin f section_count → section_inside (length (written f)) at n ≡ true
  unfolding section_inside ◌and◌
  section_inside_lem at n from to = rw (written_long f, le-leb header_bytes at from, le-leb (at + n) (begin f section_count) to)

  sections_inside : all_inside (written f) ≡ true
  unfolding all_inside ◌and◌
  sections_inside =
      let b = begins f a in
      rw (
        variables_read f,
        operators_read f,
        terms_read f,
        variables_at_read f,
        operators_at_read f,
        terms_at_read f,
        section_inside_lem (begin f 0) (variable_bytes * variables f) (omega (arith, b.first)) (omega (arith, b.second, b.third, b.end)),
        section_inside_lem (begin f 1) (operator_bytes * operators f) (omega (arith, b.first, b.second)) (omega (arith, b.third, b.end)),
        section_inside_lem (begin f 2) (term_bytes * terms f) (omega (arith, b.first, b.second, b.third)) (omega (arith, b.end)),
      )

  section_apart : (x m y n : ℕ) → x + m ≤ y → apart x m y n ≡ true
  unfolding apart ◌or◌
  section_apart x m y n h = rw (le-leb (x + m) y h) (go (eqb m 0) (eqb n 0))
    where
      go : (p q : Bool) → p or q or true or leb (y + n) x ≡ true
      go true q = refl
      go false true = refl
      go false false = refl

  sections_apart : all_apart (written f) ≡ true
  unfolding all_apart ◌and◌
  sections_apart =
      let b = begins f a in
      rw (
        variables_read f,
        operators_read f,
        terms_read f,
        variables_at_read f,
        operators_at_read f,
        terms_at_read f,
        section_apart (begin f 0) (variable_bytes * variables f) (begin f 1) (operator_bytes * operators f) (omega (arith, b.second)),
        section_apart (begin f 0) (variable_bytes * variables f) (begin f 2) (term_bytes * terms f) (omega (arith, b.second, b.third)),
        section_apart (begin f 1) (operator_bytes * operators f) (begin f 2) (term_bytes * terms f) (omega (arith, b.third)),
      )

  header_right : header_fault (written f) ≡ 0
  unfolding header_fault pick
  header_right =
      let b = begins f a in
      let small = end_small f a in
      rw (
        le-ltb (length (written f)) header_bytes (rw (written_long f) (omega (arith, b.first, b.second, b.third, b.end))),
        le-ltb most_file_bytes (length (written f)) (rw (written_long f) (omega arith)),
        letters_right_lem,
        length_right_lem,
        counts_right_lem,
        sections_inside,
        sections_apart,
      )

  pub written_accepted : accepted (written f) ≡ true
  unfolding accepted
  written_accepted = rw (← same_check f (written f) same_written (header_passes f a ∙ sym header_right)) a
