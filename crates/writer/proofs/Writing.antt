-- What the functions that write leave in the output list.
use Prim.Native.Nat.{ℕ, suc, ◌+◌, ◌≤◌, ◌<◌}
use mathlib.Core.Path.{◌≡◌, refl, sym, ap, ◌∙◌}
use mathlib.Core.List.{List, [], ◌++◌, flatten}
use native.Mathlib.Omega.{arith}
use native.Mathlib.Nat.{le_trans, le_antisymm}
use native.Mathlib.Numerals.{add-one}
use lib.ListN.{length, get_or, drop}
use lib.Seq.{drop-cons}
use mathlib.Core.Bool.{true, false}
use borrow.Author.Tests.{le-leb, lt-leb}
use Rattle.planning.proofs.Guards.{pick_yes, pick_no}
use Rattle.task.specs.Limits.{header_bytes}
use Rattle.task.specs.Bytes.{Reads}
use Rattle.std.specs.Prelude.{Result, Ok, Err}
use Rattle.refusal.specs.declared.Refusal.{Refusal}
use Rattle.refusal.specs.declared.Refusal.TheVariants.{OutputShort}
use Rattle.task.specs.Check.{accepted}
use Rattle.task_check.specs.Answers.{refusal_of}
use Rattle.writer.specs.Canonical.{sections, begin, counts, offsets, header, written, section_count, most_written_bytes}
use Rattle.writer.specs.Write.{overlay, write_of, leaves}
use Rattle.writer.proofs.Overlays.{overlay_nothing, overlay_behind, overlay_next, overlay_front, length_overlay}
use Rattle.writer.proofs.Sections.{sections_count, begin_first, begin_next, begin_below, end_small}
use Rattle.writer.proofs.Readback.{counts_long, header_long, written_long}

-- ---- where the section after i begins
pub next_begin : (f : List ℕ) → accepted f ≡ true → (at i : ℕ) (s : List ℕ) → i < section_count → at ≡ begin f i → s ≡ get_or (sections f) i [] → (at + length s ≡ begin f (i + 1)) × (at + length s ≤ most_written_bytes)
next_begin f a at i s lt e d =
    let next : at + length s ≡ begin f (i + 1) = rw (e, d, add-one) (sym (begin_next f i lt)) in
    let below = begin_below f (i + 1) (omega arith) in
    let small = end_small f a in
    (next, omega arith)

pub begin_read : (f : List ℕ) → accepted f ≡ true → (at k : ℕ) → k ≤ section_count → at ≡ begin f k → Reads at (begin f k) 4294967296
begin_read f a at k h e =
    let below = begin_below f k h in
    let small = end_small f a in
    record { is = e; small = omega arith }

-- ---- a number behind what is written already
pub put_behind : (out o o' xs : List ℕ) (bytes : ℕ → List ℕ) (from at r n : ℕ) → o ≡ overlay out from xs → o' ≡ overlay o at (bytes r) → r ≡ n → from + length xs ≡ at → at ≤ length out → o' ≡ overlay out from (xs ++ bytes n)
put_behind out o o' xs bytes from at r n e d q start room =
    d ∙ rw (e, q) (overlay_next out from at xs (bytes n) start room)

-- ---- the sections in a loop: those from k on, put over what is there, make the whole
module _ (f out₀ : List ℕ) where
  pub record Put (out : List ℕ) (k : ℕ) : Type 0 where
    pub few : k ≤ section_count
    pub long : length out ≡ length out₀
    pub is : overlay out₀ header_bytes (flatten (sections f)) ≡ overlay out (begin f k) (flatten (drop k (sections f)))

  pub put_none : Put out₀ 0
  put_none = record { few = omega arith; long = refl; is = rw (← begin_first f) }

  -- there is room for section k
  pub put_room : (out : List ℕ) (k : ℕ) → begin f section_count ≤ length out₀ → k < section_count → Put out k → begin f k + length (get_or (sections f) k []) ≤ length out
  put_room out k room lt p =
      let next = begin_next f k lt in
      let below = begin_below f (suc k) lt in
      rw p.long (omega arith)

  pub put_more : (out : List ℕ) (k : ℕ) → begin f section_count ≤ length out₀ → k < section_count → Put out k → Put (overlay out (begin f k) (get_or (sections f) k [])) (k + 1)
  unfolding flatten
  put_more out k room lt p =
      let s = get_or (sections f) k [] in
      let fits = put_room out k room lt p in
      record {
        few = omega arith;
        long = length_overlay out (begin f k) s fits ∙ p.long;
        is =
            p.is
            ∙ ap (λ (l : List (List ℕ)). overlay out (begin f k) (flatten l)) (drop-cons (sections f) k [] (rw (sections_count f) lt))
            ∙ sym (overlay_behind out (begin f k) s (flatten (drop (suc k) (sections f))) fits)
            ∙ rw (add-one, begin_next f k lt);
      }

  pub put_done : (out : List ℕ) (k : ℕ) → section_count ≤ k → Put out k → out ≡ overlay out₀ header_bytes (flatten (sections f))
  unfolding sections flatten
  put_done out k ge p =
      let e : section_count ≡ k = le_antisymm ge p.few in
      overlay_nothing out (begin f section_count) ∙ sym (rw (← e) at p.is)

-- where there is room for the file, there is room for its header
pub header_room : (f : List ℕ) (room : ℕ) → begin f section_count ≤ room → header_bytes ≤ room
header_room f room h = le_trans (rw (← begin_first f) at (begin_below f 0 (omega arith))) h

-- ---- the writer's answer, and the list afterwards, case by case
module _ (f out : List ℕ) where
  abbrev pub Writes : Result ℕ Refusal → List ℕ → Type 0
  Writes r out' = (r ≡ write_of f (length out)) × (out' ≡ leaves r f out)

  pub write_refused : (refusal : Refusal) → refusal ≡ refusal_of f → accepted f ≡ false → Writes (Err refusal) out
  unfolding write_of leaves
  write_refused refusal e refused = (pick_no _ _ _ _ refused (rw e), refl)

  pub write_short : accepted f ≡ true → length out < begin f section_count → Writes (Err OutputShort) out
  unfolding write_of leaves
  write_short a short =
      (pick_yes _ _ _ _ a (pick_no _ _ _ _ (rw (written_long f) (lt-leb (begin f section_count) (length out) short)) refl), refl)

  -- header and sections, one behind the other, are the file
  written_put : begin f section_count ≤ length out → overlay (overlay (overlay out 0 (counts f)) 12 (offsets f)) header_bytes (flatten (sections f)) ≡ written f ++ drop (length (written f)) out
  unfolding written header
  written_put room =
      let wide = header_room f (length out) room in
      rw (overlay_next out 0 12 (counts f) (offsets f) (rw (counts_long f)) (omega arith))
      (overlay_next out 0 header_bytes (header f) (flatten (sections f)) (rw (header_long f)) wide ∙ overlay_front out (written f))

  pub write_whole : (n : ℕ) (out' : List ℕ) → accepted f ≡ true → n ≡ begin f section_count → n ≤ length out → out' ≡ overlay (overlay (overlay out 0 (counts f)) 12 (offsets f)) header_bytes (flatten (sections f)) → Writes (Ok n) out'
  unfolding write_of leaves
  write_whole n out' a e room is =
      let end : n ≡ length (written f) = e ∙ sym (written_long f) in
      (pick_yes _ _ _ _ a (pick_yes _ _ _ _ (rw (← end) (le-leb n (length out) room)) (rw end)), is ∙ written_put (rw (← e) room))
